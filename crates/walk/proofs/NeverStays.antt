-- A ray whose length is a number never steps and stays in its cell: where a step would go along an axis that stays, the ray ends in that cell. So the one place
-- where this walk ends and the Rust's would go on (document 01, "Site and grid") is not reached.
-- Assumes nothing.
use Rattle.std.proofs.Common.{Some}
use mathlib.Core.Path.{◌≡◌, refl, sym, ◌∙◌}
use mathlib.Core.Bool.{Bool, true, false, ◌&&◌, ◌||◌, cond, true≢false}
use Prim.Native.Nat.{ℕ, ◌*◌}
use native.Mathlib.Nat.{le_refl}
use lib.Ieee.{Float, nan, inf, fin, up, down, lt, le, eq, is_nan}
use lib.Dec.{ltb, eqb}
use borrow.Author.Tests.{le-ltb, eq-eqb}
use Rattle.lists.specs.Members.{All}
use Rattle.lists.proofs.Members.{all_map}
use Rattle.num.specs.Num.{min_of}
use Rattle.geom.specs.declared.Vec2.{Vec2}
use Rattle.grid.specs.declared.Grid.{Grid}
use Rattle.walk.specs.Clipping.{ray_start}
use Rattle.walk.specs.Steps.{exit_of}
use Rattle.walk.specs.Tours.{Visitor, tour}
use Rattle.walk.specs.declared.Turn.{Turn}
use Rattle.walk.specs.declared.Turn.TheVariants.{Stay}
use Rattle.walk.specs.declared.Course.{Course}
use Rattle.walk.specs.declared.Place.{Place}
use Rattle.walk.proofs.StepLaws.{Calm, moves}
use Rattle.walk.proofs.StartLaws.{start_in}
use Rattle.walk.proofs.TourLaws.{tour_all}

-- which way the next step goes
abbrev pub turn_at : Course → Place → Turn
turn_at k p = cond (lt p.next_x p.next_y) k.x.turn k.y.turn

-- ---- nothing is above infinity
none_above : (y : Float) → lt (inf false) y ≡ false
unfolding lt
none_above nan = refl
none_above (inf t) = refl
none_above (fin t n d) = refl

same : (a : ℕ) → (ltb a a || (eqb a a && true)) ≡ true
same a = rw (le-ltb a a (le_refl a), eq-eqb a a refl)

self : (x : Float) → is_nan x ≡ false → le x x ≡ true
unfolding le lt eq is_nan
self nan h = absurd (true≢false h)
self (inf true) h = refl
self (inf false) h = refl
self (fin true m e) h = same (m * up e * down e)
self (fin false m e) h = same (m * up e * down e)

end_far : (t : Float) → is_nan t ≡ false → min_of (inf false) t ≡ t
unfolding min_of lt is_nan
end_far nan h = absurd (true≢false h)
end_far (inf true) h = refl
end_far (inf false) h = refl
end_far (fin s m e) h = refl

both_far : (x : Float) → lt x (inf false) ≡ false → min_of x (inf false) ≡ inf false
unfolding min_of lt is_nan
both_far nan h = refl
both_far (inf true) h = absurd (true≢false h)
both_far (inf false) h = refl
both_far (fin s m e) h = absurd (true≢false h)

ends_by : (k : Course) (p : Place) (b : Bool) → Calm k p → lt p.next_x p.next_y ≡ b → cond b k.x.turn k.y.turn ≡ Stay → le k.t1 (exit_of k p) ≡ true
unfolding exit_of
ends_by k p true c e s = absurd (true≢false (sym e ∙ rw (c.x_far s) (none_above p.next_y)))
ends_by k p false c e s =
    let f : lt p.next_x (inf false) ≡ false = rw (c.y_far s) at e in
    rw (c.y_far s, both_far p.next_x f, end_far k.t1 c.ends) (self k.t1 c.ends)

-- at every place of every visitor's walk
pub never_stays
    : {S : Type 0} (v : Visitor S) (g : Grid) (o d : Vec2) (len : Float) (s : S) (k : Course) (p : Place) → is_nan len ≡ false → ray_start g o d len ≡ Some (k, p)
    → All (λ q. turn_at k q ≡ Stay → le k.t1 (exit_of k q) ≡ true) (tour v k p s).places
never_stays v g o d len s k p h e =
    all_map (Calm k) (λ q. turn_at k q ≡ Stay → le k.t1 (exit_of k q) ≡ true) (λ q c. ends_by k q _ c refl) (tour v k p s).places
    (tour_all v k (Calm k) (λ a b c t. (moves k a b t).calms c) p s ((start_in g o d len k p e).calm h))
