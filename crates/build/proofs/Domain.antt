-- Every number stored is in the domain, and every box is the same as itself: no corner of it is NaN. Assumes nothing.
use mathlib.Core.Path.{◌≡◌, refl}
use mathlib.Core.Bool.{Bool, true, false, cond}
use mathlib.Core.List.{List, [], ◌∷◌, map}
use Prim.Native.Nat.{ℕ, ◌+◌, ◌*◌, ◌≤◌, ◌<◌}
use lib.ListN.{length, get_or, length-map}
use lib.Dec.{ltb}
use lib.Ieee.{Float, nan, eq}
use lib.Ieee.Bits.{is_true}
use borrow.Author.Tests.{ltb-false}
use Rattle.lists.specs.Members.{All}
use Rattle.lists.proofs.Members.{at_all, all_part, all_append}
use Rattle.geom.specs.declared.Aabb.{Aabb}
use Rattle.geom.specs.Box.{corners, empty_box, from_points_of}
use Rattle.bounds.specs.Within.{Within}
use Rattle.bounds.specs.Domain.{in_domain}
use Rattle.num.proofs.FloatOrder.{eq_same}
use Rattle.bounds.proofs.Within.{not_nan}
use Rattle.extent.specs.Boxes.{polygon_box_of}
use Rattle.extent.specs.Sound.{BoxIn}
use Rattle.extent.proofs.SoundHead.{polygon_in}
use Rattle.site.specs.Domain.{load_of}
use Rattle.site.specs.Soundness.{same_box}
use Rattle.build.specs.Stored.{given_at, turned, is_reversed, ordered_at, stored_at}
use Rattle.build.proofs.Orders.{loaded_at}
use Rattle.build.proofs.Loading.{load_domain}

-- every number is in the domain
abbrev pub InDomain : List Float → Type 0
InDomain l = All (λ x. in_domain x ≡ true) l

all_turned : (l : List Float) → InDomain l → InDomain (turned l)
all_turned [] h = tt
all_turned (x ∷ []) h = h
all_turned (x ∷ y ∷ l) h = all_append (λ x. in_domain x ≡ true) (turned l) (x ∷ y ∷ []) (all_turned l h.1.1) (h.0, (h.1.0, tt))

-- the numbers of a polygon as stored
pub stored_in : (given : List Float) (first len : ℕ) → ((i : ℕ) → i < length given → in_domain (get_or given i nan) ≡ true) → InDomain (stored_at given first len)
unfolding stored_at ordered_at given_at
stored_in given first len h = go (is_reversed given first len) part
  where
    part : InDomain (given_at given first len)
    part =
        unfold given_at in
        all_part (λ x. in_domain x ≡ true) (2 * first) (2 * (first + len)) (map load_of given)
        (at_all (λ x. in_domain x ≡ true) (map load_of given) nan (λ i l. rw (loaded_at given i) (load_domain (get_or given i nan) (h i (rw (length-map given load_of) at l)))))

    go : (r : Bool) → InDomain (given_at given first len) → InDomain (cond r (turned (given_at given first len)) (given_at given first len))
    go true a = all_turned (given_at given first len) a
    go false a = a

-- a box in the domain, and a polygon's box
same : (x : Float) → Within 1000000 x → eq x x ≡ true
same x h = is_true (eq x x) (eq_same x (not_nan 1000000 x h))

in_same : (b : Aabb) → BoxIn 1000000 b → same_box b b ≡ true
unfolding same_box
in_same b h = rw (same b.min.x h.left_in, same b.min.y h.low_in, same b.max.x h.right_in, same b.max.y h.high_in)

none_same : same_box empty_box empty_box ≡ true
unfolding same_box eq
none_same = refl

pub box_same : (pts : List Float) → InDomain pts → same_box (polygon_box_of pts) (polygon_box_of pts) ≡ true
unfolding polygon_box_of
box_same pts h = go (ltb (corners pts) 3) (ltb-false (corners pts) 3)
  where
    go : (q : Bool) → (q ≡ false → 3 ≤ corners pts) → same_box (cond q empty_box (from_points_of pts)) (cond q empty_box (from_points_of pts)) ≡ true
    go true f = none_same
    go false f = in_same (from_points_of pts) (polygon_in pts h (f refl))
