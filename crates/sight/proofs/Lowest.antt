-- THE LOWEST OF THE EDGES TESTED. `cast-folds`: the hit is what the mode's rule makes of the edges tested (specs/Tested.antt), one after the other. `nearest_ray`: in every
-- mode the edge answered is one of them, met at exactly the distance answered, and none of them is met nearer. `lowest_ray`: in a mode that is not 0 none that is met at
-- exactly that distance has a lower number. Document 02, Q-3: "The single ray takes the lowest edge too, among the edges it tests". Assumes nothing.
use Rattle.std.proofs.Common.{None, Option, Some}
use mathlib.Core.Path.{◌≡◌, refl, sym, ap, ◌∙◌, subst}
use mathlib.Core.Logic.{inl}
use mathlib.Core.Bool.{Bool, true, false, cond, true≢false}
use mathlib.Core.List.{List, [], ◌∷◌, ◌++◌, foldl, foldl-append, append-nil, append_assoc}
use Prim.Native.Nat.{ℕ, zero, suc, ◌≤◌}
use native.Mathlib.Nat.{le_refl, le_trans, le_of_lt}
use native.Mathlib.Omega.{arith}
use lib.Dec.{eqb, ltb}
use lib.Ieee.{Float, lt, eq}
use borrow.Author.Tests.{ltb-true, ltb-false, eqb-true}
use Rattle.lists.specs.Members.{In, All, holds}
use Rattle.lists.proofs.Members.{in_left, in_right, all_map, all_append}
use Rattle.geom.specs.declared.Vec2.{Vec2}
use Rattle.geom.specs.Box.{corners, corner_of}
use Rattle.geom.specs.Segment.{ray_segment_of}
use Rattle.geom.specs.Ring.{corner_before}
use Rattle.grid.specs.declared.Grid.{Grid}
use Rattle.grid.specs.Boxes.{box_at}
use Rattle.grid.specs.Entries.{cell_of}
use Rattle.site.specs.Meets.{met_at, met_before}
use Rattle.site.specs.Tables.{first_of, verts_of}
use Rattle.site.proofs.Distances.{off, eq_le, le_lt, lt_lt, lt_self, lt_eq_self}
use Rattle.walk.specs.Steps.{cell_number, exit_of}
use Rattle.sight.specs.Slabs.{ray_hits_aabb_of}
use Rattle.sight.specs.declared.Ray.{Ray}
use Rattle.sight.specs.declared.Best.{Best}
use Rattle.sight.specs.declared.Look.{Look}
use Rattle.sight.specs.Casting.{Rule, ray_of, edge_number, lower_of, nearer_of, edges_up_to, edges_met, pushed, item_seen, items_seen, looker, look_first, sighting_of, cast_ray_of}
use Rattle.sight.specs.Tested.{Tested, Log, edges_tested, item_tested, item_logged, logger, cast_tested}
use Rattle.sight.proofs.Together.{ray_together}
use Rattle.site.specs.Hits.{hit_at}
use Rattle.site.specs.declared.RayHit.{RayHit}

-- ---- the cast is a fold over the edges tested
-- the edge x counts by the rule
abbrev pub counts : Rule → Best → Tested → Best
counts rule b x = rule b x.met x.edge

module _ (rule : Rule) (ray : Ray) where
  edges_fold : (ring : List Float) (first : ℕ) (b : Best) (k : ℕ) → edges_up_to rule ray ring first b k ≡ foldl (counts rule) b (edges_tested ray ring first k)
  unfolding edges_up_to edges_tested
  edges_fold ring first b zero = refl
  edges_fold ring first b (suc i) =
      let prev = corner_before (corners ring) i in
      let m = ray_segment_of ray.o ray.d (corner_of ring prev) (corner_of ring i) in
      ap (λ (c : Best). rule c m (edge_number first prev)) (edges_fold ring first b i)
      ∙ sym (foldl-append (counts rule) b (edges_tested ray ring first i) (record { edge = edge_number first prev; met = m } ∷ []))

  module _ (points boxes : List Float) (polygons : List ℕ) where
    item_fold : (s : Look) (id : ℕ) → (item_seen rule ray points boxes polygons s id).best ≡ foldl (counts rule) s.best (item_tested ray points boxes polygons s id)
    unfolding item_seen item_tested edges_met
    item_fold s id = by (holds id s.recent.ids) (ray_hits_aabb_of ray.o ray.inv (box_at boxes id) s.best.t)
      where
        met : Best
        met = edges_up_to rule ray (verts_of points polygons id) (first_of polygons id) s.best (corners (verts_of points polygons id))

        list : List Tested
        list = edges_tested ray (verts_of points polygons id) (first_of polygons id) (corners (verts_of points polygons id))

        by : (x y : Bool) → (cond x s (record { best = cond y met s.best; recent = pushed s.recent id })).best ≡ foldl (counts rule) s.best (cond x [] (cond y list []))
        by true y = refl
        by false true = edges_fold (verts_of points polygons id) (first_of polygons id) s.best (corners (verts_of points polygons id))
        by false false = refl

    -- the log keeps what the cast knows, and its nearest hit is the fold
    module _ (b₀ : Best) where
      record Logged (s : Look) (l : Log) : Type 0 where
        pub look : s ≡ l.look
        pub fold : l.look.best ≡ foldl (counts rule) b₀ l.tested

      item_logged_lem : (s : Look) (l : Log) (id : ℕ) → Logged s l → Logged (item_seen rule ray points boxes polygons s id) (item_logged rule ray points boxes polygons l id)
      item_logged_lem s l id h =
          record {
            look = ap (λ (z : Look). item_seen rule ray points boxes polygons z id) h.look;
            fold =
                item_fold l.look id ∙ ap (λ (b : Best). foldl (counts rule) b (item_tested ray points boxes polygons l.look id)) h.fold
                ∙ sym (foldl-append (counts rule) b₀ l.tested (item_tested ray points boxes polygons l.look id));
          }

      items_logged
          : (ids : List ℕ) (s : Look) (l : Log) → Logged s l → Logged (items_seen rule ray points boxes polygons s ids) (foldl (item_logged rule ray points boxes polygons) l ids)
      unfolding items_seen
      items_logged [] s l h = h
      items_logged (x ∷ ids) s l h = items_logged ids (item_seen rule ray points boxes polygons s x) (item_logged rule ray points boxes polygons l x) (item_logged_lem s l x h)

module _ (g : Grid) (points boxes : List Float) (polygons starts items : List ℕ) (o d : Vec2) (len : Float) (mode : ℕ) where
  pub cast_folds
      : (cast_ray_of g points boxes polygons starts items o d len mode).hit
      ≡ (foldl (counts (nearer_of mode)) (record { t = len; hit = None }) (cast_tested g points boxes polygons starts items o d len mode)).hit
  unfolding cast_ray_of sighting_of cast_tested
  cast_folds =
      let b₀ = (look_first len).best in
      let w =
      ray_together (looker (nearer_of mode) (ray_of o d) points boxes polygons starts items) (logger (nearer_of mode) (ray_of o d) points boxes polygons starts items)
      (Logged (nearer_of mode) (ray_of o d) points boxes polygons b₀)
      (λ k p s l h. items_logged (nearer_of mode) (ray_of o d) points boxes polygons b₀ (cell_of starts items (cell_number k p)) s l h)
      (λ k p s l h. ap (λ (z : Look). lt (exit_of k p) z.best.t) h.look) g o d len (look_first len) (record { look = look_first len; tested = [] })
      (record { look = refl; fold = refl })
      in
      ap (λ (z : Look). z.best.hit) w.final.look ∙ ap (λ (b : Best). b.hit) w.final.fold

-- ---- what the fold has found, of the edges done
abbrev One : Float → ℕ → List Tested → Type 0
One t e l = (x : Tested) × In x l × (x.edge ≡ e) × (met_at t x.met ≡ true)

abbrev NotBefore : Float → Tested → Type 0
NotBefore t x = met_before t x.met ≡ false

abbrev NotLower : Float → ℕ → Tested → Type 0
NotLower t e x = met_at t x.met ≡ true → e ≤ x.edge

-- a hit is at the best's distance and is one of them, and in a mode that is not 0 the lowest there
abbrev Right : ℕ → List Tested → Float → (Option RayHit) → Type 0
Right mode l t (Some h) = (h.t ≡ t) × One t h.edge l × ((mode ≡ 0 → ⊥) → All (NotLower t h.edge) l)
Right mode l t None = Unit {0}

record So (mode : ℕ) (l : List Tested) (b : Best) : Type 0 where
  pub near : All (NotBefore b.t) l
  pub right : Right mode l b.t b.hit

-- ---- one edge more
one_more : (t : Float) (e : ℕ) (l : List Tested) (x : Tested) → One t e l → One t e (l ++ (x ∷ []))
one_more t e l x (y, i, h, k) = (y, in_left y l (x ∷ []) i, h, k)

one_last : (t : Float) (l : List Tested) (x : Tested) → met_at t x.met ≡ true → One t x.edge (l ++ (x ∷ []))
one_last t l x h = (x, in_right x l (x ∷ []) (inl refl), refl, h)

-- nothing is met before a smaller distance, and what is met there is not among those done
nearer_before : (t u : Float) → lt u t ≡ true → (m : (Option Float)) → met_before t m ≡ false → met_before u m ≡ false
nearer_before t u h (Some v) k = off (lt v u) (λ q. true≢false (sym (lt_lt v u t q h) ∙ k))
nearer_before t u h None k = refl

nearer_alone : (t u : Float) → lt u t ≡ true → (m : (Option Float)) → met_before t m ≡ false → met_at u m ≡ true → ⊥
nearer_alone t u h (Some v) k q = true≢false (sym (le_lt v u t (eq_le v u q) h) ∙ k)
nearer_alone t u h None k q = true≢false (sym q)

module _ (mode : ℕ) (l : List Tested) (t : Float) where
  -- the best stays: what is met is not before it, and in a mode that is not 0 not lower than it
  stays : (c : (Option RayHit)) (x : Tested) → So mode l (record { t = t; hit = c }) → NotBefore t x → ((u : Float) (e : ℕ) → c ≡ hit_at u e → (mode ≡ 0 → ⊥) → NotLower t e x)
      → So mode (l ++ (x ∷ [])) (record { t = t; hit = c })
  stays (Some q) x h n k =
      record {
        near = all_append (NotBefore t) l (x ∷ []) h.near (n, tt);
        right = (h.right.0, one_more t q.edge l x h.right.1, λ z. all_append (NotLower t q.edge) l (x ∷ []) (h.right.2 z) (k q.t q.edge refl z, tt));
      }
  stays None x h n k = record { near = all_append (NotBefore t) l (x ∷ []) h.near (n, tt); right = tt }

  -- a nearer edge
  nearer_so : (c : (Option RayHit)) (u : Float) (e : ℕ) → So mode l (record { t = t; hit = c }) → lt u t ≡ true
      → So mode (l ++ (record { edge = e; met = Some u } ∷ [])) (record { t = u; hit = hit_at u e })
  nearer_so c u e h q =
      let x : Tested = record { edge = e; met = Some u } in
      record {
        near = all_append (NotBefore u) l (x ∷ []) (all_map (NotBefore t) (NotBefore u) (λ y k. nearer_before t u q y.met k) l h.near) (lt_self u, tt);
        right = (
          refl,
          one_last u l x (lt_eq_self u t q),
          λ z. all_append (NotLower u e) l (x ∷ []) (all_map (NotBefore t) (NotLower u e) (λ y k a. absurd (nearer_alone t u q y.met k a)) l h.near) (λ a. le_refl e, tt),
        );
      }

  -- one as near
  lower_so : (c : (Option RayHit)) (u : Float) (e : ℕ) → So mode l (record { t = t; hit = c }) → lt u t ≡ false → eq u t ≡ true
      → So mode (l ++ (record { edge = e; met = Some u } ∷ [])) (lower_of c e (record { t = t; hit = c }))
  lower_so None u e h n q = stays None (record { edge = e; met = Some u }) h n (λ w f i. absurd (no_hit w f i))
    where
      no_hit : (w : Float) (f : ℕ) → None ≡ hit_at w f → ⊥
      no_hit w f i = let z : ◌≡◌ {A = ℕ} 0 1 = cc in omega arith
  lower_so (Some hit) u e h n q = by (ltb e hit.edge) refl
    where
      x : Tested
      x = record { edge = e; met = Some u }

      same_number : (v : Float) (i : ℕ) → hit_at hit.t hit.edge ≡ hit_at v i → hit.edge ≡ i
      same_number v i p = cc

      by : (y : Bool) → ltb e hit.edge ≡ y → So mode (l ++ (x ∷ [])) (cond y (record { t = t; hit = hit_at hit.t e }) (record { t = t; hit = hit_at hit.t hit.edge }))
      by true p =
          record {
            near = all_append (NotBefore t) l (x ∷ []) h.near (n, tt);
            right = (
              h.right.0,
              one_last t l x q,
              λ z. all_append (NotLower t e) l (x ∷ [])
                  (all_map (NotLower t hit.edge) (NotLower t e) (λ y k a. le_trans (le_of_lt (ltb-true e hit.edge p)) (k a)) l (h.right.2 z)) (λ a. le_refl e, tt),
            );
          }
      by false p = stays (hit_at hit.t hit.edge) x h n (λ v i r z a. subst (λ (j : ℕ). j ≤ e) (same_number v i r) (ltb-false e hit.edge p))

  step : (c : (Option RayHit)) (m : (Option Float)) (e : ℕ) → So mode l (record { t = t; hit = c })
      → So mode (l ++ (record { edge = e; met = m } ∷ [])) (nearer_of mode (record { t = t; hit = c }) m e)
  unfolding nearer_of
  step c None e h = stays c (record { edge = e; met = None }) h refl (λ u f i z a. absurd (true≢false (sym a)))
  step c (Some u) e h = by (lt u t) refl (eq u t) refl (eqb mode 0) refl
    where
      x : Tested
      x = record { edge = e; met = Some u }

      b : Best
      b = record { t = t; hit = c }

      by : (p : Bool) → lt u t ≡ p → (q : Bool) → eq u t ≡ q → (z : Bool) → eqb mode 0 ≡ z
          → So mode (l ++ (x ∷ [])) (cond p (record { t = u; hit = hit_at u e }) (cond q (cond z b (lower_of c e b)) b))
      by true hp q hq z hz = nearer_so c u e h hp
      by false hp true hq true hz = stays c x h hp (λ w f i n a. absurd (n (eqb-true mode 0 hz)))
      by false hp true hq false hz = lower_so c u e h hp hq
      by false hp false hq z hz = stays c x h hp (λ w f i n a. absurd (true≢false (sym a ∙ hq)))

-- ---- all of them
fold_so : (mode : ℕ) (r l : List Tested) (b : Best) → So mode l b → So mode (l ++ r) (foldl (counts (nearer_of mode)) b r)
fold_so mode [] l b h = subst (λ (z : List Tested). So mode z b) (sym (append-nil l)) h
fold_so mode (x ∷ r) l b h =
    subst (λ (z : List Tested). So mode z (foldl (counts (nearer_of mode)) (counts (nearer_of mode) b x) r)) (append_assoc l (x ∷ []) r)
    (fold_so mode r (l ++ (x ∷ [])) (counts (nearer_of mode) b x) (step mode l b.t b.hit x.met x.edge h))

-- ---- THE THEOREMS
pub record Nearest (t : Float) (edge : ℕ) (tested : List Tested) : Type 0 where
  -- the edge is one of those tested, met at exactly t
  pub one : (x : Tested) × In x tested × (x.edge ≡ edge) × (met_at t x.met ≡ true)
  -- and none is met nearer
  pub nearest : All (λ x. met_before t x.met ≡ false) tested

module _ (g : Grid) (points boxes : List Float) (polygons starts items : List ℕ) (o d : Vec2) (len : Float) (mode : ℕ) (t : Float) (edge : ℕ)
    (hit : (cast_ray_of g points boxes polygons starts items o d len mode).hit ≡ hit_at t edge) where
  abbrev tested : List Tested
  tested = cast_tested g points boxes polygons starts items o d len mode

  abbrev final : Best
  final = foldl (counts (nearer_of mode)) (record { t = len; hit = None }) tested

  ends : So mode tested final
  ends = fold_so mode tested [] (record { t = len; hit = None }) (record { near = tt; right = tt })

  right_at : Right mode tested final.t (hit_at t edge)
  right_at = subst (Right mode tested final.t) (sym (cast_folds g points boxes polygons starts items o d len mode) ∙ hit) ends.right

  pub nearest_ray : Nearest t edge tested
  nearest_ray =
      record {
        one = subst (λ (u : Float). One u edge tested) (sym right_at.0) right_at.1;
        nearest = subst (λ (u : Float). All (NotBefore u) tested) (sym right_at.0) ends.near;
      }

  -- of those met at exactly t none has a lower number
  pub lowest_ray : (mode ≡ 0 → ⊥) → All (λ x. met_at t x.met ≡ true → edge ≤ x.edge) tested
  lowest_ray z = subst (λ (u : Float). All (NotLower u edge) tested) (sym right_at.0) (right_at.2 z)
