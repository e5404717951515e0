-- THE INDEX STAYS WHERE IT STANDS: what is written outside of its stretches does not change it, and so no cast. Assumes nothing.
use Rattle.std.proofs.Common.{◌≡◌, ℕ, suc, ◌+◌, ◌-◌, ◌<◌, ◌≤◌, List, [], ◌∷◌, map, get_or, sym, refl, ap, ◌∙◌, inl, arith}
use lib.Ieee.{Float}
use Rattle.lists.specs.Members.{All, AllBelow}
use Rattle.lists.specs.Parts.{part, Only}
use Rattle.lists.proofs.Joined.{listed_ext}
use Rattle.lists.proofs.Parts.{part_part}
use Rattle.lists.proofs.Only.{only_part, part_get_d}
use Rattle.room.specs.declared.Rooms.{Rooms}
use Rattle.room.specs.declared.LocalEdge.{LocalEdge}
use Rattle.room.specs.Layout.{events_f, edges_w, nearest_w, starts_w, refs_w, samples_w}
use Rattle.room.specs.Records.{edge_at}
use Rattle.room.proofs.Kept.{edge_kept}
use Rattle.index.specs.declared.AngularIndex.{AngularIndex}
use Rattle.index.specs.Angular.{Index}
use Rattle.index.specs.Stands.{refs_from, refs_at, index_in, Within}

map_same : {A B : Type 0} (f g : A → B) (l : List A) → All (λ x. f x ≡ g x) l → map f l ≡ map g l
map_same f g [] h = refl
map_same f g (x ∷ l) h = ap (λ (q : _). q ∷ map f l) h.0 ∙ ap (λ (q : List _). g x ∷ q) (map_same f g l h.1)

all_below : {P : ℕ → Type 0} (m : ℕ) (l : List ℕ) → ((i : ℕ) → i < m → P i) → AllBelow m l → All P l
all_below m [] f h = tt
all_below m (i ∷ l) f h = (f i h.0, all_below m l f h.1)

-- from f and w to f' and w'
module _ (k : Rooms) (f f' : List Float) (w w' : List ℕ) (x : AngularIndex) (sound : Within k w x)
    (edges : part 0 (events_f k) f' ≡ part 0 (events_f k) f) (numbers : part (edges_w k) (nearest_w k) w' ≡ part (edges_w k) (nearest_w k) w)
    (lists : part (starts_w k) (samples_w k) w' ≡ part (starts_w k) (samples_w k) w) where
  start_kept : (b : ℕ) → b ≤ x.buckets → get_or w' (starts_w k + b) 0 ≡ get_or w (starts_w k + b) 0
  start_kept b h = part_get_d (starts_w k) (samples_w k) w w' (starts_w k + b) 0 lists (omega arith) (omega (arith, sound.starts_in))

  part_kept : (a e : ℕ) → e ≤ k.refs → part (refs_w k + a) (refs_w k + e) w' ≡ part (refs_w k + a) (refs_w k + e) w
  part_kept a e h =
      let p : starts_w k + (k.starts + a) ≡ refs_w k + a = omega arith in
      let q : starts_w k + (k.starts + e) ≡ refs_w k + e = omega arith in
      let lie : k.starts + e ≤ samples_w k - starts_w k = omega arith in
      let cut : (l : List ℕ) → part (refs_w k + a) (refs_w k + e) l ≡ part (k.starts + a) (k.starts + e) (part (starts_w k) (samples_w k) l)
      = λ l. sym (part_part (starts_w k) (samples_w k) (k.starts + a) (k.starts + e) l lie ∙ ap (λ (i : ℕ). part i (starts_w k + (k.starts + e)) l) p ∙ ap (λ (i : ℕ). part (refs_w k + a) i l) q) in
      cut w' ∙ ap (part (k.starts + a) (k.starts + e)) lists ∙ sym (cut w)

  refs_kept : (b : ℕ) → b < x.buckets → refs_at k w' b ≡ refs_at k w b
  refs_kept b h =
      ap (λ (q : ℕ). part (refs_w k + q) (refs_from k w' (suc b)) w') (start_kept b (omega arith))
      ∙ ap (λ (q : ℕ). part (refs_from k w b) (refs_w k + q) w') (start_kept (suc b) h)
      ∙ part_kept (get_or w (starts_w k + b) 0) (get_or w (starts_w k + suc b) 0) (sound.refs_in (suc b) h)

  pub within_kept : Within k w' x
  within_kept = record {
    some = sound.some;
    starts_in = sound.starts_in;
    refs_in = λ b h. rw (start_kept b h) (sound.refs_in b h);
    named = λ b h. rw (refs_kept b h) (sound.named b h);
  }

  bucket_kept : (b : ℕ) → b < x.buckets → map (edge_at k f' w') (refs_at k w' b) ≡ map (edge_at k f w) (refs_at k w b)
  bucket_kept b h =
      ap (map (edge_at k f' w')) (refs_kept b h)
      ∙ map_same (edge_at k f' w') (edge_at k f w) (refs_at k w b) (all_below k.edges (refs_at k w b) (λ i l. edge_kept k f f' w w' i l edges numbers) (sound.named b h))

  made : List (List LocalEdge) → Index
  made l = record { head = x; buckets = l }

  pub index_kept : index_in k f' w' x ≡ index_in k f w x
  unfolding index_in made
  index_kept = ap made (listed_ext (λ b. map (edge_at k f' w') (refs_at k w' b)) (λ b. map (edge_at k f w) (refs_at k w b)) x.buckets bucket_kept)

-- the same for writes behind the index: of samples, of their order, of the corners seen
module _ (k : Rooms) (f f' : List Float) (w w' : List ℕ) (x : AngularIndex) (sound : Within k w x) {a b c d : ℕ} (floats : Only a b f f') (words : Only c d w w') (ha : events_f k ≤ a) (hc : samples_w k ≤ c) where
  pub within_behind : Within k w' x
  within_behind =
      within_kept k f f' w w' x sound (only_part 0 (events_f k) floats (inl ha)) (only_part (edges_w k) (nearest_w k) words (inl (omega arith))) (only_part (starts_w k) (samples_w k) words (inl hc))

  pub index_behind : index_in k f' w' x ≡ index_in k f w x
  index_behind =
      index_kept k f f' w w' x sound (only_part 0 (events_f k) floats (inl ha)) (only_part (edges_w k) (nearest_w k) words (inl (omega arith))) (only_part (starts_w k) (samples_w k) words (inl hc))
