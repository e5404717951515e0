-- The index of the front edges by angle: `AngularIndex::build` (`visibility.rs`, lines 532 to 567). Each bucket has the edges that cover it, nearest
-- first. Document 01, "Outlines from a post" ("Buckets"; "the first met in order of nearness stays"). Definitions only.
use Rattle.std.specs.Prelude.{ℕ, Bool, List, [], ◌∷◌, length, Float}
use Rattle.lists.specs.Lists.{cons_if, listed, sum_to}
use Rattle.num.specs.Order.{before}
use Rattle.sorts.specs.Sort.{sort}
use Rattle.room.specs.declared.LocalEdge.{LocalEdge}
use Rattle.index.specs.declared.AngularIndex.{AngularIndex}
use Rattle.index.specs.declared.Spans.{Spans}
use Rattle.index.specs.Spans.{head_of, spans_of, spans_by, covers}

-- those of the list that cover the bucket b, in the list's order: one that covers it with both of its stretches is there twice, as in the Rust
abbrev pub in_bucket : {A : Type 0} → (A → Spans) → List A → ℕ → List A
in_bucket spans [] b = []
in_bucket spans (e ∷ es) b = cons_if (covers (spans e).first b) e (cons_if (covers (spans e).second b) e (in_bucket spans es b))

-- the edges nearest first (Rust's `total_cmp` on `near`); of two that are level, the one found first is first
abbrev pub nearer : LocalEdge → LocalEdge → Bool
nearer e f = before e.near f.near

unfoldable pub nearest_first : List LocalEdge → List LocalEdge
nearest_first es = sort nearer es

-- an index: its head, and the edges of each bucket
pub record Index : Type 0 where
  pub head : AngularIndex
  pub buckets : List (List LocalEdge)

-- the edges of the bucket b
unfoldable pub bucket_edges : AngularIndex → Float → List LocalEdge → ℕ → List LocalEdge
unfolding nearest_first spans_by
bucket_edges x total es b = in_bucket (spans_of x total) (nearest_first es) b

-- the index of the edges over the angle `total`, for casts in a mode
unfoldable pub index_of : ℕ → Float → List LocalEdge → Index
unfolding head_of bucket_edges
index_of mode total es = record {
  head = head_of mode (length es) total;
  buckets = listed (bucket_edges (head_of mode (length es) total) total es) (head_of mode (length es) total).buckets;
}

-- how many references it has: as many as its buckets have edges, all told. The mode does not count
unfoldable pub refs_of : Float → List LocalEdge → ℕ
unfolding head_of bucket_edges
refs_of total es = sum_to (λ b. length (bucket_edges (head_of 0 (length es) total) total es b)) (head_of 0 (length es) total).buckets
