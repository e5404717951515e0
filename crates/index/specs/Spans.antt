-- The buckets of an angle and of an edge: `AngularIndex::build`'s first lines and `span_buckets` (`visibility.rs`, lines 535 to 537 and 595 to 610).
-- Document 01: "Buckets: twice the front edges, from 16 to 65,536, with span ends padded by 1e-9". `to_unsigned 64` is Rust's `as usize`.
-- Definitions only.
use Rattle.std.specs.Prelude.{ℕ, ◌+◌, ◌-◌, ◌*◌, min, max, Bool, cond, Float}
use Rattle.std.specs.Float.Ieee.{le, to_unsigned}
use Rattle.lists.specs.Lists.{bit}
use Rattle.num.specs.Ops.{◌⊕◌, ◌⊖◌, ◌⊗◌, ◌⊘◌, zero_f}
use Rattle.num.specs.Num.{min_of, max_of}
use Rattle.geom.specs.Constants.{tau, nano}
use Rattle.grid.specs.Range.{count_f}
use Rattle.tables.specs.Scatter.{within}
use Rattle.room.specs.declared.LocalEdge.{LocalEdge}
use Rattle.index.specs.declared.AngularIndex.{AngularIndex}
use Rattle.index.specs.declared.Stretch.{Stretch}
use Rattle.index.specs.declared.Spans.{Spans}

-- how many buckets there are for n edges
unfoldable pub buckets_for : ℕ → ℕ
buckets_for n = min (max (2 * n) 16) 65536

-- the head of an index of n edges over the angle `total`: how many buckets, how many to a radian, and the mode of its casts
unfoldable pub head_of : ℕ → ℕ → Float → AngularIndex
unfolding buckets_for
head_of mode n total = record { inv_width = count_f (buckets_for n) ⊘ total; buckets = buckets_for n; mode = mode }

-- the bucket of the angle a: past the last one, the last
unfoldable pub bucket_of : AngularIndex → Float → ℕ
bucket_of x a = min (to_unsigned 64 (a ⊗ x.inv_width)) (x.buckets - 1)

-- buckets from one up to another, that one out
abbrev pub stretch : ℕ → ℕ → Stretch
stretch from to = record { from = from; to = to }

abbrev pub both : Stretch → Stretch → Spans
both first second = record { first = first; second = second }

-- the buckets from the angle lo to the angle hi, both padded and then held to what is covered; none where nothing is left
unfoldable pub clip_of : AngularIndex → Float → Float → Float → Stretch
unfolding bucket_of
clip_of x total lo hi =
    let l = max_of (lo ⊖ nano) zero_f in
    let h = min_of (hi ⊕ nano) total in
    cond (le l h) (stretch (bucket_of x l) (bucket_of x h + 1)) (stretch 0 0)

-- the buckets of an edge that covers `len` from `start` on: two stretches where it goes past TAU
unfoldable pub spans_by : AngularIndex → Float → Float → Float → Spans
unfolding clip_of
spans_by x total start len =
    let end = start ⊕ len in
    cond (le end tau) (both (clip_of x total start end) (stretch 0 0)) (both (clip_of x total start tau) (clip_of x total zero_f (end ⊖ tau)))

abbrev pub spans_of : AngularIndex → Float → LocalEdge → Spans
spans_of x total e = spans_by x total e.span_start e.span_len

-- the bucket b is one of the stretch. A stretch that ends where it begins, or before, has none
abbrev pub covers : Stretch → ℕ → Bool
covers s b = within s.from s.to b

-- how many buckets a stretch has
abbrev pub width_of : Stretch → ℕ
width_of s = s.to - s.from

-- how often an edge is in the bucket b: once for each of its stretches that covers it
abbrev pub edge_bits : Spans → ℕ → ℕ
edge_bits s b = bit (covers s.first b) + bit (covers s.second b)

-- how many references it has
abbrev pub edge_refs : Spans → ℕ
edge_refs s = width_of s.first + width_of s.second
