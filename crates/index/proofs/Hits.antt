-- EVERY EDGE TESTED IS A FRONT EDGE: `tested_front`: a cast over the index of a list of edges tests edges of that list only. `tied_front`: so is every edge that it
-- meets at a distance. The edge answered is one of these (`tied_hit`, proofs/Lowest.antt). Assumes nothing.
use Rattle.std.proofs.Common.{ℕ, ◌<◌, Bool, List, [], ◌∷◌, length, sym, subst, ⊎_elim, arith}
use lib.Ieee.{Float}
use Rattle.lists.specs.Lists.{filter}
use Rattle.lists.specs.Members.{In, All}
use Rattle.lists.proofs.Cases.{by_test}
use Rattle.lists.proofs.Members.{in_all}
use Rattle.lists.proofs.Joined.{get_d_listed}
use Rattle.sorts.proofs.Stable.{all_sort}
use Rattle.num.specs.Ops.{zero_f}
use Rattle.num.specs.Num.{max_of}
use Rattle.geom.specs.declared.Vec2.{Vec2}
use Rattle.room.specs.declared.LocalEdge.{LocalEdge}
use Rattle.index.specs.declared.Best.{Best}
use Rattle.index.specs.Spans.{buckets_for, head_of, bucket_of, spans_of}
use Rattle.index.specs.Angular.{nearer, nearest_first, bucket_edges, index_of}
use Rattle.index.specs.Casting.{none_yet, stop_of, meet_of, tested_of, ties_at, turned_of, bucket_at, tested_in, tied_of}
use Rattle.index.proofs.Builds.{all_bucket}

-- what all edges of a list have, those of a bucket of their index have
bucket_all : (P : LocalEdge → Type 0) (mode : ℕ) (total : Float) (es : List LocalEdge) (angle : Float) → All P es → All P (bucket_at (index_of mode total es) angle)
unfolding bucket_at index_of bucket_edges nearest_first bucket_of head_of buckets_for
bucket_all P mode total es angle each =
    let x = head_of mode (length es) total in
    let a = max_of (turned_of angle) zero_f in
    let below : bucket_of x a < x.buckets = omega arith in
    subst (All P) (sym (get_d_listed (bucket_edges x total es) x.buckets (bucket_of x a) [] below))
    (all_bucket (spans_of x total) P (nearest_first es) (bucket_of x a) (all_sort nearer P es each))

tested_all : (P : LocalEdge → Type 0) (slack : Float) (o dir : Vec2) (mode : ℕ) (l : List LocalEdge) (b : Best) → All P l → All P (tested_of slack o dir mode b l)
unfolding tested_of
tested_all P slack o dir mode [] b a = tt
tested_all P slack o dir mode (e ∷ l) b a =
    ⊎_elim (λ q. rw q tt) (λ q. rw q (a.0, tested_all P slack o dir mode l (meet_of slack o dir mode e b) a.1)) (by_test (stop_of mode b.t e.near))

filter_all : {A : Type 0} (P : A → Type 0) (p : A → Bool) (l : List A) → All P l → All P (filter p l)
filter_all P p [] a = tt
filter_all P p (x ∷ l) a = ⊎_elim (λ q. rw q (a.0, filter_all P p l a.1)) (λ q. rw q (filter_all P p l a.1)) (by_test (p x))

pub tested_front : (mode : ℕ) (total : Float) (es : List LocalEdge) (o : Vec2) (angle : Float) (dir : Vec2) (max : Float) → All (λ e. In e es) (tested_in (index_of mode total es) o angle dir max)
unfolding tested_in
tested_front mode total es o angle dir max =
    tested_all (λ e. In e es) _ o dir (index_of mode total es).head.mode (bucket_at (index_of mode total es) angle) (none_yet max) (bucket_all (λ e. In e es) mode total es angle (in_all (λ e. In e es) es (λ e i. i)))

pub tied_front : (mode : ℕ) (total : Float) (es : List LocalEdge) (o : Vec2) (angle : Float) (dir : Vec2) (max t : Float) → All (λ e. In e es) (tied_of (index_of mode total es) o angle dir max t)
unfolding tied_of
tied_front mode total es o angle dir max t = filter_all (λ e. In e es) (ties_at _ o dir t) (tested_in (index_of mode total es) o angle dir max) (tested_front mode total es o angle dir max)
