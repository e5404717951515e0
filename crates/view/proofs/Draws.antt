-- What an answer shows, once the query has answered: one law for each way through `drawn`. Assumes nothing.
use Rattle.std.proofs.Common.{Err, Result}
use mathlib.Core.Path.{◌≡◌, ap, ◌∙◌}
use mathlib.Core.Bool.{Bool, true, false}
use mathlib.Core.List.{List}
use Prim.Native.Nat.{ℕ}
use lib.ListN.{take}
use lib.Ieee.{Float}
use Rattle.geom.specs.declared.Aabb.{Aabb}
use Rattle.grid.specs.declared.Listing.{Listing}
use Rattle.stages.specs.Drawing.{Request, view_in, eight, plain, staged_of}
use Rattle.stages.specs.Shows.{Shows}
use Rattle.stages.proofs.Showing.{shows_eight, shows_plain}
use Rattle.view.specs.declared.Plan.{Plan}
use Rattle.view.specs.declared.Plan.TheVariants.{Empty, Inside, Query}
use Rattle.view.specs.Outcome.{planned, drawn_of}
use Rattle.refusal.specs.declared.Refusal.{Refusal}
use Rattle.grid.specs.Query.{counted}
use Rattle.refusal.specs.declared.Refusal.TheVariants.{NoListRoom}
use Rattle.stages.specs.declared.Shown.{Shown}

module _ (short : Bool) (p : Plan) (q : Request) (boxes : List Float) (a : (Result Listing Refusal)) (ids : List ℕ) (o : List Float) (i : List ℕ) where
  short_is : short ≡ true → drawn_of short p q boxes a ids ≡ eight
  unfolding drawn_of
  short_is h = rw h

  pub draw_short : short ≡ true → Shows (drawn_of short p q boxes a ids) (Err NoListRoom) o i
  draw_short h = shows_eight o i (short_is h)

  module _ (h : short ≡ false) where
    plan_is : drawn_of short p q boxes a ids ≡ planned p q boxes a ids
    unfolding drawn_of
    plan_is = rw h

    empty_is : p ≡ Empty → planned p q boxes a ids ≡ plain false (view_in q).full
    unfolding planned
    empty_is e = rw e

    inside_is : p ≡ Inside → planned p q boxes a ids ≡ plain true (view_in q).full
    unfolding planned
    inside_is e = rw e

    refused_is : {b : Aabb} {n : Refusal} → p ≡ Query b → a ≡ Err n → planned p q boxes a ids ≡ eight
    unfolding planned
    refused_is e u = rw (e, u)

    listed_is : {b : Aabb} {n read : ℕ} → p ≡ Query b → a ≡ counted n read → planned p q boxes a ids ≡ staged_of q boxes (take n ids)
    unfolding planned
    listed_is e u = rw (e, u)

    pub draw_empty : p ≡ Empty → {r : (Result Shown Refusal)} {b : Bool} → b ≡ (view_in q).full → r ≡ (plain false b).answer → Shows (drawn_of short p q boxes a ids) r o i
    draw_empty e u v = shows_plain false (view_in q).full o i (v ∙ ap (λ (x : Bool). (plain false x).answer) u) (plan_is ∙ empty_is e)

    pub draw_inside : p ≡ Inside → {r : (Result Shown Refusal)} {b : Bool} → b ≡ (view_in q).full → r ≡ (plain true b).answer → Shows (drawn_of short p q boxes a ids) r o i
    draw_inside e u v = shows_plain true (view_in q).full o i (v ∙ ap (λ (x : Bool). (plain true x).answer) u) (plan_is ∙ inside_is e)

    pub draw_refused : {b : Aabb} {n : Refusal} → p ≡ Query b → a ≡ Err n → Shows (drawn_of short p q boxes a ids) (Err NoListRoom) o i
    draw_refused e u = shows_eight o i (plan_is ∙ refused_is e u)

    pub draw_listed : {b : Aabb} {n read : ℕ} → p ≡ Query b → a ≡ counted n read → {r : (Result Shown Refusal)} → Shows (staged_of q boxes (take n ids)) r o i → Shows (drawn_of short p q boxes a ids) r o i
    draw_listed e u S = rw (plan_is ∙ listed_is e u) S
