-- Cones and entries of an outline as plain numbers, and what an outline call does with its answer as numbers. Definitions only.
use Rattle.std.specs.Prelude.{◌≡◌, List, ℕ, get_or, Float}
use Rattle.std.specs.Float.{nan}
use Rattle.geom.specs.Vec.{vec}
use Rattle.cone.specs.declared.ViewCone.{ViewCone}
use Rattle.cone.specs.Outline.{outline_points}
use Rattle.cone.specs.Outline as own
use Rattle.room.specs.declared.Rooms.{Rooms}
use Rattle.visibility.specs.Numbers.{nine_of}
use Rattle.view.specs.Outcome.{Lent, Outcome}
use Rattle.refusal.specs.Numbers.{status_of}

-- the post, range, direction and opening angle
unfoldable pub cone_of : List Float → ViewCone
cone_of f = record { origin = vec (get_or f 0 nan) (get_or f 1 nan); range = get_or f 2 nan; direction = get_or f 3 nan; fov = get_or f 4 nan }

-- the entries, in document 01's order
unfoldable pub rooms_of : List ℕ → Rooms
rooms_of n = record {
  ids = get_or n 0 0;
  edges = get_or n 1 0;
  events = get_or n 2 0;
  corners = get_or n 3 0;
  samples = get_or n 4 0;
  starts = get_or n 5 0;
  refs = get_or n 6 0;
  owners = get_or n 7 0;
  seen = get_or n 8 0;
}

-- every part of what an outline call does
pub record Draws (o : Outcome) (status : ℕ) (left : Lent) (answer : List ℕ) : Type 0 where
  pub status_is : status ≡ status_of o.answer
  pub left_is : left ≡ o.left
  pub answer_is : answer ≡ nine_of o.answer

-- and of what a call of a cone's own outline does
pub record Outlines (o : own.Outcome) (status : ℕ) (list : List Float) (number : ℕ) : Type 0 where
  pub status_is : status ≡ status_of o.answer
  pub list_is : list ≡ o.list
  pub number_is : number ≡ outline_points o.answer
