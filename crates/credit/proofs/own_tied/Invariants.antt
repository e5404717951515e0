-- `own_tied`: what is left to credit, from here. Assumes nothing.
use mathlib.Core.Path.{◌≡◌}
use mathlib.Core.List.{map}
use lib.ListN.{length, drop}
use Rattle.room.specs.Records.{edge_at}
use Rattle.outline.specs.Outline.{Room}
use Rattle.credit.specs.Credit.{firsts_of, tied_numbers, own_all}
use Rattle.credit.proofs.own_tied.Given as goal

abbrev pub invariant-loop-i : goal.invariant-loop-i
invariant-loop-i l = (length l.marks ≡ length l.initial.marks) × (length l.mine ≡ length l.initial.mine) × (own_all l.k.owners l.owners (firsts_of l.owners l.mine (tied_numbers l.o l.dir l.t (map (edge_at l.k l.floats l.words) (drop l.i-index l.tied)))) l.marks l.r ≡ own_all l.k.owners l.owners (firsts_of l.owners l.initial.mine (tied_numbers l.o l.dir l.t (map (edge_at l.k l.floats l.words) l.tied))) l.initial.marks l.initial.r) × Room l.k.owners l.r
