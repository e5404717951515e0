-- `further`: the Rust's mode, no hit, an edge alone, tied edges. Assumes nothing.
use mathlib.Core.Path.{refl}
use borrow.Author.Tests.{not-true}
use Rattle.credit.specs.Credit.{no_marks}
use Rattle.credit.proofs.Credits.{mine_is, more_rust, raised, more_miss, more_alone, more_tied}
use Rattle.credit.proofs.further.Goals as goal

pub returns-then-x-eq0 : goal.returns-then-x-eq0
returns-then-x-eq0 c = let e = more_rust c.args.k c.args.x c.args.floats.now c.args.words.now c.args.owners.now c.args.o c.args.angle c.args.dir c.args.max c.args.k.owners c.args.marks.now c.args.s c.if-x-eq0.true in record { result_after = e; raised = raised c.args.k c.args.x c.args.floats.now c.args.words.now c.args.owners.now c.args.o c.args.angle c.args.dir c.args.max c.args.k.owners c.args.marks.now c.args.s c.requires e }

pub returns-in_default : goal.returns-in_default
returns-in_default c = let e = more_miss c.args.k c.args.x c.args.floats.now c.args.words.now c.args.owners.now c.args.o c.args.angle c.args.dir c.args.max c.args.k.owners c.args.marks.now c.args.s c.if-x-eq0.false c.walk_at-w.ensures c.in_default.is in record { result_after = e; raised = raised c.args.k c.args.x c.args.floats.now c.args.words.now c.args.owners.now c.args.o c.args.angle c.args.dir c.args.max c.args.k.owners c.args.marks.now c.args.s c.requires e }

pub returns-then-not-b : goal.returns-then-not-b
returns-then-not-b c = let e = more_alone c.args.k c.args.x c.args.floats.now c.args.words.now c.args.owners.now c.args.o c.args.angle c.args.dir c.args.max c.args.k.owners c.args.marks.now c.args.s c.if-x-eq0.false c.walk_at-w.ensures _ c.in-Some.is (not-true _ c.if-not-b.true) in record { result_after = e; raised = raised c.args.k c.args.x c.args.floats.now c.args.words.now c.args.owners.now c.args.o c.args.angle c.args.dir c.args.max c.args.k.owners c.args.marks.now c.args.s c.requires e }

pub own_tied-requires : goal.own_tied-requires
own_tied-requires c = c.requires

pub shape_of-marks : goal.shape_of-marks
shape_of-marks c = c.own_tied.auto.marks

pub returns : goal.returns
unfolding no_marks
returns c = let e = more_tied c.args.k c.args.x c.args.floats.now c.args.words.now c.args.owners.now c.args.o c.args.angle c.args.dir c.args.max c.args.k.owners c.args.marks.now c.args.s c.if-x-eq0.false c.walk_at-w.ensures _ c.in-Some.is (mine_is c.args.owners.now _ refl refl c.owner_at.ensures refl c.put.ensures) c.own_tied.ensures in record { result_after = e; raised = raised c.args.k c.args.x c.args.floats.now c.args.words.now c.args.owners.now c.args.o c.args.angle c.args.dir c.args.max c.args.k.owners c.args.marks.now c.args.s c.requires e }
