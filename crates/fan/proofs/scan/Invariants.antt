-- `fan::scan`: the polygons of the box query, one after the other. Assumes nothing.
use Rattle.fan.proofs.Scanning.{Run}
use Rattle.fan.proofs.scan.Given as goal

abbrev pub invariant-loop-m : goal.invariant-loop-m
invariant-loop-m l = Run l.k l.view l.tables.points.now l.tables.boxes.now l.tables.polygons.now l.initial.floats l.initial.words l.m l.t l.floats l.words
