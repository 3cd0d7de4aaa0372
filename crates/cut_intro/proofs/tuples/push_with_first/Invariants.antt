use Rattle.std.proofs.Common.{◌≡◌, ◌++◌, map, take}
use Rattle.fol.specs.Syntax.{cons}
use Rattle.cut_intro.proofs.tuples.push_with_first.Given as goal

abbrev pub invariant-loop-tuple : goal.invariant-loop-tuple
invariant-loop-tuple l = l.list.items ≡ l.initial.list.items ++ map (cons l.term) (take l.tuple-index l.tuples)
