use Rattle.std.proofs.Common.{◌≡◌, ◌≤◌, false, [], length}
use Rattle.tptp_problem.specs.AnnotationReader.{annotation_from}
use Rattle.tptp_problem.proofs.annotations.read_annotation.Given as goal

-- the rest of the annotation from here gives what the whole annotation gives
abbrev pub invariant-loop-inner : goal.invariant-loop-inner
invariant-loop-inner l = (annotation_from l.inner.items l.some l.rest ≡ annotation_from [] false l.bytes) × (length l.rest ≤ length l.bytes)

abbrev pub decreases-loop-inner : goal.decreases-loop-inner
decreases-loop-inner l = length l.rest
