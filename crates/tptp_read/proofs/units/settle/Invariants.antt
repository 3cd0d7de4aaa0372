use Rattle.std.proofs.Common.{◌≡◌, length}
use Rattle.tptp_read.specs.Machine.{settled, settled_frames}
use Rattle.tptp_read.proofs.units.settle.Given as goal

-- what is left to settle gives the answer
abbrev pub invariant-loop-formula : goal.invariant-loop-formula
invariant-loop-formula l =
    (settled l.frames.items l.formula ≡ settled l.initial.frames.items l.initial.formula) × (settled_frames l.frames.items ≡ settled_frames l.initial.frames.items)

abbrev pub decreases-loop-formula : goal.decreases-loop-formula
decreases-loop-formula l = length l.frames.items
