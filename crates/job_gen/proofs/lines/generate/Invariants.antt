use Rattle.std.proofs.Common.{◌≡◌}
use Rattle.job_gen.specs.Generated.{generated}
use Rattle.job_gen.proofs.lines.generate.Given as goal

abbrev pub invariant-loop-i : goal.invariant-loop-i
invariant-loop-i l = l.lines.items ≡ generated l.i
