use Rattle.std.proofs.Common.{arith}
use Rattle.job_gen.specs.Chains.{implication_nodes}
use Rattle.job_gen.proofs.Adding.{adds_numbers}
use Rattle.job_gen.proofs.chains.put_implications.Goals as goal

pub loop-i-preserved : goal.loop-i-preserved
loop-i-preserved c = adds_numbers implication_nodes 0 c.loop-i.i c.loop-i.i (omega arith) c.loop-i.invariant c.put_implication_nodes.ensures
