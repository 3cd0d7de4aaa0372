use Rattle.std.proofs.Common.{◌+◌, codes, arith}
use Rattle.job_gen.specs.Derivations.{cut_data}
use Rattle.job_gen.proofs.Adding.{adds_number}
use Rattle.job_gen.proofs.derivations.put_further_cuts.Goals as goal

pub loop-j-preserved : goal.loop-j-preserved
loop-j-preserved c = adds_number (λ j. cut_data (codes "p") (4 + j) 0) 0 c.loop-j.j c.loop-j.j (omega arith) c.loop-j.invariant c.put_cut.ensures
