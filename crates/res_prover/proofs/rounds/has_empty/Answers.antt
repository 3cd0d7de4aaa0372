-- No clause at all is empty.
use Rattle.std.proofs.Common.{arith}
use Rattle.lk_rules.specs.Sequents.{empty}
use Rattle.res_prover.specs.declared.kept.Kept.{Kept}
use Rattle.res_prover.proofs.Members.{none_mapped}
use Rattle.res_prover.proofs.rounds.has_empty.Goals as goal

pub returns-clause-no : goal.returns-clause-no
returns-clause-no c = λ _. none_mapped (λ (k : Kept). k.clause) c.args.kept.now empty (λ k d below. c.loop-place.invariant k d (omega arith))
