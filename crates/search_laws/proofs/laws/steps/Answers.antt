-- The laws are lemmas.
use Rattle.search_laws.proofs.Taken.{rule_fits}
use Rattle.search_laws.proofs.Lower.{lower_premise}
use Rattle.search_laws.proofs.Unrolled.{walk-unrolled}
use Rattle.search_laws.proofs.laws.steps.Goals as goal

pub returns-clause-walk : goal.returns-clause-walk
returns-clause-walk c = walk-unrolled

pub returns-clause-falls : goal.returns-clause-falls
returns-clause-falls c s r i taken below = lower_premise r s i (rule_fits s r taken) below
