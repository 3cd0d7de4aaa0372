-- The laws are lemmas.
use Rattle.std.proofs.Common.{refl}
use Rattle.refutations.proofs.InputTrees.{few_variables}
use Rattle.refutations.proofs.Refuting.{valid_refutation}
use Rattle.refutations.proofs.laws.valid_refutations.Goals as goal

pub returns-clause-valid : goal.returns-clause-valid
returns-clause-valid c = valid_refutation

pub returns-clause-few : goal.returns-clause-few
returns-clause-few c d h few = few_variables d.vars d.matrix _ refl h.shape h.formed few
