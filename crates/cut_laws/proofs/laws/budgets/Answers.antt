-- The laws are lemmas.
use Rattle.cut_laws.proofs.LessBudget.{less_budget, known_budget, exact_budget, used_within}
use Rattle.cut_laws.proofs.laws.budgets.Goals as goal

pub returns-clause-less : goal.returns-clause-less
returns-clause-less c = less_budget

pub returns-clause-known : goal.returns-clause-known
returns-clause-known c = known_budget

pub returns-clause-exact : goal.returns-clause-exact
returns-clause-exact c = exact_budget

pub returns-clause-within : goal.returns-clause-within
returns-clause-within c = used_within
