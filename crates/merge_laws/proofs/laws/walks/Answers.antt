-- The laws are lemmas.
use Rattle.merge_laws.proofs.GivenNames.{walked_with_names}
use Rattle.merge_laws.proofs.TwoPremises.{closed_marks}
use Rattle.merge_laws.proofs.UnitedWalks.{walked-united}
use Rattle.merge_laws.proofs.laws.walks.Goals as goal

pub returns-clause-united : goal.returns-clause-united
returns-clause-united c vs t m d x y = walked-united vs y t m d x

pub returns-clause-names : goal.returns-clause-names
returns-clause-names c = walked_with_names

pub returns-clause-closed : goal.returns-clause-closed
returns-clause-closed c = closed_marks
