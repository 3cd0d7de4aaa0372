-- The laws are lemmas.
use Rattle.extraction_laws.proofs.Read.{tree-unused, read-flat, read-not, read-and, read-or, read-imp, read-all_left, read-all_right, read-ex_left, read-ex_right}
use Rattle.extraction_laws.proofs.laws.trees.Goals as goal

pub returns-clause-unused : goal.returns-clause-unused
returns-clause-unused c = tree-unused

pub returns-clause-flat : goal.returns-clause-flat
returns-clause-flat c = read-flat

pub returns-clause-negation : goal.returns-clause-negation
returns-clause-negation c = read-not

pub returns-clause-conjunction : goal.returns-clause-conjunction
returns-clause-conjunction c = read-and

pub returns-clause-disjunction : goal.returns-clause-disjunction
returns-clause-disjunction c = read-or

pub returns-clause-implication : goal.returns-clause-implication
returns-clause-implication c = read-imp

pub returns-clause-universal_left : goal.returns-clause-universal_left
returns-clause-universal_left c = read-all_left

pub returns-clause-universal_right : goal.returns-clause-universal_right
returns-clause-universal_right c = read-all_right

pub returns-clause-existential_left : goal.returns-clause-existential_left
returns-clause-existential_left c = read-ex_left

pub returns-clause-existential_right : goal.returns-clause-existential_right
returns-clause-existential_right c = read-ex_right
