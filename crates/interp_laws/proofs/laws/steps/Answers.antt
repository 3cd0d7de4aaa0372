-- The laws are lemmas.
use Rattle.proof_trees.specs.Trees.{node, none, more}
use Rattle.lk_rules.specs.declared.rule.Rule.TheVariants.{Ax, Weak}
use Rattle.interp_laws.proofs.Unrolled.{itp-unrolled, itp-by_premises, itp-within}
use Rattle.interp_laws.proofs.laws.steps.Goals as goal

pub returns-clause-rule : goal.returns-clause-rule
returns-clause-rule c = itp-unrolled

pub returns-clause-axiom : goal.returns-clause-axiom
returns-clause-axiom c a s ts one two = itp-unrolled (node (Ax a) s ts) one two

pub returns-clause-weakening : goal.returns-clause-weakening
returns-clause-weakening c s p one two = itp-unrolled (node Weak s (more p none)) one two

pub returns-clause-leaf : goal.returns-clause-leaf
returns-clause-leaf c r s one two main = itp-by_premises r s none one two main

pub returns-clause-one_premise : goal.returns-clause-one_premise
returns-clause-one_premise c r s p one two main = itp-by_premises r s (more p none) one two main

pub returns-clause-two_premises : goal.returns-clause-two_premises
returns-clause-two_premises c r s p q one two main = itp-by_premises r s (more p (more q none)) one two main

pub returns-clause-any_bound : goal.returns-clause-any_bound
returns-clause-any_bound c n t one two low = itp-within n t low one two
