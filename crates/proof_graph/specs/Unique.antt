-- That a tree is valid, and so a history legal, in one way at most.
use Rattle.std.specs.Prelude.{List, Result}
use Rattle.std.specs.Coded.{×_prop, Unit-prop, Coded-set, coded_bool, coded_result}
use base.Stored.{coded_unit}
use Rattle.lk_rules.specs.declared.sequent.Sequent.{Sequent}
use Rattle.lk_rules.specs.declared.rule.Rule.{Rule}
use Rattle.lk_rules.specs.declared.inference.RuleFault.{RuleFault}
use Rattle.lk_rules.specs.contracts.inference.RuleFault as fault
use Rattle.proof_trees.specs.Trees.{Tree, node, Trees, none, more, IsInference, IsValid, AllValid}
use Rattle.proof_graph.specs.References.{Reference}
use Rattle.proof_graph.specs.History.{IsLegal}

verdicts : IsSet (Result (Unit {0}) RuleFault)
verdicts = Coded-set (coded_result coded_unit fault.the_row.coded)

inference_prop : (r : Rule) (s : Sequent) (ts : Trees) → IsProp (IsInference r s ts)
inference_prop r s ts = hlevel (verdicts, Coded-set coded_bool)

mutual
  pub valid_prop : (t : Tree) → IsProp (IsValid t)
  valid_prop (node r s ts) = ×_prop (inference_prop r s ts) (all_valid_prop ts)

  all_valid_prop : (ts : Trees) → IsProp (AllValid ts)
  all_valid_prop none = Unit-prop
  all_valid_prop (more t ts) = ×_prop (valid_prop t) (all_valid_prop ts)

pub legal_prop : (history : List Reference) → IsProp (IsLegal history)
legal_prop history = hlevel valid_prop
