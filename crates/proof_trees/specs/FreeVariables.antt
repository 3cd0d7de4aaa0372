-- Which variables are free in a proof tree. An eigenvariable is bound in the premises of its inference.
use Rattle.std.specs.Prelude.{Bool, false, ◌||◌, ◌&&◌, not}
use Rattle.std.specs.Ordering.{eq_by_cmp}
use Rattle.fol.specs.declared.symbols.Var.{Var}
use Rattle.fol.specs.Order.{var_cmp}
use Rattle.free_variables.specs.Occurrence.{is_free_in, is_free_in_term}
use Rattle.lk_rules.specs.declared.rule.Rule.{Rule}
use Rattle.lk_rules.specs.RuleOrder.{formula_of, term_of, variable_of}
use Rattle.lk_rules.specs.Sequents.{is_free_in_sequent}
use Rattle.proof_trees.specs.Trees.{Tree, node, Trees, none, more}
use Rattle.proof_trees.specs.Occurrence.{passes}

-- whether v is the eigenvariable of the rule
abbrev pub is_eigen : Var → Rule → Bool
is_eigen v r = passes (eq_by_cmp var_cmp v) (variable_of r)

-- whether v is free in the formula or in the term that the rule names
abbrev pub is_free_in_names : Var → Rule → Bool
is_free_in_names v r = passes (is_free_in v) (formula_of r) || passes (is_free_in_term v) (term_of r)

-- whether v is free in a tree: in a conclusion or in what a rule names, outside the premises of the inferences whose eigenvariable it is
abbrev mutual
  pub is_free_in_tree : Var → Tree → Bool
  is_free_in_tree v (node r s ts) = (is_free_in_sequent v s || is_free_in_names v r) || (not (is_eigen v r) && is_free_in_trees v ts)

  pub is_free_in_trees : Var → Trees → Bool
  is_free_in_trees v none = false
  is_free_in_trees v (more t ts) = is_free_in_tree v t || is_free_in_trees v ts
