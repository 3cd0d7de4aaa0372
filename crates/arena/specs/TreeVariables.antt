-- The set of the free variables of a proof tree.
use Rattle.std.specs.Prelude.{not, filter, Option, Some, None}
use Rattle.fol.specs.Syntax.{Term, Formula}
use Rattle.finite.specs.Finite as set
use Rattle.free_variables.specs.Sets.{VarSet}
use Rattle.free_variables.specs.Union.{union_of}
use Rattle.free_variables.specs.Occurrence.{vars_term, vars_formula}
use Rattle.lk_rules.specs.declared.rule.Rule.{Rule}
use Rattle.lk_rules.specs.RuleOrder.{formula_of, term_of}
use Rattle.lk_rules.specs.Sequents.{vars_sequent}
use Rattle.proof_trees.specs.Trees.{Tree, node, Trees, none, more}
use Rattle.proof_trees.specs.FreeVariables.{is_eigen}

-- the free variables of a formula, where there is one
abbrev pub vars_named_formula : Option Formula → VarSet
vars_named_formula None = set.empty
vars_named_formula (Some f) = vars_formula f set.empty

-- the variables of a term, where there is one
abbrev pub vars_named_term : Option Term → VarSet
vars_named_term None = set.empty
vars_named_term (Some t) = vars_term t set.empty

-- the free variables of the formula and the term that a rule names
abbrev pub vars_named : Rule → VarSet
vars_named r = union_of (vars_named_formula (formula_of r)) (vars_named_term (term_of r))

-- the variables of a set but for the eigenvariable of a rule
abbrev pub without_eigen : Rule → VarSet → VarSet
without_eigen r vs = set.of_list (filter (λ v. not (is_eigen v r)) (set.listing vs))

-- the free variables of a tree: those of its conclusion and of what its rule names, and those of the premises but for the eigenvariable
abbrev mutual
  pub vars_tree : Tree → VarSet
  vars_tree (node r s ts) = union_of (union_of (vars_sequent s) (vars_named r)) (without_eigen r (vars_trees ts))

  pub vars_trees : Trees → VarSet
  vars_trees none = set.empty
  vars_trees (more t ts) = union_of (vars_tree t) (vars_trees ts)
