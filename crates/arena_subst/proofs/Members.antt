-- The members of the set of a tree's free variables are those that are free in the tree.
use Rattle.std.proofs.Common.{◌≡◌, Bool, true, false, not, ◌&&◌, ◌||◌, filter, Option, Some, None, refl, sym, ap, ◌∙◌}
use Rattle.std.specs.Ordering.{eq_by_cmp}
use Rattle.std.proofs.lemmas.Map.Views.{any-filter_same}
use Rattle.fol.specs.declared.symbols.Var.{Var}
use Rattle.fol.specs.Syntax.{Term, Formula}
use Rattle.fol.specs.Order.{var_cmp}
use Rattle.fol.specs.OrderLaws.{var_total}
use Rattle.fol.proofs.OrderTies.{var_ties}
use Rattle.finite.specs.Finite as set
use Rattle.finite.proofs.Finite.{has-listing, has-empty, same_members}
use Rattle.free_variables.specs.Sets.{VarSet}
use Rattle.free_variables.specs.Union.{union_of}
use Rattle.free_variables.specs.Occurrence.{is_free_in, is_free_in_term}
use Rattle.free_variables.proofs.OccurrenceLaws.{term_var_members, free_var_members}
use Rattle.lk_rules.specs.declared.rule.Rule.{Rule}
use Rattle.lk_rules.specs.RuleOrder.{formula_of, term_of, variable_of}
use Rattle.lk_rules.specs.Sequents.{vars_sequent}
use Rattle.lk_rules.proofs.SequentVariables.{sequent_var_members}
use Rattle.proof_trees.specs.Trees.{Tree, node, Trees, none, more, concl, rule_of, below}
use Rattle.proof_trees.specs.Occurrence.{passes}
use Rattle.proof_trees.specs.FreeVariables.{is_eigen, is_free_in_names, is_free_in_tree, is_free_in_trees}
use Rattle.arena.specs.TreeVariables.{vars_named_formula, vars_named_term, vars_named, without_eigen, vars_tree, vars_trees}
use Rattle.arena.proofs.Members.{has-union}
use Rattle.proof_trees.proofs.Passing.{same_here}
use Rattle.arena.proofs.SetLaws.{has-list}

formula_members : (o : Option Formula) (v : Var) → set.has (vars_named_formula o) v ≡ passes (is_free_in v) o
formula_members None v = has-empty var_cmp v
formula_members (Some f) v = free_var_members f v

term_members : (o : Option Term) (v : Var) → set.has (vars_named_term o) v ≡ passes (is_free_in_term v) o
term_members None v = has-empty var_cmp v
term_members (Some t) v = term_var_members t v

named_members : (r : Rule) (v : Var) → set.has (vars_named r) v ≡ is_free_in_names v r
named_members r v =
    has-union var_total (vars_named_formula (formula_of r)) (vars_named_term (term_of r)) v
    ∙ λ i. formula_members (formula_of r) v i || term_members (term_of r) v i

pub without_members : (r : Rule) (vs : VarSet) (v : Var) → set.has (without_eigen r vs) v ≡ (not (is_eigen v r) && set.has vs v)
without_members r vs v =
    has-list var_total var_ties (filter (λ w. not (is_eigen w r)) (set.listing vs)) v
    ∙ any-filter_same (eq_by_cmp var_cmp v) (λ w. not (is_eigen w r)) (not (is_eigen v r)) (λ w e. ap (λ (x : Var). not (is_eigen x r)) (sym (same_here var_total var_ties v w e))) (set.listing vs)
    ∙ ap (λ b. not (is_eigen v r) && b) (sym (has-listing vs v))

mutual
  pub tree_members : (t : Tree) (v : Var) → set.has (vars_tree t) v ≡ is_free_in_tree v t
  tree_members (node r s ts) v =
      has-union var_total (union_of (vars_sequent s) (vars_named r)) (without_eigen r (vars_trees ts)) v
      ∙ λ i. (has-union var_total (vars_sequent s) (vars_named r) v ∙ λ j. sequent_var_members s v j || named_members r v j) i
      || (without_members r (vars_trees ts) v ∙ ap (λ b. not (is_eigen v r) && b) (trees_members ts v)) i

  pub trees_members : (ts : Trees) (v : Var) → set.has (vars_trees ts) v ≡ is_free_in_trees v ts
  trees_members none v = has-empty var_cmp v
  trees_members (more t ts) v = has-union var_total (vars_tree t) (vars_trees ts) v ∙ λ i. tree_members t v i || trees_members ts v i

or_none : (a : Bool) → (a || false) ≡ a
or_none true = refl
or_none false = refl

-- a union with nothing
union_none : (vs : VarSet) → union_of vs set.empty ≡ vs
union_none vs = same_members var_total var_ties (union_of vs set.empty) vs (λ v. has-union var_total vs set.empty v ∙ ap (λ b. set.has vs v || b) (has-empty var_cmp v) ∙ or_none (set.has vs v))

pub one_tree : (t : Tree) → vars_tree t ≡ vars_trees (more t none)
one_tree t = sym (union_none (vars_tree t))

pub two_trees : (t u : Tree) → union_of (vars_tree t) (vars_tree u) ≡ vars_trees (more t (more u none))
two_trees t u = ap (λ (s : VarSet). union_of (vars_tree t) s) (one_tree u)

-- a set without the eigenvariable, where there is one
pub removed_set : (r : Rule) (vs ws : VarSet) (y : Var) → variable_of r ≡ Some y → ((v : Var) → set.has ws v ≡ (not (eq_by_cmp var_cmp v y) && set.has vs v)) → ws ≡ without_eigen r vs
removed_set r vs ws y is members = same_members var_total var_ties ws (without_eigen r vs) (λ v.
    members v ∙ ap (λ o. not (passes (eq_by_cmp var_cmp v) o) && set.has vs v) (sym is) ∙ sym (without_members r vs v))

-- and where there is none
pub same_set : (r : Rule) (vs : VarSet) → variable_of r ≡ None → vs ≡ without_eigen r vs
same_set r vs is = same_members var_total var_ties vs (without_eigen r vs) (λ v.
    sym (ap (λ o. not (passes (eq_by_cmp var_cmp v) o) && set.has vs v) is) ∙ sym (without_members r vs v))

pub root_variables : (t : Tree) → union_of (union_of (vars_sequent (concl t)) (vars_named (rule_of t))) (without_eigen (rule_of t) (vars_trees (below t))) ≡ vars_tree t
root_variables (node r s ts) = refl
