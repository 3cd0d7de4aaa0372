-- The set of the free variables of a sequent has those that are free in it.
use Rattle.std.proofs.Common.{◌≡◌, ◌||◌, List, [], ◌∷◌, ◌++◌, refl, ap, ◌∙◌}
use Rattle.std.specs.List.{list_any}
use Rattle.std.specs.Ordering.{eq_by_cmp}
use Rattle.std.proofs.lemmas.List.Folds.{list_any-append}
use Rattle.fol.specs.declared.symbols.Var.{Var}
use Rattle.fol.specs.Syntax.{Formula}
use Rattle.fol.specs.Order.{var_cmp}
use Rattle.fol.specs.OrderLaws.{var_total}
use Rattle.finite.specs.Finite as set
use Rattle.finite.proofs.Finite.{has-adds_each, has-empty}
use Rattle.free_variables.specs.Occurrence.{is_free_in, var_list}
use Rattle.free_variables.proofs.OccurrenceLaws.{is_free-var_list}
use Rattle.lk_rules.specs.declared.sequent.Sequent.{Sequent}
use Rattle.lk_rules.specs.Formulas.{var_lists}
use Rattle.lk_rules.specs.Sequents.{is_free_in_sequent, vars_sequent}

free_in_one : (v : Var) (fs : List Formula) → list_any (eq_by_cmp var_cmp v) (var_lists fs) ≡ list_any (is_free_in v) fs
free_in_one v [] = refl
free_in_one v (f ∷ fs) = list_any-append (eq_by_cmp var_cmp v) (var_list f) (var_lists fs) ∙ λ i. is_free-var_list v f i || free_in_one v fs i

pub sequent_var_members : (s : Sequent) (v : Var) → set.has (vars_sequent s) v ≡ is_free_in_sequent v s
sequent_var_members s v =
    let left = var_lists (set.listing s.left) in
    let right = var_lists (set.listing s.right) in
    has-adds_each var_total set.empty (left ++ right) v
    ∙ ap (λ b. b || list_any (eq_by_cmp var_cmp v) (left ++ right)) (has-empty var_cmp v)
    ∙ list_any-append (eq_by_cmp var_cmp v) left right
    ∙ λ i. free_in_one v (set.listing s.left) i || free_in_one v (set.listing s.right) i
