-- The variable of a cut is in no tuple and not free in the sequent.
use Rattle.std.proofs.Common.{◌≡◌, true, false, ◌||◌, List, [], ◌∷◌, sym, ap, ◌∙◌}
use Rattle.std.specs.List.{All, list_any, flat_map}
use Rattle.std.specs.Ordering.{eq_by_cmp}
use Rattle.std.proofs.lemmas.List.Elements.{All-nil, All-cons}
use Rattle.std.proofs.lemmas.List.Folds.{list_any-append}
use Rattle.fol.specs.declared.symbols.Var.{Var}
use Rattle.fol.specs.Syntax.{Terms}
use Rattle.fol.specs.Order.{var_cmp}
use Rattle.fol.specs.OrderLaws.{var_total}
use Rattle.fol.specs.Formed.{is_formed_var}
use Rattle.finite.specs.Finite as set
use Rattle.finite.proofs.Finite.{has-listing, has-adds_each}
use Rattle.free_variables.specs.Occurrence.{is_free_in_terms, var_list_terms}
use Rattle.free_variables.proofs.FreshVariables.{fresh_out, least_outside_is}
use Rattle.free_variables.proofs.OccurrenceLaws.{is_free-var_list_terms}
use Rattle.lk_rules.specs.declared.sequent.Sequent.{Sequent}
use Rattle.lk_rules.specs.Sequents.{is_free_in_sequent, vars_sequent}
use Rattle.lk_rules.proofs.SequentVariables.{sequent_var_members}
use Rattle.cut_laws.proofs.Sides.{neither_first, neither_second}
use Rattle.herbrand_laws.specs.Herbrand.{Item}
use Rattle.herbrand_laws.specs.Introduction.{tuple_variables, cut_variable}

-- a variable that isn't among those of tuples is in none of them
in_no_tuple : (y : Var) (uss : List Terms) → list_any (eq_by_cmp var_cmp y) (flat_map var_list_terms uss) ≡ false → All (λ us. is_free_in_terms y us ≡ false) uss
in_no_tuple y [] e = All-nil _
in_no_tuple y (us ∷ uss) e =
    let parts = sym (list_any-append (eq_by_cmp var_cmp y) (var_list_terms us) (flat_map var_list_terms uss)) ∙ e in
    All-cons (λ vs. is_free_in_terms y vs ≡ false) us uss
    (sym (is_free-var_list_terms y us) ∙ neither_first _ _ parts)
    (in_no_tuple y uss (neither_second (list_any (eq_by_cmp var_cmp y) (var_list_terms us)) _ parts))

in_no_item : (y : Var) (items : List Item) → list_any (eq_by_cmp var_cmp y) (tuple_variables items) ≡ false → All (λ i. All (λ us. is_free_in_terms y us ≡ false) i.tuples) items
in_no_item y [] e = All-nil _
in_no_item y (i ∷ items) e =
    let parts = sym (list_any-append (eq_by_cmp var_cmp y) (flat_map var_list_terms i.tuples) (tuple_variables items)) ∙ e in
    All-cons (λ j. All (λ us. is_free_in_terms y us ≡ false) j.tuples) i items
    (in_no_tuple y i.tuples (neither_first _ _ parts))
    (in_no_item y items (neither_second (list_any (eq_by_cmp var_cmp y) (flat_map var_list_terms i.tuples)) _ parts))

module _ (s : Sequent) (items : List Item) where
  abbrev used : set.Finite var_cmp
  used = set.adds_each (vars_sequent s) (tuple_variables items)

  pub variable_formed : is_formed_var (cut_variable s items) ≡ true
  variable_formed = ap is_formed_var (least_outside_is (set.listing used)).numbered

  outside : (set.has (vars_sequent s) (cut_variable s items) || list_any (eq_by_cmp var_cmp (cut_variable s items)) (tuple_variables items)) ≡ false
  outside =
      let y = cut_variable s items in
      sym (has-adds_each var_total (vars_sequent s) (tuple_variables items) y) ∙ (has-listing used y ∙ fresh_out (set.listing used))

  pub variable_out : is_free_in_sequent (cut_variable s items) s ≡ false
  variable_out = sym (sequent_var_members s (cut_variable s items)) ∙ neither_first _ _ outside

  pub variable_in_none : All (λ i. All (λ us. is_free_in_terms (cut_variable s items) us ≡ false) i.tuples) items
  variable_in_none = in_no_item (cut_variable s items) items (neither_second (set.has (vars_sequent s) (cut_variable s items)) _ outside)
