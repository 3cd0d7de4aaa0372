-- The variable of a cut, by the list of the variables that it isn't.
use Rattle.std.proofs.Common.{◌≡◌, List, [], ◌∷◌, ◌++◌, refl, sym, ap, subst, ◌∙◌}
use Rattle.std.specs.declared.cmp.Ordering.{Ordering}
use Rattle.fol.specs.declared.symbols.Var.{Var}
use Rattle.fol.specs.Order.{var_cmp}
use Rattle.fol.specs.Formed.{IsFormedVar}
use Rattle.finite.specs.Finite as set
use Rattle.free_variables.specs.Fresh.{least_outside}
use Rattle.lk_rules.specs.declared.sequent.Sequent.{Sequent}
use Rattle.lk_rules.specs.Formulas.{var_lists}
use Rattle.herbrand_laws.specs.Herbrand.{Item}
use Rattle.herbrand_laws.specs.Introduction.{tuple_variables, cut_variable}
use Rattle.herbrand_laws.proofs.CutVariable.{variable_formed}

adds_each-append : {K : Type 0} {R : K → K → Ordering} (s : set.Finite R) (xs ys : List K) → set.adds_each s (xs ++ ys) ≡ set.adds_each (set.adds_each s xs) ys
adds_each-append s [] ys = refl
adds_each-append s (x ∷ xs) ys = adds_each-append (set.adds s x) xs ys

module _ (s : Sequent) (items : List Item) where
  -- the list has the variables of the sequent and those of the tuples
  pub variable_of : (list : List Var) (v : Var) → list ≡ (var_lists (set.listing s.left) ++ var_lists (set.listing s.right)) ++ tuple_variables items
      → v ≡ least_outside (set.listing (set.adds_each (set.empty {R = var_cmp}) list)) → v ≡ cut_variable s items
  variable_of list v is least =
      least ∙ ap (λ vs. least_outside (set.listing vs))
      (ap set.of_list is ∙ adds_each-append (set.empty {R = var_cmp}) (var_lists (set.listing s.left) ++ var_lists (set.listing s.right)) (tuple_variables items))

  pub formed_of : (v : Var) → v ≡ cut_variable s items → IsFormedVar v
  formed_of v is = subst (λ (u : Var). IsFormedVar u) (sym is) (variable_formed s items)
