-- The variables that are quantified in the interpolant.
use Rattle.std.proofs.Common.{◌≡◌, true, false, not, cond, filter, List, [], ◌∷◌, Option, Some, None, refl, sym, ap, ◌∙◌}
use Rattle.std.specs.List.{AllByRecursion}
use Rattle.std.specs.Ordering.{eq_by_cmp}
use Rattle.std.proofs.lemmas.Map.Views.{any-filter_same}
use Rattle.fol.specs.declared.symbols.Var.{Var}
use Rattle.fol.specs.Syntax.{Term, Formula}
use Rattle.fol.specs.Order.{var_cmp}
use Rattle.fol.specs.Formed.{IsFormedVar}
use Rattle.finite.specs.Finite as set
use Rattle.finite.proofs.Finite.{has-listing}
use Rattle.free_variables.specs.Occurrence.{is_free_in, is_free_in_term, vars_formula}
use Rattle.free_variables.proofs.OccurrenceLaws.{free_var_members}
use Rattle.substitution.proofs.ImageLaws.{itself, same_var}
use Rattle.lk_rules.specs.declared.sequent.Sequent.{Sequent}
use Rattle.lk_rules.specs.Sequents.{is_free_in_sequent}
use Rattle.proof_trees.specs.Occurrence.{passes}
use Rattle.proof_trees.proofs.Booleans.{or_first, or_second}
use Rattle.cut_laws.proofs.Sides.{clash}
use Rattle.interp_laws.specs.Interpolation.{vars_outside}
use Rattle.interp_laws.proofs.Holding.{IsOutside, among_vars}

-- the free variables of a formula, in rising order
abbrev listed : Formula → List Var
listed f = set.listing (vars_formula f set.empty)

free_listed : (v : Var) (f : Formula) → among_vars (listed f) v ≡ is_free_in v f
free_listed v f = sym (has-listing (vars_formula f set.empty) v) ∙ free_var_members f v

filtered : (s : Sequent) (vs : List Var) → ((v : Var) → among_vars vs v ≡ true → IsFormedVar v) → AllByRecursion (IsOutside s) (filter (λ x. not (is_free_in_sequent x s)) vs)
filtered s [] formed = tt
filtered s (v ∷ vs) formed =
    let rest : AllByRecursion (IsOutside s) (filter (λ x. not (is_free_in_sequent x s)) vs) =
    filtered s vs (λ w m. formed w (or_second (eq_by_cmp var_cmp w v) (among_vars vs w) m)) in
    elim (is_free_in_sequent v s) as (λ b. is_free_in_sequent v s ≡ b
    → AllByRecursion (IsOutside s) (cond (not b) (v ∷ filter (λ x. not (is_free_in_sequent x s)) vs) (filter (λ x. not (is_free_in_sequent x s)) vs))) [
      | true ↦ λ _. rest
      | false ↦ λ out. (record { formed = formed v (or_first (eq_by_cmp var_cmp v v) (among_vars vs v) (itself v)); out = out }, rest)
    ] refl

-- they may be quantified
pub all_outside : (o : Option Term) (f : Formula) (s : Sequent) → ((v : Var) → is_free_in v f ≡ true → IsFormedVar v) → AllByRecursion (IsOutside s) (vars_outside o f s)
all_outside None f s formed = tt
all_outside (Some t) f s formed = filtered s (listed f) (λ v m. formed v (sym (free_listed v f) ∙ m))

-- what is free in the formula and none of them is free in the sequent, where there is a term
pub inside : (o : Option Term) (f : Formula) (s : Sequent) (v : Var) → passes (is_free_in_term v) o ≡ true → is_free_in v f ≡ true → among_vars (vars_outside o f s) v ≡ false → is_free_in_sequent v s ≡ true
inside None f s v term free other = cc
inside (Some t) f s v term free other =
    elim (is_free_in_sequent v s) as (λ b. is_free_in_sequent v s ≡ b → b ≡ true) [
      | true ↦ λ _. refl
      | false ↦ λ out. clash (among_vars (vars_outside (Some t) f s) v) (one_of_them out) other
    ] refl
  where
    one_of_them : is_free_in_sequent v s ≡ false → among_vars (vars_outside (Some t) f s) v ≡ true
    one_of_them out =
        any-filter_same (eq_by_cmp var_cmp v) (λ x. not (is_free_in_sequent x s)) true
        (λ x same. ap (λ w. not (is_free_in_sequent w s)) (sym (same_var v x same)) ∙ ap not out)
        (listed f)
        ∙ (free_listed v f ∙ free)
