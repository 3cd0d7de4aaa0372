-- A variable of a list stands in a term just where one of the term's variables is in the set of the list.
use Rattle.std.proofs.Common.{◌≡◌, Bool, true, false, ◌||◌, List, [], ◌∷◌, refl, sym, ap, ◌∙◌}
use Rattle.std.specs.Prelude.{not}
use Rattle.std.specs.List.{list_any}
use Rattle.std.specs.Ordering.{eq_by_cmp}
use Rattle.std.proofs.lemmas.Cmp.{eq_by_cmp_equiv}
use Rattle.fol.specs.declared.symbols.Var.{Var}
use Rattle.fol.specs.Syntax.{Term}
use Rattle.fol.specs.Order.{var_cmp}
use Rattle.fol.specs.OrderLaws.{var_total}
use Rattle.finite.specs.Finite as set
use Rattle.finite.proofs.Finite.{has-adds_each, has-empty}
use Rattle.free_variables.specs.Occurrence.{is_free_in_term, var_list_term}
use Rattle.free_variables.proofs.OccurrenceLaws.{is_free-var_list_term}
use Rattle.building_laws.specs.Building.{is_ready}
use Rattle.arena_building.specs.Choosing.{has_some}

parts_or : (a b c d : Bool) → ((a || b) || (c || d)) ≡ ((a || c) || (b || d))
parts_or true b c d = refl
parts_or false true true d = refl
parts_or false true false d = refl
parts_or false false c d = refl

-- two tests, of which one element or another passes one
any_either : {X : Type 0} (p q : X → Bool) (xs : List X) → list_any (λ x. p x || q x) xs ≡ (list_any p xs || list_any q xs)
any_either p q [] = refl
any_either p q (x ∷ xs) = ap (λ b. (p x || q x) || b) (any_either p q xs) ∙ parts_or (p x) (q x) (list_any p xs) (list_any q xs)

any_false : {X : Type 0} (xs : List X) → list_any (λ x. false) xs ≡ false
any_false [] = refl
any_false (x ∷ xs) = any_false xs

-- whether some pair is so may be asked in either order
any_swapped : {X Y : Type 0} (r : X → Y → Bool) (xs : List X) (ys : List Y) → list_any (λ x. list_any (r x) ys) xs ≡ list_any (λ y. list_any (λ x. r x y) xs) ys
any_swapped r [] ys = sym (any_false ys)
any_swapped r (x ∷ xs) ys = ap (λ b. list_any (r x) ys || b) (any_swapped r xs ys) ∙ sym (any_either (r x) (λ y. list_any (λ z. r z y) xs) ys)

in_set : (vs : List Var) (v : Var) → set.has (set.adds_each (set.empty {R = var_cmp}) vs) v ≡ list_any (eq_by_cmp var_cmp v) vs
in_set vs v = has-adds_each var_total set.empty vs v ∙ ap (λ b. b || list_any (eq_by_cmp var_cmp v) vs) (has-empty var_cmp v)

some_stands : (vs : List Var) (t : Term) → has_some (set.of_list vs) t ≡ list_any (λ v. is_free_in_term v t) vs
some_stands vs t =
    (λ i. list_any (λ u. in_set vs u i) (var_list_term t))
    ∙ (any_swapped (eq_by_cmp var_cmp) (var_list_term t) vs
    ∙ (λ i. list_any (λ v. ((λ j. list_any (λ u. (eq_by_cmp_equiv var_total).symm u v j) (var_list_term t)) ∙ is_free-var_list_term v t) i) vs))

pub ready_by_set : (vs : List Var) (t : Term) → is_ready vs t ≡ not (has_some (set.of_list vs) t)
ready_by_set vs t = ap not (sym (some_stands vs t))
