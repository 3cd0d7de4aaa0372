-- A formula is closed exactly where the set of its free variables is that of none.
use Rattle.std.proofs.Common.{◌≡◌, ◌↔◌, ℕ, Bool, true, false, ◌||◌, List, [], ◌∷◌, ◌++◌, IsTrue, refl, sym, ap, ◌∙◌, subst}
use Rattle.std.specs.Prelude.{Some, not as negated}
use Rattle.std.specs.List.{list_any}
use Rattle.std.specs.Ordering.{eq_by_cmp}
use Rattle.fol.specs.declared.symbols.Var.{Var}
use Rattle.fol.specs.Syntax.{Term, free, bound, app, Terms, nil, cons, Formula, atom, top, bot, not, and, or, imp, all, ex}
use Rattle.fol.specs.Facts.{is_term_open, are_terms_open, is_open}
use Rattle.fol.specs.Order.{var_cmp}
use Rattle.fol.specs.OrderLaws.{var_total}
use Rattle.fol.proofs.OrderTies.{var_ties}
use Rattle.finite.specs.Finite as set
use Rattle.finite.proofs.Finite.{has-empty}
use Rattle.free_variables.specs.Sets.{VarSet}
use Rattle.free_variables.specs.Occurrence.{var_list, var_list_term, var_list_terms, vars_formula}
use Rattle.free_variables.proofs.ShutLaws.{list-shut}
use Rattle.arena_cells.specs.Items.{Item, variables}
use Rattle.arena_cells.specs.ItemFacts.{is_open_item}
use Rattle.arena_cells.specs.Standing.{HasVariables, IsDistinct, IsFormulaAt, formula_at, item_at}
use Rattle.arena_cells.proofs.Facts.{formula_item}
use Rattle.arena_cells.proofs.Staying.{are_variables}
use Rattle.arena.specs.Lists.{is_closed_at, is_open_at}
use Rattle.arena.specs.Tasks.{vars_any}
use Rattle.arena.proofs.ClosedLaws.{not_true}
use Rattle.arena.proofs.SetLaws.{has-list, same_truth}
use Rattle.proof_trees.proofs.Passing.{itself}
use Rattle.arena.proofs.VariableLaws.{formula_known}

none_left : (xs ys : List Var) → xs ++ ys ≡ [] → xs ≡ []
none_left [] ys h = refl
none_left (x ∷ xs) ys h = cc

none_right : (xs ys : List Var) → xs ++ ys ≡ [] → ys ≡ []
none_right [] ys h = h
none_right (x ∷ xs) ys h = cc

or_neither : (b c : Bool) → b ≡ false → c ≡ false → (b || c) ≡ false
or_neither b c p q = rw p q

mutual
  closed_term : (t : Term) → var_list_term t ≡ [] → is_term_open t ≡ false
  closed_term (free v) h = cc
  closed_term (bound i) h = refl
  closed_term (app s ts) h = closed_terms ts h

  closed_terms : (ts : Terms) → var_list_terms ts ≡ [] → are_terms_open ts ≡ false
  closed_terms nil h = refl
  closed_terms (cons t ts) h =
      or_neither _ _ (closed_term t (none_left (var_list_term t) (var_list_terms ts) h)) (closed_terms ts (none_right (var_list_term t) (var_list_terms ts) h))

closed_parts : (f g : Formula) → (var_list f ≡ [] → is_open f ≡ false) → (var_list g ≡ [] → is_open g ≡ false) → var_list f ++ var_list g ≡ [] → (is_open f || is_open g) ≡ false
closed_parts f g p q h = or_neither _ _ (p (none_left (var_list f) (var_list g) h)) (q (none_right (var_list f) (var_list g) h))

closed_formula : (f : Formula) → var_list f ≡ [] → is_open f ≡ false
closed_formula (atom s ts) h = closed_terms ts h
closed_formula top h = refl
closed_formula bot h = refl
closed_formula (not f) h = closed_formula f h
closed_formula (and f g) h = closed_parts f g (closed_formula f) (closed_formula g) h
closed_formula (or f g) h = closed_parts f g (closed_formula f) (closed_formula g) h
closed_formula (imp f g) h = closed_parts f g (closed_formula f) (closed_formula g) h
closed_formula (all f) h = closed_formula f h
closed_formula (ex f) h = closed_formula f h

-- a list of none is empty
no_member : (vs : List Var) → set.adds_each (set.empty {R = var_cmp}) vs ≡ set.empty → vs ≡ []
no_member [] h = refl
no_member (v ∷ vs) h =
    let there : set.has (set.adds_each (set.empty {R = var_cmp}) (v ∷ vs)) v ≡ true =
    has-list var_total var_ties (v ∷ vs) v ∙ ap (λ b. b || list_any (eq_by_cmp var_cmp v) vs) (itself var_total var_ties v) in
    let nowhere : set.has (set.adds_each (set.empty {R = var_cmp}) (v ∷ vs)) v ≡ false = ap (λ s. set.has s v) h ∙ has-empty var_cmp v in
    let apart : true ≡ false = sym there ∙ nowhere in
    cc

pub no_variable : (f : Formula) → vars_formula f set.empty ≡ set.empty → is_open f ≡ false
no_variable f h = closed_formula f (no_member (var_list f) h)

module _ (a : List Item) (f : ℕ) (there : IsFormulaAt a f) where
  pub open_is : is_open_at a f ≡ is_open (formula_at a f)
  open_is = ap is_open_item (formula_item a f there)

  -- what is kept of a formula's variables tells whether it is closed
  pub closed_known : (vs none : ℕ) (b : Bool) → IsDistinct a → HasVariables a vs (vars_any (item_at a f)) → HasVariables a none set.empty → IsTrue b ↔ (vs ≡ none) → b ≡ is_closed_at a f
  closed_known vs none b once kept nothing decides =
      let found : HasVariables a vs (vars_formula (formula_at a f) set.empty) = formula_known a f vs there kept in
      same_truth b (is_closed_at a f)
      (λ yes.
      let same : HasVariables a vs set.empty = subst (λ (n : ℕ). HasVariables a n set.empty) (sym (decides.0 yes)) nothing in
      let empty : vars_formula (formula_at a f) set.empty ≡ set.empty = sym (are_variables a vs _ found) ∙ are_variables a vs _ same in
      ap negated (open_is ∙ no_variable (formula_at a f) empty))
      (λ closed.
      let shut : is_open (formula_at a f) ≡ false = sym open_is ∙ not_true (is_open_at a f) closed in
      let same : HasVariables a vs set.empty = found ∙ ap (λ (s : VarSet). Some (variables s)) (ap set.of_list (list-shut (formula_at a f) shut)) in
      decides.1 (once vs none _ same nothing))
