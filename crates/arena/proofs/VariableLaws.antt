-- The variables of what a key means.
use Rattle.std.proofs.Common.{◌≡◌, ℕ, List, refl, sym, ap, ◌∙◌}
use Rattle.std.specs.Prelude.{Some}
use Rattle.fol.specs.OrderLaws.{var_total}
use Rattle.fol.proofs.OrderTies.{var_ties}
use Rattle.finite.specs.Finite as set
use Rattle.free_variables.specs.Occurrence.{var_list_term, var_list_terms, var_list, vars_formula}
use Rattle.free_variables.specs.Union.{union_of}
use Rattle.arena_cells.specs.declared.key.Parts.TheVariants.{Zero, One, Two}
use Rattle.arena_cells.specs.declared.key.Key.{Key}
use Rattle.arena_cells.specs.declared.key.Key.TheVariants.{Symbol, Free, Bound, App, Nil, Cons, Atom, Defined, Top, Bot, Not, And, Or, Imp, All as Forall, Ex, Variables, Map, Side, Sequent, Tree}
use Rattle.arena_cells.specs.Items.{Item, variables}
use Rattle.arena_cells.specs.Standing.{Stands, Extends, HasVariables, IsFormulaAt, item_at, term_at, terms_at, formula_at, variables_at, IsThere}
use Rattle.arena_cells.specs.Meaning.{meaning, HasParts}
use Rattle.arena.specs.Changes.{parts_of, IsNoVariable}
use Rattle.arena.specs.Tasks.{vars_item, vars_any}
use Rattle.arena_cells.proofs.Staying.{item_is, are_variables}
use Rattle.arena_cells.proofs.Facts.{variables_there}
use Rattle.arena.proofs.Changing.{one_same, first_same, second_same}
use Rattle.arena.proofs.SetLaws.{set_append}
use Rattle.arena.proofs.Results.{item_stays}

pub vars_zero : (a : List Item) (k : Key) → IsNoVariable k → parts_of k ≡ Zero → vars_item (meaning a k) ≡ set.empty
vars_zero a (Symbol s) w e = refl
vars_zero a (Free v) w e = absurd w
vars_zero a (Bound i) w e = refl
vars_zero a (App s ts) w e = cc
vars_zero a Nil w e = refl
vars_zero a (Cons t ts) w e = cc
vars_zero a (Atom s ts) w e = cc
vars_zero a (Defined s f ts) w e = cc
vars_zero a Top w e = refl
vars_zero a Bot w e = refl
vars_zero a (Not f) w e = cc
vars_zero a (And f g) w e = cc
vars_zero a (Or f g) w e = cc
vars_zero a (Imp f g) w e = cc
vars_zero a (Forall f) w e = cc
vars_zero a (Ex f) w e = cc
vars_zero a (Variables ns) w e = refl
vars_zero a (Map vs ts) w e = refl
vars_zero a (Side ns) w e = refl
vars_zero a (Sequent l r) w e = refl
vars_zero a (Tree r n ps) w e = refl

-- the variables at the number of a part
at_part : (a : List Item) (n p : ℕ) (t : Item) → Stands a n t → n ≡ p → vars_item t ≡ vars_item (item_at a p)
at_part a n p t h e = ap vars_item (sym (item_is a n t h)) ∙ ap (λ (m : ℕ). vars_item (item_at a m)) e

pub vars_one : (a : List Item) (k : Key) (p : ℕ) → HasParts a k → parts_of k ≡ One p → vars_item (meaning a k) ≡ vars_item (item_at a p)
vars_one a (App s ts) p h e = at_part a ts p _ h.1 (one_same ts p e)
vars_one a (Atom s ts) p h e = at_part a ts p _ h.1 (one_same ts p e)
vars_one a (Defined s f ts) p h e = at_part a ts p _ h.1.1 (one_same ts p e)
vars_one a (Not f) p h e = at_part a f p _ h (one_same f p e)
vars_one a (Forall f) p h e = at_part a f p _ h (one_same f p e)
vars_one a (Ex f) p h e = at_part a f p _ h (one_same f p e)
vars_one a k p h e = cc

pub vars_two : (a : List Item) (k : Key) (p q : ℕ) → HasParts a k → parts_of k ≡ Two p q → vars_item (meaning a k) ≡ union_of (vars_item (item_at a p)) (vars_item (item_at a q))
vars_two a (Cons t ts) p q h e =
    set_append var_total var_ties (var_list_term (term_at a t)) (var_list_terms (terms_at a ts)) ∙ (λ i. union_of (at_part a t p _ h.0 (first_same t ts p q e) i) (at_part a ts q _ h.1 (second_same t ts p q e) i))
vars_two a (And f g) p q h e =
    set_append var_total var_ties (var_list (formula_at a f)) (var_list (formula_at a g)) ∙ (λ i. union_of (at_part a f p _ h.0 (first_same f g p q e) i) (at_part a g q _ h.1 (second_same f g p q e) i))
vars_two a (Or f g) p q h e =
    set_append var_total var_ties (var_list (formula_at a f)) (var_list (formula_at a g)) ∙ (λ i. union_of (at_part a f p _ h.0 (first_same f g p q e) i) (at_part a g q _ h.1 (second_same f g p q e) i))
vars_two a (Imp f g) p q h e =
    set_append var_total var_ties (var_list (formula_at a f)) (var_list (formula_at a g)) ∙ (λ i. union_of (at_part a f p _ h.0 (first_same f g p q e) i) (at_part a g q _ h.1 (second_same f g p q e) i))
vars_two a k p q h e = absurd (cc)

-- the union of the sets that were found for two parts, one after the other
pub vars_joined : (a b c d : List Item) (k : Key) (p q x y n : ℕ) → Extends a b → Extends b c → HasParts a k → parts_of k ≡ Two p q → IsThere a q
    → Stands b x (variables (vars_item (item_at a p))) → Stands c y (variables (vars_item (item_at b q)))
    → Stands d n (variables (union_of (variables_at c x) (variables_at c y))) → Stands d n (variables (vars_item (meaning a k)))
vars_joined a b c d k p q x y n grown more h e there s r u =
    let first = are_variables c x _ (more x _ s) in
    let second = are_variables c y _ r ∙ ap vars_item (item_stays a b grown q there) in
    u ∙ (λ i. Some (variables (union_of (first i) (second i)))) ∙ ap (λ v. Some (variables v)) (sym (vars_two a k p q h e))

-- the variables of a formula, as they are kept
pub formula_known : (a : List Item) (f n : ℕ) → IsFormulaAt a f → HasVariables a n (vars_any (item_at a f)) → HasVariables a n (vars_formula (formula_at a f) set.empty)
formula_known a f n there h = h ∙ ap (λ i. Some (variables (vars_any i))) (item_is a f _ there)

pub formula_noted : (a b : List Item) (f n : ℕ) → Extends a b → IsFormulaAt a f → HasVariables b n (vars_formula (formula_at a f) set.empty) → HasVariables b n (vars_any (item_at b f))
formula_noted a b f n grown there h = h ∙ ap (λ i. Some (variables (vars_any i))) (sym (item_is b f _ (grown f _ there)))

pub ruleset places = (are_variables, variables_there)
