-- Sets of formulas by the lists that show them.
use Rattle.std.proofs.Common.{◌≡◌, ℕ, ◌+◌, ◌<◌, Bool, true, false, ◌||◌, List, [], ◌∷◌, ◌++◌, map, take, drop, length, get_or, append-nil, append_assoc, refl, sym, ap, ◌∙◌, arith}
use Rattle.std.specs.Prelude.{Some}
use Rattle.std.specs.FinMap as fin
use Rattle.std.specs.List.{All, list_all, list_any}
use Rattle.std.specs.Ordering.{eq_by_cmp}
use Rattle.std.proofs.lemmas.List.{map-append, take_more, get_or-drop}
use Rattle.std.proofs.lemmas.List.Elements.{All-weaker, All-push}
use Rattle.std.proofs.lemmas.List.Folds.{list_any-append}
use Rattle.std.proofs.lemmas.List.Sums.{AllPass-from_list_all}
use Rattle.fol.specs.declared.symbols.Var.{Var}
use Rattle.fol.specs.Syntax.{free, Formula}
use Rattle.fol.specs.Order.{var_cmp, formula_cmp}
use Rattle.fol.specs.OrderLaws.{var_total, formula_total}
use Rattle.fol.proofs.OrderTies.{var_ties, formula_ties}
use Rattle.fol.specs.Formed.{is_formed, IsFormed}
use Rattle.finite.specs.Finite as set
use Rattle.finite.proofs.Finite.{has-listing, same_members, all_among}
use Rattle.free_variables.specs.Union.{union_of}
use Rattle.free_variables.specs.Occurrence.{is_free_in, var_list, vars_formula}
use Rattle.free_variables.proofs.OccurrenceLaws.{is_free-var_list}
use Rattle.substitution.specs.Image.{image_term}
use Rattle.substitution.specs.Maps.{Map}
use Rattle.substitution.specs.Restriction.{restricted}
use Rattle.substitution.proofs.ImageLaws.{image-empty_term}
use Rattle.substitution.proofs.Restricting.{restricted_agrees}
use Rattle.lk_rules.specs.Formulas.{FormulaSet, image_set, var_lists}
use Rattle.lk_rules.proofs.Listings.{alike}
use Rattle.lk_rules.specs.declared.sequent.Sequent.{Sequent}
use Rattle.lk_rules.specs.Sequents.{vars_sequent}
use Rattle.proof_trees.proofs.Agreeing.{kept_sequent}
use Rattle.arena.specs.Tasks.{vars_side}
use Rattle.arena_cells.specs.Items.{Item, side}
use Rattle.arena_cells.specs.Standing.{Extends, HasFormula, HasSide, HasVariables, formula_at, side_at, map_at, variables_at, IsFormulaAt, IsSideAt, IsMapAt}
use Rattle.arena_cells.proofs.Staying.{is_formula, are_variables, formulas_stay, formula_there}
use Rattle.arena_cells.proofs.Facts as facts
use Rattle.arena.proofs.Results.{map_stays}
use Rattle.arena.proofs.SetLaws.{has-list, same_sets, list_any-map, any_listing, set_append}

-- one more formula stands at its number
pub each_there : (a b : List Item) (ns : List ℕ) (n : ℕ) (f : Formula) → Extends a b → All (IsFormulaAt a) ns → HasFormula b n f → All (IsFormulaAt b) (ns ++ n ∷ [])
each_there a b ns n f grown h s = All-push (IsFormulaAt b) ns n (All-weaker (IsFormulaAt a) (IsFormulaAt b) (formula_there a b grown) ns h) (facts.formula_there b n f s)

pub each_more : (a b : List Item) (ns : List ℕ) (n : ℕ) (f : Formula) → Extends a b → All (IsFormulaAt a) ns → HasFormula b n f → map (formula_at b) (ns ++ n ∷ []) ≡ map (formula_at a) ns ++ f ∷ []
each_more a b ns n f grown h s =
    map-append (formula_at b) ns (n ∷ []) ∙ (λ i. formulas_stay a b grown ns h i ++ is_formula b n f s i ∷ [])

-- the set of a set's listing
pub listed_set : (s : FormulaSet) → set.of_list (set.listing s) ≡ s
listed_set s = same_members formula_total formula_ties _ _ (λ q. has-list formula_total formula_ties (set.listing s) q ∙ sym (has-listing s q))

-- the image of the set of a list
pub image_shown : (g : Formula → Formula) (fs : List Formula) → set.adds_each (set.empty {R = formula_cmp}) (map g fs) ≡ set.of_list (map g (set.listing (set.adds_each (set.empty {R = formula_cmp}) fs)))
image_shown g fs = same_sets formula_total formula_ties _ _ (λ q.
    list_any-map (eq_by_cmp formula_cmp q) g fs
    ∙ sym (any_listing formula_total formula_ties (λ f. eq_by_cmp formula_cmp q (g f)) fs)
    ∙ sym (list_any-map (eq_by_cmp formula_cmp q) g (set.listing (set.adds_each (set.empty {R = formula_cmp}) fs))))

free_in_one : (v : Var) (fs : List Formula) → list_any (eq_by_cmp var_cmp v) (var_lists fs) ≡ list_any (is_free_in v) fs
free_in_one v [] = refl
free_in_one v (f ∷ fs) = list_any-append (eq_by_cmp var_cmp v) (var_list f) (var_lists fs) ∙ λ i. is_free-var_list v f i || free_in_one v fs i

-- the variables of the set of a list
pub vars_shown : (fs : List Formula) → set.adds_each (set.empty {R = var_cmp}) (var_lists fs) ≡ set.of_list (var_lists (set.listing (set.adds_each (set.empty {R = formula_cmp}) fs)))
vars_shown fs = same_sets var_total var_ties _ _ (λ v.
    free_in_one v fs ∙ sym (any_listing formula_total formula_ties (is_free_in v) fs)
    ∙ sym (free_in_one v (set.listing (set.adds_each (set.empty {R = formula_cmp}) fs))))

or_itself : (b : Bool) → (b || b) ≡ true → b ≡ true
or_itself true h = refl
or_itself false h = h

-- a set of whose free variables a map changes none is its own image
pub fixed_side : (m : Map) (s : FormulaSet) → restricted m (vars_side s) ≡ fin.empty → image_set (fin.get m) s ≡ s
fixed_side m s nothing = ap (λ (e : Sequent). e.left) (kept_sequent (fin.get m) (record { left = s; right = s }) (λ v h.
    let there : set.has (vars_side s) v ≡ true = has-list var_total var_ties (var_lists (set.listing s)) v ∙ free_in_one v (set.listing s) ∙ or_itself (list_any (is_free_in v) (set.listing s)) h in
    sym (restricted_agrees m (vars_side s) v there) ∙ ap (λ (k : Map). image_term (fin.get k) (free v)) nothing ∙ image-empty_term (free v)))

-- as it stands in a larger arena, where the variables were found
pub fixed_there : (a b : List Item) (m n k : ℕ) → Extends a b → IsMapAt a m → IsSideAt a n → HasVariables b k (vars_side (side_at a n)) → restricted (map_at b m) (variables_at b k) ≡ fin.empty
    → HasSide b n (image_set (fin.get (map_at a m)) (side_at a n))
fixed_there a b m n k grown map there vars nothing =
    let same : restricted (map_at a m) (vars_side (side_at a n)) ≡ restricted (map_at b m) (variables_at b k) = λ i. restricted (sym (map_stays a b grown m map) i) (sym (are_variables b k _ vars) i) in
    grown n _ there ∙ ap (λ (s : FormulaSet). Some (side s)) (sym (fixed_side (map_at a m) (side_at a n) (same ∙ nothing)))

var_lists-push : (fs : List Formula) (f : Formula) → var_lists (fs ++ f ∷ []) ≡ var_lists fs ++ var_list f
var_lists-push [] f = append-nil (var_list f)
var_lists-push (g ∷ fs) f = ap (λ vs. var_list g ++ vs) (var_lists-push fs f) ∙ sym (append_assoc (var_list g) (var_lists fs) (var_list f))

-- the variables of one more formula
pub vars_more : (fs : List Formula) (f : Formula) → union_of (set.adds_each (set.empty {R = var_cmp}) (var_lists fs)) (vars_formula f set.empty) ≡ set.of_list (var_lists (fs ++ f ∷ []))
vars_more fs f = sym (set_append var_total var_ties (var_lists fs) (var_list f)) ∙ ap set.of_list (sym (var_lists-push fs f))

-- what each member of a set passes, each of its list does
pub formed_members : (fs : List Formula) → list_all is_formed (set.listing (set.adds_each (set.empty {R = formula_cmp}) fs)) ≡ true → All IsFormed fs
formed_members fs h =
    AllPass-from_list_all is_formed fs (all_among formula_total is_formed (alike is_formed) (set.listing (set.adds_each (set.empty {R = formula_cmp}) fs)) fs h (λ q there.
    sym (has-listing (set.adds_each (set.empty {R = formula_cmp}) fs) q) ∙ has-list formula_total formula_ties fs q ∙ there))

pub map_taken : (g : ℕ → Formula) (ns : List ℕ) (i d : ℕ) → i < length ns → map g (take (i + 1) ns) ≡ map g (take i ns) ++ g (get_or ns i d) ∷ []
map_taken g ns i d within = ap (map g) (take_more ns i d within) ∙ map-append g (take i ns) (get_or ns i d ∷ [])

-- lists that go on alike have the same number there
pub same_at : (xs ys : List ℕ) (i d : ℕ) → drop i xs ≡ drop i ys → get_or xs i d ≡ get_or ys i d
same_at xs ys i d e =
    let here : i + 0 ≡ i = omega arith in
    ap (λ (k : ℕ). get_or xs k d) (sym here) ∙ sym (get_or-drop i xs 0 d) ∙ ap (λ (zs : List ℕ). get_or zs 0 d) e ∙ get_or-drop i ys 0 d ∙ ap (λ (k : ℕ). get_or ys k d) here

-- the variables of a sequent are those of its sides
pub vars_of_sequent : (e : Sequent) → union_of (vars_side e.left) (vars_side e.right) ≡ vars_sequent e
vars_of_sequent e = sym (set_append var_total var_ties (var_lists (set.listing e.left)) (var_lists (set.listing e.right)))
