-- Trees by the numbers of their formulas.
use Rattle.std.proofs.Common.{◌≡◌, ℕ, ◌||◌, List, [], ◌∷◌, ◌++◌, map, Some, refl, sym, ap, subst, ◌∙◌, arith, rules}
use Rattle.std.specs.Prelude.{nat_eq}
use Rattle.std.specs.List.{All, list_any}
use Rattle.std.specs.Ordering.{eq_by_cmp}
use Rattle.std.proofs.lemmas.Bool.Decides.{nat_tests}
use Rattle.std.proofs.lemmas.List.{map-append}
use Rattle.std.proofs.lemmas.List.Elements.{All-head, All-tail, All-weaker, All-append, All-cons}
use Rattle.fol.specs.Syntax.{Formula}
use Rattle.fol.specs.Order.{formula_cmp}
use Rattle.proof_trees.proofs.FormulaSets.{equal, tied}
use Rattle.lk_rules.specs.declared.sequent.Side.{Side}
use Rattle.lk_rules.specs.declared.sequent.Side.TheVariants.{Left, Right}
use Rattle.expansion_laws.specs.Expansions.{Exp, shallow}
use Rattle.arena_cells.specs.Items.{Item, formula}
use Rattle.arena_cells.specs.Standing.{Extends, IsDistinct, HasFormula, formula_at, IsFormulaAt}
use Rattle.arena_cells.proofs.Staying.{is_formula as formula_is}
use Rattle.arena_cells.proofs.Facts as facts
use Rattle.arena.proofs.SetLaws.{same_truth}
use Rattle.building_laws.specs.Lists.{Placed, with_tree, trees_on}
use Rattle.building_laws.proofs.Conclusions.{is_formula}
use Rattle.arena_building.specs.Numbered.{Numbered, trees, IsNumbered}
use Rattle.arena_building.specs.Sides.{both_on, is_on, number_between, number_on, numbers_on}

pub numbered_stay : (a b : List Item) (l : List Numbered) → Extends a b → All (IsNumbered a) l → All (IsNumbered b) l
numbered_stay a b l grown h = All-weaker (IsNumbered a) (IsNumbered b) (λ q s. grown _ _ s) l h

-- numbers are equal just where the formulas at them are
pub same_number : (a : List Item) (m n : ℕ) (f g : Formula) → IsDistinct a → HasFormula a m f → HasFormula a n g → nat_eq m n ≡ eq_by_cmp formula_cmp g f
same_number a m n f g distinct h k =
    same_truth (nat_eq m n) (eq_by_cmp formula_cmp g f)
    (λ e.
    let same : m ≡ n = grind (arith, nat_tests) in
    let both : Some (formula g) ≡ Some (formula f) = sym k ∙ subst (λ i. HasFormula a i f) same h in
    tied g f (cc))
    (λ e.
    let there : HasFormula a m g = subst (λ (x : Formula). HasFormula a m x) (sym (equal g f e)) h in
    let same : m ≡ n = distinct m n (formula g) there k in
    grind (arith, nat_tests, same))

by_sides : (s : Side) (p : Placed) (f : Formula) → both_on s p.side (eq_by_cmp formula_cmp f (shallow p.tree)) ≡ is_formula s f p
by_sides Left p f = by_side p.side
  where
    by_side : (r : Side) → both_on Left r (eq_by_cmp formula_cmp f (shallow p.tree)) ≡ is_formula Left f (record { side = r; tree = p.tree })
    by_side Left = refl
    by_side Right = refl
by_sides Right p f = by_side p.side
  where
    by_side : (r : Side) → both_on Right r (eq_by_cmp formula_cmp f (shallow p.tree)) ≡ is_formula Right f (record { side = r; tree = p.tree })
    by_side Left = refl
    by_side Right = refl

-- a tree has the formula at a number on a side just where its formula has the number
pub stands_as : (a : List Item) (s : Side) (n : ℕ) (l : List Numbered) → IsDistinct a → IsFormulaAt a n → All (IsNumbered a) l → list_any (is_on s n) l ≡ list_any (is_formula s (formula_at a n)) (trees l)
stands_as a s n [] distinct there h = refl
stands_as a s n (q ∷ l) distinct there h = λ i.
    (ap (both_on s q.placed.side) (same_number a q.formula n (shallow q.placed.tree) (formula_at a n) distinct (All-head (IsNumbered a) q l h) there) ∙ by_sides s q.placed (formula_at a n)) i
    || stands_as a s n l distinct there (All-tail (IsNumbered a) q l h) i

-- the formulas of the trees on a side, by their numbers
on_side : (a : List Item) (s r : Side) (n : ℕ) (e : Exp) → HasFormula a n (shallow e) → map (formula_at a) (number_between s r n) ≡ map shallow (with_tree s r e [])
on_side a Left Left n e h = ap (λ (f : Formula). f ∷ []) (formula_is a n (shallow e) h)
on_side a Left Right n e h = refl
on_side a Right Left n e h = refl
on_side a Right Right n e h = ap (λ (f : Formula). f ∷ []) (formula_is a n (shallow e) h)

first_on : (s r : Side) (e : Exp) (es : List Exp) → map shallow (with_tree s r e es) ≡ map shallow (with_tree s r e []) ++ map shallow es
first_on Left Left e es = refl
first_on Left Right e es = refl
first_on Right Left e es = refl
first_on Right Right e es = refl

pub formulas_on : (a : List Item) (s : Side) (l : List Numbered) → All (IsNumbered a) l → map (formula_at a) (numbers_on s l) ≡ map shallow (trees_on s (trees l))
formulas_on a s [] h = refl
formulas_on a s (q ∷ l) h =
    map-append (formula_at a) (number_on s q) (numbers_on s l)
    ∙ (λ i. on_side a s q.placed.side q.formula q.placed.tree (All-head (IsNumbered a) q l h) i ++ formulas_on a s l (All-tail (IsNumbered a) q l h) i)
    ∙ sym (first_on s q.placed.side q.placed.tree (trees_on s (trees l)))

one_there : (a : List Item) (s r : Side) (n : ℕ) → IsFormulaAt a n → All (IsFormulaAt a) (number_between s r n)
one_there a Left Left n h = All-cons (IsFormulaAt a) n [] h (search rules)
one_there a Left Right n h = search rules
one_there a Right Left n h = search rules
one_there a Right Right n h = All-cons (IsFormulaAt a) n [] h (search rules)

pub numbers_there : (a : List Item) (s : Side) (l : List Numbered) → All (IsNumbered a) l → All (IsFormulaAt a) (numbers_on s l)
numbers_there a s [] h = search rules
numbers_there a s (q ∷ l) h =
    All-append (IsFormulaAt a) (number_on s q) (numbers_on s l)
    (one_there a s q.placed.side q.formula (facts.formula_there a q.formula (shallow q.placed.tree) (All-head (IsNumbered a) q l h)))
    (numbers_there a s l (All-tail (IsNumbered a) q l h))
