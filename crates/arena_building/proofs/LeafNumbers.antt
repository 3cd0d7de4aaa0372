-- The numbers of leaves, and their formulas.
use Rattle.std.proofs.Common.{◌≡◌, ℕ, Bool, true, ◌||◌, List, [], ◌∷◌, ◌++◌, map, Option, Some, None, refl, sym, ap, subst, ◌∙◌, rules}
use Rattle.std.specs.Prelude.{option_map, option_to_list}
use Rattle.std.specs.List.{All, list_any}
use Rattle.std.specs.Ordering.{nat_cmp, eq_by_cmp}
use Rattle.std.specs.Cmp.{nat_cmp_total}
use Rattle.std.specs.FinMap as fin
use Rattle.std.proofs.lemmas.List.{map-append}
use Rattle.std.proofs.lemmas.List.Elements.{All-head, All-tail, All-append, All-cons}
use Rattle.std.proofs.lemmas.List.Folds.{list_any-append}
use Rattle.fol.specs.Syntax.{Formula}
use Rattle.fol.specs.Order.{formula_cmp}
use Rattle.proof_trees.proofs.FormulaSets.{equal, tied}
use Rattle.lk_rules.specs.declared.sequent.Side.{Side}
use Rattle.lk_rules.specs.declared.sequent.Side.TheVariants.{Left, Right}
use Rattle.expansion_laws.specs.Expansions.{Exp, wk, leaf, neg, conj, disj, impl, weak, strong, shallow}
use Rattle.arena_cells.specs.Items.{Item, formula}
use Rattle.arena_cells.specs.Standing.{IsDistinct, HasFormula, formula_at, IsFormulaAt}
use Rattle.arena_cells.proofs.Staying.{is_formula}
use Rattle.arena_cells.proofs.Facts as facts
use Rattle.arena.proofs.SetLaws.{same_truth, list_any-map}
use Rattle.proof_trees.proofs.Passing.{same_here, itself}
use Rattle.building_laws.specs.Lists.{Placed, with_tree, trees_on, leaf_formulas}
use Rattle.arena_building.specs.Leaves.{leaf_formula, leaf_between, leaf_on, is_leaf_on, leaf_number, leaf_numbers, is_number_in, is_leaf_at}
use Rattle.arena_building.specs.Numbered.{Numbered, trees, IsNumbered}
use Rattle.arena_building.specs.Putting.{put}
use Rattle.arena_building.proofs.Puts.{any_put}

-- a number is that of a leaf just where some tree is such a leaf
pub leaf_at : (s : Side) (n : ℕ) (l : List Numbered) → list_any (is_leaf_at s n) l ≡ is_number_in (leaf_numbers s l) n
leaf_at s n [] = refl
leaf_at s n (q ∷ l) = ap (λ b. is_leaf_at s n q || b) (leaf_at s n l) ∙ sym (list_any-append (eq_by_cmp nat_cmp n) (option_to_list (leaf_number s q)) (leaf_numbers s l))

pub leaf_at_put : (s : Side) (n : ℕ) (l : List Numbered) (k : ℕ) (qs : List Numbered) → is_number_in (leaf_numbers s (put l k qs)) n ≡ (is_number_in (leaf_numbers s qs) n || is_number_in (leaf_numbers s l) n)
leaf_at_put s n l k qs = sym (leaf_at s n (put l k qs)) ∙ (any_put (is_leaf_at s n) l k qs ∙ λ i. leaf_at s n qs i || leaf_at s n l i)

-- the formula of a leaf is the tree's
at_leaf : (e : Exp) (f : Formula) → leaf_formula e ≡ Some f → shallow e ≡ f
at_leaf (wk g) f e = cc
at_leaf (leaf g) f e = cc
at_leaf (neg d) f e = cc
at_leaf (conj c d) f e = cc
at_leaf (disj c d) f e = cc
at_leaf (impl c d) f e = cc
at_leaf (weak g is) f e = cc
at_leaf (strong g y d) f e = cc

between : (s r : Side) (e : Exp) (f : Formula) → leaf_between s r e ≡ Some f → shallow e ≡ f
between Left Left e f h = at_leaf e f h
between Left Right e f h = cc
between Right Left e f h = cc
between Right Right e f h = at_leaf e f h

formula_of_leaf : (a : List Item) (s : Side) (q : Numbered) → IsNumbered a q → option_to_list (leaf_on s q.placed) ≡ map (formula_at a) (option_to_list (leaf_number s q))
formula_of_leaf a s q h =
    elim (leaf_on s q.placed) as (λ o. leaf_on s q.placed ≡ o → option_to_list o ≡ map (formula_at a) (option_to_list (option_map (λ f. q.formula) o))) [
      | None ↦ λ e. refl
      | Some f ↦ λ e. ap (λ (g : Formula). g ∷ []) (sym (between s q.placed.side q.placed.tree f e) ∙ sym (is_formula a q.formula (shallow q.placed.tree) h))
    ] refl

leaf_of : (e : Exp) (es : List Exp) → leaf_formulas (e ∷ es) ≡ option_to_list (leaf_formula e) ++ leaf_formulas es
leaf_of (wk f) es = refl
leaf_of (leaf f) es = refl
leaf_of (neg e) es = refl
leaf_of (conj d e) es = refl
leaf_of (disj d e) es = refl
leaf_of (impl d e) es = refl
leaf_of (weak f is) es = refl
leaf_of (strong f y e) es = refl

leaf_with : (s r : Side) (e : Exp) (es : List Exp) → leaf_formulas (with_tree s r e es) ≡ option_to_list (leaf_between s r e) ++ leaf_formulas es
leaf_with Left Left e es = leaf_of e es
leaf_with Left Right e es = refl
leaf_with Right Left e es = refl
leaf_with Right Right e es = leaf_of e es

-- the leaves on a side: that of the first tree, and those of the others
pub leaf_first : (s : Side) (p : Placed) (l : List Placed) → leaf_formulas (trees_on s (p ∷ l)) ≡ option_to_list (leaf_on s p) ++ leaf_formulas (trees_on s l)
leaf_first s p l = leaf_with s p.side p.tree (trees_on s l)

pub leaves_numbered : (a : List Item) (s : Side) (l : List Numbered) → All (IsNumbered a) l → leaf_formulas (trees_on s (trees l)) ≡ map (formula_at a) (leaf_numbers s l)
leaves_numbered a s [] h = refl
leaves_numbered a s (q ∷ l) h =
    leaf_first s q.placed (trees l)
    ∙ (λ i. formula_of_leaf a s q (All-head (IsNumbered a) q l h) i ++ leaves_numbered a s l (All-tail (IsNumbered a) q l h) i)
    ∙ sym (map-append (formula_at a) (option_to_list (leaf_number s q)) (leaf_numbers s l))

-- a test that some leaf passes, asked tree by tree
pub any_leaf : (t : Formula → Bool) (s : Side) (l : List Placed) → list_any (λ p. list_any t (option_to_list (leaf_on s p))) l ≡ list_any t (leaf_formulas (trees_on s l))
any_leaf t s [] = refl
any_leaf t s (p ∷ l) =
    ap (λ b. list_any t (option_to_list (leaf_on s p)) || b) (any_leaf t s l)
    ∙ sym (ap (list_any t) (leaf_first s p l) ∙ list_any-append t (option_to_list (leaf_on s p)) (leaf_formulas (trees_on s l)))

one_there : (a : List Item) (n : ℕ) (o : Option Formula) → IsFormulaAt a n → All (IsFormulaAt a) (option_to_list (option_map (λ f. n) o))
one_there a n None h = search rules
one_there a n (Some f) h = All-cons (IsFormulaAt a) n [] h (search rules)

pub leaves_there : (a : List Item) (s : Side) (l : List Numbered) → All (IsNumbered a) l → All (IsFormulaAt a) (leaf_numbers s l)
leaves_there a s [] h = search rules
leaves_there a s (q ∷ l) h =
    All-append (IsFormulaAt a) (option_to_list (leaf_number s q)) (leaf_numbers s l)
    (one_there a q.formula (leaf_on s q.placed) (facts.formula_there a q.formula (shallow q.placed.tree) (All-head (IsNumbered a) q l h)))
    (leaves_there a s l (All-tail (IsNumbered a) q l h))

-- formulas are equal just where their numbers are
same_at : (a : List Item) (m n : ℕ) → IsDistinct a → IsFormulaAt a m → IsFormulaAt a n → eq_by_cmp formula_cmp (formula_at a m) (formula_at a n) ≡ eq_by_cmp nat_cmp m n
same_at a m n distinct h k =
    same_truth (eq_by_cmp formula_cmp (formula_at a m) (formula_at a n)) (eq_by_cmp nat_cmp m n)
    (λ e.
    let there : HasFormula a m (formula_at a n) = subst (λ (x : Formula). HasFormula a m x) (equal (formula_at a m) (formula_at a n) e) h in
    subst (λ i. eq_by_cmp nat_cmp m i ≡ true) (distinct m n (formula (formula_at a n)) there k) (itself nat_cmp_total fin.nat_cmp-IsAntisymmetric m))
    (λ e. tied (formula_at a m) (formula_at a n) (ap (formula_at a) (same_here nat_cmp_total fin.nat_cmp-IsAntisymmetric m n e)))

pub any_at : (a : List Item) (n : ℕ) (ns : List ℕ) → IsDistinct a → IsFormulaAt a n → All (IsFormulaAt a) ns → list_any (eq_by_cmp formula_cmp (formula_at a n)) (map (formula_at a) ns) ≡ is_number_in ns n
any_at a n [] distinct h k = refl
any_at a n (m ∷ ns) distinct h k = λ i. same_at a n m distinct h (All-head (IsFormulaAt a) m ns k) i || any_at a n ns distinct h (All-tail (IsFormulaAt a) m ns k) i

-- the formula at a number is that of a leaf just where the number is
pub leaf_numbered : (a : List Item) (s : Side) (l : List Numbered) (n : ℕ) → IsDistinct a → All (IsNumbered a) l → IsFormulaAt a n → is_leaf_on s (trees l) (formula_at a n) ≡ is_number_in (leaf_numbers s l) n
leaf_numbered a s l n distinct numbers there =
    any_leaf (eq_by_cmp formula_cmp (formula_at a n)) s (trees l)
    ∙ (ap (list_any (eq_by_cmp formula_cmp (formula_at a n))) (leaves_numbered a s l numbers)
    ∙ any_at a n (leaf_numbers s l) distinct there (leaves_there a s l numbers))

-- a test of trees, asked of those with numbers
pub any_tree : (t : Placed → Bool) (l : List Numbered) → list_any t (trees l) ≡ list_any (λ q. t q.placed) l
any_tree t l = list_any-map t (λ (q : Numbered). q.placed) l
