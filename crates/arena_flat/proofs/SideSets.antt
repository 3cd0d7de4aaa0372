-- Sides with all unfolded, and their formulas.
use Rattle.std.proofs.Common.{◌≡◌, ℕ, true, false, List, [], ◌∷◌, map, refl, sym, ap, subst, ◌∙◌}
use Rattle.std.specs.List.{All, list_any}
use Rattle.std.specs.Ordering.{eq_by_cmp}
use Rattle.std.proofs.lemmas.List.Elements.{All-head, All-tail}
use Rattle.fol.specs.Syntax.{Formula}
use Rattle.fol.specs.Facts.{has_body}
use Rattle.fol.specs.Order.{formula_cmp}
use Rattle.fol.specs.OrderLaws.{formula_total}
use Rattle.fol.proofs.OrderTies.{formula_ties}
use Rattle.finite.specs.Finite as set
use Rattle.lk_rules.specs.declared.sequent.Sequent.{Sequent}
use Rattle.lk_rules.specs.declared.sequent.Side.TheVariants.{Left, Right}
use Rattle.lk_rules.specs.Formulas.{FormulaSet}
use Rattle.proof_trees.proofs.Booleans.{either}
use Rattle.proof_trees.proofs.FormulaSets.{equal}
use Rattle.arena_cells.specs.Items.{Item}
use Rattle.arena_cells.specs.Standing.{HasSide, formula_at, side_at}
use Rattle.arena_cells.specs.Meaning.{formulas_of}
use Rattle.arena_cells.proofs.Staying.{is_side}
use Rattle.arena.proofs.SetLaws.{has-list, any_listing}
use Rattle.arena.proofs.SideLaws.{image_shown}
use Rattle.def_laws.specs.Flat.{flat, flat_set}
use Rattle.arena_flat.specs.PlainParts.{IsPlainSide}
use Rattle.arena_flat.specs.Short.{IsShort, HasShortSides}

mapped_twice : (g : ℕ → Formula) (h : Formula → Formula) (ns : List ℕ) → map (λ n. h (g n)) ns ≡ map h (map g ns)
mapped_twice g h [] = refl
mapped_twice g h (n ∷ ns) = ap (λ fs. h (g n) ∷ fs) (mapped_twice g h ns)

-- the set of a side's formulas with all unfolded
pub side_shown : (a b : List Item) (s : FormulaSet) (ns ms : List ℕ) → s ≡ formulas_of a ns → map (formula_at b) ms ≡ map (λ n. flat (formula_at a n)) ns → formulas_of b ms ≡ flat_set s
side_shown a b s ns ms shown each =
    ap set.of_list (each ∙ mapped_twice (formula_at a) flat ns) ∙ image_shown flat (map (formula_at a) ns) ∙ ap flat_set (sym shown)

-- what holds of the formula at each number holds of each formula of the set
among_formulas : (P : Formula → Type 0) (g : ℕ → Formula) (ns : List ℕ) (f : Formula) → All (λ n. P (g n)) ns → list_any (eq_by_cmp formula_cmp f) (map g ns) ≡ true → P f
among_formulas P g [] f each e = cc
among_formulas P g (n ∷ ns) f each e =
    either (eq_by_cmp formula_cmp f (g n)) (list_any (eq_by_cmp formula_cmp f) (map g ns))
    (λ same. subst P (sym (equal f (g n) same)) (All-head (λ m. P (g m)) n ns each))
    (among_formulas P g ns f (All-tail (λ m. P (g m)) n ns each))
    e

short_members : (a : List Item) (s : FormulaSet) (ns : List ℕ) → s ≡ formulas_of a ns → All (λ n. IsShort (formula_at a n)) ns → (f : Formula) → set.has s f ≡ true → IsShort f
short_members a s ns shown each f e =
    among_formulas IsShort (formula_at a) ns f each (sym (has-list formula_total formula_ties (map (formula_at a) ns) f) ∙ ap (λ x. set.has x f) (sym shown) ∙ e)

pub short_sides : (a : List Item) (s : Sequent) (l r : ℕ) (ls rs : List ℕ) → HasSide a l s.left → HasSide a r s.right → side_at a l ≡ formulas_of a ls → side_at a r ≡ formulas_of a rs
    → All (λ n. IsShort (formula_at a n)) ls → All (λ n. IsShort (formula_at a n)) rs → HasShortSides s
short_sides a s l r ls rs left right left_shown right_shown left_each right_each Left = short_members a s.left ls (sym (is_side a l s.left left) ∙ left_shown) left_each
short_sides a s l r ls rs left right left_shown right_shown left_each right_each Right = short_members a s.right rs (sym (is_side a r s.right right) ∙ right_shown) right_each

-- no symbol in a side has a body where none in the formulas at the numbers has one
pub plain_side : (a : List Item) (s : FormulaSet) (ns : List ℕ) → s ≡ formulas_of a ns → list_any has_body (map (formula_at a) ns) ≡ false → IsPlainSide s
plain_side a s ns shown none =
    ap (λ x. list_any has_body (set.listing x)) shown ∙ any_listing formula_total formula_ties has_body (map (formula_at a) ns) ∙ none
