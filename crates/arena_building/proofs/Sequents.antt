-- The sequent of a list's formulas, where trees are added or one is taken out.
use Rattle.std.proofs.Common.{◌≡◌, ℕ, Bool, true, false, ◌&&◌, ◌||◌, List, [], ◌∷◌, Some, refl, sym, ap, ◌∙◌}
use Rattle.std.specs.List.{list_any, remove, slice_get}
use Rattle.std.specs.Ordering.{eq_by_cmp}
use Rattle.fol.specs.Syntax.{Formula}
use Rattle.fol.specs.Order.{formula_cmp}
use Rattle.fol.specs.OrderLaws.{formula_total}
use Rattle.fol.proofs.OrderTies.{formula_ties}
use Rattle.finite.specs.Finite as set
use Rattle.finite.proofs.Finite.{has-adds, same_members}
use Rattle.lk_rules.specs.declared.sequent.Sequent.{Sequent}
use Rattle.lk_rules.specs.declared.sequent.Side.{Side}
use Rattle.lk_rules.specs.declared.sequent.Side.TheVariants.{Left, Right}
use Rattle.lk_rules.specs.Sequents.{side_of, adds_to}
use Rattle.expansion_laws.specs.Expansions.{shallow}
use Rattle.building_laws.specs.Lists.{Placed, conclusion}
use Rattle.building_laws.proofs.Conclusions.{same_side, is_formula, has-conclusion}
use Rattle.arena_building.specs.Putting.{put}
use Rattle.arena_building.specs.Sides.{added_to}
use Rattle.arena_building.proofs.Puts.{any_put, put_back}

-- sequents whose sides have the same members are equal
pub same_sequents : (s t : Sequent) → ((side : Side) (f : Formula) → set.has (side_of s side) f ≡ set.has (side_of t side) f) → s ≡ t
same_sequents s t alike = λ i. record {
  left = same_members formula_total formula_ties s.left t.left (alike Left) i;
  right = same_members formula_total formula_ties s.right t.right (alike Right) i;
}

pub has-adds_to : (s : Sequent) (at side : Side) (g f : Formula) → set.has (side_of (adds_to s at g) side) f ≡ ((same_side side at && eq_by_cmp formula_cmp f g) || set.has (side_of s side) f)
has-adds_to s Left Left g f = has-adds formula_total s.left g f
has-adds_to s Left Right g f = refl
has-adds_to s Right Left g f = refl
has-adds_to s Right Right g f = has-adds formula_total s.right g f

or_regrouped : (a b c d : Bool) → b ≡ (c || d) → (a || b) ≡ ((a || c) || d)
or_regrouped true b c d e = refl
or_regrouped false b c d e = e

pub has-added_to : (s : Sequent) (ps : List Placed) (side : Side) (f : Formula) → set.has (side_of (added_to s ps) side) f ≡ (list_any (is_formula side f) ps || set.has (side_of s side) f)
has-added_to s [] side f = refl
has-added_to s (p ∷ ps) side f =
    has-adds_to (added_to s ps) p.side side (shallow p.tree) f
    ∙ or_regrouped (is_formula side f p) (set.has (side_of (added_to s ps) side) f) (list_any (is_formula side f) ps) (set.has (side_of s side) f) (has-added_to s ps side f)

-- the sequent of a list with more trees
pub conclusion_put : (l : List Placed) (n : ℕ) (ps : List Placed) → conclusion (put l n ps) ≡ added_to (conclusion l) ps
conclusion_put l n ps = same_sequents _ _ (λ side f.
    has-conclusion (put l n ps) side f
    ∙ any_put (is_formula side f) l n ps
    ∙ ap (λ b. list_any (is_formula side f) ps || b) (sym (has-conclusion l side f))
    ∙ sym (has-added_to (conclusion l) ps side f))

-- the sequent of a list, by the tree at a place and the others
pub conclusion_removed : (l : List Placed) (n : ℕ) (p : Placed) → slice_get l n ≡ Some p → conclusion l ≡ adds_to (conclusion (remove l n)) p.side (shallow p.tree)
conclusion_removed l n p there = ap conclusion (sym (put_back l n p there)) ∙ conclusion_put (remove l n) n (p ∷ [])
