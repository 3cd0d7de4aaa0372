-- The sides of a sequent without the formula of a tree that was taken out.
use Rattle.std.proofs.Common.{◌≡◌, ℕ, Bool, true, false, not, ◌&&◌, ◌||◌, List, refl, sym, ap, subst, ◌∙◌}
use Rattle.std.specs.Ordering.{eq_by_cmp}
use Rattle.fol.specs.Syntax.{Formula}
use Rattle.fol.specs.Order.{formula_cmp}
use Rattle.fol.specs.OrderLaws.{formula_total}
use Rattle.fol.proofs.OrderTies.{formula_ties}
use Rattle.finite.specs.Finite as set
use Rattle.finite.proofs.Finite.{has-adds, same_members}
use Rattle.lk_rules.specs.Formulas.{FormulaSet}
use Rattle.lk_rules.specs.declared.sequent.Sequent.{Sequent}
use Rattle.lk_rules.specs.declared.sequent.Side.{Side}
use Rattle.lk_rules.specs.declared.sequent.Side.TheVariants.{Left, Right}
use Rattle.lk_rules.specs.Sequents.{side_of, adds_to}
use Rattle.lk_rules.proofs.Subsequents.{and_left, and_right}
use Rattle.proof_trees.proofs.FormulaSets.{equal}
use Rattle.arena_cells.specs.Items.{Item}
use Rattle.arena_cells.specs.Standing.{Extends, HasSide, side_at, IsSideAt}
use Rattle.arena_cells.proofs.Staying.{is_side}
use Rattle.arena_building.specs.Sides.{HasSides}
use Rattle.arena_building.specs.declared.sides.Sides.{Sides}
use Rattle.arena_building.proofs.Sequents.{same_sequents, has-adds_to}
use Rattle.building_laws.proofs.Conclusions.{same_side, side_same}

or_known : (a b : Bool) → (a ≡ true → b ≡ true) → (a || b) ≡ b
or_known true b h = sym (h refl)
or_known false b h = refl

-- a formula that is there already adds nothing
pub added_again : (s : Sequent) (at : Side) (g : Formula) → set.has (side_of s at) g ≡ true → adds_to s at g ≡ s
added_again s at g there = same_sequents _ _ (λ side f.
    has-adds_to s at side g f
    ∙ or_known (same_side side at && eq_by_cmp formula_cmp f g) (set.has (side_of s side) f) (λ e.
    (λ i. set.has (side_of s (side_same side at (and_left _ (eq_by_cmp formula_cmp f g) e) i)) (equal f g (and_right (same_side side at) _ e) i)) ∙ there))

other_than : (s : FormulaSet) (f g : Formula) → set.has s g ≡ false → (not (eq_by_cmp formula_cmp f g) && (eq_by_cmp formula_cmp f g || set.has s f)) ≡ set.has s f
other_than s f g gone =
    elim (eq_by_cmp formula_cmp f g) as (λ b. eq_by_cmp formula_cmp f g ≡ b → (not b && (b || set.has s f)) ≡ set.has s f) [
      | true ↦ λ e. sym (ap (set.has s) (equal f g e) ∙ gone)
      | false ↦ λ e. refl
    ] refl

-- the set that is left without a formula that was added
pub taken_away : (s t : FormulaSet) (g : Formula) → set.has s g ≡ false → ((f : Formula) → set.has t f ≡ (not (eq_by_cmp formula_cmp f g) && set.has (set.adds s g) f)) → t ≡ s
taken_away s t g gone members =
    same_members formula_total formula_ties t s (λ f. members f ∙ (ap (λ b. not (eq_by_cmp formula_cmp f g) && b) (has-adds formula_total s g f) ∙ other_than s f g gone))

-- the sides that are left, by their numbers
module _ (a b : List Item) (s : Sides) (n : ℕ) (e : Sequent) (g : Formula) (grown : Extends a b) (there : IsSideAt b n) where
  pub left_taken : HasSides a s (adds_to e Left g) → ((f : Formula) → set.has (side_at b n) f ≡ (not (eq_by_cmp formula_cmp f g) && set.has (side_at a s.left) f)) → set.has e.left g ≡ false
      → HasSides b (record { left = n; right = s.right }) e
  left_taken h members gone = record {
    left = subst (λ (t : FormulaSet). HasSide b n t) (taken_away e.left (side_at b n) g gone (λ f. members f ∙ ap (λ t. not (eq_by_cmp formula_cmp f g) && set.has t f) (is_side a s.left _ h.left))) there;
    right = grown _ _ h.right;
  }

  pub right_taken : HasSides a s (adds_to e Right g) → ((f : Formula) → set.has (side_at b n) f ≡ (not (eq_by_cmp formula_cmp f g) && set.has (side_at a s.right) f)) → set.has e.right g ≡ false
      → HasSides b (record { left = s.left; right = n }) e
  right_taken h members gone = record {
    left = grown _ _ h.left;
    right = subst (λ (t : FormulaSet). HasSide b n t) (taken_away e.right (side_at b n) g gone (λ f. members f ∙ ap (λ t. not (eq_by_cmp formula_cmp f g) && set.has t f) (is_side a s.right _ h.right))) there;
  }
