-- The last inferences of proofs stay in a larger arena.
use Rattle.std.proofs.Common.{◌≡◌, ℕ, List, subst}
use Rattle.std.specs.Prelude.{Result, IfOk}
use Rattle.lk_rules.specs.declared.sequent.Sequent.{Sequent}
use Rattle.lk_rules.specs.declared.sequent.Side.{Side}
use Rattle.lk_rules.specs.declared.sequent.Side.TheVariants.{Left, Right}
use Rattle.lk_rules.specs.Sequents.{adds_to}
use Rattle.proof_trees.specs.Trees.{Tree, node}
use Rattle.interp_laws.specs.Interpolation.{Interpolation, inferred}
use Rattle.arena_cells.specs.declared.key.RuleKey.{RuleKey}
use Rattle.arena_cells.specs.declared.key.Parts.TheVariants.{One}
use Rattle.arena_cells.specs.Items.{Item}
use Rattle.arena_cells.specs.Standing.{Extends, HasTree, formula_at, sequent_at, IsFormulaAt, IsSequentAt, IsTreeAt}
use Rattle.arena_cells.specs.Meaning.{rule_at, trees_at}
use Rattle.arena_cells.proofs.Staying.{rule_stays, trees_stay, rule_parts_there, premises_there, sequent_stays, formula_stays}
use Rattle.arena_interp.specs.declared.endings.Ending.{Ending}
use Rattle.arena_interp.specs.declared.interpolated.Interpolated.{Interpolated}
use Rattle.arena_interp.specs.Endings.{IsEndingAt, ended}
use Rattle.arena_interp.specs.Partitions.{IsInterpolatedAt, interpolation_at, HasInterpolation, number_of, with_number, part_number}

pub larger : (a b c : List Item) → Extends a b → Extends b c → Extends a c
larger a b c first second n t h = second n t (first n t h)

-- what was made, by another description
pub tree_same : {E : Type 0} (r : Result ℕ E) (a : List Item) (t u : Tree) → t ≡ u → IfOk r (λ n. HasTree a n t) → IfOk r (λ n. HasTree a n u)
tree_same r a t u same h = subst (λ (x : Tree). IfOk r (λ n. HasTree a n x)) same h

pub made_same : {E : Type 0} (r : Result Interpolated E) (a : List Item) (i j : Interpolation) → i ≡ j → IfOk r (HasInterpolation a i) → IfOk r (HasInterpolation a j)
made_same r a i j same h = subst (λ (x : Interpolation). IfOk r (HasInterpolation a x)) same h

module _ (a b : List Item) (grown : Extends a b) where
  pub ending_there : (e : Ending) → IsEndingAt a e → IsEndingAt b e
  ending_there e h = record { rule = rule_parts_there a b grown e.rule h.rule; premises = premises_there a b grown e.premises h.premises }

  pub ended_at : (e : Ending) (s : Sequent) (n : Sequent) → IsEndingAt a e → n ≡ s → node (rule_at b e.rule) n (trees_at b e.premises) ≡ node (rule_at a e.rule) s (trees_at a e.premises)
  ended_at e s n h is = λ i. node (rule_stays a b grown e.rule h.rule i) (is i) (trees_stay a b grown e.premises h.premises i)

  pub ended_stays : (e : Ending) (n f : ℕ) (side : Side) → IsEndingAt a e → IsSequentAt a n → IsFormulaAt a f → ended b e (sequent_at b n) side (formula_at b f) ≡ ended a e (sequent_at a n) side (formula_at a f)
  ended_stays e n f side h s k =
      ended_at e (adds_to (sequent_at a n) side (formula_at a f)) (adds_to (sequent_at b n) side (formula_at b f)) h (λ i. adds_to (sequent_stays a b grown n s i) side (formula_stays a b grown f k i))

-- the number of the proof in which the interpolant stands on that side
pub proof_there : (a : List Item) (n : Interpolated) (m : Side) → IsInterpolatedAt a n → IsTreeAt a (number_of n m)
proof_there a n Right h = h.first
proof_there a n Left h = h.second

-- an inference at the root of that proof
pub inferred_there : (a b : List Item) → Extends a b → (m : Side) (r : RuleKey) (one two n : ℕ) (i : Interpolated) → IsInterpolatedAt a i
    → HasTree b n (ended a (record { rule = r; premises = One (number_of i m) }) (sequent_at a (part_number one two m)) m (formula_at a i.formula))
    → HasInterpolation b (inferred m (rule_at a r) (sequent_at a one) (sequent_at a two) (interpolation_at a i)) (with_number i m n)
inferred_there a b grown Right r one two n i h tree = record { formula = grown i.formula _ h.formula; first = tree; second = grown i.second _ h.second }
inferred_there a b grown Left r one two n i h tree = record { formula = grown i.formula _ h.formula; first = grown i.first _ h.first; second = tree }
