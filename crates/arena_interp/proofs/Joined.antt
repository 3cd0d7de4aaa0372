-- The interpolations of inferences with two premises, by numbers.
use Rattle.std.proofs.Common.{◌≡◌, ℕ, List, refl, sym, ap, subst, ◌∙◌}
use Rattle.fol.specs.Syntax.{or, and}
use Rattle.lk_rules.specs.declared.sequent.Side.{Side}
use Rattle.lk_rules.specs.declared.sequent.Side.TheVariants.{Left, Right}
use Rattle.lk_rules.specs.declared.rule.Rule.TheVariants as rule
use Rattle.lk_rules.specs.Sequents.{adds_to}
use Rattle.proof_trees.specs.Trees.{node, none, more}
use Rattle.interp_laws.specs.Interpolation.{proof_of, both_over, with_or, with_and, joined}
use Rattle.arena_cells.specs.declared.key.RuleKey.{RuleKey}
use Rattle.arena_cells.specs.declared.key.RuleKey.TheVariants.{AndL, AndR, OrL, OrR}
use Rattle.arena_cells.specs.declared.key.Parts.TheVariants.{One, Two}
use Rattle.arena_cells.specs.Items.{Item}
use Rattle.arena_cells.specs.Standing.{Stands, Extends, HasFormula, HasSequent, HasTree, formula_at, sequent_at, tree_at, IsFormulaAt, IsSequentAt, IsTreeAt}
use Rattle.arena_cells.specs.Meaning.{meaning, rule_at, HasParts, HasRuleParts}
use Rattle.arena_cells.proofs.Staying.{is_formula, is_sequent, is_tree, rule_stays, rule_parts_there, sequent_stays, formula_stays, tree_stays, tree_there}
use Rattle.arena_cells.proofs.Facts as facts
use Rattle.arena_interp.specs.declared.interpolated.Interpolated.{Interpolated}
use Rattle.arena_interp.specs.Endings.{IsEndingAt, ended, concluded, concluded_on}
use Rattle.arena_interp.specs.BySide.{connective_key, single_rule, split_rule}
use Rattle.arena_interp.specs.Partitions.{IsInterpolatedAt, interpolation_at, number_of, other_number, part_number}
use Rattle.arena_interp.proofs.LastInferences.{larger, proof_there}

pub proof_is : (a : List Item) (n : Interpolated) (m : Side) → tree_at a (number_of n m) ≡ proof_of (interpolation_at a n) m
proof_is a n Right = refl
proof_is a n Left = refl

module _ (a b : List Item) (grown : Extends a b) (m : Side) (r : RuleKey) (s end p q : ℕ) (i j : Interpolated) (parts : HasRuleParts a r) (left : IsInterpolatedAt a i) (right : IsInterpolatedAt a j)
    (first : p ≡ number_of i m) (second : q ≡ number_of j m) where
  first_there : IsTreeAt a p
  first_there = subst (λ (n : ℕ). IsTreeAt a n) (sym first) (proof_there a i m left)

  second_there : IsTreeAt a q
  second_there = subst (λ (n : ℕ). IsTreeAt a n) (sym second) (proof_there a j m right)

  pub both_ending : IsEndingAt b (record { rule = r; premises = Two p q })
  both_ending = record { rule = rule_parts_there a b grown r parts; premises = (tree_there a b grown p first_there, tree_there a b grown q second_there) }

  first_is : tree_at b p ≡ proof_of (interpolation_at a i) m
  first_is = tree_stays a b grown p first_there ∙ ap (tree_at a) first ∙ proof_is a i m

  second_is : tree_at b q ≡ proof_of (interpolation_at a j) m
  second_is = tree_stays a b grown q second_there ∙ ap (tree_at a) second ∙ proof_is a j m

  pub both_made : HasSequent b end (adds_to (sequent_at a s) m (formula_at a i.formula)) → ended b (record { rule = r; premises = Two p q }) (sequent_at b end) m (formula_at b j.formula) ≡ both_over m (rule_at a r) (sequent_at a s) (interpolation_at a i) (interpolation_at a j)
  both_made h = λ k. node (rule_stays a b grown r parts k) (adds_to (is_sequent b end _ h k) m (formula_stays a b grown j.formula right.formula k)) (more (first_is k) (more (second_is k) none))

module _ (a b d : List Item) (grown : Extends a b) (more_grown : Extends b d) (r : RuleKey) (one two f p : ℕ) (i j : Interpolated) (first : IsSequentAt a one) (second : IsSequentAt a two) (left : IsInterpolatedAt a i) (right : IsInterpolatedAt a j) where
  whole : Extends a d
  whole = larger a b d grown more_grown

  module _ (above : HasTree b p (both_over Right (rule_at a r) (sequent_at a one) (interpolation_at a i) (interpolation_at a j))) (disjunction : HasFormula d f (or (formula_at b i.formula) (formula_at b j.formula))) where
    or_is : formula_at d f ≡ or (formula_at a i.formula) (formula_at a j.formula)
    or_is = is_formula d f _ disjunction ∙ λ k. or (formula_stays a b grown i.formula left.formula k) (formula_stays a b grown j.formula right.formula k)

    or_first : IsEndingAt d (record { rule = OrR f; premises = One p })
    or_first = record { rule = facts.formula_there d f _ disjunction; premises = facts.tree_there d p _ (more_grown p _ above) }

    or_second : IsEndingAt d (record { rule = OrL f; premises = Two i.second j.second })
    or_second = record { rule = facts.formula_there d f _ disjunction; premises = (tree_there a d whole i.second left.second, tree_there a d whole j.second right.second) }

    or_joined : concluded d (sequent_at d one) (sequent_at d two) (formula_at d f) (record { rule = OrR f; premises = One p }) (record { rule = OrL f; premises = Two i.second j.second })
        ≡ with_or (or (formula_at a i.formula) (formula_at a j.formula)) (rule_at a r) (sequent_at a one) (sequent_at a two) (interpolation_at a i) (interpolation_at a j)
    or_joined = λ k. record {
      formula = or_is k;
      first = node (rule.OrR (or_is k)) (adds_to (sequent_stays a d whole one first k) Right (or_is k)) (more (is_tree d p _ (more_grown p _ above) k) none);
      second = node (rule.OrL (or_is k)) (adds_to (sequent_stays a d whole two second k) Left (or_is k)) (more (tree_stays a d whole i.second left.second k) (more (tree_stays a d whole j.second right.second k) none));
    }

  module _ (above : HasTree b p (both_over Left (rule_at a r) (sequent_at a two) (interpolation_at a i) (interpolation_at a j))) (conjunction : HasFormula d f (and (formula_at b i.formula) (formula_at b j.formula))) where
    and_is : formula_at d f ≡ and (formula_at a i.formula) (formula_at a j.formula)
    and_is = is_formula d f _ conjunction ∙ λ k. and (formula_stays a b grown i.formula left.formula k) (formula_stays a b grown j.formula right.formula k)

    and_first : IsEndingAt d (record { rule = AndR f; premises = Two i.first j.first })
    and_first = record { rule = facts.formula_there d f _ conjunction; premises = (tree_there a d whole i.first left.first, tree_there a d whole j.first right.first) }

    and_second : IsEndingAt d (record { rule = AndL f; premises = One p })
    and_second = record { rule = facts.formula_there d f _ conjunction; premises = facts.tree_there d p _ (more_grown p _ above) }

    and_joined : concluded d (sequent_at d one) (sequent_at d two) (formula_at d f) (record { rule = AndR f; premises = Two i.first j.first }) (record { rule = AndL f; premises = One p })
        ≡ with_and (and (formula_at a i.formula) (formula_at a j.formula)) (rule_at a r) (sequent_at a one) (sequent_at a two) (interpolation_at a i) (interpolation_at a j)
    and_joined = λ k. record {
      formula = and_is k;
      first = node (rule.AndR (and_is k)) (adds_to (sequent_stays a d whole one first k) Right (and_is k)) (more (tree_stays a d whole i.first left.first k) (more (tree_stays a d whole j.first right.first k) none));
      second = node (rule.AndL (and_is k)) (adds_to (sequent_stays a d whole two second k) Left (and_is k)) (more (is_tree d p _ (more_grown p _ above) k) none);
    }

  -- by sides
  pub connective_there : (m : Side) → Stands d f (meaning b (connective_key m i.formula j.formula)) → IsFormulaAt d f
  connective_there Right h = facts.formula_there d f _ h
  connective_there Left h = facts.formula_there d f _ h

  pub single_ending : (m : Side) → HasTree b p (both_over m (rule_at a r) (sequent_at a (part_number one two m)) (interpolation_at a i) (interpolation_at a j)) → Stands d f (meaning b (connective_key m i.formula j.formula))
      → IsEndingAt d (record { rule = single_rule m f; premises = One p })
  single_ending Right above h = or_first above h
  single_ending Left above h = and_second above h

  pub split_ending : (m : Side) → HasTree b p (both_over m (rule_at a r) (sequent_at a (part_number one two m)) (interpolation_at a i) (interpolation_at a j)) → Stands d f (meaning b (connective_key m i.formula j.formula))
      → IsEndingAt d (record { rule = split_rule m f; premises = Two (other_number i m) (other_number j m) })
  split_ending Right above h = or_second above h
  split_ending Left above h = and_first above h

  pub joined_made : (m : Side) → HasTree b p (both_over m (rule_at a r) (sequent_at a (part_number one two m)) (interpolation_at a i) (interpolation_at a j)) → Stands d f (meaning b (connective_key m i.formula j.formula))
      → concluded_on d m (sequent_at d one) (sequent_at d two) (formula_at d f) (record { rule = single_rule m f; premises = One p }) (record { rule = split_rule m f; premises = Two (other_number i m) (other_number j m) })
      ≡ joined m (rule_at a r) (sequent_at a one) (sequent_at a two) (interpolation_at a i) (interpolation_at a j)
  joined_made Right above h = or_joined above h
  joined_made Left above h = and_joined above h

pub connective_parts : (a : List Item) (m : Side) (f g : ℕ) → IsFormulaAt a f → IsFormulaAt a g → HasParts a (connective_key m f g)
connective_parts a Right f g h k = (h, k)
connective_parts a Left f g h k = (h, k)
