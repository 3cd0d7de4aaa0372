-- The interpolations of inferences without premises, by numbers.
use Rattle.std.proofs.Common.{◌≡◌, ℕ, List, false, true, ap, ◌∙◌}
use Rattle.fol.specs.Syntax.{Formula, top, bot, not}
use Rattle.lk_rules.specs.declared.sequent.Sequent.{Sequent}
use Rattle.lk_rules.specs.declared.sequent.Side.{Side}
use Rattle.lk_rules.specs.declared.sequent.Side.TheVariants.{Left, Right}
use Rattle.lk_rules.specs.declared.rule.Rule.TheVariants as rule
use Rattle.lk_rules.specs.Sequents.{adds_to}
use Rattle.proof_trees.specs.Trees.{Tree, node, none, more}
use Rattle.interp_laws.specs.Interpolation.{at_leaf, at_axiom}
use Rattle.arena_cells.specs.declared.key.RuleKey.{RuleKey}
use Rattle.arena_cells.specs.declared.key.RuleKey.TheVariants.{TopR, BotL, NegL, NegR}
use Rattle.arena_cells.specs.declared.key.Parts.TheVariants.{Zero, One}
use Rattle.arena_cells.specs.Items.{Item}
use Rattle.arena_cells.specs.Standing.{Stands, Extends, HasFormula, HasTree, formula_at, sequent_at, IsFormulaAt, IsSequentAt}
use Rattle.arena_cells.specs.Meaning.{meaning, rule_at, HasParts, HasRuleParts}
use Rattle.arena_cells.proofs.Staying.{is_formula, is_tree, rule_stays, sequent_stays, formula_stays}
use Rattle.arena_cells.proofs.Facts as facts
use Rattle.arena_interp.specs.Endings.{concluded, concluded_on}
use Rattle.arena_interp.specs.BySide.{constant_key, constant_rule_of}
use Rattle.arena_interp.proofs.LastInferences.{larger}

module _ (a b : List Item) (grown : Extends a b) (r : RuleKey) (one two f : ℕ) (parts : HasRuleParts a r) (first : IsSequentAt a one) (second : IsSequentAt a two) where
  first_leaf : HasFormula b f bot → concluded b (sequent_at b one) (sequent_at b two) (formula_at b f) (record { rule = r; premises = Zero }) (record { rule = BotL; premises = Zero }) ≡ at_leaf Right (rule_at a r) (sequent_at a one) (sequent_at a two)
  first_leaf h = λ i. record {
    formula = is_formula b f bot h i;
    first = node (rule_stays a b grown r parts i) (adds_to (sequent_stays a b grown one first i) Right (is_formula b f bot h i)) none;
    second = node rule.BotL (adds_to (sequent_stays a b grown two second i) Left (is_formula b f bot h i)) none;
  }

  second_leaf : HasFormula b f top → concluded b (sequent_at b one) (sequent_at b two) (formula_at b f) (record { rule = TopR; premises = Zero }) (record { rule = r; premises = Zero }) ≡ at_leaf Left (rule_at a r) (sequent_at a one) (sequent_at a two)
  second_leaf h = λ i. record {
    formula = is_formula b f top h i;
    first = node rule.TopR (adds_to (sequent_stays a b grown one first i) Right (is_formula b f top h i)) none;
    second = node (rule_stays a b grown r parts i) (adds_to (sequent_stays a b grown two second i) Left (is_formula b f top h i)) none;
  }

-- by sides
pub constant_parts : (a : List Item) (m : Side) → HasParts a (constant_key m)
constant_parts a Right = tt
constant_parts a Left = tt

pub constant_rule_parts : (a : List Item) (m : Side) → HasRuleParts a (constant_rule_of m)
constant_rule_parts a Right = tt
constant_rule_parts a Left = tt

pub constant_there : (a b : List Item) (m : Side) (f : ℕ) → Stands b f (meaning a (constant_key m)) → IsFormulaAt b f
constant_there a b Right f h = facts.formula_there b f _ h
constant_there a b Left f h = facts.formula_there b f _ h

pub leaf_made : (a b : List Item) → Extends a b → (m : Side) (r : RuleKey) (one two f : ℕ) → HasRuleParts a r → IsSequentAt a one → IsSequentAt a two → Stands b f (meaning a (constant_key m))
    → concluded_on b m (sequent_at b one) (sequent_at b two) (formula_at b f) (record { rule = r; premises = Zero }) (record { rule = constant_rule_of m; premises = Zero }) ≡ at_leaf m (rule_at a r) (sequent_at a one) (sequent_at a two)
leaf_made a b grown Right r one two f parts first second h = first_leaf a b grown r one two f parts first second h
leaf_made a b grown Left r one two f parts first second h = second_leaf a b grown r one two f parts first second h

-- an axiom on a formula, with it on one side too
abbrev pub axiom_on : Formula → Sequent → Tree
axiom_on f s = node (rule.Ax f) s none

module _ (a b d : List Item) (grown : Extends a b) (more_grown : Extends b d) (f one two n p q : ℕ) (here : IsFormulaAt a f) (first : IsSequentAt a one) (second : IsSequentAt a two)
    (left : HasTree b p (axiom_on (formula_at a f) (adds_to (sequent_at a one) Left (formula_at a f)))) (right : HasTree b q (axiom_on (formula_at a f) (adds_to (sequent_at a two) Right (formula_at a f))))
    (negation : HasFormula d n (not (formula_at b f))) where
  negated : formula_at d n ≡ not (formula_at a f)
  negated = is_formula d n _ negation ∙ ap not (formula_stays a b grown f here)

  pub negated_axiom : concluded d (sequent_at d one) (sequent_at d two) (formula_at d n) (record { rule = NegR n; premises = One p }) (record { rule = NegL n; premises = One q }) ≡ at_axiom (formula_at a f) (sequent_at a one) (sequent_at a two) false true
  negated_axiom = λ i. record {
    formula = negated i;
    first = node (rule.NegR (negated i)) (adds_to (sequent_stays a d (larger a b d grown more_grown) one first i) Right (negated i)) (more (is_tree d p _ (more_grown p _ left) i) none);
    second = node (rule.NegL (negated i)) (adds_to (sequent_stays a d (larger a b d grown more_grown) two second i) Left (negated i)) (more (is_tree d q _ (more_grown q _ right) i) none);
  }
