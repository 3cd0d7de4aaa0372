-- The key of a rule with its formula unfolded.
use Rattle.std.proofs.Common.{◌≡◌, ℕ, List, refl, ap, ◌∙◌, sym, subst}
use Rattle.std.specs.Prelude.{IfSome}
use Rattle.lk_rules.specs.declared.rule.Rule.{Rule}
use Rattle.lk_rules.specs.declared.rule.Rule.TheVariants as rule
use Rattle.lk_rules.specs.RuleOrder.{formula_of, term_of, variable_of, map_rule}
use Rattle.arena_cells.specs.declared.key.RuleKey.{RuleKey}
use Rattle.arena_cells.specs.declared.key.RuleKey.TheVariants.{Ax, DefL, DefR}
use Rattle.arena_cells.specs.Items.{Item}
use Rattle.arena_cells.specs.Standing.{Extends, HasFormula, HasTerm, HasVariable}
use Rattle.arena_cells.specs.Meaning.{rule_at, HasRuleParts}
use Rattle.arena_proofs.specs.RuleNumbers.{key_of}
use Rattle.arena_proofs.proofs.RuleParts.{mapped_there}
use Rattle.def_laws.specs.Flat.{flat}
use Rattle.def_laws.specs.Unfolded.{flat_rule}
use Rattle.arena_flat.specs.Over.{weak_key}

abbrev weak_rule : Rule → Rule
weak_rule (rule.DefL x) = rule.Weak
weak_rule (rule.DefR x) = rule.Weak
weak_rule r = r

rule-weak : (a : List Item) (k : RuleKey) → rule_at a (weak_key k) ≡ weak_rule (rule_at a k)
rule-weak a (Ax f) = refl
rule-weak a k = refl

parts-weak : (a : List Item) (k : RuleKey) → HasRuleParts a k → HasRuleParts a (weak_key k)
parts-weak a (DefL f) h = tt
parts-weak a (DefR f) h = tt
parts-weak a k h = h

weak-map : (r : Rule) → weak_rule (map_rule flat (λ t. t) (λ y. y) r) ≡ flat_rule r
weak-map (rule.Ax x) = refl
weak-map r = refl

module _ (a b : List Item) (grown : Extends a b) (m n : ℕ) (k : RuleKey) (r : Rule) (is : k ≡ key_of r m n)
    (main : IfSome (formula_of r) (λ x. HasFormula a m (flat x))) (term : IfSome (term_of r) (HasTerm b n)) (variable : IfSome (variable_of r) (HasVariable b n))
    (q : RuleKey) (weak : q ≡ weak_key k) where
  pub flat_parts : HasRuleParts b q
  flat_parts = subst (λ (x : RuleKey). HasRuleParts b x) (sym weak) (parts-weak b k (mapped_there a b grown m n k r is flat (λ t. t) (λ y. y) main term variable).0)

  pub flat_there : rule_at b q ≡ flat_rule r
  flat_there =
      ap (rule_at b) weak ∙ rule-weak b k ∙ ap weak_rule (mapped_there a b grown m n k r is flat (λ t. t) (λ y. y) main term variable).1 ∙ weak-map r
