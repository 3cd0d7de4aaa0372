-- Fingerprints of rules and sequents: numbers in which unequal ones mostly differ.
use Rattle.std.specs.Prelude.{ℕ, Option, Some, None}
use Rattle.fol.specs.Mixing.{mixed}
use Rattle.fol.specs.Facts.{formula_fingerprint}
use Rattle.fol.specs.Syntax.{Formula}
use Rattle.finite.specs.Finite as set
use Rattle.lk_rules.specs.declared.rule.Rule.{Rule}
use Rattle.lk_rules.specs.declared.sequent.Sequent.{Sequent}
use Rattle.lk_rules.specs.Items.{list_fingerprint}
use Rattle.lk_rules.specs.RuleOrder.{rule_kind, formula_of}

-- that of a kind of rules with the formula that one of them names
unfoldable pub fingerprint_with : ℕ → Option Formula → ℕ
fingerprint_with kind None = mixed kind 0
fingerprint_with kind (Some a) = mixed kind (formula_fingerprint a)

-- that of a rule, by its kind and the formula that it names
abbrev pub rule_fingerprint : Rule → ℕ
rule_fingerprint r = fingerprint_with (rule_kind r) (formula_of r)

-- that of a sequent, by its sides
unfoldable pub sequent_fingerprint : Sequent → ℕ
sequent_fingerprint s = mixed (list_fingerprint (set.listing s.left)) (list_fingerprint (set.listing s.right))
