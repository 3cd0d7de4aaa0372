-- What a search does at a sequent.
--     closing_rule, IsClosing      a rule without premises, and that its formula has a number
--     IsChoice      a choice is that of the rule that is taken
use Rattle.std.specs.Prelude.{◌≡◌, ◌<◌, true, List, length, Option, Some, None}
use Rattle.fol.specs.Syntax.{Formula}
use Rattle.lk_rules.specs.declared.sequent.Sequent.{Sequent}
use Rattle.lk_rules.specs.declared.rule.Rule.{Rule}
use Rattle.lk_rules.specs.declared.rule.Rule.TheVariants.{Ax, TopR, BotL}
use Rattle.search_laws.specs.Search.{is_compound, rule_at}
use Rattle.prop_search.specs.declared.choices.Closing.{Closing}
use Rattle.prop_search.specs.declared.choices.Closing.TheVariants.{Axiom, Truth, Falsity}
use Rattle.prop_search.specs.declared.choices.Choice.{Choice}
use Rattle.prop_search.specs.declared.choices.Choice.TheVariants.{Close, Main}
use Rattle.prop_search.specs.Formulas.{formula_at}
use Rattle.prop_search.specs.Premises.{rule_on}

-- the rule without premises
abbrev pub closing_rule : List Formula → Closing → Rule
closing_rule fs (Axiom n) = Ax (formula_at fs n)
closing_rule fs Truth = TopR
closing_rule fs Falsity = BotL

-- its formula, if it has one, has a number
abbrev pub IsClosing : List Formula → Closing → Type 0
IsClosing fs (Axiom n) = n < length fs
IsClosing fs Truth = Unit {0}
IsClosing fs Falsity = Unit {0}

-- no rule is taken, or one without premises, or that of a formula's connective
abbrev pub IsChoice : List Formula → Sequent → Option Choice → Type 0
IsChoice fs s None = rule_at s ≡ None
IsChoice fs s (Some (Close x)) = IsClosing fs x × (rule_at s ≡ Some (closing_rule fs x))
IsChoice fs s (Some (Main x)) = (x.number < length fs) × (is_compound (formula_at fs x.number) ≡ true) × (rule_at s ≡ rule_on x.side (formula_at fs x.number))
