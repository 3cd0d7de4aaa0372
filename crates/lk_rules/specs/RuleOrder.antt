-- What a rule names, and the order of rules. It is total, and only equal rules tie.
--     formula_of, term_of, variable_of      the formula, the term and the eigenvariable that a rule names
--     map_rule      a rule with these changed
--     rule_cmp      the order
use Rattle.std.specs.Prelude.{ℕ, Option, Some, None}
use Rattle.std.specs.declared.cmp.Ordering.{Ordering}
use Rattle.std.specs.Ordering.{nat_cmp, then_cmp}
use Rattle.std.specs.Option.{option_cmp}
use Rattle.std.specs.Cmp.{IsTotalOrder}
use Rattle.std.specs.Cmp.Lexicographic.{options_total}
use Rattle.std.proofs.lemmas.Cmp.{nat_cmp_total, on_total, then_total}
use Rattle.fol.specs.declared.symbols.Var.{Var}
use Rattle.fol.specs.Syntax.{Term, Formula}
use Rattle.fol.specs.Order.{var_cmp, term_cmp, formula_cmp}
use Rattle.fol.specs.OrderLaws.{var_total, term_total, formula_total}
use Rattle.lk_rules.specs.declared.rule.Rule.{Rule}
use Rattle.lk_rules.specs.declared.rule.Rule.TheVariants.{Ax, TopR, BotL, NegL, NegR, AndL, AndR, OrL, OrR, ImpL, ImpR, AllL, AllR, ExL, ExR, DefL, DefR, Cut, Weak}

-- the place of a rule's kind among the kinds
abbrev pub rule_kind : Rule → ℕ
rule_kind (Ax a) = 0
rule_kind TopR = 1
rule_kind BotL = 2
rule_kind (NegL a) = 3
rule_kind (NegR a) = 4
rule_kind (AndL a) = 5
rule_kind (AndR a) = 6
rule_kind (OrL a) = 7
rule_kind (OrR a) = 8
rule_kind (ImpL a) = 9
rule_kind (ImpR a) = 10
rule_kind (AllL a t) = 11
rule_kind (AllR a y) = 12
rule_kind (ExL a y) = 13
rule_kind (ExR a t) = 14
rule_kind (DefL a) = 15
rule_kind (DefR a) = 16
rule_kind (Cut a) = 17
rule_kind Weak = 18

-- the formula that the rule names: its main formula, or of a cut the cut formula
abbrev pub formula_of : Rule → Option Formula
formula_of (Ax a) = Some a
formula_of TopR = None
formula_of BotL = None
formula_of (NegL a) = Some a
formula_of (NegR a) = Some a
formula_of (AndL a) = Some a
formula_of (AndR a) = Some a
formula_of (OrL a) = Some a
formula_of (OrR a) = Some a
formula_of (ImpL a) = Some a
formula_of (ImpR a) = Some a
formula_of (AllL a t) = Some a
formula_of (AllR a y) = Some a
formula_of (ExL a y) = Some a
formula_of (ExR a t) = Some a
formula_of (DefL a) = Some a
formula_of (DefR a) = Some a
formula_of (Cut a) = Some a
formula_of Weak = None

-- the term by which the rule instantiates a quantifier
abbrev pub term_of : Rule → Option Term
term_of (AllL a t) = Some t
term_of (ExR a t) = Some t
term_of r = None

-- the eigenvariable
abbrev pub variable_of : Rule → Option Var
variable_of (AllR a y) = Some y
variable_of (ExL a y) = Some y
variable_of r = None

-- the rule with what it names changed: its formula, its term and its eigenvariable
abbrev pub map_rule : (Formula → Formula) → (Term → Term) → (Var → Var) → Rule → Rule
map_rule f g h (Ax a) = Ax (f a)
map_rule f g h TopR = TopR
map_rule f g h BotL = BotL
map_rule f g h (NegL a) = NegL (f a)
map_rule f g h (NegR a) = NegR (f a)
map_rule f g h (AndL a) = AndL (f a)
map_rule f g h (AndR a) = AndR (f a)
map_rule f g h (OrL a) = OrL (f a)
map_rule f g h (OrR a) = OrR (f a)
map_rule f g h (ImpL a) = ImpL (f a)
map_rule f g h (ImpR a) = ImpR (f a)
map_rule f g h (AllL a t) = AllL (f a) (g t)
map_rule f g h (AllR a y) = AllR (f a) (h y)
map_rule f g h (ExL a y) = ExL (f a) (h y)
map_rule f g h (ExR a t) = ExR (f a) (g t)
map_rule f g h (DefL a) = DefL (f a)
map_rule f g h (DefR a) = DefR (f a)
map_rule f g h (Cut a) = Cut (f a)
map_rule f g h Weak = Weak

-- rules are ordered by kind, then by the formula, then by the term or the eigenvariable
abbrev pub rule_cmp : Rule → Rule → Ordering
rule_cmp =
    then_cmp (λ r q. nat_cmp (rule_kind r) (rule_kind q)) (
    then_cmp (λ r q. option_cmp formula_cmp (formula_of r) (formula_of q)) (
    then_cmp (λ r q. option_cmp term_cmp (term_of r) (term_of q)) (λ r q. option_cmp var_cmp (variable_of r) (variable_of q))))

pub rule_total : IsTotalOrder rule_cmp
rule_total =
    then_total (on_total rule_kind nat_cmp_total) (
    then_total (on_total formula_of (options_total formula_total)) (
    then_total (on_total term_of (options_total term_total)) (on_total variable_of (options_total var_total))))
