-- What an interpolant is made with, by the side on which it stands in the proof of the main formula's part, by numbers.
--     constant_key, constant_rule_of      the constant, and its rule
--     quantifier_key, variable_rule, term_rule      the quantified formula, and its rules with an eigenvariable and with a term
--     connective_key, single_rule, split_rule      the formula of two, and its rules over one premise and over two
use Rattle.std.specs.Prelude.{ℕ}
use Rattle.lk_rules.specs.declared.sequent.Side.{Side}
use Rattle.lk_rules.specs.declared.sequent.Side.TheVariants.{Left, Right}
use Rattle.arena_cells.specs.declared.key.Key.{Key}
use Rattle.arena_cells.specs.declared.key.Key.TheVariants.{Top, Bot, And, Or, All, Ex}
use Rattle.arena_cells.specs.declared.key.RuleKey.{RuleKey}
use Rattle.arena_cells.specs.declared.key.RuleKey.TheVariants.{TopR, BotL, AndL, AndR, OrL, OrR, AllL, AllR, ExL, ExR}

abbrev pub constant_key : Side → Key
constant_key Right = Bot
constant_key Left = Top

abbrev pub constant_rule_of : Side → RuleKey
constant_rule_of Right = BotL
constant_rule_of Left = TopR

abbrev pub quantifier_key : Side → ℕ → Key
quantifier_key Right body = All body
quantifier_key Left body = Ex body

abbrev pub variable_rule : Side → ℕ → ℕ → RuleKey
variable_rule Right f v = AllR f v
variable_rule Left f v = ExL f v

abbrev pub term_rule : Side → ℕ → ℕ → RuleKey
term_rule Right f v = AllL f v
term_rule Left f v = ExR f v

abbrev pub connective_key : Side → ℕ → ℕ → Key
connective_key Right f g = Or f g
connective_key Left f g = And f g

abbrev pub single_rule : Side → ℕ → RuleKey
single_rule Right f = OrR f
single_rule Left f = AndL f

abbrev pub split_rule : Side → ℕ → RuleKey
split_rule Right f = OrL f
split_rule Left f = AndR f
