-- The rules as fields with what they name.
use Rattle.std.specs.Prelude.{codes, None, Ok}
use Rattle.fol.specs.Syntax.{Formula}
use Rattle.lk_rules.specs.declared.rule.Rule.{Rule}
use Rattle.lk_rules.specs.declared.rule.Rule.TheVariants as rules
use Rattle.serde_json.specs.Data.{Data}
use Rattle.job_words.specs.declared.causes.JobCause.TheVariants.{Field}
use Rattle.job_words.specs.declared.kinds.RuleKind.{RuleKind}
use Rattle.job_words.specs.declared.kinds.RuleKind.TheVariants.{Ax, TopR, BotL, NegL, NegR, AndL, AndR, OrL, OrR, ImpL, ImpR, AllL, AllR, ExL, ExR, DefL, DefR, Cut, Weak}
use Rattle.job_words.specs.RuleKinds.{kind_named}
use Rattle.job_lang.specs.declared.places.Place.{Place}
use Rattle.job_lang.specs.Places.{path}
use Rattle.job_lang.specs.Fields.{Reading, ◌>>=◌, or_fault, text_at}
use Rattle.job_lang.specs.Formulas.{formula_at, term_at, variable_at}

-- a main formula
abbrev pub main_at : Place → Data → Reading Formula
main_at place d = formula_at place (codes "main") d

-- a rule of this kind with its main formula, and its term or its eigenvariable
abbrev pub rule_of_kind : Place → RuleKind → Data → Reading Rule
rule_of_kind place TopR d = Ok rules.TopR
rule_of_kind place BotL d = Ok rules.BotL
rule_of_kind place Weak d = Ok rules.Weak
rule_of_kind place Ax d = main_at place d >>= λ a. Ok (rules.Ax a)
rule_of_kind place NegL d = main_at place d >>= λ a. Ok (rules.NegL a)
rule_of_kind place NegR d = main_at place d >>= λ a. Ok (rules.NegR a)
rule_of_kind place AndL d = main_at place d >>= λ a. Ok (rules.AndL a)
rule_of_kind place AndR d = main_at place d >>= λ a. Ok (rules.AndR a)
rule_of_kind place OrL d = main_at place d >>= λ a. Ok (rules.OrL a)
rule_of_kind place OrR d = main_at place d >>= λ a. Ok (rules.OrR a)
rule_of_kind place ImpL d = main_at place d >>= λ a. Ok (rules.ImpL a)
rule_of_kind place ImpR d = main_at place d >>= λ a. Ok (rules.ImpR a)
rule_of_kind place DefL d = main_at place d >>= λ a. Ok (rules.DefL a)
rule_of_kind place DefR d = main_at place d >>= λ a. Ok (rules.DefR a)
rule_of_kind place Cut d = main_at place d >>= λ a. Ok (rules.Cut a)
rule_of_kind place AllL d = main_at place d >>= λ a. term_at place (codes "term") d >>= λ t. Ok (rules.AllL a t)
rule_of_kind place ExR d = main_at place d >>= λ a. term_at place (codes "term") d >>= λ t. Ok (rules.ExR a t)
rule_of_kind place AllR d = main_at place d >>= λ a. variable_at place (codes "var") d >>= λ y. Ok (rules.AllR a y)
rule_of_kind place ExL d = main_at place d >>= λ a. variable_at place (codes "var") d >>= λ y. Ok (rules.ExL a y)

-- the rule of a step
abbrev pub rule_of : Place → Data → Reading Rule
rule_of place d = text_at place (codes "rule") d >>= λ name. or_fault (Field (path place (codes "rule") None)) (kind_named name) >>= λ k. rule_of_kind place k d
