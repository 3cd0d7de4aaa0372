-- The numbers of what a rule names.
--     formula_number, term_number, eigen_number      its numbers
--     key_of      a rule by numbers
use Rattle.std.specs.Prelude.{ℕ, Option, Some, None}
use Rattle.lk_rules.specs.declared.rule.Rule.{Rule}
use Rattle.lk_rules.specs.declared.rule.Rule.TheVariants as rule
use Rattle.arena_cells.specs.declared.key.RuleKey.{RuleKey}
use Rattle.arena_cells.specs.declared.key.RuleKey.TheVariants.{Ax, TopR, BotL, NegL, NegR, AndL, AndR, OrL, OrR, ImpL, ImpR, AllL, AllR, ExL, ExR, DefL, DefR, Cut, Weak}

-- of its formula: the main formula, or of a cut the cut formula
abbrev pub formula_number : RuleKey → Option ℕ
formula_number (Ax f) = Some f
formula_number TopR = None
formula_number BotL = None
formula_number (NegL f) = Some f
formula_number (NegR f) = Some f
formula_number (AndL f) = Some f
formula_number (AndR f) = Some f
formula_number (OrL f) = Some f
formula_number (OrR f) = Some f
formula_number (ImpL f) = Some f
formula_number (ImpR f) = Some f
formula_number (AllL f t) = Some f
formula_number (AllR f y) = Some f
formula_number (ExL f y) = Some f
formula_number (ExR f t) = Some f
formula_number (DefL f) = Some f
formula_number (DefR f) = Some f
formula_number (Cut f) = Some f
formula_number Weak = None

-- of the term by which it instantiates a quantifier
abbrev pub term_number : RuleKey → Option ℕ
term_number (AllL f t) = Some t
term_number (ExR f t) = Some t
term_number r = None

-- of its eigenvariable
abbrev pub eigen_number : RuleKey → Option ℕ
eigen_number (AllR f y) = Some y
eigen_number (ExL f y) = Some y
eigen_number r = None

-- the rule by numbers: m of its formula, and n of its term or of its eigenvariable, where it names them
abbrev pub key_of : Rule → ℕ → ℕ → RuleKey
key_of (rule.Ax a) m n = Ax m
key_of rule.TopR m n = TopR
key_of rule.BotL m n = BotL
key_of (rule.NegL a) m n = NegL m
key_of (rule.NegR a) m n = NegR m
key_of (rule.AndL a) m n = AndL m
key_of (rule.AndR a) m n = AndR m
key_of (rule.OrL a) m n = OrL m
key_of (rule.OrR a) m n = OrR m
key_of (rule.ImpL a) m n = ImpL m
key_of (rule.ImpR a) m n = ImpR m
key_of (rule.AllL a t) m n = AllL m n
key_of (rule.AllR a y) m n = AllR m n
key_of (rule.ExL a y) m n = ExL m n
key_of (rule.ExR a t) m n = ExR m n
key_of (rule.DefL a) m n = DefL m
key_of (rule.DefR a) m n = DefR m
key_of (rule.Cut a) m n = Cut m
key_of rule.Weak m n = Weak
