-- The rules by their names.
use Rattle.std.specs.Prelude.{ℕ, List, [], ◌∷◌, codes, Option, Some, None, nat_eq, Bool, if◌then◌else◌}
use Rattle.std.specs.Cmp.Lexicographic.{pointwise}
use Rattle.lk_rules.specs.declared.rule.Rule.{Rule}
use Rattle.lk_rules.specs.declared.rule.Rule.TheVariants as rules
use Rattle.job_words.specs.declared.kinds.RuleKind.{RuleKind}
use Rattle.job_words.specs.declared.kinds.RuleKind.TheVariants.{Ax, TopR, BotL, NegL, NegR, AndL, AndR, OrL, OrR, ImpL, ImpR, AllL, AllR, ExL, ExR, DefL, DefR, Cut, Weak}

-- two texts are the same
abbrev pub is_text : List ℕ → List ℕ → Bool
is_text s t = pointwise nat_eq s t

abbrev pub kind_of : Rule → RuleKind
kind_of (rules.Ax a) = Ax
kind_of rules.TopR = TopR
kind_of rules.BotL = BotL
kind_of (rules.NegL a) = NegL
kind_of (rules.NegR a) = NegR
kind_of (rules.AndL a) = AndL
kind_of (rules.AndR a) = AndR
kind_of (rules.OrL a) = OrL
kind_of (rules.OrR a) = OrR
kind_of (rules.ImpL a) = ImpL
kind_of (rules.ImpR a) = ImpR
kind_of (rules.AllL a t) = AllL
kind_of (rules.AllR a y) = AllR
kind_of (rules.ExL a y) = ExL
kind_of (rules.ExR a t) = ExR
kind_of (rules.DefL a) = DefL
kind_of (rules.DefR a) = DefR
kind_of (rules.Cut a) = Cut
kind_of rules.Weak = Weak

abbrev pub kind_name : RuleKind → List ℕ
kind_name Ax = codes "ax"
kind_name TopR = codes "topR"
kind_name BotL = codes "botL"
kind_name NegL = codes "negL"
kind_name NegR = codes "negR"
kind_name AndL = codes "andL"
kind_name AndR = codes "andR"
kind_name OrL = codes "orL"
kind_name OrR = codes "orR"
kind_name ImpL = codes "impL"
kind_name ImpR = codes "impR"
kind_name AllL = codes "allL"
kind_name AllR = codes "allR"
kind_name ExL = codes "exL"
kind_name ExR = codes "exR"
kind_name DefL = codes "defL"
kind_name DefR = codes "defR"
kind_name Cut = codes "cut"
kind_name Weak = codes "weak"

abbrev pub kinds : List RuleKind
kinds = Ax ∷ TopR ∷ BotL ∷ NegL ∷ NegR ∷ AndL ∷ AndR ∷ OrL ∷ OrR ∷ ImpL ∷ ImpR ∷ AllL ∷ AllR ∷ ExL ∷ ExR ∷ DefL ∷ DefR ∷ Cut ∷ Weak ∷ []

-- the first of some kinds that has this name
abbrev pub named_among : List ℕ → List RuleKind → Option RuleKind
named_among name [] = None
named_among name (k ∷ ks) = if is_text name (kind_name k) then Some k else named_among name ks

abbrev pub kind_named : List ℕ → Option RuleKind
kind_named name = named_among name kinds
