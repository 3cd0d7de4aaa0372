-- Compound formulas on a side of a sequent: their rules, their parts by number, and the premises that have these.
--     rule_on, rule_with      the rule of a formula's connective on a side
--     parts_of, AreWithin      what takes the place of the formula
--     place_on      where a formula stands in the set of numbers for both sides
--     takes_from, without_main, with_part, with_each, premises_by, premises_of      sequents without the formula, and with others
use Rattle.std.specs.Prelude.{ℕ, ◌+◌, ◌<◌, List, [], ◌∷◌, length, Option}
use Rattle.fol.specs.Syntax.{Formula}
use Rattle.finite.specs.Finite as set
use Rattle.lk_rules.specs.declared.sequent.Sequent.{Sequent}
use Rattle.lk_rules.specs.declared.sequent.Side.{Side}
use Rattle.lk_rules.specs.declared.sequent.Side.TheVariants.{Left, Right}
use Rattle.lk_rules.specs.declared.rule.Rule.{Rule}
use Rattle.lk_rules.specs.declared.rule.Rule.TheVariants.{NegL, NegR, AndL, AndR, OrL, OrR, ImpL, ImpR}
use Rattle.lk_rules.specs.Sequents.{adds_to}
use Rattle.proof_trees.specs.FormulaSets.{without}
use Rattle.search_laws.specs.Search.{left_rule, right_rule}
use Rattle.prop_search.specs.declared.connective.Connective.{Connective}
use Rattle.prop_search.specs.declared.connective.Connective.TheVariants.{Not, And, Or, Imp}
use Rattle.prop_search.specs.declared.connective.Signed.{Signed}
use Rattle.prop_search.specs.declared.connective.Parts.{Parts}
use Rattle.prop_search.specs.declared.connective.Parts.TheVariants.{One, Both, Either}
use Rattle.prop_search.specs.Formulas.{formula_at, span}

-- the rule of a formula's connective on a side
abbrev pub rule_on : Side → Formula → Option Rule
rule_on Left f = left_rule f
rule_on Right f = right_rule f

-- the rule with this connective on a side, and with this main formula
abbrev pub rule_with : Side → Connective → Formula → Rule
rule_with Left (Not a) f = NegL f
rule_with Right (Not a) f = NegR f
rule_with Left (And a b) f = AndL f
rule_with Right (And a b) f = AndR f
rule_with Left (Or a b) f = OrL f
rule_with Right (Or a b) f = OrR f
rule_with Left (Imp a b) f = ImpL f
rule_with Right (Imp a b) f = ImpR f

abbrev pub on_left : ℕ → Signed
on_left n = record { side = Left; number = n }

abbrev pub on_right : ℕ → Signed
on_right n = record { side = Right; number = n }

-- what takes the place of a formula with the connective on a side
abbrev pub parts_of : Side → Connective → Parts
parts_of Left (Not a) = One (on_right a)
parts_of Right (Not a) = One (on_left a)
parts_of Left (And a b) = Both (on_left a) (on_left b)
parts_of Right (And a b) = Either (on_right a) (on_right b)
parts_of Left (Or a b) = Either (on_left a) (on_left b)
parts_of Right (Or a b) = Both (on_right a) (on_right b)
parts_of Left (Imp a b) = Either (on_right a) (on_left b)
parts_of Right (Imp a b) = Both (on_left a) (on_right b)

-- the parts have numbers
abbrev pub AreWithin : List Formula → Parts → Type 0
AreWithin fs (One x) = x.number < length fs
AreWithin fs (Both x y) = (x.number < length fs) × (y.number < length fs)
AreWithin fs (Either x y) = (x.number < length fs) × (y.number < length fs)

-- the number of a formula on a side in the set of numbers for both sides
abbrev pub place_on : List Formula → Side → ℕ → ℕ
place_on fs Left n = n
place_on fs Right n = span fs + n

-- a sequent without a formula on a side
abbrev pub takes_from : Sequent → Side → Formula → Sequent
takes_from s Left f = record s { left = without s.left f }
takes_from s Right f = record s { right = without s.right f }

abbrev pub without_main : List Formula → Sequent → Signed → Sequent
without_main fs s x = takes_from s x.side (formula_at fs x.number)

-- a sequent with the formulas of a list on a side
abbrev pub with_each : Sequent → Side → List Formula → Sequent
with_each s Left fs = record s { left = set.adds_each s.left fs }
with_each s Right fs = record s { right = set.adds_each s.right fs }

-- a sequent with a part
abbrev pub with_part : List Formula → Sequent → Signed → Sequent
with_part fs s x = adds_to s x.side (formula_at fs x.number)

-- the premises, from the conclusion without its main formula
abbrev pub premises_by : List Formula → Sequent → Parts → List Sequent
premises_by fs s (One x) = with_part fs s x ∷ []
premises_by fs s (Both x y) = with_part fs (with_part fs s x) y ∷ []
premises_by fs s (Either x y) = with_part fs s x ∷ with_part fs s y ∷ []

-- those of a conclusion with its main formula
abbrev pub premises_of : List Formula → Sequent → Signed → Parts → List Sequent
premises_of fs s main x = premises_by fs (without_main fs s main) x
