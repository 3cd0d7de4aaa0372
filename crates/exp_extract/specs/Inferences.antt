-- What an inference marks, and what its premises get.
--     connective_of, auxiliary_by      rules for connectives, and the numbers of their auxiliary formulas' addresses
--     weak_rule, strong_rule      rules for quantifiers, by the side
--     IsMet      the marks after an inference
use Rattle.std.specs.Prelude.{◌≡◌, ℕ, ◌<◌, List, length, Option, Some, None}
use Rattle.fol.specs.declared.symbols.Var.{Var}
use Rattle.fol.specs.Syntax.{Term, Formula}
use Rattle.substitution.specs.Maps.{Map}
use Rattle.lk_rules.specs.declared.sequent.Sequent.{Sequent}
use Rattle.lk_rules.specs.declared.sequent.Side.{Side}
use Rattle.lk_rules.specs.declared.sequent.Side.TheVariants.{Left, Right}
use Rattle.lk_rules.specs.declared.rule.Rule.{Rule}
use Rattle.lk_rules.specs.declared.rule.Rule.TheVariants.{NegL, NegR, AndL, AndR, OrL, OrR, ImpL, ImpR, AllL, AllR, ExL, ExR}
use Rattle.extraction_laws.specs.Addresses.{part_formula}
use Rattle.extraction_laws.specs.Extraction.{main_address, met, inner_map, inner_variable}
use Rattle.exp_extract.specs.declared.sides.Sides.{Sides}
use Rattle.exp_extract.specs.declared.sides.Auxiliary.{Auxiliary}
use Rattle.exp_extract.specs.declared.sides.Auxiliary.TheVariants as auxiliary
use Rattle.exp_extract.specs.declared.inferences.Inner.{Inner}
use Rattle.exp_extract.specs.declared.inferences.Connective.{Connective}
use Rattle.exp_extract.specs.declared.inferences.Numbering.{Numbering}
use Rattle.exp_extract.specs.declared.inferences.Numbering.TheVariants.{Only, ByPremise, BySide, ByFormula}
use Rattle.exp_extract.specs.Marked.{Marked}
use Rattle.exp_extract.specs.Quantifiers.{Grows}
use Rattle.exp_extract.specs.MapList.{map_in, KeepsMaps}
use Rattle.exp_extract.specs.Sides.{context_in, AreAuxiliaries}

-- the main formula of a rule for a connective, its side, and how its parts are numbered
abbrev pub connective_of : Rule → Option Connective
connective_of (NegL f) = Some (record { side = Left; main = f; numbering = Only })
connective_of (NegR f) = Some (record { side = Right; main = f; numbering = Only })
connective_of (AndL f) = Some (record { side = Left; main = f; numbering = ByFormula })
connective_of (AndR f) = Some (record { side = Right; main = f; numbering = ByPremise })
connective_of (OrL f) = Some (record { side = Left; main = f; numbering = ByPremise })
connective_of (OrR f) = Some (record { side = Right; main = f; numbering = ByFormula })
connective_of (ImpL f) = Some (record { side = Left; main = f; numbering = ByPremise })
connective_of (ImpR f) = Some (record { side = Right; main = f; numbering = BySide })
connective_of r = None

-- the numbers of auxiliary formulas' addresses, by those of the parts
abbrev pub auxiliary_by : Numbering → Formula → ℕ → ℕ → Auxiliary
auxiliary_by Only f p q = auxiliary.Only p
auxiliary_by ByPremise f p q = auxiliary.ByPremise p q
auxiliary_by BySide f p q = auxiliary.BySide p q
auxiliary_by ByFormula f p q = auxiliary.ByFormula (part_formula f 0) p q

-- the rule for a quantifier on a side
abbrev pub weak_rule : Side → Formula → Term → Rule
weak_rule Left f t = AllL f t
weak_rule Right f t = ExR f t

abbrev pub strong_rule : Side → Formula → Var → Rule
strong_rule Left f y = ExL f y
strong_rule Right f y = AllR f y

-- the marks are those after the inference, and the premises get the map and the addresses that it gives
pub record IsMet (m n : Marked) (ms ns : List Map) (r : Rule) (s : Sequent) (x : Sides) (k : ℕ) (inner : Inner) : Type 0 where
  pub state : n.state ≡ met m.outside r (map_in ms k) (context_in m.addresses s x) m.state
  pub outside : n.outside ≡ m.outside
  pub grown : Grows m.addresses n.addresses
  pub kept : KeepsMaps ms ns
  pub there : inner.map < length ns
  pub map : map_in ns inner.map ≡ inner_map r (map_in ms k) (inner_variable m.outside r (map_in ms k) (context_in m.addresses s x) m.state)
  pub auxiliaries : AreAuxiliaries n.addresses inner.auxiliary r (map_in ms k) (inner_variable m.outside r (map_in ms k) (context_in m.addresses s x) m.state) (main_address r (context_in m.addresses s x))
