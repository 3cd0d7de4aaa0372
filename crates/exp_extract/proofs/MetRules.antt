-- The marks after an inference, by its rule.
use Rattle.std.proofs.Common.{◌≡◌, ℕ, zero, suc, ◌<◌, Bool, true, false, List, length, Some, IfSome, refl, sym, ap, ◌∙◌, subst, arith}
use Rattle.std.specs.Prelude.{if◌then◌else◌}
use Rattle.std.specs.Ordering.{eq_by_cmp}
use Rattle.fol.specs.declared.symbols.Var.{Var}
use Rattle.fol.specs.Syntax.{Formula, atom, top, bot, not, and, or, imp, all, ex}
use Rattle.fol.specs.Order.{formula_cmp}
use Rattle.substitution.specs.Maps.{Map}
use Rattle.lk_rules.specs.declared.sequent.Sequent.{Sequent}
use Rattle.lk_rules.specs.declared.sequent.Side.{Side}
use Rattle.lk_rules.specs.declared.sequent.Side.TheVariants.{Left, Right}
use Rattle.lk_rules.specs.declared.rule.Rule.{Rule}
use Rattle.lk_rules.specs.declared.rule.Rule.TheVariants.{Ax, TopR, BotL, NegL, NegR, AndL, AndR, OrL, OrR, ImpL, ImpR, AllL, AllR, ExL, ExR, DefL, DefR, Cut, Weak}
use Rattle.lk_rules.specs.Rules.{has_shape}
use Rattle.extraction_laws.specs.Addresses.{Address, part, formula_at, side_at}
use Rattle.extraction_laws.specs.States.{State, opened}
use Rattle.extraction_laws.specs.Extraction.{Context, main_address, met, inner_map, inner_variable}
use Rattle.extraction_laws.specs.Images.{HasImage}
use Rattle.exp_extract.specs.Marked.{Marked}
use Rattle.exp_extract.specs.Entries.{IsChild}
use Rattle.exp_extract.specs.Quantifiers.{Grows}
use Rattle.exp_extract.specs.MapList.{map_in}
use Rattle.exp_extract.specs.declared.sides.Sides.{Sides}
use Rattle.exp_extract.specs.declared.sides.Auxiliary.TheVariants as auxiliary
use Rattle.exp_extract.specs.declared.inferences.Connective.{Connective}
use Rattle.exp_extract.specs.declared.inferences.Numbering.TheVariants.{BySide, ByFormula}
use Rattle.exp_extract.specs.Sides.{context_in, auxiliary_place, AreAuxiliaries}
use Rattle.exp_extract.specs.Pairing.{ArePaired}
use Rattle.exp_extract.specs.Inferences.{connective_of, auxiliary_by, IsMet}

-- what a rule for a connective marks
pub record IsConnective (r : Rule) (k : Connective) : Type 0 where
  pub address : (c : Context) → main_address r c ≡ c k.side k.main
  pub marks : (vs : List Var) (m : Map) (c : Context) (st : State) → met vs r m c st ≡ opened (c k.side k.main) st
  pub map : (m : Map) (v : Var) → inner_map r m v ≡ m
  pub parts : (bs : List Address) (p q : ℕ) (m : Map) (v : Var) (a : Address) → IsChild bs (part a 0) p → IsChild bs (part a 1) q → AreAuxiliaries bs (auxiliary_by k.numbering k.main p q) r m v a

one_connective : (r : Rule) (j k : Connective) → Some j ≡ Some k → IsConnective r j → IsConnective r k
one_connective r j k e h = let same : j ≡ k = cc in subst (λ (x : Connective). IsConnective r x) same h

module _ (bs : List Address) (p q : ℕ) (a : Address) (first : IsChild bs (part a 0) p) (second : IsChild bs (part a 1) q) where
  by_premise : (i : ℕ) (side : Side) (h : Formula) → i < 2 → IfSome (auxiliary_place (auxiliary.ByPremise p q) i side h) (IsChild bs (part a i))
  by_premise zero side h l = first
  by_premise (suc zero) side h l = second
  by_premise (suc (suc i)) side h l = absurd (omega arith)

  by_formula : (b : Bool) → IfSome (if b then Some p else Some q) (IsChild bs (part a (if b then 0 else 1)))
  by_formula true = first
  by_formula false = second

and_left : (f : Formula) → has_shape (AndL f) ≡ true → IsConnective (AndL f) (record { side = Left; main = f; numbering = ByFormula })
and_left (and g k) e = record {
  address = λ c. refl;
  marks = λ vs m c st. refl;
  map = λ m v. refl;
  parts = λ bs p q m v a first second i side h l. by_formula bs p q a first second (eq_by_cmp formula_cmp h g);
}
and_left (atom s ts) e = cc
and_left top e = cc
and_left bot e = cc
and_left (not g) e = cc
and_left (or g k) e = cc
and_left (imp g k) e = cc
and_left (all g) e = cc
and_left (ex g) e = cc

or_right : (f : Formula) → has_shape (OrR f) ≡ true → IsConnective (OrR f) (record { side = Right; main = f; numbering = ByFormula })
or_right (or g k) e = record {
  address = λ c. refl;
  marks = λ vs m c st. refl;
  map = λ m v. refl;
  parts = λ bs p q m v a first second i side h l. by_formula bs p q a first second (eq_by_cmp formula_cmp h g);
}
or_right (atom s ts) e = cc
or_right top e = cc
or_right bot e = cc
or_right (not g) e = cc
or_right (and g k) e = cc
or_right (imp g k) e = cc
or_right (all g) e = cc
or_right (ex g) e = cc

imp_right : (f : Formula) → IsConnective (ImpR f) (record { side = Right; main = f; numbering = BySide })
imp_right f = record { address = λ c. refl; marks = λ vs m c st. refl; map = λ m v. refl; parts = by_side }
  where
    by_side : (bs : List Address) (p q : ℕ) (m : Map) (v : Var) (a : Address) → IsChild bs (part a 0) p → IsChild bs (part a 1) q → AreAuxiliaries bs (auxiliary.BySide p q) (ImpR f) m v a
    by_side bs p q m v a first second i Left h l = first
    by_side bs p q m v a first second i Right h l = second

pub connective_is : (r : Rule) (k : Connective) → connective_of r ≡ Some k → has_shape r ≡ true → IsConnective r k
connective_is (NegL f) k e h = one_connective _ _ k e (record { address = λ c. refl; marks = λ vs m c st. refl; map = λ m v. refl; parts = λ bs p q m v a first second i side g l. first })
connective_is (NegR f) k e h = one_connective _ _ k e (record { address = λ c. refl; marks = λ vs m c st. refl; map = λ m v. refl; parts = λ bs p q m v a first second i side g l. first })
connective_is (AndL f) k e h = one_connective _ _ k e (and_left f h)
connective_is (AndR f) k e h = one_connective _ _ k e (record { address = λ c. refl; marks = λ vs m c st. refl; map = λ m v. refl; parts = λ bs p q m v a first second. by_premise bs p q a first second })
connective_is (OrL f) k e h = one_connective _ _ k e (record { address = λ c. refl; marks = λ vs m c st. refl; map = λ m v. refl; parts = λ bs p q m v a first second. by_premise bs p q a first second })
connective_is (OrR f) k e h = one_connective _ _ k e (or_right f h)
connective_is (ImpL f) k e h = one_connective _ _ k e (record { address = λ c. refl; marks = λ vs m c st. refl; map = λ m v. refl; parts = λ bs p q m v a first second. by_premise bs p q a first second })
connective_is (ImpR f) k e h = one_connective _ _ k e (imp_right f)
connective_is (Ax f) k e h = absurd (cc)
connective_is TopR k e h = absurd (cc)
connective_is BotL k e h = absurd (cc)
connective_is (AllL f t) k e h = absurd (cc)
connective_is (AllR f y) k e h = absurd (cc)
connective_is (ExL f y) k e h = absurd (cc)
connective_is (ExR f t) k e h = absurd (cc)
connective_is (DefL f) k e h = absurd (cc)
connective_is (DefR f) k e h = absurd (cc)
connective_is (Cut f) k e h = absurd (cc)
connective_is Weak k e h = absurd (cc)

module _ (m n : Marked) (s : Sequent) (x : Sides) (outside : n.outside ≡ m.outside) (grown : Grows m.addresses n.addresses) where
  module _ (ms : List Map) (k : ℕ) (there : k < length ms) where
    pub connective_met : (r : Rule) (j : Connective) (p q : ℕ) → IsConnective r j → n.state ≡ opened (context_in m.addresses s x j.side j.main) m.state
        → IsChild n.addresses (part (context_in m.addresses s x j.side j.main) 0) p → IsChild n.addresses (part (context_in m.addresses s x j.side j.main) 1) q
        → IsMet m n ms ms r s x k (record { map = k; auxiliary = auxiliary_by j.numbering j.main p q })
    connective_met r j p q h state first second = record {
      state = state ∙ sym (h.marks m.outside (map_in ms k) (context_in m.addresses s x) m.state);
      outside = outside;
      grown = grown;
      kept = λ i l. (l, refl);
      there = there;
      map = sym (h.map (map_in ms k) (inner_variable m.outside r (map_in ms k) (context_in m.addresses s x) m.state));
      auxiliaries = subst (AreAuxiliaries n.addresses (auxiliary_by j.numbering j.main p q) r (map_in ms k) (inner_variable m.outside r (map_in ms k) (context_in m.addresses s x) m.state)) (sym (h.address (context_in m.addresses s x)))
          (h.parts n.addresses p q (map_in ms k) (inner_variable m.outside r (map_in ms k) (context_in m.addresses s x) m.state) (context_in m.addresses s x j.side j.main) first second);
    }

-- an axiom's formula has paired addresses
pub axiom_paired : (m : Marked) (s : Sequent) (x : Sides) (f : Map) (main : Formula) (l r : ℕ)
    → HasImage f (context_in m.addresses s x Left main) Left main → HasImage f (context_in m.addresses s x Right main) Right main
    → IsChild m.addresses (context_in m.addresses s x Left main) l → IsChild m.addresses (context_in m.addresses s x Right main) r → ArePaired m l r
axiom_paired m s x f main l r on_left on_right first second = record {
  left = first.0;
  right = second.0;
  formula = ap formula_at first.1 ∙ (on_left.formula ∙ sym (ap formula_at second.1 ∙ on_right.formula));
  left_side = ap side_at first.1 ∙ on_left.side;
  right_side = ap side_at second.1 ∙ on_right.side;
}
