-- What takes the place of a compound formula makes the premises of its rule.
use Rattle.std.proofs.Common.{◌≡◌, List, Some, refl, sym, ap, subst, ◌∙◌}
use Rattle.fol.specs.Syntax.{Formula, not, and, or, imp}
use Rattle.lk_rules.specs.declared.sequent.Sequent.{Sequent}
use Rattle.lk_rules.specs.declared.sequent.Side.{Side}
use Rattle.lk_rules.specs.declared.sequent.Side.TheVariants.{Left, Right}
use Rattle.lk_rules.specs.Rules.{needs}
use Rattle.search_laws.specs.Search.{premises_from, by_rule, inferred, rule_at, walk_each, walk}
use Rattle.prop_search.specs.declared.connective.Connective.{Connective}
use Rattle.prop_search.specs.declared.connective.Connective.TheVariants.{Not, And, Or, Imp}
use Rattle.prop_search.specs.declared.connective.Parts.{Parts}
use Rattle.prop_search.specs.declared.connective.Signed.{Signed}
use Rattle.prop_search.specs.Deciding.{IsInferred}
use Rattle.prop_search.specs.Formulas.{formula_at}
use Rattle.prop_search.specs.Numbering.{IsRoot}
use Rattle.prop_search.specs.Premises.{rule_on, rule_with, parts_of, AreWithin, takes_from, premises_by, premises_of}

module _ (fs : List Formula) where
  -- the formula with a connective over parts
  abbrev formula_of : Connective → Formula
  formula_of (Not a) = not (formula_at fs a)
  formula_of (And a b) = and (formula_at fs a) (formula_at fs b)
  formula_of (Or a b) = or (formula_at fs a) (formula_at fs b)
  formula_of (Imp a b) = imp (formula_at fs a) (formula_at fs b)

  root_formula : (c : Connective) (f : Formula) → IsRoot fs (Some c) f → formula_of c ≡ f
  root_formula (Not a) f h = sym h.1
  root_formula (And a b) f h = sym h.2
  root_formula (Or a b) f h = sym h.2
  root_formula (Imp a b) f h = sym h.2

  -- its rule
  own_rule : (side : Side) (c : Connective) → rule_on side (formula_of c) ≡ Some (rule_with side c (formula_of c))
  own_rule Left (Not a) = refl
  own_rule Right (Not a) = refl
  own_rule Left (And a b) = refl
  own_rule Right (And a b) = refl
  own_rule Left (Or a b) = refl
  own_rule Right (Or a b) = refl
  own_rule Left (Imp a b) = refl
  own_rule Right (Imp a b) = refl

  -- its premises
  own_premises : (side : Side) (c : Connective) (s : Sequent)
      → premises_from (rule_with side c (formula_of c)) s 0 (needs (rule_with side c (formula_of c))) ≡ premises_by fs (takes_from s side (formula_of c)) (parts_of side c)
  own_premises Left (Not a) s = refl
  own_premises Right (Not a) s = refl
  own_premises Left (And a b) s = refl
  own_premises Right (And a b) s = refl
  own_premises Left (Or a b) s = refl
  own_premises Right (Or a b) s = refl
  own_premises Left (Imp a b) s = refl
  own_premises Right (Imp a b) s = refl

  -- the same of a formula with the connective at its head
  module _ (side : Side) (c : Connective) (f : Formula) (h : IsRoot fs (Some c) f) where
    pub rule_is : rule_on side f ≡ Some (rule_with side c f)
    rule_is = subst (λ g. rule_on side g ≡ Some (rule_with side c g)) (root_formula c f h) (own_rule side c)

    pub premises_are : (s : Sequent) → premises_from (rule_with side c f) s 0 (needs (rule_with side c f)) ≡ premises_by fs (takes_from s side f) (parts_of side c)
    premises_are s =
        subst (λ g. premises_from (rule_with side c g) s 0 (needs (rule_with side c g)) ≡ premises_by fs (takes_from s side g) (parts_of side c)) (root_formula c f h) (own_premises side c s)

  -- the parts have numbers
  pub parts_within : (side : Side) (c : Connective) (f : Formula) → IsRoot fs (Some c) f → AreWithin fs (parts_of side c)
  parts_within Left (Not a) f h = h.0
  parts_within Right (Not a) f h = h.0
  parts_within Left (And a b) f h = (h.0, h.1)
  parts_within Right (And a b) f h = (h.0, h.1)
  parts_within Left (Or a b) f h = (h.0, h.1)
  parts_within Right (Or a b) f h = (h.0, h.1)
  parts_within Left (Imp a b) f h = (h.0, h.1)
  parts_within Right (Imp a b) f h = (h.0, h.1)

-- where the rule of a formula's connective is taken, the walk goes on to its premises
pub goes_on : (fs : List Formula) (s : Sequent) (main : Signed) (c : Connective) (x : Parts) → walk s ≡ by_rule walk s (rule_at s) → rule_at s ≡ rule_on main.side (formula_at fs main.number)
    → IsRoot fs (Some c) (formula_at fs main.number) → x ≡ parts_of main.side c → IsInferred s (premises_of fs s main x)
goes_on fs s main c x steps taken root parts =
    let f = formula_at fs main.number in
    let r = rule_with main.side c f in (
      r,
      steps ∙ ap (by_rule walk s) (taken ∙ rule_is fs main.side c f root)
          ∙ ap (λ ss. inferred r s (walk_each walk ss)) (premises_are fs main.side c f root s ∙ ap (premises_of fs s main) (sym parts)),
    )

-- and its parts have numbers
pub within_by : (fs : List Formula) (main : Signed) (c : Connective) (x : Parts) → IsRoot fs (Some c) (formula_at fs main.number) → x ≡ parts_of main.side c → AreWithin fs x
within_by fs main c x root parts = subst (AreWithin fs) (sym parts) (parts_within fs main.side c (formula_at fs main.number) root)
