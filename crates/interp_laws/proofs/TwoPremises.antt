-- Interpolation of inferences with two premises.
use Rattle.std.proofs.Common.{◌≡◌, ℕ, ◌<◌, max, true, refl, arith}
use Rattle.fol.specs.declared.symbols.Var.{Var}
use Rattle.fol.specs.Syntax.{Pred, Formula, and, or}
use Rattle.fol.specs.Formed.{is_formed}
use Rattle.free_variables.specs.Occurrence.{is_free_in, is_free_in_term, is_pred_in}
use Rattle.substitution.specs.Instance.{nesting}
use Rattle.lk_rules.specs.declared.sequent.Sequent.{Sequent}
use Rattle.lk_rules.specs.declared.sequent.Side.{Side}
use Rattle.lk_rules.specs.declared.sequent.Side.TheVariants.{Left, Right}
use Rattle.lk_rules.specs.declared.rule.Rule.{Rule}
use Rattle.lk_rules.specs.declared.rule.Rule.TheVariants.{AndL, AndR, OrL, OrR}
use Rattle.lk_rules.specs.RuleOrder.{term_of}
use Rattle.lk_rules.specs.Sequents.{adds_to, extended, is_free_in_sequent}
use Rattle.lk_rules.specs.Rules.{needs, aux, main_stands}
use Rattle.lk_rules.proofs.Subsequents.{and_left, and_right, and_both}
use Rattle.proof_trees.specs.Occurrence.{passes, is_pred_in_sequent}
use Rattle.proof_trees.proofs.Booleans.{either}
use Rattle.cut_laws.proofs.Cuts.{main_larger}
use Rattle.cut_laws.proofs.Sides.{clash, within_added}
use Rattle.interp_laws.specs.Interpolation.{Interpolation, part, both_over, joined}
use Rattle.interp_laws.proofs.Above.{pred_above, free_above}
use Rattle.interp_laws.proofs.Holding.{stands_left, stands_right}
use Rattle.interp_laws.proofs.Leaves.{Interpolates}
use Rattle.interp_laws.proofs.Members.{through}
use Rattle.interp_laws.proofs.OnePremise.{IsLast}
use Rattle.interp_laws.proofs.Proofs.{IsProof, IsUsable, over_premises, over_pair, over_parts, over_two_free}
use Rattle.interp_laws.proofs.RuleParts.{not_eigen, none_with_two, no_term_with_two}

first_less : (a b w : ℕ) → max a b < w → a < w
first_less a b w few = omega arith

second_less : (a b w : ℕ) → max a b < w → b < w
second_less a b w few = omega arith

-- the rule may be used at its part with two formulas more
usable_with : (Plain : Type 0) (r : Rule) (one two s : Sequent) (m : Side) (f g : Formula) → IsLast Plain r one two m → needs r ≡ 2 → main_stands r s ≡ true → IsUsable r (adds_to (adds_to s m f) m g)
usable_with Plain r one two s m f g last number stands =
    let e : Sequent = adds_to (adds_to s m f) m g in
    record {
      shape = last.shape;
      stands = main_larger r s e (through s (adds_to s m f) e (within_added m s f) (within_added m (adds_to s m f) g)) stands;
      eigenvariable = none_with_two r e number;
      no_cut = last.no_cut;
    }

-- a variable that is free in the part with auxiliary formulas is free in the part
free_in_part : (Plain : Type 0) (v : Var) (r : Rule) (k : ℕ) (s e : Sequent) (m : Side) (one two : Sequent) → IsLast Plain r one two m → needs r ≡ 2 → main_stands r s ≡ true → is_free_in_sequent v e ≡ true
    → is_free_in_sequent v (extended s (aux r k)) ≡ true → is_free_in_sequent v s ≡ true
free_in_part Plain v r k s e m one two last number stands other =
    free_above v r k s last.formed last.no_cut stands
    (λ old. old)
    (λ term. clash (passes (is_free_in_term v) (term_of r)) term (no_term_with_two r v number))
    (not_eigen r e v (none_with_two r e number) other)

-- the main formula is of the first part
module _ (Plain : Type 0) (r : Rule) (one two : Sequent) (last : IsLast Plain r one two Right) (number : needs r ≡ 2) (i j : Interpolation)
    (h : Interpolates Plain (extended one (aux r 0)) two i) (g : Interpolates Plain (extended one (aux r 1)) two j) where
  abbrev disjunction : Formula
  disjunction = or i.formula j.formula

  first_joined : IsProof one Right disjunction (joined Right r one two i j).first
  first_joined =
      over_pair (OrR disjunction) one Right disjunction i.formula j.formula (both_over Right r one i j)
      (record { shape = refl; stands = stands_right one disjunction; eigenvariable = refl; no_cut = refl })
      refl refl (λ formed. formed) refl
      (over_two_free r (adds_to (adds_to one Right i.formula) Right j.formula) i.first j.first last.no_cut h.holds.first.without_cuts g.holds.first.without_cuts)
      (λ formed. over_premises r one Right i.formula j.formula i.first j.first (usable_with Plain r one two one Right i.formula j.formula last number last.stands) last.formed number
      h.holds.first g.holds.first (and_left _ _ formed) (and_right (is_formed i.formula) _ formed))

  first_forked : IsProof two Left disjunction (joined Right r one two i j).second
  first_forked =
      over_parts (OrL disjunction) two Left disjunction i.formula j.formula i.second j.second
      (record { shape = refl; stands = stands_left two disjunction; eigenvariable = refl; no_cut = refl })
      refl refl refl (λ formed. formed) (λ formed. and_left _ _ formed) (λ formed. and_right (is_formed i.formula) _ formed) h.holds.second g.holds.second

  first_preds : Plain → (q : Pred) (side : Side) → is_pred_in q disjunction ≡ true → is_pred_in_sequent q (part one two side) ≡ true
  first_preds p q Right =
      either (is_pred_in q i.formula) (is_pred_in q j.formula)
      (λ e. pred_above q r 0 one last.no_cut (last.no_unfolding p) last.stands (h.holds.preds p q Right e))
      (λ e. pred_above q r 1 one last.no_cut (last.no_unfolding p) last.stands (g.holds.preds p q Right e))
  first_preds p q Left = either (is_pred_in q i.formula) (is_pred_in q j.formula) (h.holds.preds p q Left) (g.holds.preds p q Left)

  first_vars : (v : Var) (side : Side) → is_free_in v disjunction ≡ true → is_free_in_sequent v (part one two side) ≡ true
  first_vars v Right =
      either (is_free_in v i.formula) (is_free_in v j.formula)
      (λ e. free_in_part Plain v r 0 one two Right one two last number last.stands (h.vars v Left e) (h.vars v Right e))
      (λ e. free_in_part Plain v r 1 one two Right one two last number last.stands (g.vars v Left e) (g.vars v Right e))
  first_vars v Left = either (is_free_in v i.formula) (is_free_in v j.formula) (h.vars v Left) (g.vars v Left)

  pub first_both : Interpolates Plain one two (joined Right r one two i j)
  first_both = record {
    holds = record {
      first = first_joined;
      second = first_forked;
      preds = first_preds;
      closed = and_both _ _ h.holds.closed g.holds.closed;
      formed = λ w is few. and_both _ _
          (h.holds.formed w is (first_less (nesting i.formula) (nesting j.formula) w few))
          (g.holds.formed w is (second_less (nesting i.formula) (nesting j.formula) w few));
    };
    vars = first_vars;
  }

-- it is of the second part
module _ (Plain : Type 0) (r : Rule) (one two : Sequent) (last : IsLast Plain r one two Left) (number : needs r ≡ 2) (i j : Interpolation)
    (h : Interpolates Plain one (extended two (aux r 0)) i) (g : Interpolates Plain one (extended two (aux r 1)) j) where
  abbrev conjunction : Formula
  conjunction = and i.formula j.formula

  second_forked : IsProof one Right conjunction (joined Left r one two i j).first
  second_forked =
      over_parts (AndR conjunction) one Right conjunction i.formula j.formula i.first j.first
      (record { shape = refl; stands = stands_right one conjunction; eigenvariable = refl; no_cut = refl })
      refl refl refl (λ formed. formed) (λ formed. and_left _ _ formed) (λ formed. and_right (is_formed i.formula) _ formed) h.holds.first g.holds.first

  second_joined : IsProof two Left conjunction (joined Left r one two i j).second
  second_joined =
      over_pair (AndL conjunction) two Left conjunction i.formula j.formula (both_over Left r two i j)
      (record { shape = refl; stands = stands_left two conjunction; eigenvariable = refl; no_cut = refl })
      refl refl (λ formed. formed) refl
      (over_two_free r (adds_to (adds_to two Left i.formula) Left j.formula) i.second j.second last.no_cut h.holds.second.without_cuts g.holds.second.without_cuts)
      (λ formed. over_premises r two Left i.formula j.formula i.second j.second (usable_with Plain r one two two Left i.formula j.formula last number last.stands) last.formed number
      h.holds.second g.holds.second (and_left _ _ formed) (and_right (is_formed i.formula) _ formed))

  second_preds : Plain → (q : Pred) (side : Side) → is_pred_in q conjunction ≡ true → is_pred_in_sequent q (part one two side) ≡ true
  second_preds p q Right = either (is_pred_in q i.formula) (is_pred_in q j.formula) (h.holds.preds p q Right) (g.holds.preds p q Right)
  second_preds p q Left =
      either (is_pred_in q i.formula) (is_pred_in q j.formula)
      (λ e. pred_above q r 0 two last.no_cut (last.no_unfolding p) last.stands (h.holds.preds p q Left e))
      (λ e. pred_above q r 1 two last.no_cut (last.no_unfolding p) last.stands (g.holds.preds p q Left e))

  second_vars : (v : Var) (side : Side) → is_free_in v conjunction ≡ true → is_free_in_sequent v (part one two side) ≡ true
  second_vars v Right = either (is_free_in v i.formula) (is_free_in v j.formula) (h.vars v Right) (g.vars v Right)
  second_vars v Left =
      either (is_free_in v i.formula) (is_free_in v j.formula)
      (λ e. free_in_part Plain v r 0 two one Left one two last number last.stands (h.vars v Right e) (h.vars v Left e))
      (λ e. free_in_part Plain v r 1 two one Left one two last number last.stands (g.vars v Right e) (g.vars v Left e))

  pub second_both : Interpolates Plain one two (joined Left r one two i j)
  second_both = record {
    holds = record {
      first = second_forked;
      second = second_joined;
      preds = second_preds;
      closed = and_both _ _ h.holds.closed g.holds.closed;
      formed = λ w is few. and_both _ _
          (h.holds.formed w is (first_less (nesting i.formula) (nesting j.formula) w few))
          (g.holds.formed w is (second_less (nesting i.formula) (nesting j.formula) w few));
    };
    vars = second_vars;
  }
