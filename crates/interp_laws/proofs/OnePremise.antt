-- Interpolation of inferences with one premise.
use Rattle.std.proofs.Common.{◌≡◌, true, false, List, [], ◌∷◌, ◌++◌, sym, subst}
use Rattle.std.specs.List.{AllByRecursion}
use Rattle.fol.specs.Syntax.{Pred}
use Rattle.fol.specs.declared.symbols.Var.{Var}
use Rattle.free_variables.specs.Occurrence.{is_free_in, is_pred_in}
use Rattle.lk_rules.specs.declared.sequent.Sequent.{Sequent}
use Rattle.lk_rules.specs.declared.sequent.Side.{Side}
use Rattle.lk_rules.specs.declared.sequent.Side.TheVariants.{Left, Right}
use Rattle.lk_rules.specs.declared.rule.Rule.{Rule}
use Rattle.lk_rules.specs.RuleOrder.{term_of}
use Rattle.lk_rules.specs.Sequents.{adds_to, extended, is_free_in_sequent, union_sequent}
use Rattle.lk_rules.specs.Rules.{IsFormedRule, is_unfolding_rule, needs, has_shape, aux, eigen_free, main_stands}
use Rattle.proof_trees.specs.Trees.{is_cut}
use Rattle.proof_trees.specs.Occurrence.{is_pred_in_sequent}
use Rattle.cut_laws.proofs.Cuts.{main_larger}
use Rattle.cut_laws.proofs.Sides.{within_added}
use Rattle.interp_laws.specs.Interpolation.{Interpolation, part, first_above, second_above, vars_outside, inferred, closed_by, vars_to_close, over_one}
use Rattle.interp_laws.specs.Parts.{IsFormedSequent}
use Rattle.interp_laws.proofs.Above.{pred_above, free_above}
use Rattle.interp_laws.proofs.Outside.{all_outside, inside}
use Rattle.interp_laws.proofs.Holding.{Holds, IsOutside, closed_holds, Remains, free_closed}
use Rattle.interp_laws.proofs.Leaves.{Interpolates}
use Rattle.interp_laws.proofs.Members.{in_one, in_two, some_larger, some_added}
use Rattle.interp_laws.proofs.Proofs.{IsUsable, again}
use Rattle.interp_laws.proofs.RuleParts.{free_var_formed, eigen_out, not_eigen}

-- a rule as the last of a proof whose conclusion has the parts; its main formula counts to the part m. Where `Plain` holds, it unfolds
-- no atom
pub record IsLast (Plain : Type 0) (r : Rule) (one two : Sequent) (m : Side) : Type 0 where
  pub shape : has_shape r ≡ true
  pub formed : IsFormedRule r
  pub no_cut : is_cut r ≡ false
  pub no_unfolding : Plain → is_unfolding_rule r ≡ false
  pub eigenvariable : eigen_free r (union_sequent one two) ≡ false
  pub stands : main_stands r (part one two m) ≡ true

-- the main formula is of the first part
module _ (Plain : Type 0) (r : Rule) (one two : Sequent) (last : IsLast Plain r one two Right) (number : needs r ≡ 1) (i : Interpolation) (h : Interpolates Plain (extended one (aux r 0)) two i) where
  first_usable : IsUsable r (adds_to one Right i.formula)
  first_usable = record {
    shape = last.shape;
    stands = main_larger r one (adds_to one Right i.formula) (within_added Right one i.formula) last.stands;
    eigenvariable = eigen_out r (adds_to one Right i.formula) (union_sequent one two) (λ v.
        some_added (is_free_in v) Right one i.formula
        (some_larger (is_free_in v) one (union_sequent one two) (in_one one two))
        (λ e. some_larger (is_free_in v) two (union_sequent one two) (in_two one two) (h.vars v Left e)))
        last.eigenvariable;
    no_cut = last.no_cut;
  }

  first_preds : Plain → (q : Pred) (side : Side) → is_pred_in q i.formula ≡ true → is_pred_in_sequent q (part one two side) ≡ true
  first_preds p q Right e = pred_above q r 0 one last.no_cut (last.no_unfolding p) last.stands (h.holds.preds p q Right e)
  first_preds p q Left e = h.holds.preds p q Left e

  first_inferred : Holds Plain one two (inferred Right r one two i)
  first_inferred = record {
    first = again r one Right i.formula i.first first_usable last.formed number h.holds.first;
    second = h.holds.second;
    preds = first_preds;
    closed = h.holds.closed;
    formed = h.holds.formed;
  }

  first_vars : (v : Var) (side : Side) → Remains v (vars_outside (term_of r) i.formula one) i.formula → is_free_in_sequent v (part one two side) ≡ true
  first_vars v Left left = h.vars v Left left.before
  first_vars v Right left =
      free_above v r 0 one last.formed last.no_cut last.stands
      (λ old. old)
      (λ term. inside (term_of r) i.formula one v term left.before left.other)
      (not_eigen r (union_sequent one two) v last.eigenvariable (some_larger (is_free_in v) two (union_sequent one two) (in_two one two) (h.vars v Left left.before)))
      (h.vars v Right left.before)

  first_outside : IsFormedSequent two → AllByRecursion (IsOutside one) (vars_to_close Right r one two i)
  first_outside formed = all_outside (term_of r) i.formula one (λ v e. free_var_formed v two formed (h.vars v Left e))

  first_interpolates : IsFormedSequent two → Interpolates Plain one two (over_one Right r one two i)
  first_interpolates formed = record {
    holds = closed_holds Plain Right one two (vars_to_close Right r one two i) (inferred Right r one two i) (first_outside formed) first_inferred;
    vars = λ v side e. first_vars v side (free_closed Right one two v (vars_to_close Right r one two i) (inferred Right r one two i) e);
  }

-- it is of the second part
module _ (Plain : Type 0) (r : Rule) (one two : Sequent) (last : IsLast Plain r one two Left) (number : needs r ≡ 1) (i : Interpolation) (h : Interpolates Plain one (extended two (aux r 0)) i) where
  second_usable : IsUsable r (adds_to two Left i.formula)
  second_usable = record {
    shape = last.shape;
    stands = main_larger r two (adds_to two Left i.formula) (within_added Left two i.formula) last.stands;
    eigenvariable = eigen_out r (adds_to two Left i.formula) (union_sequent one two) (λ v.
        some_added (is_free_in v) Left two i.formula
        (some_larger (is_free_in v) two (union_sequent one two) (in_two one two))
        (λ e. some_larger (is_free_in v) one (union_sequent one two) (in_one one two) (h.vars v Right e)))
        last.eigenvariable;
    no_cut = last.no_cut;
  }

  second_preds : Plain → (q : Pred) (side : Side) → is_pred_in q i.formula ≡ true → is_pred_in_sequent q (part one two side) ≡ true
  second_preds p q Right e = h.holds.preds p q Right e
  second_preds p q Left e = pred_above q r 0 two last.no_cut (last.no_unfolding p) last.stands (h.holds.preds p q Left e)

  second_inferred : Holds Plain one two (inferred Left r one two i)
  second_inferred = record {
    first = h.holds.first;
    second = again r two Left i.formula i.second second_usable last.formed number h.holds.second;
    preds = second_preds;
    closed = h.holds.closed;
    formed = h.holds.formed;
  }

  second_vars : (v : Var) (side : Side) → Remains v (vars_outside (term_of r) i.formula two) i.formula → is_free_in_sequent v (part one two side) ≡ true
  second_vars v Right left = h.vars v Right left.before
  second_vars v Left left =
      free_above v r 0 two last.formed last.no_cut last.stands
      (λ old. old)
      (λ term. inside (term_of r) i.formula two v term left.before left.other)
      (not_eigen r (union_sequent one two) v last.eigenvariable (some_larger (is_free_in v) one (union_sequent one two) (in_one one two) (h.vars v Right left.before)))
      (h.vars v Left left.before)

  second_outside : IsFormedSequent one → AllByRecursion (IsOutside two) (vars_to_close Left r one two i)
  second_outside formed = all_outside (term_of r) i.formula two (λ v e. free_var_formed v one formed (h.vars v Right e))

  second_interpolates : IsFormedSequent one → Interpolates Plain one two (over_one Left r one two i)
  second_interpolates formed = record {
    holds = closed_holds Plain Left one two (vars_to_close Left r one two i) (inferred Left r one two i) (second_outside formed) second_inferred;
    vars = λ v side e. second_vars v side (free_closed Left one two v (vars_to_close Left r one two i) (inferred Left r one two i) e);
  }

-- the main formula is of either part

inferred_holds : (Plain : Type 0) (m : Side) (r : Rule) (one two : Sequent) → IsLast Plain r one two m → needs r ≡ 1 → (i : Interpolation) → Interpolates Plain (first_above m r 0 one) (second_above m r 0 two) i
    → Holds Plain one two (inferred m r one two i)
inferred_holds Plain Right = first_inferred Plain
inferred_holds Plain Left = second_inferred Plain

outside_of : (Plain : Type 0) (m : Side) (r : Rule) (one two : Sequent) → IsLast Plain r one two m → needs r ≡ 1 → (i : Interpolation) → Interpolates Plain (first_above m r 0 one) (second_above m r 0 two) i
    → IsFormedSequent one → IsFormedSequent two → AllByRecursion (IsOutside (part one two m)) (vars_to_close m r one two i)
outside_of Plain Right r one two last number i h formed_one formed_two = first_outside Plain r one two last number i h formed_two
outside_of Plain Left r one two last number i h formed_one formed_two = second_outside Plain r one two last number i h formed_one

pub one_interpolates : (Plain : Type 0) (m : Side) (r : Rule) (one two : Sequent) → IsLast Plain r one two m → needs r ≡ 1 → (i : Interpolation) → Interpolates Plain (first_above m r 0 one) (second_above m r 0 two) i
    → IsFormedSequent one → IsFormedSequent two → Interpolates Plain one two (over_one m r one two i)
one_interpolates Plain Right r one two last number i h formed_one formed_two = first_interpolates Plain r one two last number i h formed_two
one_interpolates Plain Left r one two last number i h formed_one formed_two = second_interpolates Plain r one two last number i h formed_one

all_after : (s : Sequent) (xs ys : List Var) → AllByRecursion (IsOutside s) (xs ++ ys) → AllByRecursion (IsOutside s) ys
all_after s [] ys h = h
all_after s (x ∷ xs) ys h = all_after s xs ys h.1

-- with the quantifiers of some of the variables, from the last one on
pub some_closed : (Plain : Type 0) (m : Side) (r : Rule) (one two : Sequent) → IsLast Plain r one two m → needs r ≡ 1 → (i : Interpolation) → Interpolates Plain (first_above m r 0 one) (second_above m r 0 two) i
    → IsFormedSequent one → IsFormedSequent two → (xs ys : List Var) → xs ++ ys ≡ vars_to_close m r one two i → Holds Plain one two (closed_by m one two ys (inferred m r one two i))
some_closed Plain m r one two last number i h formed_one formed_two xs ys is =
    let outside : AllByRecursion (IsOutside (part one two m)) (vars_to_close m r one two i) = outside_of Plain m r one two last number i h formed_one formed_two in
    closed_holds Plain m one two ys (inferred m r one two i) (all_after (part one two m) xs ys (subst (AllByRecursion (IsOutside (part one two m))) (sym is) outside)) (inferred_holds Plain m r one two last number i h)
