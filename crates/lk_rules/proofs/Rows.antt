-- An inference has no fault exactly where it is right.
use Rattle.std.proofs.Common.{◌≡◌, ◌↔◌, ℕ, Bool, true, false, ◌&&◌, if◌then◌else◌, eqb, List, [], length, Option, Some, None, option_to_list, unwrap_or, is_some, IfSome, Result, Ok, Err, IsOk, refl, sym, ap, subst, ◌∙◌}
use Rattle.std.specs.List.{All, list_all}
use Rattle.std.proofs.lemmas.List.Sums.{AllPass-from_list_all, list_all-from_AllPass}
use borrow.Author.Tests.{eqb-true, eq-eqb}
use Rattle.fol.specs.Syntax.{pred, undefined, defined, Formula, atom, not, and, or, imp, all, ex}
use Rattle.fol.specs.OrderLaws.{formula_total}
use Rattle.finite.specs.Finite as set
use Rattle.finite.proofs.Finite.{has-adds_each}
use Rattle.lk_rules.specs.declared.sequent.Sequent.{Sequent}
use Rattle.lk_rules.specs.declared.sequent.Side.{Side}
use Rattle.lk_rules.specs.declared.sequent.Side.TheVariants.{Left, Right}
use Rattle.substitution.specs.Unfolding.{unf}
use Rattle.lk_rules.specs.declared.rule.Rule.{Rule}
use Rattle.lk_rules.specs.declared.rule.Rule.TheVariants.{Ax, TopR, BotL, NegL, NegR, AndL, AndR, OrL, OrR, ImpL, ImpR, AllL, AllR, ExL, ExR, DefL, DefR, Cut, Weak}
use Rattle.lk_rules.specs.declared.inference.RuleFault.{RuleFault}
use Rattle.lk_rules.specs.declared.inference.RuleFault.TheVariants.{Premises, Shape, MainMissing, EigenFree, Premise}
use Rattle.lk_rules.specs.Formulas.{FormulaSet}
use Rattle.lk_rules.specs.Sequents.{side_of, extended, is_subsequent}
use Rattle.lk_rules.specs.Rules.{Extra, premises, needs, has_shape, main, eigen_free, aux, main_stands, fits_side, fits, verdict_of, IsWithin, Row}
use Rattle.lk_rules.proofs.Subsequents.{and_left, and_right, and_both, subsequent_of, is_subsequent_of}

-- a row has as many premises as the rule needs

needs_of_row : (r : Rule) → has_shape r ≡ true → length (unwrap_or (premises r) []) ≡ needs r
needs_of_row (Ax a) h = refl
needs_of_row TopR h = refl
needs_of_row BotL h = refl
needs_of_row (NegL (not a)) h = refl
needs_of_row (NegR (not a)) h = refl
needs_of_row (AndL (and a b)) h = refl
needs_of_row (AndR (and a b)) h = refl
needs_of_row (OrL (or a b)) h = refl
needs_of_row (OrR (or a b)) h = refl
needs_of_row (ImpL (imp a b)) h = refl
needs_of_row (ImpR (imp a b)) h = refl
needs_of_row (AllL (all b) t) h = refl
needs_of_row (AllR (all b) y) h = refl
needs_of_row (ExL (ex b) y) h = refl
needs_of_row (ExR (ex b) t) h = refl
needs_of_row (DefL (atom (pred s (defined b)) ts)) h = refl
needs_of_row (DefR (atom (pred s (defined b)) ts)) h = refl
needs_of_row (Cut a) h = refl
needs_of_row Weak h = refl
needs_of_row r h = cc

pub row_length : (r : Rule) (row : List Extra) → premises r ≡ Some row → length row ≡ needs r
row_length r row h = ap (λ o. length (unwrap_or o [])) (sym h) ∙ needs_of_row r (ap is_some h)

-- a rule that unfolds an atom has a row exactly where there is an unfolding, which is the auxiliary formula

pub shape_left : (a : Formula) → has_shape (DefL a) ≡ is_some (unf a)
shape_left (atom (pred s undefined) ts) = refl
shape_left (atom (pred s (defined b)) ts) = refl
shape_left a = refl

pub shape_right : (a : Formula) → has_shape (DefR a) ≡ is_some (unf a)
shape_right (atom (pred s undefined) ts) = refl
shape_right (atom (pred s (defined b)) ts) = refl
shape_right a = refl

pub unfolded_left : (a : Formula) → aux (DefL a) 0 Left ≡ option_to_list (unf a)
unfolded_left (atom (pred s undefined) ts) = refl
unfolded_left (atom (pred s (defined b)) ts) = refl
unfolded_left a = refl

pub unfolded_right : (a : Formula) → aux (DefR a) 0 Right ≡ option_to_list (unf a)
unfolded_right (atom (pred s undefined) ts) = refl
unfolded_right (atom (pred s (defined b)) ts) = refl
unfolded_right a = refl

-- a side fits exactly where it is a subset of the conclusion's with the auxiliary formulas
pub fits_side-subset : (formulas end : FormulaSet) (extra : List Formula) → fits_side formulas end extra ≡ set.subset formulas (set.adds_each end extra)
fits_side-subset formulas end extra = sym (λ i. list_all (λ q. has-adds_each formula_total end extra q i) (set.listing formulas))

pub fits-subsequent : (r : Rule) (end : Sequent) (i : ℕ) (s : Sequent) → fits r end i (Some s) ≡ is_subsequent s (extended end (aux r i))
fits-subsequent r end i s = λ j. fits_side-subset s.left end.left (aux r i Left) j && fits_side-subset s.right end.right (aux r i Right) j

pub within_of : (r : Rule) (end : Sequent) (i : ℕ) (premise : Option Sequent) → fits r end i premise ≡ true → IfSome premise (IsWithin r end i)
within_of r end i None e = tt
within_of r end i (Some s) e = subsequent_of s (extended end (aux r i)) (sym (fits-subsequent r end i s) ∙ e)

pub fits_of : (r : Rule) (end : Sequent) (i : ℕ) (premise : Option Sequent) → IfSome premise (IsWithin r end i) → fits r end i premise ≡ true
fits_of r end i None h = refl
fits_of r end i (Some s) h = fits-subsequent r end i s ∙ is_subsequent_of s (extended end (aux r i)) h

pub main_of : (r : Rule) (end : Sequent) → main_stands r end ≡ true → (side : Side) → All (λ f. set.has (side_of end side) f ≡ true) (main r side)
main_of r end e Left = AllPass-from_list_all (set.has end.left) (main r Left) (and_left _ _ e)
main_of r end e Right = AllPass-from_list_all (set.has end.right) (main r Right) (and_right _ _ e)

pub stands_of : (r : Rule) (end : Sequent) → ((side : Side) → All (λ f. set.has (side_of end side) f ≡ true) (main r side)) → main_stands r end ≡ true
stands_of r end h = and_both _ _ (list_all-from_AllPass (set.has end.left) (main r Left) (h Left)) (list_all-from_AllPass (set.has end.right) (main r Right) (h Right))

-- the tests of a verdict, one after another
abbrev chain : Bool → Bool → Bool → Bool → Bool → Bool → Result (Unit {0}) RuleFault
chain count shape stands free first second =
    if count then (
    if shape then (
    if stands then (
    if free then Err EigenFree else (
    if first then (
    if second then Ok tt
    else Err (Premise 1))
    else Err (Premise 0)))
    else Err MainMissing)
    else Err Shape)
    else Err Premises

record Passes (count shape stands free first second : Bool) : Type 0 where
  count_right : count ≡ true
  shape_right : shape ≡ true
  main_right : stands ≡ true
  eigen_right : free ≡ false
  first_right : first ≡ true
  second_right : second ≡ true

passes_of : (a b c d e f : Bool) → IsOk (chain a b c d e f) → Passes a b c d e f
passes_of true true true false true true h = record { count_right = refl; shape_right = refl; main_right = refl; eigen_right = refl; first_right = refl; second_right = refl }
passes_of true true true false true false h = cc
passes_of true true true false false f h = cc
passes_of true true true true e f h = cc
passes_of true true false d e f h = cc
passes_of true false c d e f h = cc
passes_of false b c d e f h = cc

ok_of : (a b c d e f : Bool) → Passes a b c d e f → IsOk (chain a b c d e f)
ok_of a b c d e f h = rw (h.count_right, h.shape_right, h.main_right, h.eigen_right, h.first_right, h.second_right) refl

module _ (r : Rule) (end : Sequent) (n : ℕ) (first second : Option Sequent) where
  pub row_of : IsOk (verdict_of r end n first second) → Row r end n first second
  row_of h =
      let p : Passes (eqb n (needs r)) (has_shape r) (main_stands r end) (eigen_free r end) (fits r end 0 first) (fits r end 1 second) = passes_of _ _ _ _ _ _ h in
      record {
        premises = eqb-true n (needs r) p.count_right;
        shape = p.shape_right;
        main_formula = main_of r end p.main_right;
        eigenvariable = p.eigen_right;
        first_premise = within_of r end 0 first p.first_right;
        second_premise = within_of r end 1 second p.second_right;
      }

  pub row_back : Row r end n first second → IsOk (verdict_of r end n first second)
  row_back row = ok_of _ _ _ _ _ _ (record {
    count_right = eq-eqb n (needs r) row.premises;
    shape_right = row.shape;
    main_right = stands_of r end row.main_formula;
    eigen_right = row.eigenvariable;
    first_right = fits_of r end 0 first row.first_premise;
    second_right = fits_of r end 1 second row.second_premise;
  })

  -- what `check` answers
  pub row_checked : (v : Result (Unit {0}) RuleFault) → v ≡ verdict_of r end n first second → IsOk v ↔ Row r end n first second
  row_checked v e = (λ ok. row_of (subst (λ w. IsOk w) e ok), λ row. subst (λ w. IsOk w) (sym e) (row_back row))
