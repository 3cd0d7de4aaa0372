-- A set within another one that has no more members is the same set.
use Rattle.std.proofs.Common.{◌≡◌, ℕ, ◌+◌, ◌≤◌, Bool, true, false, not, ◌&&◌, cond, List, [], ◌∷◌, length, map, refl, sym, ap, subst, ◌∙◌, arith}
use Rattle.std.specs.declared.cmp.Ordering.{Ordering}
use Rattle.std.specs.declared.cmp.Ordering.TheVariants.{Less, Equal, Greater}
use Rattle.std.specs.Cmp.{IsTotalOrder}
use Rattle.std.specs.Ordering.{eq_by_cmp, match_ordering}
use Rattle.std.specs.FinMap as fin
use Rattle.std.proofs.lemmas.List.{length-map}
use Rattle.fol.specs.Syntax.{Formula}
use Rattle.fol.specs.Order.{formula_cmp}
use Rattle.fol.specs.OrderLaws.{formula_total}
use Rattle.fol.proofs.OrderTies.{formula_ties, formula_equality_same}
use Rattle.finite.specs.Finite as set
use Rattle.finite.proofs.Finite.{listing_rises, of_rising-listing, subset_of_members}
use Rattle.finite.proofs.Inclusion.{within, within_step, within-subset}
use Rattle.lk_rules.specs.Formulas.{FormulaSet}
use Rattle.arena_cells.specs.Items.{Item}
use Rattle.arena_cells.specs.Standing.{HasSide, formula_at, side_at, IsSideAt}
use Rattle.arena_cells.specs.Meaning.{formulas_of}

module _ {K : Type 0} (R : K → K → Ordering) (o : IsTotalOrder R) (ties : fin.IsAntisymmetric R) where
  step_length : (x : K) (on : List K → Bool) (n : ℕ) → ((zs : List K) → on zs ≡ true → n ≤ length zs) → (ys : List K) → within_step R x on ys ≡ true → n + 1 ≤ length ys
  step_length x on n h [] e = cc
  step_length x on n h (y ∷ ys) e = elim (R x y) as (λ r. match_ordering r false (on ys) (within_step R x on ys) ≡ true → n + 1 ≤ length (y ∷ ys)) [
    | Less ↦ λ w. cc
    | Equal ↦ λ w. omega (arith, h ys w)
    | Greater ↦ λ w. omega (arith, step_length x on n h ys w)
  ] e

  within_length : (xs ys : List K) → within R xs ys ≡ true → length xs ≤ length ys
  within_length [] ys e = omega arith
  within_length (x ∷ xs) ys e = omega (arith, step_length x (within R xs) (length xs) (within_length xs) ys e)

  same_within : (xs ys : List K) → within R xs ys ≡ true → length ys ≤ length xs → xs ≡ ys
  same_within [] [] e l = refl
  same_within [] (y ∷ ys) e l = absurd (omega (arith, l))
  same_within (x ∷ xs) [] e l = cc
  same_within (x ∷ xs) (y ∷ ys) e l = elim (R x y) as (λ r. R x y ≡ r → match_ordering r false (within R xs ys) (within_step R x (within R xs) ys) ≡ true → x ∷ xs ≡ y ∷ ys) [
    | Less ↦ λ is w. cc
    | Equal ↦ λ is w. λ i. ties x y is i ∷ same_within xs ys w (omega (arith, l)) i
    | Greater ↦ λ is w. absurd (omega (arith, l, step_length x (within R xs) (length xs) (within_length xs) ys w))
  ] refl e

  sized : (s : set.Finite R) → length (set.listing s) ≡ fin.len s
  sized s = length-map (fin.entries s) (λ e. e.0) ∙ sym (fin.len-entries s)

  one_more : (b : Bool) (n : ℕ) → cond b n (n + 1) ≤ n + 1
  one_more true n = omega arith
  one_more false n = omega arith

  len_of_each : (s : set.Finite R) (xs : List K) → fin.len (set.adds_each s xs) ≤ fin.len s + length xs
  len_of_each s [] = omega arith
  len_of_each s (x ∷ xs) = omega (arith, len_of_each (set.adds s x) xs, fin.len-insert o s x tt, one_more (set.has s x) (fin.len s))

  pub length_of_set : (xs : List K) → length (set.listing (set.adds_each (set.empty {R = R}) xs)) ≤ length xs
  length_of_set xs = omega (arith, sized (set.of_list xs), len_of_each set.empty xs, fin.len-empty R (Unit {0}))

  pub same_of_size : (s t : set.Finite R) → set.IsSubset s t → length (set.listing t) ≤ length (set.listing s) → s ≡ t
  same_of_size s t h l =
      let inside : within R (set.listing s) (set.listing t) ≡ true =
      within-subset R o (set.listing s) (set.listing t) (listing_rises s) (listing_rises t) ∙ (λ i. set.subset (of_rising-listing s i) (of_rising-listing t i)) ∙ subset_of_members o s t h in
      sym (of_rising-listing s) ∙ ap set.of_rising (same_within (set.listing s) (set.listing t) inside l) ∙ of_rising-listing t

-- without a formula that a set lacks, a larger set still has all of it
pub within_others : (s t u : FormulaSet) (x : Formula) → set.IsSubset s t → set.has s x ≡ false → ((f : Formula) → set.has u f ≡ (not (eq_by_cmp formula_cmp f x) && set.has t f)) → set.IsSubset s u
within_others s t u x h out members f there =
    members f ∙ elim (eq_by_cmp formula_cmp f x) as (λ b. eq_by_cmp formula_cmp f x ≡ b → (not b && set.has t f) ≡ true) [
      | true ↦ λ e. let same : f ≡ x = (formula_equality_same f x (eq_by_cmp formula_cmp f x) refl).0 e in cc
      | false ↦ λ e. h f there
    ] refl

-- the side at a number, by the numbers of its formulas
pub same_side : (a : List Item) (n : ℕ) (ns : List ℕ) (s : FormulaSet) → IsSideAt a n → side_at a n ≡ formulas_of a ns → set.IsSubset s (side_at a n) → length ns ≤ length (set.listing s) → HasSide a n s
same_side a n ns s there shown h l =
    let fewer : length (set.listing (side_at a n)) ≤ length ns =
    omega (arith, ap (λ (x : FormulaSet). length (set.listing x)) shown, length_of_set formula_cmp formula_total formula_ties (map (formula_at a) ns), length-map ns (formula_at a)) in
    subst (λ (x : FormulaSet). HasSide a n x) (sym (same_of_size formula_cmp formula_total formula_ties s (side_at a n) h (omega (arith, fewer, l)))) there
