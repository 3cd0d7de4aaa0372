-- The sum of a measure over a set with more formulas, and without one.
use Rattle.std.proofs.Common.{◌≡◌, ℕ, ◌+◌, ◌≤◌, Bool, true, false, not, ◌||◌, cond, List, [], ◌∷◌, map, filter, sum_by, refl, sym, ap, subst, ◌∙◌, arith}
use Rattle.std.specs.declared.cmp.Ordering.TheVariants.{Less, Equal, Greater}
use Rattle.std.specs.Ordering.{eq_by_cmp}
use Rattle.std.specs.FinMap as fin
use Rattle.std.proofs.lemmas.List.Sums.{sum_by-cons}
use Rattle.std.specs.FinMap.Entries.{put, by_order}
use Rattle.fol.specs.Syntax.{Formula}
use Rattle.fol.specs.Order.{formula_cmp}
use Rattle.fol.specs.OrderLaws.{formula_total}
use Rattle.finite.specs.Finite as set
use Rattle.finite.proofs.Finite.{has-listing, of_rising-empty, listing-of_rising}
use Rattle.lk_rules.specs.Formulas.{FormulaSet}
use Rattle.proof_trees.specs.FormulaSets.{without}
use Rattle.proof_trees.proofs.FormulaSets.{equal}
use Rattle.search_laws.proofs.Listed.{among}

module _ (g : Formula → ℕ) where
  -- the sum over the keys of entries
  abbrev sum_keys : List (Formula × Unit {0}) → ℕ
  sum_keys es = sum_by g (map (λ e. e.0) es)

  -- one more entry adds at most its key
  sum-put : (k : Formula) (es : List (Formula × Unit {0})) → sum_keys (put formula_cmp k tt es) ≤ sum_keys es + g k
  sum-put k [] = omega (arith, sum_by-cons g k [])
  sum-put k (e ∷ es) =
      let later = sum-put k es in
      let old = sum_by-cons g e.0 (map (λ d. d.0) es) in
      elim (formula_cmp k e.0) as (λ o. sum_keys (by_order o ((k, tt) ∷ e ∷ es) ((e.0, tt) ∷ es) (e ∷ put formula_cmp k tt es)) ≤ sum_keys (e ∷ es) + g k) [
        | Less ↦ let here : sum_keys ((k, tt) ∷ e ∷ es) ≤ sum_keys (e ∷ es) + g k = omega (arith, sum_by-cons g k (map (λ d. d.0) (e ∷ es))) in here
        | Equal ↦ let here : sum_keys (e ∷ es) ≤ sum_keys (e ∷ es) + g k = omega arith in here
        | Greater ↦ let here : sum_keys (e ∷ put formula_cmp k tt es) ≤ sum_keys (e ∷ es) + g k = omega (arith, sum_by-cons g e.0 (map (λ d. d.0) (put formula_cmp k tt es))) in here
      ]

  -- a set with one more formula has at most that formula more
  sum-adds : (s : FormulaSet) (k : Formula) → sum_by g (set.listing (set.adds s k)) ≤ sum_by g (set.listing s) + g k
  sum-adds s k = subst (λ es. sum_keys es ≤ sum_by g (set.listing s) + g k) (sym (fin.entries-insert formula_total s k tt)) (sum-put k (fin.entries s))

  -- a set with the formulas of a list has at most their sum more
  pub sum-adds_each : (s : FormulaSet) (fs : List Formula) → sum_by g (set.listing (set.adds_each s fs)) ≤ sum_by g (set.listing s) + sum_by g fs
  sum-adds_each s [] = omega arith
  sum-adds_each s (f ∷ fs) =
      let one = sum-adds s f in
      let others = sum-adds_each (set.adds s f) fs in
      omega (arith, sum_by-cons g f fs)

  -- a part of a list has no more
  sum-filter_le : (p : Formula → Bool) (fs : List Formula) → sum_by g (filter p fs) ≤ sum_by g fs
  sum-filter_le p [] = omega arith
  sum-filter_le p (f ∷ fs) =
      let others = sum-filter_le p fs in
      let all = sum_by-cons g f fs in
      elim (p f) as (λ b. sum_by g (cond b (f ∷ filter p fs) (filter p fs)) ≤ sum_by g (f ∷ fs)) [
        | true ↦ let here : sum_by g (f ∷ filter p fs) ≤ sum_by g (f ∷ fs) = omega (arith, sum_by-cons g f (filter p fs)) in here
        | false ↦ let here : sum_by g (filter p fs) ≤ sum_by g (f ∷ fs) = omega arith in here
      ]

  -- the formulas of a list that are not a
  abbrev others_of : Formula → List Formula → List Formula
  others_of a = filter (λ f. not (eq_by_cmp formula_cmp a f))

  -- without a formula that is in it, a list has at least as much less
  sum-others_of : (a : Formula) (fs : List Formula) → among fs a ≡ true → sum_by g (others_of a fs) + g a ≤ sum_by g fs
  sum-others_of a [] m = cc
  sum-others_of a (f ∷ fs) m =
      let all = sum_by-cons g f fs in
      elim (eq_by_cmp formula_cmp a f) as (λ b. eq_by_cmp formula_cmp a f ≡ b → (b || among fs a) ≡ true → sum_by g (cond (not b) (f ∷ others_of a fs) (others_of a fs)) + g a ≤ sum_by g (f ∷ fs)) [
        | true ↦ λ e _.
            let same : g a ≡ g f = ap g (equal a f e) in
            let others = sum-filter_le (λ h. not (eq_by_cmp formula_cmp a h)) fs in
            let here : sum_by g (others_of a fs) + g a ≤ sum_by g (f ∷ fs) = omega arith in
            here
        | false ↦ λ e later.
            let others = sum-others_of a fs later in
            let here : sum_by g (f ∷ others_of a fs) + g a ≤ sum_by g (f ∷ fs) = omega (arith, sum_by-cons g f (others_of a fs)) in
            here
      ] refl m

  -- a set without a member has at least as much less
  pub sum-without : (s : FormulaSet) (a : Formula) → set.has s a ≡ true → sum_by g (set.listing (without s a)) + g a ≤ sum_by g (set.listing s)
  sum-without s a m =
      let kept = sum-adds_each set.empty (others_of a (set.listing s)) in
      let less = sum-others_of a (set.listing s) (sym (has-listing s a) ∙ m) in
      let nothing : sum_by g (set.listing (set.empty {R = formula_cmp})) ≡ 0 = ap (sum_by g) (ap set.listing (sym (of_rising-empty formula_cmp)) ∙ listing-of_rising formula_cmp [] tt) in
      omega arith
