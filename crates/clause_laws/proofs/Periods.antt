-- A function from the formulas of a list onto these, done often enough, changes none of them.
use Rattle.std.proofs.Common.{◌≡◌, ℕ, Bool, zero, suc, ◌+◌, ◌-◌, ◌*◌, ◌<◌, ◌≤◌, true, false, List, [], ◌∷◌, length, refl, sym, ap, ◌∙◌, ◌⊎◌, inl, inr, ⊎_elim, arith}
use Rattle.std.specs.List.{AllByRecursion, IsDistinct}
use Rattle.std.specs.Ordering.{eq_by_cmp}
use Rattle.std.proofs.lemmas.Cmp.{eq_by_cmp_equiv}
use Rattle.std.proofs.lemmas.Map.Made.{length-le_from_is_member}
use Rattle.std.proofs.Math.Nat.{mul_comm}
use Rattle.std.proofs.lemmas.Bool.{false≢true}
use Rattle.fol.specs.Syntax.{Formula}
use Rattle.fol.specs.Order.{formula_cmp}
use Rattle.fol.specs.OrderLaws.{formula_total}
use Rattle.proof_trees.proofs.Booleans.{or_first, or_second, either}
use Rattle.proof_trees.proofs.FormulaSets.{equal, tied}
use Rattle.unify_laws.proofs.Images.{split, clash_of}
use Rattle.clause_laws.proofs.Sets.{is_in}

abbrev ties : Formula → Formula → Bool
ties = eq_by_cmp formula_cmp

-- a formula that isn't in a list differs from each that is
all_differ : (f : Formula) (fs : List Formula) → is_in fs f ≡ false → AllByRecursion (λ g. ties f g ≡ false) fs
all_differ f [] out = tt
all_differ f (g ∷ fs) out = (
  split (ties f g) (λ e. clash_of (is_in (g ∷ fs) f) (or_first (ties f g) (is_in fs f) e) out) (λ e. e),
  all_differ f fs (split (is_in fs f) (λ e. clash_of (is_in (g ∷ fs) f) (or_second (ties f g) (is_in fs f) e) out) (λ e. e)),
)

module _ (onward : Formula → Formula) where
  abbrev pub iterate : ℕ → Formula → Formula
  iterate zero f = f
  iterate (suc n) f = iterate n (onward f)

  iterate-add : (n k : ℕ) (f : Formula) → iterate (n + k) f ≡ iterate k (iterate n f)
  iterate-add zero k f = let same : 0 + k ≡ k = omega arith in ap (λ i. iterate i f) same
  iterate-add (suc n) k f = let same : suc n + k ≡ suc (n + k) = omega arith in ap (λ i. iterate i f) same ∙ iterate-add n k (onward f)

  -- what a number of times changes nothing, so many times that number doesn't either
  iterate-times : (k : ℕ) (f : Formula) → iterate k f ≡ f → (n : ℕ) → iterate (n * k) f ≡ f
  iterate-times k f same zero = let none : 0 * k ≡ 0 = omega arith in ap (λ i. iterate i f) none
  iterate-times k f same (suc n) =
      let more : suc n * k ≡ k + n * k = omega arith in
      ap (λ i. iterate i f) more ∙ iterate-add k (n * k) f ∙ ap (iterate (n * k)) same ∙ iterate-times k f same n

  -- the first values

  abbrev values : ℕ → Formula → List Formula
  values zero f = f ∷ []
  values (suc n) f = f ∷ values n (onward f)

  length-values : (n : ℕ) (f : Formula) → length (values n f) ≡ suc n
  length-values zero f = refl
  length-values (suc n) f = ap suc (length-values n (onward f))

  value_at : (n : ℕ) (f q : Formula) → is_in (values n f) q ≡ true → (k : ℕ) × (k ≤ n) × (q ≡ iterate k f)
  value_at zero f q e = (0, omega arith, either (eq_by_cmp formula_cmp q f) false (equal q f) (λ no. absurd (false≢true no)) e)
  value_at (suc n) f q e =
      either (eq_by_cmp formula_cmp q f) (is_in (values n (onward f)) q)
      (λ here. (0, omega arith, equal q f here))
      (λ later. let k = value_at n (onward f) q later in let below : k.0 ≤ n = k.1 in (suc k.0, omega (arith, below), k.2))
      e

  record Repeats (n : ℕ) (f : Formula) : Type 0 where
    pub one : ℕ
    pub two : ℕ
    pub before : one < two
    pub within : two ≤ n
    pub repeated : iterate one f ≡ iterate two f

  repeats_or : (n : ℕ) (f : Formula) → IsDistinct ties (values n f) ⊎ Repeats n f
  unfolding IsDistinct
  repeats_or zero f = inl (tt, tt)
  repeats_or (suc n) f =
      ⊎_elim
      (λ distinct. split (is_in (values n (onward f)) f)
      (λ again. let k = value_at n (onward f) f again in let below : k.0 ≤ n = k.1 in inr (record { one = 0; two = suc k.0; before = omega arith; within = omega (arith, below); repeated = k.2 }))
      (λ no. inl (all_differ f (values n (onward f)) no, distinct)))
      (λ (r : Repeats n (onward f)).
      let before = r.before in
      let within = r.within in
      inr (record { one = suc r.one; two = suc r.two; before = omega (arith, before); within = omega (arith, within); repeated = r.repeated }))
      (repeats_or n (onward f))

  module _ (fs : List Formula) (into : (f : Formula) → is_in fs f ≡ true → is_in fs (onward f) ≡ true) (onto : (f : Formula) → is_in fs f ≡ true → (g : Formula) × (is_in fs g ≡ true) × (onward g ≡ f)) where
    values_in : (n : ℕ) (f : Formula) → is_in fs f ≡ true → (q : Formula) → is_in (values n f) q ≡ true → is_in fs q ≡ true
    values_in zero f e q at = ap (is_in fs) (either (eq_by_cmp formula_cmp q f) false (equal q f) (λ no. absurd (false≢true no)) at) ∙ e
    values_in (suc n) f e q at = either (eq_by_cmp formula_cmp q f) (is_in (values n (onward f)) q) (λ here. ap (is_in fs) (equal q f here) ∙ e) (values_in n (onward f) (into f e) q) at

    -- each formula is reached from one, after any number of times
    from_before : (n : ℕ) (f : Formula) → is_in fs f ≡ true → (g : Formula) × (is_in fs g ≡ true) × (iterate n g ≡ f)
    from_before zero f e = (f, e, refl)
    from_before (suc n) f e = let w = from_before n f e in let z = onto w.0 w.1 in (z.0, z.1, ap (iterate n) z.2 ∙ w.2)

    pub period : (f : Formula) → is_in fs f ≡ true → (k : ℕ) × (iterate (suc k) f ≡ f)
    period f e =
        let z = from_before (length fs) f e in
        ⊎_elim
        (λ distinct.
        let short : length (values (length fs) z.0) ≤ length fs = length-le_from_is_member (eq_by_cmp_equiv formula_total) (values (length fs) z.0) fs distinct (values_in (length fs) z.0 z.1) in
        let long = length-values (length fs) z.0 in
        absurd (omega (arith, short, long)))
        (λ (r : Repeats (length fs) z.0).
        let before = r.before in
        let within = r.within in
        let rest = length fs - r.one in
        let gap = r.two - suc r.one in
        let all : length fs ≡ r.one + rest = omega (arith, before, within) in
        let more : r.two + rest ≡ length fs + suc gap = omega (arith, before, within) in (
          gap,
          sym (ap (iterate (suc gap)) z.2) ∙ sym (iterate-add (length fs) (suc gap) z.0) ∙ sym (ap (λ i. iterate i z.0) more)
              ∙ iterate-add r.two rest z.0 ∙ sym (ap (iterate rest) r.repeated) ∙ sym (iterate-add r.one rest z.0) ∙ sym (ap (λ i. iterate i z.0) all) ∙ z.2,
        ))
        (repeats_or (length fs) z.0)

  -- one number for all
  pub common_period : (gs : List Formula) → ((g : Formula) → is_in gs g ≡ true → (k : ℕ) × (iterate (suc k) g ≡ g)) → (n : ℕ) × ((g : Formula) → is_in gs g ≡ true → iterate (suc n) g ≡ g)
  common_period [] each = (0, λ g e. cc)
  common_period (f ∷ gs) each =
      let k = each f (or_first (eq_by_cmp formula_cmp f f) (is_in gs f) (tied f f refl)) in
      let n = common_period gs (λ g e. each g (or_second (eq_by_cmp formula_cmp g f) (is_in gs g) e)) in
      let product : suc k.0 * suc n.0 ≡ suc (n.0 + k.0 * suc n.0) = omega arith in (
        n.0 + k.0 * suc n.0,
        λ g.
            either (eq_by_cmp formula_cmp g f) (is_in gs g)
            (λ here.
            let same = equal g f here in
            sym (ap (λ i. iterate i g) product) ∙ ap (λ i. iterate i g) (mul_comm (suc k.0) (suc n.0)) ∙ iterate-times (suc k.0) g (ap (iterate (suc k.0)) same ∙ k.1 ∙ sym same) (suc n.0))
            (λ later. sym (ap (λ i. iterate i g) product) ∙ iterate-times (suc n.0) g (n.1 g later) (suc k.0)),
      )
