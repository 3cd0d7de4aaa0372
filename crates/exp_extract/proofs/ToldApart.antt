-- Formulas that their fingerprints tell apart.
use Rattle.std.proofs.Common.{◌≡◌, ℕ, suc, ◌+◌, ◌<◌, inl, inr, Bool, true, ◌||◌, List, [], ◌∷◌, length, get_or, refl, sym, ap, ◌∙◌, subst, take, arith}
use Rattle.std.specs.Prelude.{nat_eq}
use Rattle.std.specs.List.{All, list_any}
use Rattle.std.specs.Ordering.{eq_by_cmp}
use Rattle.std.proofs.lemmas.Bool.{cases_lt, eq-eqb, eqb-true}
use Rattle.std.proofs.lemmas.List.{get_or_default, get_or-take, length-take-le}
use Rattle.std.proofs.lemmas.List.Folds.{list_any_at}
use Rattle.fol.specs.Facts.{formula_fingerprint}
use Rattle.fol.specs.Syntax.{Formula}
use Rattle.fol.specs.Order.{formula_cmp}
use Rattle.fol.specs.OrderLaws.{formula_total}
use Rattle.fol.proofs.OrderTies.{formula_equality_same}
use Rattle.finite.specs.Finite as set
use Rattle.finite.proofs.Finite.{has-listing, has-empty, has-adds_each}
use Rattle.lk_rules.specs.Formulas.{FormulaSet}
use Rattle.lk_rules.specs.declared.sequent.Sequent.{Sequent}
use Rattle.lk_rules.specs.declared.sequent.Side.{Side}
use Rattle.lk_rules.specs.declared.sequent.Side.TheVariants.{Left, Right}
use Rattle.lk_rules.specs.declared.rule.Rule.{Rule}
use Rattle.lk_rules.specs.Rules.{aux, IsWithin}
use Rattle.lk_rules.specs.Sequents.{side_of, empty, extended}
use Rattle.search_laws.proofs.Tests.{split, clash, same_truth}
use Rattle.exp_extract.specs.Fingerprints.{IsToldApart, HasDistinctFingerprints, IsAmong, AreAmong}
use Rattle.exp_extract.proofs.RootLists.{not_before}

pub equal_of : (f g : Formula) → eq_by_cmp formula_cmp f g ≡ true → f ≡ g
equal_of f g = (formula_equality_same f g (eq_by_cmp formula_cmp f g) refl).0

test_of : (f g : Formula) → f ≡ g → eq_by_cmp formula_cmp f g ≡ true
test_of f g = (formula_equality_same f g (eq_by_cmp formula_cmp f g) refl).1

-- fingerprints tell whether two formulas are equal
pub told : (f g : Formula) → (formula_fingerprint f ≡ formula_fingerprint g → f ≡ g) → nat_eq (formula_fingerprint f) (formula_fingerprint g) ≡ eq_by_cmp formula_cmp f g
told f g apart =
    same_truth (nat_eq (formula_fingerprint f) (formula_fingerprint g)) (eq_by_cmp formula_cmp f g)
    (λ e. test_of f g (apart (eqb-true (formula_fingerprint f) (formula_fingerprint g) e)))
    (λ e. eq-eqb (formula_fingerprint f) (formula_fingerprint g) (ap formula_fingerprint (equal_of f g e)))

-- a formula that is listed has a place
place_of_test : (p : Formula → Bool) (fs : List Formula) → list_any p fs ≡ true → (i : ℕ) × (i < length fs) × ((d : Formula) → p (get_or fs i d) ≡ true)
place_of_test p [] e = absurd (cc)
place_of_test p (f ∷ fs) e =
    split (p f)
    (λ x. (0, omega arith, λ d. x))
    (λ x. let one = place_of_test p fs (sym (ap (λ b. b || list_any p fs) x) ∙ e) in (suc one.0, omega (arith, one.1), one.2))

-- at two places with one fingerprint stands one formula
same_place : (fs : List Formula) → HasDistinctFingerprints fs → (i j : ℕ) (d : Formula) → i < length fs → j < length fs → formula_fingerprint (get_or fs i d) ≡ formula_fingerprint (get_or fs j d) → get_or fs i d ≡ get_or fs j d
same_place fs distinct i j d k l e =
    elim (cases_lt i j) [
      | inl before ↦ absurd (clash _ (eq-eqb (formula_fingerprint (get_or fs i d)) (formula_fingerprint (get_or fs j d)) e) (distinct j l i d before))
      | inr after ↦ elim (cases_lt j i) [
        | inl behind ↦ absurd (clash _ (eq-eqb (formula_fingerprint (get_or fs j d)) (formula_fingerprint (get_or fs i d)) (sym e)) (distinct i k j d behind))
        | inr under ↦ let same : i ≡ j = omega arith in ap (λ n. get_or fs n d) same
      ]
    ]

member_told : (fs : List Formula) (h : Formula) → HasDistinctFingerprints fs → list_any (eq_by_cmp formula_cmp h) fs ≡ true → IsToldApart fs h
member_told fs h distinct there i d l e =
    let one = place_of_test (eq_by_cmp formula_cmp h) fs there in
    let same : h ≡ get_or fs one.0 d = equal_of h (get_or fs one.0 d) (one.2 d) in
    same ∙ same_place fs distinct one.0 i d one.1 l (ap formula_fingerprint (sym same) ∙ e)

added_told : (fs gs : List Formula) (h : Formula) → All (IsToldApart fs) gs → list_any (eq_by_cmp formula_cmp h) gs ≡ true → IsToldApart fs h
added_told fs gs h all there =
    let one = place_of_test (eq_by_cmp formula_cmp h) gs there in
    subst (IsToldApart fs) (sym (equal_of h (get_or gs one.0 h) (one.2 h))) (all one.0 h one.1)

among_told : (fs gs : List Formula) (h : Formula) → HasDistinctFingerprints fs → All (IsToldApart fs) gs → IsAmong fs gs h → IsToldApart fs h
among_told fs gs h distinct all among =
    split (list_any (eq_by_cmp formula_cmp h) fs)
    (λ x. member_told fs h distinct x)
    (λ x. added_told fs gs h all (sym (ap (λ b. b || list_any (eq_by_cmp formula_cmp h) gs) x) ∙ among))

-- two formulas with one fingerprint are one, and a rising list has none twice
module _ (fs gs : List Formula) (distinct : HasDistinctFingerprints fs) (few : HasDistinctFingerprints gs) (all : All (IsToldApart fs) gs) where
  is_first : (h k : Formula) → IsAmong fs gs h → list_any (eq_by_cmp formula_cmp k) fs ≡ true → formula_fingerprint h ≡ formula_fingerprint k → h ≡ k
  is_first h k among there same =
      let one = place_of_test (eq_by_cmp formula_cmp k) fs there in
      let is : k ≡ get_or fs one.0 k = equal_of k (get_or fs one.0 k) (one.2 k) in
      among_told fs gs h distinct all among one.0 k one.1 (same ∙ ap formula_fingerprint is) ∙ sym is

  are_added : (h k : Formula) → list_any (eq_by_cmp formula_cmp h) gs ≡ true → list_any (eq_by_cmp formula_cmp k) gs ≡ true → formula_fingerprint h ≡ formula_fingerprint k → h ≡ k
  are_added h k first second same =
      let one = place_of_test (eq_by_cmp formula_cmp h) gs first in
      let two = place_of_test (eq_by_cmp formula_cmp k) gs second in
      let is : h ≡ get_or gs one.0 h = equal_of h (get_or gs one.0 h) (one.2 h) in
      let also : k ≡ get_or gs two.0 h = equal_of k (get_or gs two.0 h) (two.2 h) in
      is ∙ (same_place gs few one.0 two.0 h one.1 two.1 (ap formula_fingerprint (sym is) ∙ (same ∙ ap formula_fingerprint also)) ∙ sym also)

  one_formula : (h k : Formula) → IsAmong fs gs h → IsAmong fs gs k → formula_fingerprint h ≡ formula_fingerprint k → h ≡ k
  one_formula h k first second same =
      split (list_any (eq_by_cmp formula_cmp k) fs)
      (λ x. is_first h k first x same)
      (λ x. split (list_any (eq_by_cmp formula_cmp h) fs)
      (λ y. sym (is_first k h second y (sym same)))
      (λ y. are_added h k (sym (ap (λ b. b || list_any (eq_by_cmp formula_cmp h) gs) y) ∙ first) (sym (ap (λ b. b || list_any (eq_by_cmp formula_cmp k) gs) x) ∙ second) same))

  among_at : (hs : List Formula) (i : ℕ) (d : Formula) → AreAmong fs gs hs → i < length hs → IsAmong fs gs (get_or hs i d)
  among_at hs i d among l = among (get_or hs i d) (list_any_at (eq_by_cmp formula_cmp (get_or hs i d)) hs i d l (test_of (get_or hs i d) (get_or hs i d) refl))

  pub premise_told : (hs : List Formula) → AreAmong fs gs hs → All (IsToldApart fs) hs
  premise_told hs among i d l = among_told fs gs (get_or hs i d) distinct all (among_at hs i d among l)

  pub premise_distinct : (hs : List Formula) → set.IsRising formula_cmp hs → AreAmong fs gs hs → HasDistinctFingerprints hs
  premise_distinct hs up among j l i d before =
      let h : Formula = get_or hs j d in
      let g : Formula = get_or hs i d in
      split (nat_eq (formula_fingerprint g) (formula_fingerprint h))
      (λ e. let same : h ≡ g = sym (one_formula g h (among_at hs i d among (omega arith)) (among_at hs j d among l) (eqb-true (formula_fingerprint g) (formula_fingerprint h) e)) in
      let there : list_any (eq_by_cmp formula_cmp h) (take j hs) ≡ true =
      list_any_at (eq_by_cmp formula_cmp h) (take j hs) i d (let long = length-take-le j hs (omega arith) in omega arith) (test_of h (get_or (take j hs) i d) (same ∙ sym (get_or-take j hs i d before)))
      in
      clash (list_any (eq_by_cmp formula_cmp h) (take j hs)) there (not_before hs j d up l))
      (λ e. e)

-- one more formula that is told apart
pub told_more : (fs : List Formula) (h f : Formula) (at : ℕ) → at < length fs → f ≡ get_or fs at f → (formula_fingerprint h ≡ formula_fingerprint f → h ≡ f)
    → ((i : ℕ) (d : Formula) → i < at → formula_fingerprint h ≡ formula_fingerprint (get_or fs i d) → h ≡ get_or fs i d)
    → (i : ℕ) (d : Formula) → i < at + 1 → formula_fingerprint h ≡ formula_fingerprint (get_or fs i d) → h ≡ get_or fs i d
told_more fs h f at l is one before i d under same =
    elim (cases_lt i at) [
      | inl x ↦ before i d x same
      | inr y ↦
          let here : i ≡ at = omega arith in
          let there : f ≡ get_or fs i d = is ∙ (get_or_default fs at f d l ∙ ap (λ n. get_or fs n d) (sym here)) in
          one (same ∙ ap formula_fingerprint (sym there)) ∙ there
    ]

-- the formula at a place is told apart
pub told_at : (fs : List Formula) (h f : Formula) (i : ℕ) → i < length fs → f ≡ get_or fs i f → IsToldApart fs h → formula_fingerprint h ≡ formula_fingerprint f → h ≡ f
told_at fs h f i l is told same = told i f l (same ∙ ap formula_fingerprint is) ∙ sym is

-- of equal lists
pub among_by : (fs gs hs us vs ws : List Formula) → fs ≡ us → gs ≡ vs → hs ≡ ws → AreAmong us vs ws → AreAmong fs gs hs
among_by fs gs hs us vs ws f g h among =
    subst (λ xs. AreAmong xs gs hs) (sym f) (subst (λ xs. AreAmong us xs hs) (sym g) (subst (λ xs. AreAmong us vs xs) (sym h) among))

pub told_by : (fs hs us ws : List Formula) → fs ≡ us → hs ≡ ws → All (IsToldApart us) ws → All (IsToldApart fs) hs
told_by fs hs us ws f h all = subst (λ xs. All (IsToldApart xs) hs) (sym f) (subst (All (IsToldApart us)) (sym h) all)

-- the formulas of a premise
among_side : (fs gs hs : FormulaSet) (more : List Formula) → set.IsSubset hs (set.adds_each fs more) → gs ≡ set.of_list more → AreAmong (set.listing fs) (set.listing gs) (set.listing hs)
among_side fs gs hs more within added h there =
    let has : set.has hs h ≡ true = has-listing hs h ∙ there in
    let known : list_any (eq_by_cmp formula_cmp h) (set.listing gs) ≡ list_any (eq_by_cmp formula_cmp h) more =
    sym (has-listing gs h) ∙ (ap (λ s. set.has s h) added ∙ (has-adds_each formula_total set.empty more h ∙ ap (λ b. b || list_any (eq_by_cmp formula_cmp h) more) (has-empty formula_cmp h))) in
    (λ i. sym (has-listing fs h) i || known i) ∙ (sym (has-adds_each formula_total fs more h) ∙ within h has)

pub premise_among : (r : Rule) (s e added : Sequent) (i : ℕ) → IsWithin r s i e → added ≡ extended empty (aux r i) → (side : Side) → AreAmong (set.listing (side_of s side)) (set.listing (side_of added side)) (set.listing (side_of e side))
premise_among r s e added i within is Left = among_side s.left added.left e.left (aux r i Left) within.left (ap (λ (x : Sequent). x.left) is)
premise_among r s e added i within is Right = among_side s.right added.right e.right (aux r i Right) within.right (ap (λ (x : Sequent). x.right) is)
