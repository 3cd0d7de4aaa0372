-- The formulas whose numbers are in a set, picked one after another; and the sequents with the formulas of lists.
use Rattle.std.proofs.Common.{◌≡◌, ℕ, ◌+◌, ◌*◌, ◌<◌, Bool, true, false, ◌||◌, cond, List, [], ◌∷◌, ◌++◌, filter, take, length, get_or, refl, sym, ap, ◌∙◌, if◌then◌else◌}
use Rattle.std.specs.List.{list_any}
use Rattle.std.specs.Ordering.{eq_by_cmp}
use Rattle.std.proofs.lemmas.List.{get_or_read, take_more}
use Rattle.fol.specs.Syntax.{Formula, top}
use Rattle.fol.specs.Order.{formula_cmp}
use Rattle.fol.specs.OrderLaws.{formula_total}
use Rattle.fol.proofs.OrderTies.{formula_ties}
use Rattle.finite.specs.Finite as set
use Rattle.finite.proofs.Finite.{has-listing, has-empty, has-adds_each, same_members}
use Rattle.lk_rules.specs.declared.sequent.Sequent.{Sequent}
use Rattle.lk_rules.specs.declared.sequent.Side.TheVariants.{Left, Right}
use Rattle.lk_rules.specs.Formulas.{FormulaSet}
use Rattle.lk_rules.specs.Sequents.{empty}
use Rattle.search_laws.proofs.Tests.{clash}
use Rattle.prop_search.specs.Bits.{has_number, words_for}
use Rattle.prop_search.specs.Formulas.{formula_at, number_of, side_of, sequent_of}
use Rattle.prop_search.specs.Premises.{with_each}
use Rattle.prop_search.proofs.SideMembers.{number_at, side_is, listing-side}

filter-push : (p : Formula → Bool) (fs : List Formula) (f : Formula) → filter p (fs ++ f ∷ []) ≡ (if p f then filter p fs ++ f ∷ [] else filter p fs)
filter-push p [] f = elim (p f) as (λ b. cond b (f ∷ []) [] ≡ (if b then [] ++ f ∷ [] else [])) [ true ↦ refl | false ↦ refl ]
filter-push p (g ∷ gs) f =
    elim (p g) as (λ b. cond b (g ∷ filter p (gs ++ f ∷ [])) (filter p (gs ++ f ∷ [])) ≡ (if p f then cond b (g ∷ filter p gs) (filter p gs) ++ f ∷ [] else cond b (g ∷ filter p gs) (filter p gs))) [
      | true ↦ ap (λ hs. g ∷ hs) (filter-push p gs f) ∙ elim (p f) as (λ b. g ∷ (if b then filter p gs ++ f ∷ [] else filter p gs) ≡ (if b then (g ∷ filter p gs) ++ f ∷ [] else (g ∷ filter p gs))) [ true ↦ refl | false ↦ refl ]
      | false ↦ filter-push p gs f
    ]

-- one more formula
pub picked_more : (words : List ℕ) (fs : List Formula) (i : ℕ) (f : Formula) (before after : List Formula) (wanted : Bool) → set.IsRising formula_cmp fs → i < length fs → f ≡ get_or fs i f → wanted ≡ has_number words i
    → before ≡ filter (λ g. has_number words (number_of fs g)) (take i fs) → after ≡ (if wanted then before ++ f ∷ [] else before) → after ≡ filter (λ g. has_number words (number_of fs g)) (take (i + 1) fs)
picked_more words fs i f before after wanted up l is w e now =
    let p : Formula → Bool = λ g. has_number words (number_of fs g) in
    let here : formula_at fs i ≡ f = sym (get_or_read fs i f l is top) in
    let tested : wanted ≡ p f = w ∙ ap (has_number words) (sym (number_at fs up i l)) ∙ ap p here in
    now
    ∙ (λ j. if tested j then e j ++ f ∷ [] else e j)
    ∙ sym (filter-push p (take i fs) f)
    ∙ ap (filter p) (sym (take_more fs i f l ∙ ap (λ g. take i fs ++ g ∷ []) (sym is)))

-- the formulas of a set make it
pub relisted : (s : FormulaSet) → set.of_list (set.listing s) ≡ s
relisted s =
    same_members formula_total formula_ties (set.of_list (set.listing s)) s
    (λ q. has-adds_each formula_total set.empty (set.listing s) q ∙ ap (λ b. b || list_any (eq_by_cmp formula_cmp q) (set.listing s)) (has-empty formula_cmp q) ∙ sym (has-listing s q))

pub picked_side : (fs : List Formula) (test : ℕ → Bool) → set.IsRising formula_cmp fs → set.of_list (filter (λ f. test (number_of fs f)) fs) ≡ side_of fs test
picked_side fs test up = ap set.of_list (sym (listing-side fs up test)) ∙ relisted (side_of fs test)

-- the sequent of no number
pub sequent_of_none : (fs : List Formula) (words : List ℕ) → set.IsRising formula_cmp fs → ((n : ℕ) → has_number words n ≡ false) → sequent_of fs words ≡ empty
sequent_of_none fs words up none = λ i. record {
  left = nothing (has_number words) none i;
  right = nothing (λ n. has_number words (64 * words_for (length fs) + n)) (λ n. none (64 * words_for (length fs) + n)) i;
}
  where
    nothing : (test : ℕ → Bool) → ((n : ℕ) → test n ≡ false) → side_of fs test ≡ set.empty
    nothing test fails =
        side_is fs up test set.empty (λ q m. clash (set.has (set.empty {R = formula_cmp}) q) m (has-empty formula_cmp q)) (λ n l. fails n ∙ sym (has-empty formula_cmp (formula_at fs n)))

-- both sides, from nothing
pub both_sides : (s : Sequent) → with_each (with_each empty Left (set.listing s.left)) Right (set.listing s.right) ≡ s
both_sides s = λ i. record { left = relisted s.left i; right = relisted s.right i }
