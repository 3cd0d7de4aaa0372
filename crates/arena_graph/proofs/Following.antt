-- Places that follow the changes from one side to the next.
use Rattle.std.proofs.Common.{◌≡◌, ℕ, ◌+◌, ◌<◌, true, Bool, List, map, take, length, get_or, inl, inr, sym, ap, ◌∙◌, arith}
use Rattle.std.specs.Prelude.{Some}
use Rattle.std.specs.declared.cmp.Ordering.TheVariants.{Less, Equal}
use Rattle.std.specs.Cmp.{tied_itself}
use Rattle.std.specs.Ordering.{eq_by_cmp}
use Rattle.std.proofs.lemmas.Bool.{cases_lt}
use Rattle.std.proofs.lemmas.List.{length-map}
use Rattle.fol.specs.Syntax.{Formula, top}
use Rattle.fol.specs.Order.{formula_cmp}
use Rattle.fol.specs.OrderLaws.{formula_total}
use Rattle.fol.proofs.OrderTies.{formula_ties}
use Rattle.finite.specs.Finite as set
use Rattle.finite.proofs.Finite.{same_members}
use Rattle.finite.proofs.Rising.{rising_at}
use Rattle.lk_rules.specs.Formulas.{FormulaSet}
use Rattle.arena_cells.specs.Items.{Item, formula}
use Rattle.arena_cells.specs.Standing.{formula_at, IsFormulaAt, IsDistinct}
use Rattle.arena_cells.specs.Meaning.{formulas_of, AreRisingFormulas}
use Rattle.arena.proofs.SetLaws.{has-list, list_any-map}
use Rattle.proof_trees.proofs.Passing.{same_here}
use Rattle.arena_graph.specs.declared.ranks.RankedFormula.{RankedFormula}
use Rattle.arena_graph.specs.Ranks.{formulas_in, formula_in}
use Rattle.arena_graph.specs.Changes.{differ, is_odd, AreChanges}
use Rattle.arena_graph.specs.Places.{ArePlaces, formulas_at}
use Rattle.arena_graph.specs.LastSide.{is_in, is_at, DoFollow}
use Rattle.arena_graph.proofs.Changes.{differ_round, is_odd_more, one_odd}

-- one more place comes or goes
pub follow_more : (a : List Item) (es : List RankedFormula) (changes ps qs rs : List ℕ) (i k : ℕ) → i < length changes → formula_in es k ≡ formula_at a (get_or changes i 0) → DoFollow a es (take i changes) ps qs
    → ArePlaces es rs → ((p : ℕ → Bool) → is_odd p rs ≡ differ (p k) (is_odd p qs)) → DoFollow a es (take (i + 1) changes) ps rs
follow_more a es changes ps qs rs i k within same follow places changed = record {
  places = places;
  formulas = λ f.
      changed (is_in es f) ∙ (λ j. differ (eq_by_cmp formula_cmp f (same j)) (follow.formulas f j))
      ∙ differ_round (is_at a f (get_or changes i 0)) (is_odd (is_in es f) ps) (is_odd (is_at a f) (take i changes))
      ∙ ap (differ (is_odd (is_in es f) ps)) (sym (is_odd_more (is_at a f) changes i within));
}

-- a formula of the set stands at an odd number of its numbers, since it stands at one
module _ (a : List Item) (apart : IsDistinct a) where
  one_number : (f : Formula) (m n : ℕ) → IsFormulaAt a m → IsFormulaAt a n → is_at a f m ≡ true → is_at a f n ≡ true → m ≡ n
  one_number f m n there other at_m at_n =
      let same : formula_at a n ≡ formula_at a m = sym (same_here formula_total formula_ties f (formula_at a n) at_n) ∙ same_here formula_total formula_ties f (formula_at a m) at_m in
      apart m n (formula (formula_at a m)) there (other ∙ ap (λ (g : Formula). Some (formula g)) same)

  odd_numbers : (f : Formula) (ns : List ℕ) → AreRisingFormulas a ns → is_odd (is_at a f) ns ≡ set.has (formulas_of a ns) f
  odd_numbers f ns h =
      one_odd (IsFormulaAt a) (is_at a f) (one_number f) ns h.rises h.members
      ∙ sym (list_any-map (eq_by_cmp formula_cmp f) (formula_at a) ns) ∙ sym (has-list formula_total formula_ties (map (formula_at a) ns) f)

-- and so at its places
module _ (es : List RankedFormula) (up : set.IsRising formula_cmp (formulas_in es)) where
  not_below : (m n : ℕ) → n < length es → formula_in es m ≡ formula_in es n → m < n → m ≡ n
  not_below m n within same below =
      let less : formula_cmp (formula_in es m) (formula_in es n) ≡ Less = rising_at formula_cmp (formulas_in es) up m n top below (omega (arith, length-map es (λ (e : RankedFormula). e.formula))) in
      let tied : formula_cmp (formula_in es m) (formula_in es n) ≡ Equal = ap (formula_cmp (formula_in es m)) (sym same) ∙ tied_itself formula_total (formula_in es m) in
      cc

  one_place : (f : Formula) (m n : ℕ) → m < length es → n < length es → is_in es f m ≡ true → is_in es f n ≡ true → m ≡ n
  one_place f m n there other at_m at_n =
      let same : formula_in es m ≡ formula_in es n = sym (same_here formula_total formula_ties f (formula_in es m) at_m) ∙ same_here formula_total formula_ties f (formula_in es n) at_n in
      elim (cases_lt m n) [
        | inl below ↦ not_below m n other same below
        | inr above ↦ elim (cases_lt n m) [
          | inl less ↦ sym (not_below n m there (sym same) less)
          | inr more ↦ omega arith
        ]
      ]

  odd_places : (f : Formula) (ps : List ℕ) → ArePlaces es ps → is_odd (is_in es f) ps ≡ set.has (formulas_at es ps) f
  odd_places f ps h =
      one_odd (λ k. k < length es) (is_in es f) (one_place f) ps h.rises h.within
      ∙ sym (list_any-map (eq_by_cmp formula_cmp f) (formula_in es) ps) ∙ sym (has-list formula_total formula_ties (map (formula_in es) ps) f)

  -- places of one side that follow the changes are those of the other
  pub followed : (a : List Item) → IsDistinct a → (changes old new ps qs : List ℕ) → AreRisingFormulas a old → AreRisingFormulas a new → AreChanges changes old new
      → ArePlaces es ps → formulas_at es ps ≡ formulas_of a old → DoFollow a es changes ps qs → formulas_at es qs ≡ formulas_of a new
  followed a apart changes old new ps qs olds news change places shown follow =
      same_members formula_total formula_ties _ _ (λ f.
      let before : is_odd (is_in es f) ps ≡ is_odd (is_at a f) old = odd_places f ps places ∙ ap (λ (s : FormulaSet). set.has s f) shown ∙ sym (odd_numbers a apart f old olds) in
      sym (odd_places f qs follow.places) ∙ follow.formulas f ∙ ap (λ b. differ b (is_odd (is_at a f) changes)) before ∙ sym (change (is_at a f)) ∙ odd_numbers a apart f new news)
