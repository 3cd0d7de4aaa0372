-- Tests of terms and symbols by their numbers.
use Rattle.std.proofs.Common.{◌≡◌, ℕ, true, ◌&&◌, List, [], ◌∷◌, map, nat_eq, refl, sym, ap, subst, ◌∙◌}
use Rattle.std.specs.Prelude.{Some}
use Rattle.std.specs.List.{All}
use Rattle.std.specs.Ordering.{nat_cmp, eq_by_cmp}
use Rattle.std.specs.Cmp.{Equal-is, tied_itself}
use Rattle.std.specs.Cmp.Lexicographic.{pointwise}
use Rattle.std.specs.FinMap as fin
use Rattle.std.proofs.lemmas.Cmp.{nat_cmp_total}
use Rattle.std.proofs.lemmas.Bool.{eqb-true, eq-eqb}
use Rattle.std.proofs.lemmas.List.Elements.{All-head, All-tail}
use Rattle.fol.specs.Order.{sym_cmp, term_cmp}
use Rattle.fol.specs.OrderLaws.{sym_total, term_total}
use Rattle.fol.proofs.OrderTies.{sym_ties, term_ties}
use Rattle.search_laws.proofs.Tests.{same_truth}
use Rattle.arena_cells.specs.Items.{Item, symbol}
use Rattle.arena_cells.specs.Standing.{IsDistinct, symbol_at, term_at, IsSymbolAt, IsTermAt}
use Rattle.arena_cells.proofs.OneKey.{one_term}
use Rattle.arena_cells.proofs.Sets.{same_test}

-- the two tests of numbers
tests : (m n : ℕ) → nat_eq m n ≡ eq_by_cmp nat_cmp m n
tests m n =
    same_truth (nat_eq m n) (eq_by_cmp nat_cmp m n)
    (λ e. subst (λ k. eq_by_cmp nat_cmp m k ≡ true) (eqb-true m n e) ((Equal-is (nat_cmp m m)).1 (tied_itself nat_cmp_total m)))
    (λ e. eq-eqb m n (fin.nat_cmp-IsAntisymmetric m n ((Equal-is (nat_cmp m n)).0 e)))

module _ (a : List Item) (distinct : IsDistinct a) where
  one_symbol : (m n : ℕ) → IsSymbolAt a m → IsSymbolAt a n → symbol_at a m ≡ symbol_at a n → m ≡ n
  one_symbol m n h g e = distinct m n (symbol (symbol_at a m)) h (g ∙ ap (λ s. Some (symbol s)) (sym e))

  -- equal numbers are those of equal things

  pub term_test : (m n : ℕ) → IsTermAt a m → IsTermAt a n → nat_eq m n ≡ eq_by_cmp term_cmp (term_at a m) (term_at a n)
  term_test m n h g = tests m n ∙ sym (same_test term_total term_ties (term_at a) (IsTermAt a) (one_term a distinct) m n h g)

  pub symbol_test : (m n : ℕ) → IsSymbolAt a m → IsSymbolAt a n → nat_eq m n ≡ eq_by_cmp sym_cmp (symbol_at a m) (symbol_at a n)
  symbol_test m n h g = tests m n ∙ sym (same_test sym_total sym_ties (symbol_at a) (IsSymbolAt a) one_symbol m n h g)

  pub lists_test : (ms ns : List ℕ) → All (IsTermAt a) ms → All (IsTermAt a) ns → pointwise nat_eq ms ns ≡ pointwise (eq_by_cmp term_cmp) (map (term_at a) ms) (map (term_at a) ns)
  lists_test [] [] h g = refl
  lists_test [] (n ∷ ns) h g = refl
  lists_test (m ∷ ms) [] h g = refl
  lists_test (m ∷ ms) (n ∷ ns) h g =
      λ i. term_test m n (All-head (IsTermAt a) m ms h) (All-head (IsTermAt a) n ns g) i && lists_test ms ns (All-tail (IsTermAt a) m ms h) (All-tail (IsTermAt a) n ns g) i
