-- Sets of terms by the rising numbers of these.
use Rattle.std.proofs.Common.{◌≡◌, ℕ, false, List, [], ◌∷◌, map, length, ap, ◌∙◌}
use Rattle.std.specs.List.{All, AllByRecursion, IsDistinct as AreDistinct}
use Rattle.std.specs.declared.cmp.Ordering.TheVariants.{Less}
use Rattle.std.specs.Ordering.{nat_cmp, eq_by_cmp, is_eq}
use Rattle.std.specs.List.Sorted.{IsStrictlySortedBy}
use Rattle.std.proofs.lemmas.List.{length-map}
use Rattle.std.proofs.lemmas.List.Elements.{All-head, All-tail}
use Rattle.fol.specs.Order.{term_cmp}
use Rattle.fol.specs.OrderLaws.{term_total}
use Rattle.fol.proofs.OrderTies.{term_ties}
use Rattle.finite.specs.Finite as set
use Rattle.free_variables.proofs.RisingLists.{strict_of_rising}
use Rattle.arena_cells.specs.Items.{Item}
use Rattle.arena_cells.specs.Standing.{IsDistinct, term_at, IsTermAt}
use Rattle.arena_cells.proofs.OneKey.{one_term}
use Rattle.arena_cells.proofs.Sets.{same_test, one_list}
use Rattle.numbered_terms.specs.Numbered.{set_at, IsTermSet}
use Rattle.numbered_terms.proofs.Members.{all_different}

module _ (a : List Item) (distinct : IsDistinct a) where
  -- one set of terms has one set of numbers
  pub one_set : (ns ms : List ℕ) → IsTermSet a ns → IsTermSet a ms → set_at a ns ≡ set_at a ms → ns ≡ ms
  one_set ns ms h g e = one_list term_total term_ties (term_at a) (IsTermAt a) (one_term a distinct) ns ms h.rises g.rises h.terms g.terms e

  apart : (m : ℕ) (ns : List ℕ) → IsTermAt a m → All (IsTermAt a) ns → AllByRecursion (λ n. nat_cmp m n ≡ Less) ns → AllByRecursion (λ t. eq_by_cmp term_cmp (term_at a m) t ≡ false) (map (term_at a) ns)
  apart m [] h g l = tt
  apart m (n ∷ ns) h g l =
      (same_test term_total term_ties (term_at a) (IsTermAt a) (one_term a distinct) m n h (All-head (IsTermAt a) n ns g) ∙ ap is_eq l.0, apart m ns h (All-tail (IsTermAt a) n ns g) l.1)

  different : (ns : List ℕ) → All (IsTermAt a) ns → IsStrictlySortedBy nat_cmp ns → AreDistinct (eq_by_cmp term_cmp) (map (term_at a) ns)
  unfolding IsStrictlySortedBy AreDistinct
  different [] h l = tt
  different (n ∷ ns) h l =
      let later = All-tail (IsTermAt a) n ns h in
      (apart n ns (All-head (IsTermAt a) n ns h) later l.0, different ns later l.1)

  -- a set has as many terms as numbers
  pub set_size : (ns : List ℕ) → IsTermSet a ns → length (set.listing (set_at a ns)) ≡ length ns
  set_size ns h = all_different term_total term_ties (map (term_at a) ns) (different ns h.terms (strict_of_rising nat_cmp ns h.rises)) ∙ length-map ns (term_at a)
