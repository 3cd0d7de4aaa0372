-- An order of sets of terms in which two sets are mostly told apart by one look.
--     terms_print, values_fingerprint      a number in which unequal sets mostly differ
--     IsPrinted      what is kept of a set
--     values_cmp      the order: by fingerprint, and then by the rising lists
use Rattle.std.specs.Prelude.{◌≡◌, ℕ, List, fold, length}
use Rattle.std.specs.declared.cmp.Ordering.{Ordering}
use Rattle.std.specs.Ordering.{nat_cmp, ordering_then}
use Rattle.std.specs.Cmp.{IsTotalOrder}
use Rattle.std.specs.Cmp.Lexicographic.{slice_cmp}
use Rattle.std.proofs.lemmas.Cmp.{nat_cmp_total, on_total, then_total, lists_total}
use Rattle.fol.specs.Syntax.{Term}
use Rattle.fol.specs.Facts.{term_fingerprint}
use Rattle.fol.specs.Mixing.{mixed}
use Rattle.fol.specs.Order.{term_cmp}
use Rattle.fol.specs.OrderLaws.{term_total}
use Rattle.finite.specs.Finite as set
use Rattle.herbrand_laws.specs.Patterns.{TermSet}

-- a number in which unequal lists and sets mostly differ
unfoldable pub terms_print : List Term → ℕ
terms_print ts = fold (λ h t. mixed h (term_fingerprint t)) 23 ts

abbrev pub values_fingerprint : TermSet → ℕ
values_fingerprint v = terms_print (set.listing v)

-- the rising list of a set, with its fingerprint
pub record IsPrinted (fingerprint : ℕ) (items : List Term) : Type 0 where
  pub rises : set.IsRising term_cmp items
  pub printed : fingerprint ≡ terms_print items

-- sets are ordered by their fingerprints, and then by their rising lists
abbrev pub values_cmp : TermSet → TermSet → Ordering
values_cmp v w = ordering_then (nat_cmp (values_fingerprint v) (values_fingerprint w)) (slice_cmp term_cmp (set.listing v) (set.listing w))

pub values_total : IsTotalOrder values_cmp
values_total = then_total (on_total values_fingerprint nat_cmp_total) (on_total (λ (v : TermSet). set.listing v) (lists_total term_total))

-- sets in the order of candidates of one cost: by the number of terms, and then by the rising lists
abbrev pub smaller_cmp : TermSet → TermSet → Ordering
smaller_cmp v w = ordering_then (nat_cmp (length (set.listing v)) (length (set.listing w))) (slice_cmp term_cmp (set.listing v) (set.listing w))

-- and by given costs first
abbrev pub by_cost : (TermSet → ℕ) → TermSet → TermSet → Ordering
by_cost c v w = ordering_then (nat_cmp (c v) (c w)) (smaller_cmp v w)
