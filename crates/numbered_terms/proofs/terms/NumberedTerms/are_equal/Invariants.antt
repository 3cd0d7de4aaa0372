-- The rest answers for the whole.
use Rattle.std.proofs.Common.{◌≡◌, drop, map}
use Rattle.std.specs.List.{list_all}
use Rattle.std.specs.Ordering.{eq_by_cmp}
use Rattle.fol.specs.Order.{term_cmp}
use Rattle.arena_cells.specs.Standing.{term_at}
use Rattle.numbered_terms.proofs.terms.NumberedTerms.are_equal.Given as goal

abbrev pub invariant-loop-other : goal.invariant-loop-other
invariant-loop-other l = list_all (eq_by_cmp term_cmp (term_at l.self l.first)) (map (term_at l.self) (drop l.other-index l.others)) ≡ list_all (eq_by_cmp term_cmp (term_at l.self l.first)) (map (term_at l.self) l.others)
