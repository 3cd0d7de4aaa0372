-- The rest answers for the whole.
use Rattle.std.proofs.Common.{◌≡◌, drop, map}
use Rattle.std.specs.List.{list_all}
use Rattle.std.specs.Ordering.{eq_by_cmp}
use Rattle.fol.specs.Order.{term_cmp}
use Rattle.delta_rows.proofs.patterns.are_equal.Given as goal

abbrev pub invariant-loop-term : goal.invariant-loop-term
invariant-loop-term l = list_all (eq_by_cmp term_cmp l.first) (map (λ t. t.now) (drop l.term-index l.others)) ≡ list_all (eq_by_cmp term_cmp l.first) (map (λ t. t.now) l.others)
