-- The rest answers for the whole.
use Rattle.std.proofs.Common.{◌≡◌, drop, map}
use Rattle.arena_cells.specs.Standing.{term_at}
use Rattle.numbered_terms.specs.Walks.{have_head}
use Rattle.numbered_terms.proofs.terms.NumberedTerms.have_head.Given as goal

abbrev pub invariant-loop-other : goal.invariant-loop-other
invariant-loop-other l = have_head (term_at l.self l.first) (map (term_at l.self) (drop l.other-index l.others)) ≡ have_head (term_at l.self l.first) (map (term_at l.self) l.others)
