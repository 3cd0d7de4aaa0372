use Rattle.std.proofs.Common.{◌≡◌, ◌+◌}
use Rattle.fol.specs.Syntax.{terms_nodes}
use Rattle.fol.specs.Formed.{count_terms}
use Rattle.tptp_read.proofs.pieces.number_of.Given as goal

-- the rest has the terms that are not yet counted
abbrev pub invariant-loop-tail : goal.invariant-loop-tail
invariant-loop-tail l = l.count + count_terms l.rest ≡ count_terms l.terms

abbrev pub decreases-loop-tail : goal.decreases-loop-tail
decreases-loop-tail l = terms_nodes l.rest
