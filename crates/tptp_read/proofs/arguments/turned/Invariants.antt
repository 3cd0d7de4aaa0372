use Rattle.std.proofs.Common.{◌≡◌, length, reverse}
use Rattle.tptp_read.specs.Arguments.{terms_of}
use Rattle.tptp_read.specs.Machine.{turned_onto}
use Rattle.tptp_read.proofs.arguments.turned.Given as goal

-- the terms that are left in front of what is there are the answer
abbrev pub invariant-loop-term : goal.invariant-loop-term
invariant-loop-term l = turned_onto (terms_of (reverse l.terms.items)) l.all ≡ turned_onto (terms_of (reverse l.initial.terms.items)) l.initial.all

abbrev pub decreases-loop-term : goal.decreases-loop-term
decreases-loop-term l = length l.terms.items
