-- The first occurrences so far, and those of the rest that are not among them, are all.
use Rattle.std.proofs.Common.{◌≡◌, ◌++◌, drop}
use Rattle.refutations.specs.Clauses.{first_occurrences}
use Rattle.res_prover.specs.Lists.{unlisted}
use Rattle.res_prover.proofs.normal.first_of.Given as goal

abbrev pub invariant-loop-place : goal.invariant-loop-place
invariant-loop-place l = l.firsts.items ++ unlisted l.firsts.items (drop l.place l.all) ≡ first_occurrences l.all
