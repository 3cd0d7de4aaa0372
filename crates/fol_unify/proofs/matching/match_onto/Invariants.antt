-- The rest of the patterns has to be matched from the map so far.
use Rattle.std.proofs.Common.{◌≡◌, drop}
use Rattle.unify_laws.specs.Matching.{match_each, match_onto}
use Rattle.fol_unify.proofs.matching.match_onto.Given as goal

abbrev pub invariant-loop-place : goal.invariant-loop-place
invariant-loop-place l = match_each (drop l.place l.pattern) (drop l.place l.target) l.map ≡ match_onto l.pattern l.target
