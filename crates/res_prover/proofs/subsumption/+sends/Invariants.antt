-- No atom so far will do, and the bindings are as before. Each call has fewer literals.
use Rattle.std.proofs.Common.{◌≡◌, ◌+◌, ◌*◌, drop, length}
use Rattle.std.specs.List.{list_any}
use Rattle.clause_laws.specs.Searching.{match_atom, goes_on}
use Rattle.res_prover.specs.Bindings.{map_of}
use Rattle.res_prover.specs.Sending.{sends_literals}
use Rattle.res_prover.proofs.subsumption.+sends.Given as goal

abbrev pub invariant-sends_all-loop-place : goal.invariant-sends_all-loop-place
invariant-sends_all-loop-place l = record {
  sent : sends_literals l.literals l.other (map_of l.fn.bindings.items) ≡ list_any (λ g. goes_on (sends_literals l.rest l.other) (match_atom l.first.atom.now g (map_of l.fn.bindings.items))) (drop l.place l.others);
  back : l.bindings.items ≡ l.fn.bindings.items;
}

abbrev pub decreases-sends_all : goal.decreases-sends_all
decreases-sends_all l = 3 * length l.literals.now

abbrev pub decreases-sends_first : goal.decreases-sends_first
decreases-sends_first l = 3 * length l.rest.now + 2

abbrev pub decreases-goes_further : goal.decreases-goes_further
decreases-goes_further l = 3 * length l.rest.now + 1
