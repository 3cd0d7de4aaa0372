-- Tables with nothing in them say nothing.
use Rattle.std.proofs.Common.{rules}
use Rattle.arena_graph.proofs.proof_numbers.ProofNumbers.new.Goals as goal

pub returns : goal.returns
returns c = λ g a. record {
  proofs = search rules;
  sides = search rules;
  ranks = c.new-3.ensures a;
  left = c.new-4.ensures a _;
  right = c.new-5.ensures a _;
}
