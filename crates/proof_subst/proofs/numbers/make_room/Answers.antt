-- An empty arena, of whose numbers nothing is known.
use Rattle.proof_subst.specs.Benches.{graph_of}
use Rattle.proof_subst.proofs.numbers.make_room.Goals as goal

pub returns-then-len-gt-MOST_KEPT-clause-pass_stays : goal.returns-then-len-gt-MOST_KEPT-clause-pass_stays
returns-then-len-gt-MOST_KEPT-clause-pass_stays c = record {
  graph = c.requires.graph;
  images = c.requires.images;
  numbers = c.new.ensures (graph_of c.args.bench.now) c.new-then-len-gt-MOST_KEPT.result;
}
