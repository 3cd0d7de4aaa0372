-- What the pass knows stays right in a larger arena.
use Rattle.arena_graph.proofs.Larger.{numbers_stay}
use Rattle.proof_subst.specs.Benches.{graph_of}
use Rattle.proof_subst.proofs.tree_images.image_of.Goals as goal

pub returns-in_err-map-clause-pass_stays : goal.returns-in_err-map-clause-pass_stays
returns-in_err-map-clause-pass_stays c = record {
  graph = c.requires.pass_of.graph;
  images = c.requires.pass_of.images;
  numbers = numbers_stay (graph_of c.args.bench.now) c.args.pass.now.arena c.import_map.new.self c.args.pass.now.numbers c.requires.pass_of.numbers c.import_map.ensures.grown;
}

pub returns-clause-pass_stays : goal.returns-clause-pass_stays
returns-clause-pass_stays c = record {
  graph = c.requires.pass_of.graph;
  images = c.requires.pass_of.images;
  numbers =
      numbers_stay (graph_of c.args.bench.now) c.args.pass.now.arena c.substitute_in.new.arena c.args.pass.now.numbers c.requires.pass_of.numbers
      (λ n t h. c.substitute_in.ensures.grown n t (c.import_map.ensures.grown n t h));
}
