-- The trees get smaller, and those of one more premise are listed.
use Rattle.std.proofs.Common.{ap, ◌∙◌, arith}
use Rattle.proof_graph.specs.References.{Reference}
use Rattle.proof_steps.proofs.Sizes.{premise_smaller}
use Rattle.proof_steps.proofs.Visits.{trees_next, places_next, trees_root}
use Rattle.proof_steps.proofs.visiting.+visit.Goals as goal

pub visit-returns-clause-trees : goal.visit-returns-clause-trees
visit-returns-clause-trees t c =
    let root = trees_root c.args.listing.now.trees c.visit_all.new.listing.trees c.args.proof.now.tree _ c.in_ok-places.ensures.trees c.premises.ensures.trees in
    rw root at c.enter.ensures.trees

pub visit_all-visit-requires : goal.visit_all-visit-requires
visit_all-visit-requires t c =
    let smaller = premise_smaller c.args.proofs.now c.loop-proof.proof-index c.proof-item.result c.loop-proof-test.true c.proof-item.is in
    (omega (arith, smaller, c.decreases), (c.loop-proof.invariant.home, ap (λ (r : Reference). r.home) c.proof-item.is ∙ c.requires.of c.loop-proof.proof-index c.proof-item.result c.loop-proof-test.true))

pub visit_all-loop-proof-preserved : goal.visit_all-loop-proof-preserved
visit_all-loop-proof-preserved t c = record {
  home = c.in_ok-place.ensures.home;
  trees = trees_next c.args.proofs.now c.loop-proof.proof-index c.proof-item.result c.args.listing.now.trees c.loop-proof.listing.trees c.visit.new.listing.trees c.loop-proof-test.true c.proof-item.is c.loop-proof.invariant.trees c.in_ok-place.ensures.trees;
  places = rw c.in_ok-push.ensures.items (
      places_next c.args.proofs.now c.loop-proof.proof-index c.proof-item.result c.loop-proof.listing.trees c.visit.new.listing.trees c.loop-proof.places.items c.in_ok-place.place c.loop-proof-test.true c.proof-item.is c.loop-proof.invariant.places c.in_ok-place.ensures.trees c.in_ok-place.ensures.place);
}
