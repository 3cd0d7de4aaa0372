-- The end sequent is that of the node, whose formulas are well formed.
use Rattle.std.proofs.Common.{rules, ap, subst}
use Rattle.lk_rules.specs.declared.sequent.Sequent.{Sequent}
use Rattle.proof_trees.specs.Conclusions.{IsFormedSequent}
use Rattle.proof_graph.specs.declared.node.Node.{Node}
use Rattle.proof_subst.specs.Benches.{graph_of}
use Rattle.operation_laws.specs.Given.{proof_given}
use Rattle.operation_laws.specs.Running.{unfolds}
use Rattle.held_values.specs.Means.{sense}
use Rattle.operations.specs.declared.answers.Made.TheVariants as made
use Rattle.operations.specs.declared.answers.Ran.TheVariants as ran
use Rattle.operations.proofs.Givings.{found_comes}
use Rattle.operations.proofs.Unfolded.{unfolds_gives}
use Rattle.operations.proofs.unfolding.unfold_in.Goals as goal

pub returns-in-Ok-flatten : goal.returns-in-Ok-flatten
returns-in-Ok-flatten g c =
    let here = graph_of c.args.bench.now in
    let tree = c.in-Ok.proof.now.tree in
    let end = subst (λ (s : Sequent). IsFormedSequent s) (ap (λ (n : Node). n.end) c.get.ensures) c.see_formed.ensures in
    record {
      comes = found_comes here (ran.Done (made.Proof c.in-Ok-flatten.flat)) (proof_given c.args.of.now (sense c.args.value.now)) tree unfolds c.in-Ok.ensures.found
          (unfolds_gives here tree c.in-Ok-flatten.flat c.in-Ok-flatten.ensures.tree end c.in-Ok-flatten.ensures.valid c.in-Ok-flatten.ensures.of);
      unchanged = search rules;
      images_unchanged = search rules;
      images_grown = search rules;
      extends = search rules;
    }
