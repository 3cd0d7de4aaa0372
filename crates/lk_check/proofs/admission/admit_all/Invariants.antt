-- The steps so far have their trees.
use Rattle.std.proofs.Common.{◌≡◌, map, take, drop}
use Rattle.std.specs.List.{All}
use Rattle.proof_trees.specs.Trees.{concl}
use Rattle.proof_graph.specs.Graphs.{IsOf, Extends}
use Rattle.step_laws.specs.StepTrees.{trees_after, trees_of_steps}
use Rattle.lk_check.proofs.Picks.{tree_of}
use Rattle.step_laws.proofs.StepEnds.{end_of}
use Rattle.lk_check.proofs.admission.admit_all.Given as goal

abbrev pub invariant-loop-step : goal.invariant-loop-step
invariant-loop-step g l = record {
  of : All (IsOf l.graph) l.proofs.items;
  trees : trees_after (map tree_of l.proofs.items) (drop l.step-index l.steps) ≡ trees_of_steps l.steps;
  ends : map concl (map tree_of l.proofs.items) ≡ map end_of (take l.step-index l.steps);
  extends : Extends l.graph l.initial.pass l.pass;
}
