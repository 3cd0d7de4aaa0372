-- The steps stand for the distinct subtrees, and the last for the tree.
use Rattle.std.proofs.Common.{◌≡◌}
use Rattle.step_laws.specs.Subtrees.{distinct_subtrees}
use Rattle.step_laws.specs.Places.{steps_of}
use Rattle.step_laws.specs.StepTrees.{trees_of_steps, IsTreeOf}
use Rattle.proof_steps.proofs.RoundTrip.{trees_back, tree_back, by_items}
use Rattle.step_laws.specs.Checking.{IsProof}
use Rattle.proof_steps.proofs.ProofAgain.{proof_again}
use Rattle.std.specs.List.{All}
use Rattle.lk_rules.specs.Rules.{IsFormedRule}
use Rattle.lk_rules.specs.declared.rule.Step.{Step}
use Rattle.proof_steps.proofs.FormedSteps.{formed_steps}
use Rattle.proof_steps.proofs.step_list.steps.Goals as goal

pub returns-clause-trees : goal.returns-clause-trees
returns-clause-trees c =
    let same = rw c.in_ok-listing.ensures.trees at c.to_steps.ensures in
    by_items (λ v. v.items) (λ steps. trees_of_steps steps ≡ distinct_subtrees c.args.proof.now.tree) c.to_steps.result (steps_of c.args.proof.now.tree) same (trees_back c.args.proof.now.tree)

pub returns-clause-root : goal.returns-clause-root
returns-clause-root c =
    let same = rw c.in_ok-listing.ensures.trees at c.to_steps.ensures in
    by_items (λ v. v.items) (λ steps. IsTreeOf steps c.args.proof.now.tree) c.to_steps.result (steps_of c.args.proof.now.tree) same (tree_back c.args.proof.now.tree)

pub returns-clause-proof : goal.returns-clause-proof
returns-clause-proof c =
    let same = rw c.in_ok-listing.ensures.trees at c.to_steps.ensures in
    by_items (λ v. v.items) IsProof c.to_steps.result (steps_of c.args.proof.now.tree) same (proof_again c.args.proof.now.tree c.known.ensures.valid)

pub returns-clause-formed : goal.returns-clause-formed
returns-clause-formed c =
    let same = rw c.in_ok-listing.ensures.trees at c.to_steps.ensures in
    by_items (λ v. v.items) (λ steps. All (λ (s : Step). IsFormedRule s.rule) steps) c.to_steps.result (steps_of c.args.proof.now.tree) same
    (formed_steps c.args.proof.now.tree c.known.ensures.valid)
