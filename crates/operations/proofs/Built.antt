-- What a building answers decides what the operation comes to.
use Rattle.std.proofs.Common.{◌≡◌, ℕ, Bool, true, cond, Result, Ok, Err, sym, ap, subst}
use Rattle.proof_trees.specs.Trees.{Tree}
use Rattle.proof_graph.specs.declared.graph.Graph.{Graph}
use Rattle.expansion_laws.specs.Dependency.{Expansion}
use Rattle.building_laws.specs.declared.fault.BuildFault.{BuildFault}
use Rattle.building_laws.specs.declared.fault.BuildFault.TheVariants as construction
use Rattle.building_laws.specs.Budgets.{building, has_formed_trees}
use Rattle.operation_laws.specs.declared.refusals.Failure.TheVariants.{Budget}
use Rattle.operations.specs.declared.answers.Ran.{Ran}
use Rattle.operations.specs.declared.answers.Ran.TheVariants as ran
use Rattle.operation_laws.specs.Answers.{proof, lacking, product}
use Rattle.operation_laws.specs.Running.{built, builds}
use Rattle.operations.specs.Means.{Comes}

pub building_gives : (g : Graph) (r : Ran) (t : Tree) (wanted : Result Tree BuildFault) → wanted ≡ Ok t → Comes g r (product (proof t)) → Comes g r (built wanted)
building_gives g r t wanted is comes = subst (λ (w : Result Tree BuildFault). Comes g r (built w)) (sym is) comes

pub building_fails : (g : Graph) (wanted : Result Tree BuildFault) → wanted ≡ Err construction.Budget → Comes g (ran.Failed Budget) (built wanted)
building_fails g wanted is = ap built is

pub building_lacks : (g : Graph) (wanted : Result Tree BuildFault) → Comes g ran.Lacking (built wanted)
building_lacks g (Ok t) = tt
building_lacks g (Err construction.Budget) = tt
building_lacks g (Err construction.Memory) = tt

-- what the trees name is well formed
pub formed_builds : (g : Graph) (r : Ran) (x : Expansion) (n : ℕ) → has_formed_trees x ≡ true → Comes g r (built (building x n)) → Comes g r (builds x n)
formed_builds g r x n formed comes = subst (λ (b : Bool). Comes g r (cond b (built (building x n)) lacking)) (sym formed) comes
