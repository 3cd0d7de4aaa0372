-- What building comes to within a budget.
--     building      the proof, where it has at most so many inferences
--     has_formed_trees      what the trees for a sequent name is well formed
use Rattle.std.specs.Prelude.{ℕ, nat_lt, Bool, ◌&&◌, if◌then◌else◌, Option, Some, None, Result, Ok, Err}
use Rattle.std.specs.List.{list_all}
use Rattle.proof_trees.specs.Trees.{Tree, size}
use Rattle.expansion_laws.specs.Dependency.{Expansion}
use Rattle.expansion_laws.specs.Formed.{is_formed_exp}
use Rattle.building_laws.specs.Lists.{start}
use Rattle.building_laws.specs.Building.{build}
use Rattle.building_laws.specs.declared.fault.BuildFault.{BuildFault}
use Rattle.building_laws.specs.declared.fault.BuildFault.TheVariants.{Budget}

-- a proof, where it has at most n inferences
abbrev pub within_budget : ℕ → Option Tree → Result Tree BuildFault
within_budget n None = Err Budget
within_budget n (Some t) = if nat_lt n (size t) then Err Budget else Ok t

-- The proof of the trees for a sequent that is built, where it has at most n inferences. Each expansion proof has one.
abbrev pub building : Expansion → ℕ → Result Tree BuildFault
building x n = within_budget n (build (start x))

-- whether the formulas, terms and variables that the trees name are well formed
abbrev pub has_formed_trees : Expansion → Bool
has_formed_trees x = list_all is_formed_exp x.left && list_all is_formed_exp x.right
