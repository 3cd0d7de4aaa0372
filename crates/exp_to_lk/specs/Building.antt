-- What the code of building answers: just what building comes to, unless memory runs out.
use Rattle.std.specs.Prelude.{◌≡◌, Result, Ok, Err}
use Rattle.proof_trees.specs.Trees.{Tree}
use Rattle.proof_graph.specs.References.{Reference}
use Rattle.building_laws.specs.declared.fault.BuildFault.{BuildFault}
use Rattle.building_laws.specs.declared.fault.BuildFault.TheVariants.{Budget, Memory}

-- the answer is a reference to the proof, or that the budget is too small
abbrev pub Builds : Result Reference BuildFault → Result Tree BuildFault → Type 0
Builds (Ok r) wanted = wanted ≡ Ok r.tree
Builds (Err Budget) wanted = wanted ≡ Err Budget
Builds (Err Memory) wanted = Unit {0}
