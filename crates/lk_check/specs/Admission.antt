-- What the code answers to a list of steps.
use Rattle.std.specs.Prelude.{◌≡◌, Result, Ok, Err}
use Rattle.proof_trees.specs.Trees.{Tree}
use Rattle.proof_graph.specs.References.{Reference}
use Rattle.step_laws.specs.declared.fault.AdmitFault.{AdmitFault}
use Rattle.step_laws.specs.declared.fault.AdmitFault.TheVariants as fault

-- the code answers just that, unless memory ran out for a list that isn't refused
abbrev pub Admits : Result Reference AdmitFault → Result Tree AdmitFault → Type 0
Admits (Ok r) wanted = wanted ≡ Ok r.tree
Admits (Err fault.Memory) wanted = (t : Tree) × (wanted ≡ Ok t)
Admits (Err fault.Empty) wanted = wanted ≡ Err fault.Empty
Admits (Err (fault.Step i cause)) wanted = wanted ≡ Err (fault.Step i cause)
