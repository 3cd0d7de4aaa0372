-- What the code of an import answers: just the proof that is wanted, or the first faulty step, unless memory runs out.
use Rattle.std.specs.Prelude.{◌≡◌, ℕ, Result, Ok, Err}
use Rattle.proof_trees.specs.Trees.{Tree}
use Rattle.proof_graph.specs.References.{Reference}
use Rattle.refutations.specs.declared.step.ResCause.{ResCause}
use Rattle.arena_refutations.specs.declared.faults.ImportFault.{ImportFault}
use Rattle.arena_refutations.specs.declared.faults.ImportFault.TheVariants as import_fault

-- the code answers just what is wanted, unless memory runs out
abbrev pub Imports : Result Reference ImportFault → Result Tree (ℕ × ResCause) → Type 0
Imports (Ok r) wanted = wanted ≡ Ok r.tree
Imports (Err import_fault.Memory) wanted = Unit {0}
Imports (Err (import_fault.Step i cause)) wanted = wanted ≡ Err (i, cause)
