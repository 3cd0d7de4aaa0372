-- What an extraction from a proof comes to: the expansion, or the first reason why there is none.
use Rattle.std.specs.Prelude.{ℕ, nat_lt, if◌then◌else◌, Result, Ok, Err}
use Rattle.std.specs.List.{position}
use Rattle.proof_trees.specs.Trees.{Tree, concl, size}
use Rattle.step_laws.specs.Places.{steps_of, is_cut_step}
use Rattle.step_laws.specs.Faults.{Placed, first_defined, or_fault}
use Rattle.expansion_laws.specs.Dependency.{Expansion}
use Rattle.extraction_laws.specs.Extraction.{extracted}
use Rattle.extraction_laws.specs.declared.fault.ExtractFault.{ExtractFault}
use Rattle.extraction_laws.specs.declared.fault.ExtractFault.TheVariants.{Cut, Defined, Budget}

-- The expansion of a proof, or the first of the reasons why there is none, in this order: a cut, by its place among the proof's steps; a
-- formula of the end sequent with a defined symbol; a tree of more than n nodes.
unfoldable pub extracting : Tree → ℕ → Result Expansion ExtractFault
extracting t n =
    or_fault Cut (position is_cut_step (steps_of t))
    (or_fault (λ (p : Placed). Defined p.0 p.1) (first_defined (concl t))
    (if nat_lt n (size t) then Err Budget else Ok (extracted t)))
