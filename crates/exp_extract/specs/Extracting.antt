-- What the code of an extraction answers.
--     Extracts      just what the extraction comes to, unless memory runs out
--     NamesFormed      the formula that a fault names is well formed
use Rattle.std.specs.Prelude.{◌≡◌, Result, Ok, Err}
use Rattle.fol.specs.Formed.{IsFormed}
use Rattle.expansion_laws.specs.Dependency.{Expansion}
use Rattle.exp_tree.specs.declared.sequents.ExpSequent.{ExpSequent}
use Rattle.exp_tree.specs.Reads.{expansion_of}
use Rattle.extraction_laws.specs.declared.fault.ExtractFault.{ExtractFault}
use Rattle.extraction_laws.specs.declared.fault.ExtractFault.TheVariants.{Cut, Defined, Budget, Memory}

abbrev pub Extracts : Result ExpSequent ExtractFault → Result Expansion ExtractFault → Type 0
Extracts (Ok e) wanted = wanted ≡ Ok (expansion_of e)
Extracts (Err (Cut k)) wanted = wanted ≡ Err (Cut k)
Extracts (Err (Defined f side)) wanted = wanted ≡ Err (Defined f side)
Extracts (Err Budget) wanted = wanted ≡ Err Budget
Extracts (Err Memory) wanted = Unit {0}

-- the formula that the fault names is well formed
abbrev pub NamesFormed : ExtractFault → Type 0
NamesFormed (Defined f side) = IsFormed f
NamesFormed fault = Unit {0}
