-- What the code of an interpolation answers.
--     interpolation_of, AreProofs      what the references of an interpolation mean, and that they are proofs
--     Interpolates      just what the interpolation comes to, unless memory runs out
--     NamesFormed      the formula that a fault names is well formed
use Rattle.std.specs.Prelude.{◌≡◌, Result, Ok, Err}
use Rattle.fol.specs.Formed.{IsFormed}
use Rattle.proof_trees.specs.Trees.{IsValid}
use Rattle.proof_trees.specs.Conclusions.{HasFormedEnd}
use Rattle.interp_laws.specs.Interpolation.{Interpolation}
use Rattle.interp_laws.specs.declared.fault.InterpFault.{InterpFault}
use Rattle.interp_laws.specs.declared.fault.InterpFault.TheVariants.{Cut, Defined, Partition, Budget, Memory}
use Rattle.lk_interp.specs.declared.interpolation.Interp.{Interp}

-- the trees that an interpolation's references mean
abbrev pub interpolation_of : Interp → Interpolation
interpolation_of i = record { formula = i.formula; first = i.first.tree; second = i.second.tree }

-- both proofs are valid, with well-formed end sequents
pub record AreProofs (i : Interpolation) : Type 0 where
  pub first : IsValid i.first
  pub second : IsValid i.second
  pub first_formed : HasFormedEnd i.first
  pub second_formed : HasFormedEnd i.second

abbrev pub Interpolates : Result Interp InterpFault → Result Interpolation InterpFault → Type 0
Interpolates (Ok i) wanted = wanted ≡ Ok (interpolation_of i)
Interpolates (Err (Cut n)) wanted = wanted ≡ Err (Cut n)
Interpolates (Err (Defined f side)) wanted = wanted ≡ Err (Defined f side)
Interpolates (Err (Partition f side)) wanted = wanted ≡ Err (Partition f side)
Interpolates (Err Budget) wanted = wanted ≡ Err Budget
Interpolates (Err Memory) wanted = Unit {0}

-- the formula that the fault names is well formed
abbrev pub NamesFormed : InterpFault → Type 0
NamesFormed (Defined f side) = IsFormed f
NamesFormed (Partition f side) = IsFormed f
NamesFormed fault = Unit {0}
