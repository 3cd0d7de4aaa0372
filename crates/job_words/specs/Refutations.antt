-- Steps of refutations all of whose parts are well formed.
use Rattle.std.specs.Prelude.{List}
use Rattle.std.specs.List.{All}
use Rattle.std.specs.FinMap as fin
use Rattle.fol.specs.declared.symbols.Var.{Var}
use Rattle.fol.specs.Syntax.{Term}
use Rattle.fol.specs.Formed.{IsFormed, IsFormedTerm, IsFormedVar}
use Rattle.refutations.specs.declared.step.ResStep.{ResStep}
use Rattle.refutations.specs.declared.step.ResStep.TheVariants.{Input, Subst, Resolve}

-- a variable with its term, both well formed
abbrev pub IsFormedBinding : Var × Term → Type 0
IsFormedBinding b = IsFormedVar b.0 × IsFormedTerm b.1

-- the atom, or the variables and the terms of the map, are well formed
abbrev pub HasFormedParts : ResStep → Type 0
HasFormedParts (Input i) = Unit {0}
HasFormedParts (Subst k m) = All IsFormedBinding (fin.entries m)
HasFormedParts (Resolve p n a) = IsFormed a

abbrev pub HaveFormedParts : List ResStep → Type 0
HaveFormedParts steps = All HasFormedParts steps
