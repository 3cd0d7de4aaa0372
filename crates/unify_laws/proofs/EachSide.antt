-- What holds of each equation, from the first one on.
use Rattle.std.proofs.Common.{◌≡◌, ◌↔◌, List, Option}
use Rattle.std.specs.List.{AllByRecursion}
use Rattle.std.proofs.lemmas.List.Elements.{All-from_recursion, recursion_from_All}
use Rattle.fol.specs.declared.symbols.Var.{Var}
use Rattle.fol.specs.Syntax.{Term}
use Rattle.fol.specs.Formed.{IsFormedTerm}
use Rattle.substitution.specs.Image.{image_term}
use Rattle.unify_laws.specs.Equations.{Equation, AreFormed, Unifies}

abbrev HasEqualSides : (Var → Option Term) → Equation → Type 0
HasEqualSides m e = image_term m e.0 ≡ image_term m e.1

abbrev HasFormedSides : Equation → Type 0
HasFormedSides e = IsFormedTerm e.0 × IsFormedTerm e.1

abbrev pub Solves : (Var → Option Term) → List Equation → Type 0
Solves m es = AllByRecursion (HasEqualSides m) es

abbrev pub FormedSides : List Equation → Type 0
FormedSides es = AllByRecursion HasFormedSides es

pub unifies-solves : (m : Var → Option Term) (es : List Equation) → Unifies m es ↔ Solves m es
unifies-solves m es = (recursion_from_All (HasEqualSides m) es, All-from_recursion (HasEqualSides m) es)

pub sides_formed : (es : List Equation) → AreFormed es → FormedSides es
sides_formed es = recursion_from_All HasFormedSides es
