-- What the code of the introduction of a cut answers.
--     Introduces      just what the introduction comes to, unless memory runs out
--     NamesFormedFormula      the formula that a fault names is well formed
--     IfShorter, IfSame, answered      what holds of a shorter proof, of the proof itself, and of either
--     ChoosesBelow      the best candidate, if there is one that costs less
use Rattle.std.specs.Prelude.{◌≡◌, ℕ, ◌<◌, ◌≤◌, ◌⊎◌, List, Option, Some, None, Result, Ok, Err}
use Rattle.fol.specs.Formed.{IsFormed}
use Rattle.proof_graph.specs.References.{Reference}
use Rattle.herbrand_laws.specs.Herbrand.{Item}
use Rattle.herbrand_laws.specs.Patterns.{TermSet}
use Rattle.herbrand_laws.specs.Candidates.{cost, best}
use Rattle.introduction_laws.specs.declared.fault.IntroFault.{IntroFault}
use Rattle.introduction_laws.specs.declared.fault.IntroFault.TheVariants.{Cut, NotPrenex, Budget, TooMany, Memory}
use Rattle.cut_intro.specs.declared.introduction.Introduced.{Introduced}
use Rattle.cut_intro.specs.declared.introduction.Introduced.TheVariants.{Shorter, Same}
use Rattle.delta_table.specs.declared.candidates.Candidate.{Candidate}
use Rattle.cut_intro.specs.Cuttings.{IsCandidateFor}
use Rattle.introduction_laws.specs.Introducing.{Answer, shorter, same}

abbrev pub Introduces : Result Introduced IntroFault → Result Answer IntroFault → Type 0
Introduces (Ok (Shorter r)) wanted = wanted ≡ Ok (shorter r.tree)
Introduces (Ok (Same r)) wanted = wanted ≡ Ok same
Introduces (Err (Cut k)) wanted = wanted ≡ Err (Cut k)
Introduces (Err (NotPrenex f side)) wanted = wanted ≡ Err (NotPrenex f side)
Introduces (Err Budget) wanted = wanted ≡ Err Budget
Introduces (Err (TooMany k)) wanted = wanted ≡ Err (TooMany k)
Introduces (Err Memory) wanted = Unit {0}

-- the formula that the fault names is well formed
abbrev pub NamesFormedFormula : IntroFault → Type 0
NamesFormedFormula (NotPrenex f side) = IsFormed f
NamesFormedFormula fault = Unit {0}

-- what holds of a shorter proof, of the proof itself, and of either
abbrev pub IfShorter : (Reference → Type 0) → Introduced → Type 0
IfShorter P (Shorter r) = P r
IfShorter P (Same r) = Unit {0}

abbrev pub IfSame : (Reference → Type 0) → Introduced → Type 0
IfSame P (Shorter r) = Unit {0}
IfSame P (Same r) = P r

abbrev pub answered : Introduced → Reference
answered (Shorter r) = r
answered (Same r) = r

-- the best candidate, if there is one that costs less than n
abbrev pub ChoosesBelow : Option Candidate → ℕ → ℕ → List Item → Type 0
ChoosesBelow None width n items = (best width items ≡ None) ⊎ ((w : TermSet) × (best width items ≡ Some w) × (n ≤ cost width items w))
ChoosesBelow (Some c) width n items = (best width items ≡ Some c.values) × (cost width items c.values < n) × IsCandidateFor width items c
