-- What a search comes to within a budget.
use Rattle.std.specs.Prelude.{ℕ, nat_lt, if◌then◌else◌, Result, Ok, Err}
use Rattle.proof_trees.specs.Trees.{Tree}
use Rattle.search_laws.specs.Search.{Walk, proved, falsified, visits}
use Rattle.search_laws.specs.declared.fault.SearchFault.{SearchFault}
use Rattle.search_laws.specs.declared.fault.SearchFault.TheVariants.{Falsified, Budget}

-- a tautology has a proof; another sequent is false under an assignment
abbrev pub verdict : Walk → Result Tree SearchFault
verdict (proved t) = Ok t
verdict (falsified n a) = Err (Falsified a)

-- what a search comes to within a budget: it visits at most so many sequents
abbrev pub found : ℕ → Walk → Result Tree SearchFault
found n w = if nat_lt n (visits w) then Err Budget else verdict w
