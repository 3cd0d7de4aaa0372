-- What the check of expansion trees comes to.
--     searched      by a proof that was found for what the trees stand for, or the search's fault
--     checking      the trees, or the first condition that fails
use Rattle.std.specs.Prelude.{ℕ, Result, Ok, Err}
use Rattle.std.specs.List.{find}
use Rattle.proof_trees.specs.Trees.{Tree}
use Rattle.search_laws.specs.Search.{walk}
use Rattle.expansion_laws.specs.Dependency.{Expansion, strongs_of}
use Rattle.expansion_laws.specs.Proofs.{shallow_sequent}
use Rattle.expansion_laws.specs.Sequents.{deep_sequent}
use Rattle.search_laws.specs.declared.fault.SearchFault.{SearchFault}
use Rattle.search_laws.specs.declared.fault.SearchFault.TheVariants as search
use Rattle.search_laws.specs.Budgets.{found}
use Rattle.expansion_laws.specs.declared.fault.ExpFault.{ExpFault}
use Rattle.expansion_laws.specs.declared.fault.ExpFault.TheVariants.{EigenTwice, EigenFree, Cycle, Falsified, Budget, Memory}
use Rattle.expansion_laws.specs.Eigenvariables.{is_repeated, is_free_eigenvariable}
use Rattle.expansion_laws.specs.Cycles.{variables, cycle}
use Rattle.step_laws.specs.Faults.{or_fault}

-- a proof that was found for what the trees stand for, or the search's fault
abbrev pub searched : Expansion → Result Tree SearchFault → Result Expansion ExpFault
searched x (Ok t) = Ok x
searched x (Err (search.Falsified a)) = Err (Falsified a)
searched x (Err search.Budget) = Err Budget
searched x (Err search.Memory) = Err Memory

-- The conditions of expansion proofs in their order: no two strong quantifiers have one variable; no variable of one is free in the
-- sequent; no variable leads to itself; what the trees stand for is a tautology, by a search that visits at most n sequents. The least
-- variable that breaks a condition is named.
unfoldable pub checking : Expansion → ℕ → Result Expansion ExpFault
checking x n =
    or_fault EigenTwice (find (is_repeated (strongs_of x)) (variables x))
    (or_fault EigenFree (find (is_free_eigenvariable (shallow_sequent x) (strongs_of x)) (variables x))
    (or_fault Cycle (cycle x)
    (searched x (found n (walk (deep_sequent x))))))
