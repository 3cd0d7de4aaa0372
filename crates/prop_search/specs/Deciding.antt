-- What a decision and a search answer, by the walk and a budget.
--     verdict, found      the answer
--     Decides, Finds      the code answers just that, unless memory runs out
--     WalksTo, WalkInTurn      what one part of the walk does with the budget, and what some parts do one after the other
--     IsInferred      the walk goes on to these premises
--     IsProvedIn, IsProved, AreProved      walks that find proofs
use Rattle.std.specs.Prelude.{◌≡◌, ℕ, ◌+◌, ◌<◌, ◌≤◌, true, List, if◌then◌else◌, Result, Ok, Err}
use Rattle.proof_trees.specs.Trees.{Tree, Trees, size, count_rules_all}
use Rattle.proof_graph.specs.References.{Reference}
use Rattle.lk_rules.specs.declared.sequent.Sequent.{Sequent}
use Rattle.lk_rules.specs.declared.rule.Rule.{Rule}
use Rattle.search_laws.specs.Search.{Walk, proved, falsified, Walks, all_proved, one_falsified, visits, inferred, walk_each, walk}
use Rattle.search_laws.specs.declared.fault.SearchFault.{SearchFault}
use Rattle.search_laws.specs.declared.fault.SearchFault.TheVariants.{Falsified, Budget, Memory}

-- a decision is that, but for the proof
abbrev pub Decides : Result (Unit {0}) SearchFault → Result Tree SearchFault → Type 0
Decides (Ok u) wanted = (t : Tree) × (wanted ≡ Ok t)
Decides (Err Memory) wanted = Unit {0}
Decides (Err Budget) wanted = wanted ≡ Err Budget
Decides (Err (Falsified a)) wanted = wanted ≡ Err (Falsified a)

-- and a search is that with the proof
abbrev pub Finds : Result Reference SearchFault → Result Tree SearchFault → Type 0
Finds (Ok r) wanted = wanted ≡ Ok r.tree
Finds (Err Memory) wanted = Unit {0}
Finds (Err Budget) wanted = wanted ≡ Err Budget
Finds (Err (Falsified a)) wanted = wanted ≡ Err (Falsified a)

-- a part of the walk, where n more sequents may be visited before it and m after it
abbrev pub WalksTo : Result (Unit {0}) SearchFault → ℕ → ℕ → Walk → Type 0
WalksTo (Ok u) n m w = (t : Tree) × (w ≡ proved t) × (n ≡ m + size t)
WalksTo (Err Memory) n m w = Unit {0}
WalksTo (Err Budget) n m w = n < visits w
WalksTo (Err (Falsified a)) n m w = (k : ℕ) × (w ≡ falsified k a) × (k ≤ n)

-- how many nodes some trees have, and how many sequents some searches visit
abbrev pub sizes : Trees → ℕ
sizes = count_rules_all (λ r. true)

abbrev pub visits_each : Walks → ℕ
visits_each (all_proved ts) = sizes ts
visits_each (one_falsified n a) = n

-- some parts of the walk in turn
abbrev pub WalkInTurn : Result (Unit {0}) SearchFault → ℕ → ℕ → Walks → Type 0
WalkInTurn (Ok u) n m ws = (ts : Trees) × (ws ≡ all_proved ts) × (n ≡ m + sizes ts)
WalkInTurn (Err Memory) n m ws = Unit {0}
WalkInTurn (Err Budget) n m ws = n < visits_each ws
WalkInTurn (Err (Falsified a)) n m ws = (k : ℕ) × (ws ≡ one_falsified k a) × (k ≤ n)

-- the walk goes from the sequent to these premises
abbrev pub IsInferred : Sequent → List Sequent → Type 0
IsInferred s ss = (r : Rule) × (walk s ≡ inferred r s (walk_each walk ss))

-- it visits so many sequents and finds a proof
abbrev pub IsProvedIn : ℕ → Walk → Type 0
IsProvedIn n w = (t : Tree) × (w ≡ proved t) × (n ≡ size t)

-- the walk finds a proof, and some walks find proofs
abbrev pub IsProved : Walk → Type 0
IsProved (proved t) = Unit {0}
IsProved (falsified n a) = ⊥

abbrev pub AreProved : Walks → Type 0
AreProved (all_proved ts) = Unit {0}
AreProved (one_falsified n a) = ⊥
