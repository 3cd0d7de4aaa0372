-- The history of a graph: the references that were interned, in their order.
--     IsLegal      keys differ, numbers differ, and each tree is valid
--     StandsAt, IsAbsent      a key stands at a number, or nowhere
--     AddsAtMost, AddsAtMostEach, AddsFirst      what a call adds
use Rattle.std.specs.Prelude.{◌≡◌, ◌≢◌, ◌⊎◌, ℕ, List, [], ◌∷◌, ◌++◌, map}
use Rattle.std.specs.List.{All, AllPairs, Contains}
use Rattle.std.specs.Coded.{Coded}
use base.Stored.{coded×, coded_list, coded_via}
use mathlib.Core.List.{IsPrefix}
use Rattle.boxcar.specs.Table.{Shelves, shelves_coded}
use Rattle.proof_trees.specs.Trees.{IsValid}
use Rattle.proof_graph.specs.declared.node.Node.{Node}
use Rattle.proof_graph.specs.References.{Reference, coded_reference, key_of}

-- no two entries have one key or one number. The tree of each is valid; its root has the rule and the end sequent of the key
pub record IsLegal (history : List Reference) : Type 0 where
  pub keys : AllPairs (λ r s. key_of r ≢ key_of s) history
  pub numbers : AllPairs (λ r s. r.number ≢ s.number) history
  pub trees : All (λ r. IsValid r.tree) history

-- an entry with this key has this number
abbrev pub StandsAt : List Reference → Node → ℕ → Type 0
StandsAt history key n = (r : Reference) × Contains history r × (key_of r ≡ key) × (r.number ≡ n)

-- no entry has this key
abbrev pub IsAbsent : List Reference → Node → Type 0
IsAbsent history key = All (λ r. key_of r ≢ key) history

-- the key of each reference stands at its number
abbrev pub StandEach : List Reference → List Reference → Type 0
StandEach history rs = All (λ r. StandsAt history (key_of r) r.number) rs

-- a history that has the key stays as it is, for the reference's number; to one that hasn't the reference is added at the end
abbrev pub Adds : List Reference → Node → Reference → List Reference → Type 0
Adds history key r new = (StandsAt history key r.number × (new ≡ history)) ⊎ (IsAbsent history key × (new ≡ history ++ r ∷ []))

-- a history goes on from an old one, perhaps by entries of others, and then by the reference where the key wasn't there
abbrev pub AddsAtMost : List Reference → Node → Reference → List Reference → Type 0
AddsAtMost old key r new = (history : List Reference) × IsPrefix old history × Adds history key r new

-- a history goes on by references, one after another, each added where its key isn't there
abbrev pub AddsEach : List Reference → List Reference → List Reference → Type 0
AddsEach history [] new = new ≡ history
AddsEach history (r ∷ rs) new = (next : List Reference) × Adds history (key_of r) r next × AddsEach next rs new

-- a history goes on from an old one, perhaps by entries of others, and then by the references, each where its key wasn't there
abbrev pub AddsAtMostEach : List Reference → List Reference → List Reference → Type 0
AddsAtMostEach old rs new = (history : List Reference) × IsPrefix old history × AddsEach history rs new

-- the same by references of the first of some keys
abbrev pub AddsFirst : List Reference → List Node → List Reference → Type 0
AddsFirst old keys new = (rs : List Reference) × IsPrefix (map key_of rs) keys × AddsAtMostEach old rs new

-- what contracts see of an index: the graph that its entries are of, and the history
pub record Recorded : Type 0 where
  pub home : Shelves
  pub history : List Reference

abbrev pub coded_recorded : Coded Recorded
coded_recorded = coded_via (coded× shelves_coded (coded_list coded_reference)) (λ (r : Recorded). (r.home, r.history)) (λ x y e i. record { home = (e i).0; history = (e i).1 })
