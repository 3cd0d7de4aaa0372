-- What a flat list is read as, as a function of it.
--     first_below      the first fault of some places
--     node_fault_in, root_fault_in      the first faulty node and the first faulty root of a list
--     reading      the trees of the roots; else why they aren't read
--     IsReading      what is answered is that, unless memory ran out
--     AreRight      each tree is rightly built, on its side
use Rattle.std.specs.Prelude.{◌≡◌, ℕ, zero, suc, ◌+◌, nat_lt, if◌then◌else◌, true, length, Option, Some, None, Result, Ok, Err}
use Rattle.std.specs.List.{All}
use Rattle.lk_rules.specs.declared.sequent.Side.TheVariants.{Left, Right}
use Rattle.expansion_laws.specs.Building.{is_built}
use Rattle.expansion_laws.specs.Dependency.{Expansion}
use Rattle.expansion_laws.specs.Proofs.{stands}
use Rattle.exp_tree.specs.FlatLists.{fault_at}
use Rattle.exp_tree.specs.Roots.{root_fault_at, expansion_over, total}
use Rattle.exp_tree.specs.Reads.{expansion_of}
use Rattle.exp_tree.specs.declared.flat.FlatExp.{FlatExp}
use Rattle.exp_tree.specs.declared.flat.NodeCause.{NodeCause}
use Rattle.exp_tree.specs.declared.flat.RootCause.{RootCause}
use Rattle.exp_tree.specs.declared.flat.NodesFault.{NodesFault}
use Rattle.exp_tree.specs.declared.flat.NodesFault.TheVariants.{Node, Root, Budget, Memory}
use Rattle.exp_tree.specs.declared.sequents.ExpSequent.{ExpSequent}

-- an earlier fault, or else the one at a place
abbrev pub earlier_or : {C : Type 0} → Option (ℕ × C) → ℕ → Option C → Option (ℕ × C)
earlier_or (Some first) n here = Some first
earlier_or None n (Some cause) = Some (n, cause)
earlier_or None n None = None

-- the first fault of the first n places
abbrev pub first_below : {C : Type 0} → (ℕ → Option C) → ℕ → Option (ℕ × C)
first_below fault zero = None
first_below fault (suc n) = earlier_or (first_below fault n) n (fault n)

-- the first faulty node; the first faulty root, where left roots are counted before right ones
abbrev pub node_fault_in : FlatExp → Option (ℕ × NodeCause)
node_fault_in flat = first_below (fault_at flat.nodes) (length flat.nodes)

abbrev pub root_fault_in : FlatExp → Option (ℕ × RootCause)
root_fault_in flat = first_below (root_fault_at flat) (length flat.left + length flat.right)

-- trees, if unfolded they have at most n nodes
abbrev pub within : ℕ → Expansion → Result Expansion NodesFault
within n x = if nat_lt n (total x) then Err Budget else Ok x

-- trees, if no node and no root is faulty
abbrev pub read_after : Option (ℕ × NodeCause) → Option (ℕ × RootCause) → ℕ → Expansion → Result Expansion NodesFault
read_after (Some f) root n x = Err (Node f.0 f.1)
read_after None (Some f) n x = Err (Root f.0 f.1)
read_after None None n x = within n x

-- the trees of the roots, within a budget of nodes
abbrev pub reading : FlatExp → ℕ → Result Expansion NodesFault
reading flat n = read_after (node_fault_in flat) (root_fault_in flat) n (expansion_over flat)

abbrev pub IsReading : Result ExpSequent NodesFault → Result Expansion NodesFault → Type 0
IsReading (Ok e) wanted = wanted ≡ Ok (expansion_of e)
IsReading (Err (Node i cause)) wanted = wanted ≡ Err (Node i cause)
IsReading (Err (Root i cause)) wanted = wanted ≡ Err (Root i cause)
IsReading (Err Budget) wanted = wanted ≡ Err Budget
IsReading (Err Memory) wanted = Unit {0}

-- the trees are rightly built, and each can stand on its side
pub record AreRight (x : Expansion) : Type 0 where
  pub built_left : All (λ e. is_built e ≡ true) x.left
  pub built_right : All (λ e. is_built e ≡ true) x.right
  pub stand_left : All (λ e. stands Left e ≡ true) x.left
  pub stand_right : All (λ e. stands Right e ≡ true) x.right
