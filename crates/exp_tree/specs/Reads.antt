-- What a flat list is read as.
--     expansion_of      the trees of both sides
--     IsWithoutFault      no node and no root is faulty
--     Reads      what is answered
use Rattle.std.specs.Prelude.{◌≡◌, ℕ, ◌<◌, ◌≤◌, true, Result, Ok, Err}
use Rattle.std.specs.List.{list_all}
use Rattle.lk_rules.specs.declared.sequent.Side.TheVariants.{Left, Right}
use Rattle.expansion_laws.specs.Dependency.{Expansion}
use Rattle.expansion_laws.specs.Proofs.{stands}
use Rattle.exp_tree.specs.FlatLists.{IsFirstNodeFault, IsWithoutNodeFault}
use Rattle.exp_tree.specs.Roots.{IsFirstRootFault, IsWithoutRootFault, expansion_over, total}
use Rattle.exp_tree.specs.declared.flat.FlatExp.{FlatExp}
use Rattle.exp_tree.specs.declared.flat.NodesFault.{NodesFault}
use Rattle.exp_tree.specs.declared.flat.NodesFault.TheVariants as fault
use Rattle.exp_tree.specs.declared.sequents.ExpSequent.{ExpSequent}

abbrev pub expansion_of : ExpSequent → Expansion
expansion_of e = record { left = e.left; right = e.right }

-- each tree can stand on its side
pub record StandsRightly (e : ExpSequent) : Type 0 where
  pub left : list_all (stands Left) e.left ≡ true
  pub right : list_all (stands Right) e.right ≡ true

pub record IsWithoutFault (flat : FlatExp) : Type 0 where
  pub nodes : IsWithoutNodeFault flat.nodes
  pub roots : IsWithoutRootFault flat

-- the first faulty root, or want of memory
abbrev pub IsRootOrMemory : FlatExp → NodesFault → Type 0
IsRootOrMemory flat (fault.Node i cause) = ⊥
IsRootOrMemory flat (fault.Root n cause) = IsFirstRootFault flat n cause
IsRootOrMemory flat fault.Budget = ⊥
IsRootOrMemory flat fault.Memory = Unit {0}

-- the first faulty node; else the first faulty root; else whether the unfolded trees have too many nodes; else the trees that the list
-- means
abbrev pub Reads : Result ExpSequent NodesFault → FlatExp → ℕ → Type 0
Reads (Ok e) flat budget = IsWithoutFault flat × (expansion_of e ≡ expansion_over flat) × (total (expansion_over flat) ≤ budget)
Reads (Err (fault.Node i cause)) flat budget = IsFirstNodeFault flat.nodes i cause
Reads (Err (fault.Root n cause)) flat budget = IsWithoutNodeFault flat.nodes × IsFirstRootFault flat n cause
Reads (Err fault.Budget) flat budget = IsWithoutFault flat × (budget < total (expansion_over flat))
Reads (Err fault.Memory) flat budget = Unit {0}
