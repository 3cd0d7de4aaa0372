-- What is read from a flat list.
--     ReadsNode, Builds      what one node is read as, and one whose children and shape are right
--     IsWrong      why a node whose children and shape are right is read as no tree
--     is_propositional      whether a node is none of a quantifier
--     AreSorted, PutsInstance      instances by rising term, and one more of them
use Rattle.std.specs.Prelude.{◌≡◌, ℕ, Bool, true, false, List, map, Some, None, Result, Ok, Err}
use Rattle.fol.specs.Syntax.{Term, Formula}
use Rattle.fol.specs.Order.{term_cmp}
use Rattle.finite.specs.Finite.{IsRising}
use Rattle.expansion_laws.specs.Expansions.{Exp as Tree}
use Rattle.expansion_laws.specs.Building.{is_built, are_built}
use Rattle.expansion_laws.specs.Formed.{are_formed_insts}
use Rattle.exp_tree.specs.Shown.{insts_of}
use Rattle.exp_tree.specs.Sorting.{placed, sorted}
use Rattle.exp_tree.specs.FlatLists.{tree_over, inst_at, node_fault, IsFirstNodeFault}
use Rattle.exp_tree.specs.declared.expansion.Inst.{Inst}
use Rattle.exp_tree.specs.declared.flat.ExpNode.{ExpNode}
use Rattle.exp_tree.specs.declared.flat.ExpNode.TheVariants.{Weak, Strong}
use Rattle.exp_tree.specs.declared.flat.NodesFault.{NodesFault}
use Rattle.exp_tree.specs.declared.flat.NodesFault.TheVariants as fault
use Rattle.exp_tree.specs.declared.flat.NodeCause.TheVariants.{Instance}
use Rattle.exp_tree.specs.declared.reading.NodeFault.{NodeFault}
use Rattle.exp_tree.specs.declared.reading.NodeFault.TheVariants.{Cause, Memory}

-- a node is read as its tree, or its first fault is found
abbrev pub ReadsNode : Result Tree NodeFault → List Tree → ExpNode → Type 0
ReadsNode (Ok e) ts node = (node_fault ts node ≡ None) × (e ≡ tree_over ts node)
ReadsNode (Err (Cause cause)) ts node = node_fault ts node ≡ Some cause
ReadsNode (Err Memory) ts node = Unit {0}

-- an instance is wrong where the test of what is built fails
abbrev pub IsWrong : NodeFault → Bool → Type 0
IsWrong (Cause cause) test = (cause ≡ Instance) × (test ≡ false)
IsWrong Memory test = Unit {0}

-- a tree is the wanted one, or that isn't rightly built
abbrev pub Builds : Result Tree NodeFault → Tree → Type 0
Builds (Ok e) wanted = e ≡ wanted
Builds (Err fault) wanted = IsWrong fault (is_built wanted)

-- a node is none of a quantifier
abbrev pub is_propositional : ExpNode → Bool
is_propositional (Weak f is) = false
is_propositional (Strong f y m) = false
is_propositional n = true

-- instances by rising term, with right children
pub record AreSorted (f : Formula) (terms : List Term) (is : List Inst) : Type 0 where
  pub keys : terms ≡ map (λ i. i.term) is
  pub rises : IsRising term_cmp terms
  pub built : are_built f (insts_of is) ≡ true
  pub formed : are_formed_insts (insts_of is) ≡ true

abbrev pub by_term : Inst → List Inst → List Inst
by_term = placed term_cmp (λ i. i.term)

-- one instance is put among sorted ones, or it isn't right among them
abbrev pub PutsInstance : Result (Unit {0}) NodeFault → Formula → Inst → List Term → List Inst → List Inst → Type 0
PutsInstance (Ok u) f i terms old new = (new ≡ by_term i old) × AreSorted f terms new
PutsInstance (Err fault) f i terms old new = IsWrong fault (are_built f (insts_of (by_term i old)))

-- the instances that a node names, by rising term
abbrev pub instances_over : List Tree → List (Term × ℕ) → List Inst
instances_over ts is = sorted term_cmp (λ i. i.term) (map (inst_at ts) is)

-- they have right children, and what they name is well formed
pub record AreRight (f : Formula) (is : List Inst) : Type 0 where
  pub built : are_built f (insts_of is) ≡ true
  pub formed : are_formed_insts (insts_of is) ≡ true

-- the fault of the node at place i
abbrev pub of_node : ℕ → NodeFault → NodesFault
of_node i (Cause cause) = fault.Node i cause
of_node i Memory = fault.Memory

-- the first faulty node of a list, or want of memory
abbrev pub IsNodeOrMemory : List ExpNode → NodesFault → Type 0
IsNodeOrMemory nodes (fault.Node i cause) = IsFirstNodeFault nodes i cause
IsNodeOrMemory nodes (fault.Root n cause) = ⊥
IsNodeOrMemory nodes fault.Budget = ⊥
IsNodeOrMemory nodes fault.Memory = Unit {0}
