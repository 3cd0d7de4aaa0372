-- What a flat list is read as, as a function of it.
use Rattle.std.proofs.Common.{◌≡◌, ℕ, zero, suc, ◌+◌, ◌-◌, ◌<◌, ◌≤◌, Bool, true, false, cond, if◌then◌else◌, List, length, refl, sym, ap, ◌∙◌, arith, inl, inr, take}
use Rattle.std.specs.Prelude.{nat_lt, slice_get, Option, Some, None, option_and_then, Result, Ok, Err}
use Rattle.std.proofs.lemmas.Bool.{ltb-false, le-ltb}
use Rattle.std.proofs.lemmas.Option.{slice_get_within}
use Rattle.std.proofs.Math.Nat.{eq-or-lt_of_le}
use Rattle.lk_rules.specs.declared.sequent.Side.{Side}
use Rattle.lk_rules.specs.declared.sequent.Side.TheVariants.{Left, Right}
use Rattle.expansion_laws.specs.Expansions.{Exp as Tree}
use Rattle.expansion_laws.specs.Dependency.{Expansion}
use Rattle.exp_tree.specs.declared.flat.ExpNode.{ExpNode}
use Rattle.exp_tree.specs.declared.flat.FlatExp.{FlatExp}
use Rattle.exp_tree.specs.declared.flat.NodeCause.{NodeCause}
use Rattle.exp_tree.specs.declared.flat.RootCause.{RootCause}
use Rattle.exp_tree.specs.declared.flat.NodesFault.{NodesFault}
use Rattle.exp_tree.specs.declared.flat.NodesFault.TheVariants as fault
use Rattle.exp_tree.specs.declared.sequents.ExpSequent.{ExpSequent}
use Rattle.exp_tree.specs.FlatLists.{trees_of, node_fault, fault_at, IsWithoutNodeFault}
use Rattle.exp_tree.specs.Roots.{root_fault, root_fault_at, side_fault_at, IsWithoutRootFault, expansion_over, total}
use Rattle.exp_tree.specs.Reads.{IsWithoutFault, Reads}
use Rattle.exp_tree.proofs.RootWalk.{below_test}
use Rattle.exp_tree.specs.FlatReading.{earlier_or, first_below, node_fault_in, root_fault_in, within, read_after, reading, IsReading}

-- the first fault of some places
module _ {C : Type 0} (faults : ℕ → Option C) where
  none_below : (n : ℕ) → ((j : ℕ) → j < n → faults j ≡ None) → first_below faults n ≡ None
  none_below zero none = refl
  none_below (suc n) none =
      (λ k. earlier_or (none_below n (λ j low. none j (omega (arith, low))) k) n (none n (omega arith) k))

  found_below : (n j : ℕ) (cause : C) → j < n → faults j ≡ Some cause → ((i : ℕ) → i < j → faults i ≡ None) → first_below faults n ≡ Some (j, cause)
  found_below zero j cause low here before = absurd (omega arith)
  found_below (suc n) j cause low here before = elim (eq-or-lt_of_le {n = j} {m = n} (omega arith)) [
    | inl same ↦
        let first : first_below faults n ≡ None = none_below n (λ i less. before i (omega (arith, less, same))) in
        (λ k. earlier_or (first k) n (faults (sym same k))) ∙ ap (earlier_or None n) here ∙ ap (λ m. Some (m, cause)) (sym same)
    | inr less ↦ ap (λ o. earlier_or o n (faults n)) (found_below n j cause less here before)
  ]

-- a fault is within the list
node_within : (nodes : List ExpNode) (i : ℕ) (cause : NodeCause) → fault_at nodes i ≡ Some cause → i < length nodes
node_within nodes i cause here = by (slice_get nodes i) refl here
  where
    by : (o : Option ExpNode) → slice_get nodes i ≡ o → option_and_then (node_fault (take i (trees_of nodes))) o ≡ Some cause → i < length nodes
    by None is here = cc
    by (Some n) is here = slice_get_within nodes i n is

side_within : (ts : List Tree) (side : Side) (roots : List ℕ) (k : ℕ) (cause : RootCause) → side_fault_at ts side roots k ≡ Some cause → k < length roots
side_within ts side roots k cause here = by (slice_get roots k) refl here
  where
    by : (o : Option ℕ) → slice_get roots k ≡ o → option_and_then (root_fault ts side (take k roots)) o ≡ Some cause → k < length roots
    by None is here = cc
    by (Some r) is here = slice_get_within roots k r is

root_within : (flat : FlatExp) (n : ℕ) (cause : RootCause) → root_fault_at flat n ≡ Some cause → n < length flat.left + length flat.right
root_within flat n cause here = by (nat_lt n (length flat.left)) refl here
  where
    by : (b : Bool) → nat_lt n (length flat.left) ≡ b
        → cond b (side_fault_at (trees_of flat.nodes) Left flat.left n) (side_fault_at (trees_of flat.nodes) Right flat.right (n - length flat.left)) ≡ Some cause
        → n < length flat.left + length flat.right
    by true is here = let low = side_within (trees_of flat.nodes) Left flat.left n cause here in omega (arith, low)
    by false is here =
        let low = side_within (trees_of flat.nodes) Right flat.right (n - length flat.left) cause here in
        let least = ltb-false n (length flat.left) is in omega (arith, low, least)

-- a list without fault
whole : (n : ℕ) (x : Expansion) → total x ≤ n → within n x ≡ Ok x
whole n x few = ap (λ b. if b then Err fault.Budget else Ok x) (le-ltb n (total x) few)

too_large : (n : ℕ) (x : Expansion) → n < total x → within n x ≡ Err fault.Budget
too_large n x many = ap (λ b. if b then Err fault.Budget else Ok x) (below_test n (total x) many)

no_node : (flat : FlatExp) → IsWithoutNodeFault flat.nodes → node_fault_in flat ≡ None
no_node flat right = none_below (fault_at flat.nodes) (length flat.nodes) right

no_root : (flat : FlatExp) → IsWithoutRootFault flat → root_fault_in flat ≡ None
no_root flat right = none_below (root_fault_at flat) (length flat.left + length flat.right) right

without_fault : (flat : FlatExp) (n : ℕ) → IsWithoutFault flat → reading flat n ≡ within n (expansion_over flat)
without_fault flat n right = λ k. read_after (no_node flat right.nodes k) (no_root flat right.roots k) n (expansion_over flat)

-- what is read is the reading
pub read_exactly : (result : Result ExpSequent NodesFault) (flat : FlatExp) (n : ℕ) → Reads result flat n → IsReading result (reading flat n)
read_exactly (Ok e) flat n read = without_fault flat n read.0 ∙ whole n (expansion_over flat) read.2 ∙ ap Ok (sym read.1)
read_exactly (Err (fault.Node i cause)) flat n first =
    let found : node_fault_in flat ≡ Some (i, cause) = found_below (fault_at flat.nodes) (length flat.nodes) i cause (node_within flat.nodes i cause first.here) first.here first.before in
    ap (λ o. read_after o (root_fault_in flat) n (expansion_over flat)) found
read_exactly (Err (fault.Root i cause)) flat n read =
    let first = read.1 in
    let found : root_fault_in flat ≡ Some (i, cause) =
    found_below (root_fault_at flat) (length flat.left + length flat.right) i cause (root_within flat i cause first.here) first.here first.before in
    λ k. read_after (no_node flat read.0 k) (found k) n (expansion_over flat)
read_exactly (Err fault.Budget) flat n read = without_fault flat n read.0 ∙ too_large n (expansion_over flat) read.1
read_exactly (Err fault.Memory) flat n read = tt

-- a list that is read has no fault
last_two : {C : Type 0} (first : Option (ℕ × C)) (n : ℕ) (here : Option C) → earlier_or first n here ≡ None → (first ≡ None) × (here ≡ None)
last_two (Some f) n here none = cc
last_two None n (Some cause) none = cc
last_two None n None none = (refl, refl)

none_left : {C : Type 0} (faults : ℕ → Option C) (n : ℕ) → first_below faults n ≡ None → (j : ℕ) → j < n → faults j ≡ None
none_left faults zero none j low = absurd (omega arith)
none_left faults (suc n) none j low =
    let both = last_two (first_below faults n) n (faults n) none in
    elim (eq-or-lt_of_le {n = j} {m = n} (omega arith)) [
      | inl same ↦ ap faults same ∙ both.1
      | inr less ↦ none_left faults n both.0 j less
    ]

pub record IsRead (flat : FlatExp) (x : Expansion) : Type 0 where
  pub right : IsWithoutFault flat
  pub roots : x ≡ expansion_over flat

pub is_read : (flat : FlatExp) (n : ℕ) (x : Expansion) → reading flat n ≡ Ok x → IsRead flat x
is_read flat n x is = by (node_fault_in flat) (root_fault_in flat) refl refl is
  where
    same : (b : Bool) (y : Expansion) → cond b (Err fault.Budget) (Ok y) ≡ Ok x → x ≡ y
    same true y is = cc
    same false y is = cc

    by : (node : Option (ℕ × NodeCause)) (root : Option (ℕ × RootCause)) → node_fault_in flat ≡ node → root_fault_in flat ≡ root
        → read_after node root n (expansion_over flat) ≡ Ok x → IsRead flat x
    by (Some f) root nodes roots is = cc
    by None (Some f) nodes roots is = cc
    by None None nodes roots is = record {
      right = record {
        nodes = none_left (fault_at flat.nodes) (length flat.nodes) nodes;
        roots = none_left (root_fault_at flat) (length flat.left + length flat.right) roots;
      };
      roots = same (nat_lt n (total (expansion_over flat))) (expansion_over flat) is;
    }
