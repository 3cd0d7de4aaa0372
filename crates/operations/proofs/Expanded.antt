-- What is read and checked of expansion trees decides what the operation comes to.
use Rattle.std.proofs.Common.{◌≡◌, ℕ, ◌<◌, Result, Ok, Err, sym, subst, arith}
use Rattle.std.specs.Prelude.{◌^◌}
use Rattle.std.proofs.lemmas.List.Sums.{list_all-from_AllPass}
use Rattle.lk_rules.specs.declared.sequent.Side.TheVariants.{Left, Right}
use Rattle.proof_graph.specs.declared.graph.Graph.{Graph}
use Rattle.expansion_laws.specs.Dependency.{Expansion}
use Rattle.expansion_laws.specs.Proofs.{stands, shallow_sequent, IsExpansionProof}
use Rattle.exp_tree.specs.Reads.{expansion_of, StandsRightly}
use Rattle.exp_tree.specs.declared.flat.NodesFault.{NodesFault}
use Rattle.exp_tree.specs.declared.flat.NodesFault.TheVariants as reading_faults
use Rattle.exp_tree.specs.declared.sequents.ExpSequent.{ExpSequent}
use Rattle.expansion_laws.specs.declared.fault.ExpFault.{ExpFault}
use Rattle.expansion_laws.specs.declared.fault.ExpFault.TheVariants as checks
use Rattle.expansion_laws.specs.Checking.{checking}
use Rattle.operations.specs.declared.answers.Ran.{Ran}
use Rattle.operations.specs.declared.answers.Ran.TheVariants as ran
use Rattle.operation_laws.specs.Answers.{expansion, product, capped}
use Rattle.operation_laws.specs.Running.{checked, reads}
use Rattle.operations.specs.Means.{Comes}

-- a number of 64 bits isn't cut off
pub few_capped : (n : ℕ) → n < 2 ^ 64 → n ≡ capped n
few_capped n few = omega (arith, few)

-- the trees of an expansion proof stand on their sides
pub proof_stands : (e : ExpSequent) → IsExpansionProof (expansion_of e) (shallow_sequent (expansion_of e)) → StandsRightly e
proof_stands e proof = record {
  left = list_all-from_AllPass (stands Left) e.left proof.stand_left;
  right = list_all-from_AllPass (stands Right) e.right proof.stand_right;
}

-- the check of trees
pub check_gives : (g : Graph) (r : Ran) (x : Expansion) (wanted : Result Expansion ExpFault) → wanted ≡ Ok x → Comes g r (product (expansion x)) → Comes g r (checked wanted)
check_gives g r x wanted is comes = subst (λ (w : Result Expansion ExpFault). Comes g r (checked w)) (sym is) comes

pub check_fails : (g : Graph) (r : Ran) (fault : ExpFault) (wanted : Result Expansion ExpFault) → wanted ≡ Err fault → Comes g r (checked (Err fault)) → Comes g r (checked wanted)
check_fails g r fault wanted is comes = subst (λ (w : Result Expansion ExpFault). Comes g r (checked w)) (sym is) comes

pub check_lacks : (g : Graph) (wanted : Result Expansion ExpFault) → Comes g ran.Lacking (checked wanted)
check_lacks g (Ok x) = tt
check_lacks g (Err (checks.EigenTwice v)) = tt
check_lacks g (Err (checks.EigenFree v)) = tt
check_lacks g (Err (checks.Cycle vs)) = tt
check_lacks g (Err (checks.Falsified a)) = tt
check_lacks g (Err checks.Budget) = tt
check_lacks g (Err checks.Memory) = tt

-- the reading of a flat list
pub read_gives : (g : Graph) (r : Ran) (x : Expansion) (n : ℕ) (wanted : Result Expansion NodesFault) → wanted ≡ Ok x → Comes g r (checked (checking x n)) → Comes g r (reads wanted n)
read_gives g r x n wanted is comes = subst (λ (w : Result Expansion NodesFault). Comes g r (reads w n)) (sym is) comes

pub read_fails : (g : Graph) (r : Ran) (n : ℕ) (fault : NodesFault) (wanted : Result Expansion NodesFault) → wanted ≡ Err fault → Comes g r (reads (Err fault) n) → Comes g r (reads wanted n)
read_fails g r n fault wanted is comes = subst (λ (w : Result Expansion NodesFault). Comes g r (reads w n)) (sym is) comes

pub read_lacks : (g : Graph) (n : ℕ) (wanted : Result Expansion NodesFault) → Comes g ran.Lacking (reads wanted n)
read_lacks g n (Ok x) = check_lacks g (checking x n)
read_lacks g n (Err (reading_faults.Node i cause)) = tt
read_lacks g n (Err (reading_faults.Root i cause)) = tt
read_lacks g n (Err reading_faults.Budget) = tt
read_lacks g n (Err reading_faults.Memory) = tt
