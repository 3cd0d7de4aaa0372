-- What checked expansion trees name is well formed.
use Rattle.std.specs.Cmp.Derive.{both_true}
use Rattle.std.proofs.lemmas.List.Sums.{list_all-from_AllPass}
use Rattle.fol.specs.Formed.{is_formed}
use Rattle.proof_trees.specs.Conclusions.{IsFormedSequent}
use Rattle.expansion_laws.specs.Proofs.{shallow_sequent, IsExpansionProof}
use Rattle.exp_tree.specs.Sequents.{AreArranged}
use Rattle.exp_tree.specs.Reads.{expansion_of}
use Rattle.exp_tree.specs.declared.sequents.ExpSequent.{ExpSequent}
use Rattle.building_laws.specs.Buildable.{IsFormedExpansion}
use Rattle.building_laws.proofs.FormedTrees.{formed_proof}

pub formed_expansion : (x : ExpSequent) → IsExpansionProof (expansion_of x) (shallow_sequent (expansion_of x)) → AreArranged x.left → AreArranged x.right
    → IsFormedExpansion (expansion_of x) (shallow_sequent (expansion_of x))
formed_expansion x proof h k = formed_proof (expansion_of x) proof (both_true h.formed k.formed)

pub formed_sequent : (x : ExpSequent) → IsFormedExpansion (expansion_of x) (shallow_sequent (expansion_of x)) → IsFormedSequent (shallow_sequent (expansion_of x))
formed_sequent x formed = record {
  left = list_all-from_AllPass is_formed _ formed.formulas_left;
  right = list_all-from_AllPass is_formed _ formed.formulas_right;
}
