-- What an extraction and a building make.
use Rattle.std.proofs.Common.{◌≡◌, ℕ, Bool, true, false, cond, List, Option, Result, Ok, Err, refl, subst}
use Rattle.std.specs.Prelude.{IfSome}
use Rattle.proof_trees.specs.Trees.{Tree, concl, IsValid}
use Rattle.expansion_laws.specs.Dependency.{Expansion}
use Rattle.expansion_laws.specs.Proofs.{shallow_sequent, IsExpansionProof}
use Rattle.extraction_laws.specs.declared.fault.ExtractFault.{ExtractFault}
use Rattle.extraction_laws.specs.declared.fault.ExtractFault.TheVariants as extraction
use Rattle.extraction_laws.specs.Extracting.{extracting}
use Rattle.building_laws.specs.declared.fault.BuildFault.{BuildFault}
use Rattle.building_laws.specs.declared.fault.BuildFault.TheVariants as construction
use Rattle.building_laws.specs.Budgets.{building, has_formed_trees}
use Rattle.operation_laws.specs.Values.{Value, IsSound}
use Rattle.operation_laws.specs.Answers.{Product, expansion, lacking, product}
use Rattle.operation_laws.specs.Given.{found, proof_given, expansion_given}
use Rattle.operation_laws.specs.Running.{over, extracted, built, builds}
use Rattle.operation_laws.specs.Claims.{AProof, AnExpansion, IsCutFreeProofOf}
use Rattle.operation_laws.proofs.Making.{found_valid, found_expansion, over_made, this_proof}

-- what is extracted from a valid proof
abbrev pub ExtractsRightly : Type 0
ExtractsRightly = (t : Tree) (n : ℕ) (x : Expansion) → IsValid t → extracting t n ≡ Ok x → IsExpansionProof x (concl t)

-- what is built of an expansion proof
abbrev pub BuildsRightly : Type 0
BuildsRightly = (x : Expansion) (n : ℕ) (t : Tree) → IsExpansionProof x (shallow_sequent x) → has_formed_trees x ≡ true → building x n ≡ Ok t → IsCutFreeProofOf t (shallow_sequent x)

module _ (rightly : ExtractsRightly) (of : List ℕ) (n : ℕ) where
  extracted_by : (t : Tree) (made : Product) (r : Result Expansion ExtractFault) → IsValid t → extracting t n ≡ r → extracted r ≡ product made
      → AnExpansion made (λ x. IsExpansionProof x (concl t))
  extracted_by t made (Ok x) valid by is =
      let same : expansion x ≡ made = cc in subst (λ p. AnExpansion p (λ x. IsExpansionProof x (concl t))) same (rightly t n x valid by)
  extracted_by t made (Err (extraction.Cut step)) valid by is = cc
  extracted_by t made (Err (extraction.Defined f side)) valid by is = cc
  extracted_by t made (Err extraction.Budget) valid by is = cc
  extracted_by t made (Err extraction.Memory) valid by is = cc

  pub expand_made : (v : Option Value) (made : Product) → IfSome v IsSound → over (proof_given of v) (λ t. extracted (extracting t n)) ≡ product made
      → (t : Tree) × (proof_given of v ≡ found t) × AnExpansion made (λ x. IsExpansionProof x (concl t))
  expand_made v made sound is =
      let given = over_made (proof_given of v) (λ t. extracted (extracting t n)) made is in
      (given.0, given.1, extracted_by given.0 made (extracting given.0 n) (found_valid of v given.0 sound given.1) refl given.2)

module _ (rightly : BuildsRightly) (of : List ℕ) (n : ℕ) where
  built_by : (x : Expansion) (made : Product) (r : Result Tree BuildFault) → IsExpansionProof x (shallow_sequent x) → has_formed_trees x ≡ true → building x n ≡ r
      → built r ≡ product made → AProof made (λ t. IsCutFreeProofOf t (shallow_sequent x))
  built_by x made (Ok t) proof formed by is = this_proof t made _ is (rightly x n t proof formed by)
  built_by x made (Err construction.Budget) proof formed by is = cc
  built_by x made (Err construction.Memory) proof formed by is = cc

  builds_by : (x : Expansion) (made : Product) (b : Bool) → IsExpansionProof x (shallow_sequent x) → has_formed_trees x ≡ b
      → cond b (built (building x n)) lacking ≡ product made → AProof made (λ t. IsCutFreeProofOf t (shallow_sequent x))
  builds_by x made true proof formed is = built_by x made (building x n) proof formed refl is
  builds_by x made false proof formed is = cc

  pub fromexp_made : (v : Option Value) (made : Product) → IfSome v IsSound → over (expansion_given of v) (λ x. builds x n) ≡ product made
      → (x : Expansion) × (expansion_given of v ≡ found x) × AProof made (λ t. IsCutFreeProofOf t (shallow_sequent x))
  fromexp_made v made sound is =
      let given = over_made (expansion_given of v) (λ x. builds x n) made is in
      (given.0, given.1, builds_by given.0 made (has_formed_trees given.0) (found_expansion of v given.0 sound given.1) refl given.2)
