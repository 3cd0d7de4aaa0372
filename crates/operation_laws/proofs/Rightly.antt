-- What the laws of the crates below say of what is made.
use Rattle.std.proofs.Common.{◌≡◌, ℕ, true, Ok}
use Rattle.proof_trees.specs.Trees.{Tree, concl, IsValid, IsCutFree}
use Rattle.expansion_laws.specs.Dependency.{Expansion}
use Rattle.expansion_laws.specs.Proofs.{shallow_sequent, IsExpansionProof}
use Rattle.exp_tree.specs.declared.flat.FlatExp.{FlatExp}
use Rattle.exp_tree.specs.Roots.{expansion_over}
use Rattle.exp_tree.specs.FlatReading.{AreRight, reading}
use Rattle.building_laws.specs.Budgets.{building, has_formed_trees}
use Rattle.operation_laws.proofs.Making.{ReadsRightly, ChecksRightly}
use Rattle.operation_laws.proofs.Interpolated.{InterpolatesRightly}
use Rattle.operation_laws.proofs.Trees.{ExtractsRightly, BuildsRightly}
use Rattle.operation_laws.proofs.Introduced.{InstancesRightly, IntroducesRightly}
use Rattle.operation_laws.proofs.Defined.{MarksRightly, DefinesRightly, UnfoldsRightly}

pub record WorksRightly : Type 0 where
  pub reads : ReadsRightly
  pub checks : ChecksRightly
  pub extracts : ExtractsRightly
  pub builds : BuildsRightly
  pub interpolates : InterpolatesRightly
  pub instances : InstancesRightly
  pub introduces : IntroducesRightly
  pub marks : MarksRightly
  pub defines : DefinesRightly
  pub unfolds : UnfoldsRightly

-- of what is read of flat lists
abbrev OfRead : (FlatExp → Expansion → Type 0) → Type 0
OfRead P = (flat : FlatExp) (n : ℕ) (x : Expansion) → reading flat n ≡ Ok x → P flat x

-- of what is built of expansion proofs
abbrev OfBuilt : (Expansion → Tree → Type 0) → Type 0
OfBuilt P = (x : Expansion) (n : ℕ) (t : Tree) → IsExpansionProof x (shallow_sequent x) → has_formed_trees x ≡ true → building x n ≡ Ok t → P x t

-- from the laws one by one
pub works_rightly : OfRead (λ flat x. x ≡ expansion_over flat) → OfRead (λ flat x. AreRight x) → ChecksRightly → ExtractsRightly → OfBuilt (λ x t. IsValid t)
    → OfBuilt (λ x t. concl t ≡ shallow_sequent x) → OfBuilt (λ x t. IsCutFree t) → InterpolatesRightly → InstancesRightly → IntroducesRightly → MarksRightly → DefinesRightly → UnfoldsRightly
    → WorksRightly
works_rightly roots right checks extracts valid ends cut_free interpolates instances introduces marks defines unfolds = record {
  reads = λ flat n x read. (roots flat n x read, right flat n x read);
  checks = checks;
  extracts = extracts;
  builds = λ x n t proof formed is. record {
    right = record { valid = valid x n t proof formed is; ends = ends x n t proof formed is };
    cut_free = cut_free x n t proof formed is;
  };
  interpolates = interpolates;
  instances = instances;
  introduces = introduces;
  marks = marks;
  defines = defines;
  unfolds = unfolds;
}
