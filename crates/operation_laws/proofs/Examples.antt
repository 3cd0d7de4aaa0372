-- Worked examples of what operations come to, over values that refuse them.
use Rattle.std.proofs.Common.{◌≡◌, [], ◌∷◌, codes, Some, None, refl}
use Rattle.proof_trees.specs.Trees.{Tree}
use Rattle.job_lang.specs.declared.jobs.Op.TheVariants.{Show, Proves}
use Rattle.operation_laws.specs.declared.refusals.Refusal.TheVariants.{UnknownName, Kind}
use Rattle.operation_laws.specs.Values.{nothing, proof, pair, lacking as lacked}
use Rattle.operation_laws.specs.Answers.{refused, lacking, one}
use Rattle.operation_laws.specs.Given.{base_name, missing, found, of_proof, proof_given, shown_given}
use Rattle.operation_laws.specs.Running.{run}

-- no earlier job has the name, or the one that has it holds nothing of use
no_job : run (Show (codes "a")) (None ∷ []) ≡ one (refused (UnknownName (codes "a")))
no_job = refl

no_proof : run (Show (codes "a")) (Some nothing ∷ []) ≡ one (refused (Kind (codes "a")))
no_proof = refl

-- the fault of the first name comes before that of the second, and want of memory comes after both
first_fault : run (Proves (codes "a") (codes "b")) (Some nothing ∷ None ∷ []) ≡ one (refused (Kind (codes "a")))
first_fault = refl

second_fault : run (Proves (codes "a") (codes "b")) (Some lacked ∷ None ∷ []) ≡ one (refused (UnknownName (codes "b")))
second_fault = refl

want : run (Proves (codes "a") (codes "b")) (Some lacked ∷ Some lacked ∷ []) ≡ one lacking
want = refl

-- a name with a suffix is about the pair's job, and only the last suffix counts
of_pair : base_name (codes "a.second") ≡ codes "a"
of_pair = refl

of_suffixes : base_name (codes "a.first.second") ≡ codes "a.first"
of_suffixes = refl

-- it stands for a proof of the pair, and nothing else has such a name
module _ (t u : Tree) where
  first_proof : proof_given (codes "a.first") (Some (pair t u)) ≡ found t
  first_proof = refl

  second_proof : proof_given (codes "a.second") (Some (pair t u)) ≡ found u
  second_proof = refl

  whole_pair : proof_given (codes "a") (Some (pair t u)) ≡ missing (Kind (codes "a"))
  whole_pair = refl

  shown_of_pair : shown_given (codes "a.second") (Some (pair t u)) ≡ found (of_proof u)
  shown_of_pair = refl

  first_of_proof : proof_given (codes "a.first") (Some (proof t)) ≡ missing (Kind (codes "a.first"))
  first_of_proof = refl

no_pair : run (Show (codes "a.first")) (Some nothing ∷ []) ≡ one (refused (Kind (codes "a.first")))
no_pair = refl
