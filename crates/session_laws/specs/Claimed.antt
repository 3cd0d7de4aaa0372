-- What is claimed of what the jobs of a session make.
--     IsClaimed      a product is what the line's operation claims
--     AnswersClaimed      what holds of each job after others
use Rattle.std.specs.Prelude.{◌≡◌, ℕ, true, List, [], ◌∷◌, Some, Ok}
use Rattle.std.specs.List.{All}
use Rattle.proof_trees.specs.Trees.{IsValid}
use Rattle.job_lang.specs.declared.jobs.Op.{Op}
use Rattle.job_lang.specs.Jobs.{reads_job}
use Rattle.reply_lines.specs.Replies.{is_ok_outcome}
use Rattle.operation_laws.specs.Values.{Value, IsSound}
use Rattle.operation_laws.specs.Answers.{Product, product, proofs_in}
use Rattle.operation_laws.specs.Claims.{Claims}
use Rattle.session_laws.specs.Answers.{Past, Lookup, values_for, answered, held_of, outcome_of}

-- the line asks for an operation, the product is what this claims over the values that its names stand for, and each proof in it is valid
pub record IsClaimed (lookup : Lookup) (line : List ℕ) (made : Product) : Type 0 where
  pub op : Op
  pub reads : (reads_job line).op ≡ Ok op
  pub claims : Claims op (values_for lookup op) made
  pub valid : All IsValid (proofs_in made)

-- A job after earlier ones: what it made is what its operation claims, and where its reply is no error it made something.
pub record AnswersClaimed (earlier : List Past) (job : Past) : Type 0 where
  pub made : (p : Product) → job.came ≡ answered (product p) → IsClaimed (held_of earlier) job.line p
  pub shown : is_ok_outcome (outcome_of job.came) ≡ true → (p : Product) × (job.came ≡ answered (product p))

-- that of each of these jobs, after those before it
abbrev pub AreClaimed : List Past → Type 0
AreClaimed [] = Unit {0}
AreClaimed (job ∷ earlier) = AnswersClaimed earlier job × AreClaimed earlier

-- each value that a name stands for is sound: a proof is valid, and a problem is such as is read
abbrev pub HoldsSound : Lookup → Type 0
HoldsSound lookup = (q : List ℕ) (v : Value) → lookup q ≡ Some v → IsSound v
