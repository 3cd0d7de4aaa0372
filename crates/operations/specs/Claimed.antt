-- What is claimed of what an operation is answered.
use Rattle.std.specs.Prelude.{◌≡◌, List, Option}
use Rattle.std.specs.List.{All}
use Rattle.proof_trees.specs.Trees.{IsValid}
use Rattle.job_lang.specs.declared.jobs.Op.{Op}
use Rattle.reply_lines.specs.declared.replies.Outcome.{Outcome}
use Rattle.operation_laws.specs.Values.{Value}
use Rattle.operation_laws.specs.Answers.{Product, Answer, product, proofs_in, May}
use Rattle.operation_laws.specs.Running.{run}
use Rattle.operation_laws.specs.Claims.{Claims}
use Rattle.held_values.specs.Means.{IsAnswered}

-- an outcome and what a value means are an answer that the operation may have; if that is a product, it is what the operation claims, and
-- each proof in it is valid
pub record IsClaimedAnswer (op : Op) (vs : List (Option Value)) (outcome : Outcome) (meant : Option Value) : Type 0 where
  pub answer : Answer
  pub may : May (run op vs) answer
  pub answered : IsAnswered outcome meant answer
  pub claims : (made : Product) → answer ≡ product made → Claims op vs made
  pub valid : (made : Product) → answer ≡ product made → All IsValid (proofs_in made)
