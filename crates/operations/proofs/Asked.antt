-- What an operation came to is an answer to what it asks for.
use Rattle.std.proofs.Common.{List, refl, inl, subst}
use Rattle.std.specs.Prelude.{Option}
use Rattle.std.specs.List.{All}
use Rattle.proof_trees.specs.Trees.{IsValid}
use Rattle.proof_graph.specs.declared.graph.Graph.{Graph}
use Rattle.job_lang.specs.declared.jobs.Op.{Op}
use Rattle.reply_lines.specs.declared.replies.Outcome.{Outcome}
use Rattle.operation_laws.specs.Values.{Value}
use Rattle.operation_laws.specs.Answers.{Product, Answer, refused, failed, lacking, product, proofs_in, Asked, one, elimination, satisfiability, saturation, OrLacking, May}
use Rattle.operation_laws.specs.Running.{run}
use Rattle.operation_laws.specs.Claims.{Claims}
use Rattle.held_values.specs.Means.{IsAnswered, IsAnsweredTo}
use Rattle.operations.specs.declared.answers.Ran.{Ran}
use Rattle.operations.specs.Means.{Comes, ComesTo}
use Rattle.operations.specs.Claimed.{IsClaimedAnswer}

-- an answer may be answered where it is asked for
itself : (a : Answer) → OrLacking a a
itself (refused r) = refl
itself (failed f) = inl refl
itself lacking = refl
itself (product p) = inl refl

pub some_answer : (g : Graph) (r : Ran) (asked : Asked) → ComesTo g r asked → (a : Answer) × May asked a × Comes g r a
some_answer g r (one a) is = (a, itself a, is)
some_answer g r (elimination t) is = is
some_answer g r (satisfiability cs) is = is
some_answer g r (saturation cs n) is = is

pub answered_to : (outcome : Outcome) (meant : Option Value) (g : Graph) (r : Ran) (asked : Asked) → ((a : Answer) → Comes g r a → IsAnswered outcome meant a)
    → ComesTo g r asked → IsAnsweredTo outcome meant asked
answered_to outcome meant g r (one a) answered is = answered a is
answered_to outcome meant g r (elimination t) answered is = (is.0, is.1, answered is.0 is.2)
answered_to outcome meant g r (satisfiability cs) answered is = (is.0, is.1, answered is.0 is.2)
answered_to outcome meant g r (saturation cs n) answered is = (is.0, is.1, answered is.0 is.2)

-- what it came to is claimed, where that is claimed of each product that may be answered
pub claimed_to : (op : Op) (vs : List (Option Value)) (outcome : Outcome) (meant : Option Value) (g : Graph) (r : Ran) → ((a : Answer) → Comes g r a → IsAnswered outcome meant a)
    → ((made : Product) → May (run op vs) (product made) → Claims op vs made) → ((made : Product) → May (run op vs) (product made) → All IsValid (proofs_in made))
    → ComesTo g r (run op vs) → IsClaimedAnswer op vs outcome meant
claimed_to op vs outcome meant g r answered claims valid comes =
    let a = some_answer g r (run op vs) comes in
    record {
      answer = a.0;
      may = a.1;
      answered = answered a.0 a.2;
      claims = λ made is. claims made (subst (May (run op vs)) is a.1);
      valid = λ made is. valid made (subst (May (run op vs)) is a.1);
    }
