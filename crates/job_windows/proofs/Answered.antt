-- What is answered to an operation, said of what its value means.
use Rattle.std.proofs.Common.{◌≡◌, ◌⊎◌, refl, sym, subst, inl, inr}
use Rattle.std.specs.Prelude.{ℕ, List, Some}
use Rattle.proof_trees.specs.Trees.{Tree}
use Rattle.refutations.specs.declared.clause.Clause.{Clause}
use Rattle.reply_lines.specs.declared.replies.Outcome.{Outcome}
use Rattle.operation_laws.specs.Values.{refused}
use Rattle.operation_laws.specs.Answers.{Answer, OrLacking, Asked, one, elimination, satisfiability, saturation, May}
use Rattle.operation_laws.specs.Answers as answers
use Rattle.held_values.specs.declared.held.Held.{Held}
use Rattle.held_values.specs.declared.held.Held.TheVariants as held
use Rattle.held_values.specs.Means.{sense, IsAnswered, IsAnsweredTo}
use Rattle.session_laws.specs.Answers.{Request, an_operation, Came, answered, IsAllowed}
use Rattle.job_windows.specs.Running.{IsConclusion, IsUnnamed}

-- which values mean a refusal
refused_is : (h : Held) → sense h ≡ Some refused → h ≡ held.Refused
refused_is held.Nothing is = cc
refused_is held.Refused is = refl
refused_is held.Unheld is = cc
refused_is held.Unknown is = cc
refused_is (held.Proof r) is = cc
refused_is (held.Refutation r) is = cc
refused_is (held.Pair r s) is = cc
refused_is (held.Problem p) is = cc
refused_is (held.Expansion e) is = cc
refused_is (held.Definition p) is = cc

-- what is answered is what a line came to that may come to it, unless there was no memory for the name that a refusal shows
module _ (outcome : Outcome) (h : Held) (r : Request) where
  concluded_as : (a : Answer) → ((b : Answer) → OrLacking a b → IsAllowed r (answered b)) → IsAnswered outcome (sense h) a
      → IsUnnamed outcome h ⊎ ((came : Came) × IsConclusion outcome h r came)
  concluded_as (answers.refused f) may (inl is) = inr (answered (answers.refused f), record { allowed = may (answers.refused f) refl; outcome_is = is.0; means = is.1 })
  concluded_as (answers.refused f) may (inr is) = inl (is.1.0, refused_is h is.1.1)
  concluded_as (answers.failed f) may (inl is) = inr (answered (answers.failed f), record { allowed = may (answers.failed f) (inl refl); outcome_is = is.0; means = is.1 })
  concluded_as (answers.failed f) may (inr is) = inr (answered answers.lacking, record { allowed = may answers.lacking (inr refl); outcome_is = is.0; means = is.1 })
  concluded_as answers.lacking may is = inr (answered answers.lacking, record { allowed = may answers.lacking refl; outcome_is = is.0; means = is.1 })
  concluded_as (answers.product p) may (inl is) = inr (answered (answers.product p), record { allowed = may (answers.product p) (inl refl); outcome_is = is.0; means = is.1 })
  concluded_as (answers.product p) may (inr is) = inr (answered answers.lacking, record { allowed = may answers.lacking (inr refl); outcome_is = is.0; means = is.1 })

-- what may be answered in place of an answer is that or want of memory
or_lacking : (a b : Answer) → OrLacking a b → (b ≡ a) ⊎ (b ≡ answers.lacking)
or_lacking (answers.refused r) b is = inl is
or_lacking (answers.failed f) b is = is
or_lacking answers.lacking b is = inr is
or_lacking (answers.product p) b is = is

reached_or_lacking : (t : Tree) (a b : Answer) → May (elimination t) a → (b ≡ a) ⊎ (b ≡ answers.lacking) → May (elimination t) b
reached_or_lacking t a b may (inl is) = subst (May (elimination t)) (sym is) may
reached_or_lacking t a b may (inr is) = inr is

solved_or_lacking : (cs : List Clause) (a b : Answer) → May (satisfiability cs) a → (b ≡ a) ⊎ (b ≡ answers.lacking) → May (satisfiability cs) b
solved_or_lacking cs a b may (inl is) = subst (May (satisfiability cs)) (sym is) may
solved_or_lacking cs a b may (inr is) = inr (inr is)

ended_or_lacking : (cs : List Clause) (n : ℕ) (a b : Answer) → May (saturation cs n) a → (b ≡ a) ⊎ (b ≡ answers.lacking) → May (saturation cs n) b
ended_or_lacking cs n a b may (inl is) = subst (May (saturation cs n)) (sym is) may
ended_or_lacking cs n a b may (inr is) = inr (inr (inr is))

pub concluded : (outcome : Outcome) (h : Held) (asked : Asked) → IsAnsweredTo outcome (sense h) asked
    → IsUnnamed outcome h ⊎ ((came : Came) × IsConclusion outcome h (an_operation asked) came)
concluded outcome h (one a) is = concluded_as outcome h (an_operation (one a)) a (λ b may. may) is
concluded outcome h (elimination t) is =
    concluded_as outcome h (an_operation (elimination t)) is.0 (λ b may. reached_or_lacking t is.0 b is.1 (or_lacking is.0 b may)) is.2
concluded outcome h (satisfiability cs) is =
    concluded_as outcome h (an_operation (satisfiability cs)) is.0 (λ b may. solved_or_lacking cs is.0 b is.1 (or_lacking is.0 b may)) is.2
concluded outcome h (saturation cs n) is =
    concluded_as outcome h (an_operation (saturation cs n)) is.0 (λ b may. ended_or_lacking cs n is.0 b is.1 (or_lacking is.0 b may)) is.2
