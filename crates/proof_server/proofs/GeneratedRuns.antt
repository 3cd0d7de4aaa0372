-- How far a run over generated jobs has come, and what its counts are in the end.
use Rattle.std.proofs.Common.{◌≡◌, ℕ, ◌+◌, ◌≤◌, Bool, true, false, ◌||◌, List, [], ◌∷◌, ◌++◌, refl, sym, ap, ◌∙◌, subst, arith}
use Rattle.std.specs.Prelude.{Option}
use Rattle.std.specs.List.{All}
use Rattle.std.proofs.lemmas.List.Elements.{All-cons}
use Rattle.cut_elim.specs.declared.desk.Desk.{Desk}
use Rattle.edge_io.specs.Lines.{AreLines, lines_of}
use Rattle.edge_io.proofs.LinesLemmas.{lines_of_at}
use Rattle.job_gen.specs.Generated.{generated_line, generated}
use Rattle.job_gen.specs.PrintableLine.{IsPrintableLine}
use Rattle.session_laws.specs.Jobs.{jobs}
use Rattle.session_laws.specs.Answers.{Past, lacked, AreAllowed}
use Rattle.session_laws.specs.Claimed.{AreClaimed}
use Rattle.proof_server.specs.Generating.{AreCounts}
use Rattle.proof_server.specs.Turn.{seats_in, any_lacked, IsAt, WritesMore}
use Rattle.proof_server.specs.declared.session.Session.{Session}
use Rattle.proof_server.proofs.Turns.{jobs_of_job}
use Rattle.proof_server.proofs.Midway.{none_handed}
use Rattle.proof_server.proofs.Endings.{all_answered}
use Rattle.proof_server.proofs.GeneratedLines.{generated_is_job, printable_is_one_line, one_more_line, no_line, jobs_of_more}

-- the session has been handed the first i generated jobs
pub record IsCounting (desk : Desk) (i : ℕ) (session : Session) : Type 0 where
  pub asked : List (List ℕ)
  pub written : List ℕ
  pub lines : AreLines (generated i) asked
  pub all_jobs : jobs asked ≡ asked
  pub few : session.count + seats_in session ≤ i
  pub at : IsAt desk session asked written

pub start : (desk : Desk) (session : Session) → IsAt desk session [] [] → IsCounting desk 0 session
start desk session at = record {
  asked = [];
  written = [];
  lines = no_line;
  all_jobs = refl;
  few = omega (arith, none_handed desk session [] at);
  at = at;
}

-- one more job is taken in
pub go_on : (desk : Desk) (i : ℕ) (before after : Session) (so_far : IsCounting desk i before) → (line : IsPrintableLine (generated_line i)) (old new : Option (List ℕ))
    → WritesMore (IsAt desk after (so_far.asked ++ jobs (line.text ∷ []))) so_far.written old new
    → after.count + seats_in after ≤ before.count + seats_in before + 1 → IsCounting desk (i + 1) after
go_on desk i before after so_far line old new took few = record {
  asked = so_far.asked ++ line.text ∷ [];
  written = so_far.written ++ took.more;
  lines = one_more_line i line.text so_far.asked line.ends (printable_is_one_line line.text line.printable) so_far.lines;
  all_jobs = jobs_of_more so_far.asked line.text so_far.all_jobs (generated_is_job i line.text line.ends);
  few = let before = so_far.few in omega arith;
  at = subst (λ (more : List (List ℕ)). IsAt desk after (so_far.asked ++ more) (so_far.written ++ took.more)) (jobs_of_job line.text (generated_is_job i line.text line.ends)) took.holds;
}

-- where no job lacked memory each has it
all_ample : (done : List Past) → any_lacked done ≡ false → All (λ job. lacked job ≡ false) done
all_ample [] none = λ k d within. absurd (omega arith)
all_ample (job ∷ earlier) none =
    let parts = both (any_lacked earlier) (lacked job) none in
    All-cons (λ (job : Past). lacked job ≡ false) job earlier parts.1 (all_ample earlier parts.0)
  where
    both : (a b : Bool) → (a || b) ≡ false → (a ≡ false) × (b ≡ false)
    both false false is = (refl, refl)
    both true b is = cc
    both false true is = cc

-- where what each job makes is what its operation claims
pub all_counted : ((jobs : List Past) → AreAllowed jobs → AreClaimed jobs)
    → (desk : Desk) (n : ℕ) (before after : Session) (so_far : IsCounting desk n before) (old new : Option (List ℕ)) → WritesMore (IsAt desk after so_far.asked) so_far.written old new
    → seats_in after ≡ 0 → after.lacked ≡ false → AreCounts n after.counts
unfolding all_answered
all_counted all_claimed desk n before after so_far old new writes empty ample = record {
  bytes = so_far.written ++ writes.more;
  replies = all_answered all_claimed desk after so_far.asked (lines_of (generated n)) (so_far.written ++ writes.more) writes.holds empty
      (sym so_far.all_jobs ∙ ap jobs (sym (lines_of_at (generated n) so_far.asked so_far.lines)));
  ample = all_ample writes.holds.done (sym writes.holds.answered.lacked_is ∙ ample);
  counted = writes.holds.answered.counts;
}
