use Rattle.std.proofs.Common.{◌≡◌, true, List, [], ◌∷◌, ◌++◌, ℕ, sym, ◌∙◌, subst, arith}
use Rattle.std.proofs.KnownBytes.{Appends-nil}
use Rattle.cut_elim.specs.Desks.{IsDeskPassOf}
use Rattle.session_laws.specs.Jobs.{is_job, jobs}
use Rattle.proof_server.specs.Turn.{IsAt, AreInPart}
use Rattle.proof_server.proofs.Turns.{at_in_part, in_part_of_more, writes_none, jobs_of_job, goes_blank, goes_job, few_run, room_after_run}
use Rattle.proof_server.proofs.session.Session.take.Goals as goal

pub run-requires-clause-room : goal.run-requires-clause-room
run-requires-clause-room g c κs within = omega (arith, c.requires.room)

pub returns-then-not-is_job-clause-takes : goal.returns-then-not-is_job-clause-takes
returns-then-not-is_job-clause-takes g c = λ asked written text at kept.
    goes_blank c.args.desk.now c.run.result c.run.new.self asked text written _ _ _ _ (sym (c.is_job.ensures text kept) ∙ c.if-not-is_job.true) (c.run.ensures.goes asked written at)

pub returns-then-not-is_job-clause-few : goal.returns-then-not-is_job-clause-few
returns-then-not-is_job-clause-few g c = few_run c.run.result _ _ _ _ c.run.ensures.few c.run.ensures.empty (omega arith)

pub returns-then-not-is_job-clause-window : goal.returns-then-not-is_job-clause-window
returns-then-not-is_job-clause-window g c = room_after_run c.run.result _ c.run.ensures.empty

pub returns-then-not-is_job-clause-answered : goal.returns-then-not-is_job-clause-answered
returns-then-not-is_job-clause-answered g c = λ text kept blank. c.run.ensures.empty

pub run-requires-in-Ok-true-clause-room : goal.run-requires-in-Ok-true-clause-room
run-requires-in-Ok-true-clause-room g c κs within = omega (arith, c.in-Ok-true.ensures.few, c.requires.room)

pub run-requires-in-Ok-true-clause-at : goal.run-requires-in-Ok-true-clause-at
run-requires-in-Ok-true-clause-at g c κs within =
    let at = c.requires.at in
    let kept = c.requires.kept in
    (at.0 ++ kept.0 ∷ [], at.1, c.in-Ok-true.ensures.at c.args.desk.now at.0 at.1 kept.0 at.2 kept.1)

pub returns-in-Ok-true-clause-takes : goal.returns-in-Ok-true-clause-takes
returns-in-Ok-true-clause-takes g c = λ asked written text at kept.
    let run = c.run-in-Ok-true in
    goes_job c.args.desk.now run.result run.new.self asked text written _ _ _ _ (sym (c.is_job.ensures text kept) ∙ c.if-not-is_job.false)
    (run.ensures.goes (asked ++ text ∷ []) written (c.in-Ok-true.ensures.at c.args.desk.now asked written text at kept))

pub returns-in-Ok-true-clause-few : goal.returns-in-Ok-true-clause-few
returns-in-Ok-true-clause-few g c =
    let run = c.run-in-Ok-true in
    few_run run.result _ _ _ _ run.ensures.few run.ensures.empty c.in-Ok-true.ensures.few

pub returns-in-Ok-true-clause-window : goal.returns-in-Ok-true-clause-window
returns-in-Ok-true-clause-window g c = room_after_run c.run-in-Ok-true.result _ c.run-in-Ok-true.ensures.empty

pub returns-in-Ok-true-clause-answered : goal.returns-in-Ok-true-clause-answered
returns-in-Ok-true-clause-answered g c = λ text kept blank. c.run-in-Ok-true.ensures.empty

pub returns-in-Ok-false-clause-takes : goal.returns-in-Ok-false-clause-takes
returns-in-Ok-false-clause-takes g c = λ asked written text at kept.
    writes_none (IsAt c.args.desk.now c.gather.new.self (asked ++ jobs (text ∷ []))) written _ _ (Appends-nil _)
    (subst (λ (more : List (List ℕ)). IsAt c.args.desk.now c.gather.new.self (asked ++ more) written) (sym (jobs_of_job text (sym (c.is_job.ensures text kept) ∙ c.if-not-is_job.false)))
    (c.in-Ok-false.ensures.at c.args.desk.now asked written text at kept))

pub returns-in-Ok-false-clause-flushed : goal.returns-in-Ok-false-clause-flushed
returns-in-Ok-false-clause-flushed g c = λ text kept blank.
    let job : is_job text ≡ true = sym (c.is_job.ensures text kept) ∙ c.if-not-is_job.false in
    cc

pub returns-in-Ok-false-clause-answered : goal.returns-in-Ok-false-clause-answered
returns-in-Ok-false-clause-answered g c = λ text kept blank.
    let job : is_job text ≡ true = sym (c.is_job.ensures text kept) ∙ c.if-not-is_job.false in
    cc

pub returns-in-Err-clause-takes : goal.returns-in-Err-clause-takes
returns-in-Err-clause-takes g c = λ asked written text at kept.
    writes_none (AreInPart (asked ++ jobs (text ∷ []))) written _ _ (Appends-nil _) (in_part_of_more asked (jobs (text ∷ [])) written (at_in_part c.args.desk.now c.args.self.now asked written at))

pub returns-in-Ok-false-clause-pass : goal.returns-in-Ok-false-clause-pass
returns-in-Ok-false-clause-pass g c = subst (IsDeskPassOf c.args.desk.now) (sym c.gather.ensures.pass) c.requires.at.2.gathered.holds.pass

pub returns-in-Err-clause-pass : goal.returns-in-Err-clause-pass
returns-in-Err-clause-pass g c = subst (IsDeskPassOf c.args.desk.now) (sym c.gather.ensures.pass) c.requires.at.2.gathered.holds.pass
