use Rattle.std.proofs.Common.{length, sym, ap, ◌∙◌, subst, arith}
use Rattle.std.proofs.KnownBytes.{Appends-nil}
use Rattle.cut_elim.specs.Desks.{IsDeskPassOf}
use Rattle.job_windows.specs.declared.seats.Window.{Window}
use Rattle.proof_server.specs.Turn.{AreInPart}
use Rattle.proof_server.proofs.Turns.{at_in_part, writes_none, stops_so, goes_flushed, on_ok}
use Rattle.proof_server.proofs.session.Session.run.Goals as goal

pub write_all-requires-clause-room : goal.write_all-requires-clause-room
write_all-requires-clause-room g c = omega (arith, c.in-Ok.ensures.count, c.in-Ok.ensures.length, c.requires.room)

pub write_all-requires-clause-writing : goal.write_all-requires-clause-writing
write_all-requires-clause-writing g c =
    let at = c.requires.at in
    (c.args.desk.now, at.0, at.1, c.in-Ok.ensures.writing at.0 at.1 at.2)

pub returns-in-Err-clause-goes : goal.returns-in-Err-clause-goes
returns-in-Err-clause-goes g c = λ asked written at.
    writes_none (AreInPart asked) written _ _ (Appends-nil _) (at_in_part c.args.desk.now c.args.self.now asked written at)

pub returns-in-Err-write_all-clause-goes : goal.returns-in-Err-write_all-clause-goes
returns-in-Err-write_all-clause-goes g c = λ asked written at.
    stops_so c.args.desk.now c.in-Err-write_all.stop c.write_all.new.self c.write_all.new.self asked written _ _ _ _
    (c.in-Err-write_all.ensures.writes c.args.desk.now asked written (c.in-Ok.ensures.writing asked written at))

pub returns-clause-goes : goal.returns-clause-goes
returns-clause-goes g c = λ asked written at.
    let window = c.in-Ok-write_all.ensures.window in
    goes_flushed c.args.desk.now c.flush.result c.write_all.new.self asked written _ _ _ _ _ _
    (ap (λ (w : Window). w.seats.items) window ∙ c.in-Ok.ensures.empty.0) (ap (λ (w : Window). w.tasks.items) window ∙ c.in-Ok.ensures.empty.1)
    c.in-Ok-write_all.ensures.faults c.flush.ensures.failed
    (c.in-Ok-write_all.ensures.writes c.args.desk.now asked written (c.in-Ok.ensures.writing asked written at)) c.flush.ensures.bytes

pub returns-clause-empty : goal.returns-clause-empty
returns-clause-empty g c =
    on_ok c.flush.result (ap (λ (w : Window). length w.seats.items) c.in-Ok-write_all.ensures.window ∙ ap length c.in-Ok.ensures.empty.0)

pub returns-clause-few : goal.returns-clause-few
returns-clause-few g c = on_ok c.flush.result (omega (arith, c.in-Ok-write_all.ensures.few, c.in-Ok.ensures.count, c.in-Ok.ensures.length))

pub returns-in-Err-write_all-clause-pass : goal.returns-in-Err-write_all-clause-pass
returns-in-Err-write_all-clause-pass g c = subst (IsDeskPassOf c.args.desk.now) (sym c.write_all.ensures.pass) c.run_jobs.ensures.pass

pub returns-clause-pass : goal.returns-clause-pass
returns-clause-pass g c = subst (IsDeskPassOf c.args.desk.now) (sym c.write_all.ensures.pass) c.run_jobs.ensures.pass
