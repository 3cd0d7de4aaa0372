-- What a window needs may cross threads, and what comes of it is due for each job.
use denote.Param.Send.{sendable}
use Rattle.std.proofs.Common.{length, refl, sym, ap, ◌∙◌, arith}
use Rattle.std.specs.Prelude.{Some, slice_get}
use Rattle.std.proofs.lemmas.List.{length-map}
use Rattle.job_windows.specs.Windows.{due_by}
use Rattle.std.proofs.Crossing as std
use Rattle.cut_elim.proofs.Crossing as desk
use Rattle.job_lang.proofs.Crossing as jobs
use Rattle.held_values.proofs.Crossing as held
use Rattle.reply_lines.proofs.Crossing as replies
use Rattle.job_windows.proofs.Answering.{pending_after}
use Rattle.proof_server.proofs.running.run_behind.Goals as goal

pub run_window-requires-send-R-Job : goal.run_window-requires-send-R-Job
run_window-requires-send-R-Job g c κs within = search (sendable, jobs.crosses) depth 10

pub run_window-requires-send-R-Held : goal.run_window-requires-send-R-Held
run_window-requires-send-R-Held g c κs within = search (sendable, held.crosses) depth 10

pub run_window-requires-send-R-Reply : goal.run_window-requires-send-R-Reply
run_window-requires-send-R-Reply g c κs within = search (sendable, replies.crosses) depth 10

pub run_window-requires-send-R-Pass : goal.run_window-requires-send-R-Pass
run_window-requires-send-R-Pass g c κs within = search (sendable, desk.crosses) depth 10

pub run_window-requires-sync-R : goal.run_window-requires-sync-R
run_window-requires-sync-R g c κs within = search (sendable, std.crosses, desk.crosses) depth 20

pub run_window-requires-sync-R-Job : goal.run_window-requires-sync-R-Job
run_window-requires-sync-R-Job g c κs within = search (sendable, jobs.crosses) depth 10

pub run_window-requires-sync-R-Held : goal.run_window-requires-sync-R-Held
run_window-requires-sync-R-Held g c κs within = search (sendable, held.crosses) depth 10

pub returns-clause-due : goal.returns-clause-due
returns-clause-due g c = λ earlier lines gathered.
    pending_after c.args.desk.now c.args.store.now (record { pass = c.run_window.new.pass; names = c.args.store.now.names; held = c.reserve.new.self }) c.args.window earlier lines
    c.in_ok-answers.answers.items c.dues.result.items gathered c.in_ok-answers.ensures.pass refl c.in_ok-reserve.ensures.items
    (let room = c.in_ok-reserve.ensures.ok in omega (arith, room))
    c.in_ok-answers.ensures.answers c.in_ok-answers.ensures.length c.in_ok-answers.ensures.fits c.dues.ensures

pub returns-clause-length : goal.returns-clause-length
returns-clause-length g c =
    sym (length-map c.dues.result.items Some) ∙ sym (ap length c.dues.ensures) ∙ length-map c.args.window.seats.items (due_by (slice_get c.in_ok-answers.answers.items))
