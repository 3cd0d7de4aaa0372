-- The parts are a window, what it needs may cross threads, and its answers are what became of the parts.
use denote.Param.Send.{sendable}
use Rattle.std.proofs.Crossing as std
use Rattle.cut_elim.proofs.Crossing as desk
use Rattle.proof_server.proofs.Served.{parts_window, parts_served}
use Rattle.proof_server.proofs.parts.run_parts.Goals as goal

pub run_window-answers-requires-clause-window : goal.run_window-answers-requires-clause-window
run_window-answers-requires-clause-window g c κs within =
    parts_window c.in_ok-tasks.tasks.items c.args.parts.items c.in_ok-tasks.ensures.jobs c.in_ok-tasks.ensures.needs c.requires

pub returns : goal.returns
returns g c =
    parts_served c.in_ok-tasks.tasks.items c.args.parts.items c.in_ok-answers.field-0.items c.dones_of.result.items c.in_ok-tasks.ensures.jobs
    c.in_ok-answers.ensures.length c.in_ok-answers.ensures.answers c.dones_of.ensures

pub run_window-answers-requires-send-R-Pass : goal.run_window-answers-requires-send-R-Pass
run_window-answers-requires-send-R-Pass g c κs within = search (sendable, desk.crosses) depth 10

pub run_window-answers-requires-sync-R : goal.run_window-answers-requires-sync-R
run_window-answers-requires-sync-R g c κs within = search (sendable, std.crosses, desk.crosses) depth 20
