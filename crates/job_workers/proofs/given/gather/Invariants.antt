use Rattle.std.proofs.Common.{◌≡◌, ◌≤◌, map, take, length, vec_capacity}
use Rattle.std.specs.List.{All}
use Rattle.job_workers.specs.Needs.{AreGiven}
use Rattle.job_workers.specs.Records.{slot_at}
use Rattle.job_workers.proofs.given.gather.Given as goal

abbrev pub invariant-loop-need : goal.invariant-loop-need
invariant-loop-need g l =
    (length l.given.items ≡ l.need-index)
    × (length l.needs ≤ vec_capacity l.given)
    × AreGiven g.R.Runner.sense (slot_at l.slots) (take l.need-index l.needs) (map g.R.Runner.sense l.given.items)
    × All (g.R.Runner.HeldFits (g.R.Runner.home l.runner)) l.given.items
