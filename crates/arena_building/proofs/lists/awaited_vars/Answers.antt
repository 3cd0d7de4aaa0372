-- Where the first instance has a closed term, no variable matters.
use Rattle.std.proofs.Common.{sym}
use Rattle.arena_building.specs.Numbered.{trees}
use Rattle.arena_building.proofs.Beginnings.{closed_as_ready}
use Rattle.arena_building.proofs.lists.awaited_vars.Goals as goal

pub returns-then-begins_closed : goal.returns-then-begins_closed
returns-then-begins_closed c = closed_as_ready c.new.result _ (trees c.args.list.now) (sym c.if-begins_closed.ensures)
