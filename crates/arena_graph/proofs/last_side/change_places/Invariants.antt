-- The places follow the changes so far.
use Rattle.std.proofs.Common.{take}
use Rattle.arena_graph.specs.LastSide.{DoFollow}
use Rattle.arena_graph.proofs.last_side.change_places.Given as goal

abbrev pub invariant-loop-number : goal.invariant-loop-number
invariant-loop-number l = DoFollow l.arena l.ranks.entries.items (take l.number-index l.changes) l.fn.places.items l.places.items
