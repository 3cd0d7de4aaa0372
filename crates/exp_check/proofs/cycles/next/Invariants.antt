use Rattle.std.proofs.Common.{◌≡◌, ◌&&◌, eqb, length, take, get_or}
use Rattle.std.specs.List.{find, range_with_len}
use Rattle.exp_check.specs.Links.{has_link}
use Rattle.exp_check.proofs.cycles.next.Given as goal

abbrev pub invariant-loop-link : goal.invariant-loop-link
invariant-loop-link l = l.next ≡ find (λ j. has_link (take l.link-index l.links) l.number j && eqb (get_or l.distances j 0) l.distance) (range_with_len 0 (length l.distances))
