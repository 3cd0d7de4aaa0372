-- What is left gets less with each list.
use Rattle.std.proofs.Common.{◌+◌, ◌*◌}
use Rattle.arena_building.proofs.building.+build.Given as goal

abbrev pub decreases-build_open : goal.decreases-build_open
decreases-build_open l = 3 * l.left.now

abbrev pub decreases-build_premise : goal.decreases-build_premise
decreases-build_premise l = 3 * l.left.now + 1

abbrev pub decreases-build_premises : goal.decreases-build_premises
decreases-build_premises l = 3 * l.left.now + 2
