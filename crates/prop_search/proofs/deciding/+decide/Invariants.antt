-- The number of visits that are left gets smaller.
use Rattle.std.proofs.Common.{◌+◌, ◌*◌}
use Rattle.prop_search.proofs.deciding.+decide.Given as goal

abbrev pub decreases-decide_at : goal.decreases-decide_at
decreases-decide_at l = 3 * l.left.now + 2

abbrev pub decreases-decide_main : goal.decreases-decide_main
decreases-decide_main l = 3 * l.left.now + 1

abbrev pub decreases-decide_either : goal.decreases-decide_either
decreases-decide_either l = 3 * l.left.now
