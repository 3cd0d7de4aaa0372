-- What is kept is right.
use Rattle.std.proofs.Common.{List, IfSome, subst}
use Rattle.finite.specs.Finite as set
use Rattle.arena_cells.specs.Items.{Item}
use Rattle.arena_cells.specs.Standing.{HasVariables}
use Rattle.arena.proofs.arena.Arena.known_no_variable.Goals as goal

pub returns : goal.returns
returns c = subst (λ (a : List Item). IfSome c.self.inside.no_variables (λ n. HasVariables a n set.empty)) c.self.view_is c.self.invariant.no_variables
