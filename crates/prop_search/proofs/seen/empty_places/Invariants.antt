-- None of the places has a sequent.
use Rattle.std.specs.Prelude.{List}
use Rattle.std.specs.List.{All}
use Rattle.fol.specs.Syntax.{Formula}
use Rattle.prop_search.specs.Seen.{IsVisited}
use Rattle.prop_search.proofs.seen.empty_places.Given as goal

abbrev pub invariant-loop-place : goal.invariant-loop-place
invariant-loop-place l = (fs : List Formula) → All (IsVisited fs) l.places.items
