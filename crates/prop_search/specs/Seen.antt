-- What a table says of the searches that found proofs.
use Rattle.std.specs.Prelude.{◌<◌, List}
use Rattle.std.specs.List.{All}
use Rattle.fol.specs.Syntax.{Formula}
use Rattle.search_laws.specs.Search.{walk}
use Rattle.prop_search.specs.declared.seen.Visited.{Visited}
use Rattle.prop_search.specs.declared.seen.Seen.{Seen}
use Rattle.prop_search.specs.Deciding.{IsProvedIn}
use Rattle.prop_search.specs.Formulas.{sequent_of}

-- the search visits so many sequents and finds a proof, unless no sequent is kept
abbrev pub IsVisited : List Formula → Visited → Type 0
IsVisited fs v = 0 < v.visits → IsProvedIn v.visits (walk (sequent_of fs v.sequent))

-- each sequent of the table
pub record AreSeen (fs : List Formula) (t : Seen) : Type 0 where
  pub visited : All (IsVisited fs) t.places.items
