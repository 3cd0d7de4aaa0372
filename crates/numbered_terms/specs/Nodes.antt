-- The nodes of numbered terms.
--     head_of      the symbol of a term
--     followed, listed      terms in front of a list of terms; the list of terms with these elements
--     IsNode, AreNodes      the node of a term, and the nodes of all terms
use Rattle.std.specs.Prelude.{◌≡◌, ℕ, ◌<◌, List, [], ◌∷◌, map, length, Option, Some, None, option_map, IfSome, slice_get}
use Rattle.std.specs.List.{All}
use Rattle.fol.specs.declared.symbols.Sym.{Sym}
use Rattle.fol.specs.Syntax.{Term, free, bound, app, Terms, nil, cons}
use Rattle.arena_cells.specs.Items.{Item}
use Rattle.arena_cells.specs.Standing.{symbol_at, term_at, IsSymbolAt, IsTermAt}
use Rattle.numbered_terms.specs.declared.nodes.Node.{Node}
use Rattle.numbered_terms.specs.Numbered.{arguments_of}

-- the symbol of a term, if it is an application
abbrev pub head_of : Term → Option Sym
head_of (free v) = None
head_of (bound i) = None
head_of (app s us) = Some s

-- terms, followed by a list of terms
abbrev pub followed : List Term → Terms → Terms
followed [] us = us
followed (t ∷ ts) us = cons t (followed ts us)

-- the list of terms with these elements
abbrev pub listed : List Term → Terms
listed ts = followed ts nil

-- The node of the term at n, whose arguments have smaller numbers.
pub record IsNode (a : List Item) (n : ℕ) (d : Node) : Type 0 where
  pub symbol : option_map (symbol_at a) d.symbol ≡ head_of (term_at a n)
  pub named : IfSome d.symbol (IsSymbolAt a)
  pub arguments : listed (map (term_at a) d.arguments.items) ≡ arguments_of (term_at a n)
  pub terms : All (IsTermAt a) d.arguments.items
  pub below : All (λ m. m < n) d.arguments.items

-- the nodes of all terms, each at the place of its number
pub record AreNodes (a : List Item) (ds : List Node) : Type 0 where
  pub as_many : length ds ≡ length a
  pub each : (n : ℕ) (d : Node) → slice_get ds n ≡ Some d → IsTermAt a n → IsNode a n d
