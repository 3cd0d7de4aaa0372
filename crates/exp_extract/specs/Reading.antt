-- The trees that are read off from what is marked.
--     tree_of, instance_tree      the tree at an address, and that of an instance there
use Rattle.fol.specs.Syntax.{Term}
use Rattle.expansion_laws.specs.Expansions.{Exp}
use Rattle.extraction_laws.specs.Addresses.{Address, via}
use Rattle.extraction_laws.specs.States.{tree_at}
use Rattle.exp_extract.specs.Marked.{Marked}

-- the tree at an address
abbrev pub tree_of : Marked → Address → Exp
tree_of m a = tree_at m.outside m.state a

-- the tree of an instance of the formula at an address
abbrev pub instance_tree : Marked → Address → Term → Exp
instance_tree m a t = tree_of m (via a t)
