-- A table of definitions by their symbols.
use Rattle.std.specs.Prelude.{◌≡◌, List, find}
use Rattle.std.specs.BTreeMap.{BTreeMap, get}
use Rattle.fol.specs.declared.symbols.Sym.{Sym}
use Rattle.fol.specs.Syntax.{Pred, plain}
use Rattle.fol.specs.Order.{sym_cmp}
use Rattle.def_laws.specs.Marking.{is_like}

-- the table has for each symbol the first definition of a list that is like it
abbrev pub Finds : BTreeMap Sym Pred → List Pred → Type 0
Finds table ds = (s : Sym) → get sym_cmp table s ≡ find (is_like (plain s)) ds
