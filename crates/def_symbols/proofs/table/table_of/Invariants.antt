-- the table of the definitions from a place on
use Rattle.std.proofs.Common.{◌≡◌, drop, find}
use Rattle.std.specs.BTreeMap.{get}
use Rattle.fol.specs.declared.symbols.Sym.{Sym}
use Rattle.fol.specs.Syntax.{plain}
use Rattle.fol.specs.Order.{sym_cmp}
use Rattle.def_laws.specs.Marking.{is_like}
use Rattle.def_symbols.proofs.table.table_of.Given as goal

abbrev pub invariant-loop-at : goal.invariant-loop-at
invariant-loop-at l = (s : Sym) → get sym_cmp l.table s ≡ find (is_like (plain s)) (drop l.at l.list)
