-- none of the symbols that are passed is like an earlier one
use Rattle.std.specs.BTreeSet.{contains}
use Rattle.fol.specs.Order.{sym_cmp}
use Rattle.def_symbols.proofs.DefinitionLists.{IsPassed}
use Rattle.def_symbols.proofs.twice.first_twice.Given as goal

abbrev pub invariant-loop-place : goal.invariant-loop-place
invariant-loop-place l = IsPassed (λ s. contains sym_cmp l.seen s) l.definitions l.place
