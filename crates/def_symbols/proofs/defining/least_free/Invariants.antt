-- no variable that is passed is outside the list
use Rattle.std.proofs.Common.{not as negated}
use Rattle.free_variables.specs.Fresh.{is_among}
use Rattle.def_symbols.proofs.Searches.{IsPast}
use Rattle.def_symbols.proofs.defining.least_free.Given as goal

abbrev pub invariant-loop-var : goal.invariant-loop-var
invariant-loop-var l = IsPast (λ v. negated (is_among v l.vars)) l.var-items l.var-index
