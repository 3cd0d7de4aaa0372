-- The bindings so far are of well-formed terms.
use Rattle.std.specs.FinMap as fin
use Rattle.substitution.specs.Image.{IsFormedMap}
use Rattle.res_prover.proofs.refuting.formed_map.Given as goal

abbrev pub invariant-loop-var : goal.invariant-loop-var
invariant-loop-var l = IsFormedMap (fin.get l.formed)
