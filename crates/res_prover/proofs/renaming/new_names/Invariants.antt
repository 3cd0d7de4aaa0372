-- The variables so far have their new names.
use Rattle.std.proofs.Common.{◌≡◌, true, take}
use Rattle.std.specs.FinMap as fin
use Rattle.fol.specs.declared.symbols.Var.{Var}
use Rattle.free_variables.specs.Fresh.{is_among}
use Rattle.substitution.specs.Image.{IsFormedMap}
use Rattle.res_prover.specs.Reached.{apart_by}
use Rattle.res_prover.proofs.renaming.new_names.Given as goal

abbrev pub invariant-loop-place : goal.invariant-loop-place
invariant-loop-place l = record {
  names : (v : Var) → is_among v (take l.place l.vars) ≡ true → fin.get l.map v ≡ apart_by l.is_second v;
  formed : IsFormedMap (fin.get l.map);
}
