-- The atoms so far are well formed where the first ones are, and pass a test that those and all positive ones of the clause pass.
use Rattle.std.proofs.Common.{◌≡◌, Bool, true}
use Rattle.std.specs.List.{All, list_all}
use Rattle.fol.specs.Syntax.{Formula}
use Rattle.fol.specs.Formed.{IsFormed}
use Rattle.finite.specs.Finite as set
use Rattle.sat_search.proofs.models.push_true.Given as goal

abbrev pub invariant-loop-atom : goal.invariant-loop-atom
invariant-loop-atom l = record {
  formed : All IsFormed l.fn.atoms.items → All IsFormed l.atoms.items;
  own : (p : Formula → Bool) → list_all p (set.listing l.clause.positive) ≡ true → list_all p l.fn.atoms.items ≡ true → list_all p l.atoms.items ≡ true;
}
