-- The connectives of the formulas so far.
use Rattle.std.proofs.Common.{◌≡◌, ℕ, ◌<◌, length, get_or, None}
use Rattle.prop_search.specs.Formulas.{formula_at}
use Rattle.prop_search.specs.Numbering.{IsRoot}
use Rattle.prop_search.proofs.numbering.roots_of.Given as goal

abbrev pub invariant-loop-formula : goal.invariant-loop-formula
invariant-loop-formula l = record {
  counted : length l.roots.items ≡ l.formula-index;
  rooted : (n : ℕ) → n < l.formula-index → IsRoot l.formulas (get_or l.roots.items n None) (formula_at l.formulas n);
}
