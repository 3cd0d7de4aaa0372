-- With the formulas that are left the sequent is what is wanted.
use Rattle.std.proofs.Common.{◌≡◌, drop}
use Rattle.prop_search.specs.Formulas.{sequent_of, IsFit}
use Rattle.prop_search.specs.Premises.{with_each}
use Rattle.prop_search.proofs.sides.add_each.Given as goal

abbrev pub invariant-loop-formula : goal.invariant-loop-formula
invariant-loop-formula l = record {
  fit : IsFit l.numbering l.sequent;
  sequent : with_each (sequent_of l.numbering l.sequent) l.side (drop l.formula-index l.formulas) ≡ with_each (sequent_of l.numbering l.initial.sequent) l.side l.formulas;
}
