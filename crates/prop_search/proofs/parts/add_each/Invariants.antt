-- The formulas so far are listed with their parts.
use Rattle.std.proofs.Common.{◌≡◌, true, take}
use Rattle.std.specs.List.{list_all}
use Rattle.fol.specs.Formed.{is_formed}
use Rattle.prop_search.specs.Formulas.{is_listed}
use Rattle.prop_search.specs.Parts.{IsClosed, Keeps}
use Rattle.prop_search.proofs.parts.add_each.Given as goal

abbrev pub invariant-loop-formula : goal.invariant-loop-formula
invariant-loop-formula l = record {
  parts : IsClosed l.seen.keys;
  formed : list_all is_formed l.seen.keys ≡ true;
  added : list_all (is_listed l.seen.keys) (take l.formula-index l.formulas) ≡ true;
  kept : Keeps l.initial.seen.keys l.seen.keys;
}
