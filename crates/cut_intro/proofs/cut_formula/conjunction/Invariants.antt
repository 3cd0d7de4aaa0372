-- The conjunction so far with what the other instances say is the whole.
use Rattle.std.proofs.Common.{◌≡◌, map, drop}
use Rattle.fol.specs.Formed.{IsFormed}
use Rattle.herbrand_laws.specs.Introduction.{chained}
use Rattle.cut_intro.specs.Instances.{claim}
use Rattle.cut_intro.proofs.cut_formula.conjunction.Given as goal

abbrev pub invariant-loop-instance : goal.invariant-loop-instance
invariant-loop-instance l = record {
  whole : chained l.front (map claim (drop l.instance-index l.others)) ≡ chained l.initial.front (map claim l.others);
  formed : IsFormed l.front;
}
