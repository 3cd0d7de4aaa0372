use Rattle.std.proofs.Common.{◌≡◌, take}
use Rattle.herbrand_laws.specs.Introduction.{end_after}
use Rattle.cut_intro.specs.Branches.{inferences}
use Rattle.cut_intro.proofs.branch.Branch.new.Given as goal

abbrev pub invariant-loop-rule : goal.invariant-loop-rule
invariant-loop-rule l = record {
  so_far : l.list.items ≡ inferences (take l.rule-index l.rules) l.fn.end;
  top : l.top ≡ end_after (take l.rule-index l.rules) l.fn.end;
}
