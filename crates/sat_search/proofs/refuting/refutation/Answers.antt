use Rattle.std.proofs.Common.{subst}
use Rattle.std.proofs.lemmas.List.Elements.{All-nil, All-pop}
use Rattle.std.specs.Prelude.{Option, Some, IfSome}
use Rattle.sat_search.specs.Grounds.{clauses_of}
use Rattle.sat_search.specs.Derived.{IsDerived}
use Rattle.sat_search.specs.declared.refuting.Derived.{Derived}
use Rattle.sat_search.proofs.Deriving.{nothing_yet}
use Rattle.sat_search.proofs.refuting.refutation.Goals as goal

pub loop-number-init : goal.loop-number-init
loop-number-init c = rw (c.in_ok-steps.ensures.items, c.in_ok-table.ensures.items) (record {
  sound = nothing_yet (clauses_of c.args.clauses.now);
  derived = All-nil _;
})

pub ended-requires-clause-derived : goal.ended-requires-clause-derived
ended-requires-clause-derived c =
    let cs = clauses_of c.args.clauses.now in
    let IsOne = λ (d : Option Derived). IfSome d (IsDerived cs c.loop-number.steps.items) in
    subst IsOne c.in-Some-Some.field-0-is
    (All-pop IsOne c.loop-number.table.items c.pop.new.self.items (Some c.in-Some-Some.field-0) c.in-Some-Some.ensures.items c.loop-number.invariant.derived).1
