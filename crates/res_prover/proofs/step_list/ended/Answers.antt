-- The last clause is the empty one.
use Rattle.std.proofs.Common.{sym, ap, ◌∙◌}
use Rattle.lk_rules.specs.Sequents.{same_sequents}
use Rattle.res_prover.proofs.DerivedSteps.{refuted}
use Rattle.res_prover.proofs.step_list.ended.Goals as goal

pub returns : goal.returns
returns c =
    let last = c.in-Some.last.now in
    refuted c.args.clauses.now c.args.steps.items c.args.derived.now last c.requires (sym c.in-Some.ensures.value) (sym (c.if-not-is_empty.ensures.value ∙ ap (same_sequents last) c.empty.ensures))
