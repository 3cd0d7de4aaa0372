-- No steps derive no clauses.
use Rattle.std.proofs.Common.{[], sym, subst}
use Rattle.res_prover.specs.Deriving.{AreDerived}
use Rattle.res_prover.proofs.DerivedSteps.{none_derived}
use Rattle.res_prover.proofs.refuting.refutation.Goals as goal

pub loop-step-init : goal.loop-step-init
loop-step-init c =
    let cs = c.args.clauses.now in
    subst (λ ss. AreDerived cs ss c.new-derived.result.items) (sym c.new-steps.ensures.items)
    (subst (AreDerived cs []) (sym c.new-derived.ensures.items) (none_derived cs))
