-- The resolvent of what was derived is derived by its step.
use Rattle.std.proofs.Common.{◌++◌, ◌∷◌, [], length, refl, sym, ap, subst, ◌∙◌}
use Rattle.std.proofs.lemmas.Option.{slice_get_read}
use Rattle.refutations.specs.declared.step.ResStep.TheVariants.{Resolve}
use Rattle.res_prover.specs.Deriving.{AreDerived}
use Rattle.res_prover.proofs.DerivedSteps.{pushed_resolvent}
use Rattle.res_prover.proofs.step_list.push_resolvent.Goals as goal

pub returns : goal.returns
returns c =
    let cs = c.args.clauses.now in
    let steps = c.args.steps.now.items in
    let ds = c.args.derived.now.items in
    let p = c.args.positive in
    let n = c.args.negative in
    let first = slice_get_read ds (length ds) p c.index-first.result.now refl c.requires.positive c.index-first.ensures in
    let second = slice_get_read ds (length ds) n c.index-second.result.now refl c.requires.negative c.index-second.ensures in
    subst (λ ss. AreDerived cs ss c.push-2.new.self.items) (sym c.in_ok-push.ensures.items)
    (subst (AreDerived cs (steps ++ Resolve p n c.args.atom ∷ [])) (sym (c.in_ok-push-2.ensures.items ∙ ap (λ s. ds ++ s ∷ []) c.in_ok-clause.ensures))
    (pushed_resolvent cs steps ds p n c.args.atom c.index-first.result.now c.index-second.result.now first second (sym c.if-not-has.ensures) (sym c.if-not-has-2.ensures) (sym c.if-not-well_formed.ensures) c.requires.derived))
