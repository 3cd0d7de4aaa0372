-- The image of what was derived is derived by its step.
use Rattle.std.proofs.Common.{◌++◌, ◌∷◌, [], length, refl, sym, ap, subst, ◌∙◌}
use Rattle.std.proofs.lemmas.Option.{slice_get_read}
use Rattle.refutations.specs.declared.step.ResStep.TheVariants.{Subst}
use Rattle.res_prover.specs.Deriving.{AreDerived}
use Rattle.res_prover.proofs.DerivedSteps.{pushed_image}
use Rattle.res_prover.proofs.step_list.push_image.Goals as goal

pub returns : goal.returns
returns c =
    let cs = c.args.clauses.now in
    let steps = c.args.steps.now.items in
    let ds = c.args.derived.now.items in
    let n = c.args.number in
    let here = slice_get_read ds (length ds) n c.index.result.now refl c.requires.number c.index.ensures in
    subst (λ ss. AreDerived cs ss c.push-2.new.self.items) (sym c.in_ok-push.ensures.items)
    (subst (AreDerived cs (steps ++ Subst n c.args.map ∷ [])) (sym (c.in_ok-push-2.ensures.items ∙ ap (λ s. ds ++ s ∷ []) c.in_ok-image.ensures)) (pushed_image cs steps ds n c.args.map c.index.result.now here c.requires.map c.requires.derived))
