-- An input clause is derived by its step.
use Rattle.std.proofs.Common.{◌++◌, ◌∷◌, [], length, refl, sym, ap, subst, ◌∙◌}
use Rattle.std.specs.Prelude.{Some}
use Rattle.std.proofs.lemmas.Option.{slice_get_read}
use Rattle.refutations.specs.declared.step.ResStep.TheVariants.{Input}
use Rattle.res_prover.specs.Deriving.{AreDerived}
use Rattle.res_prover.proofs.DerivedSteps.{pushed_input}
use Rattle.res_prover.proofs.step_list.push_input.Goals as goal

pub returns : goal.returns
returns c =
    let cs = c.args.clauses.now in
    let steps = c.args.steps.now.items in
    let ds = c.args.derived.now.items in
    let n = c.args.number in
    let here = slice_get_read cs (length cs) n c.index-clauses-number.result refl c.requires.number c.index-clauses-number.is ∙ ap Some (sym c.in_ok-clause.ensures) in
    subst (λ ss. AreDerived cs ss c.push-2.new.self.items) (sym c.in_ok-push.ensures.items)
    (subst (AreDerived cs (steps ++ Input n ∷ [])) (sym c.in_ok-push-2.ensures.items) (pushed_input cs steps ds n c.in_ok-clause.clause here c.requires.derived))
