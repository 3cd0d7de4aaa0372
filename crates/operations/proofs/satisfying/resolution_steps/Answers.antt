-- One more step is there, and a line can tell it.
use Rattle.std.proofs.Common.{◌≡◌, ◌+◌, List, [], ◌∷◌, ◌++◌, map, take, sym, ap, ◌∙◌, subst, arith}
use Rattle.std.specs.List.{All}
use Rattle.std.proofs.lemmas.List.{take_more, take_all, map-append}
use Rattle.std.proofs.lemmas.List.Elements.{All-nil, All-cons, All-append}
use Rattle.refutations.specs.declared.step.ResStep.{ResStep}
use Rattle.ground_laws.specs.declared.step.SatStep.{SatStep}
use Rattle.ground_laws.specs.Steps.{res_step}
use Rattle.job_words.specs.Refutations.{HaveFormedParts}
use Rattle.reply_lines.specs.Shown.{IsShownStep}
use Rattle.operations.proofs.Satisfied.{HasShownAtom, have_formed_parts}
use Rattle.operations.proofs.satisfying.resolution_steps.Goals as goal

pub resolution_step-requires : goal.resolution_step-requires
resolution_step-requires c = subst HasShownAtom (sym c.step-item.is) (c.requires c.loop-step.step-index c.step-item.result (omega (arith, c.loop-step-test.true)))

pub loop-step-preserved : goal.loop-step-preserved
loop-step-preserved c =
    let steps = c.args.steps.now in
    let i = c.loop-step.step-index in
    let step = c.step-item.result in
    let more : take (i + 1) steps ≡ take i steps ++ step ∷ [] = take_more steps i step c.loop-step-test.true ∙ ap (λ (s : SatStep). take i steps ++ s ∷ []) (sym c.step-item.is) in
    let map_more : map res_step (take (i + 1) steps) ≡ map res_step (take i steps ++ step ∷ []) = ap (map res_step) more in
    let made : c.push.new.self.items ≡ c.loop-step.list.items ++ res_step step ∷ []
    = c.in_ok-push.ensures.items ∙ ap (λ (s : ResStep). c.loop-step.list.items ++ s ∷ []) c.in_ok-resolution_step.ensures.step in (
      made ∙ (ap (λ (ss : List ResStep). ss ++ res_step step ∷ []) c.loop-step.invariant.0
          ∙ sym (map_more ∙ map-append res_step (take i steps) (step ∷ []))),
      subst (λ (ss : List SatStep). All (λ (s : SatStep). IsShownStep (res_step s)) ss) (sym more)
          (All-append (λ (s : SatStep). IsShownStep (res_step s)) (take i steps) (step ∷ []) c.loop-step.invariant.1
          (All-cons (λ (s : SatStep). IsShownStep (res_step s)) step [] c.in_ok-resolution_step.ensures.shown (All-nil (λ (s : SatStep). IsShownStep (res_step s))))),
    )

pub from_vec-requires : goal.from_vec-requires
from_vec-requires c =
    let steps = c.args.steps.now in
    let whole = take_all c.loop-step.step-index steps c.loop-step-test.false in
    let shown = subst (λ (ss : List SatStep). All (λ (s : SatStep). IsShownStep (res_step s)) ss) whole c.loop-step.invariant.1 in
    subst (λ (ss : List ResStep). HaveFormedParts ss) (sym (c.loop-step.invariant.0 ∙ ap (map res_step) whole)) (have_formed_parts steps shown)
