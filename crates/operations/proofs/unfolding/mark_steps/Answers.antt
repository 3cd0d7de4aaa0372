-- One more step has the definitions put into it.
use Rattle.std.proofs.Common.{◌≡◌, ◌+◌, List, [], ◌∷◌, ◌++◌, map, take, sym, ap, ◌∙◌, subst}
use Rattle.std.specs.List.{All}
use Rattle.std.proofs.lemmas.List.{take_more, map-append}
use Rattle.std.proofs.lemmas.List.Elements.{All-nil, All-cons, All-append}
use Rattle.lk_rules.specs.declared.rule.Step.{Step}
use Rattle.lk_rules.specs.Rules.{IsFormedRule}
use Rattle.def_laws.specs.Marking.{marked_step}
use Rattle.operations.proofs.unfolding.mark_steps.Goals as goal

pub loop-step-preserved : goal.loop-step-preserved
loop-step-preserved c =
    let steps = c.args.steps.now in
    let i = c.loop-step.step-index in
    let step = c.step-item.result in
    let more : take (i + 1) steps ≡ take i steps ++ step ∷ [] = take_more steps i step c.loop-step-test.true ∙ ap (λ (s : Step). take i steps ++ s ∷ []) (sym c.step-item.is) in
    let made : c.push.new.self.items ≡ c.loop-step.marked.items ++ marked_step c.args.symbols.now step ∷ []
    = c.in_ok-push.ensures.items ∙ ap (λ (s : Step). c.loop-step.marked.items ++ s ∷ []) c.in_ok-mark_step.ensures.value in (
      made ∙ (ap (λ (ss : List Step). ss ++ marked_step c.args.symbols.now step ∷ []) c.loop-step.invariant.0
          ∙ sym (ap (map (marked_step c.args.symbols.now)) more ∙ map-append (marked_step c.args.symbols.now) (take i steps) (step ∷ []))),
      subst (λ (ss : List Step). All (λ s. IsFormedRule s.rule) ss) (sym c.in_ok-push.ensures.items)
          (All-append (λ (s : Step). IsFormedRule s.rule) c.loop-step.marked.items (c.in_ok-mark_step.field-0 ∷ []) c.loop-step.invariant.1
          (All-cons (λ (s : Step). IsFormedRule s.rule) c.in_ok-mark_step.field-0 [] c.in_ok-mark_step.ensures.formed (All-nil (λ (s : Step). IsFormedRule s.rule)))),
    )
