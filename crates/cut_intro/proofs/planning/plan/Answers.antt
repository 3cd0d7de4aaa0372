-- The parts are those for the candidate.
use Rattle.std.proofs.Common.{◌≡◌, List, ◌++◌, map, length, sym, ap, ◌∙◌}
use Rattle.std.proofs.lemmas.List.{length-map}
use Rattle.fol.specs.Syntax.{free}
use Rattle.finite.specs.Finite as set
use Rattle.lk_rules.specs.declared.rule.Rule.TheVariants.{AllL}
use Rattle.herbrand_laws.specs.Candidates.{patterns}
use Rattle.herbrand_laws.specs.Patterns.{put}
use Rattle.herbrand_laws.specs.Introduction.{instances_by, rules_for}
use Rattle.cut_intro.specs.Instances.{meant, instances_of_each}
use Rattle.cut_intro.proofs.Planned.{patterns_formed, formula_is, left_usable, left_inferences, left_searched, right_usable, right_inferences, right_searched}
use Rattle.cut_intro.proofs.planning.plan.Goals as goal

pub instances_at-requires-clause-lengths : goal.instances_at-requires-clause-lengths
instances_at-requires-clause-lengths c =
    let k = c.requires.candidate.1 in
    ap length (c.as_slice-patterns.ensures ∙ k.of_patterns) ∙ (length-map c.args.instances.now (patterns c.requires.candidate.0 c.args.candidate.now.values) ∙ ap length (sym c.items-items.ensures))

pub instances_at-requires-clause-formed : goal.instances_at-requires-clause-formed
instances_at-requires-clause-formed c =
    let k = c.requires.candidate.1 in
    patterns_formed c.requires.candidate.0 c.args.candidate.now.values c.args.end.now c.args.instances.now c.requires.instances c.as_slice-patterns.result.now (c.as_slice-patterns.ensures ∙ k.of_patterns)
    c.in_ok-term.term (c.in_ok-term.ensures ∙ ap free (c.in_ok-copy.ensures ∙ c.in_ok-variable.ensures.value))

pub premise-requires-clause-usable : goal.premise-requires-clause-usable
premise-requires-clause-usable c =
    let s = c.args.end.now in
    let items = c.args.instances.now in
    let cand = c.args.candidate.now in
    let y = c.in_ok-variable.variable in
    let is_y = c.in_ok-variable.ensures.value in
    let t = c.in_ok-term.term in
    let is_t : t ≡ free y = c.in_ok-term.ensures ∙ ap free c.in_ok-copy.ensures in
    let js = c.as_slice-claims.result.now in
    let is_js : map meant js ≡ instances_of_each items (map (map (λ p. put p t)) cand.patterns) =
    ap (map meant) c.as_slice-claims.ensures.value ∙ (c.in_ok-patterned.ensures.items ∙ λ i. instances_of_each (c.items-items.ensures i) (map (map (λ p. put p t)) (c.as_slice-patterns.ensures i))) in
    let f = c.in_ok-formula.formula in
    left_usable s items c.requires.instances c.requires.candidate.0 cand c.requires.candidate.1 y is_y t is_t js is_js f c.in_ok-formula.ensures.value c.in_ok-first.first.items c.in_ok-first.ensures

pub premise-requires-2-clause-usable : goal.premise-requires-2-clause-usable
premise-requires-2-clause-usable c =
    let s = c.args.end.now in
    let items = c.args.instances.now in
    let cand = c.args.candidate.now in
    let y = c.in_ok-variable.variable in
    let is_y = c.in_ok-variable.ensures.value in
    let t = c.in_ok-term.term in
    let is_t : t ≡ free y = c.in_ok-term.ensures ∙ ap free c.in_ok-copy.ensures in
    let js = c.as_slice-claims.result.now in
    let is_js : map meant js ≡ instances_of_each items (map (map (λ p. put p t)) cand.patterns) =
    ap (map meant) c.as_slice-claims.ensures.value ∙ (c.in_ok-patterned.ensures.items ∙ λ i. instances_of_each (c.items-items.ensures i) (map (map (λ p. put p t)) (c.as_slice-patterns.ensures i))) in
    let f = c.in_ok-formula.formula in
    let ks = c.as_slice-others.result.now in
    let is_ks : map meant ks ≡ instances_by (λ i. i.tuples) cand.rest = ap (map meant) c.as_slice-others.ensures.value ∙ (c.in_ok-uncovered.ensures.items ∙ ap (instances_by (λ i. i.tuples)) c.items-rest.ensures) in
    let is_second : c.in_ok-second.second.items ≡ map (AllL f) (set.listing cand.values) ++ rules_for (map meant ks) = c.in_ok-second.ensures ∙ ap (λ vs. map (AllL f) vs ++ rules_for (map meant ks)) c.as_slice-values.ensures in
    right_usable s items c.requires.instances c.requires.candidate.0 cand c.requires.candidate.1 y is_y t is_t js is_js f c.in_ok-formula.ensures.value ks is_ks c.in_ok-second.second.items is_second

pub returns : goal.returns
returns c = λ width k.
    let s = c.args.end.now in
    let items = c.args.instances.now in
    let cand = c.args.candidate.now in
    let y = c.in_ok-variable.variable in
    let is_y = c.in_ok-variable.ensures.value in
    let t = c.in_ok-term.term in
    let is_t : t ≡ free y = c.in_ok-term.ensures ∙ ap free c.in_ok-copy.ensures in
    let js = c.as_slice-claims.result.now in
    let is_js : map meant js ≡ instances_of_each items (map (map (λ p. put p t)) cand.patterns) =
    ap (map meant) c.as_slice-claims.ensures.value ∙ (c.in_ok-patterned.ensures.items ∙ λ i. instances_of_each (c.items-items.ensures i) (map (map (λ p. put p t)) (c.as_slice-patterns.ensures i))) in
    let f = c.in_ok-formula.formula in
    let ks = c.as_slice-others.result.now in
    let is_ks : map meant ks ≡ instances_by (λ i. i.tuples) cand.rest = ap (map meant) c.as_slice-others.ensures.value ∙ (c.in_ok-uncovered.ensures.items ∙ ap (instances_by (λ i. i.tuples)) c.items-rest.ensures) in
    let is_second : c.in_ok-second.second.items ≡ map (AllL f) (set.listing cand.values) ++ rules_for (map meant ks) = c.in_ok-second.ensures ∙ ap (λ vs. map (AllL f) vs ++ rules_for (map meant ks)) c.as_slice-values.ensures in
    record {
      formula = formula_is s items c.requires.instances width cand k y is_y t is_t js is_js f c.in_ok-formula.ensures.value;
      left = left_inferences s items c.requires.instances width cand k y is_y t is_t js is_js f c.in_ok-formula.ensures.value c.in_ok-first.first.items c.in_ok-first.ensures c.in_ok-left.left.inferences.items c.in_ok-left.ensures.inferences;
      right = right_inferences s items c.requires.instances width cand k y is_y t is_t js is_js f c.in_ok-formula.ensures.value ks is_ks c.in_ok-second.second.items is_second c.in_ok-right.right.inferences.items c.in_ok-right.ensures.inferences;
      left_searched = left_searched s items c.requires.instances width cand k y is_y t is_t js is_js f c.in_ok-formula.ensures.value c.in_ok-first.first.items c.in_ok-first.ensures c.in_ok-left.left.searched c.in_ok-left.ensures.searched;
      right_searched = right_searched s items c.requires.instances width cand k y is_y t is_t js is_js f c.in_ok-formula.ensures.value ks is_ks c.in_ok-second.second.items is_second c.in_ok-right.right.searched c.in_ok-right.ensures.searched;
    }
