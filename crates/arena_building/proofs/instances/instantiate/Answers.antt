-- The instance at the place of the list is that of the tree.
use Rattle.std.proofs.Common.{◌≡◌, ◌<◌, [], ◌∷◌, Bor, map, length, sym, ap, subst, ◌∙◌, arith}
use Rattle.std.specs.Prelude.{Some, option_map}
use Rattle.std.specs.List.{remove, slice_get}
use Rattle.std.proofs.lemmas.List.{length-map}
use Rattle.std.proofs.lemmas.Option.{slice_get-get_or, slice_get-map}
use Rattle.expansion_laws.specs.Expansions.{weak, shallow}
use Rattle.exp_tree.specs.declared.expansion.Inst.{Inst}
use Rattle.exp_tree.specs.Shown.{insts_of}
use Rattle.arena_cells.specs.Standing.{Extends, formula_at, term_at, IsFormulaAt}
use Rattle.arena_cells.specs.Meaning.{rule_at}
use Rattle.arena_cells.proofs.Staying.{is_formula, is_term, formula_there}
use Rattle.arena_cells.proofs.Facts as facts
use Rattle.building_laws.specs.Lists.{on}
use Rattle.building_laws.specs.Building.{weak_rule}
use Rattle.arena_building.specs.Numbered.{Numbered}
use Rattle.arena_building.proofs.Chosen.{instance_within, instance_taken}
use Rattle.arena_building.proofs.Puts.{map_removed}
use Rattle.arena_building.proofs.instances.instantiate.Goals as goal

pub remove-requires : goal.remove-requires
remove-requires c =
    let rs = c.into_weak-instances.result.1.items in
    let is = map (λ (i : Bor Inst). i.now) rs in
    let p = c.args.placed.placed in
    let inside : c.args.place < length is = instance_within p.side p.tree c.into_weak-instances.result.0.now is c.args.place c.into_weak-instances.ensures c.requires.place in
    let lengths : length is ≡ length rs = length-map rs (λ (i : Bor Inst). i.now) in
    omega arith

pub returns-clause-step : goal.returns-clause-step
returns-clause-step c =
    let a = c.args.arena.now in
    let b = c.place_tree.new.arena in
    let grown : Extends a b = λ n t h. c.place_tree.ensures.grown n t (c.import_term.ensures.grown n t h) in
    let p = c.args.placed.placed in
    let n = c.args.place in
    let f = c.into_weak-instances.result.0.now in
    let rs = c.into_weak-instances.result.1.items in
    let is = map (λ (i : Bor Inst). i.now) rs in
    let r = c.remove.result in
    let inside : n < length is = instance_within p.side p.tree f is n c.into_weak-instances.ensures c.requires.place in
    let lengths : length is ≡ length rs = length-map rs (λ (i : Bor Inst). i.now) in
    let lent : slice_get rs n ≡ Some r = slice_get-get_or rs n r (omega arith) ∙ ap Some (sym c.remove.ensures.value) in
    let there : slice_get is n ≡ Some r.now = slice_get-map (λ (i : Bor Inst). i.now) rs n ∙ ap (option_map (λ (i : Bor Inst). i.now)) lent in
    let formula : formula_at b c.formula-main.result ≡ f =
    ap (formula_at b) c.formula-main.ensures ∙ (is_formula b c.args.placed.formula (shallow p.tree) (grown _ _ c.requires.number) ∙ ap shallow c.into_weak-instances.ensures) in
    let term : term_at b c.in_ok-term.term ≡ r.now.term = is_term b c.in_ok-term.term _ (c.place_tree.ensures.grown _ _ c.in_ok-term.ensures.term) in
    let rule : weak_rule p.side f r.now.term ≡ rule_at b c.weak.result =
    (λ i. weak_rule (sym c.side-side.ensures i) (sym formula i) (sym term i)) ∙ sym (c.weak.ensures.rule b) in
    let removed : remove is n ≡ map (λ (i : Bor Inst). i.now) c.remove.new.self.items =
    sym (map_removed (λ (i : Bor Inst). i.now) rs n) ∙ ap (map (λ (i : Bor Inst). i.now)) (sym c.remove.ensures.items) in
    let others : on p.side (weak f (insts_of (remove is n))) ≡ c.weak-2.result.placed =
    (λ i. on (sym c.side-side.ensures i) (weak f (insts_of (removed i)))) ∙ ap (λ (q : Numbered). q.placed) (sym c.weak-2.ensures) in
    let child : on p.side r.now.child ≡ c.in_ok-child.child.placed = (λ i. on (sym c.side-side.ensures i) r.now.child) ∙ sym c.in_ok-child.ensures.placed in
    instance_taken p.side p.tree f is n r.now c.into_weak-instances.ensures there ∙ (λ k. Some (record { rule = rule k; premises = (others k ∷ child k ∷ []) ∷ [] }))

pub returns-clause-rule : goal.returns-clause-rule
returns-clause-rule c =
    let a = c.args.arena.now in
    let b = c.place_tree.new.arena in
    let grown : Extends a b = λ n t h. c.place_tree.ensures.grown n t (c.import_term.ensures.grown n t h) in
    let main : IsFormulaAt b c.formula-main.result = subst (λ n. IsFormulaAt b n) (sym c.formula-main.ensures) (formula_there a b grown c.args.placed.formula (facts.formula_there a c.args.placed.formula _ c.requires.number)) in
    c.weak.ensures.parts b main (facts.term_there b c.in_ok-term.term _ (c.place_tree.ensures.grown _ _ c.in_ok-term.ensures.term))
