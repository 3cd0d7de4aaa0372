-- The lists of the pairs that are kept are those of the restricted map.
use Rattle.std.proofs.Common.{ℕ, List, map, sym, ap, ◌∙◌, subst}
use Rattle.std.specs.Prelude.{Some}
use Rattle.substitution.specs.Maps.{Map as Substitution}
use Rattle.substitution.specs.Restriction.{restricted}
use Rattle.arena_cells.specs.declared.key.Key.{Key}
use Rattle.arena_cells.specs.Items.{substitution}
use Rattle.arena_cells.specs.Standing.{variable_at, term_at, map_at, variables_at, HasMap}
use Rattle.arena_cells.specs.Meaning.{IsKeyAt, AreBindings, bindings}
use Rattle.arena_cells.proofs.Staying.{is_map}
use Rattle.arena_cells.proofs.Reading.{if_ok}
use Rattle.arena.specs.Pairs.{keys_kept, values_kept}
use Rattle.arena.specs.Bindings.{is_kept}
use Rattle.arena.proofs.BindingLaws.{bindings_kept, restricted_shown}
use Rattle.arena.proofs.arena.Arena.restrict.Goals as goal

pub put-requires : goal.put-requires
put-requires c =
    let a = c.args.self.now in
    let vs = c.in-Map.variables in
    let ts = c.in-Map.terms in
    let ss = c.variable_numbers.result.now in
    let key = subst (λ (k : Key). IsKeyAt a c.args.map k) c.in-Map.is c.key.ensures in
    let first = c.in_ok-variables.ensures.keys ∙ (λ i. keys_kept (is_kept ss) (c.as_slice.ensures i) (c.as_slice-2.ensures i)) in
    let second = c.in_ok-variables.ensures.values ∙ (λ i. values_kept (is_kept ss) (c.as_slice.ensures i) (c.as_slice-2.ensures i)) in
    subst (λ (ks : List ℕ). AreBindings a ks c.in_ok-variables.terms) (sym first) (
    subst (λ (us : List ℕ). AreBindings a (keys_kept (is_kept ss) vs ts) us) (sym second)
    (bindings_kept a c.known.ensures vs ts ss key.parts c.variable_numbers.ensures.rising))

pub returns-clause-map : goal.returns-clause-map
returns-clause-map c =
    let a = c.args.self.now in
    let vs = c.in-Map.variables in
    let ts = c.in-Map.terms in
    let ss = c.variable_numbers.result.now in
    let key = subst (λ (k : Key). IsKeyAt a c.args.map k) c.in-Map.is c.key.ensures in
    let first = c.in_ok-variables.ensures.keys ∙ (λ i. keys_kept (is_kept ss) (c.as_slice.ensures i) (c.as_slice-2.ensures i)) in
    let second = c.in_ok-variables.ensures.values ∙ (λ i. values_kept (is_kept ss) (c.as_slice.ensures i) (c.as_slice-2.ensures i)) in
    let shown = (λ i. bindings (map (variable_at a) (first i)) (map (term_at a) (second i)))
    ∙ restricted_shown a c.known.ensures vs ts ss key.parts c.variable_numbers.ensures.rising
    ∙ (λ i. restricted (sym (is_map a c.args.map _ key.stands) i) (sym c.variable_numbers.ensures.shown i)) in
    if_ok c.put.result _ (λ (n : ℕ). HasMap c.put.new.self n (restricted (map_at a c.args.map) (variables_at a c.args.set)))
    (λ n s. s ∙ ap (λ (m : Substitution). Some (substitution m)) shown) c.put.ensures.stands
