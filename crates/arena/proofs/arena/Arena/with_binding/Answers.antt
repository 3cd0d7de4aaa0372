-- The lists with one more pair are those of the map with one more binding.
use Rattle.std.proofs.Common.{ℕ, List, map, sym, ap, ◌∙◌, subst}
use Rattle.std.specs.Prelude.{Some}
use Rattle.std.specs.Ordering.{nat_cmp}
use Rattle.std.specs.FinMap as fin
use Rattle.finite.specs.Place.{place}
use Rattle.substitution.specs.Maps.{Map as Substitution}
use Rattle.arena_cells.specs.declared.key.Key.{Key}
use Rattle.arena_cells.specs.Items.{substitution}
use Rattle.arena_cells.specs.Standing.{variable_at, term_at, map_at, HasMap}
use Rattle.arena_cells.specs.Meaning.{IsKeyAt, AreBindings, bindings}
use Rattle.arena_cells.proofs.Staying.{is_map}
use Rattle.arena_cells.proofs.Reading.{if_ok}
use Rattle.arena.specs.Pairs.{keys_with, values_with}
use Rattle.arena.proofs.BindingLaws.{bindings_with, insert_shown}
use Rattle.arena.proofs.arena.Arena.with_binding.Goals as goal

pub put-requires : goal.put-requires
put-requires c =
    let a = c.args.self.now in
    let x = c.args.variable in
    let t = c.args.term in
    let vs = c.in-Map.variables in
    let ts = c.in-Map.terms in
    let key = subst (λ (k : Key). IsKeyAt a c.args.map k) c.in-Map.is c.key.ensures in
    let first = c.in_ok-variables.ensures.keys ∙ ap (λ (ns : List ℕ). keys_with x ns (place nat_cmp x ns)) c.as_slice.ensures in
    let second = c.in_ok-variables.ensures.values ∙ (λ i. values_with t (c.as_slice-2.ensures i) (place nat_cmp x (c.as_slice.ensures i))) in
    subst (λ (ks : List ℕ). AreBindings a ks c.in_ok-variables.terms) (sym first) (
    subst (λ (us : List ℕ). AreBindings a (keys_with x vs (place nat_cmp x vs)) us) (sym second)
    (bindings_with a c.known.ensures vs ts x t key.parts c.requires.variable c.requires.term))

pub returns-clause-map : goal.returns-clause-map
returns-clause-map c =
    let a = c.args.self.now in
    let x = c.args.variable in
    let t = c.args.term in
    let vs = c.in-Map.variables in
    let ts = c.in-Map.terms in
    let key = subst (λ (k : Key). IsKeyAt a c.args.map k) c.in-Map.is c.key.ensures in
    let first = c.in_ok-variables.ensures.keys ∙ ap (λ (ns : List ℕ). keys_with x ns (place nat_cmp x ns)) c.as_slice.ensures in
    let second = c.in_ok-variables.ensures.values ∙ (λ i. values_with t (c.as_slice-2.ensures i) (place nat_cmp x (c.as_slice.ensures i))) in
    let shown = (λ i. bindings (map (variable_at a) (first i)) (map (term_at a) (second i)))
    ∙ insert_shown a c.known.ensures vs ts x t key.parts c.requires.variable c.requires.term
    ∙ ap (λ (m : Substitution). fin.insert m (variable_at a x) (term_at a t)) (sym (is_map a c.args.map _ key.stands)) in
    if_ok c.put.result _ (λ (n : ℕ). HasMap c.put.new.self n (fin.insert (map_at a c.args.map) (variable_at a x) (term_at a t)))
    (λ n s. s ∙ ap (λ (m : Substitution). Some (substitution m)) shown) c.put.ensures.stands
