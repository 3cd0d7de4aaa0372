-- The place of the variable among the map's variables is that of its term among the map's terms.
use Rattle.std.proofs.Common.{◌<◌, ℕ, List, length, get_or, sym, ap, ◌∙◌, subst, arith}
use Rattle.std.specs.Ordering.{nat_cmp}
use Rattle.finite.specs.Place.{place}
use Rattle.substitution.specs.Image.{image_term}
use Rattle.fol.specs.Syntax.{free}
use Rattle.std.specs.FinMap as fin
use Rattle.arena_cells.specs.declared.key.Key.{Key}
use Rattle.arena_cells.specs.Standing.{HasTerm, map_at, variable_at}
use Rattle.arena_cells.specs.Meaning.{IsKeyAt}
use Rattle.arena.proofs.Mapped.{image_found, image_missed}
use Rattle.arena.proofs.arena.Arena.image_of_variable.Goals as goal

pub offset_bounds-as_slice-place : goal.offset_bounds-as_slice-place
offset_bounds-as_slice-place c =
    let key = subst (λ (k : Key). IsKeyAt c.args.self.now c.args.map k) c.in-Map.is c.key.ensures in
    let at = sym c.in-Ok.is ∙ c.search.ensures ∙ ap (place nat_cmp c.args.variable) c.as_slice.ensures in
    let found = image_found c.args.self.now c.known.ensures c.args.map c.args.variable c.in-Ok.place c.in-Map.variables c.in-Map.terms key c.requires.variable at in
    let inside : c.in-Ok.place < length c.as_slice-in-Ok.result.now = subst (λ (ns : List ℕ). c.in-Ok.place < length ns) (sym c.as_slice-in-Ok.ensures) found.0 in
    omega arith

pub bounds-as_slice-place : goal.bounds-as_slice-place
bounds-as_slice-place c =
    let key = subst (λ (k : Key). IsKeyAt c.args.self.now c.args.map k) c.in-Map.is c.key.ensures in
    let at = sym c.in-Ok.is ∙ c.search.ensures ∙ ap (place nat_cmp c.args.variable) c.as_slice.ensures in
    let found = image_found c.args.self.now c.known.ensures c.args.map c.args.variable c.in-Ok.place c.in-Map.variables c.in-Map.terms key c.requires.variable at in
    subst (λ (ns : List ℕ). c.in-Ok.place < length ns) (sym c.as_slice-in-Ok.ensures) found.0

pub returns-in-Ok : goal.returns-in-Ok
returns-in-Ok c =
    let key = subst (λ (k : Key). IsKeyAt c.args.self.now c.args.map k) c.in-Map.is c.key.ensures in
    let at = sym c.in-Ok.is ∙ c.search.ensures ∙ ap (place nat_cmp c.args.variable) c.as_slice.ensures in
    let found = image_found c.args.self.now c.known.ensures c.args.map c.args.variable c.in-Ok.place c.in-Map.variables c.in-Map.terms key c.requires.variable at in
    subst (λ (ns : List ℕ). HasTerm c.args.self.now (get_or ns c.in-Ok.place 0) (image_term (fin.get (map_at c.args.self.now c.args.map)) (free (variable_at c.args.self.now c.args.variable))))
    (sym c.as_slice-in-Ok.ensures) found.1

pub returns-in-Err : goal.returns-in-Err
returns-in-Err c =
    let key = subst (λ (k : Key). IsKeyAt c.args.self.now c.args.map k) c.in-Map.is c.key.ensures in
    let at = sym c.in-Err.is ∙ c.search.ensures ∙ ap (place nat_cmp c.args.variable) c.as_slice.ensures in
    image_missed c.args.self.now c.known.ensures c.args.map c.args.variable c.in-Err.field-0 c.in-Map.variables c.in-Map.terms key c.requires.variable at
