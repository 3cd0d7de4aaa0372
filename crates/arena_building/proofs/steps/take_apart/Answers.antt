-- The tree at the place has parts, and its step is the step at the list.
use Rattle.std.proofs.Common.{◌≡◌, ◌+◌, ◌<◌, List, length, sym, ap, subst, ◌∙◌, arith}
use Rattle.std.specs.Prelude.{Some, is_some}
use Rattle.std.specs.List.{All, remove, slice_get}
use Rattle.std.proofs.lemmas.Option.{slice_get-get_or}
use Rattle.std.proofs.lemmas.List.Edits.{length-remove}
use Rattle.lk_rules.specs.Sequents.{adds_to}
use Rattle.expansion_laws.specs.Expansions.{shallow}
use Rattle.arena_cells.specs.Standing.{formula_at, IsFormulaAt}
use Rattle.arena_cells.proofs.Staying.{is_formula}
use Rattle.arena_cells.proofs.Facts as facts
use Rattle.building_laws.specs.Lists.{Placed, conclusion}
use Rattle.building_laws.specs.Building.{parts, within}
use Rattle.arena_building.specs.Dividing.{divided}
use Rattle.arena_building.specs.Leaves.{IsOpen}
use Rattle.arena_building.specs.Numbered.{Numbered, trees, IsNumbered}
use Rattle.arena_building.specs.Putting.{put}
use Rattle.arena_building.proofs.Numbers.{numbered_stay}
use Rattle.arena_building.proofs.Places.{step_there, passes_there, position_within}
use Rattle.arena_building.proofs.Puts.{all_removed, map_removed}
use Rattle.arena_building.proofs.Takings.{tree_there, position_of_tree, numbered_at, compound_unused, open_without, conclusion_without}
use Rattle.arena_building.proofs.steps.take_apart.Goals as goal

pub divide-requires-clause-number : goal.divide-requires-clause-number
divide-requires-clause-number c =
    let l = c.args.list.items in
    let n = c.args.place in
    let q = c.remove-placed.result in
    let test = λ (q : Numbered). is_some (parts q.placed) in
    let inside : n < length l = position_within test l n c.requires.place in
    let there : slice_get l n ≡ Some q = slice_get-get_or l n q inside ∙ ap Some (sym c.remove-placed.ensures.value) in
    numbered_at c.args.arena.now l n q inside c.requires.numbers there

pub divide-requires-clause-compound : goal.divide-requires-clause-compound
divide-requires-clause-compound c =
    let l = c.args.list.items in
    let n = c.args.place in
    let q = c.remove-placed.result in
    let test = λ (q : Numbered). is_some (parts q.placed) in
    let inside : n < length l = position_within test l n c.requires.place in
    let there : slice_get l n ≡ Some q = slice_get-get_or l n q inside ∙ ap Some (sym c.remove-placed.ensures.value) in
    passes_there test l n q c.requires.place there

pub returns-clause-step : goal.returns-clause-step
returns-clause-step c =
    let l = c.args.list.items in
    let n = c.args.place in
    let q = c.remove-placed.result in
    let d = divided c.divide.new.arena c.in_ok-rule.field-0 in
    let test = λ (q : Numbered). is_some (parts q.placed) in
    let inside : n < length l = position_within test l n c.requires.place in
    let there : slice_get l n ≡ Some q = slice_get-get_or l n q inside ∙ ap Some (sym c.remove-placed.ensures.value) in
    let rest : remove (trees l) n ≡ trees c.remove-placed.new.self.items = sym (map_removed (λ (q : Numbered). q.placed) l n) ∙ ap trees (sym c.remove-placed.ensures.items) in
    step_there parts (trees l) n q.placed d (position_of_tree (λ (p : Placed). is_some (parts p)) l ∙ c.requires.place) (tree_there l n q there) c.in_ok-rule.ensures.divided
    ∙ (λ i. Some (within (put (rest i) n) d))

pub returns-clause-rest : goal.returns-clause-rest
returns-clause-rest c =
    let a = c.args.arena.now in
    let b = c.divide.new.arena in
    let l = c.args.list.items in
    let n = c.args.place in
    let q = c.remove-placed.result in
    let test = λ (q : Numbered). is_some (parts q.placed) in
    let inside : n < length l = position_within test l n c.requires.place in
    let there : slice_get l n ≡ Some q = slice_get-get_or l n q inside ∙ ap Some (sym c.remove-placed.ensures.value) in
    let rest : remove l n ≡ c.remove-placed.new.self.items = sym c.remove-placed.ensures.items in
    let compound = passes_there test l n q c.requires.place there in
    let shorter : length (remove l n) + 1 ≡ length l = length-remove l n inside in
    let lengths : length (remove l n) ≡ length c.remove-placed.new.self.items = ap length rest in
    record {
      numbers = subst (λ (ps : List Numbered). All (IsNumbered b) ps) rest (all_removed (IsNumbered b) l n (numbered_stay a b l c.divide.ensures.grown c.requires.numbers));
      place = omega arith;
      open_leaves = subst (λ (ps : List Numbered). IsOpen (trees ps)) rest (open_without l n q there (compound_unused q.placed compound) c.requires.open_leaves);
    }

pub returns-clause-end : goal.returns-clause-end
returns-clause-end c =
    let b = c.divide.new.arena in
    let l = c.args.list.items in
    let n = c.args.place in
    let q = c.remove-placed.result in
    let test = λ (q : Numbered). is_some (parts q.placed) in
    let inside : n < length l = position_within test l n c.requires.place in
    let there : slice_get l n ≡ Some q = slice_get-get_or l n q inside ∙ ap Some (sym c.remove-placed.ensures.value) in
    let number = c.divide.ensures.grown _ _ (numbered_at c.args.arena.now l n q inside c.requires.numbers there) in
    let formula : shallow q.placed.tree ≡ formula_at b c.formula-formula.result = sym (is_formula b q.formula (shallow q.placed.tree) number) ∙ ap (formula_at b) (sym c.formula-formula.ensures) in
    record {
      main = subst (λ m. IsFormulaAt b m) (sym c.formula-formula.ensures) (facts.formula_there b q.formula _ number);
      end = conclusion_without l n q there ∙ (λ i. adds_to (conclusion (trees (sym c.remove-placed.ensures.items i))) (sym c.side-side.ensures i) (formula i));
    }
