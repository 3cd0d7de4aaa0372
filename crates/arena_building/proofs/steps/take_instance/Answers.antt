-- The tree at the place has an instance that is ready, and the step by that is the step at the list.
use Rattle.std.proofs.Common.{◌≡◌, ◌+◌, ◌<◌, true, false, List, [], ◌∷◌, length, sym, ap, subst, ◌∙◌, arith, rules}
use Rattle.std.specs.Prelude.{Some, is_some}
use Rattle.std.specs.List.{All, remove, slice_get, position}
use Rattle.std.proofs.lemmas.Grind.{common_steps}
use Rattle.std.proofs.lemmas.Option.{slice_get-get_or}
use Rattle.std.proofs.lemmas.List.Edits.{length-remove}
use Rattle.std.proofs.lemmas.List.Elements.{All-cons}
use Rattle.building_laws.specs.Lists.{Placed, strongs_in_list, conclusion}
use Rattle.building_laws.specs.Building.{instance_at}
use Rattle.arena_building.specs.Choosing.{ready_in}
use Rattle.arena_building.specs.Instances.{taken_as}
use Rattle.arena_building.specs.Leaves.{IsOpen}
use Rattle.arena_building.specs.Numbered.{Numbered, trees, IsNumbered}
use Rattle.arena_building.specs.Putting.{put}
use Rattle.arena_building.proofs.Chosen.{step_at_place, instance_placed, position_alike, ready_there}
use Rattle.arena_building.proofs.Numbers.{numbered_stay}
use Rattle.arena_building.proofs.Places.{step_there, passes_there, position_within}
use Rattle.arena_building.proofs.Puts.{all_put, all_removed}
use Rattle.arena_building.proofs.Takings.{tree_there, position_of_tree, numbered_at, numbered_instead, open_instead, conclusion_instead, behind_instead}
use Rattle.arena_building.proofs.steps.take_instance.Goals as goal

pub unreachable-requires : goal.unreachable-requires
unreachable-requires c =
    let l = c.args.list.items in
    let n = c.args.place in
    let q = c.remove-placed.result in
    let test = λ (q : Numbered). is_some (ready_in c.args.vars.now q.placed.tree) in
    let there : slice_get l n ≡ Some q = slice_get-get_or l n q (position_within test l n c.requires.place) ∙ ap Some (sym c.remove-placed.ensures.value) in
    let has : is_some (ready_in c.args.vars.now q.placed.tree) ≡ true = passes_there test l n q c.requires.place there in
    let lacks : is_some (ready_in c.args.vars.now q.placed.tree) ≡ false = ap is_some (sym c.ready.ensures ∙ c.in_default.is) in
    cc

pub instantiate-requires-clause-place : goal.instantiate-requires-clause-place
instantiate-requires-clause-place c = ready_there c.args.vars.now c.remove-placed.result.placed c.in-Some.instance (sym c.ready.ensures ∙ c.in-Some.is)

pub returns-clause-step : goal.returns-clause-step
returns-clause-step c =
    let b = c.instantiate.new.arena in
    let l = c.args.list.items in
    let n = c.args.place in
    let q = c.remove-placed.result in
    let i = c.in_ok-rule.field-0 in
    let vs = strongs_in_list (trees l) in
    let t = taken_as b i in
    let test = λ (q : Numbered). is_some (ready_in c.args.vars.now q.placed.tree) in
    let inside : n < length l = position_within test l n c.requires.place in
    let there : slice_get l n ≡ Some q = slice_get-get_or l n q inside ∙ ap Some (sym c.remove-placed.ensures.value) in
    let ready_at : position (λ (p : Placed). is_some (ready_in c.args.vars.now p.tree)) (trees l) ≡ Some n = position_of_tree (λ (p : Placed). is_some (ready_in c.args.vars.now p.tree)) l ∙ c.requires.place in
    let place : position (λ (p : Placed). is_some (instance_at vs p)) (trees l) ≡ Some n = position_alike vs (trees l) ∙ (sym c.requires.vars.place ∙ ready_at) in
    let some : instance_at vs q.placed ≡ Some t =
    instance_placed vs q.placed
    ∙ (ap (step_at_place q.placed) (sym (c.requires.vars.instance n q.placed ready_at (tree_there l n q there)) ∙ (sym c.ready.ensures ∙ c.in-Some.is)) ∙ c.in_ok-rule.ensures.step) in
    let rest : put (remove l n) n (i.others ∷ []) ≡ c.insert.new.self.items =
    (λ k. put (sym c.remove-placed.ensures.items k) n (i.others ∷ [])) ∙ sym c.in_ok-insert.ensures.items in
    let lists = behind_instead l n i.others i.child inside ∙ ap (λ (ps : List Numbered). put (trees ps) (n + 1) (i.child.placed ∷ [])) rest in
    step_there (instance_at vs) (trees l) n q.placed t place (tree_there l n q there) some
    ∙ (λ k. Some (record { rule = t.rule; premises = lists k ∷ [] }))

pub returns-clause-rest : goal.returns-clause-rest
returns-clause-rest c =
    let a = c.args.arena.now in
    let b = c.instantiate.new.arena in
    let l = c.args.list.items in
    let n = c.args.place in
    let q = c.remove-placed.result in
    let i = c.in_ok-rule.field-0 in
    let test = λ (q : Numbered). is_some (ready_in c.args.vars.now q.placed.tree) in
    let inside : n < length l = position_within test l n c.requires.place in
    let there : slice_get l n ≡ Some q = slice_get-get_or l n q inside ∙ ap Some (sym c.remove-placed.ensures.value) in
    let rest : put (remove l n) n (i.others ∷ []) ≡ c.insert.new.self.items =
    (λ k. put (sym c.remove-placed.ensures.items k) n (i.others ∷ [])) ∙ sym c.in_ok-insert.ensures.items in
    let number = numbered_instead b q i.others c.in_ok-rule.ensures.others (c.instantiate.ensures.grown _ _ (numbered_at a l n q inside c.requires.numbers there)) in
    let shorter : length (remove l n) + 1 ≡ length l = length-remove l n inside in
    let lengths : length (remove l n) ≡ length c.remove-placed.new.self.items = ap length (sym c.remove-placed.ensures.items) in
    record {
      numbers =
          subst (λ (ps : List Numbered). All (IsNumbered b) ps) rest
          (all_put (IsNumbered b) (remove l n) n (i.others ∷ []) (all_removed (IsNumbered b) l n (numbered_stay a b l c.instantiate.ensures.grown c.requires.numbers)) (All-cons (IsNumbered b) i.others [] number (search rules)));
      place = grind (arith, common_steps, c.in_ok-insert.ensures.len);
      open_leaves = subst (λ (ps : List Numbered). IsOpen (trees ps)) rest (open_instead l n q there i.others c.in_ok-rule.ensures.others c.requires.open_leaves);
    }

pub returns-clause-end : goal.returns-clause-end
returns-clause-end c =
    let l = c.args.list.items in
    let n = c.args.place in
    let q = c.remove-placed.result in
    let i = c.in_ok-rule.field-0 in
    let test = λ (q : Numbered). is_some (ready_in c.args.vars.now q.placed.tree) in
    let there : slice_get l n ≡ Some q = slice_get-get_or l n q (position_within test l n c.requires.place) ∙ ap Some (sym c.remove-placed.ensures.value) in
    let rest : put (remove l n) n (i.others ∷ []) ≡ c.insert.new.self.items =
    (λ k. put (sym c.remove-placed.ensures.items k) n (i.others ∷ [])) ∙ sym c.in_ok-insert.ensures.items in
    record {
      main = search rules;
      end = conclusion_instead l n q there i.others c.in_ok-rule.ensures.others ∙ ap (λ (ps : List Numbered). conclusion (trees ps)) rest;
    }
