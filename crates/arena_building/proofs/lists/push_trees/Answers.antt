-- One more tree.
use Rattle.std.proofs.Common.{◌≡◌, List, [], ◌∷◌, ◌++◌, map, take, append_assoc, sym, ap, subst, ◌∙◌}
use Rattle.std.specs.List.{All}
use Rattle.std.proofs.lemmas.List.{map-append, take_more}
use Rattle.std.proofs.lemmas.List.Elements.{All-push}
use Rattle.building_laws.specs.Lists.{Placed, on}
use Rattle.arena_building.specs.Numbered.{Numbered, trees, IsNumbered}
use Rattle.arena_building.proofs.Numbers.{numbered_stay}
use Rattle.arena_building.proofs.lists.push_trees.Goals as goal

pub loop-tree-preserved : goal.loop-tree-preserved
loop-tree-preserved c =
    let b = c.place_tree.new.arena in
    let s = c.args.side in
    let es = c.args.trees.now in
    let i = c.loop-tree.tree-index in
    let qs = c.loop-tree.list.items in
    let q = c.in_ok-place_tree.field-0 in
    let before : List Placed = trees c.args.list.now.items in
    let one : q.placed ≡ on s (c.tree-item.result) = c.in_ok-place_tree.ensures.placed in
    record {
      grown = λ n t h. c.place_tree.ensures.grown n t (c.loop-tree.invariant.grown n t h);
      numbers =
          subst (λ (ps : List Numbered). All (IsNumbered b) ps) (sym c.in_ok-push.ensures.items)
          (All-push (IsNumbered b) qs q (numbered_stay c.loop-tree.arena b qs c.place_tree.ensures.grown c.loop-tree.invariant.numbers) c.in_ok-place_tree.ensures.number);
      trees =
          ap trees c.in_ok-push.ensures.items
          ∙ map-append (λ (p : Numbered). p.placed) qs (q ∷ [])
          ∙ (λ k. c.loop-tree.invariant.trees k ++ ((one ∙ ap (on s) c.tree-item.is) k ∷ []))
          ∙ append_assoc before (map (on s) (take i es)) _
          ∙ ap (λ (ps : List Placed). before ++ ps) (sym (map-append (on s) (take i es) _) ∙ ap (map (on s)) (sym (take_more es i _ c.loop-tree-test.true)));
    }
