-- The place among the instances that are lent.
use Rattle.std.proofs.Common.{Bor, List, ap, sym, ◌∙◌}
use Rattle.std.specs.Prelude.{not}
use Rattle.std.specs.List.{position}
use Rattle.exp_tree.specs.declared.expansion.Inst.{Inst}
use Rattle.arena_building.specs.Choosing.{has_some, ready_in}
use Rattle.arena_building.specs.Numbered.{Numbered}
use Rattle.arena_building.specs.Shown.{tree_of}
use Rattle.arena_building.specs.declared.placed.Root.{Root}
use Rattle.arena_building.proofs.Chosen.{ready_lent}
use Rattle.arena_building.proofs.placed.PlacedExp.ready.Goals as goal

pub returns-in-Weak : goal.returns-in-Weak
returns-in-Weak c =
    let vs = c.args.vars.now in
    c.first_ready.ensures
    ∙ (ap (λ (is : List (Bor Inst)). position (λ (i : Bor Inst). not (has_some vs i.now.term)) is) c.deref.ensures.value
    ∙ (ready_lent (λ (i : Bor Inst). i.now) vs c.in-Weak.instances.items
    ∙ (ap (λ (r : Root). ready_in vs (tree_of r)) (sym c.in-Weak.is)
    ∙ ap (λ (q : Numbered). ready_in vs q.placed.tree) c.self.view_is)))
