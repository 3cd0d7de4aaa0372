-- The rules for the negation stand over the axioms.
use Rattle.arena_cells.proofs.Staying.{sequent_there}
use Rattle.arena_cells.proofs.Facts as facts
use Rattle.arena_interp.proofs.LastInferences.{larger, made_same}
use Rattle.arena_interp.proofs.LeafLaws.{negated_axiom}
use Rattle.arena_interp.proofs.leaves.across.Goals as goal

pub conclude-requires-clause-one : goal.conclude-requires-clause-one
conclude-requires-clause-one c = sequent_there c.args.arena.now c.put.new.self (larger _ c.axioms_above.new.arena _ c.axioms_above.ensures.grown c.put.ensures.grown) c.args.one c.requires.one

pub conclude-requires-clause-two : goal.conclude-requires-clause-two
conclude-requires-clause-two c = sequent_there c.args.arena.now c.put.new.self (larger _ c.axioms_above.new.arena _ c.axioms_above.ensures.grown c.put.ensures.grown) c.args.two c.requires.two

pub conclude-requires-clause-formula : goal.conclude-requires-clause-formula
conclude-requires-clause-formula c = facts.formula_there c.put.new.self c.in_ok-negation.negation _ c.in_ok-negation.ensures.stands

pub conclude-requires-clause-first : goal.conclude-requires-clause-first
conclude-requires-clause-first c = record {
  rule = facts.formula_there c.put.new.self c.in_ok-negation.negation _ c.in_ok-negation.ensures.stands;
  premises = facts.tree_there c.put.new.self c.in_ok-left.left _ (c.put.ensures.grown c.in_ok-left.left _ c.in_ok-left.ensures.first);
}

pub conclude-requires-clause-second : goal.conclude-requires-clause-second
conclude-requires-clause-second c = record {
  rule = facts.formula_there c.put.new.self c.in_ok-negation.negation _ c.in_ok-negation.ensures.stands;
  premises = facts.tree_there c.put.new.self c.in_ok-left.right _ (c.put.ensures.grown c.in_ok-left.right _ c.in_ok-left.ensures.second);
}

pub returns-clause-made : goal.returns-clause-made
returns-clause-made c =
    made_same c.conclude.result c.conclude.new.arena _ _
    (negated_axiom c.args.arena.now c.axioms_above.new.arena c.put.new.self c.axioms_above.ensures.grown c.put.ensures.grown c.args.formula c.args.one c.args.two c.in_ok-negation.negation c.in_ok-left.left c.in_ok-left.right c.requires.formula c.requires.one c.requires.two
    c.in_ok-left.ensures.first c.in_ok-left.ensures.second c.in_ok-negation.ensures.stands) c.conclude.ensures.made

pub returns-clause-grown : goal.returns-clause-grown
returns-clause-grown c = larger _ _ _ (larger _ _ _ c.axioms_above.ensures.grown c.put.ensures.grown) c.conclude.ensures.grown
