-- Both inferences stand in the end.
use Rattle.std.proofs.Common.{ap, ◌∙◌}
use Rattle.std.specs.Prelude.{Some}
use Rattle.proof_trees.specs.Trees.{Tree}
use Rattle.lk_rules.specs.declared.sequent.Side.TheVariants.{Left}
use Rattle.arena_cells.specs.Items.{tree}
use Rattle.arena_cells.proofs.Staying.{sequent_there, formula_there}
use Rattle.arena_interp.proofs.LastInferences.{ending_there, ended_stays}
use Rattle.arena_interp.proofs.endings.conclude.Goals as goal

pub infer_with-requires-2-clause-sequent : goal.infer_with-requires-2-clause-sequent
infer_with-requires-2-clause-sequent c = sequent_there c.args.arena.now c.infer_with.new.arena c.infer_with.ensures.grown c.args.two c.requires.two

pub infer_with-requires-2-clause-formula : goal.infer_with-requires-2-clause-formula
infer_with-requires-2-clause-formula c = formula_there c.args.arena.now c.infer_with.new.arena c.infer_with.ensures.grown c.args.formula c.requires.formula

pub infer_with-requires-2-clause-ending : goal.infer_with-requires-2-clause-ending
infer_with-requires-2-clause-ending c = ending_there c.args.arena.now c.infer_with.new.arena c.infer_with.ensures.grown c.args.second c.requires.second

pub returns-clause-made : goal.returns-clause-made
returns-clause-made c =
    let a = c.args.arena.now in
    let b = c.infer_with.new.arena in
    let grown = c.infer_with.ensures.grown in
    let more = c.infer_with-2.ensures.grown in
    record {
      formula = more c.args.formula _ (grown c.args.formula _ c.requires.formula);
      first = more c.in_ok-first.first _ c.in_ok-first.ensures.tree;
      second = c.in_ok-second.ensures.tree ∙ ap (λ (t : Tree). Some (tree t)) (ended_stays a b grown c.args.second c.args.two c.args.formula Left c.requires.second c.requires.two c.requires.formula);
    }
