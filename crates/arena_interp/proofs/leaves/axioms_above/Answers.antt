-- Both axioms stand in the end.
use Rattle.std.proofs.Common.{ap, ◌∙◌}
use Rattle.std.specs.Prelude.{Some}
use Rattle.proof_trees.specs.Trees.{Tree}
use Rattle.lk_rules.specs.declared.sequent.Side.TheVariants.{Right}
use Rattle.arena_cells.specs.declared.key.RuleKey.TheVariants.{Ax}
use Rattle.arena_cells.specs.declared.key.Parts.TheVariants.{Zero}
use Rattle.arena_cells.specs.Items.{tree}
use Rattle.arena_cells.proofs.Staying.{sequent_there, formula_there}
use Rattle.arena_interp.specs.declared.endings.Ending.{Ending}
use Rattle.arena_interp.proofs.LastInferences.{ended_stays}
use Rattle.arena_interp.proofs.leaves.axioms_above.Goals as goal

pub infer_with-requires-2-clause-sequent : goal.infer_with-requires-2-clause-sequent
infer_with-requires-2-clause-sequent c = sequent_there c.args.arena.now c.infer_with.new.arena c.infer_with.ensures.grown c.args.two c.requires.two

pub infer_with-requires-2-clause-formula : goal.infer_with-requires-2-clause-formula
infer_with-requires-2-clause-formula c = formula_there c.args.arena.now c.infer_with.new.arena c.infer_with.ensures.grown c.args.formula c.requires.formula

pub infer_with-requires-2-clause-ending : goal.infer_with-requires-2-clause-ending
infer_with-requires-2-clause-ending c = record { rule = formula_there c.args.arena.now c.infer_with.new.arena c.infer_with.ensures.grown c.args.formula c.requires.formula; premises = tt }

pub returns-clause-first : goal.returns-clause-first
returns-clause-first c = c.infer_with-2.ensures.grown c.in_ok-first.first _ c.in_ok-first.ensures.tree

pub returns-clause-second : goal.returns-clause-second
returns-clause-second c =
    let end : Ending = record { rule = Ax c.args.formula; premises = Zero } in
    c.in_ok-second.ensures.tree
    ∙ ap (λ (t : Tree). Some (tree t))
    (ended_stays c.args.arena.now c.infer_with.new.arena c.infer_with.ensures.grown end c.args.two c.args.formula Right (record { rule = c.requires.formula; premises = tt }) c.requires.two c.requires.formula)
