-- The end sequent is the one at its number.
use Rattle.std.proofs.Common.{subst}
use Rattle.lk_rules.specs.declared.sequent.Sequent.{Sequent}
use Rattle.arena_cells.proofs.Staying.{is_sequent}
use Rattle.arena_flat.specs.Short.{HasShortSides}
use Rattle.arena_flat.proofs.trees.end_is_short.Goals as goal

pub returns : goal.returns
returns c = subst (λ (s : Sequent). HasShortSides s) (is_sequent c.args.from.now c.end.result _ c.end.ensures) c.sides_are_short.ensures
