-- A clause is empty exactly where its number is that of the empty sequent.
use Rattle.std.proofs.Common.{◌∙◌, ap}
use Rattle.std.specs.Prelude.{Some}
use Rattle.arena_cells.specs.Items.{sequent}
use Rattle.arena_cells.specs.Standing.{sequent_at}
use Rattle.arena_refutations.proofs.ClauseLaws.{nothing_tested}
use Rattle.arena_refutations.proofs.clauses.is_nothing.Goals as goal

pub returns-clause-value : goal.returns-clause-value
returns-clause-value c =
    nothing_tested c.import_sequent.new.self c.known.ensures c.args.clause c.in_ok-nothing.nothing (sequent_at c.args.arena.now c.args.clause) (c.import_sequent.ensures.grown _ _ c.requires)
    (c.in_ok-nothing.ensures.sequent ∙ ap (λ s. Some (sequent s)) c.empty.ensures)
