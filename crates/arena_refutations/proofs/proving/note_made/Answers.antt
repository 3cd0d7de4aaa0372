-- The table has one proof more.
use Rattle.std.specs.BTreeMap as ordered
use Rattle.arena_cells.specs.Standing.{IsMapAt}
use Rattle.arena_refutations.specs.Planning.{IsMade, pair_cmp}
use Rattle.arena_refutations.proofs.Tables.{entered}
use Rattle.arena_refutations.proofs.proving.note_made.Goals as goal

pub returns-clause-made : goal.returns-clause-made
returns-clause-made c = λ place m.
    entered (λ z n. IsMapAt c.args.arena.now z.1 × IsMade c.args.arena.now c.args.clauses.now c.args.steps.now z.0 z.1 n) (c.args.place, c.args.map) (place, m) c.args.tree
    (ordered.get pair_cmp c.args.made.now (place, m)) (ordered.get pair_cmp c.insert.new.self (place, m)) (c.in_ok-insert.ensures.updates.0 (place, m)) (c.requires.map, c.requires.tree) (c.requires.made place m)
