-- One clause more stands at its number.
use Rattle.std.proofs.Common.{map, ap, ◌∙◌}
use Rattle.arena_cells.specs.Standing.{sequent_at}
use Rattle.refutations.specs.Clauses.{closures}
use Rattle.arena_refutations.proofs.Refuted.{begun_more}
use Rattle.arena_refutations.proofs.clauses.derive_clauses.Goals as goal

pub loop-number-preserved : goal.loop-number-preserved
loop-number-preserved c =
    let a = c.loop-number.arena in
    let begun = c.loop-number.invariant.begun in
    let found = c.in-Ok.ensures.value (closures c.args.clauses.now) begun.derived (ap (map (sequent_at a)) c.deref.ensures.value ∙ begun.clauses.same) in
    record {
      grown = λ n t h. c.derive_clause.ensures.grown n t (c.loop-number.invariant.grown n t h);
      begun = begun_more a c.derive_clause.new.arena c.derive_clause.ensures.grown c.args.clauses.now c.args.steps.now c.loop-number.derived.items c.push.new.self.items c.loop-number.number c.index-steps-number.result c.in-Ok.clause
          c.loop-number-test.true c.index-steps-number.is c.in-Ok-push.ensures.items begun found;
    }
