-- The closures stand, and make the sequent.
use Rattle.std.proofs.Common.{List, map, ap, ◌∙◌}
use Rattle.std.specs.Prelude.{Some}
use Rattle.fol.specs.Syntax.{Formula}
use Rattle.finite.specs.Finite as set
use Rattle.arena_cells.specs.Items.{sequent}
use Rattle.arena_cells.specs.Standing.{formula_at}
use Rattle.arena_cells.proofs.Staying.{formula_there, formulas_stay}
use Rattle.arena_refutations.proofs.closing.close_clauses.Goals as goal

pub returns-clause-closed : goal.returns-clause-closed
returns-clause-closed c =
    let a = c.close_each.new.arena in
    let b = c.put_left.new.arena in
    let each = c.in_ok-closures.ensures in
    record {
      there = λ k d l. formula_there a b c.put_left.ensures.grown _ (each.there k d l);
      each = formulas_stay a b c.put_left.ensures.grown c.in_ok-closures.closures.items each.there ∙ each.closures;
      end = c.in_ok-end.ensures.sequent
          ∙ ap (λ (fs : List Formula). Some (sequent (record { left = set.of_list fs; right = set.empty }))) (ap (map (formula_at a)) c.deref.ensures.value ∙ each.closures);
    }
