-- The next node is that of the next number.
use Rattle.std.proofs.Common.{◌≡◌, ⊎_elim, sym, subst, ◌∙◌, arith}
use Rattle.std.specs.Prelude.{Some, slice_get}
use Rattle.arena_cells.specs.Standing.{IsTermAt}
use Rattle.arena_cells.proofs.Reading.{get_split}
use Rattle.numbered_terms.specs.Nodes.{IsNode}
use Rattle.numbered_terms.proofs.nodes.nodes.Goals as goal

pub loop-number-preserved : goal.loop-number-preserved
loop-number-preserved c =
    let a = c.args.cells.now in
    let before = c.loop-number.nodes.items in
    let number = c.loop-number.number in
    let made = c.in_ok-node_of.field-0 in
    let pushed = c.in_ok-push.ensures.items in
    record {
      so_many = omega (arith, c.in_ok-push.ensures.len, c.loop-number.invariant.so_many);
      each = λ n d e there.
          ⊎_elim {C = IsNode a n d}
          (λ old. c.loop-number.invariant.each n d old there)
          (λ new.
          let here : n ≡ number = new.0 ∙ c.loop-number.invariant.so_many in
          subst (IsNode a n) new.1 (subst (λ m. IsNode a m made) (sym here) (c.in_ok-node_of.ensures (subst (IsTermAt a) here there))))
          (get_split before made d n (subst (λ ds. slice_get ds n ≡ Some d) pushed e));
    }
