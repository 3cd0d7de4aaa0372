-- Two more numbers are mixed in.
use Rattle.std.proofs.Common.{ℕ, length, take, drop, ◌-◌, ap, ◌∙◌}
use Rattle.arena_cells.specs.Keys.{mixed_pairs}
use Rattle.fol.specs.Mixing.{mixed}
use Rattle.arena_cells.proofs.Pairs.{two_more}
use Rattle.arena_cells.proofs.same_keys.with_numbers.Goals as goal

pub loop-rest-preserved : goal.loop-rest-preserved
loop-rest-preserved c =
    let xs = c.loop-rest.rest.now in
    ap (λ (p : ℕ). mixed_pairs p (take (length xs - 2) (drop 2 xs))) (c.mix-mixed.ensures ∙ ap (mixed c.loop-rest.mixed) c.pair.ensures)
    ∙ two_more c.loop-rest.mixed xs c.in-len2-up.len_at_least ∙ c.loop-rest.invariant
