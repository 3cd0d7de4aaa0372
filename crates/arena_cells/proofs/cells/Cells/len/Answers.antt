-- There are as many things as cells.
use Rattle.std.proofs.Common.{length, sym, ap, ◌∙◌}
use Rattle.arena_cells.proofs.Growth.{items-length}
use Rattle.arena_cells.proofs.cells.Cells.len.Goals as goal

pub returns : goal.returns
returns c = c.len.ensures.len ∙ sym (items-length c.self.inside) ∙ ap length c.self.view_is
