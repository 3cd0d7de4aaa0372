-- Each formula of a set of well-formed ones is well formed.
use Rattle.std.proofs.Common.{List, map, sym, ap, ◌∙◌, subst}
use Rattle.std.specs.List.{All, list_all}
use Rattle.fol.specs.Syntax.{Formula}
use Rattle.fol.specs.Formed.{is_formed, IsFormed}
use Rattle.finite.specs.Finite as set
use Rattle.arena_cells.specs.Standing.{formula_at}
use Rattle.arena.proofs.SideLaws.{formed_members}
use Rattle.arena.proofs.arena.Arena.export_side.Goals as goal

pub from_vec-requires : goal.from_vec-requires
from_vec-requires c =
    subst (λ (fs : List Formula). All IsFormed fs) (sym c.in_ok-list.ensures)
    (formed_members (map (formula_at c.args.self.now) c.side_numbers.result.now) (ap (λ s. list_all is_formed (set.listing s)) (sym c.side_numbers.ensures.shown) ∙ c.requires.formed))
