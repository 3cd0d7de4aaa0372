-- The formulas of each side are well formed.
use Rattle.std.proofs.Common.{ap, sym, ◌∙◌}
use Rattle.std.specs.List.{list_all}
use Rattle.std.proofs.lemmas.List.Sums.{list_all-from_AllPass}
use Rattle.fol.specs.Formed.{is_formed}
use Rattle.arena_graph.proofs.imports.see_formed.Goals as goal

pub returns : goal.returns
returns c = record {
  left = ap (list_all is_formed) (sym c.left-left.ensures.listing) ∙ list_all-from_AllPass is_formed c.left-left.result.now c.left-left.ensures.formed;
  right = ap (list_all is_formed) (sym c.right-right.ensures.listing) ∙ list_all-from_AllPass is_formed c.right-right.result.now c.right-right.ensures.formed;
}
