-- The item of the tree is one.
use Rattle.std.proofs.Common.{◌∙◌}
use Rattle.cut_intro.proofs.TreeItems.{tuples_rising, same_item, right_item}
use Rattle.cut_intro.proofs.items.item_of.Goals as goal

pub from_rising-tuples-requires : goal.from_rising-tuples-requires
from_rising-tuples-requires c =
    tuples_rising c.args.side c.args.tree.now c.known.ensures c.in_ok-formula.formula c.in_ok-formula.ensures.value c.prefix.result c.prefix.ensures.value c.in_ok-tuples.tuples.items c.in_ok-tuples.ensures

pub new-requires : goal.new-requires
new-requires c =
    right_item c.args.side c.args.tree.now c.known.ensures c.in_ok-formula.formula c.in_ok-formula.ensures.value c.prefix.result c.prefix.ensures.value c.from_rising-tuples.result (c.from_rising-tuples.ensures ∙ c.in_ok-tuples.ensures) c.requires c.in_ok-formula.ensures.formed

pub returns : goal.returns
returns c =
    c.new.ensures
    ∙ same_item c.args.side c.args.tree.now c.known.ensures c.in_ok-formula.formula c.in_ok-formula.ensures.value c.prefix.result c.prefix.ensures.value c.from_rising-tuples.result (c.from_rising-tuples.ensures ∙ c.in_ok-tuples.ensures)
