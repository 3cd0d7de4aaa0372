-- One item more is known.
use Rattle.std.proofs.Common.{subst, arith}
use Rattle.std.specs.List.{All}
use Rattle.std.proofs.lemmas.List.{take_all}
use Rattle.std.proofs.lemmas.List.Elements.{All-more}
use Rattle.delta_table.specs.Items.{IsItem}
use Rattle.delta_table.proofs.BestRow.{few_tuples}
use Rattle.delta_table.proofs.candidates.known_items.Goals as goal

pub loop-item-preserved : goal.loop-item-preserved
loop-item-preserved c =
    All-more IsItem c.args.items.now c.loop-item.item-index c.item-item.result (omega arith) c.loop-item.invariant (subst IsItem c.item-item.is c.known.ensures)

pub returns-clause-known : goal.returns-clause-known
returns-clause-known c = subst (All IsItem) (take_all c.loop-item.item-index c.args.items.now (omega arith)) c.loop-item.invariant

pub returns-clause-few : goal.returns-clause-few
returns-clause-few c = few_tuples c.args.items.now (subst (All IsItem) (take_all c.loop-item.item-index c.args.items.now (omega arith)) c.loop-item.invariant) c.requires
