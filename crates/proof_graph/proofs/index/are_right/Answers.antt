-- One more is right.
use Rattle.std.proofs.Common.{◌<◌, length, subst, arith, rules}
use Rattle.std.proofs.lemmas.List.Elements.{All-more}
use Rattle.proof_graph.specs.Entered.{IsRight}
use Rattle.proof_graph.proofs.index.are_right.Goals as goal

pub loop-one-preserved : goal.loop-one-preserved
loop-one-preserved c =
    let within : c.loop-one.one-index < length c.args.entered.now = omega arith in
    let right : IsRight c.one-item.result = c.is_right.ensures.0 (search rules) in
    All-more IsRight c.args.entered.now c.loop-one.one-index c.one-item.result within c.loop-one.invariant (subst IsRight c.one-item.is right)
