-- A candidate that is right is what was asked for. Else a second turn goes on from the first.
use Rattle.std.proofs.Common.{◌≡◌, refl, ◌∙◌}
use Rattle.proof_graph.specs.References.{key_of}
use Rattle.proof_graph.specs.Entered.{key_entered}
use Rattle.proof_graph.specs.Graphs.{history}
use Rattle.proof_graph.proofs.Standing.{stands_after}
use Rattle.proof_graph.proofs.Candidates.{right_key, adds_as, adds_later}
use Rattle.proof_graph.proofs.graph.Graph.add.Goals as goal

pub returns-then-is_right-clause-adds : goal.returns-then-is_right-clause-adds
returns-then-is_right-clause-adds g c =
    let entered = c.in_ok-entered.entered in
    let right : key_of entered.made ≡ c.args.key = right_key entered (c.is_right.ensures.0 c.if-is_right.true) ∙ c.in_ok-entered.ensures.key in
    adds_as (history c.args.pass.now) (key_of entered.made) c.args.key entered.made c.settle.result (history c.enter.new.pass) right c.settle.ensures.made c.in_ok-entered.ensures.adds

pub intern_left-requires-clause-stands : goal.intern_left-requires-clause-stands
intern_left-requires-clause-stands g c =
    let made = c.in_ok-entered.entered.made in
    stands_after (history c.args.pass.now) (history c.enter.new.pass) (key_of made) made refl c.in_ok-entered.ensures.adds

pub returns-clause-adds : goal.returns-clause-adds
returns-clause-adds g c =
    let old = history c.args.pass.now in
    let mid = history c.enter.new.pass in
    let new = history c.intern_left.new.pass in
    adds_later old mid c.args.key c.settle-2.result new c.enter.ensures.grown
    (adds_as mid (key_entered c.in_ok-entered.entered) c.args.key c.in_ok-entered-2.entered.made c.settle-2.result new c.in_ok-entered.ensures.key c.settle-2.ensures.made c.in_ok-entered-2.ensures.adds)
