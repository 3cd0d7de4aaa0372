-- Candidates that are right are what was asked for. Else a second turn goes on from the first.
use Rattle.std.proofs.Common.{◌∙◌, subst}
use Rattle.std.specs.List.{All}
use Rattle.std.proofs.lemmas.Result.{IfOk-weaker}
use Rattle.proof_graph.specs.History.{AddsAtMostEach}
use Rattle.proof_graph.specs.Entered.{IsRight, made_in}
use Rattle.proof_graph.specs.Graphs.{history}
use Rattle.proof_graph.proofs.Several.{stand_each}
use Rattle.proof_graph.proofs.Candidates.{right_keys, adds_later_each}
use Rattle.proof_graph.proofs.graph.Graph.add_each.Goals as goal

pub returns-then-are_right-clause-keys : goal.returns-then-are_right-clause-keys
returns-then-are_right-clause-keys g c =
    let right : All IsRight c.in_ok-entered.entered.items = subst (All IsRight) c.deref.ensures.value (c.are_right.ensures c.if-are_right.true) in
    right_keys c.in_ok-entered.entered.items right ∙ c.in_ok-entered.ensures.keys

pub intern_left_each-requires-clause-stand : goal.intern_left_each-requires-clause-stand
intern_left_each-requires-clause-stand g c =
    let adds = c.in_ok-entered.ensures.adds in
    stand_each adds.0 (made_in c.in_ok-entered.entered.items) (history c.enter_each.new.pass) adds.2

pub returns-clause-adds : goal.returns-clause-adds
returns-clause-adds g c =
    let old = history c.args.pass.now in
    let mid = history c.enter_each.new.pass in
    let new = history c.intern_left_each.new.pass in
    IfOk-weaker c.intern_left_each.result (λ es. AddsAtMostEach mid (made_in es.items) new) (λ es. AddsAtMostEach old (made_in es.items) new)
    (λ es adds. adds_later_each old mid (made_in es.items) new c.enter_each.ensures.grown adds) c.intern_left_each.ensures.adds
