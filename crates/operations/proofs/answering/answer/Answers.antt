-- What it came to is an answer to what the operation asks for, and what is shown as a proof without cuts is done.
use Rattle.std.proofs.Common.{map, sym, ap, ◌∙◌, subst}
use Rattle.std.proofs.lemmas.List.{length-map}
use Rattle.proof_graph.specs.declared.graph.Graph.{Graph}
use Rattle.proof_subst.specs.Benches.{graph_of}
use Rattle.cut_elim.specs.Desks.{bench_of}
use Rattle.held_values.specs.Means.{sense}
use Rattle.operations.specs.Means.{Comes}
use Rattle.operations.proofs.Asked.{some_answer, answered_to, claimed_to}
use Rattle.operations.proofs.answering.answer.Goals as goal

pub conclude-requires : goal.conclude-requires
conclude-requires g c =
    let a = some_answer (graph_of (bench_of c.args.desk.now)) c.run_given-ran.result _ c.run_given-ran.ensures.runs.runs.comes in
    (a.0, subst (λ (h : Graph). Comes h c.run_given-ran.result a.0) (sym (c.graph.ensures ∙ ap graph_of c.bench.ensures)) a.2)

pub returns-clause-answered : goal.returns-clause-answered
returns-clause-answered g c =
    let here = graph_of (bench_of c.args.desk.now) in
    answered_to _ _ here c.run_given-ran.result _
    (λ a comes. c.conclude.ensures.answered a (subst (λ (h : Graph). Comes h c.run_given-ran.result a) (sym (c.graph.ensures ∙ ap graph_of c.bench.ensures)) comes))
    c.run_given-ran.ensures.runs.runs.comes

pub returns-clause-claimed : goal.returns-clause-claimed
returns-clause-claimed g c =
    let op = c.args.op.now in
    let vs = map sense c.args.given.now in
    let here = graph_of (bench_of c.args.desk.now) in
    let formed = c.requires.op in
    let count = length-map c.args.given.now sense ∙ c.requires.count in
    claimed_to op vs _ _ here c.run_given-ran.result
    (λ a comes. c.conclude.ensures.answered a (subst (λ (h : Graph). Comes h c.run_given-ran.result a) (sym (c.graph.ensures ∙ ap graph_of c.bench.ensures)) comes))
    (λ made may. c.claims.ensures.claimed op vs made formed count c.are_sound.ensures may)
    (λ made may. c.claims.ensures.valid op vs made formed c.are_sound.ensures may)
    c.run_given-ran.ensures.runs.runs.comes

pub returns-clause-noted : goal.returns-clause-noted
returns-clause-noted g c = λ shown. c.run_given-ran.ensures.noted (c.conclude.ensures.reduced shown)

pub returns-clause-eliminations_unchanged : goal.returns-clause-eliminations_unchanged
returns-clause-eliminations_unchanged g c = λ refused other.
    c.run_given-ran.ensures.runs.eliminations_unchanged (c.conclude.ensures.refused refused) (λ short. other (c.conclude.ensures.budget short))
