use Rattle.std.proofs.Common.{◌≡◌, ◌∙◌, ℕ, subst, arith}
use Rattle.job_gen.specs.Generated.{generated_line}
use Rattle.proof_server.proofs.GeneratedLines.{not_too_long}
use Rattle.proof_server.proofs.GeneratedRuns.{IsCounting, start, go_on, all_counted}
use Rattle.proof_server.proofs.generating.count_replies.Goals as goal

pub loop-i-init : goal.loop-i-init
loop-i-init g c = start c.args.desk.now c.args.session.now c.requires

pub loop-i-preserved : goal.loop-i-preserved
loop-i-preserved g c =
    let i = c.loop-i.i in
    let so_far = c.loop-i.invariant in
    let line = c.lines.ensures.one i in
    go_on c.args.desk.now i c.loop-i.session c.take.new.self so_far line _ _
    (c.in-Ok.ensures.takes so_far.asked so_far.written line.text so_far.at
    (c.as_slice.ensures.value ∙ c.in_ok-line.ensures line.text line.ends, not_too_long (generated_line i) line.text line.ends (c.lines.ensures.short i)))
    c.in-Ok.ensures.few

pub returns-in-Ok-run-clause-counts : goal.returns-in-Ok-run-clause-counts
returns-in-Ok-run-clause-counts g c =
    let last : c.loop-i.i ≡ c.args.n = omega arith in
    let so_far : IsCounting c.args.desk.now c.args.n c.loop-i.session = subst (λ (i : ℕ). IsCounting c.args.desk.now i c.loop-i.session) last c.loop-i.invariant in
    let ran = c.in-Ok-run.ensures in
    all_counted c.held_proofs.ensures.claimed c.args.desk.now c.args.n c.loop-i.session c.run.new.self so_far _ _
    (ran.goes so_far.asked so_far.written so_far.at) ran.empty c.if-not-session.true
