use Rattle.std.proofs.Common.{ℕ, List, subst}
use Rattle.proof_server.specs.Writing.{Puts}
use Rattle.proof_server.specs.Bundles.{switch_line}
use Rattle.proof_server.proofs.Puts.{puts_first, puts_both}
use Rattle.proof_server.proofs.bundles.put_session.Goals as goal

pub returns-in-Err-clause-puts : goal.returns-in-Err-clause-puts
returns-in-Err-clause-puts g c =
    puts_first c.in-Err.failed (switch_line c.args.done.now.session) c.args.done.now.bytes.items
    (g.K.Sink.faults c.args.sink.now) (g.K.Sink.faults c.put_numbered.new.sink)
    (g.K.Sink.written c.args.sink.now) (g.K.Sink.written c.put_numbered.new.sink) c.in-Err.ensures.puts

pub returns-in-Ok-clause-puts : goal.returns-in-Ok-clause-puts
returns-in-Ok-clause-puts g c =
    puts_both c.put.result (switch_line c.args.done.now.session) c.args.done.now.bytes.items (g.K.Sink.faults c.args.sink.now) (g.K.Sink.faults c.put_numbered.new.sink)
    (g.K.Sink.faults c.put.new.sink) (g.K.Sink.written c.args.sink.now) (g.K.Sink.written c.put_numbered.new.sink) (g.K.Sink.written c.put.new.sink)
    c.put_numbered.ensures.kept c.in-Ok.ensures.puts
    (subst (λ (piece : List ℕ). Puts c.put.result piece (g.K.Sink.faults c.put_numbered.new.sink) (g.K.Sink.faults c.put.new.sink)
    (g.K.Sink.written c.put_numbered.new.sink) (g.K.Sink.written c.put.new.sink)) c.deref.ensures.value c.put.ensures.puts)
