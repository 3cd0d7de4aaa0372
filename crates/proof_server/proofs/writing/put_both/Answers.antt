use Rattle.proof_server.proofs.Puts.{puts_first, puts_both}
use Rattle.proof_server.proofs.writing.put_both.Goals as goal

pub returns-in-Err-clause-puts : goal.returns-in-Err-clause-puts
returns-in-Err-clause-puts g c =
    puts_first c.in-Err.failed c.args.first.now c.args.second.now (g.K.Sink.faults c.args.sink.now) (g.K.Sink.faults c.put.new.sink)
    (g.K.Sink.written c.args.sink.now) (g.K.Sink.written c.put.new.sink) c.in-Err.ensures.puts

pub returns-in-Ok-clause-puts : goal.returns-in-Ok-clause-puts
returns-in-Ok-clause-puts g c =
    puts_both c.put-in-Ok.result c.args.first.now c.args.second.now (g.K.Sink.faults c.args.sink.now) (g.K.Sink.faults c.put.new.sink) (g.K.Sink.faults c.put-in-Ok.new.sink)
    (g.K.Sink.written c.args.sink.now) (g.K.Sink.written c.put.new.sink) (g.K.Sink.written c.put-in-Ok.new.sink)
    c.put.ensures.kept c.in-Ok.ensures.puts c.put-in-Ok.ensures.puts
