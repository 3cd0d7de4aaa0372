use Rattle.std.proofs.Common.{ℕ, List, [], ◌∷◌, ◌++◌, decimal, ◌∙◌, subst}
use Rattle.proof_server.specs.Writing.{Puts}
use Rattle.proof_server.proofs.Puts.{puts_first, puts_both}
use Rattle.proof_server.proofs.writing.put_numbered.Goals as goal

pub returns-in-Err-clause-puts : goal.returns-in-Err-clause-puts
returns-in-Err-clause-puts g c =
    puts_first c.in-Err.failed c.args.text.now (decimal c.args.number ++ 10 ∷ []) (g.K.Sink.faults c.args.sink.now) (g.K.Sink.faults c.put.new.sink)
    (g.K.Sink.written c.args.sink.now) (g.K.Sink.written c.put.new.sink) c.in-Err.ensures.puts

pub returns-in-Ok-clause-puts : goal.returns-in-Ok-clause-puts
returns-in-Ok-clause-puts g c =
    puts_both c.put_both.result c.args.text.now (decimal c.args.number ++ 10 ∷ []) (g.K.Sink.faults c.args.sink.now) (g.K.Sink.faults c.put.new.sink)
    (g.K.Sink.faults c.put_both.new.sink) (g.K.Sink.written c.args.sink.now) (g.K.Sink.written c.put.new.sink) (g.K.Sink.written c.put_both.new.sink)
    c.put.ensures.kept c.in-Ok.ensures.puts
    (subst (λ (digits : List ℕ). Puts c.put_both.result (digits ++ 10 ∷ []) (g.K.Sink.faults c.put.new.sink) (g.K.Sink.faults c.put_both.new.sink)
    (g.K.Sink.written c.put.new.sink) (g.K.Sink.written c.put_both.new.sink)) (c.as_bytes.ensures.value ∙ c.format.ensures.text) c.put_both.ensures.puts)
