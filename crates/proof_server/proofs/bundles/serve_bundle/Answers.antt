use Rattle.std.proofs.Common.{List, sym, subst}
use Rattle.std.specs.List.{AllZip}
use Rattle.proof_server.specs.Parts.{IsServed}
use Rattle.proof_server.specs.declared.parts.Done.{Done}
use Rattle.proof_server.proofs.Midway.{Rose-since}
use Rattle.proof_server.proofs.Bundled.{not_flushed}
use Rattle.proof_server.proofs.bundles.serve_bundle.Goals as goal

pub returns-in-Ok-put_sessions : goal.returns-in-Ok-put_sessions
returns-in-Ok-put_sessions g c =
    let parts = c.in-Parts.parts.items in
    let writes = c.in-Ok-put_sessions.ensures.writes parts (subst (λ (dones : List Done). AllZip IsServed parts dones) (sym c.deref.ensures.value) c.in-Ok.ensures) in
    record {
      ends = (
        Rose-since (g.K.Sink.faults c.args.sink.now) (g.K.Sink.faults c.put_sessions.new.sink) (g.K.Sink.faults c.flush.new.self)
            c.put_sessions.ensures.kept c.in-Err-flush.ensures.cause,
        not_flushed parts (g.S.Source.left c.args.source.now) (g.S.Source.left c.read_bundle.new.source) c.in-Parts.ensures.reads c.in-Ok-put_sessions.good
            (g.K.Sink.faults c.args.sink.now) (g.K.Sink.faults c.put_sessions.new.sink)
            (g.K.Sink.written c.args.sink.now) (g.K.Sink.written c.put_sessions.new.sink) (g.K.Sink.written c.flush.new.self) writes c.flush.ensures.bytes,
      );
    }
