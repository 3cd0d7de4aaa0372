use Rattle.std.proofs.Common.{ℕ, List, ◌∷◌, ◌<◌, length, take, refl, subst}
use Rattle.std.specs.Io.KnownBytes.{Appends}
use Rattle.std.proofs.KnownBytes.{Appends-nil}
use Rattle.proof_server.specs.Turn.{AreInPart}
use Rattle.proof_server.proofs.Turns.{writing_in_part, writes_none, stopped_within, written_whole}
use Rattle.proof_server.proofs.session.Session.write.Goals as goal

pub returns-in-Err-clause-writes : goal.returns-in-Err-clause-writes
returns-in-Err-clause-writes g c = λ desk asked written dues w.
    writes_none (AreInPart asked) written _ _ (Appends-nil _) (writing_in_part desk c.args.self.now asked written (c.args.due ∷ dues) w)

pub returns-in-Err-write_whole-clause-writes : goal.returns-in-Err-write_whole-clause-writes
returns-in-Err-write_whole-clause-writes g c = λ desk asked written dues w.
    let failed = c.in-Err-write_whole.ensures in
    let told = c.in-Ok.ensures in
    let n = c.in-Err-write_whole.field-0.written in (
      failed.cause,
      stopped_within desk c.args.self.now asked written c.args.due dues w c.in-Ok.reply told.named told.held told.reply n _ _
          (subst (λ (x : List ℕ). n < length x) c.deref.ensures.value failed.within) (subst (λ (x : List ℕ). Appends (g.K.Sink.written c.args.sink.now) (g.K.Sink.written c.write_whole.new.sink) (take n x)) c.deref.ensures.value failed.partial),
    )

pub returns-clause-writes : goal.returns-clause-writes
returns-clause-writes g c = λ desk asked written dues w.
    let told = c.in-Ok.ensures in
    written_whole desk c.args.self.now asked written c.args.due dues w c.in-Ok.reply told.named told.held told.reply _ refl refl refl c.add.ensures
    c.keep.ensures.kept c.keep.ensures.room c.keep.ensures.same.0 c.keep.ensures.same.1 _ _
    (subst (λ (x : List ℕ). Appends (g.K.Sink.written c.args.sink.now) (g.K.Sink.written c.write_whole.new.sink) x) c.deref.ensures.value c.in-Ok-write_whole.ensures.ok)
