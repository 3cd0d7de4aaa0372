use Rattle.std.proofs.Common.{◌≡◌, ℕ, List, refl, sym, ap, ◌∙◌, subst}
use Rattle.std.proofs.lemmas.List.{map-id}
use Rattle.std.proofs.lemmas.Slice.Zip.{AllZip-map}
use Rattle.edge_io.specs.Lines.{lines_of}
use Rattle.edge_io.specs.Memory.{SinkState}
use Rattle.proof_server.specs.Parts.{Comes}
use Rattle.proof_server.proofs.Served.{comes, comes_to_nothing}
use Rattle.proof_server.proofs.parts.serve_part.Goals as goal

pub returns-in-Err-clause-served : goal.returns-in-Err-clause-served
returns-in-Err-clause-served g c =
    let lines = lines_of c.args.part.now.bytes.items in
    record {
      session = refl;
      comes = subst (λ (written : List ℕ). Comes lines 5 written) (sym c.new.ensures.items) (comes_to_nothing lines);
    }

pub returns-clause-served : goal.returns-clause-served
returns-clause-served g c =
    let part = c.args.part.now in
    let served = c.serve_on-status in
    let sink = served.new.sink in
    let bytes : c.in-Ok.bytes.items ≡ part.bytes.items =
    AllZip-map (λ (b : ℕ). b) part.bytes.items c.in-Ok.bytes.items c.in-Ok.ensures.cases.0 ∙ map-id part.bytes.items in
    record {
      session = refl;
      comes = subst (λ (written : List ℕ). Comes (lines_of part.bytes.items) c.status_in_memory.result written) (sym c.into_bytes.ensures)
          (comes part.bytes.items sink.written _ _ _ _ served.result c.status_in_memory.result c.requires.short
          c.status_in_memory.ensures.fault c.status_in_memory.ensures.same c.new-source.result c.new-sink.result.written
          (c.new-source.ensures ∙ bytes) (ap (λ (s : SinkState). s.written) c.new-sink.ensures) served.ensures.served);
    }
