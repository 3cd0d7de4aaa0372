use Rattle.std.proofs.Common.{◌∙◌, arith}
use Rattle.proof_server.proofs.GeneratedLines.{without_newline}
use Rattle.proof_server.proofs.generating.generated_text.Goals as goal

pub returns : goal.returns
returns c = λ text is.
    let line = c.in_ok-line.line in
    without_newline line.items c.pop.new.self.items text line.len c.pop.ensures.rest (omega (arith, line.ok.0)) (c.in_ok-line.ensures ∙ is)
