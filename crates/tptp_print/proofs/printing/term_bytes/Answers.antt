use Rattle.std.proofs.Common.{slice_index, [], ◌++◌, ◌∙◌, arith}
use Rattle.tptp_print.specs.Canonical.{canonical_term, term_text}
use Rattle.tptp_print.proofs.Agreement.{Agree, term_agrees}
use Rattle.tptp_print.proofs.printing.term_bytes.Goals as goal

pub returns : goal.returns
unfolding canonical_term
returns c =
    let t = c.args.term.now in
    let none : Agree (slice_index []) (λ d. d) 0 = λ d below. absurd (omega arith) in
    c.in_ok-push_term.ensures
    ∙ (λ i. c.new-out.ensures.items i ++ term_text (slice_index []) 0 t)
    ∙ term_agrees (slice_index []) (λ d. d) 0 none 0 (omega arith) t c.requires
