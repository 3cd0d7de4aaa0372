use Rattle.std.proofs.Common.{sym, ◌∙◌}
use Rattle.tptp_tokens.proofs.SameBytes.{same_word}
use Rattle.tptp_tokens.proofs.pool.is_text.Goals as goal

pub returns-then-other-first : goal.returns-then-other-first
returns-then-other-first c same =
    sym c.as_bytes.ensures ∙ same_word c.as_bytes.result.now c.args.more.now c.args.first c.eq.result c.eq.ensures c.if-other-first.true c.in-len1-up.len_at_least same
