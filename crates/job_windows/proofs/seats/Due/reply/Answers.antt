use Rattle.std.proofs.Common.{◌+◌, ap, ◌∙◌}
use Rattle.reply_lines.specs.OneLine.{is_want}
use Rattle.reply_lines.specs.Replies.{line_of, is_ok_outcome}
use Rattle.session_laws.specs.Replying.{reply_line, is_ok_reply, reductions_in, reductions_shown}
use Rattle.job_windows.proofs.seats.Due.reply.Goals as goal

pub returns-clause-reply : goal.returns-clause-reply
unfolding reply_line is_ok_reply reductions_shown
returns-clause-reply c = λ earlier line came counted named concluded.
    let outcome = concluded.outcome_is in record {
      allowed = concluded.allowed;
      bytes = c.in_ok-bytes.ensures ∙ (λ i. line_of (record { name = named i; n = counted i + 1; outcome = outcome i }));
      ok_is = c.is_ok-is_ok.ensures ∙ ap is_ok_outcome outcome;
      reductions_is = c.reductions_of-reductions.ensures ∙ ap reductions_in outcome;
      lacked_is = c.lacks_memory-lacked.ensures ∙ ap is_want outcome;
    }
