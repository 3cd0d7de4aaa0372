-- The reply line of a job that comes after others.
use Rattle.std.specs.Prelude.{◌≡◌, ℕ, List}
use Rattle.session_laws.specs.Answers.{Past, Came, job_of, lacked, held_of, run_line, IsAllowed}
use Rattle.session_laws.specs.Replying.{reply_line, is_ok_reply, reductions_shown}
use Rattle.job_windows.specs.declared.replying.ReplyLine.{ReplyLine}

-- the reply line is that of the line's job, which came to this
pub record IsReply (r : ReplyLine) (line : List ℕ) (earlier : List Past) (came : Came) : Type 0 where
  pub allowed : IsAllowed (run_line (held_of earlier) line) came
  pub bytes : r.bytes.items ≡ reply_line earlier (job_of line came)
  pub ok_is : r.is_ok ≡ is_ok_reply (job_of line came)
  pub reductions_is : r.reductions ≡ reductions_shown (job_of line came)
  pub lacked_is : r.lacked ≡ lacked (job_of line came)
