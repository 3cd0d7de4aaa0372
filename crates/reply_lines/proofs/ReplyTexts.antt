-- The text of a reply, and its line.
use Rattle.std.proofs.Common.{◌≡◌, ℕ, ◌<◌, true, false, [], ◌∷◌, length, refl, arith, length-append, Result, Ok, Err}
use Rattle.std.specs.Prelude.{is_ok}
use Rattle.serde_json.specs.Data.{Data}
use Rattle.serde_json.specs.Written.{compact_text}
use Rattle.reply_lines.specs.declared.replies.Reply.{Reply}
use Rattle.reply_lines.specs.Replies.{ok_data, error_data, reply_by, reply_data, line_of}
use Rattle.reply_lines.specs.Tokens.{said}

-- a reply with an answer, and one with an error
pub reply_ok : (answer : Result Data Data) (name : Data) (n : ℕ) → is_ok answer ≡ true → ok_data (said answer) name n ≡ reply_by answer name n
reply_ok (Ok d) name n is = refl
reply_ok (Err d) name n is = cc

pub reply_error : (answer : Result Data Data) (name : Data) (n : ℕ) → is_ok answer ≡ false → error_data (said answer) name n ≡ reply_by answer name n
reply_error (Ok d) name n is = cc
reply_error (Err d) name n is = refl

-- a reply line isn't empty
pub length-line_of : (reply : Reply) → 0 < length (line_of reply)
unfolding line_of
length-line_of reply = omega (arith, length-append (compact_text (reply_data reply)) (10 ∷ []))
