-- A line that isn't UTF-8, or that isn't JSON, has no value.
use Rattle.std.proofs.Common.{◌≡◌, Bool, true, false, cond, List, ℕ, refl, Err, ap}
use Rattle.std.specs.Prelude.{None}
use Rattle.std.specs.Str.{IsUtf8, is_utf8}
use Rattle.std.proofs.lemmas.Str.{IsUtf8-from_is_utf8}
use Rattle.serde_json.specs.Read.{read}
use Rattle.job_words.specs.declared.causes.JobCause.TheVariants.{Json}
use Rattle.job_lang.specs.Fields.{or_fault}
use Rattle.job_lang.specs.Jobs.{value_of}

pub unread_value : (line : List ℕ) → (IsUtf8 line → read line ≡ None) → value_of line ≡ Err Json
unread_value line none = ap (or_fault Json) (by_test (is_utf8 line) (λ text. none (IsUtf8-from_is_utf8 line text)))
  where
    by_test : (b : Bool) → (b ≡ true → read line ≡ None) → cond b (read line) None ≡ None
    by_test true none = none refl
    by_test false none = refl
