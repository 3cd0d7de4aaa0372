-- A reply as a line, and what its first bytes tell.
use Rattle.std.specs.Prelude.{◌≡◌, ℕ, nat_eq, ◌==◌, Bool, true, false, List, [], ◌∷◌, ◌++◌, codes}
use Rattle.std.specs.List.{All, starts_with}
use Rattle.reply_lines.specs.declared.replies.Outcome.{Outcome}
use Rattle.reply_lines.specs.declared.replies.Outcome.TheVariants.{Memory}

-- bytes that are one line: the last one is the newline, and no other is
pub record IsOneLine (bytes : List ℕ) : Type 0 where
  pub text : List ℕ
  pub ends : bytes ≡ text ++ 10 ∷ []
  pub one : All (λ b. (b == 10) ≡ false) text

-- whether an outcome is want of memory
abbrev pub is_want : Outcome → Bool
is_want Memory = true
is_want outcome = false

-- whether the text of a reply reports want of memory, which its first bytes tell
unfoldable pub reports_want : List ℕ → Bool
reports_want text = starts_with nat_eq text (codes "{\"error\":{\"kind\":\"memory\"}")
