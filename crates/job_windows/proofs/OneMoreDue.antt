-- One more answer that is due.
use Rattle.std.proofs.Common.{◌≡◌, ◌⊎◌, ℕ, List, [], ◌∷◌, ◌++◌, map, refl, sym, ◌∙◌, subst, inl, inr, append_assoc, append-nil}
use Rattle.std.specs.Prelude.{Option}
use Rattle.operation_laws.specs.Values.{Value}
use Rattle.held_values.specs.Means.{sense}
use Rattle.session_laws.specs.Answers.{Past, Came, job_of, name_of, run_line, held_of}
use Rattle.job_windows.specs.Names.{Knows}
use Rattle.job_windows.specs.Running.{IsConclusion, IsUnnamed}
use Rattle.job_windows.specs.Windows.{AreDue}
use Rattle.job_windows.specs.declared.names.Names.{Names}
use Rattle.job_windows.specs.declared.seats.Due.{Due}

abbrev meant : Due → Option Value
meant due = sense due.held

module _ (old new : Names) (line : List ℕ) (due : Due) where
  -- the answer is due for the line after these jobs, and then the names are those of all
  abbrev pub IsNext : List (Option Value) → List Past → Type 0
  IsNext held last = (due.name ≡ name_of line)
      × (IsUnnamed due.outcome due.held
      ⊎ ((came : Came) × IsConclusion due.outcome due.held (run_line (held_of last) line) came × Knows new (held ++ sense due.held ∷ []) (job_of line came ∷ last)))

  module _ (whole : List (Option Value)) (next : (last : List Past) → Knows old whole last → IsNext whole last) where
    due_behind : (held : List (Option Value)) (earlier : List Past) (lines : List (List ℕ)) (dues : List Due) → held ++ map meant dues ≡ whole
        → AreDue old held earlier lines dues → AreDue new held earlier (lines ++ line ∷ []) (dues ++ due ∷ [])
    due_behind held earlier [] [] same known =
        let all : held ≡ whole = sym (append-nil held) ∙ same in
        subst (λ hs. IsNext hs earlier) (sym all) (next earlier (subst (λ hs. Knows old hs earlier) all known))
    due_behind held earlier [] (d ∷ dues) same known = absurd known
    due_behind held earlier (l ∷ lines) [] same known = absurd known
    due_behind held earlier (l ∷ lines) (d ∷ dues) same (named, inl unnamed) = (named, inl unnamed)
    due_behind held earlier (l ∷ lines) (d ∷ dues) same (named, inr (came, concluded, rest)) =
        (named, inr (came, concluded, due_behind (held ++ sense d.held ∷ []) (job_of l came ∷ earlier) lines dues (append_assoc held (sense d.held ∷ []) (map meant dues) ∙ same) rest))

  pub one_more_due : (held : List (Option Value)) (earlier : List Past) (lines : List (List ℕ)) (dues : List Due)
      → ((last : List Past) → Knows old (held ++ map (λ (d : Due). sense d.held) dues) last → IsNext (held ++ map (λ (d : Due). sense d.held) dues) last)
      → AreDue old held earlier lines dues → AreDue new held earlier (lines ++ line ∷ []) (dues ++ due ∷ [])
  one_more_due held earlier lines dues next known = due_behind (held ++ map meant dues) next held earlier lines dues refl known
