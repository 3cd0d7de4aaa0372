-- The lines of generated jobs: each is a job, and none is too long.
use Rattle.std.proofs.Common.{◌≡◌, ℕ, ◌+◌, ◌-◌, ◌≤◌, ◌==◌, ◌%◌, ◌||◌, Bool, true, false, cond, List, [], ◌∷◌, ◌++◌, length, take, refl, sym, ap, ◌∙◌, subst, arith, length-append}
use Rattle.std.specs.Prelude.{if◌then◌else◌}
use Rattle.std.specs.List.{All}
use Rattle.std.proofs.lemmas.Bool.Decides.{nat_tests}
use Rattle.std.proofs.lemmas.List.{same_from_push, take_at}
use Rattle.std.proofs.lemmas.List.Elements.{filter-append}
use Rattle.serde_json.specs.Data.{Data, object, Members}
use Rattle.serde_json.specs.Written.{compact_text, members_text}
use Rattle.edge_io.specs.Lines.{OneLine, AreLines}
use Rattle.edge_io.proofs.LinesLemmas.{lines_nil, lines_more}
use Rattle.job_gen.specs.Generated.{job_by, job_data, generated_line, generated}
use Rattle.job_gen.proofs.JobTexts.{generated-more}
use Rattle.session_laws.specs.Jobs.{max_line, is_too_long, is_job, jobs}

-- a job is an object
abbrev IsObject : Data → Type 0
IsObject d = (members : Members) × (d ≡ object members)

object_if : (b : Bool) (x y : Data) → IsObject x → IsObject y → IsObject (if b then x else y)
object_if true x y first second = first
object_if false x y first second = second

job_is_object : (rest i : ℕ) → IsObject (job_by rest i)
job_is_object rest i =
    object_if (rest == 0) _ _ (_, refl) (object_if (rest == 1) _ _ (_, refl) (object_if (rest == 2) _ _ (_, refl) (object_if (rest == 3) _ _ (_, refl)
    (object_if (rest == 4) _ _ (_, refl) (object_if (rest == 5) _ _ (_, refl) (object_if (rest == 6) _ _ (_, refl) (_, refl)))))))

-- the text of a line begins with a brace
begins : (i : ℕ) (text : List ℕ) → generated_line i ≡ text ++ 10 ∷ [] → (rest : List ℕ) × (text ≡ 123 ∷ rest)
unfolding job_data generated_line
begins i text is =
    let job = job_is_object (i % 8) i in
    (members_text false job.0, sym (same_from_push (compact_text (job_data i)) text 10 10 is).0 ∙ ap compact_text job.1)

-- a line that begins with a brace isn't blank
pub generated_is_job : (i : ℕ) (text : List ℕ) → generated_line i ≡ text ++ 10 ∷ [] → is_job text ≡ true
generated_is_job i text is =
    let open_brace = begins i text is in
    subst (λ (line : List ℕ). is_job line ≡ true) (sym open_brace.1) (by_length (is_too_long (123 ∷ open_brace.0)))
  where
    by_length : (b : Bool) → (b || true) ≡ true
    by_length true = refl
    by_length false = refl

-- a line of at most 4,096 bytes is read as a job
pub not_too_long : (line text : List ℕ) → line ≡ text ++ 10 ∷ [] → length line ≤ 4096 → is_too_long text ≡ false
not_too_long line text is short =
    let fewer : length text ≤ max_line = omega (arith, ap length is, length-append text (10 ∷ [])) in
    grind (arith, nat_tests)

pub printable_is_one_line : (text : List ℕ) → All (λ b. (32 ≤ b) × (b ≤ 126)) text → OneLine text
printable_is_one_line text printable = λ k d within. let is = printable k d within in grind (arith, nat_tests)

-- the lines of jobs, with one more
pub one_more_line : (i : ℕ) (text : List ℕ) (lines : List (List ℕ)) → generated_line i ≡ text ++ 10 ∷ [] → OneLine text → AreLines (generated i) lines
    → AreLines (generated (i + 1)) (lines ++ text ∷ [])
one_more_line i text lines is one are =
    subst (λ (bytes : List ℕ). AreLines bytes (lines ++ text ∷ [])) (sym (generated-more i ∙ ap (λ (line : List ℕ). generated i ++ line) is))
    (lines_more (generated i) text lines one are)

pub no_line : AreLines (generated 0) []
unfolding generated
no_line = lines_nil

-- lines that are jobs, with one more
pub jobs_of_more : (lines : List (List ℕ)) (text : List ℕ) → jobs lines ≡ lines → is_job text ≡ true → jobs (lines ++ text ∷ []) ≡ lines ++ text ∷ []
jobs_of_more lines text are one =
    filter-append is_job lines (text ∷ [])
    ∙ (λ i. are i ++ cond (one i) (text ∷ []) [])

-- a line without its newline
pub without_newline : (line rest text : List ℕ) (size : ℕ) → rest ≡ take (size - 1) line → size ≡ length line → line ≡ text ++ 10 ∷ [] → rest ≡ text
without_newline line rest text size popped sized is =
    popped ∙ ap (λ (x : List ℕ). take (size - 1) x) is ∙ take_at text (10 ∷ []) (size - 1) (omega (arith, ap length is, length-append text (10 ∷ [])))
