-- What the code computes of one entry, and of a list of them.
use Rattle.std.specs.Prelude.{ℕ, suc, ◌+◌, Bool, true, false, ◌==◌, if◌then◌else◌, List, [], ◌∷◌, ◌++◌, length, Result, Ok, Err}
use Rattle.tptp_read.specs.Reader.{◌>>=◌}
use Rattle.tptp_read.specs.Turns.{Turn, on, answer, run}
use Rattle.tptp_problem.specs.declared.errors.Fault.{Fault}
use Rattle.tptp_problem.specs.declared.problems.Role.{Role}
use Rattle.tptp_problem.specs.declared.problems.Entry.{Entry}
use Rattle.tptp_problem.specs.declared.tokens.Mark.TheVariants.{Open, Comma, Dot}
use Rattle.tptp_problem.specs.Readers.{passed, mark_at, word_at, name_at, role_at}
use Rattle.tptp_problem.specs.BodyReader.{body_at}
use Rattle.tptp_problem.specs.AnnotationReader.{annotation_at}
use Rattle.tptp_problem.specs.Closures.{is_conjecture, conjectures}
use Rattle.tptp_problem.specs.Words.{is_named}

-- what stands between a body and the `.`, behind the `,` or the `)` that ends the body
abbrev pub rest_at : Bool → List ℕ → Result (List ℕ) Fault
rest_at true bs = annotation_at bs
rest_at false bs = Ok bs

-- one entry; `has` says which names the entries before it have, and n of these are conjectures
unfoldable pub entry_at : (List ℕ → Bool) → ℕ → List ℕ → Result (Entry × List ℕ) Fault
entry_at has n bs =
    word_at bs >>= λ word.
    mark_at Open word.2 >>= λ opened.
    name_at has opened >>= λ name.
    mark_at Comma name.1 >>= λ named.
    role_at word.0 n word.1 named >>= λ role.
    mark_at Comma role.1 >>= λ ruled.
    body_at word.0 ruled >>= λ body.
    rest_at body.1 body.2 >>= λ ended.
    mark_at Dot ended >>= λ rest.
    Ok (record { name = name.0; language = word.0; role = role.0; formula = body.0 }, rest)

-- one more entry behind these
abbrev pub entry_behind : List Entry → List ℕ → Result (Entry × List ℕ) Fault
entry_behind es bs = entry_at (is_named es) (length (conjectures es)) bs

-- the number of conjectures, with one more where the entry is one
abbrev pub counted : Role → ℕ → ℕ
counted r n = if is_conjecture r then n + 1 else n

-- These entries and those that the bytes behind them are, or the first fault. Each turn takes a byte at least.
abbrev pub one_more : List Entry → Result (Entry × List ℕ) Fault → Turn (List Entry × List ℕ) (Result (List Entry) Fault)
one_more es (Ok x) = on (es ++ x.0 ∷ [], x.1)
one_more es (Err f) = answer (Err f)

abbrev pub entries_turn : List Entry × List ℕ → Turn (List Entry × List ℕ) (Result (List Entry) Fault)
entries_turn c = if length (passed 0 c.1) == 0 then answer (Ok c.0) else one_more c.0 (entry_behind c.0 (passed 0 c.1))

abbrev pub entries_from : List Entry → List ℕ → Result (List Entry) Fault
entries_from es bs = run entries_turn (Ok []) (suc (length bs)) (es, bs)
