-- The lines that a reader handed on so far, and how one more line carries it on.
use Rattle.std.proofs.Common.{◌≡◌, ℕ, ◌+◌, ◌-◌, ◌<◌, ◌≤◌, ◌⊎◌, true, false, Bool, cond, eqb, List, [], ◌∷◌, ◌++◌, length, take, get_or, refl}
use Rattle.std.proofs.Common.{sym, ap, ◌∙◌, subst, inl, inr, arith, append_assoc, append-nil, length-append}
use Rattle.std.specs.Prelude.{Option}
use Rattle.std.specs.Io.KnownBytes.{Consumes, IsAtEnd}
use Rattle.std.proofs.KnownBytes.{Consumes-nil, Consumes-trans}
use Rattle.std.proofs.Math.Seq.{take-append-add}
use Rattle.std.proofs.lemmas.List.{get_or-append-add}
use Rattle.std.proofs.lemmas.List.Splits.{length-slice_split}
use Rattle.edge_io.specs.declared.next.Next.{Next}
use Rattle.edge_io.specs.Lines.{is_newline, AreLines, parts_of, whole_lines, last_part, lines_of}
use Rattle.edge_io.specs.Reader.{Reader, allowance}
use Rattle.edge_io.specs.Reading.{HandsOn, IsText, IsDone}
use Rattle.edge_io.proofs.LinesLemmas.{lines_nil, lines_more, lines_of_at, lines_of_last}
use Rattle.sessions.proofs.Sizes.{line_bytes, line_bytes_push}

-- the bytes of the lines handed on are these lines: each with its newline, or all of an input that has ended
abbrev pub Stands : Option (List ℕ) → Reader → List ℕ → List (List ℕ) → Type 0
Stands now reader got lines = ((reader.at_end ≡ false) × AreLines got lines × (line_bytes lines ≡ length got))
    ⊎ ((reader.at_end ≡ true) × (lines_of got ≡ lines) × (reader.pending ≡ []) × IsAtEnd now × (line_bytes lines ≡ length got + 1))

-- these bytes and lines have been handed on, of at most `limit` bytes
pub record ReadSoFar (limit : ℕ) (before now : Option (List ℕ)) (reader : Reader) (got : List ℕ) (lines : List (List ℕ)) : Type 0 where
  pub from : Consumes before now (got ++ reader.pending)
  pub within : length got + allowance reader ≡ limit
  pub stands : Stands now reader got lines

true_is_not_false : true ≡ false → ⊥
true_is_not_false h = cc

-- nothing was handed on
pub start : (limit : ℕ) (before : Option (List ℕ)) (reader : Reader) → reader ≡ record { pending = []; room = limit; at_end = false; ended = false }
    → ReadSoFar limit before before reader [] []
start limit before reader fresh =
    subst (λ (r : Reader). ReadSoFar limit before before r [] []) (sym fresh) (record {
      from = Consumes-nil before;
      within = omega arith;
      stands = inl (refl, lines_nil, refl);
    })

-- where the input hasn't ended, the bytes handed on are whole lines
pub whole_so_far : {limit : ℕ} {before now : Option (List ℕ)} {reader : Reader} {got : List ℕ} {lines : List (List ℕ)}
    → ReadSoFar limit before now reader got lines → reader.at_end ≡ false → AreLines got lines
whole_so_far read fresh = elim read.stands [ inl w ↦ w.1 | inr w ↦ absurd (true_is_not_false (sym w.0 ∙ fresh)) ]

bytes_so_far : {limit : ℕ} {before now : Option (List ℕ)} {reader : Reader} {got : List ℕ} {lines : List (List ℕ)}
    → ReadSoFar limit before now reader got lines → reader.at_end ≡ false → line_bytes lines ≡ length got
bytes_so_far read fresh = elim read.stands [ inl w ↦ w.2 | inr w ↦ absurd (true_is_not_false (sym w.0 ∙ fresh)) ]

-- the lines have at most the bytes handed on and a last newline
pub few_so_far : {limit : ℕ} {before now : Option (List ℕ)} {reader : Reader} {got : List ℕ} {lines : List (List ℕ)}
    → ReadSoFar limit before now reader got lines → line_bytes lines ≤ limit + 1
few_so_far read = let within = read.within in elim read.stands [ inl w ↦ omega (arith, w.2) | inr w ↦ omega (arith, w.4) ]

-- the bytes of a line follow those of the lines before it
hand_bytes : (got pending taken text left : List ℕ) → pending ++ taken ≡ text ++ left → (got ++ pending) ++ taken ≡ (got ++ text) ++ left
hand_bytes got pending taken text left e =
    append_assoc got pending taken ∙ ap (λ (x : List ℕ). got ++ x) e ∙ sym (append_assoc got text left)

-- one more line is handed on
pub hand : {limit max : ℕ} {before now later : Option (List ℕ)} {old new : Reader} {got : List ℕ} {lines : List (List ℕ)} {next : Next}
    → ReadSoFar limit before now old got lines → (handed : HandsOn next max old new now later)
    → ReadSoFar limit before later new (got ++ handed.text) (lines ++ handed.line ∷ [])
hand {limit} {max} {before} {now} {later} {old} {new} {got} {lines} read handed =
    let are = whole_so_far read handed.fresh in
    let bytes = bytes_so_far read handed.fresh in
    let push = line_bytes_push lines handed.line in
    let size = length-append got handed.text in
    record {
      from = subst (Consumes before later) (hand_bytes got old.pending handed.taken handed.text new.pending handed.bytes)
          (Consumes-trans before now later (got ++ old.pending) handed.taken read.from handed.from);
      within = let within = read.within in let more = handed.within in omega arith;
      stands = elim handed.whole [
        | inl w ↦ inl (
          w.0,
          subst (λ (x : List ℕ). AreLines (got ++ x) (lines ++ handed.line ∷ [])) (sym w.1) (lines_more got handed.line lines handed.one are),
          omega (arith, ap length w.1, length-append handed.line (10 ∷ [])),
        )
        | inr w ↦ inr (
          w.0,
          ap (λ (x : List ℕ). lines_of (got ++ x)) w.1 ∙ lines_of_last got handed.line lines are handed.one w.2,
          w.3,
          w.4,
          omega (arith, ap length w.1),
        )
      ];
    }

-- a line's bytes are some
text_is_some : (text line : List ℕ) (new : Reader) (after : Option (List ℕ)) → IsText text line new after → 0 < length text
text_is_some text line new after whole = elim whole [
  | inl w ↦ omega (arith, ap length w.1, length-append line (10 ∷ []))
  | inr w ↦ omega (arith, ap length w.1, w.2)
]

-- so less may be handed on then
pub less_to_come : {max : ℕ} {now later : Option (List ℕ)} {old new : Reader} {next : Next} → HandsOn next max old new now later
    → allowance new < allowance old
less_to_come {later = later} {new = new} handed =
    let some = text_is_some handed.text handed.line new later handed.whole in
    omega (arith, handed.within)

-- a line has no more bytes than could be handed on
pub line_fits : {max : ℕ} {now later : Option (List ℕ)} {old new : Reader} {next : Next}
    → (handed : HandsOn next max old new now later) → length handed.line ≤ allowance old
line_fits {later = later} {new = new} handed = let within = handed.within in elim handed.whole [
  | inl w ↦ omega (arith, ap length w.1, length-append handed.line (10 ∷ []))
  | inr w ↦ omega (arith, ap length w.1)
]

-- what holds where the input has ended: the bytes handed on are all of it
pub record IsAll (before later : Option (List ℕ)) (got : List ℕ) (lines : List (List ℕ)) : Type 0 where
  pub from : Consumes before later got
  pub at_end : IsAtEnd later
  pub lines_is : lines_of got ≡ lines

pub all_input : {limit : ℕ} {before now later : Option (List ℕ)} {reader : Reader} {got : List ℕ} {lines : List (List ℕ)}
    → ReadSoFar limit before now reader got lines → IsDone reader now later → IsAll before later got lines
all_input {limit} {before} {now} {later} {reader} {got} {lines} read last = elim last [
  | inl ended ↦ elim read.stands [
    | inl w ↦ absurd (true_is_not_false (sym ended.0 ∙ w.0))
    | inr w ↦ record {
      from = subst (λ (x : Option (List ℕ)). Consumes before x got) (sym ended.2)
          (subst (Consumes before now) (ap (λ (x : List ℕ). got ++ x) w.2 ∙ append-nil got) read.from);
      at_end = subst IsAtEnd (sym ended.2) w.3;
      lines_is = w.1;
    }
  ]
  | inr ends ↦ record {
    from = subst (Consumes before later) (append-nil (got ++ reader.pending) ∙ ap (λ (x : List ℕ). got ++ x) ends.1 ∙ append-nil got)
        (Consumes-trans before now later (got ++ reader.pending) [] read.from ends.2);
    at_end = ends.3;
    lines_is = lines_of_at got lines (whole_so_far read ends.0);
  }
]

-- ---- what lies behind whole lines

front_of_append : (xs ys : List (List ℕ)) → 0 < length ys → take (length (xs ++ ys) - 1) (xs ++ ys) ≡ xs ++ take (length ys - 1) ys
front_of_append xs ys some =
    let same : length (xs ++ ys) - 1 ≡ length xs + (length ys - 1) = omega (arith, length-append xs ys) in
    ap (λ (n : ℕ). take n (xs ++ ys)) same ∙ take-append-add xs ys (length ys - 1)

pub whole_lines_behind : (bytes rest : List ℕ) (lines : List (List ℕ)) → AreLines bytes lines
    → whole_lines (bytes ++ rest) ≡ lines ++ whole_lines rest
whole_lines_behind bytes rest lines are =
    ap (λ (x : List (List ℕ)). take (length x - 1) x) (are rest)
    ∙ front_of_append lines (parts_of rest) (omega (arith, length-slice_split is_newline rest))

last_of_append : (xs ys : List (List ℕ)) → 0 < length ys → get_or (xs ++ ys) (length (xs ++ ys) - 1) [] ≡ get_or ys (length ys - 1) []
last_of_append xs ys some =
    let same : length (xs ++ ys) - 1 ≡ length xs + (length ys - 1) = omega (arith, length-append xs ys) in
    ap (λ (n : ℕ). get_or (xs ++ ys) n []) same ∙ get_or-append-add xs ys (length ys - 1) []

last_part_behind : (bytes rest : List ℕ) (lines : List (List ℕ)) → AreLines bytes lines → last_part (bytes ++ rest) ≡ last_part rest
last_part_behind bytes rest lines are =
    ap (λ (x : List (List ℕ)). get_or x (length x - 1) []) (are rest)
    ∙ last_of_append lines (parts_of rest) (omega (arith, length-slice_split is_newline rest))

pub lines_of_behind : (bytes rest : List ℕ) (lines : List (List ℕ)) → AreLines bytes lines → lines_of (bytes ++ rest) ≡ lines ++ lines_of rest
lines_of_behind bytes rest lines are =
    ap (λ (x : List ℕ). cond (eqb (length x) 0) (whole_lines (bytes ++ rest)) (parts_of (bytes ++ rest))) (last_part_behind bytes rest lines are)
    ∙ step (eqb (length (last_part rest)) 0)
  where
    step : (t : Bool) → cond t (whole_lines (bytes ++ rest)) (parts_of (bytes ++ rest)) ≡ lines ++ cond t (whole_lines rest) (parts_of rest)
    step true = whole_lines_behind bytes rest lines are
    step false = are rest
