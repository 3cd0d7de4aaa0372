-- How far a bundle is read between two lines, and what each answer says from there.
use Rattle.std.proofs.Common.{◌≡◌, ℕ, ◌+◌, ◌<◌, ◌≤◌, Bool, true, false, not, List, [], ◌∷◌, ◌++◌, length, refl, sym, ap, ◌∙◌, subst}
use Rattle.std.proofs.Common.{inl, inr, arith, append_assoc, append-nil, length-append}
use Rattle.std.specs.Prelude.{Option, Some, None, IfSome, All}
use Rattle.std.specs.Io.KnownBytes.{Consumes}
use Rattle.std.proofs.KnownBytes.{Consumes-nil, Consumes-trans, Consumes-whole}
use Rattle.std.proofs.lemmas.List.Sums.{fold-append}
use Rattle.edge_io.specs.declared.next.Next.{Next}
use Rattle.edge_io.specs.declared.next.Next.TheVariants.{TooLong}
use Rattle.edge_io.specs.Causes.{Rose}
use Rattle.edge_io.specs.Lines.{AreLines, whole_lines, lines_of}
use Rattle.edge_io.specs.Reader.{Reader}
use Rattle.edge_io.specs.Reading.{HandsOn, CutsOff, Overflows, LacksMemory, IsDone}
use Rattle.edge_io.proofs.LinesLemmas.{whole_lines_at}
use Rattle.sessions.specs.declared.parts.Part.{Part}
use Rattle.sessions.specs.declared.reading.Progress.{Progress}
use Rattle.sessions.specs.Switches.{is_faulty}
use Rattle.sessions.specs.Parts.{sections}
use Rattle.sessions.specs.Bundles.{SoFar, begun, with_line, after_lines, bundle, first_faulty}
use Rattle.sessions.specs.SoFar.{so_far_of}
use Rattle.sessions.specs.Reading.{max_bytes, IsWhole, HasFaulty, IsCutOff, IsFull, IsPartTaken, IsSmall}
use Rattle.sessions.proofs.Faulty.{found_before, none_yet, found_last}
use Rattle.sessions.proofs.Sizes.{length-le-line_bytes, parts_are_small}
use Rattle.sessions.proofs.ReadSoFar.{ReadSoFar, start, whole_so_far, few_so_far, hand, line_fits, all_input, whole_lines_behind, lines_of_behind}

-- these lines were handed on and taken in, and none of them is a faulty switch
pub record Midway (f f' : ℕ) (before now : Option (List ℕ)) (reader : Reader) (progress : Progress) (number : ℕ) : Type 0 where
  pub got : List ℕ
  pub lines : List (List ℕ)
  pub read : ReadSoFar max_bytes before now reader got lines
  pub going : reader.ended ≡ false
  pub state : so_far_of progress ≡ after_lines lines
  pub right : first_faulty lines ≡ None
  pub counted : number ≡ length lines
  pub reads : f ≤ f'

-- no line was handed on
pub begin : (f : ℕ) (before : Option (List ℕ)) (reader : Reader) (progress : Progress)
    → reader ≡ record { pending = []; room = 67108864; at_end = false; ended = false }
    → so_far_of progress ≡ begun → Midway f f before before reader progress 0
begin f before reader progress fresh new = record {
  got = [];
  lines = [];
  read = start max_bytes before reader fresh;
  going = ap (λ (r : Reader). r.ended) fresh;
  state = new;
  right = refl;
  counted = refl;
  reads = omega arith;
}

-- there are few lines
pub few_lines : {f f' : ℕ} {before now : Option (List ℕ)} {reader : Reader} {progress : Progress} {number : ℕ}
    → Midway f f' before now reader progress number → number ≤ 67108865
few_lines midway = omega (arith, midway.counted, length-le-line_bytes midway.lines, few_so_far midway.read)

-- no line is longer than a bundle
pub none_too_long : {f f' : ℕ} {before now later : Option (List ℕ)} {reader reader' : Reader} {progress : Progress} {number : ℕ}
    → Midway f f' before now reader progress number → HandsOn TooLong 67108864 reader reader' now later → ⊥
none_too_long midway handed =
    let within = midway.read.within in
    let long : 67108864 < length handed.line = handed.told in
    absurd (omega (arith, line_fits handed, long))

right_by : (t : Bool) → true ≡ not t → t ≡ false
right_by true h = h
right_by false h = refl

faulty_by : (t : Bool) → false ≡ not t → t ≡ true
faulty_by true h = refl
faulty_by false h = h

after_push : (lines : List (List ℕ)) (line : List ℕ) → after_lines (lines ++ line ∷ []) ≡ with_line (after_lines lines) line
after_push lines line = fold-append with_line begun lines (line ∷ [])

-- a line was taken in
pub go_on : {max f f' : ℕ} {before now later : Option (List ℕ)} {reader reader' : Reader} {progress : Progress} {number : ℕ} {next : Next}
    (f'' : ℕ) (progress' : Progress) (bytes : List ℕ)
    → (midway : Midway f f' before now reader progress number) → (handed : HandsOn next max reader reader' now later) → bytes ≡ handed.line
    → true ≡ not (is_faulty bytes) → so_far_of progress' ≡ with_line (so_far_of progress) bytes → f' ≤ f''
    → Midway f f'' before later reader' progress' (number + 1)
go_on f'' progress' bytes midway handed same right taken since = record {
  got = midway.got ++ handed.text;
  lines = midway.lines ++ handed.line ∷ [];
  read = hand midway.read handed;
  going = handed.goes_on;
  state = taken ∙ ap (λ (s : SoFar). with_line s bytes) midway.state ∙ ap (with_line (after_lines midway.lines)) same
      ∙ sym (after_push midway.lines handed.line);
  right = none_yet is_faulty 1 midway.lines handed.line midway.right (ap is_faulty (sym same) ∙ right_by (is_faulty bytes) right);
  counted = omega (arith, midway.counted, length-append midway.lines (handed.line ∷ []));
  reads = let reads = midway.reads in omega arith;
}

pub rose_since : (a b c : ℕ) → a ≤ b → Rose b c → Rose a c
rose_since a b c le (inl up) = inl (omega arith)
rose_since a b c le (inr most) = inr most

-- ---- a faulty switch

-- the line is the first that is one
first_by : {max f f' : ℕ} {before now later : Option (List ℕ)} {reader reader' : Reader} {progress : Progress} {number : ℕ} {next : Next}
    (bytes : List ℕ)
    → (midway : Midway f f' before now reader progress number) → (handed : HandsOn next max reader reader' now later) → bytes ≡ handed.line
    → false ≡ not (is_faulty bytes) → first_faulty (midway.lines ++ handed.line ∷ []) ≡ Some (number + 1)
first_by {number = number} bytes midway handed same faulty =
    found_last is_faulty 1 (number + 1) midway.lines handed.line (omega (arith, midway.counted)) midway.right
    (ap is_faulty (sym same) ∙ faulty_by (is_faulty bytes) faulty)

pub has_faulty : {max f f' : ℕ} {before now later : Option (List ℕ)} {reader reader' : Reader} {progress : Progress} {number : ℕ} {next : Next}
    (bytes : List ℕ)
    → Midway f f' before now reader progress number → (handed : HandsOn next max reader reader' now later) → bytes ≡ handed.line
    → false ≡ not (is_faulty bytes) → HasFaulty (number + 1) before later
has_faulty {reader' = reader'} {number = number} bytes midway handed same faulty =
    let read = hand midway.read handed in
    let got = midway.got ++ handed.text in
    let lines = midway.lines ++ handed.line ∷ [] in
    let first = first_by bytes midway handed same faulty in
    record {
      taken = got ++ reader'.pending;
      from = read.from;
      within = let within = read.within in omega (arith, length-append got reader'.pending);
      first = elim read.stands [
        | inl w ↦ inl (ap first_faulty (whole_lines_behind got reader'.pending lines w.1)
            ∙ found_before is_faulty 1 (number + 1) lines (whole_lines reader'.pending) first)
        | inr w ↦ inr (
          w.3,
          ap (λ (x : List ℕ). first_faulty (lines_of x)) (ap (λ (x : List ℕ). got ++ x) w.2 ∙ append-nil got) ∙ ap first_faulty w.1 ∙ first,
        )
      ];
    }

-- so it is among all lines of a source that tells its bytes
told_behind : (number : ℕ) (before later : Option (List ℕ)) (got rest : List ℕ) (lines : List (List ℕ)) → Consumes before later (got ++ rest)
    → AreLines got lines → first_faulty lines ≡ Some number → IfSome before (λ input. first_faulty (lines_of input) ≡ Some number)
told_behind number None later got rest lines from are first = tt
told_behind number (Some input) None got rest lines from are first = absurd from
told_behind number (Some input) (Some left) got rest lines from are first =
    ap (λ (x : List ℕ). first_faulty (lines_of x)) (from ∙ append_assoc got rest left)
    ∙ ap first_faulty (lines_of_behind got (rest ++ left) lines are)
    ∙ found_before is_faulty 1 number lines (lines_of (rest ++ left)) first

pub faulty_told : {max f f' : ℕ} {before now later : Option (List ℕ)} {reader reader' : Reader} {progress : Progress} {number : ℕ} {next : Next}
    (bytes : List ℕ)
    → Midway f f' before now reader progress number → (handed : HandsOn next max reader reader' now later) → bytes ≡ handed.line
    → false ≡ not (is_faulty bytes) → IfSome before (λ input. first_faulty (lines_of input) ≡ Some (number + 1))
faulty_told {before = before} {later = later} {reader' = reader'} {number = number} bytes midway handed same faulty =
    let read = hand midway.read handed in
    let got = midway.got ++ handed.text in
    let lines = midway.lines ++ handed.line ∷ [] in
    let first = first_by bytes midway handed same faulty in
    elim read.stands [
      | inl w ↦ told_behind (number + 1) before later got reader'.pending lines read.from w.1 first
      | inr w ↦ Consumes-whole before later got (λ input. first_faulty (lines_of input) ≡ Some (number + 1))
          (subst (Consumes before later) (ap (λ (x : List ℕ). got ++ x) w.2 ∙ append-nil got) read.from) w.3 (ap first_faulty w.1 ∙ first)
    ]

-- ---- the end of the input

pub whole : {f f' : ℕ} {before now later : Option (List ℕ)} {reader : Reader} {progress : Progress} {number : ℕ}
    → Midway f f' before now reader progress number → IsDone reader now later → IsWhole progress.parts.items before later
whole {progress = progress} midway last =
    let all = all_input midway.read last in
    record {
      input = midway.got;
      from = all.from;
      at_end = all.at_end;
      within = let within = midway.read.within in omega arith;
      right = ap first_faulty all.lines_is ∙ midway.right;
      parts_are = ap (λ (s : SoFar). s.parts) midway.state ∙ ap (λ (x : List (List ℕ)). (after_lines x).parts) (sym all.lines_is);
    }

pub whole_told : {parts : List Part} {before after : Option (List ℕ)} → IsWhole parts before after
    → IfSome before (λ input. (first_faulty (lines_of input) ≡ None) × (sections parts ≡ bundle input))
whole_told {parts} {before} {after} is_whole =
    Consumes-whole before after is_whole.input (λ input. (first_faulty (lines_of input) ≡ None) × (sections parts ≡ bundle input))
    is_whole.from is_whole.at_end (is_whole.right, is_whole.parts_are)

pub whole_small : {f f' : ℕ} {before now : Option (List ℕ)} {reader : Reader} {progress : Progress} {number : ℕ}
    → Midway f f' before now reader progress number → All IsSmall progress.parts.items
whole_small {progress = progress} midway =
    parts_are_small 67108865 progress.parts.items midway.lines (ap (λ (s : SoFar). s.parts) midway.state) (few_so_far midway.read)

-- ---- the other ends

pub cut_off : {f f' : ℕ} {before now later : Option (List ℕ)} {reader : Reader} {progress : Progress} {number : ℕ}
    → Midway f f' before now reader progress number → reader.at_end ≡ false → CutsOff reader now later → IsCutOff before later
cut_off {before = before} {now = now} {later = later} {reader = reader} midway fresh cut =
    let rest = reader.pending ++ cut.0 in
    record {
      taken = midway.got ++ rest;
      from = subst (Consumes before later) (append_assoc midway.got reader.pending cut.0)
          (Consumes-trans before now later (midway.got ++ reader.pending) cut.0 midway.read.from cut.1);
      within = let within = midway.read.within in let few = cut.3 in omega (arith, length-append midway.got rest);
      right = ap first_faulty (whole_lines_at midway.got rest midway.lines (whole_so_far midway.read fresh) cut.2) ∙ midway.right;
    }

pub full : {f f' : ℕ} {before now later : Option (List ℕ)} {reader : Reader} {progress : Progress} {number : ℕ}
    → Midway f f' before now reader progress number → reader.at_end ≡ false → Overflows reader now later → IsFull before later
full {before = before} {now = now} {later = later} {reader = reader} midway fresh over =
    let rest = reader.pending ++ over.0 in
    record {
      input = midway.got ++ rest;
      byte = over.1;
      from = subst (Consumes before later)
          (sym (append_assoc (midway.got ++ reader.pending) over.0 (over.1 ∷ []))
          ∙ ap (λ (x : List ℕ). x ++ over.1 ∷ []) (append_assoc midway.got reader.pending over.0))
          (Consumes-trans before now later (midway.got ++ reader.pending) (over.0 ++ over.1 ∷ []) midway.read.from over.2);
      exact = let within = midway.read.within in let all = over.4 in omega (arith, length-append midway.got rest);
      right = ap first_faulty (whole_lines_at midway.got rest midway.lines (whole_so_far midway.read fresh) over.3) ∙ midway.right;
    }

-- memory ran out in the midst of a line
pub part_taken : {f f' : ℕ} {before now later : Option (List ℕ)} {reader reader' : Reader} {progress : Progress} {number : ℕ}
    → Midway f f' before now reader progress number → LacksMemory reader reader' now later → IsPartTaken before later
part_taken {before = before} {now = now} {later = later} {reader = reader} {reader' = reader'} midway lacks = record {
  taken = (midway.got ++ reader.pending) ++ lacks.taken;
  from = Consumes-trans before now later (midway.got ++ reader.pending) lacks.taken midway.read.from lacks.from;
  within =
      let within = midway.read.within in
      let bytes = ap length lacks.bytes in
      let part = lacks.within in
      omega (
        arith,
        length-append (midway.got ++ reader.pending) lacks.taken,
        length-append midway.got reader.pending,
        length-append reader.pending lacks.taken,
        length-append lacks.part reader'.pending,
      );
}

-- or where a line was to be taken in
pub line_taken : {max f f' : ℕ} {before now later : Option (List ℕ)} {reader reader' : Reader} {progress : Progress} {number : ℕ} {next : Next}
    → Midway f f' before now reader progress number → HandsOn next max reader reader' now later → IsPartTaken before later
line_taken {reader' = reader'} midway handed =
    let read = hand midway.read handed in
    let got = midway.got ++ handed.text in
    record {
      taken = got ++ reader'.pending;
      from = read.from;
      within = let within = read.within in omega (arith, length-append got reader'.pending);
    }

-- or before the first
pub none_taken : (before : Option (List ℕ)) → IsPartTaken before before
none_taken before = record { taken = []; from = Consumes-nil before; within = omega arith }

-- what is told of bytes that no answer speaks of
pub nothing_told : (before : Option (List ℕ)) → IfSome before (λ input. Unit {0})
nothing_told None = tt
nothing_told (Some input) = tt
