-- How far a session has come between two lines, and how one more line carries it on.
use Rattle.std.proofs.Common.{◌≡◌, ℕ, ◌+◌, ◌<◌, ◌≤◌, ◌⊎◌, true, false, List, [], ◌∷◌, ◌++◌, length, refl, sym, ap, ◌∙◌, subst, inl, inr, arith, append_assoc, length-append}
use Rattle.std.specs.Prelude.{Option}
use Rattle.std.specs.Io.KnownBytes.{Consumes, Appends, IsAtEnd}
use Rattle.std.proofs.KnownBytes.{Consumes-nil, Consumes-trans, Appends-nil, Appends-trans}
use Rattle.std.proofs.lemmas.List.Elements.{filter-append}
use Rattle.cut_elim.specs.declared.desk.Desk.{Desk}
use Rattle.edge_io.specs.declared.next.Next.{Next}
use Rattle.edge_io.specs.Causes.{Rose}
use Rattle.edge_io.specs.Lines.{AreLines, lines_of}
use Rattle.edge_io.specs.Reader.{Reader, allowance}
use Rattle.edge_io.specs.Reading.{HandsOn, IsText}
use Rattle.edge_io.proofs.LinesLemmas.{lines_nil, lines_more, lines_of_last}
use Rattle.session_laws.specs.Jobs.{is_job, jobs}
use Rattle.session_laws.specs.Answers.{Past, in_order}
use Rattle.proof_server.specs.Turn.{seats_in, IsAt, WritesMore}
use Rattle.proof_server.specs.declared.session.Session.{Session}

-- the bytes of the lines handed on are these lines: each with its newline, or all of an input that has ended
abbrev pub Stands : Option (List ℕ) → Reader → List ℕ → List (List ℕ) → Type 0
Stands now reader got lines = ((reader.at_end ≡ false) × AreLines got lines)
    ⊎ ((reader.at_end ≡ true) × (lines_of got ≡ lines) × (reader.pending ≡ []) × IsAtEnd now)

-- these bytes and lines have been handed on, of at most `limit` bytes
pub record ReadSoFar (limit : ℕ) (before now : Option (List ℕ)) (reader : Reader) (got : List ℕ) (lines : List (List ℕ)) : Type 0 where
  pub from : Consumes before now (got ++ reader.pending)
  pub within : length got + allowance reader ≡ limit
  pub stands : Stands now reader got lines

-- the lines handed on have been taken in by the session, and nothing else was written than what it wrote
pub record Midway (desk : Desk) (limit f f' k k' : ℕ) (before now : Option (List ℕ)) (reader : Reader) (old mid : Option (List ℕ)) (session : Session) : Type 0 where
  pub got : List ℕ
  pub lines : List (List ℕ)
  pub written : List ℕ
  pub read : ReadSoFar limit before now reader got lines
  pub going : reader.ended ≡ false
  pub to : Appends old mid written
  pub at : IsAt desk session (jobs lines) written
  pub few : session.count + seats_in session + allowance reader ≤ limit
  pub reads : f ≤ f'
  pub writes : k ≤ k'

-- the count still rose where it is compared with an earlier one
pub Rose-since : (a b c : ℕ) → a ≤ b → Rose b c → Rose a c
Rose-since a b c le (inl up) = inl (omega arith)
Rose-since a b c le (inr most) = inr most

-- there are as many lines as jobs
length-in_order : (done : List Past) → length (in_order done) ≡ length done
length-in_order [] = refl
length-in_order (job ∷ earlier) = omega (arith, length-append (in_order earlier) (job.line ∷ []), length-in_order earlier)

-- a session that was handed no job has none
pub none_handed : (desk : Desk) (session : Session) (written : List ℕ) → IsAt desk session [] written → session.count + seats_in session ≡ 0
none_handed desk session written at = omega (arith, at.answered.number, at.gathered.counted, ap length at.each, length-append (in_order at.done) at.waiting, length-in_order at.done)

pub jobs-append : (xs ys : List (List ℕ)) → jobs (xs ++ ys) ≡ jobs xs ++ jobs ys
jobs-append xs ys = filter-append is_job xs ys

pub start : (desk : Desk) (limit f k : ℕ) (before old : Option (List ℕ)) (reader : Reader) (session : Session)
    → reader ≡ record { pending = []; room = limit; at_end = false; ended = false } → IsAt desk session [] []
    → Midway desk limit f f k k before before reader old old session
start desk limit f k before old reader session fresh at =
    subst (λ (r : Reader). Midway desk limit f f k k before before r old old session) (sym fresh) (record {
      got = [];
      lines = [];
      written = [];
      read = record { from = Consumes-nil before; within = omega arith; stands = inl (refl, lines_nil) };
      going = refl;
      to = Appends-nil old;
      at = at;
      few = omega (arith, none_handed desk session [] at);
      reads = omega arith;
      writes = omega arith;
    })

-- where the input hasn't ended, the bytes handed on are whole lines
pub whole_so_far : {limit : ℕ} {before now : Option (List ℕ)} {reader : Reader} {got : List ℕ} {lines : List (List ℕ)}
    → ReadSoFar limit before now reader got lines → reader.at_end ≡ false → AreLines got lines
whole_so_far read fresh = elim read.stands [ inl w ↦ w.1 | inr w ↦ absurd (true_is_not_false (sym w.0 ∙ fresh)) ]
  where
    true_is_not_false : true ≡ false → ⊥
    true_is_not_false h = cc

-- the bytes of a line follow those of the lines before it
hand_bytes : (got pending taken text left : List ℕ) → pending ++ taken ≡ text ++ left → (got ++ pending) ++ taken ≡ (got ++ text) ++ left
hand_bytes got pending taken text left e =
    append_assoc got pending taken ∙ ap (λ (x : List ℕ). got ++ x) e ∙ sym (append_assoc got text left)

-- one more line is handed on
pub hand : {limit max : ℕ} {before now later : Option (List ℕ)} {old new : Reader} {got : List ℕ} {lines : List (List ℕ)} {next : Next}
    → ReadSoFar limit before now old got lines → (handed : HandsOn next max old new now later)
    → ReadSoFar limit before later new (got ++ handed.text) (lines ++ handed.line ∷ [])
hand {limit} {max} {before} {now} {later} {old} {new} {got} {lines} read handed = record {
  from = subst (Consumes before later) (hand_bytes got old.pending handed.taken handed.text new.pending handed.bytes)
      (Consumes-trans before now later (got ++ old.pending) handed.taken read.from handed.from);
  within = let within = read.within in let more = handed.within in omega (arith, length-append got handed.text);
  stands = let are = whole_so_far read handed.fresh in
      elim handed.whole [
        | inl w ↦ inl (w.0, subst (λ (x : List ℕ). AreLines (got ++ x) (lines ++ handed.line ∷ [])) (sym w.1) (lines_more got handed.line lines handed.one are))
        | inr w ↦ inr (w.0, ap (λ (x : List ℕ). lines_of (got ++ x)) w.1 ∙ lines_of_last got handed.line lines are handed.one w.2, w.3, w.4)
      ];
}

-- a line's bytes are some
pub text_is_some : (text line : List ℕ) (new : Reader) (after : Option (List ℕ)) → IsText text line new after → 0 < length text
text_is_some text line new after whole = elim whole [
  | inl w ↦ omega (arith, ap length w.1, length-append line (10 ∷ []))
  | inr w ↦ omega (arith, ap length w.1, w.2)
]

-- the session took the line in
pub go_on : {desk : Desk} {limit max f f' f'' k k' k'' : ℕ} {before now later old mid new : Option (List ℕ)} {reader reader' : Reader} {session session' : Session} {next : Next}
    → (midway : Midway desk limit f f' k k' before now reader old mid session) → (handed : HandsOn next max reader reader' now later)
    → WritesMore (IsAt desk session' (jobs midway.lines ++ jobs (handed.line ∷ []))) midway.written mid new
    → session'.count + seats_in session' ≤ session.count + seats_in session + 1 → f' ≤ f'' → k' ≤ k''
    → Midway desk limit f f'' k k'' before later reader' old new session'
go_on {desk = desk} {later = later} {old = old} {mid = mid} {new = new} {reader = reader} {reader' = reader'} {session = session} {session' = session'} midway handed took few reads writes = record {
  got = midway.got ++ handed.text;
  lines = midway.lines ++ handed.line ∷ [];
  written = midway.written ++ took.more;
  read = hand midway.read handed;
  going = handed.goes_on;
  to = Appends-trans old mid new midway.written took.more midway.to took.to;
  at = subst (λ (asked : List (List ℕ)). IsAt desk session' asked (midway.written ++ took.more)) (sym (jobs-append midway.lines (handed.line ∷ []))) took.holds;
  few =
      let some = text_is_some handed.text handed.line reader' later handed.whole in
      let before = midway.few in
      let within = handed.within in
      omega arith;
  reads = let since = midway.reads in omega arith;
  writes = let since = midway.writes in omega arith;
}
