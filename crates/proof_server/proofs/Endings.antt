-- How a session ends, from where it stands between two lines.
use Rattle.std.proofs.Common.{◌≡◌, ℕ, ◌+◌, ◌-◌, ◌<◌, ◌≤◌, true, false, List, [], ◌∷◌, ◌++◌, length, take, refl, sym, ap, ◌∙◌, subst, inl, inr, arith, append_assoc, append-nil, length-append}
use Rattle.std.specs.Prelude.{Option, Err}
use Rattle.std.specs.Io.KnownBytes.{Consumes, Appends, IsAtEnd}
use Rattle.std.proofs.KnownBytes.{Consumes-nil, Consumes-trans, Appends-nil, Appends-trans}
use Rattle.std.proofs.Math.Seq.{take-append-add}
use Rattle.std.proofs.lemmas.List.Splits.{length-slice_split}
use Rattle.cut_elim.specs.declared.desk.Desk.{Desk}
use Rattle.edge_io.specs.declared.next.Next.{Next}
use Rattle.edge_io.specs.Lines.{is_newline, AreLines, parts_of, whole_lines, lines_of}
use Rattle.edge_io.specs.Reader.{Reader, allowance}
use Rattle.edge_io.specs.Reading.{HandsOn, CutsOff, Overflows, LacksMemory, IsDone as IsAtLast}
use Rattle.edge_io.proofs.LinesLemmas.{lines_of_at, whole_lines_at}
use Rattle.session_laws.specs.Jobs.{jobs}
use Rattle.session_laws.specs.Answers.{Past, in_order, AreAllowed}
use Rattle.session_laws.specs.Claimed.{AreClaimed}
use Rattle.session_laws.specs.Session.{Replies, RepliesInPart}
use Rattle.proof_server.specs.Turn.{seats_in, IsAt, AreInPart, WritesMore, Goes, ended_of}
use Rattle.proof_server.specs.Ending.{IsDone, IsCutOff, IsFull, IsPartWritten, Ends}
use Rattle.proof_server.specs.declared.ending.Ended.{Ended}
use Rattle.proof_server.specs.declared.session.Session.{Session}
use Rattle.proof_server.specs.declared.session.Stop.{Stop}
use Rattle.proof_server.specs.declared.session.Stop.TheVariants as stop
use Rattle.proof_server.proofs.Turns.{in_part_of_more, at_in_part}
use Rattle.proof_server.proofs.Midway.{ReadSoFar, Midway, whole_so_far, hand, jobs-append, Rose-since}

-- lines behind whole lines
pub whole_lines_behind : (bytes rest : List ℕ) (lines : List (List ℕ)) → AreLines bytes lines
    → whole_lines (bytes ++ rest) ≡ lines ++ whole_lines rest
whole_lines_behind bytes rest lines are =
    ap (λ (x : List (List ℕ)). take (length x - 1) x) (are rest) ∙ front_of_append lines (parts_of rest) (omega (arith, length-slice_split is_newline rest))
  where
    front_of_append : (xs ys : List (List ℕ)) → 0 < length ys → take (length (xs ++ ys) - 1) (xs ++ ys) ≡ xs ++ take (length ys - 1) ys
    front_of_append xs ys some =
        let same : length (xs ++ ys) - 1 ≡ length xs + (length ys - 1) = omega (arith, length-append xs ys) in
        ap (λ (n : ℕ). take n (xs ++ ys)) same ∙ take-append-add xs ys (length ys - 1)

-- where memory ran out in the midst of a line, no more was taken than may be
pub few_lacking : {old new : Reader} {before after : Option (List ℕ)} → (lacks : LacksMemory old new before after)
    → length (old.pending ++ lacks.taken) ≤ allowance old + 1
few_lacking {old} {new} lacks = omega (arith, ap length lacks.bytes, length-append lacks.part new.pending, lacks.within)

-- nothing was read or written
pub nothing_done : (limit : ℕ) (before old : Option (List ℕ)) → IsPartWritten limit before before old old
nothing_done limit before old = record {
  taken = [];
  written = [];
  moved = record { from = Consumes-nil before; to = Appends-nil old };
  within = omega arith;
  replies = inl (record { done = []; waiting = []; part = []; allowed = tt; claimed = tt; each = refl; bytes = refl; next = refl });
}

-- where what each job makes is what its operation claims
module _ (all_claimed : (jobs : List Past) → AreAllowed jobs → AreClaimed jobs) where
  -- what is written of the replies to these jobs
  in_part : (asked : List (List ℕ)) (lines : List (List ℕ)) (written : List ℕ) → asked ≡ jobs lines → AreInPart asked written → RepliesInPart lines written
  in_part asked lines written same part = record {
    done = part.done;
    waiting = part.waiting;
    part = part.part;
    allowed = part.allowed;
    claimed = all_claimed part.done part.allowed;
    each = part.each ∙ same;
    bytes = part.bytes;
    next = part.next;
  }

  -- where no job is left in the window all that was asked is answered
  unfoldable pub all_answered : (desk : Desk) (session : Session) (asked lines : List (List ℕ)) (written : List ℕ) → IsAt desk session asked written → seats_in session ≡ 0 → asked ≡ jobs lines → Replies lines written
  all_answered desk session asked lines written at empty same = record {
    done = at.done;
    allowed = at.answered.allowed;
    claimed = all_claimed at.done at.answered.allowed;
    each = sym (append-nil (in_order at.done)) ∙ ap (λ (x : List (List ℕ)). in_order at.done ++ x) (sym none) ∙ at.each ∙ same;
    bytes = at.bytes;
  }
    where
      none_by : (waiting : List (List ℕ)) → length waiting ≡ 0 → waiting ≡ []
      none_by [] none = refl
      none_by (line ∷ waiting) some = absurd (omega (arith, some))

      none : at.waiting ≡ []
      none = none_by at.waiting (sym at.gathered.counted ∙ empty)

  -- the session stopped at the lines handed on, behind which more bytes were taken
  stopped_at : {limit : ℕ} {before later : Option (List ℕ)} {old mid new : Option (List ℕ)} (got rest : List ℕ) (lines : List (List ℕ)) (written : List ℕ)
      → Consumes before later (got ++ rest) → length (got ++ rest) ≤ limit + 1 → AreLines got lines
      → Appends old mid written → WritesMore (AreInPart (jobs lines)) written mid new → IsPartWritten limit before later old new
  stopped_at {limit} {before} {later} {old} {mid} {new} got rest lines written from few are to writes = record {
    taken = got ++ rest;
    written = written ++ writes.more;
    moved = record { from = from; to = Appends-trans old mid new written writes.more to writes.to };
    within = few;
    replies = inl (in_part (jobs lines ++ jobs (whole_lines rest)) (whole_lines (got ++ rest)) (written ++ writes.more)
        (sym (jobs-append lines (whole_lines rest)) ∙ ap jobs (sym (whole_lines_behind got rest lines are)))
        (in_part_of_more (jobs lines) (jobs (whole_lines rest)) (written ++ writes.more) writes.holds));
  }

  -- it stopped at all lines of an input that has ended
  stopped_at_end : {limit : ℕ} {before later : Option (List ℕ)} {old mid new : Option (List ℕ)} (got : List ℕ) (lines : List (List ℕ)) (written : List ℕ)
      → Consumes before later got → length got ≤ limit → IsAtEnd later → lines_of got ≡ lines
      → Appends old mid written → WritesMore (AreInPart (jobs lines)) written mid new → IsPartWritten limit before later old new
  stopped_at_end {limit} {before} {later} {old} {mid} {new} got lines written from within at_end are to writes = record {
    taken = got;
    written = written ++ writes.more;
    moved = record { from = from; to = Appends-trans old mid new written writes.more to writes.to };
    within = omega arith;
    replies = inr (at_end, in_part (jobs lines) (lines_of got) (written ++ writes.more) (ap jobs (sym are)) writes.holds);
  }

  -- the session stopped while it took a line in
  stopped : {desk : Desk} {limit max f f' k k' : ℕ} {before now later old mid new : Option (List ℕ)} {reader reader' : Reader} {session : Session} {next : Next}
      → (midway : Midway desk limit f f' k k' before now reader old mid session) → (handed : HandsOn next max reader reader' now later)
      → WritesMore (AreInPart (jobs midway.lines ++ jobs (handed.line ∷ []))) midway.written mid new → IsPartWritten limit before later old new
  stopped {limit = limit} {before = before} {later = later} {old = old} {mid = mid} {new = new} {reader' = reader'} midway handed writes =
      let read = hand midway.read handed in
      let bytes = midway.got ++ handed.text in
      let lines = midway.lines ++ handed.line ∷ [] in
      let writes' = subst (λ (asked : List (List ℕ)). WritesMore (AreInPart asked) midway.written mid new) (sym (jobs-append midway.lines (handed.line ∷ []))) writes in
      let within = read.within in
      elim read.stands [
        | inl w ↦ stopped_at bytes reader'.pending lines midway.written read.from (omega (arith, length-append bytes reader'.pending)) w.1 midway.to writes'
        | inr w ↦ stopped_at_end bytes lines midway.written
            (subst (Consumes before later) (ap (λ (x : List ℕ). bytes ++ x) w.2 ∙ append-nil bytes) read.from) (omega arith) w.3 w.1 midway.to writes'
      ]

  -- the reading stopped behind whole lines, with more bytes taken
  stopped_reading : {desk : Desk} {limit f f' k k' : ℕ} {before now later old mid new : Option (List ℕ)} {reader : Reader} {session : Session}
      → (midway : Midway desk limit f f' k k' before now reader old mid session) → reader.at_end ≡ false
      → (more : List ℕ) → Consumes now later more → length (reader.pending ++ more) ≤ allowance reader + 1
      → WritesMore (AreInPart (jobs midway.lines)) midway.written mid new → IsPartWritten limit before later old new
  stopped_reading {before = before} {now = now} {later = later} {reader = reader} midway fresh more from few writes =
      let rest = reader.pending ++ more in
      let within = midway.read.within in
      stopped_at midway.got rest midway.lines midway.written
      (subst (Consumes before later) (append_assoc midway.got reader.pending more)
      (Consumes-trans before now later (midway.got ++ reader.pending) more midway.read.from from))
      (omega (arith, length-append midway.got rest)) (whole_so_far midway.read fresh) midway.to writes

  -- nothing more was written
  pub lacking_ends : {desk : Desk} {limit f f' k k' : ℕ} {before now later old mid : Option (List ℕ)} {reader : Reader} {session : Session}
      → (midway : Midway desk limit f f' k k' before now reader old mid session) → reader.at_end ≡ false
      → (more : List ℕ) → Consumes now later more → length (reader.pending ++ more) ≤ allowance reader + 1 → IsPartWritten limit before later old mid
  lacking_ends {desk} {mid = mid} {session = session} midway fresh more from few =
      stopped_reading midway fresh more from few (record {
        more = [];
        to = Appends-nil mid;
        holds = subst (AreInPart (jobs midway.lines)) (sym (append-nil midway.written)) (at_in_part desk session (jobs midway.lines) midway.written midway.at);
      })

  -- what holds where the input has ended: the bytes handed on are all of it
  record IsWhole (before later : Option (List ℕ)) (got : List ℕ) (lines : List (List ℕ)) : Type 0 where
    pub from : Consumes before later got
    pub at_end : IsAtEnd later
    pub lines_is : lines_of got ≡ lines

  whole_input : {limit : ℕ} {before now later : Option (List ℕ)} {reader : Reader} {got : List ℕ} {lines : List (List ℕ)}
      → ReadSoFar limit before now reader got lines → IsAtLast reader now later → IsWhole before later got lines
  whole_input {limit} {before} {now} {later} {reader} {got} {lines} read last = elim last [
    | inl ended ↦ elim read.stands [
      | inl w ↦ absurd (apart (sym ended.0 ∙ w.0))
      | inr w ↦ record {
        from = subst (λ (x : Option (List ℕ)). Consumes before x got) (sym ended.2)
            (subst (Consumes before now) (ap (λ (x : List ℕ). got ++ x) w.2 ∙ append-nil got) read.from);
        at_end = subst IsAtEnd (sym ended.2) w.3;
        lines_is = w.1;
      }
    ]
    | inr ends ↦ record {
      from = subst (Consumes before later) (append-nil (got ++ reader.pending) ∙ ap (λ (x : List ℕ). got ++ x) ends.1 ∙ append-nil got)
          (Consumes-trans before now later (got ++ reader.pending) [] read.from ends.2);
      at_end = ends.3;
      lines_is = lines_of_at got lines (whole_so_far read ends.0);
    }
  ]
    where
      apart : true ≡ false → ⊥
      apart h = cc

  -- the input has ended: all is written and flushed
  pub done_all : {desk : Desk} {limit f f' k k' : ℕ} {before now later old mid new flushed : Option (List ℕ)} {reader : Reader} {session : Session} (session' : Session)
      → (midway : Midway desk limit f f' k k' before now reader old mid session) → WritesMore (IsAt desk session' (jobs midway.lines)) midway.written mid new
      → seats_in session' ≡ 0 → flushed ≡ new → IsAtLast reader now later → IsDone session'.good limit before later old new flushed
  unfolding all_answered
  done_all {desk} {limit} {old = old} {mid = mid} {new = new} session' midway goes empty all_flushed last =
      let whole = whole_input midway.read last in
      record {
        input = midway.got;
        written = midway.written ++ goes.more;
        moved = record { from = whole.from; to = Appends-trans old mid new midway.written goes.more midway.to goes.to };
        at_end = whole.at_end;
        within = let within = midway.read.within in omega arith;
        replies = all_answered desk session' (jobs midway.lines) (lines_of midway.got) (midway.written ++ goes.more) goes.holds empty (ap jobs (sym whole.lines_is));
        good_is = goes.holds.answered.good_is;
        all_flushed = all_flushed;
      }

  -- reading failed: the replies to all lines handed on are written and flushed
  pub cut_off : {desk : Desk} {limit f f' k k' : ℕ} {before now later old mid new flushed : Option (List ℕ)} {reader : Reader} {session : Session} (session' : Session)
      → (midway : Midway desk limit f f' k k' before now reader old mid session) → WritesMore (IsAt desk session' (jobs midway.lines)) midway.written mid new
      → seats_in session' ≡ 0 → flushed ≡ new → reader.at_end ≡ false → CutsOff reader now later → IsCutOff limit before later old new flushed
  cut_off {desk} {limit} {before = before} {now = now} {later = later} {old = old} {mid = mid} {new = new} {reader = reader} session' midway goes empty all_flushed fresh cut =
      let rest = reader.pending ++ cut.0 in
      record {
        taken = midway.got ++ rest;
        written = midway.written ++ goes.more;
        moved = record {
          from = subst (Consumes before later) (append_assoc midway.got reader.pending cut.0)
              (Consumes-trans before now later (midway.got ++ reader.pending) cut.0 midway.read.from cut.1);
          to = Appends-trans old mid new midway.written goes.more midway.to goes.to;
        };
        within = let within = midway.read.within in let few = cut.3 in omega (arith, length-append midway.got rest);
        replies = all_answered desk session' (jobs midway.lines) (whole_lines (midway.got ++ rest)) (midway.written ++ goes.more) goes.holds empty
            (ap jobs (sym (whole_lines_at midway.got rest midway.lines (whole_so_far midway.read fresh) cut.2)));
        all_flushed = all_flushed;
      }

  -- all that may be read was taken and more came: so they are
  pub full : {desk : Desk} {limit f f' k k' : ℕ} {before now later old mid new flushed : Option (List ℕ)} {reader : Reader} {session : Session} (session' : Session)
      → (midway : Midway desk limit f f' k k' before now reader old mid session) → WritesMore (IsAt desk session' (jobs midway.lines)) midway.written mid new
      → seats_in session' ≡ 0 → flushed ≡ new → reader.at_end ≡ false → Overflows reader now later → IsFull limit before later old new flushed
  full {desk} {limit} {before = before} {now = now} {later = later} {old = old} {mid = mid} {new = new} {reader = reader} session' midway goes empty all_flushed fresh over =
      let rest = reader.pending ++ over.0 in
      record {
        input = midway.got ++ rest;
        byte = over.1;
        written = midway.written ++ goes.more;
        moved = record {
          from = subst (Consumes before later)
              (sym (append_assoc (midway.got ++ reader.pending) over.0 (over.1 ∷ [])) ∙ ap (λ (x : List ℕ). x ++ over.1 ∷ []) (append_assoc midway.got reader.pending over.0))
              (Consumes-trans before now later (midway.got ++ reader.pending) (over.0 ++ over.1 ∷ []) midway.read.from over.2);
          to = Appends-trans old mid new midway.written goes.more midway.to goes.to;
        };
        exact = let within = midway.read.within in let all = over.4 in omega (arith, length-append midway.got rest);
        replies = all_answered desk session' (jobs midway.lines) (whole_lines (midway.got ++ rest)) (midway.written ++ goes.more) goes.holds empty
            (ap jobs (sym (whole_lines_at midway.got rest midway.lines (whole_so_far midway.read fresh) over.3)));
        all_flushed = all_flushed;
      }

  -- the session stopped at a line
  pub stop_ends : {desk : Desk} {limit max f f' k k' : ℕ} {before now later old mid : Option (List ℕ)} {reader reader' : Reader}
      {session : Session} {next : Next} (f'' k'' : ℕ) (new flushed : Option (List ℕ)) (session' : Session) (s : Stop) (result : Ended)
      → (midway : Midway desk limit f f' k k' before now reader old mid session) → (handed : HandsOn next max reader reader' now later)
      → result ≡ ended_of s → Goes desk (Err s) session' (jobs midway.lines ++ jobs (handed.line ∷ [])) midway.written k' k'' mid new
      → Ends result limit f f'' k k'' before later old new flushed
  stop_ends {limit = limit} {f = f} {k = k} {k' = k'} {before = before} {later = later} {old = old} f'' k'' new flushed session' stop.WriteFault result midway handed same (rose, writes) =
      subst (λ (e : Ended). Ends e limit f f'' k k'' before later old new flushed) (sym same) (Rose-since k k' k'' midway.writes rose, stopped midway handed writes)
  stop_ends {limit = limit} {f = f} {k = k} {before = before} {later = later} {old = old} f'' k'' new flushed session' stop.Memory result midway handed same writes =
      subst (λ (e : Ended). Ends e limit f f'' k k'' before later old new flushed) (sym same) (stopped midway handed writes)

  -- the session stopped with the last window
  last_stop : {limit k k' : ℕ} {before later old mid new : Option (List ℕ)} (desk : Desk) (f f'' k'' : ℕ) (flushed : Option (List ℕ)) (asked : List (List ℕ)) (written : List ℕ)
      (session' : Session) (s : Stop) (result : Ended) → result ≡ ended_of s → k ≤ k' → Goes desk (Err s) session' asked written k' k'' mid new
      → (WritesMore (AreInPart asked) written mid new → IsPartWritten limit before later old new)
      → Ends result limit f f'' k k'' before later old new flushed
  last_stop {limit} {k} {k'} {before} {later} {old} {mid} {new} desk f f'' k'' flushed asked written session' stop.WriteFault result same since (rose, writes) part =
      subst (λ (e : Ended). Ends e limit f f'' k k'' before later old new flushed) (sym same) (Rose-since k k' k'' since rose, part writes)
  last_stop {limit} {k} {k'} {before} {later} {old} {mid} {new} desk f f'' k'' flushed asked written session' stop.Memory result same since writes part =
      subst (λ (e : Ended). Ends e limit f f'' k k'' before later old new flushed) (sym same) (part writes)

  -- so it did at the end of the input
  pub stop_at_last : {desk : Desk} {limit f f' k k' : ℕ} {before now later old mid : Option (List ℕ)} {reader : Reader} {session : Session} (f'' k'' : ℕ) (new flushed : Option (List ℕ))
      (session' : Session) (s : Stop) (result : Ended) → (midway : Midway desk limit f f' k k' before now reader old mid session)
      → result ≡ ended_of s → Goes desk (Err s) session' (jobs midway.lines) midway.written k' k'' mid new → IsAtLast reader now later
      → Ends result limit f f'' k k'' before later old new flushed
  stop_at_last {desk} {limit} {f} f'' k'' new flushed session' s result midway same goes last =
      let whole = whole_input midway.read last in
      let within = midway.read.within in
      last_stop desk f f'' k'' flushed (jobs midway.lines) midway.written session' s result same midway.writes goes
      (stopped_at_end midway.got midway.lines midway.written whole.from (omega arith) whole.at_end whole.lines_is midway.to)

  -- and where reading failed
  pub stop_at_fault : {desk : Desk} {limit f f' k k' : ℕ} {before now old mid : Option (List ℕ)} {reader : Reader} {session : Session} (f'' k'' : ℕ) (later new flushed : Option (List ℕ))
      (session' : Session) (s : Stop) (result : Ended) → (midway : Midway desk limit f f' k k' before now reader old mid session)
      → result ≡ ended_of s → Goes desk (Err s) session' (jobs midway.lines) midway.written k' k'' mid new → reader.at_end ≡ false → CutsOff reader now later
      → Ends result limit f f'' k k'' before later old new flushed
  stop_at_fault {desk} {limit} {f} f'' k'' later new flushed session' s result midway same goes fresh cut =
      last_stop desk f f'' k'' flushed (jobs midway.lines) midway.written session' s result same midway.writes goes
      (stopped_reading midway fresh cut.0 cut.1 (let few = cut.3 in omega arith))

  -- and where the input is too long
  pub stop_at_full : {desk : Desk} {limit f f' k k' : ℕ} {before now old mid : Option (List ℕ)} {reader : Reader} {session : Session} (f'' k'' : ℕ) (later new flushed : Option (List ℕ))
      (session' : Session) (s : Stop) (result : Ended) → (midway : Midway desk limit f f' k k' before now reader old mid session)
      → result ≡ ended_of s → Goes desk (Err s) session' (jobs midway.lines) midway.written k' k'' mid new → reader.at_end ≡ false → Overflows reader now later
      → Ends result limit f f'' k k'' before later old new flushed
  stop_at_full {desk} {limit} {f} {reader = reader} f'' k'' later new flushed session' s result midway same goes fresh over =
      let all = over.4 in
      let few : length (reader.pending ++ (over.0 ++ over.1 ∷ [])) ≤ allowance reader + 1 =
      omega (arith, length-append reader.pending over.0, length-append reader.pending (over.0 ++ over.1 ∷ []), length-append over.0 (over.1 ∷ [])) in
      last_stop desk f f'' k'' flushed (jobs midway.lines) midway.written session' s result same midway.writes goes
      (stopped_reading midway fresh (over.0 ++ over.1 ∷ []) over.2 few)
