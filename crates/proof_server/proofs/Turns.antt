-- How a session goes on, or stops, with the reply to one job.
use Rattle.std.proofs.Common.{◌≡◌, ◌⊎◌, ℕ, ◌+◌, ◌<◌, ◌≤◌, Bool, true, false, cond, ◌&&◌, ◌||◌, not, List, [], ◌∷◌, ◌++◌, map, length, take, drop, refl, sym, ap, ◌∙◌, subst, inl, inr, arith, append_assoc, append-nil, length-append, length-drop, take-append-drop}
use Rattle.std.proofs.lemmas.List.{map-append}
use Rattle.std.specs.Prelude.{Option, Some, None, Result, Ok, Err, OnOk, IfErr, vec_capacity}
use Rattle.std.specs.List.{All, list_all}
use Rattle.std.proofs.lemmas.Bool.Decides.{nat_tests}
use Rattle.std.proofs.lemmas.List.Elements.{All-head, All-tail, All-push}
use Rattle.std.specs.Io.KnownBytes.{Appends}
use Rattle.std.proofs.KnownBytes.{Appends-trans}
use Rattle.edge_io.specs.Causes.{Rose}
use Rattle.operation_laws.specs.Answers.{refused, failed, lacking, product, one as answering, elimination, satisfiability, saturation}
use Rattle.operation_laws.specs.Values.{Value}
use Rattle.held_values.specs.declared.held.Held.{Held}
use Rattle.held_values.specs.Means.{sense}
use Rattle.session_laws.specs.Jobs.{max_line, is_too_long, is_blank, is_job, jobs, IsKept}
use Rattle.session_laws.specs.Answers.{Past, Request, no_operation, an_operation, Came, faulty, answered as answered_by, in_order, job_of, name_of, run_line, held_of, IsAllowed, AreAllowed}
use Rattle.session_laws.specs.Replying.{reply_line}
use Rattle.session_laws.specs.Session.{out, all_ok, IsPartOfNext}
use Rattle.session_laws.proofs.ReplyLines.{length-reply_line}
use Rattle.job_windows.specs.Running.{IsConclusion, IsUnnamed, FitsDesk}
use Rattle.job_windows.specs.Windows.{AreDue}
use Rattle.job_windows.specs.Replying.{IsReply}
use Rattle.job_windows.specs.Means.{IsGathered, IsPending}
use Rattle.job_windows.proofs.Answering.{empty_gathered}
use Rattle.job_windows.specs.declared.names.Names.{Names}
use Rattle.job_windows.specs.declared.replying.ReplyLine.{ReplyLine}
use Rattle.job_windows.specs.declared.seats.Due.{Due}
use Rattle.cut_elim.specs.declared.desk.Desk.{Desk}
use Rattle.cut_elim.specs.Desks.{IsDeskPassOf}
use Rattle.proof_server.specs.Counting.{counts_of}
use Rattle.proof_server.specs.Turn.{any_lacked, IsAt, IsWriting, AreInPart, WritesMore, Goes, Writes}
use Rattle.proof_server.specs.declared.session.Stop.{Stop}
use Rattle.proof_server.specs.declared.session.Stop.TheVariants.{WriteFault, Memory}
use Rattle.proof_server.proofs.Midway.{Rose-since}
use Rattle.proof_server.specs.declared.session.Session.{Session}

-- each line may come to something
some_end : (r : Request) → (c : Came) × IsAllowed r c
some_end (no_operation f) = (faulty f, refl)
some_end (an_operation (answering (refused r))) = (answered_by (refused r), refl)
some_end (an_operation (answering (failed f))) = (answered_by (failed f), inl refl)
some_end (an_operation (answering lacking)) = (answered_by lacking, refl)
some_end (an_operation (answering (product p))) = (answered_by (product p), inl refl)
some_end (an_operation (elimination t)) = (answered_by lacking, inr refl)
some_end (an_operation (satisfiability cs)) = (answered_by lacking, inr (inr refl))
some_end (an_operation (saturation cs n)) = (answered_by lacking, inr (inr (inr refl)))

-- nothing of the next reply is a part of it
part_none : (earlier : List Past) (waiting : List (List ℕ)) → AreAllowed earlier → IsPartOfNext earlier waiting []
part_none earlier [] allowed = refl
part_none earlier (line ∷ waiting) allowed =
    let end = some_end (run_line (held_of earlier) line) in record {
      job = job_of line end.0;
      line_is = refl;
      allowed = (end.1, allowed);
      more = reply_line earlier (job_of line end.0);
      goes_on = length-reply_line earlier (job_of line end.0);
      bytes = refl;
    }

-- a part of the first reply that waits is one however many more wait
pub part_of_more : (earlier : List Past) (waiting more : List (List ℕ)) (part : List ℕ) → AreAllowed earlier
    → IsPartOfNext earlier waiting part → IsPartOfNext earlier (waiting ++ more) part
part_of_more earlier [] more part allowed none = subst (IsPartOfNext earlier more) (sym none) (part_none earlier more allowed)
part_of_more earlier (line ∷ waiting) more part allowed next = next

pub in_part_of_more : (asked more : List (List ℕ)) (written : List ℕ) → AreInPart asked written → AreInPart (asked ++ more) written
in_part_of_more asked more written part = record {
  done = part.done;
  waiting = part.waiting ++ more;
  part = part.part;
  each = sym (append_assoc (in_order part.done) part.waiting more) ∙ ap (λ (x : List (List ℕ)). x ++ more) part.each;
  allowed = part.allowed;
  bytes = part.bytes;
  next = part_of_more part.done part.waiting more part.part part.allowed part.next;
}

-- whole replies are a part of all
whole_in_part : (done : List Past) (waiting asked : List (List ℕ)) (written : List ℕ) → in_order done ++ waiting ≡ asked → written ≡ out done → AreAllowed done → AreInPart asked written
whole_in_part done waiting asked written each bytes allowed = record {
  done = done;
  waiting = waiting;
  part = [];
  each = each;
  allowed = allowed;
  bytes = bytes ∙ sym (append-nil (out done));
  next = part_none done waiting allowed;
}

pub at_in_part : (desk : Desk) (session : Session) (asked : List (List ℕ)) (written : List ℕ) → IsAt desk session asked written → AreInPart asked written
at_in_part desk session asked written at = whole_in_part at.done at.waiting asked written at.each at.bytes at.answered.allowed

pub writing_in_part : (desk : Desk) (session : Session) (asked : List (List ℕ)) (written : List ℕ) (dues : List Due) → IsWriting desk session asked written dues → AreInPart asked written
writing_in_part desk session asked written dues w = whole_in_part w.done w.waiting asked written w.each w.bytes w.answered.allowed

-- nothing more was written
pub writes_none : (P : List ℕ → Type 0) (written : List ℕ) (old new : Option (List ℕ)) → Appends old new [] → P written → WritesMore P written old new
writes_none P written old new to holds = record { more = []; to = to; holds = subst P (sym (append-nil written)) holds }

-- what was written behind what was written
pub writes_on : (P Q : List ℕ → Type 0) (written : List ℕ) (old mid new : Option (List ℕ)) (first : WritesMore P written old mid)
    → WritesMore Q (written ++ first.more) mid new → WritesMore Q written old new
writes_on P Q written old mid new first second = record {
  more = first.more ++ second.more;
  to = Appends-trans old mid new first.more second.more first.to second.to;
  holds = subst Q (append_assoc written first.more second.more) second.holds;
}

-- the session stopped behind what was written
pub writes_stop : (desk : Desk) (stop : Stop) (one two three : Session) (asked : List (List ℕ)) (written : List ℕ) (left rest : List Due) (k k' k'' : ℕ) (old mid new : Option (List ℕ)) → k ≤ k'
    → (so_far : WritesMore (λ bytes. IsWriting desk one asked bytes left) written old mid) → Writes desk (Err stop) two asked (written ++ so_far.more) rest k' k'' mid new
    → Writes desk (Err stop) three asked written [] k k'' old new
writes_stop desk WriteFault one two three asked written left rest k k' k'' old mid new since so_far stops =
    (Rose-since k k' k'' since stops.0, writes_on (λ bytes. IsWriting desk one asked bytes left) (AreInPart asked) written old mid new so_far stops.1)
writes_stop desk Memory one two three asked written left rest k k' k'' old mid new since so_far stops =
    writes_on (λ bytes. IsWriting desk one asked bytes left) (AreInPart asked) written old mid new so_far stops

-- what a stop while replies are written is to the session
pub stops_so : (desk : Desk) (stop : Stop) (one two : Session) (asked : List (List ℕ)) (written : List ℕ) (k k' : ℕ) (old new : Option (List ℕ))
    → Writes desk (Err stop) one asked written [] k k' old new → Goes desk (Err stop) two asked written k k' old new
stops_so desk WriteFault one two asked written k k' old new stops = stops
stops_so desk Memory one two asked written k k' old new stops = stops

-- the first answer that is due is that of the first line
record IsHead (names : Names) (held : List (Option Value)) (earlier : List Past) (lines : List (List ℕ)) (due : Due) (dues : List Due) : Type 0 where
  pub line : List ℕ
  pub rest : List (List ℕ)
  pub lines_are : lines ≡ line ∷ rest
  pub named : due.name ≡ name_of line
  pub goes : IsUnnamed due.outcome due.held
      ⊎ ((came : Came) × IsConclusion due.outcome due.held (run_line (held_of earlier) line) came
      × AreDue names (held ++ sense due.held ∷ []) (job_of line came ∷ earlier) rest dues)

head_of : (names : Names) (held : List (Option Value)) (earlier : List Past) (lines : List (List ℕ)) (due : Due) (dues : List Due)
    → AreDue names held earlier lines (due ∷ dues) → IsHead names held earlier lines due dues
head_of names held earlier [] due dues are = absurd are
head_of names held earlier (line ∷ rest) due dues are = record { line = line; rest = rest; lines_are = refl; named = are.0; goes = are.1 }

pub none_left : (dues : List Due) → length dues ≡ 0 → dues ≡ []
none_left [] none = refl
none_left (due ∷ dues) some = absurd (omega (arith, some))

-- where all answers are written none waits
pub none_waits : (names : Names) (held : List (Option Value)) (earlier : List Past) (lines : List (List ℕ)) → AreDue names held earlier lines [] → lines ≡ []
none_waits names held earlier [] known = refl
none_waits names held earlier (line ∷ lines) are = absurd are

-- with the reply to the first job
module _ (desk : Desk) (before : Session) (asked : List (List ℕ)) (written : List ℕ) (due : Due) (dues : List Due) (w : IsWriting desk before asked written (due ∷ dues))
    (r : ReplyLine) (told : ¬ IsUnnamed due.outcome due.held) (same : r.held ≡ due.held)
    (replied : (earlier : List Past) (line : List ℕ) (came : Came) → before.count ≡ length earlier → due.name ≡ name_of line
    → IsConclusion due.outcome due.held (run_line (held_of earlier) line) came → IsReply r line earlier came) where
  head : IsHead before.store.names (map sense before.store.held.items) w.done w.waiting due dues
  head = head_of before.store.names (map sense before.store.held.items) w.done w.waiting due dues w.pending.due

  goes : (came : Came) × IsConclusion due.outcome due.held (run_line (held_of w.done) head.line) came
      × AreDue before.store.names (map sense before.store.held.items ++ sense due.held ∷ []) (job_of head.line came ∷ w.done) head.rest dues
  goes = elim head.goes [ inl unnamed ↦ absurd (told unnamed) | inr rest ↦ rest ]

  reply : IsReply r head.line w.done goes.0
  reply = replied w.done head.line goes.0 w.answered.number head.named goes.1

  job : Past
  job = job_of head.line goes.0

  each_more : in_order (job ∷ w.done) ++ head.rest ≡ asked
  unfolding job
  each_more =
      append_assoc (in_order w.done) (head.line ∷ []) head.rest
      ∙ ap (λ (lines : List (List ℕ)). in_order w.done ++ lines) (sym head.lines_are) ∙ w.each

  bytes_more : written ++ r.bytes.items ≡ out (job ∷ w.done)
  unfolding job
  bytes_more = λ i. w.bytes i ++ reply.bytes i

  allowed_more : AreAllowed (job ∷ w.done)
  unfolding job
  allowed_more = (reply.allowed, w.answered.allowed)

  -- only its first n bytes were written
  pub stopped_within : (n : ℕ) (old new : Option (List ℕ)) → n < length r.bytes.items → Appends old new (take n r.bytes.items) → WritesMore (AreInPart asked) written old new
  unfolding job
  stopped_within n old new within to = record {
    more = take n r.bytes.items;
    to = to;
    holds = record {
      done = w.done;
      waiting = head.line ∷ head.rest;
      part = take n r.bytes.items;
      each = ap (λ (lines : List (List ℕ)). in_order w.done ++ lines) (sym head.lines_are) ∙ w.each;
      allowed = w.answered.allowed;
      bytes = ap (λ (x : List ℕ). x ++ take n r.bytes.items) w.bytes;
      next = record {
        job = job_of head.line goes.0;
        line_is = refl;
        allowed = (reply.allowed, w.answered.allowed);
        more = drop n r.bytes.items;
        goes_on = omega (arith, length-drop n r.bytes.items);
        bytes = take-append-drop n r.bytes.items ∙ reply.bytes;
      };
    };
  }

  -- it was written whole, and what the job holds is kept
  module _ (after : Session) (number : after.count ≡ before.count + 1) (good : after.good ≡ (before.good && r.is_ok)) (lacked : after.lacked ≡ (before.lacked || r.lacked))
      (counted : (earlier : List Past) (text : List ℕ) (came : Came) → before.counts ≡ counts_of earlier → IsReply r text earlier came → after.counts ≡ counts_of (job_of text came ∷ earlier))
      (kept : after.store.held.items ≡ before.store.held.items ++ r.held ∷ [])
      (spare : vec_capacity after.store.held ≡ vec_capacity before.store.held)
      (pass : after.store.pass ≡ before.store.pass) (names : after.store.names ≡ before.store.names) where
    held_more : map sense after.store.held.items ≡ map sense before.store.held.items ++ sense due.held ∷ []
    held_more = ap (λ (hs : List Held). map sense hs) kept ∙ map-append sense before.store.held.items (r.held ∷ [])
        ∙ ap (λ (h : Held). map sense before.store.held.items ++ sense h ∷ []) same

    pending_more : IsPending desk after.store (job ∷ w.done) head.rest dues
    unfolding job
    pending_more = record {
      holds = record {
        pass = subst (IsDeskPassOf desk) (sym pass) w.pending.holds.pass;
        sized = omega (arith, w.pending.holds.sized, ap length kept, length-append before.store.held.items (r.held ∷ []));
        fits = subst (All (FitsDesk desk)) (sym kept)
            (All-push (FitsDesk desk) before.store.held.items r.held w.pending.holds.fits
            (subst (FitsDesk desk) (sym same) (All-head (λ (d : Due). FitsDesk desk d.held) due dues w.pending.fits)));
      };
      fits = All-tail (λ (d : Due). FitsDesk desk d.held) due dues w.pending.fits;
      room = λ some. let room = w.pending.room (omega arith) in omega (arith, room, spare, ap length kept, length-append before.store.held.items (r.held ∷ []));
      due = subst (λ ns. AreDue ns (map sense after.store.held.items) (job_of head.line goes.0 ∷ w.done) head.rest dues) (sym names)
          (subst (λ (hs : List (Option Value)). AreDue before.store.names hs (job_of head.line goes.0 ∷ w.done) head.rest dues) (sym held_more) goes.2);
    }

    pub written_whole : (old new : Option (List ℕ)) → Appends old new r.bytes.items → WritesMore (λ bytes. IsWriting desk after asked bytes dues) written old new
    unfolding job
    written_whole old new to = record {
      more = r.bytes.items;
      to = to;
      holds = record {
        done = job_of head.line goes.0 ∷ w.done;
        waiting = head.rest;
        each = each_more;
        bytes = bytes_more;
        answered = record {
          allowed = allowed_more;
          number = number ∙ ap (λ n. n + 1) w.answered.number ∙ omega arith;
          counts = counted w.done head.line goes.0 w.answered.counts reply;
          good_is = good ∙ ap (λ (b : Bool). b && r.is_ok) w.answered.good_is ∙ ap (λ (b : Bool). all_ok w.done && b) reply.ok_is;
          lacked_is = lacked ∙ ap (λ (b : Bool). b || r.lacked) w.answered.lacked_is ∙ ap (λ (b : Bool). any_lacked w.done || b) reply.lacked_is;
        };
        pending = pending_more;
      };
    }

-- the window of a session was run
pub ran : (desk : Desk) (before after : Session) (asked : List (List ℕ)) (written : List ℕ) (dues : List Due) (at : IsAt desk before asked written)
    → after.count ≡ before.count → after.counts ≡ before.counts → after.good ≡ before.good → after.lacked ≡ before.lacked
    → IsPending desk after.store at.done at.waiting dues → IsWriting desk after asked written dues
ran desk before after asked written dues at number counts good lacked pending = record {
  done = at.done;
  waiting = at.waiting;
  each = at.each;
  bytes = at.bytes;
  answered = record {
    allowed = at.answered.allowed;
    number = number ∙ at.answered.number;
    counts = counts ∙ at.answered.counts;
    good_is = good ∙ at.answered.good_is;
    lacked_is = lacked ∙ at.answered.lacked_is;
  };
  pending = pending;
}

-- one more job was gathered
pub gathered_more : (desk : Desk) (before after : Session) (asked : List (List ℕ)) (written line : List ℕ) (at : IsAt desk before asked written)
    → after.count ≡ before.count → after.counts ≡ before.counts → after.good ≡ before.good → after.lacked ≡ before.lacked
    → IsGathered desk after.store after.window at.done (at.waiting ++ line ∷ []) → IsAt desk after (asked ++ line ∷ []) written
gathered_more desk before after asked written line at number counts good lacked gathered = record {
  done = at.done;
  waiting = at.waiting ++ line ∷ [];
  each = sym (append_assoc (in_order at.done) at.waiting (line ∷ [])) ∙ ap (λ (lines : List (List ℕ)). lines ++ line ∷ []) at.each;
  bytes = at.bytes;
  answered = record {
    allowed = at.answered.allowed;
    number = number ∙ at.answered.number;
    counts = counts ∙ at.answered.counts;
    good_is = good ∙ at.answered.good_is;
    lacked_is = lacked ∙ at.answered.lacked_is;
  };
  gathered = gathered;
}

-- all that was due is written, and the window is empty
pub all_written : (desk : Desk) (session : Session) (asked : List (List ℕ)) (written : List ℕ) → session.window.seats.items ≡ [] → session.window.tasks.items ≡ []
    → IsWriting desk session asked written [] → IsAt desk session asked written
all_written desk session asked written seats tasks w = record {
  done = w.done;
  waiting = w.waiting;
  each = w.each;
  bytes = w.bytes;
  answered = w.answered;
  gathered = empty_gathered desk session.store session.window w.done w.waiting w.pending
      (none_waits session.store.names (map sense session.store.held.items) w.done w.waiting w.pending.due) seats tasks;
}

-- so it is where it was written behind what was
pub all_written_more : (desk : Desk) (session : Session) (asked : List (List ℕ)) (written : List ℕ) (old new : Option (List ℕ)) → session.window.seats.items ≡ [] → session.window.tasks.items ≡ []
    → WritesMore (λ bytes. IsWriting desk session asked bytes []) written old new → WritesMore (IsAt desk session asked) written old new
all_written_more desk session asked written old new seats tasks writes =
    record { more = writes.more; to = writes.to; holds = all_written desk session asked (written ++ writes.more) seats tasks writes.holds }

-- all of it is flushed, which writes nothing
pub flushed_more : (desk : Desk) (session : Session) (asked : List (List ℕ)) (written : List ℕ) (old mid new : Option (List ℕ)) → session.window.seats.items ≡ [] → session.window.tasks.items ≡ []
    → WritesMore (λ bytes. IsWriting desk session asked bytes []) written old mid → new ≡ mid → WritesMore (IsAt desk session asked) written old new
flushed_more desk session asked written old mid new seats tasks writes same =
    subst (λ (end : Option (List ℕ)). WritesMore (IsAt desk session asked) written old end) (sym same) (all_written_more desk session asked written old mid seats tasks writes)

-- the flush failed
pub flush_failed : (desk : Desk) (session : Session) (asked : List (List ℕ)) (written : List ℕ) (dues : List Due) (k k' k'' : ℕ) (old mid new : Option (List ℕ)) → k ≤ k' → Rose k' k''
    → WritesMore (λ bytes. IsWriting desk session asked bytes dues) written old mid → new ≡ mid → Goes desk (Err WriteFault) session asked written k k'' old new
flush_failed desk session asked written dues k k' k'' old mid new since rose writes same = (
  Rose-since k k' k'' since rose,
  record {
    more = writes.more;
    to = subst (λ (end : Option (List ℕ)). Appends old end writes.more) (sym same) writes.to;
    holds = writing_in_part desk session asked (written ++ writes.more) dues writes.holds;
  },
)

-- all that was due is written and flushed, or the flush failed
pub goes_flushed : (desk : Desk) (result : Result (Unit {0}) Stop) (session : Session) (asked : List (List ℕ)) (written : List ℕ) (k k' k'' : ℕ) (old mid new : Option (List ℕ))
    → session.window.seats.items ≡ [] → session.window.tasks.items ≡ [] → k ≤ k' → IfErr result (λ stop. (stop ≡ WriteFault) × Rose k' k'')
    → WritesMore (λ bytes. IsWriting desk session asked bytes []) written old mid → new ≡ mid → Goes desk result session asked written k k'' old new
goes_flushed desk (Ok _) session asked written k k' k'' old mid new seats tasks since fault writes same = flushed_more desk session asked written old mid new seats tasks writes same
goes_flushed desk (Err stop) session asked written k k' k'' old mid new seats tasks since fault writes same =
    subst (λ (s : Stop). Goes desk (Err s) session asked written k k'' old new) (sym fault.0) (flush_failed desk session asked written [] k k' k'' old mid new since fault.1 writes same)

-- what holds in any case does so where all went well
pub on_ok : {P : Type 0} (result : Result (Unit {0}) Stop) → P → OnOk result P
on_ok (Ok _) holds = holds
on_ok (Err stop) holds = tt

pub jobs_of_job : (line : List ℕ) → is_job line ≡ true → jobs (line ∷ []) ≡ line ∷ []
jobs_of_job line job = ap (λ (b : Bool). cond b (line ∷ []) []) job

pub jobs_of_blank : (line : List ℕ) → is_job line ≡ false → jobs (line ∷ []) ≡ []
jobs_of_blank line blank = ap (λ (b : Bool). cond b (line ∷ []) []) blank

-- a line that isn't too long is a job unless it holds blanks alone
pub short_is_job : (bytes line : List ℕ) (blank : Bool) → IsKept (Some bytes) line → blank ≡ list_all is_blank bytes → not blank ≡ is_job line
short_is_job bytes line blank kept is =
    let all : blank ≡ list_all is_blank line = is ∙ ap (λ (x : List ℕ). list_all is_blank x) kept.0 in
    λ i. sym kept.1 i || not (all i)

pub long_is_job : (line : List ℕ) → IsKept None line → true ≡ is_job line
long_is_job line long =
    let is_long : true ≡ is_too_long line = grind (arith, nat_tests) in
    λ i. is_long i || not (list_all is_blank line)

-- with a line of blanks the session was handed no more jobs
pub goes_blank : (desk : Desk) (result : Result (Unit {0}) Stop) (session : Session) (asked : List (List ℕ)) (line written : List ℕ) (k k' : ℕ) (old new : Option (List ℕ)) → is_job line ≡ false
    → Goes desk result session asked written k k' old new → Goes desk result session (asked ++ jobs (line ∷ [])) written k k' old new
goes_blank desk result session asked line written k k' old new blank goes =
    subst (λ (all : List (List ℕ)). Goes desk result session all written k k' old new) (sym (append-nil asked) ∙ ap (λ (more : List (List ℕ)). asked ++ more) (sym (jobs_of_blank line blank))) goes

-- with any other it was handed that one
pub goes_job : (desk : Desk) (result : Result (Unit {0}) Stop) (session : Session) (asked : List (List ℕ)) (line written : List ℕ) (k k' : ℕ) (old new : Option (List ℕ)) → is_job line ≡ true
    → Goes desk result session (asked ++ line ∷ []) written k k' old new → Goes desk result session (asked ++ jobs (line ∷ [])) written k k' old new
goes_job desk result session asked line written k k' old new job goes =
    subst (λ (more : List (List ℕ)). Goes desk result session (asked ++ more) written k k' old new) (sym (jobs_of_job line job)) goes

-- once the window was run no more jobs are in the session than before
pub few_run : (result : Result (Unit {0}) Stop) (count seats jobs most : ℕ) → OnOk result (count ≡ jobs) → OnOk result (seats ≡ 0) → jobs ≤ most → OnOk result (count + seats ≤ most)
few_run (Ok _) count seats jobs most all none few = omega arith
few_run (Err _) count seats jobs most all none few = tt

-- a window that was run has room for jobs
pub room_after_run : (result : Result (Unit {0}) Stop) (seats : ℕ) → OnOk result (seats ≡ 0) → OnOk result (seats < 64)
room_after_run (Ok _) seats none = omega arith
room_after_run (Err _) seats none = tt

-- what the reader tells of a line is what the session keeps of it
pub kept_line : (bytes items line : List ℕ) → bytes ≡ items → (items ≡ line) × (length line ≤ max_line) → IsKept (Some bytes) line
kept_line bytes items line same told =
    let short = told.1 in
    (same ∙ told.0, grind (arith, nat_tests))
