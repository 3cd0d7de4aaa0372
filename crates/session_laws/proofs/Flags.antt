-- The bytes of replies tell which jobs lacked memory, and what each job came to, where each reply line is one line.
use Rattle.std.proofs.Common.{◌≡◌, ℕ, ◌<◌, ◌≤◌, ◌+◌, false, List, [], ◌∷◌, ◌++◌, length, take, map, Option, Some, refl, sym, ap, ◌∙◌, subst, arith, length-append}
use Rattle.std.proofs.lemmas.List.{same_from_push, map_push, take_at, take-append-le, length_push}
use Rattle.std.specs.List.{All, slice_split}
use Rattle.std.proofs.lemmas.List.Elements.{All-take, All-head, All-tail, All-pop}
use Rattle.reply_lines.specs.declared.replies.Outcome.{Outcome}
use Rattle.reply_lines.specs.declared.replies.Reply.{Reply}
use Rattle.reply_lines.specs.Replies.{line_of}
use Rattle.reply_lines.specs.OneLine.{IsOneLine, is_want, reports_want}
use Rattle.edge_io.specs.Lines.{is_newline, OneLine, AreLines, whole_lines}
use Rattle.edge_io.proofs.LinesLemmas.{lines_nil, lines_more, whole_lines_at}
use Rattle.reply_lines.specs.Shown.{AreAlike}
use Rattle.job_lang.specs.declared.jobs.Op.{Op}
use Rattle.operation_laws.specs.Values.{Value}
use Rattle.operation_laws.specs.Answers.{Answer, shown, Asked, May}
use Rattle.operation_laws.specs.Running.{run, HasOneAnswer}
use Rattle.session_laws.specs.Answers.{Past, Came, faulty, answered, Request, no_operation, an_operation, Lookup, values_for, name_of, run_line, held_of, IsAllowed, AsksOne, outcome_of, lacked, job_of, in_order, AreAllowed}
use Rattle.session_laws.specs.Replying.{reply_of, reply_line}
use Rattle.session_laws.proofs.Claiming.{line_by}
use Rattle.session_laws.specs.Session.{out, flags_of, memory_flags, Replies, RepliesInPart, IsPartOfNext}

none_of : OneLine []
none_of = λ k d within. absurd (omega arith)

-- the beginning of one line that isn't the whole of it has no newline
part_of_line : (part more text line : List ℕ) → line ≡ text ++ 10 ∷ [] → OneLine text → 0 < length more → part ++ more ≡ line → OneLine part
part_of_line part more text line is one some same =
    let count = ap length same ∙ ap length is in
    let within : length part ≤ length text = omega (arith, count, length-append part more, length-append text (10 ∷ [])) in
    let begins : part ≡ take (length part) text =
    sym (take_at part more (length part) refl) ∙ ap (λ (x : List ℕ). take (length part) x) (same ∙ is) ∙ take-append-le (length part) text (10 ∷ []) within in
    subst OneLine (sym begins) (All-take (λ b. is_newline b ≡ false) (length part) text one)

-- lists that begin the same list and have one length are the same
same_front : (a b c d : List (List ℕ)) → a ++ c ≡ b ++ d → length a ≡ length b → a ≡ b
same_front a b c d same sized =
    sym (take_at a c (length a) refl) ∙ ap (λ (x : List (List ℕ)). take (length a) x) same ∙ take_at b d (length a) (sym sized)

module _
    (one : (reply : Reply) → IsOneLine (line_of reply))
    (tells : (reply : Reply) (text : List ℕ) → line_of reply ≡ text ++ 10 ∷ [] → reports_want text ≡ is_want reply.outcome)
    (one_answer : (asked : Asked) (a b : Answer) → May asked a → May asked b → AreAlike (shown a) (shown b) → a ≡ b)
    (one_determined : (op : Op) (vs : List (Option Value)) (a b : Answer) → HasOneAnswer op → May (run op vs) a → May (run op vs) b
    → is_want (shown a) ≡ is_want (shown b) → a ≡ b) where
  -- the texts of the replies, which are their lines
  texts : List Past → List (List ℕ)
  texts [] = []
  texts (job ∷ earlier) = texts earlier ++ (one (reply_of earlier job)).text ∷ []

  reply_is : (earlier : List Past) (job : Past) → reply_line earlier job ≡ (one (reply_of earlier job)).text ++ 10 ∷ []
  unfolding reply_line
  reply_is earlier job = (one (reply_of earlier job)).ends

  texts_are : (done : List Past) → AreLines (out done) (texts done)
  unfolding texts
  texts_are [] = lines_nil
  texts_are (job ∷ earlier) =
      subst (λ (x : List ℕ). AreLines (out earlier ++ x) (texts (job ∷ earlier))) (sym (reply_is earlier job))
      (lines_more (out earlier) (one (reply_of earlier job)).text (texts earlier) (one (reply_of earlier job)).one (texts_are earlier))

  -- as many as jobs
  length-texts : (done : List Past) → length (texts done) ≡ length (in_order done)
  unfolding texts
  length-texts [] = refl
  length-texts (job ∷ earlier) =
      length_push (texts earlier) (one (reply_of earlier job)).text ∙ ap (λ (n : ℕ). n + 1) (length-texts earlier) ∙ sym (length_push (in_order earlier) job.line)

  texts_tell : (done : List Past) → map reports_want (texts done) ≡ flags_of done
  unfolding texts
  texts_tell [] = refl
  texts_tell (job ∷ earlier) =
      let reply = reply_of earlier job in
      map_push reports_want (texts earlier) (one reply).text
      ∙ (λ i. texts_tell earlier i ++ tells reply (one reply).text (one reply).ends i ∷ [])

  part_is : (done : List Past) (waiting : List (List ℕ)) (part : List ℕ) → IsPartOfNext done waiting part → OneLine part
  part_is done [] part none = subst OneLine (sym none) none_of
  part_is done (line ∷ waiting) part next =
      let is_one = one (reply_of done next.job) in
      part_of_line part next.more is_one.text (reply_line done next.job) (reply_is done next.job) is_one.one next.goes_on next.bytes

  -- the bytes tell which jobs lacked memory, with a part of the next reply or without one
  pub flags_told : (done : List Past) (waiting : List (List ℕ)) (part : List ℕ) → IsPartOfNext done waiting part
      → flags_of done ≡ memory_flags (out done ++ part)
  flags_told done waiting part next =
      sym (texts_tell done)
      ∙ ap (λ (x : List (List ℕ)). map reports_want x) (sym (whole_lines_at (out done) part (texts done) (texts_are done) (part_is done waiting part next)))

  -- what a line came to is told by the reply
  one_came : (r : Request) (c d : Came) → IsAllowed r c → IsAllowed r d → AreAlike (outcome_of c) (outcome_of d) → c ≡ d
  one_came (no_operation f) c d is as_well alike = is ∙ sym as_well
  one_came (an_operation asked) (faulty f) d is as_well alike = absurd is
  one_came (an_operation asked) (answered a) (faulty f) is as_well alike = absurd as_well
  one_came (an_operation asked) (answered a) (answered b) is as_well alike = ap answered (one_answer asked a b is as_well alike)

  -- where its operation has one answer, by whether that is want of memory
  one_ended : (lookup : Lookup) (line : List ℕ) (c d : Came) → AsksOne line → IsAllowed (run_line lookup line) c → IsAllowed (run_line lookup line) d
      → is_want (outcome_of c) ≡ is_want (outcome_of d) → c ≡ d
  one_ended lookup line c d asks is as_well same = by_request (run_line lookup line) refl c d is as_well same
    where
      by_request : (r : Request) → run_line lookup line ≡ r → (x y : Came) → IsAllowed r x → IsAllowed r y → is_want (outcome_of x) ≡ is_want (outcome_of y) → x ≡ y
      by_request (no_operation f) at x y one_is other_is alike = one_is ∙ sym other_is
      by_request (an_operation asked) at (faulty f) y one_is other_is alike = absurd one_is
      by_request (an_operation asked) at (answered a) (faulty f) one_is other_is alike = absurd other_is
      by_request (an_operation asked) at (answered a) (answered b) one_is other_is alike =
          let by = line_by lookup line asked at in
          ap answered (one_determined by.0 (values_for lookup by.0) a b (asks by.0 by.1) (subst (λ x. May x a) (sym by.2) one_is) (subst (λ x. May x b) (sym by.2) other_is) alike)

  -- a reply line tells what its job came to
  pub one_reply : (earlier : List Past) (line : List ℕ) (c d : Came) → IsAllowed (run_line (held_of earlier) line) c → IsAllowed (run_line (held_of earlier) line) d
      → reply_line earlier (job_of line c) ≡ reply_line earlier (job_of line d) → c ≡ d
  unfolding reply_line
  one_reply earlier line c d is as_well same =
      one_came (run_line (held_of earlier) line) c d is as_well (record { name = name_of line; n = length earlier + 1; lines = same })

  -- two lists of jobs with the same lines and replies are the same list
  same_pasts : (a b : List Past) → AreAllowed a → AreAllowed b → in_order a ≡ in_order b → texts a ≡ texts b → a ≡ b
  unfolding texts
  same_pasts [] [] first second lines replies = refl
  same_pasts [] (y ∷ b) first second lines replies = absurd (omega (arith, ap length lines, length-append (in_order b) (y.line ∷ [])))
  same_pasts (x ∷ a) [] first second lines replies = absurd (omega (arith, ap length lines, length-append (in_order a) (x.line ∷ [])))
  same_pasts (x ∷ a) (y ∷ b) first second lines replies =
      let line = same_from_push (in_order a) (in_order b) x.line y.line lines in
      let reply = same_from_push (texts a) (texts b) (one (reply_of a x)).text (one (reply_of b y)).text replies in
      let rest = same_pasts a b first.1 second.1 line.0 reply.0 in
      let as_well : IsAllowed (run_line (held_of a) x.line) y.came =
      subst (λ (l : List ℕ). IsAllowed (run_line (held_of a) l) y.came) (sym line.1) (subst (λ (ps : List Past). IsAllowed (run_line (held_of ps) y.line) y.came) (sym rest) second.0) in
      let last : reply_line a (job_of x.line y.came) ≡ reply_line b y =
      ap (λ (ps : List Past). reply_line ps (job_of x.line y.came)) rest ∙ ap (λ (l : List ℕ). reply_line b (job_of l y.came)) line.1 in
      let told : reply_line a x ≡ reply_line a (job_of x.line y.came) =
      reply_is a x ∙ ap (λ (t : List ℕ). t ++ 10 ∷ []) reply.1 ∙ sym (reply_is b y) ∙ sym last in
      let came = one_reply a x.line x.came y.came first.0 as_well told in
      λ i. record { line = line.1 i; came = came i } ∷ rest i

  -- two lists of jobs with the same lines, none of which lacked memory, are the same list
  pub one_ample : (a b : List Past) → AreAllowed a → AreAllowed b → in_order a ≡ in_order b → All AsksOne (in_order a)
      → All (λ job. lacked job ≡ false) a → All (λ job. lacked job ≡ false) b → a ≡ b
  one_ample [] [] first second lines single ample other = refl
  one_ample [] (y ∷ b) first second lines single ample other = absurd (omega (arith, ap length lines, length-append (in_order b) (y.line ∷ [])))
  one_ample (x ∷ a) [] first second lines single ample other = absurd (omega (arith, ap length lines, length-append (in_order a) (x.line ∷ [])))
  one_ample (x ∷ a) (y ∷ b) first second lines single ample other =
      let asks = All-pop AsksOne (in_order a ++ x.line ∷ []) (in_order a) (Some x.line) refl single in
      let has : Past → Type 0 = λ job. lacked job ≡ false in
      let line = same_from_push (in_order a) (in_order b) x.line y.line lines in
      let rest = one_ample a b first.1 second.1 line.0 asks.0 (All-tail has x a ample) (All-tail has y b other) in
      let as_well : IsAllowed (run_line (held_of a) x.line) y.came =
      subst (λ (l : List ℕ). IsAllowed (run_line (held_of a) l) y.came) (sym line.1) (subst (λ (ps : List Past). IsAllowed (run_line (held_of ps) y.line) y.came) (sym rest) second.0) in
      let came =
      one_ended (held_of a) x.line x.came y.came asks.1 first.0 as_well
      (All-head has x a ample ∙ sym (All-head has y b other)) in
      λ i. record { line = line.1 i; came = came i } ∷ rest i

  -- bytes are the replies of one list of jobs
  texts_of : (done : List Past) (part : List ℕ) → OneLine part → whole_lines (out done ++ part) ≡ texts done
  texts_of done part is = whole_lines_at (out done) part (texts done) (texts_are done) is

  pub one_front : (lines : List (List ℕ)) (written : List ℕ) (a b : RepliesInPart lines written) → a.done ≡ b.done
  one_front lines written a b =
      let first = texts_of a.done a.part (part_is a.done a.waiting a.part a.next) in
      let second = texts_of b.done b.part (part_is b.done b.waiting b.part b.next) in
      let replies : texts a.done ≡ texts b.done = sym first ∙ ap whole_lines (sym a.bytes ∙ b.bytes) ∙ second in
      let sized : length (in_order a.done) ≡ length (in_order b.done) = sym (length-texts a.done) ∙ ap length replies ∙ length-texts b.done in
      same_pasts a.done b.done a.allowed b.allowed (same_front (in_order a.done) (in_order b.done) a.waiting b.waiting (a.each ∙ sym b.each) sized) replies

  pub one_list : (lines : List (List ℕ)) (written : List ℕ) (a b : Replies lines written) → a.done ≡ b.done
  one_list lines written a b =
      let first = texts_of a.done [] none_of in
      let second = texts_of b.done [] none_of in
      let whole : out a.done ++ [] ≡ out b.done ++ [] = ap (λ (w : List ℕ). w ++ []) (sym a.bytes ∙ b.bytes) in
      same_pasts a.done b.done a.allowed b.allowed (a.each ∙ sym b.each) (sym first ∙ ap whole_lines whole ∙ second)
