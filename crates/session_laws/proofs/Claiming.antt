-- What each job makes is what its operation claims, by the laws of operations and of readings.
use Rattle.std.proofs.Common.{◌≡◌, ℕ, Bool, true, false, cond, List, [], ◌∷◌, length, Option, Some, None, Result, Ok, Err, refl, sym, ap, ◌∙◌, subst}
use Rattle.std.specs.Prelude.{IfSome}
use Rattle.std.specs.List.{All}
use Rattle.std.specs.Ordering.{eq_by_cmp}
use Rattle.std.proofs.lemmas.List.{length-map}
use Rattle.std.proofs.lemmas.List.Elements.{All-map}
use Rattle.fol.specs.Order.{text_cmp}
use Rattle.proof_trees.specs.Trees.{IsValid}
use Rattle.job_words.specs.declared.causes.JobCause.{JobCause}
use Rattle.job_lang.specs.declared.jobs.Op.{Op}
use Rattle.job_lang.specs.Jobs.{reads_job}
use Rattle.job_lang.specs.FormedOps.{IsFormedOp}
use Rattle.reply_lines.specs.Replies.{is_ok_outcome}
use Rattle.operation_laws.specs.Values.{Value, IsSound}
use Rattle.operation_laws.specs.Answers.{Product, Answer, product, shown, held, proofs_in, Asked, May}
use Rattle.operation_laws.specs.Given.{or_else, base_name, names_in}
use Rattle.operation_laws.specs.Running.{run}
use Rattle.operation_laws.specs.Claims.{Claims}
use Rattle.session_laws.specs.Jobs.{is_too_long}
use Rattle.session_laws.specs.Answers.{Past, too_long, unread, name_taken, Came, faulty, answered, Request, no_operation, an_operation, Lookup, values_for, name_of, is_taken, run_read, run_line, IsAllowed, outcome_of, value_of, named_value, held_of, AreAllowed}
use Rattle.session_laws.specs.Claimed.{IsClaimed, AreClaimed, HoldsSound}

-- a line that asks for something is read as an operation, which is run
read_by : (lookup : Lookup) (name : Option (List ℕ)) (r : Result Op JobCause) (asked : Asked) → run_read lookup name r ≡ an_operation asked
    → (op : Op) × (r ≡ Ok op) × (run op (values_for lookup op) ≡ asked)
read_by lookup name (Err cause) asked is = cc
read_by lookup name (Ok op) asked is = by_test (is_taken lookup name) is
  where
    by_test : (b : Bool) → cond b (no_operation name_taken) (an_operation (run op (values_for lookup op))) ≡ an_operation asked
        → (o : Op) × (◌≡◌ {A = Result Op JobCause} (Ok op) (Ok o)) × (run o (values_for lookup o) ≡ asked)
    by_test true h = cc
    by_test false h = let same : run op (values_for lookup op) ≡ asked = cc in (op, refl, same)

pub line_by : (lookup : Lookup) (line : List ℕ) (asked : Asked) → run_line lookup line ≡ an_operation asked
    → (op : Op) × ((reads_job line).op ≡ Ok op) × (run op (values_for lookup op) ≡ asked)
unfolding run_line
line_by lookup line asked is = by_test (is_too_long line) is
  where
    by_test : (b : Bool) → cond b (no_operation too_long) (run_read lookup (reads_job line).name (reads_job line).op) ≡ an_operation asked
        → (op : Op) × ((reads_job line).op ≡ Ok op) × (run op (values_for lookup op) ≡ asked)
    by_test true h = cc
    by_test false h = read_by lookup (reads_job line).name (reads_job line).op asked h

-- an answer to a line is one to what its operation asks for
came_by : (r : Request) (c : Came) (a : Answer) → IsAllowed r c → c ≡ answered a → (asked : Asked) × (r ≡ an_operation asked) × May asked a
came_by (no_operation f) c a is at = let none : faulty f ≡ answered a = sym is ∙ at in cc
came_by (an_operation asked) (faulty f) a is at = absurd is
came_by (an_operation asked) (answered b) a is at = let same : b ≡ a = cc in (asked, refl, subst (May asked) same is)

-- a name that was known stands for what it stood for, and another for what the job holds
held_by_some : {P : Type 0} (before after : Option Value) (v : Value) → (before ≡ Some v → P) → (after ≡ Some v → P) → or_else before after ≡ Some v → P
held_by_some (Some w) after v old new is = old is
held_by_some None after v old new is = new is

named_is : (q : List ℕ) (name : Option (List ℕ)) (value v : Value) → named_value q name value ≡ Some v → value ≡ v
named_is q None value v is = cc
named_is q (Some name) value v is = some_is (eq_by_cmp text_cmp name q) is
  where
    some_is : (b : Bool) → cond b (Some value) None ≡ Some v → value ≡ v
    some_is true h = cc
    some_is false h = cc

-- what is held is sound, where what each answer holds is
value_sound : (c : Came) → ((a : Answer) → c ≡ answered a → IsSound (held a)) → IsSound (value_of c)
value_sound (faulty f) sound = tt
value_sound (answered a) sound = sound a refl

found_sound : (o : Option Value) → ((v : Value) → o ≡ Some v → IsSound v) → IfSome o IsSound
found_sound None sound = tt
found_sound (Some v) sound = sound v refl

abbrev AreSound : List (Option Value) → Type 0
AreSound vs = All (λ v. IfSome v IsSound) vs

values_sound : (lookup : Lookup) (op : Op) → HoldsSound lookup → AreSound (values_for lookup op)
values_sound lookup op holds =
    All-map (λ v. IfSome v IsSound) (λ text. lookup (base_name text)) (names_in op) (λ k d within. found_sound _ (holds _))

module _
    (claimed : (op : Op) (vs : List (Option Value)) (made : Product) → IsFormedOp op → length vs ≡ length (names_in op) → AreSound vs
    → May (run op vs) (product made) → Claims op vs made)
    (valid : (op : Op) (vs : List (Option Value)) (made : Product) → IsFormedOp op → AreSound vs → May (run op vs) (product made) → All IsValid (proofs_in made))
    (sound : (op : Op) (vs : List (Option Value)) (a : Answer) → IsFormedOp op → AreSound vs → May (run op vs) a → IsSound (held a))
    (shows : (a : Answer) → is_ok_outcome (shown a) ≡ true → (made : Product) × (a ≡ product made))
    (formed : (line : List ℕ) (op : Op) → (reads_job line).op ≡ Ok op → IsFormedOp op) where
  -- a reply that is no error shows a product
  shown_by : (c : Came) → is_ok_outcome (outcome_of c) ≡ true → (p : Product) × (c ≡ answered (product p))
  shown_by (faulty too_long) ok = cc
  shown_by (faulty (unread cause)) ok = cc
  shown_by (faulty name_taken) ok = cc
  shown_by (answered a) ok = let made = shows a ok in (made.0, ap answered made.1)

  made_claimed : (lookup : Lookup) (line : List ℕ) (c : Came) (p : Product) → HoldsSound lookup → IsAllowed (run_line lookup line) c → c ≡ answered (product p) → IsClaimed lookup line p
  made_claimed lookup line c p holds allowed is =
      let came = came_by (run_line lookup line) c (product p) allowed is in
      let by = line_by lookup line came.0 came.1 in
      let vs = values_for lookup by.0 in
      let may : May (run by.0 vs) (product p) = subst (λ asked. May asked (product p)) (sym by.2) came.2 in
      record {
        op = by.0;
        reads = by.1;
        claims = claimed by.0 vs p (formed line by.0 by.1) (length-map (names_in by.0) (λ text. lookup (base_name text))) (values_sound lookup by.0 holds) may;
        valid = valid by.0 vs p (formed line by.0 by.1) (values_sound lookup by.0 holds) may;
      }

  answer_sound : (lookup : Lookup) (line : List ℕ) (c : Came) (a : Answer) → HoldsSound lookup → IsAllowed (run_line lookup line) c → c ≡ answered a → IsSound (held a)
  answer_sound lookup line c a holds allowed is =
      let came = came_by (run_line lookup line) c a allowed is in
      let by = line_by lookup line came.0 came.1 in
      sound by.0 (values_for lookup by.0) a (formed line by.0 by.1) (values_sound lookup by.0 holds) (subst (λ asked. May asked a) (sym by.2) came.2)

  -- each value that a name stands for is sound
  pub holds_sound : (earlier : List Past) → AreAllowed earlier → HoldsSound (held_of earlier)
  holds_sound [] allowed q v is = cc
  holds_sound (job ∷ earlier) allowed q v is =
      held_by_some (held_of earlier q) (named_value q (name_of job.line) (value_of job.came)) v (holds_sound earlier allowed.1 q v)
      (λ named. subst IsSound (named_is q (name_of job.line) (value_of job.came) v named)
      (value_sound job.came (λ a at. answer_sound (held_of earlier) job.line job.came a (holds_sound earlier allowed.1) allowed.0 at)))
      is

  -- what each job makes is what its operation claims
  pub all_claimed : (jobs : List Past) → AreAllowed jobs → AreClaimed jobs
  all_claimed [] allowed = tt
  all_claimed (job ∷ earlier) allowed = (
    record {
      made = λ p made. made_claimed (held_of earlier) job.line job.came p (holds_sound earlier allowed.1) allowed.0 made;
      shown = λ ok. shown_by job.came ok;
    },
    all_claimed earlier allowed.1,
  )
