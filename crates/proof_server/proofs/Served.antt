-- What the sessions of a bundle come to, by what each session says of its ends.
use Rattle.std.proofs.Common.{◌≡◌, ℕ, ◌≤◌, Bool, true, false, cond, List, [], ◌∷◌, ◌++◌, map, length, refl, sym, ap, ◌∙◌, subst, inl, inr, arith, append_assoc, append-nil, length-append}
use Rattle.std.specs.Prelude.{zero, suc, Option, Some, None, slice_get, slice_index_or}
use Rattle.std.specs.List.{All, AllZip}
use Rattle.std.proofs.lemmas.List.{length-map, map-append, get_or-map}
use Rattle.edge_io.specs.Causes.{Rose}
use Rattle.edge_io.specs.Lines.{lines_of, whole_lines}
use Rattle.job_workers.specs.declared.tasks.Need.{Need}
use Rattle.job_workers.specs.declared.tasks.Task.{Task}
use Rattle.job_workers.specs.Needs.{IsBefore, OnValue, AreWindow, AreAnswers}
use Rattle.sessions.specs.declared.parts.Part.{Part}
use Rattle.session_laws.specs.Jobs.{max_input, jobs}
use Rattle.session_laws.specs.Session.{Replies, RepliesInPart, all_ok}
use Rattle.proof_server.specs.Command.{Serves}
use Rattle.proof_server.specs.Ending.{IsDone, IsFull, IsPartWritten, Ends, status_of}
use Rattle.proof_server.specs.Parts.{Comes, IsServed, IsShort, job_of, has_no_needs}
use Rattle.proof_server.specs.declared.ending.Ended.{Ended}
use Rattle.proof_server.specs.declared.ending.Ended.TheVariants.{Done as AllDone, ReadFault, WriteFault, Memory, InputFull}
use Rattle.proof_server.specs.declared.parts.Done.{Done}
use Rattle.proof_server.proofs.Fronts.{lines_begin, front_of_more}

-- ---- one session, whose source and sink are in memory

-- all was read and answered
whole : (good : Bool) (after flushed : Option (List ℕ)) (bytes written : List ℕ) → IsDone good max_input (Some bytes) after (Some []) (Some written) flushed
    → (r : Replies (lines_of bytes) written) × (good ≡ all_ok r.done)
whole good None flushed bytes written done = absurd done.moved.from
whole good (Some left) flushed bytes written done =
    let all : done.input ≡ bytes = sym (done.moved.from ∙ ap (λ (x : List ℕ). done.input ++ x) done.at_end ∙ append-nil done.input) in (
      record {
        done = done.replies.done;
        allowed = done.replies.allowed;
        claimed = done.replies.claimed;
        each = done.replies.each ∙ ap (λ (x : List ℕ). jobs (lines_of x)) all;
        bytes = done.moved.to ∙ done.replies.bytes;
      },
      done.good_is,
    )

-- the beginning was
front : (after : Option (List ℕ)) (bytes written : List ℕ) → IsPartWritten max_input (Some bytes) after (Some []) (Some written) → RepliesInPart (lines_of bytes) written
front None bytes written part = absurd part.moved.from
front (Some left) bytes written part = subst (RepliesInPart (lines_of bytes)) (sym part.moved.to) (elim part.replies [
  | inl first ↦
      let begin = lines_begin part.taken left in
      subst (λ (lines : List (List ℕ)). RepliesInPart lines part.written) (sym (ap lines_of part.moved.from ∙ begin.1)) (front_of_more (whole_lines part.taken) begin.0 part.written first)
  | inr last ↦
      subst (λ (x : List ℕ). RepliesInPart (lines_of x) part.written)
      (sym (part.moved.from ∙ ap (λ (x : List ℕ). part.taken ++ x) last.0 ∙ append-nil part.taken)) last.1
])

-- a source that never fails has no fault
no_fault : Rose 0 0 → ⊥
no_fault (inl up) = absurd (omega (arith, up))
no_fault (inr most) = absurd (omega (arith, most))

-- and one with no more bytes than may be read doesn't have too many
not_full : (after flushed : Option (List ℕ)) (bytes written : List ℕ) → length bytes ≤ max_input → IsFull max_input (Some bytes) after (Some []) (Some written) flushed → ⊥
not_full None flushed bytes written short full = absurd full.moved.from
not_full (Some left) flushed bytes written short full =
    let exact = full.exact in
    absurd (omega (arith, ap length full.moved.from, length-append (full.input ++ full.byte ∷ []) left, length-append full.input (full.byte ∷ [])))

not_four : (good : Bool) → cond {A = ℕ} good 0 1 ≡ 4 → ⊥
not_four true four = absurd (omega (arith, four))
not_four false four = absurd (omega (arith, four))

-- what it says of its end, where a fault of the sink is told as want of memory
module _ (bytes written : List ℕ) (after flushed : Option (List ℕ)) (k k' status told : ℕ) (short : length bytes ≤ max_input)
    (fault : status ≡ 4 → told ≡ 5) (same : ¬ (status ≡ 4) → told ≡ status) where
  comes_by : (ended : Ended) → status ≡ status_of ended → Ends ended max_input 0 0 k k' (Some bytes) after (Some []) (Some written) flushed → Comes (lines_of bytes) told written
  comes_by (AllDone good) is ends =
      let all = whole good after flushed bytes written ends in
      inl (all.0, same (λ four. not_four good (sym is ∙ four)) ∙ is ∙ ap (λ (b : Bool). cond b 0 1) all.1)
  comes_by ReadFault is ends = absurd (no_fault ends.0)
  comes_by WriteFault is ends = inr (fault is, front after bytes written ends.1)
  comes_by Memory is ends = inr (same (λ four. absurd (omega (arith, is, four))) ∙ is, front after bytes written ends)
  comes_by InputFull is ends = absurd (not_full after flushed bytes written short ends)

  -- so it is where the source begins with these bytes and the sink with none
  pub comes : (before old : List ℕ) → before ≡ bytes → old ≡ [] → Serves status 0 0 k k' (Some before) after (Some old) (Some written) flushed → Comes (lines_of bytes) told written
  comes before old all none serves =
      comes_by serves.0 serves.1
      (subst (λ (x : List ℕ). Ends serves.0 max_input 0 0 k k' (Some x) after (Some []) (Some written) flushed) all
      (subst (λ (x : List ℕ). Ends serves.0 max_input 0 0 k k' (Some before) after (Some x) (Some written) flushed) none serves.2))

-- where nothing was written
pub comes_to_nothing : (lines : List (List ℕ)) → Comes lines 5 []
comes_to_nothing lines = inr (refl, front_of_more [] lines [] (record { done = []; waiting = []; part = []; allowed = tt; claimed = tt; each = refl; bytes = refl; next = refl }))

-- ---- all parts, as the tasks of a window

-- they are a window
pub parts_window : (tasks : List (Task Part (Unit {0}))) (parts : List Part) → map job_of tasks ≡ parts → All has_no_needs tasks → All IsShort parts
    → AreWindow (λ (part : Part). 0) IsShort (λ (held : Unit {0}). Unit {0}) tasks
parts_window tasks parts jobs none short place d within =
    let task = slice_index_or tasks place d in
    let needs = none place d within in
    let is : job_of task ≡ slice_index_or parts place (job_of d) =
    sym (get_or-map job_of tasks place d (job_of d) within) ∙ ap (λ (ps : List Part). slice_index_or ps place (job_of d)) jobs in
    record {
      earlier = subst (All (IsBefore place)) (sym needs) (λ k e inside. absurd (omega arith));
      count = ap length needs;
      job = subst IsShort (sym is) (short place (job_of d) (omega (arith, within, length-map tasks job_of, ap length jobs)));
      values = subst (All (OnValue (λ (held : Unit {0}). Unit {0}))) (sym needs) (λ k e inside. absurd (omega arith));
    }

-- one more task behind the others
pub task_more : (tasks : List (Task Part (Unit {0}))) (task : Task Part (Unit {0})) (left rest parts : List Part) → map job_of tasks ++ left ≡ parts → left ≡ job_of task ∷ rest
    → map job_of (tasks ++ task ∷ []) ++ rest ≡ parts
task_more tasks task left rest parts so_far taken =
    ap (λ (ps : List Part). ps ++ rest) (map-append job_of tasks (task ∷ [])) ∙ append_assoc (map job_of tasks) (job_of task ∷ []) rest
    ∙ ap (λ (ps : List Part). map job_of tasks ++ ps) (sym taken) ∙ so_far

-- one more answer
pub done_more : (made : List Done) (answer : Done × Unit {0}) (left rest all : List (Done × Unit {0}))
    → made ++ map (λ (a : Done × Unit {0}). a.0) left ≡ map (λ (a : Done × Unit {0}). a.0) all → left ≡ answer ∷ rest
    → (made ++ answer.0 ∷ []) ++ map (λ (a : Done × Unit {0}). a.0) rest ≡ map (λ (a : Done × Unit {0}). a.0) all
done_more made answer left rest all so_far taken =
    append_assoc made (answer.0 ∷ []) (map (λ (a : Done × Unit {0}). a.0) rest)
    ∙ ap (λ (l : List (Done × Unit {0})). made ++ map (λ (a : Done × Unit {0}). a.0) l) (sym taken) ∙ so_far

-- two lists in which those at the same place belong together
zip_at : {A B : Type 0} (R : A → B → Type 0) (xs : List A) (ys : List B) → length xs ≡ length ys
    → ((k : ℕ) (x : A) (y : B) → slice_get xs k ≡ Some x → slice_get ys k ≡ Some y → R x y) → AllZip R xs ys
zip_at R [] [] sized each = tt
zip_at R [] (y ∷ ys) sized each = absurd (omega (arith, sized))
zip_at R (x ∷ xs) [] sized each = absurd (omega (arith, sized))
zip_at R (x ∷ xs) (y ∷ ys) sized each = (each zero x y refl refl, zip_at R xs ys (omega (arith, sized)) (λ k a b at there. each (suc k) a b at there))

zip_of_images : {A B C D : Type 0} (R : C → D → Type 0) (f : A → C) (g : B → D) (xs : List A) (ys : List B) → AllZip (λ x y. R (f x) (g y)) xs ys → AllZip R (map f xs) (map g ys)
zip_of_images R f g [] [] each = tt
zip_of_images R f g [] (y ∷ ys) each = absurd each
zip_of_images R f g (x ∷ xs) [] each = absurd each
zip_of_images R f g (x ∷ xs) (y ∷ ys) each = (each.0, zip_of_images R f g xs ys each.1)

-- each part is served where the answers are those of the tasks
pub parts_served : (tasks : List (Task Part (Unit {0}))) (parts : List Part) (answers : List (Done × Unit {0})) (dones : List Done)
    → map job_of tasks ≡ parts → length answers ≡ length tasks
    → AreAnswers (λ (held : Unit {0}). held) (λ (part : Part) (given : List (Unit {0})) (done : Done) (held : Unit {0}). IsServed part done) tasks (slice_get answers)
    → dones ≡ map (λ (answer : Done × Unit {0}). answer.0) answers → AllZip IsServed parts dones
parts_served tasks parts answers dones jobs sized belong are =
    subst (λ (ps : List Part). AllZip IsServed ps dones) jobs
    (subst (λ (ds : List Done). AllZip IsServed (map job_of tasks) ds) (sym are)
    (zip_of_images IsServed job_of (λ (answer : Done × Unit {0}). answer.0) tasks answers
    (zip_at (λ (task : Task Part (Unit {0})) (answer : Done × Unit {0}). IsServed (job_of task) answer.0) tasks answers (sym sized) at)))
  where
    same : (other task : Task Part (Unit {0})) (k : ℕ) → slice_get tasks k ≡ Some other → slice_get tasks k ≡ Some task → other ≡ task
    same other task k is there = let both : Some other ≡ Some task = sym is ∙ there in cc

    at : (k : ℕ) (task : Task Part (Unit {0})) (answer : Done × Unit {0}) → slice_get tasks k ≡ Some task → slice_get answers k ≡ Some answer → IsServed (job_of task) answer.0
    at k task answer there found =
        let belongs = belong k answer.0 answer.1 found in
        subst (λ (t : Task Part (Unit {0})). IsServed (job_of t) answer.0) (same belongs.task task k belongs.there there) belongs.answer.belongs
