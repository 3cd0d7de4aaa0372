-- What the reading of a problem gives is what the grammar says of the text.
use Rattle.std.proofs.Common.{◌≡◌, ◌↔◌, ℕ, suc, ◌-◌, ◌<◌, ◌≤◌, Bool, true, false, ◌==◌, if◌then◌else◌, List, [], ◌∷◌, ◌++◌, length, Result, Ok, Err, IfOk, refl, sym, ◌∙◌, ap, subst, arith}
use Rattle.std.proofs.lemmas.Bool.Decides.{nat_tests}
use Rattle.std.specs.List.{All}
use Rattle.tptp_read.specs.Turns.{Turn, on, answer, by_turn, Leads, here}
use Rattle.tptp_read.proofs.TurnLaw.{MatchTurn, leads_one, whole_turn, answers, says_by}
use Rattle.tptp_problem.specs.declared.errors.Fault.{Fault}
use Rattle.tptp_problem.specs.declared.errors.ProblemKind.{ProblemKind}
use Rattle.tptp_problem.specs.declared.errors.ReadError.{ReadError}
use Rattle.tptp_problem.specs.declared.errors.ProblemError.{ProblemError}
use Rattle.tptp_problem.specs.declared.errors.ProblemError.TheVariants.{At, Memory as NoMemory}
use Rattle.tptp_problem.specs.declared.problems.Entry.{Entry}
use Rattle.tptp_problem.specs.declared.problems.Problem.{Problem}
use Rattle.tptp_problem.specs.Tokens.{Blanks}
use Rattle.tptp_problem.specs.Readers.{Gives, fault, passed}
use Rattle.tptp_problem.specs.EntryReader.{entry_behind, one_more, entries_turn, entries_from}
use Rattle.tptp_problem.specs.Problems.{BeginsWith, nothing, entry, IsProblemText, IsProblemFault, GivesProblem, IfFault}
use Rattle.tptp_problem.specs.ProblemClauses.{IsReadEntry, IsReadProblem}
use Rattle.tptp_problem.specs.Closures.{AreFormedEntries}
use Rattle.tptp_problem.specs.Reading.{problem_from, problem_reading}
use Rattle.tptp_problem.proofs.Passing.{nothing_left, passed_blanks, passed_end}
use Rattle.tptp_problem.proofs.TokenLaws.{no_number, some_number}
use Rattle.tptp_problem.proofs.EntryLaws.{EntryResult, Stops, SaysEntry, entry_passed, entry_says, entry_complete, entry_blamed}
use Rattle.tptp_problem.proofs.ReadEntries.{begins_read, read_formed}

abbrev EntriesResult : Type 0
EntriesResult = Result (List Entry) Fault

entry_is : (es : List Entry) (bs : List ℕ) → SaysEntry es bs (entry_behind es (passed 0 bs))
entry_is es bs = subst (SaysEntry es bs) (sym (entry_passed es bs)) (entry_says es bs)

-- one more entry takes a byte at least
abbrev entry_turn : List Entry → Bool → EntryResult → Turn (List Entry × List ℕ) EntriesResult
entry_turn es b r = if b then answer (Ok es) else one_more es r

more_smaller : (es : List Entry) (bs : List ℕ) (b : Bool) (r : EntryResult) (d : List Entry × List ℕ) → SaysEntry es bs r → entry_turn es b r ≡ on d → length d.1 < length bs
more_smaller es bs true r d says is = cc
more_smaller es bs false (Ok x) d says is = let same : (es ++ x.0 ∷ [], x.1) ≡ d = cc in subst (λ (c : List Entry × List ℕ). length c.1 < length bs) same says.1
more_smaller es bs false (Err f) d says is = cc

smaller : (c d : List Entry × List ℕ) → entries_turn c ≡ on d → length d.1 < length c.1
smaller c d is = more_smaller c.0 c.1 (length (passed 0 c.1) == 0) (entry_behind c.0 (passed 0 c.1)) d (entry_is c.0 c.1) is

abbrev reading : List Entry × List ℕ → EntriesResult
reading c = entries_from c.0 c.1

pub turns : (c : List Entry × List ℕ) → reading c ≡ by_turn reading (entries_turn c)
turns c = whole_turn entries_turn (Ok []) (λ d. length d.1) smaller c

-- entries are read one by one
pub no_more : (es : List Entry) (bs : List ℕ) → passed 0 bs ≡ [] → entries_turn (es, bs) ≡ answer (Ok es)
no_more es bs none = ap (λ (cs : List ℕ). entry_turn es (length cs == 0) (entry_behind es cs)) none

pub turn_is : (es : List Entry) (bs : List ℕ) (r : EntryResult) → 1 ≤ length (passed 0 bs) → entry_behind es (passed 0 bs) ≡ r → entries_turn (es, bs) ≡ one_more es r
turn_is es bs r some is = (λ i. entry_turn es (a_number (length (passed 0 bs)) some i) (is i))
  where
    a_number : (n : ℕ) → 1 ≤ n → (n == 0) ≡ false
    a_number n h = grind (arith, nat_tests)

module _ (text : List ℕ) where
  -- what an answer says of the entries
  record Ended (es : List Entry) : Type 0 where
    rest : List ℕ
    begins : BeginsWith text es rest
    ends : Blanks rest []

  record Stopped (f : Fault) : Type 0 where
    earlier : List Entry
    rest : List ℕ
    begins : BeginsWith text earlier rest
    more : Blanks rest [] → ⊥
    stops : Stops earlier rest f
    within : f.left ≤ length text

  abbrev SaysEntries : EntriesResult → Type 0
  SaysEntries (Ok es) = Ended es
  SaysEntries (Err f) = Stopped f

  abbrev Begun : List Entry × List ℕ → Type 0
  Begun c = BeginsWith text c.0 c.1 × (length c.1 ≤ length text)

  turned : (es : List Entry) (bs : List ℕ) (b : Bool) (r : EntryResult) → (length (passed 0 bs) == 0) ≡ b → SaysEntry es bs r → Begun (es, bs) → MatchTurn (entry_turn es b r) Begun SaysEntries
  turned es bs true r none says (begins, within) =
      record { rest = bs; begins = begins; ends = subst (Blanks bs) (nothing_left (passed 0 bs) (no_number (length (passed 0 bs)) none)) (passed_blanks bs) }
  turned es bs false (Ok x) some says (begins, within) = let shorter : suc (length x.1) ≤ length bs = says.1 in (entry es x.0 bs x.1 begins says.0, omega arith)
  turned es bs false (Err f) some says (begins, within) =
      let left : f.left ≤ length bs = says.bound in
      record { earlier = es; rest = bs; begins = begins; more = λ blanks. no_bytes blanks; stops = says; within = omega arith }
    where
      no_bytes : Blanks bs [] → ⊥
      no_bytes blanks = let none : length (passed 0 bs) ≡ 0 = ap length (passed_end bs blanks) in absurd (omega (arith, some_number (length (passed 0 bs)) some))

  entries_say : SaysEntries (entries_from [] text)
  entries_say =
      says_by entries_turn reading turns (λ c. length c.1) smaller Begun SaysEntries
      (λ c begun. turned c.0 c.1 (length (passed 0 c.1) == 0) (entry_behind c.0 (passed 0 c.1)) refl (entry_is c.0 c.1) begun) ([], text) (nothing, omega arith)

  begins_lead : (es : List Entry) (rest : List ℕ) → BeginsWith text es rest → Leads entries_turn ([], text) (es, rest)
  begins_lead es rest nothing = here ([], text)
  begins_lead es rest (entry ds e bs cs before is) =
      let made = entry_passed ds bs ∙ entry_complete ds bs e cs is in
      let shorter : suc (length cs) ≤ length (passed 0 bs) = (subst (SaysEntry ds (passed 0 bs)) made (entry_says ds (passed 0 bs))).1 in
      leads_one entries_turn ([], text) (ds, bs) (ds ++ e ∷ [], cs) (begins_lead ds bs before) (turn_is ds bs (Ok (e, cs)) (omega arith) made)

  there : (es : List Entry) (rest : List ℕ) (r : EntriesResult) → BeginsWith text es rest → entries_turn (es, rest) ≡ answer r → entries_from [] text ≡ r
  there es rest r begins is = answers entries_turn reading turns ([], text) r (record { place = (es, rest); leads = begins_lead es rest begins; given = is })

  -- the entries of an answer can be read
  pub all_read : {X : Type 0} (view : X → List Entry) (r : Result X ReadError) → Gives view r (entries_from [] text) → IfOk r (λ v. All IsReadEntry (view v))
  all_read view (Ok v) given = let ended : Ended (view v) = subst SaysEntries given entries_say in begins_read text ended.rest (view v) ended.begins
  all_read view (Err e) given = tt

  pub all_formed : {X : Type 0} (view : X → List Entry) (r : Result X ReadError) → Gives view r (entries_from [] text) → IfOk r (λ v. AreFormedEntries (view v))
  all_formed view (Ok v) given = read_formed (view v) (all_read view (Ok v) given)
  all_formed view (Err e) given = tt

  -- what the grammar says of an answer
  abbrev pub SaysProblem : Result Problem (ℕ × ProblemKind) → Type 0
  SaysProblem (Ok p) = IsProblemText text p
  SaysProblem (Err (at, k)) = IsProblemFault text at k

  problem_says : (r : EntriesResult) → SaysEntries r → SaysProblem (problem_from text r)
  problem_says (Ok es) e = record { rest = e.rest; begins = e.begins; ends = e.ends; sequent = refl }
  problem_says (Err f) s =
      let within : f.left ≤ length text = s.within in
      record { earlier = s.earlier; rest = s.rest; begins = s.begins; more = s.more; place = s.stops.place; bytes = s.stops.bytes; reaches = s.stops.reaches; left = f.left; fails = s.stops.fails; at_left = omega arith }

  problem_tells : (r : Result Problem (ℕ × ProblemKind)) → SaysProblem r → problem_reading text ≡ r
  unfolding problem_reading
  problem_tells (Ok p) is = ap (problem_from text) (there p.entries is.rest (Ok p.entries) is.begins (no_more p.entries is.rest (passed_end is.rest is.ends))) ∙ (λ i. Ok (record { entries = p.entries; sequent = sym is.sequent i }))
  problem_tells (Err (at, k)) is =
      let stops = entry_passed is.earlier is.rest ∙ entry_blamed is.earlier is.rest is.place is.bytes is.left k is.reaches is.fails in
      let some : 1 ≤ length (passed 0 is.rest) = some_bytes (passed 0 is.rest) refl in
      let place : length text - is.left ≡ at = omega (arith, is.at_left) in
      ap (problem_from text) (there is.earlier is.rest (Err (fault is.left k)) is.begins (turn_is is.earlier is.rest (Err (fault is.left k)) some stops)) ∙ (λ i. Err (place i, k))
    where
      some_bytes : (cs : List ℕ) → passed 0 is.rest ≡ cs → 1 ≤ length cs
      some_bytes [] none = absurd (is.more (subst (Blanks is.rest) none (passed_blanks is.rest)))
      some_bytes (c ∷ cs) some = omega arith

  pub exact_problem : (r : Result Problem (ℕ × ProblemKind)) → (problem_reading text ≡ r) ↔ SaysProblem r
  unfolding problem_reading
  exact_problem r = (λ is. subst SaysProblem is (problem_says (entries_from [] text) entries_say), problem_tells r)

  -- What a call answers that gives the reading.
  pub is_text : (r : Result Problem ProblemError) → GivesProblem r (problem_reading text) → IfOk r (λ p. IsProblemText text p)
  is_text (Ok p) given = (exact_problem (Ok p)).0 given
  is_text (Err e) given = tt

  pub is_fault : (r : Result Problem ProblemError) → GivesProblem r (problem_reading text) → IfFault r (λ at k. IsProblemFault text at k)
  is_fault (Ok p) given = tt
  is_fault (Err NoMemory) given = tt
  is_fault (Err (At at k)) given = (exact_problem (Err (at, k))).0 given

  pub only_text : (r : Result Problem ProblemError) → GivesProblem r (problem_reading text) → (p : Problem) → IsProblemText text p → GivesProblem r (Ok p)
  only_text r given p is = subst (GivesProblem r) ((exact_problem (Ok p)).1 is) given

  pub first_fault : (r : Result Problem ProblemError) → GivesProblem r (problem_reading text) → (at : ℕ) (k : ProblemKind) → IsProblemFault text at k → GivesProblem r (Err (at, k))
  first_fault r given at k is = subst (GivesProblem r) ((exact_problem (Err (at, k))).1 is) given

  pub one_text : (p q : Problem) → IsProblemText text p → IsProblemText text q → p ≡ q
  one_text p q a b = let first : problem_reading text ≡ Ok p = (exact_problem (Ok p)).1 a in let second : problem_reading text ≡ Ok q = (exact_problem (Ok q)).1 b in cc

  pub one_fault : (at at' : ℕ) (k k' : ProblemKind) → IsProblemFault text at k → IsProblemFault text at' k' → (at ≡ at') × (k ≡ k')
  one_fault at at' k k' a b =
      let first : problem_reading text ≡ Err (at, k) = (exact_problem (Err (at, k))).1 a in let second : problem_reading text ≡ Err (at', k') = (exact_problem (Err (at', k'))).1 b in let same : (at, k) ≡ (at', k') = cc in
      (ap (λ (x : ℕ × ProblemKind). x.0) same, ap (λ (x : ℕ × ProblemKind). x.1) same)

  pub is_read : (p : Problem) → IsProblemText text p → IsReadProblem p
  is_read p is = record { entries = begins_read text is.rest p.entries is.begins }
