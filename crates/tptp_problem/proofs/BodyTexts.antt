-- What the reading of a body gives is what the grammar says of it.
use Rattle.std.proofs.Common.{◌≡◌, ℕ, ◌-◌, ◌<◌, ◌≤◌, Bool, true, false, List, [], ◌∷◌, ◌++◌, length, Option, Some, None, is_some, is_ok, Result, Ok, Err, refl, sym, ◌∙◌, ap, subst, arith}
use Rattle.std.proofs.lemmas.Bool.{and_parts, and_from}
use Rattle.fol.specs.Syntax.{Formula}
use Rattle.tptp_tokens.specs.declared.tokens.Token.{Token}
use Rattle.tptp_tokens.specs.declared.tokens.Token.TheVariants.{Close, Comma}
use Rattle.tptp_tokens.specs.declared.tokens.TextKind.{TextKind}
use Rattle.tptp_tokens.specs.declared.tokens.TextKind.TheVariants.{Expected, Deep}
use Rattle.tptp_read.specs.declared.state.Outcome.{Outcome}
use Rattle.tptp_read.specs.declared.state.Outcome.TheVariants.{Formula as FormulaRead, Term as TermRead}
use Rattle.tptp_read.specs.Grammar.{formulas}
use Rattle.tptp_read.specs.Reader.{checked, or_expected, led, BecauseIn}
use Rattle.tptp_read.specs.Turns.{on, answer, by_turn, Look, token, ends, bad, Passes, stepped as token_stepped, unless, at_front}
use Rattle.tptp_read.specs.Machine.{start, move, meant, ending, after}
use Rattle.tptp_read.proofs.ReaderLaw.{ends_here, any_front, clean, clean_leads, because, stops}
use Rattle.tptp_read.proofs.TurnLaw.{whole_turn, answers, answered, front_on, tokens_of, tokens_lead, passes_last}
use Rattle.tptp_read.proofs.Fronts.{IsEnding, end_refused, is_reader}
use Rattle.tptp_read.proofs.Fronts as fronts
use Rattle.tptp_problem.specs.declared.errors.Fault.{Fault}
use Rattle.tptp_problem.specs.declared.errors.ProblemKind.{ProblemKind}
use Rattle.tptp_problem.specs.declared.errors.ProblemKind.TheVariants.{Text}
use Rattle.tptp_problem.specs.declared.problems.Language.{Language}
use Rattle.tptp_problem.specs.declared.problems.Language.TheVariants.{Fof, Cnf}
use Rattle.tptp_problem.specs.declared.bodies.TheConstants.{ENTRY_LIMITS}
use Rattle.tptp_problem.specs.Tokens.{Takes, TakesAll, no_token, more_tokens}
use Rattle.tptp_problem.specs.BodyTexts.{IsBody, IsEnd, comma, close, unexpected_in, Because, unexpected as because_unexpected, deep, Blames, at_token, at_end, at_bytes, IsBodyFault}
use Rattle.tptp_problem.specs.Readers.{fault, placed, look}
use Rattle.tptp_problem.specs.BodyReader.{BodyReading, first_place, body_start, unexpected, body_kind, places, formula_meant, formula_from, body_ending, is_end, is_comma, ends_before, ended_by, body_move, closing, body_answers, body_turn, body_from, body_at}
use Rattle.tptp_problem.proofs.Passing.{look_sized, IsSizedLook, Looks, looks, looked, took, taken, passing}
use Rattle.tptp_problem.proofs.Passing as looking
use Rattle.tptp_problem.proofs.BodyLaws.{led_kept, start_agrees, meant_formula, refused_place, is_body_reader}

abbrev pub BodyResult : Type 0
BodyResult = Result (Formula × Bool × List ℕ) Fault

-- each turn takes a byte at least
look_smaller : (bs rest : List ℕ) (n : ℕ) (t : Token) → look bs ≡ token n t rest → length rest < length bs
look_smaller bs rest n t is = let size : IsSizedLook (token n t rest) (length bs) = subst (λ (l : Look (List ℕ)). IsSizedLook l (length bs)) is (look_sized bs) in omega (arith, size.0, size.1)

pub smaller : (c d : BodyReading × List ℕ) → body_turn c ≡ on d → length d.1 < length c.1
smaller c d is = let (n, (t, (stands, made))) = front_on body_answers ENTRY_LIMITS body_move look c.0 (look c.1) d is in look_smaller c.1 d.1 n t stands

abbrev pub reading : BodyReading × List ℕ → BodyResult
reading c = body_from c.0 c.1

pub turns : (c : BodyReading × List ℕ) → reading c ≡ by_turn reading (body_turn c)
turns c = whole_turn body_turn (Err (fault 0 (Text Expected))) (λ c. length c.1) smaller c

-- what ends a body
is_ending : (t : Token) → is_end t ≡ true → IsEnding t × IsEnd t
is_ending Comma is = (fronts.comma, comma)
is_ending Close is = (fronts.close, close)
is_ending t is = cc

end_is : (t : Token) → IsEnd t → is_end t ≡ true
end_is t comma = refl
end_is t close = refl

some_meant : (o : Option Outcome) → is_ok (or_expected o) ≡ is_some o
some_meant None = refl
some_meant (Some w) = refl

pub before_end : (b : BodyReading) (t : Token) → ends_before b t ≡ true → (is_end t ≡ true) × (is_some (meant b.reading) ≡ true)
unfolding ends_before
before_end b t last = let (end, ok) = and_parts (is_end t) (is_ok (ending b.reading)) last in (end, sym (some_meant (meant b.reading)) ∙ ok)

end_before : (b : BodyReading) (t : Token) → is_end t ≡ true → (f : Formula) → meant b.reading ≡ Some (FormulaRead f) → ends_before b t ≡ true
unfolding ends_before
end_before b t end f is = and_from (is_end t) (is_ok (ending b.reading)) end (ap (λ (o : Option Outcome). is_ok (or_expected o)) is)

ending_is : (b : BodyReading) (f : Formula) → meant b.reading ≡ Some (FormulaRead f) → body_ending b ≡ Ok f
unfolding body_ending
ending_is b f is = ap (λ (o : Option Outcome). formula_from b.place (or_expected o)) is

-- a token that is taken doesn't end the body
step_goes_on : (b z : BodyReading) (n : ℕ) (t : Token) (rest : List ℕ) → checked ENTRY_LIMITS (body_move b t) ≡ Ok z → closing (ends_before b t) b n t rest ≡ None
step_goes_on b z n t rest made =
    elim (ends_before b t) as (λ (x : Bool). ends_before b t ≡ x → closing x b n t rest ≡ None) [
      | true ↦ λ last.
          let (end, ok) = before_end b t last in
          let stop : Err Expected ≡ Ok z = sym (ap (checked ENTRY_LIMITS) (refused_place (places b.place t) (move b.reading t) (end_refused b.reading t (is_ending t end).0 ok))) ∙ made in
          cc
      | false ↦ λ off. refl
    ] refl

-- what an answer says of a body
pub record TakesBody (l : Language) (bs : List ℕ) (f : Formula) (end : Token) (rest : List ℕ) : Type 0 where
  pub tokens : List Token
  pub takes : TakesAll bs (tokens ++ end ∷ []) rest
  pub is : IsBody l ENTRY_LIMITS tokens f

abbrev pub EndedBy : Bool → Token
EndedBy true = Comma
EndedBy false = Close

ended_by_comma : (t : Token) → is_end t ≡ true → EndedBy (is_comma t) ≡ t
ended_by_comma Comma end = refl
ended_by_comma Close end = refl
ended_by_comma t end = cc

takes_more : (bs mid rest front : List ℕ) (ts : List Token) (t : Token) → TakesAll bs ts mid → Takes mid front t rest → TakesAll bs (ts ++ t ∷ []) rest
takes_more bs mid rest front ts t (no_token cs) one = more_tokens cs front rest rest t [] one (no_token rest)
takes_more bs mid rest front ts t (more_tokens cs f ds es u us first more) one = more_tokens cs f ds rest u (us ++ t ∷ []) first (takes_more ds es rest front us t more one)

some_variables : 1 ≤ ENTRY_LIMITS.variables
some_variables = omega arith

module _ (l : Language) (bs : List ℕ) where
  abbrev pub SaysBody : BodyResult → Type 0
  SaysBody (Ok x) = TakesBody l bs x.0 (EndedBy x.1) x.2
  SaysBody (Err e) = IsBodyFault l bs e.left e.kind

  module _ (ts : List Token) (s : BodyReading) (leads : led body_move ENTRY_LIMITS (body_start l) ts ≡ Ok s) where
    unexpected_there : unexpected s.place ≡ unexpected_in l
    unexpected_there = sym (led_kept ENTRY_LIMITS ts (body_start l) s (start_agrees l) leads).1.1.0 ∙ start_kind l
      where
        start_kind : (l : Language) → unexpected (first_place l) ≡ unexpected_in l
        start_kind Fof = refl
        start_kind Cnf = refl

    read_to : after ENTRY_LIMITS (start formulas) ts ≡ Ok s.reading
    read_to = (led_kept ENTRY_LIMITS ts (body_start l) s (start_agrees l) leads).0

    -- a body that may end there is a formula
    formula_there : (o : Option Outcome) → meant s.reading ≡ o → is_some o ≡ true → (f : Formula) × (meant s.reading ≡ Some (FormulaRead f))
    formula_there None is ok = cc
    formula_there (Some (FormulaRead f)) is ok = (f, is)
    formula_there (Some (TermRead x)) is ok = absurd ((is_reader formulas).sound ENTRY_LIMITS ts s.reading (TermRead x) read_to is)

    body_there : (f : Formula) → IsBody l ENTRY_LIMITS ts f → meant s.reading ≡ Some (FormulaRead f)
    body_there f d = meant_formula (meant s.reading) f (ends_here (is_body_reader l) ENTRY_LIMITS ts s f leads d)

    fault_is : (mid : List ℕ) → TakesAll bs ts mid → (n : ℕ) (k : ProblemKind) → Blames l ts mid n k → IsBodyFault l bs n k
    fault_is mid takes n k blames = record {
      before = ts;
      rest = mid;
      takes = takes;
      front = any_front (is_body_reader l) ENTRY_LIMITS ts s leads;
      clean = clean (is_body_reader l) ENTRY_LIMITS some_variables ts s leads;
      blames = blames;
    }

    because_of : (t : Token) (k : TextKind) → ends_before s t ≡ false → BecauseIn (IsBody l) ENTRY_LIMITS ts t k → Because l ts t (body_kind s.place k)
    because_of t Expected off none =
        subst (Because l ts t) (sym unexpected_there) (because_unexpected none (λ f end d. let last : ends_before s t ≡ true = end_before s t (end_is t end) f (body_there f d) in cc))
    because_of t Deep off (none, (any, other)) = deep none any other
    because_of t k off b = absurd b

    says_token : (mid front rest : List ℕ) (t : Token) → TakesAll bs ts mid → Takes mid front t rest → (r : BodyResult) → at_front body_answers ENTRY_LIMITS body_move s (token (length front) t rest) ≡ answer r → SaysBody r
    says_token mid front rest t takes one r given =
        elim (ends_before s t) as (λ (b : Bool). ends_before s t ≡ b → unless (closing b s (length front) t rest) (token_stepped body_answers s (length front) rest (checked ENTRY_LIMITS (body_move s t))) ≡ answer r → SaysBody r) [
          | true ↦ λ last there.
              let (end, ok) = before_end s t last in
              let (f, is) = formula_there (meant s.reading) refl ok in
              let same : ended_by (is_comma t) rest (placed (length front) (body_ending s)) ≡ r = cc in
              subst SaysBody (sym (ap (λ (x : Result Formula ProblemKind). ended_by (is_comma t) rest (placed (length front) x)) (ending_is s f is)) ∙ same) (record {
                tokens = ts;
                takes = subst (λ (u : Token). TakesAll bs (ts ++ u ∷ []) rest) (sym (ended_by_comma t end)) (takes_more bs mid rest front ts t takes one);
                is = (is_body_reader l).sound ENTRY_LIMITS ts s f leads (ap formula_meant is);
              })
          | false ↦ λ off there.
              elim (checked ENTRY_LIMITS (body_move s t)) as (λ (x : Result BodyReading TextKind). checked ENTRY_LIMITS (body_move s t) ≡ x → token_stepped body_answers s (length front) rest x ≡ answer r → SaysBody r) [
                | Ok z ↦ λ made at. cc
                | Err k ↦ λ made at.
                    let same : Err (fault (length front) (body_kind s.place k)) ≡ r = cc in
                    subst SaysBody same (fault_is mid takes (length front) (body_kind s.place k)
                    (at_token front rest t (body_kind s.place k) one (because_of t k off (because (is_body_reader l) ENTRY_LIMITS ts t s leads k made))))
              ] refl there
        ] refl given

    says : (mid : List ℕ) → TakesAll bs ts mid → (x : Look (List ℕ)) → Looks mid x → (r : BodyResult) → at_front body_answers ENTRY_LIMITS body_move s x ≡ answer r → SaysBody r
    says mid takes x (looking.at_token f rest t one) r given = says_token mid f rest t takes one r given
    says mid takes x (looking.at_end blanks) r given =
        let same : Err (fault 0 (unexpected s.place)) ≡ r = cc in subst SaysBody same (fault_is mid takes 0 (unexpected s.place) (subst (Blames l ts mid 0) (sym unexpected_there) (at_end blanks)))
    says mid takes x (looking.at_bytes f n e blanks is) r given =
        let same : Err (fault (length f - n) (Text e)) ≡ r = cc in subst SaysBody same (fault_is mid takes (length f - n) (Text e) (at_bytes f n e blanks is))

    -- what is blamed is answered
    refuses : (t : Token) (k : TextKind) (n : ℕ) (rest : List ℕ) → ends_before s t ≡ false → checked ENTRY_LIMITS (body_move s t) ≡ Err k → at_front body_answers ENTRY_LIMITS body_move s (token n t rest) ≡ answer (Err (fault n (body_kind s.place k)))
    refuses t k n rest off stop = λ i. unless (closing (off i) s n t rest) (token_stepped body_answers s n rest (stop i))

    stays_open : (t : Token) → ((f : Formula) → IsEnd t → IsBody l ENTRY_LIMITS ts f → ⊥) → ends_before s t ≡ false
    stays_open t none =
        elim (ends_before s t) as (λ (b : Bool). ends_before s t ≡ b → b ≡ false) [
          | true ↦ λ last.
              let (end, ok) = before_end s t last in
              let (f, is) = formula_there (meant s.reading) refl ok in
              absurd (none f (is_ending t end).1 ((is_body_reader l).sound ENTRY_LIMITS ts s f leads (ap formula_meant is)))
          | false ↦ λ off. refl
        ] refl

    deep_open : (t : Token) → checked ENTRY_LIMITS (body_move s t) ≡ Err Deep → ends_before s t ≡ false
    deep_open t stop =
        elim (ends_before s t) as (λ (b : Bool). ends_before s t ≡ b → b ≡ false) [
          | true ↦ λ last.
              let (end, ok) = before_end s t last in
              let other : Err Expected ≡ Err Deep = sym (ap (checked ENTRY_LIMITS) (refused_place (places s.place t) (move s.reading t) (end_refused s.reading t (is_ending t end).0 ok))) ∙ stop in
              cc
          | false ↦ λ off. refl
        ] refl

    blamed_token : (mid front rest : List ℕ) (t : Token) (k : ProblemKind) → Takes mid front t rest → Because l ts t k → at_front body_answers ENTRY_LIMITS body_move s (token (length front) t rest) ≡ answer (Err (fault (length front) k))
    blamed_token mid front rest t k one (because_unexpected none no_end) =
        refuses t Expected (length front) rest (stays_open t no_end) (stops (is_body_reader l) ENTRY_LIMITS ts t s leads some_variables Expected none) ∙ ap (λ (j : ProblemKind). answer (Err (fault (length front) j))) unexpected_there
    blamed_token mid front rest t k one (deep none any other) =
        let stop = stops (is_body_reader l) ENTRY_LIMITS ts t s leads some_variables Deep (none, (any, other)) in refuses t Deep (length front) rest (deep_open t stop) stop

    blamed : (mid : List ℕ) (n : ℕ) (k : ProblemKind) → Blames l ts mid n k → body_turn (s, mid) ≡ answer (Err (fault n k))
    blamed mid n k (at_token front rest t j one cause) = ap (at_front body_answers ENTRY_LIMITS body_move s) (looked mid (token (length front) t rest) (looking.at_token front rest t one)) ∙ blamed_token mid front rest t j one cause
    blamed mid n k (at_end blanks) = ap (at_front body_answers ENTRY_LIMITS body_move s) (looked mid (ends 0) (looking.at_end blanks)) ∙ ap (λ (j : ProblemKind). answer (Err (fault 0 j))) unexpected_there
    blamed mid n k (at_bytes front m e blanks is) = ap (at_front body_answers ENTRY_LIMITS body_move s) (looked mid (bad (length front - m) e) (looking.at_bytes front m e blanks is))

    there : (mid : List ℕ) → Passes look bs ts mid → (r : BodyResult) → body_turn (s, mid) ≡ answer r → body_at l bs ≡ r
    unfolding body_at
    there mid passes r given = answers body_turn reading turns (body_start l, bs) r (record { place = (s, mid); leads = tokens_lead body_answers ENTRY_LIMITS body_move look (λ q z n t y made. step_goes_on q z n t y made) (body_start l) s bs mid ts passes leads; given = given })

  pub body_says : SaysBody (body_at l bs)
  unfolding body_at
  body_says =
      let a = answered body_turn reading turns (λ c. length c.1) smaller (body_start l, bs) in
      let (ts, (passes, leads)) = tokens_of body_answers ENTRY_LIMITS body_move look (body_start l, bs) a.place a.leads in
      says ts a.place.0 leads a.place.1 (taken bs a.place.1 ts passes) (look a.place.1) (looks a.place.1) (reading (body_start l, bs)) a.given

  pub body_complete : (ts : List Token) (f : Formula) (c : Bool) (rest : List ℕ) → TakesAll bs (ts ++ EndedBy c ∷ []) rest → IsBody l ENTRY_LIMITS ts f → body_at l bs ≡ Ok (f, c, rest)
  body_complete ts f c rest all d =
      let (s, (leads, is)) = (is_body_reader l).complete ENTRY_LIMITS ts f d in
      let (mid, (n, (passes, stands))) = passes_last look bs rest ts (EndedBy c) (passing bs rest (ts ++ EndedBy c ∷ []) all) in
      there ts s leads mid passes (Ok (f, c, rest))
      (ap (at_front body_answers ENTRY_LIMITS body_move s) stands ∙ ends_there s f c n rest (meant_formula (meant s.reading) f is))
    where
      ended_is : (c : Bool) → is_end (EndedBy c) ≡ true
      ended_is true = refl
      ended_is false = refl

      comma_is : (c : Bool) → is_comma (EndedBy c) ≡ c
      comma_is true = refl
      comma_is false = refl

      ends_there : (s : BodyReading) (f : Formula) (c : Bool) (n : ℕ) (rest : List ℕ) → meant s.reading ≡ Some (FormulaRead f) → at_front body_answers ENTRY_LIMITS body_move s (token n (EndedBy c) rest) ≡ answer (Ok (f, c, rest))
      ends_there s f c n rest is =
          (λ i. unless (closing (end_before s (EndedBy c) (ended_is c) f is i) s n (EndedBy c) rest) (token_stepped body_answers s n rest (checked ENTRY_LIMITS (body_move s (EndedBy c)))))
          ∙ (λ i. answer (ended_by (comma_is c i) rest (placed n (ending_is s f is i))))

  pub body_blamed : (n : ℕ) (k : ProblemKind) → IsBodyFault l bs n k → body_at l bs ≡ Err (fault n k)
  body_blamed n k is =
      let (s, leads) = clean_leads (is_body_reader l) ENTRY_LIMITS is.before is.front is.clean in
      there is.before s leads is.rest (passing bs is.rest is.before is.takes) (Err (fault n k)) (blamed is.before s leads is.rest n k is.blames)
