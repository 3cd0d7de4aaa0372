-- Bodies of entries: the reader of formulas, kept to the places of a clause, is a reader of bodies, and what it answers is what the grammar
-- says.
use Rattle.std.proofs.Common.{◌≡◌, Bool, true, false, leb, if◌then◌else◌, List, [], ◌∷◌, ◌++◌, append-nil, Option, Some, None, Result, Ok, Err, refl, ◌∙◌, ap, subst}
use Rattle.fol.specs.Syntax.{Formula}
use Rattle.tptp_tokens.specs.declared.tokens.Token.{Token}
use Rattle.tptp_tokens.specs.declared.tokens.Token.TheVariants.{Comma}
use Rattle.tptp_tokens.specs.declared.tokens.TextKind.{TextKind}
use Rattle.tptp_tokens.specs.declared.tokens.TextKind.TheVariants.{Deep}
use Rattle.tptp_read.specs.declared.state.Limits.{Limits}
use Rattle.tptp_read.specs.declared.state.Outcome.{Outcome}
use Rattle.tptp_read.specs.declared.state.Outcome.TheVariants.{Formula as FormulaRead, Term as TermRead}
use Rattle.tptp_read.specs.Grammar.{formulas, Reads}
use Rattle.tptp_read.specs.Reader.{Move, refused, goes, limited, bound_by, checked, ◌>>=◌, led}
use Rattle.tptp_read.specs.Machine.{Reading, start, move, step, meant, after}
use Rattle.tptp_read.proofs.ReaderLaw.{then_ok, checked_ok, lead, IsFree, IsReaderOf}
use Rattle.tptp_read.proofs.Fronts.{HasRoom, completed_by, finish, into_lead, step_roomy, comma_free, widened, is_reader}
use Rattle.tptp_problem.specs.declared.errors.ProblemKind.TheVariants.{Clause as NoClause}
use Rattle.tptp_problem.specs.declared.problems.Language.{Language}
use Rattle.tptp_problem.specs.declared.problems.Language.TheVariants.{Fof, Cnf}
use Rattle.tptp_problem.specs.declared.clause_places.ClausePlace.{ClausePlace}
use Rattle.tptp_problem.specs.ClausePlaces.{place_behind}
use Rattle.tptp_problem.specs.BodyTexts.{IsBody}
use Rattle.tptp_problem.specs.BodyReader.{BodyReading, body_reading, first_place, body_start, unexpected, some_place, places, at_place, body_move, formula_meant, body_reader}
use Rattle.tptp_problem.proofs.ClauseLaws.{accepts, clause_of, formula_of_clause, clause_accepted}
use Rattle.tptp_problem.proofs.ClauseFronts.{AgreesAt, clause, Then, move_then, finish_accepted}

-- a step is one of the formula and one of the place
place_parts : (lim : Limits) (o : Option (Option ClausePlace)) (m : Move Reading) (s : BodyReading) → checked lim (at_place o m) ≡ Ok s → (checked lim m ≡ Ok s.reading) × (o ≡ Some s.place)
place_parts lim None m s e = cc
place_parts lim (Some q) refused s e = cc
place_parts lim (Some q) (goes r) s e = let same : body_reading q r ≡ s = cc in (ap (λ (z : BodyReading). Ok z.reading) same, ap (λ (z : BodyReading). Some z.place) same)
place_parts lim (Some q) (limited x n r) s e =
    elim (leb n (bound_by lim x)) as (λ (b : Bool). (if b then Ok (body_reading q r) else Err Deep) ≡ Ok s → ((if b then Ok r else Err Deep) ≡ Ok s.reading) × (Some q ≡ Some s.place)) [
      | true ↦ λ h. let same : body_reading q r ≡ s = cc in (ap (λ (z : BodyReading). Ok z.reading) same, ap (λ (z : BodyReading). Some z.place) same)
      | false ↦ λ h. cc
    ] e

place_both : (lim : Limits) (q : Option ClausePlace) (m : Move Reading) (r : Reading) → checked lim m ≡ Ok r → checked lim (at_place (Some q) m) ≡ Ok (body_reading q r)
place_both lim q refused r e = cc
place_both lim q (goes z) r e = let same : z ≡ r = cc in ap (λ (y : Reading). Ok (body_reading q y)) same
place_both lim q (limited x n z) r e =
    elim (leb n (bound_by lim x)) as (λ (b : Bool). (if b then Ok z else Err Deep) ≡ Ok r → (if b then Ok (body_reading q z) else Err Deep) ≡ Ok (body_reading q r)) [
      | true ↦ λ h. let same : z ≡ r = cc in ap (λ (y : Reading). Ok (body_reading q y)) same
      | false ↦ λ h. cc
    ] e

free_place : (o : Option (Option ClausePlace)) (m : Move Reading) → IsFree m → IsFree (at_place o m)
free_place None m f = tt
free_place (Some q) refused f = tt
free_place (Some q) (goes r) f = tt
free_place (Some q) (limited x n r) f = absurd f

pub refused_place : (o : Option (Option ClausePlace)) (m : Move Reading) → m ≡ refused → at_place o m ≡ refused
refused_place None m is = refl
refused_place (Some q) m is = ap (at_place (Some q)) is

-- whether a body may have the tokens, as far as a clause goes; and that the formula is read to where the clause is
abbrev pub accepted : Option ClausePlace → List Token → Bool
accepted None ts = true
accepted (Some p) ts = accepts p ts

abbrev pub Agree : Option ClausePlace → Reading → Type 0
Agree None r = Unit {0}
Agree (Some p) r = AgreesAt p r

accepted_nil : (p : Option ClausePlace) → accepted p [] ≡ true
accepted_nil None = refl
accepted_nil (Some p) = refl

accepted_on : (p : Option ClausePlace) (t : Token) (ts : List Token) → accepted p (t ∷ ts) ≡ true → (q : Option ClausePlace) × ((places p t ≡ Some q) × (accepted q ts ≡ true))
accepted_on None t ts ok = (None, (refl, refl))
accepted_on (Some p) t ts ok =
    elim (place_behind p t) as (λ (o : Option ClausePlace). elim o [ None ↦ false | Some q ↦ accepts q ts ] ≡ true → (q : Option ClausePlace) × ((some_place o ≡ Some q) × (accepted q ts ≡ true))) [
      | None ↦ λ h. cc
      | Some q ↦ λ h. (Some q, (refl, h))
    ] ok

led_accepted : (lim : Limits) (ts : List Token) (r s : Reading) (p : Option ClausePlace) → after lim r ts ≡ Ok s → accepted p ts ≡ true → (q : Option ClausePlace) × (led body_move lim (body_reading p r) ts ≡ Ok (body_reading q s))
led_accepted lim [] r s p e ok = let same : r ≡ s = cc in (p, ap (λ (z : Reading). Ok (body_reading p z)) same)
led_accepted lim (t ∷ ts) r s p e ok =
    let (z, (made, rest)) = then_ok (step lim r t) (λ (y : Reading). after lim y ts) s e in
    let (q, (at, more)) = accepted_on p t ts ok in
    let (o, leads) = led_accepted lim ts z s q rest more in
    let here : checked lim (body_move (body_reading p r) t) ≡ Ok (body_reading q z) = ap (λ (x : Option (Option ClausePlace)). checked lim (at_place x (move r t))) at ∙ place_both lim q (move r t) z made in
    (o, ap (λ (x : Result BodyReading TextKind). x >>= λ (y : BodyReading). led body_move lim y ts) here ∙ leads)

-- what a step keeps
abbrev pub Kept : Option ClausePlace → Option ClausePlace → Reading → List Token → Type 0
Kept p q s ts = Agree q s × ((unexpected p ≡ unexpected q) × ((us : List Token) → accepted p (ts ++ us) ≡ accepted q us))

kept_one : (p q : Option ClausePlace) (r s : Reading) (t : Token) → Agree p r → places p t ≡ Some q → lead (move r t) ≡ Some s → Kept p q s (t ∷ [])
kept_one None q r s t h at leads = let same : None ≡ q = cc in subst (λ (o : Option ClausePlace). Kept None o s (t ∷ [])) same (tt, (refl, λ us. refl))
kept_one (Some p) q r s t h at leads =
    elim (place_behind p t) as (λ (o : Option ClausePlace). Then (move r t) o → some_place o ≡ Some q → Agree q s × ((NoClause ≡ unexpected q) × ((us : List Token) → elim o [ None ↦ false | Some z ↦ accepts z us ] ≡ accepted q us))) [
      | None ↦ λ there is. cc
      | Some z ↦ λ there is. let same : Some z ≡ q = cc in
          subst (λ (y : Option ClausePlace). Agree y s × ((NoClause ≡ unexpected y) × ((us : List Token) → accepts z us ≡ accepted y us))) same (into_lead (move r t) (AgreesAt z) s there leads, (refl, λ us. refl))
    ] (move_then p r.mode r.side r.calls r.part r.frames t h) at

pub led_kept : (lim : Limits) (ts : List Token) (b s : BodyReading) → Agree b.place b.reading → led body_move lim b ts ≡ Ok s → (after lim b.reading ts ≡ Ok s.reading) × Kept b.place s.place s.reading ts
led_kept lim [] b s h e = let same : b ≡ s = cc in subst (λ (z : BodyReading). (after lim b.reading [] ≡ Ok z.reading) × Kept b.place z.place z.reading []) same (refl, (h, (refl, λ us. refl)))
led_kept lim (t ∷ ts) b s h e =
    let (z, (made, rest)) = then_ok (checked lim (body_move b t)) (λ (y : BodyReading). led body_move lim y ts) s e in
    let (goes_on, at) = place_parts lim (places b.place t) (move b.reading t) z made in
    let (agrees, (kind, front)) = kept_one b.place z.place b.reading z.reading t h at (checked_ok lim (move b.reading t) z.reading goes_on).0 in
    let (leads, (agrees', (kind', front'))) = led_kept lim ts z s agrees rest in
    (ap (λ (x : Result Reading TextKind). x >>= λ (y : Reading). after lim y ts) goes_on ∙ leads, (agrees', (kind ∙ kind', λ us. front (ts ++ us) ∙ front' us)))

pub start_agrees : (l : Language) → Agree (first_place l) (start formulas)
start_agrees Fof = tt
start_agrees Cnf = clause []

-- a body is a formula whose tokens a body may have
of_formula : (l : Language) (lim : Limits) (ts : List Token) (f : Formula) → Reads lim formulas ts (FormulaRead f) → accepted (first_place l) ts ≡ true → IsBody l lim ts f
of_formula Fof lim ts f d ok = d
of_formula Cnf lim ts f d ok = clause_of lim lim.levels ts f d ok

pub to_formula : (l : Language) (lim : Limits) (ts : List Token) (f : Formula) → IsBody l lim ts f → Reads lim formulas ts (FormulaRead f) × (accepted (first_place l) ts ≡ true)
to_formula Fof lim ts f d = (d, refl)
to_formula Cnf lim ts f d = (formula_of_clause lim lim.levels ts [] f d, clause_accepted lim lim.levels ts f d)

pub meant_formula : (o : Option Outcome) (f : Formula) → formula_meant o ≡ Some f → o ≡ Some (FormulaRead f)
meant_formula None f is = cc
meant_formula (Some (FormulaRead g)) f is = let same : g ≡ f = cc in ap (λ (h : Formula). Some (FormulaRead h)) same
meant_formula (Some (TermRead x)) f is = cc

finish_kept : (p : Option ClausePlace) (r : Reading) → Agree p r → accepted p (finish r.mode r.side r.calls r.frames) ≡ true
finish_kept None r h = refl
finish_kept (Some p) r h = finish_accepted p r.mode r.side r.calls r.frames h

front_body : (l : Language) (lim : Limits) (ts : List Token) (w : Outcome) → Reads lim formulas ts w → accepted (first_place l) ts ≡ true → (f : Formula) × IsBody l lim ts f
front_body l lim ts (FormulaRead f) d ok = (f, of_formula l lim ts f d ok)
front_body l lim ts (TermRead x) d ok = absurd d

pub is_body_reader : (l : Language) → IsReaderOf (body_reader l) (IsBody l) (λ lim b. HasRoom lim b.reading.mode)
is_body_reader l = record {
  sound = λ lim ts s f e is.
      let (leads, (agrees, (kind, front))) = led_kept lim ts (body_start l) s (start_agrees l) e in
      of_formula l lim ts f ((is_reader formulas).sound lim ts s.reading (FormulaRead f) leads (meant_formula (meant s.reading) f is))
      (subst (λ (us : List Token). accepted (first_place l) us ≡ true) (append-nil ts) (front [] ∙ accepted_nil s.place));
  complete = λ lim ts f d.
      let (reads, ok) = to_formula l lim ts f d in
      let (r, (leads, is)) = (is_reader formulas).complete lim ts (FormulaRead f) reads in
      let (q, goes_there) = led_accepted lim ts (start formulas) r (first_place l) leads ok in
      (body_reading q r, (goes_there, ap formula_meant is));
  goes_on = λ lim ts s e room.
      let (leads, (agrees, (kind, front))) = led_kept lim ts (body_start l) s (start_agrees l) e in
      let more : List Token = finish s.reading.mode s.reading.side s.reading.calls s.reading.frames in
      let (w, d) = completed_by lim formulas ts s.reading leads room in
      (more, front_body l lim (ts ++ more) w d (front more ∙ finish_kept s.place s.reading agrees));
  widened = λ lim s. widened lim s.reading;
  start_room = λ lim. tt;
  room = λ lim some s z t e. step_roomy lim some s.reading z.reading t (place_parts lim (places s.place t) (move s.reading t) z e).0;
  comma = λ s. free_place (places s.place Comma) (move s.reading Comma) (comma_free s.reading);
}
