-- From each state a text can be completed, and the machine is a reader of formulas and of terms.
use Rattle.std.proofs.Common.{◌≡◌, ℕ, suc, ◌≤◌, Bool, true, List, [], ◌∷◌, ◌++◌, length, ◌⊎◌, inl, inr, Option, Some, None, is_some, Ok, codes, refl, ◌∙◌, ap, subst, arith}
use Rattle.fol.specs.declared.symbols.Sym.{Sym}
use Rattle.fol.specs.declared.symbols.Var.{Var}
use Rattle.fol.specs.declared.symbols.Var.TheVariants.{Num}
use Rattle.fol.specs.Syntax.{Term, free, bound, app, Terms, nil, plain, Formula, atom, not}
use Rattle.tptp_tokens.specs.declared.tokens.ChainOperator.{ChainOperator}
use Rattle.tptp_tokens.specs.declared.tokens.ChainOperator.TheVariants.{And, Or}
use Rattle.tptp_tokens.specs.declared.tokens.BinaryOperator.{BinaryOperator}
use Rattle.tptp_tokens.specs.declared.tokens.Token.{Token}
use Rattle.tptp_tokens.specs.declared.tokens.Token.TheVariants.{Name, Variable, Truth, Equality, Negation, Quantifier as Quantifies, Chain, Binary, Open, Close, OpenSquare, CloseSquare, Comma, Colon}
use Rattle.tptp_read.specs.declared.state.Limits.{Limits}
use Rattle.tptp_read.specs.declared.state.Outcome.{Outcome}
use Rattle.tptp_read.specs.declared.state.Outcome.TheVariants.{Formula as FormulaRead, Term as TermRead}
use Rattle.tptp_read.specs.declared.state.Part.{Part}
use Rattle.tptp_read.specs.declared.state.Part.TheVariants.{First, Chained, Joined}
use Rattle.tptp_read.specs.declared.state.Frame.{Frame}
use Rattle.tptp_read.specs.declared.state.Frame.TheVariants.{Group, Negated, Quantified}
use Rattle.tptp_read.specs.declared.state.Call.{Call}
use Rattle.tptp_read.specs.declared.state.Side.{Side}
use Rattle.tptp_read.specs.declared.state.Side.TheVariants.{Lead, Right, Whole}
use Rattle.tptp_read.specs.declared.state.Mode.{Mode}
use Rattle.tptp_read.specs.declared.state.Mode.TheVariants.{WantUnit, AfterUnit, WantTerm, AfterName, AfterTerm, WantSquare, WantVariable, AfterVariable, WantColon}
use Rattle.tptp_read.specs.Meaning.{equation, application, symbol_of}
use Rattle.tptp_read.specs.Grammar.{Sort, formulas, terms, Reads}
use Rattle.tptp_read.specs.Reader.{variables, Move, refused, goes, limited, ◌>>=◌}
use Rattle.tptp_read.specs.Machine.{Reading, at, in_term, start, called, closed, settled, settled_frames, completed, unit_of, behind_chain, behind_binary, behind_close, behind_settled, behind_last, behind_left, behind_outer, behind_term, move_by, move, step, ending_settled, ending_last, ending_term, ending_by, meant, after, reader}
use Rattle.tptp_read.proofs.ReaderLaw.{lead, checked_ok, wider, IsFree, led_append, IsReaderOf}
use Rattle.tptp_read.proofs.Sound.{sound}
use Rattle.tptp_read.proofs.Complete.{BehindTerm, BehindUnit, reads, within, name_ends, atom_ends, equation_ends, negation_ends, quantifier_ends, group_ends, reads_to, complete}

-- The shortest end of a text from each state. Where a unit is wanted it is a name, which may stand wherever a unit may.
pub some_variable : Var
some_variable = Num 0

abbrev pub some_name : List ℕ
some_name = codes "a"

abbrev pub closings : List Frame → List Token
closings [] = []
closings (Group p ∷ k) = Close ∷ closings k
closings (Negated ∷ k) = closings k
closings (Quantified q vs ∷ k) = closings k

abbrev pub finish_term : Term → Side → List Call → List Frame → List Token
finish_term x s (c ∷ cs) k = Close ∷ finish_term (called c x) s cs k
finish_term x Whole [] k = []
finish_term x (Right sign y) [] k = closings k
finish_term (app f xs) Lead [] k = closings k
finish_term (free v) Lead [] k = Equality true ∷ Variable some_variable ∷ closings k
finish_term (bound i) Lead [] k = Equality true ∷ Variable some_variable ∷ closings k

abbrev pub finish : Mode → Side → List Call → List Frame → List Token
finish WantUnit s cs k = Name some_name ∷ closings k
finish (AfterUnit f) s cs k = closings k
finish WantTerm s cs k = Variable some_variable ∷ finish_term (free some_variable) s cs k
finish (AfterName x) s cs k = finish_term (application x nil) s cs k
finish (AfterTerm x) s cs k = finish_term x s cs k
finish (WantSquare q) s cs k = OpenSquare ∷ Variable some_variable ∷ CloseSquare ∷ Colon ∷ Name some_name ∷ closings k
finish (WantVariable q vs) s cs k = Variable some_variable ∷ CloseSquare ∷ Colon ∷ Name some_name ∷ closings k
finish (AfterVariable q vs) s cs k = CloseSquare ∷ Colon ∷ Name some_name ∷ closings k
finish (WantColon q vs) s cs k = Colon ∷ Name some_name ∷ closings k

behind_closings : (k : List Frame) → BehindUnit (closings k)
behind_closings [] = tt
behind_closings (Group p ∷ k) = tt
behind_closings (Negated ∷ k) = behind_closings k
behind_closings (Quantified q vs ∷ k) = behind_closings k

term_closings : (k : List Frame) → BehindTerm (closings k)
term_closings [] = tt
term_closings (Group p ∷ k) = tt
term_closings (Negated ∷ k) = term_closings k
term_closings (Quantified q vs ∷ k) = term_closings k

behind_finish : (f : Sym) (xs : Terms) (s : Side) (cs : List Call) (k : List Frame) → BehindTerm (finish_term (app f xs) s cs k)
behind_finish f xs s (c ∷ cs) k = tt
behind_finish f xs Whole [] k = tt
behind_finish f xs (Right sign y) [] k = term_closings k
behind_finish f xs Lead [] k = term_closings k

-- whether one more variable fits, where one must follow
abbrev pub HasRoom : Limits → Mode → Type 0
HasRoom lim (WantSquare q) = 1 ≤ lim.variables
HasRoom lim (WantVariable q vs) = suc (length vs) ≤ lim.variables
HasRoom lim m = Unit {0}

module _ (lim : Limits) where
  abbrev pub IsRead : Reading → List Token → Type 0
  IsRead r ts = (w : Outcome) × (reads lim r ts ≡ Ok w)

  after_unit : (f : Formula) (s : Side) (cs : List Call) (p : Part) (k : List Frame) (ts : List Token) → reads lim (in_term (AfterUnit f) s cs p k) ts ≡ reads lim (at (AfterUnit f) p k) ts
  after_unit f s cs p k [] = refl
  after_unit f s cs p k (t ∷ ts) = refl

  closings_read : (k : List Frame) (p : Part) (f : Formula) → IsRead (at (AfterUnit f) p k) (closings k)
  closings_read [] p f = (FormulaRead (completed p f), refl)
  closings_read (Group q ∷ k) p f = let rest = closings_read k q (completed p f) in (rest.0, group_ends lim q k (closings k) p f ∙ rest.1)
  closings_read (Negated ∷ k) p f = let rest = closings_read k p (not f) in (rest.0, negation_ends lim f p k (closings k) ∙ rest.1)
  closings_read (Quantified q vs ∷ k) p f = let rest = closings_read k p (closed q vs f) in (rest.0, quantifier_ends lim q vs f p k (closings k) ∙ rest.1)

  finish_term_read : (x : Term) (s : Side) (cs : List Call) (p : Part) (k : List Frame) → IsRead (in_term (AfterTerm x) s cs p k) (finish_term x s cs k)
  finish_term_read x s (c ∷ cs) p k = let rest = finish_term_read (called c x) s cs p k in (rest.0, rest.1)
  finish_term_read x Whole [] p k = (TermRead x, refl)
  finish_term_read x (Right sign y) [] p k = let rest = closings_read k p (equation sign y x) in (rest.0, equation_ends lim sign y x p k (closings k) ∙ rest.1)
  finish_term_read (app f xs) Lead [] p k = let rest = closings_read k p (atom (plain f) xs) in (rest.0, atom_ends lim f xs p k (closings k) (behind_closings k) ∙ rest.1)
  finish_term_read (free v) Lead [] p k = let rest = closings_read k p (equation true (free v) (free some_variable)) in (rest.0, equation_ends lim true (free v) (free some_variable) p k (closings k) ∙ rest.1)
  finish_term_read (bound i) Lead [] p k = let rest = closings_read k p (equation true (bound i) (free some_variable)) in (rest.0, equation_ends lim true (bound i) (free some_variable) p k (closings k) ∙ rest.1)

  finish_name_read : (n : List ℕ) (s : Side) (cs : List Call) (p : Part) (k : List Frame) → IsRead (in_term (AfterName n) s cs p k) (finish_term (application n nil) s cs k)
  finish_name_read n s cs p k =
      let rest = finish_term_read (application n nil) s cs p k in (rest.0, name_ends lim n s cs p k (finish_term (application n nil) s cs k) (behind_finish (symbol_of n nil) nil s cs k) ∙ rest.1)

  finish_read : (m : Mode) (s : Side) (cs : List Call) (p : Part) (k : List Frame) → HasRoom lim m → IsRead (in_term m s cs p k) (finish m s cs k)
  finish_read WantUnit s cs p k room = finish_name_read some_name Lead [] p k
  finish_read (AfterUnit f) s cs p k room = let rest = closings_read k p f in (rest.0, after_unit f s cs p k (closings k) ∙ rest.1)
  finish_read WantTerm s cs p k room = finish_term_read (free some_variable) s cs p k
  finish_read (AfterName x) s cs p k room = finish_name_read x s cs p k
  finish_read (AfterTerm x) s cs p k room = finish_term_read x s cs p k
  finish_read (WantSquare q) s cs p k room =
      let rest = finish_name_read some_name Lead [] p (Quantified q (some_variable ∷ []) ∷ k) in
      (rest.0, within lim variables 1 (at (AfterVariable q (some_variable ∷ [])) p k) (CloseSquare ∷ Colon ∷ Name some_name ∷ closings k) room ∙ rest.1)
  finish_read (WantVariable q vs) s cs p k room =
      let rest = finish_name_read some_name Lead [] p (Quantified q (some_variable ∷ vs) ∷ k) in
      (rest.0, within lim variables (suc (length vs)) (at (AfterVariable q (some_variable ∷ vs)) p k) (CloseSquare ∷ Colon ∷ Name some_name ∷ closings k) room ∙ rest.1)
  finish_read (AfterVariable q vs) s cs p k room = finish_name_read some_name Lead [] p (Quantified q vs ∷ k)
  finish_read (WantColon q vs) s cs p k room = finish_name_read some_name Lead [] p (Quantified q vs ∷ k)

  -- tokens that lead to a state with room are completed by its shortest end
  pub completed_by : (sort : Sort) (ts : List Token) (s : Reading) → after lim (start sort) ts ≡ Ok s → HasRoom lim s.mode → (w : Outcome) × Reads lim sort (ts ++ finish s.mode s.side s.calls s.frames) w
  completed_by sort ts s e room =
      let more : List Token = finish s.mode s.side s.calls s.frames in
      let (w, rest) = finish_read s.mode s.side s.calls s.part s.frames room in
      let (z, (leads, is)) = reads_to lim s more w rest in
      (w, sound lim sort (ts ++ more) z w (led_append move lim (start sort) ts more ∙ (ap (λ x. x >>= λ (y : Reading). after lim y more) e ∙ leads)) is)

-- what holds where a move leads
abbrev pub Into : Move Reading → (Reading → Type 0) → Type 0
Into refused P = Unit {0}
Into (goes r) P = P r
Into (limited x n r) P = P r

pub into_map : (m : Move Reading) (P Q : Reading → Type 0) → ((r : Reading) → P r → Q r) → Into m P → Into m Q
into_map refused P Q f o = tt
into_map (goes r) P Q f o = f r o
into_map (limited x n r) P Q f o = f r o

pub into_lead : (m : Move Reading) (P : Reading → Type 0) (s : Reading) → Into m P → lead m ≡ Some s → P s
into_lead refused P s o e = cc
into_lead (goes r) P s o e = let same : r ≡ s = cc in subst P same o
into_lead (limited x n r) P s o e = let same : r ≡ s = cc in subst P same o

-- where a token leads behind a unit
pub data IsBehind : Token → Reading → Type 0 where
  chained : (c : ChainOperator) (p : Part) (k : List Frame) → IsBehind (Chain c) (at WantUnit p k)
  joined : (b : BinaryOperator) (p : Part) (k : List Frame) → IsBehind (Binary b) (at WantUnit p k)
  grouped : (f : Formula) (p : Part) (k : List Frame) → IsBehind Close (at (AfterUnit f) p k)

chain_leads : (c : ChainOperator) (f : Formula) (p : Part) (k : List Frame) → Into (behind_chain c f p k) (IsBehind (Chain c))
chain_leads c f First k = chained c (Chained c f 1) k
chain_leads And f (Chained And e n) k = chained And _ k
chain_leads Or f (Chained Or e n) k = chained Or _ k
chain_leads c f p k = tt

binary_leads : (b : BinaryOperator) (f : Formula) (p : Part) (k : List Frame) → Into (behind_binary b f p k) (IsBehind (Binary b))
binary_leads b f First k = joined b (Joined b f) k
binary_leads b f p k = tt

close_leads : (f : Formula) (p : Part) (k : List Frame) → Into (behind_close f p k) (IsBehind Close)
close_leads f p (Group q ∷ k) = grouped (completed p f) q k
close_leads f p k = tt

settled_leads : (f : Formula) (p : Part) (k : List Frame) (t : Token) → Into (behind_settled f p k t) (IsBehind t)
settled_leads f p k (Chain c) = chain_leads c f p k
settled_leads f p k (Binary b) = binary_leads b f p k
settled_leads f p k Close = close_leads f p k
settled_leads f p k t = tt

pub unit_leads : (f : Formula) (p : Part) (k : List Frame) (t : Token) → Into (move_by (AfterUnit f) Lead [] p k t) (IsBehind t)
unit_leads f p k t = settled_leads (settled k f) p (settled_frames k) t

pub last_leads : (o : Option Formula) (p : Part) (k : List Frame) (t : Token) → Into (behind_last o p k t) (IsBehind t)
last_leads None p k t = tt
last_leads (Some f) p k t = unit_leads f p k t

-- where a token leads behind a term that stands in no other
pub data IsBehindTerm : Token → Reading → Type 0 where
  compared : (sign : Bool) (s : Side) (p : Part) (k : List Frame) → IsBehindTerm (Equality sign) (in_term WantTerm s [] p k)
  ended : (t : Token) (r : Reading) → IsBehind t r → IsBehindTerm t r

left_leads : (sign : Bool) (x : Term) (s : Side) (p : Part) (k : List Frame) → Into (behind_left sign x s p k) (IsBehindTerm (Equality sign))
left_leads sign x Lead p k = compared sign (Right sign x) p k
left_leads sign x s p k = tt

pub outer_leads : (x : Term) (s : Side) (p : Part) (k : List Frame) (t : Token) → Into (behind_outer x s p k t) (IsBehindTerm t)
outer_leads x s p k (Equality sign) = left_leads sign x s p k
outer_leads x s p k t = into_map (behind_last (unit_of s x) p k t) (IsBehind t) (IsBehindTerm t) (ended t) (last_leads (unit_of s x) p k t)

-- A token leads to a state with room for what must follow, but for the comma behind the last variable that fits.
abbrev IsRoomy : Limits → Mode → Token → Reading → Type 0
IsRoomy lim m t s = HasRoom lim s.mode ⊎ ((t ≡ Comma) × HasRoom lim m)

module _ (lim : Limits) (some : 1 ≤ lim.variables) where
  roomy_behind : (m : Mode) (t u : Token) (r : Reading) → IsBehind t r → IsRoomy lim m u r
  roomy_behind m t u r (chained c p k) = inl tt
  roomy_behind m t u r (joined b p k) = inl tt
  roomy_behind m t u r (grouped f p k) = inl tt

  roomy_outer : (m : Mode) (t : Token) (r : Reading) → IsBehindTerm t r → IsRoomy lim m t r
  roomy_outer m t r (compared sign s p k) = inl tt
  roomy_outer m t r (ended u z b) = roomy_behind m u t z b

  roomy_term : (m : Mode) (x : Term) (s : Side) (cs : List Call) (p : Part) (k : List Frame) (t : Token) → Into (behind_term x s cs p k t) (IsRoomy lim m t)
  roomy_term m x s [] p k t = into_map (behind_outer x s p k t) (IsBehindTerm t) (IsRoomy lim m t) (roomy_outer m t) (outer_leads x s p k t)
  roomy_term m x s (c ∷ cs) p k Comma = inl tt
  roomy_term m x s (c ∷ cs) p k Close = inl tt
  roomy_term m x s (c ∷ cs) p k t = tt

  roomy : (m : Mode) (s : Side) (cs : List Call) (p : Part) (k : List Frame) (t : Token) → Into (move_by m s cs p k t) (IsRoomy lim m t)
  roomy WantUnit s cs p k (Name n) = inl tt
  roomy WantUnit s cs p k (Variable v) = inl tt
  roomy WantUnit s cs p k (Truth b) = inl tt
  roomy WantUnit s cs p k Negation = inl tt
  roomy WantUnit s cs p k Open = inl tt
  roomy WantUnit s cs p k (Quantifies q) = inl some
  roomy WantUnit s cs p k t = tt
  roomy (AfterUnit f) s cs p k t = into_map (move_by (AfterUnit f) Lead [] p k t) (IsBehind t) (IsRoomy lim (AfterUnit f) t) (roomy_behind (AfterUnit f) t t) (unit_leads f p k t)
  roomy WantTerm s cs p k (Name n) = inl tt
  roomy WantTerm s cs p k (Variable v) = inl tt
  roomy WantTerm s cs p k t = tt
  roomy (AfterName n) s cs p k Open = inl tt
  roomy (AfterName n) s cs p k t = roomy_term (AfterName n) (application n nil) s cs p k t
  roomy (AfterTerm x) s cs p k t = roomy_term (AfterTerm x) x s cs p k t
  roomy (WantSquare q) s cs p k OpenSquare = inl some
  roomy (WantSquare q) s cs p k t = tt
  roomy (WantVariable q vs) s cs p k (Variable v) = inl tt
  roomy (WantVariable q vs) s cs p k t = tt
  roomy (AfterVariable q vs) s cs p k Comma = inr (refl, tt)
  roomy (AfterVariable q vs) s cs p k CloseSquare = inl tt
  roomy (AfterVariable q vs) s cs p k t = tt
  roomy (WantColon q vs) s cs p k Colon = inl tt
  roomy (WantColon q vs) s cs p k t = tt

  pub step_roomy : (r s : Reading) (t : Token) → step lim r t ≡ Ok s → IsRoomy lim r.mode t s
  step_roomy r s t e = into_lead (move r t) (IsRoomy lim r.mode t) s (roomy r.mode r.side r.calls r.part r.frames t) (checked_ok lim (move r t) s e).0

-- a comma is within each limit
comma_last : (o : Option Formula) (p : Part) (k : List Frame) → IsFree (behind_last o p k Comma)
comma_last None p k = tt
comma_last (Some f) p k = tt

comma_term : (x : Term) (s : Side) (cs : List Call) (p : Part) (k : List Frame) → IsFree (behind_term x s cs p k Comma)
comma_term x s [] p k = comma_last (unit_of s x) p k
comma_term x s (c ∷ cs) p k = tt

comma_by : (m : Mode) (s : Side) (cs : List Call) (p : Part) (k : List Frame) → IsFree (move_by m s cs p k Comma)
comma_by (AfterName n) s cs p k = comma_term (application n nil) s cs p k
comma_by (AfterTerm x) s cs p k = comma_term x s cs p k
comma_by m s cs p k = tt

pub comma_free : (r : Reading) → IsFree (move r Comma)
comma_free r = comma_by r.mode r.side r.calls r.part r.frames

-- a `,` or a `)` is refused where the text may end
pub data IsEnding : Token → Type 0 where
  comma : IsEnding Comma
  close : IsEnding Close

settled_refuses : (t : Token) → IsEnding t → (f : Formula) (p : Part) (k : List Frame) → is_some (ending_settled f p k) ≡ true → behind_settled f p k t ≡ refused
settled_refuses t comma f p k ok = refl
settled_refuses t close f p [] ok = refl
settled_refuses t close f p (g ∷ k) ok = cc

last_refuses : (t : Token) → IsEnding t → (o : Option Formula) (p : Part) (k : List Frame) → is_some (ending_last o p k) ≡ true → behind_last o p k t ≡ refused
last_refuses t end None p k ok = refl
last_refuses t end (Some f) p k ok = settled_refuses t end (settled k f) p (settled_frames k) ok

term_refuses : (t : Token) → IsEnding t → (x : Term) (s : Side) (cs : List Call) (p : Part) (k : List Frame) → is_some (ending_term x s cs p k) ≡ true → behind_term x s cs p k t ≡ refused
term_refuses t end x s (c ∷ cs) p k ok = cc
term_refuses t comma x Whole [] p k ok = refl
term_refuses t close x Whole [] p k ok = refl
term_refuses t comma x Lead [] p k ok = last_refuses Comma comma (unit_of Lead x) p k ok
term_refuses t close x Lead [] p k ok = last_refuses Close close (unit_of Lead x) p k ok
term_refuses t comma x (Right sign y) [] p k ok = last_refuses Comma comma (unit_of (Right sign y) x) p k ok
term_refuses t close x (Right sign y) [] p k ok = last_refuses Close close (unit_of (Right sign y) x) p k ok

mode_refuses : (t : Token) → IsEnding t → (m : Mode) (s : Side) (cs : List Call) (p : Part) (k : List Frame) → is_some (ending_by m s cs p k) ≡ true → move_by m s cs p k t ≡ refused
mode_refuses t end (AfterUnit f) s cs p k ok = settled_refuses t end (settled k f) p (settled_frames k) ok
mode_refuses t comma (AfterName n) s cs p k ok = term_refuses Comma comma (application n nil) s cs p k ok
mode_refuses t close (AfterName n) s cs p k ok = term_refuses Close close (application n nil) s cs p k ok
mode_refuses t end (AfterTerm x) s cs p k ok = term_refuses t end x s cs p k ok
mode_refuses t end m s cs p k ok = cc

pub end_refused : (r : Reading) (t : Token) → IsEnding t → is_some (meant r) ≡ true → move r t ≡ refused
end_refused r t end ok = mode_refuses t end r.mode r.side r.calls r.part r.frames ok

widened_by : (lim : Limits) (m : Mode) → (n : ℕ) × HasRoom (wider lim n) m
widened_by lim (WantSquare q) = (1, omega arith)
widened_by lim (WantVariable q vs) = (suc (length vs), omega arith)
widened_by lim m = (0, tt)

pub widened : (lim : Limits) (r : Reading) → (n : ℕ) × HasRoom (wider lim n) r.mode
widened lim r = widened_by lim r.mode

start_roomy : (lim : Limits) (sort : Sort) → HasRoom lim (start sort).mode
start_roomy lim formulas = tt
start_roomy lim terms = tt

-- the machine is a reader of formulas and of terms
pub is_reader : (sort : Sort) → IsReaderOf (reader sort) (λ lim ts w. Reads lim sort ts w) (λ lim r. HasRoom lim r.mode)
is_reader sort = record {
  sound = λ lim ts s w e is. sound lim sort ts s w e is;
  complete = λ lim ts w d. complete lim sort ts w d;
  goes_on = λ lim ts s e room. (finish s.mode s.side s.calls s.frames, completed_by lim sort ts s e room);
  widened = widened;
  start_room = λ lim. start_roomy lim sort;
  room = λ lim some r s t e. step_roomy lim some r s t e;
  comma = comma_free;
}
