-- A reader of tokens as a machine: what each token does to what has been read.
use Rattle.std.specs.Prelude.{ℕ, suc, Bool, true, false, ◌&&◌, List, [], ◌∷◌, length, Option, Some, None, Result}
use Rattle.fol.specs.declared.symbols.Var.{Var}
use Rattle.fol.specs.Syntax.{Term, free, bound, app, Terms, nil, cons, plain, Formula, atom, not}
use Rattle.tptp_tokens.specs.declared.tokens.Quantifier.{Quantifier}
use Rattle.tptp_tokens.specs.declared.tokens.ChainOperator.{ChainOperator}
use Rattle.tptp_tokens.specs.declared.tokens.ChainOperator.TheVariants.{And, Or}
use Rattle.tptp_tokens.specs.declared.tokens.BinaryOperator.{BinaryOperator}
use Rattle.tptp_tokens.specs.declared.tokens.Token.{Token}
use Rattle.tptp_tokens.specs.declared.tokens.Token.TheVariants.{Name, Variable, Truth, Equality, Negation, Quantifier as Quantifies, Chain, Binary, Open, Close, OpenSquare, CloseSquare, Comma, Colon}
use Rattle.tptp_tokens.specs.declared.tokens.TextKind.{TextKind}
use Rattle.tptp_read.specs.declared.state.Limits.{Limits}
use Rattle.tptp_read.specs.declared.state.Outcome.{Outcome}
use Rattle.tptp_read.specs.declared.state.Outcome.TheVariants.{Formula as FormulaRead, Term as TermRead}
use Rattle.tptp_read.specs.declared.state.Part.{Part}
use Rattle.tptp_read.specs.declared.state.Part.TheVariants.{First, Chained, Joined}
use Rattle.tptp_read.specs.declared.state.Frame.{Frame}
use Rattle.tptp_read.specs.declared.state.Frame.TheVariants.{Group, Negated, Quantified}
use Rattle.tptp_read.specs.declared.state.Call.{Call}
use Rattle.tptp_read.specs.declared.state.Side.{Side}
use Rattle.tptp_read.specs.declared.state.Side.TheVariants.{Lead, Right, Whole}
use Rattle.tptp_read.specs.declared.state.Mode.{Mode}
use Rattle.tptp_read.specs.declared.state.Mode.TheVariants.{WantUnit, AfterUnit, WantTerm, AfterName, AfterTerm, WantSquare, WantVariable, AfterVariable, WantColon}
use Rattle.tptp_read.specs.Meaning.{chained_by, joined_by, truth, equation, application, quantified_by}
use Rattle.tptp_read.specs.Grammar.{Sort, formulas, terms}
use Rattle.tptp_read.specs.Reader.{levels, operators, variables, Move, refused, goes, limited, Reader, checked, or_expected, ◌>>=◌, led}

-- how far a text has been read; the innermost of the calls and of the frames comes first
pub record Reading : Type 0 where
  pub mode : Mode
  pub side : Side
  pub calls : List Call
  pub part : Part
  pub frames : List Frame

-- at a place of a formula, and in a term
abbrev pub at : Mode → Part → List Frame → Reading
at m p k = record { mode = m; side = Lead; calls = []; part = p; frames = k }

abbrev pub in_term : Mode → Side → List Call → Part → List Frame → Reading
in_term m s cs p k = record { mode = m; side = s; calls = cs; part = p; frames = k }

abbrev pub start : Sort → Reading
start formulas = at WantUnit First []
start terms = in_term WantTerm Whole [] First []

-- how many levels are open
abbrev pub depth : List Call → List Frame → ℕ
depth [] k = length k
depth (c ∷ cs) k = suc (depth cs k)

-- a list of terms in front of another, turned round
abbrev pub turned_onto : Terms → Terms → Terms
turned_onto nil ys = ys
turned_onto (cons x xs) ys = turned_onto xs (cons x ys)

abbrev pub with_term : Call → Term → Call
with_term c x = record { name = c.name; terms = cons x c.terms }

-- the call whose last argument is x
abbrev pub called : Call → Term → Term
called c x = application c.name (turned_onto c.terms (cons x nil))

-- a formula with variables quantified, the innermost one first
abbrev pub closed : Quantifier → List Var → Formula → Formula
closed q [] f = f
closed q (v ∷ vs) f = closed q vs (quantified_by q v f)

-- what the negations and quantifiers that end with a unit f make of it, and the frames that are left
abbrev pub settled : List Frame → Formula → Formula
settled [] f = f
settled (Group p ∷ k) f = f
settled (Negated ∷ k) f = settled k (not f)
settled (Quantified q vs ∷ k) f = settled k (closed q vs f)

abbrev pub settled_frames : List Frame → List Frame
settled_frames [] = []
settled_frames (Group p ∷ k) = Group p ∷ k
settled_frames (Negated ∷ k) = settled_frames k
settled_frames (Quantified q vs ∷ k) = settled_frames k

-- the formula that ends with a unit
abbrev pub completed : Part → Formula → Formula
completed First f = f
completed (Chained c e n) f = chained_by c e f
completed (Joined b e) f = joined_by b e f

-- the unit that ends with a term, if it can
abbrev pub unit_of : Side → Term → Option Formula
unit_of Lead (free v) = None
unit_of Lead (bound i) = None
unit_of Lead (app s xs) = Some (atom (plain s) xs)
unit_of (Right sign y) x = Some (equation sign y x)
unit_of Whole x = None

-- where a unit is wanted
abbrev pub begin_unit : Part → List Frame → Token → Move Reading
begin_unit p k (Name x) = goes (at (AfterName x) p k)
begin_unit p k (Variable v) = goes (at (AfterTerm (free v)) p k)
begin_unit p k (Truth b) = goes (at (AfterUnit (truth b)) p k)
begin_unit p k Negation = limited levels (suc (length k)) (at WantUnit p (Negated ∷ k))
begin_unit p k Open = limited levels (suc (length k)) (at WantUnit First (Group p ∷ k))
begin_unit p k (Quantifies q) = limited levels (suc (length k)) (at (WantSquare q) p k)
begin_unit p k t = refused

-- behind a unit, with what it settles; f is the unit
abbrev pub behind_chain : ChainOperator → Formula → Part → List Frame → Move Reading
behind_chain c f First k = limited operators 1 (at WantUnit (Chained c f 1) k)
behind_chain And f (Chained And e n) k = limited operators (suc n) (at WantUnit (Chained And (chained_by And e f) (suc n)) k)
behind_chain Or f (Chained Or e n) k = limited operators (suc n) (at WantUnit (Chained Or (chained_by Or e f) (suc n)) k)
behind_chain c f p k = refused

abbrev pub behind_binary : BinaryOperator → Formula → Part → List Frame → Move Reading
behind_binary b f First k = goes (at WantUnit (Joined b f) k)
behind_binary b f p k = refused

abbrev pub behind_close : Formula → Part → List Frame → Move Reading
behind_close f p (Group q ∷ k) = goes (at (AfterUnit (completed p f)) q k)
behind_close f p k = refused

abbrev pub behind_settled : Formula → Part → List Frame → Token → Move Reading
behind_settled f p k (Chain c) = behind_chain c f p k
behind_settled f p k (Binary b) = behind_binary b f p k
behind_settled f p k Close = behind_close f p k
behind_settled f p k t = refused

abbrev pub behind_unit : Formula → Part → List Frame → Token → Move Reading
behind_unit f p k t = behind_settled (settled k f) p (settled_frames k) t

-- behind a term that ends a unit, if it can
abbrev pub behind_last : Option Formula → Part → List Frame → Token → Move Reading
behind_last None p k t = refused
behind_last (Some f) p k t = behind_unit f p k t

-- behind a term
abbrev pub behind_left : Bool → Term → Side → Part → List Frame → Move Reading
behind_left sign x Lead p k = goes (in_term WantTerm (Right sign x) [] p k)
behind_left sign x s p k = refused

abbrev pub behind_outer : Term → Side → Part → List Frame → Token → Move Reading
behind_outer x s p k (Equality sign) = behind_left sign x s p k
behind_outer x s p k t = behind_last (unit_of s x) p k t

abbrev pub behind_term : Term → Side → List Call → Part → List Frame → Token → Move Reading
behind_term x s [] p k t = behind_outer x s p k t
behind_term x s (c ∷ cs) p k Comma = goes (in_term WantTerm s (with_term c x ∷ cs) p k)
behind_term x s (c ∷ cs) p k Close = goes (in_term (AfterTerm (called c x)) s cs p k)
behind_term x s (c ∷ cs) p k t = refused

abbrev pub begin_term : Side → List Call → Part → List Frame → Token → Move Reading
begin_term s cs p k (Name x) = goes (in_term (AfterName x) s cs p k)
begin_term s cs p k (Variable v) = goes (in_term (AfterTerm (free v)) s cs p k)
begin_term s cs p k t = refused

abbrev pub behind_name : List ℕ → Side → List Call → Part → List Frame → Token → Move Reading
behind_name x s cs p k Open = limited levels (suc (depth cs k)) (in_term WantTerm s (record { name = x; terms = nil } ∷ cs) p k)
behind_name x s cs p k t = behind_term (application x nil) s cs p k t

-- a quantifier's list of variables
abbrev pub behind_quantifier : Quantifier → Part → List Frame → Token → Move Reading
behind_quantifier q p k OpenSquare = goes (at (WantVariable q []) p k)
behind_quantifier q p k t = refused

abbrev pub begin_variable : Quantifier → List Var → Part → List Frame → Token → Move Reading
begin_variable q vs p k (Variable v) = limited variables (suc (length vs)) (at (AfterVariable q (v ∷ vs)) p k)
begin_variable q vs p k t = refused

abbrev pub behind_variable : Quantifier → List Var → Part → List Frame → Token → Move Reading
behind_variable q vs p k Comma = goes (at (WantVariable q vs) p k)
behind_variable q vs p k CloseSquare = goes (at (WantColon q vs) p k)
behind_variable q vs p k t = refused

abbrev pub behind_list : Quantifier → List Var → Part → List Frame → Token → Move Reading
behind_list q vs p k Colon = goes (at WantUnit p (Quantified q vs ∷ k))
behind_list q vs p k t = refused

abbrev pub move_by : Mode → Side → List Call → Part → List Frame → Token → Move Reading
move_by WantUnit s cs p k t = begin_unit p k t
move_by (AfterUnit f) s cs p k t = behind_unit f p k t
move_by WantTerm s cs p k t = begin_term s cs p k t
move_by (AfterName x) s cs p k t = behind_name x s cs p k t
move_by (AfterTerm x) s cs p k t = behind_term x s cs p k t
move_by (WantSquare q) s cs p k t = behind_quantifier q p k t
move_by (WantVariable q vs) s cs p k t = begin_variable q vs p k t
move_by (AfterVariable q vs) s cs p k t = behind_variable q vs p k t
move_by (WantColon q vs) s cs p k t = behind_list q vs p k t

abbrev pub move : Reading → Token → Move Reading
move r t = move_by r.mode r.side r.calls r.part r.frames t

abbrev pub step : Limits → Reading → Token → Result Reading TextKind
step lim r t = checked lim (move r t)

-- what a text means that ends here, if it may
abbrev pub ending_settled : Formula → Part → List Frame → Option Outcome
ending_settled f p [] = Some (FormulaRead (completed p f))
ending_settled f p (k ∷ ks) = None

abbrev pub ending_last : Option Formula → Part → List Frame → Option Outcome
ending_last None p k = None
ending_last (Some f) p k = ending_settled (settled k f) p (settled_frames k)

abbrev pub ending_outer : Term → Side → Part → List Frame → Option Outcome
ending_outer x Whole p k = Some (TermRead x)
ending_outer x s p k = ending_last (unit_of s x) p k

abbrev pub ending_term : Term → Side → List Call → Part → List Frame → Option Outcome
ending_term x s [] p k = ending_outer x s p k
ending_term x s (c ∷ cs) p k = None

abbrev pub ending_by : Mode → Side → List Call → Part → List Frame → Option Outcome
ending_by (AfterUnit f) s cs p k = ending_settled (settled k f) p (settled_frames k)
ending_by (AfterName x) s cs p k = ending_term (application x nil) s cs p k
ending_by (AfterTerm x) s cs p k = ending_term x s cs p k
ending_by m s cs p k = None

abbrev pub meant : Reading → Option Outcome
meant r = ending_by r.mode r.side r.calls r.part r.frames

abbrev pub ending : Reading → Result Outcome TextKind
ending r = or_expected (meant r)

-- whether no parenthesis is open
abbrev pub no_group : List Frame → Bool
no_group [] = true
no_group (Group p ∷ k) = false
no_group (Negated ∷ k) = no_group k
no_group (Quantified q vs ∷ k) = no_group k

-- whether a text may end with a term, which is an application or not
abbrev pub term_ends : Bool → Side → List Call → List Frame → Bool
term_ends application s (c ∷ cs) k = false
term_ends application Lead [] k = application && no_group k
term_ends application (Right sign y) [] k = no_group k
term_ends application Whole [] k = true

-- how far a list of tokens leads, and what it means from here on
abbrev pub after : Limits → Reading → List Token → Result Reading TextKind
after lim r ts = led move lim r ts

abbrev pub read_tokens : Limits → Reading → List Token → Result Outcome TextKind
read_tokens lim r ts = after lim r ts >>= ending

-- the reader of formulas or of terms
abbrev pub reader : Sort → Reader Reading Outcome
reader sort = record { start = start sort; move = move; ending = meant }
