-- Tokens that a clause has so far are completed to a clause by what completes them to a formula.
use Rattle.std.proofs.Common.{◌≡◌, ℕ, suc, Bool, true, false, List, [], ◌∷◌, length, Option, Some, None, refl}
use Rattle.fol.specs.Syntax.{Term, free, bound, app, nil, Formula, bot}
use Rattle.tptp_tokens.specs.declared.tokens.ChainOperator.TheVariants.{Or}
use Rattle.tptp_tokens.specs.declared.tokens.Token.{Token}
use Rattle.tptp_tokens.specs.declared.tokens.Token.TheVariants.{Name, Variable, Truth, Equality, Negation as Tilde, Chain, Open, Close, Comma}
use Rattle.tptp_read.specs.declared.state.Part.{Part}
use Rattle.tptp_read.specs.declared.state.Frame.{Frame}
use Rattle.tptp_read.specs.declared.state.Frame.TheVariants.{Group, Negated, Quantified}
use Rattle.tptp_read.specs.declared.state.Call.{Call}
use Rattle.tptp_read.specs.declared.state.Side.{Side}
use Rattle.tptp_read.specs.declared.state.Side.TheVariants.{Lead, Right, Whole}
use Rattle.tptp_read.specs.declared.state.Mode.{Mode}
use Rattle.tptp_read.specs.declared.state.Mode.TheVariants.{WantUnit, AfterUnit, WantTerm, AfterName, AfterTerm}
use Rattle.tptp_read.specs.Meaning.{application}
use Rattle.tptp_read.specs.Reader.{Move, refused}
use Rattle.tptp_read.specs.Machine.{Reading, called, unit_of, begin_unit, behind_last, behind_outer, behind_term, move_by}
use Rattle.tptp_read.proofs.Fronts.{some_variable, closings, finish_term, finish, Into, into_map, IsBehind, chained, grouped, unit_leads, last_leads, IsBehindTerm, compared, ended, outer_leads}
use Rattle.tptp_problem.specs.declared.clause_places.AtomPlace.{AtomPlace}
use Rattle.tptp_problem.specs.declared.clause_places.AtomPlace.TheVariants.{Positive, Negative, Grouped}
use Rattle.tptp_problem.specs.declared.clause_places.ClausePlace.{ClausePlace}
use Rattle.tptp_problem.specs.declared.clause_places.ClausePlace.TheVariants.{Clause, Literal, Negation, NegatedGroup, Atom, BehindLiteral, BehindGroup}
use Rattle.tptp_problem.specs.ClausePlaces.{begin_atom, behind_negation, begin_literal, begin_clause, behind_group, behind_literal, outside_arguments, inside_arguments, place_behind}
use Rattle.tptp_problem.proofs.ClauseLaws.{accepts}

-- the formula is read to where the clause is
pub data Agrees : ClausePlace → Mode → List Call → Type 0 where
  clause : (cs : List Call) → Agrees Clause WantUnit cs
  literal : (cs : List Call) → Agrees Literal WantUnit cs
  negation : (cs : List Call) → Agrees Negation WantUnit cs
  negated_group : (cs : List Call) → Agrees NegatedGroup WantUnit cs
  term_wanted : (a : AtomPlace) (cs : List Call) → Agrees (Atom a (length cs)) WantTerm cs
  name_read : (a : AtomPlace) (x : List ℕ) (cs : List Call) → Agrees (Atom a (length cs)) (AfterName x) cs
  term_read : (a : AtomPlace) (x : Term) (cs : List Call) → Agrees (Atom a (length cs)) (AfterTerm x) cs
  literal_read : (f : Formula) (cs : List Call) → Agrees BehindLiteral (AfterUnit f) cs
  group_read : (f : Formula) (cs : List Call) → Agrees BehindGroup (AfterUnit f) cs

abbrev pub AgreesAt : ClausePlace → Reading → Type 0
AgreesAt q r = Agrees q r.mode r.calls

-- where a move leads, the formula is read to the place, if there is one
abbrev pub Then : Move Reading → Option ClausePlace → Type 0
Then m None = Unit {0}
Then m (Some q) = Into m (AgreesAt q)

then_refused : (o : Option ClausePlace) → Then refused o
then_refused None = tt
then_refused (Some q) = tt

-- where a unit is wanted
atom_then : (a : AtomPlace) (p : Part) (k : List Frame) (t : Token) → Then (begin_unit p k t) (begin_atom a t)
atom_then a p k (Name x) = name_read a x []
atom_then a p k (Variable v) = term_read a (free v) []
atom_then a p k t = tt

literal_then : (p : Part) (k : List Frame) (t : Token) → Then (begin_unit p k t) (begin_literal t)
literal_then p k Tilde = negation []
literal_then p k (Truth false) = literal_read bot []
literal_then p k (Truth true) = tt
literal_then p k t = atom_then Positive p k t

negation_then : (p : Part) (k : List Frame) (t : Token) → Then (begin_unit p k t) (behind_negation t)
negation_then p k Open = negated_group []
negation_then p k t = atom_then Negative p k t

clause_then : (p : Part) (k : List Frame) (t : Token) → Then (begin_unit p k t) (begin_clause t)
clause_then p k Open = clause []
clause_then p k t = literal_then p k t

-- behind a unit
behind_or : (r : Reading) → IsBehind (Chain Or) r → AgreesAt Literal r
behind_or r (chained c p k) = literal []

behind_clause : (r : Reading) → IsBehind Close r → AgreesAt BehindGroup r
behind_clause r (grouped f p k) = group_read f []

behind_atom : (r : Reading) → IsBehind Close r → AgreesAt BehindLiteral r
behind_atom r (grouped f p k) = literal_read f []

group_end_then : (f : Formula) (s : Side) (cs : List Call) (p : Part) (k : List Frame) (t : Token) → Then (move_by (AfterUnit f) s cs p k t) (behind_group t)
group_end_then f s cs p k Close = into_map (move_by (AfterUnit f) s cs p k Close) (IsBehind Close) (AgreesAt BehindGroup) behind_clause (unit_leads f p k Close)
group_end_then f s cs p k t = tt

literal_end_then : (f : Formula) (s : Side) (cs : List Call) (p : Part) (k : List Frame) (t : Token) → Then (move_by (AfterUnit f) s cs p k t) (behind_literal t)
literal_end_then f s cs p k (Chain Or) = into_map (move_by (AfterUnit f) s cs p k (Chain Or)) (IsBehind (Chain Or)) (AgreesAt Literal) behind_or (unit_leads f p k (Chain Or))
literal_end_then f s cs p k Close = group_end_then f s cs p k Close
literal_end_then f s cs p k t = tt

-- behind a term that is in no other one
module _ (a : AtomPlace) (x : Term) (s : Side) (p : Part) (k : List Frame) where
  abbrev unit : Option Formula
  unit = unit_of s x

  last_none : (o : Option Formula) (t : Token) (P : Reading → Type 0) → ((r : Reading) → IsBehind t r → P r) → Into (behind_last o p k t) P
  last_none o t P f = into_map (behind_last o p k t) (IsBehind t) P f (last_leads o p k t)

  compared_on : (b : Bool) (r : Reading) → IsBehindTerm (Equality b) r → AgreesAt (Atom a 0) r
  compared_on b r (compared sign s' p' k') = term_wanted a []
  compared_on b r (ended t r' h) = elim h [ ]

  equality_then : (b : Bool) → Into (behind_outer x s p k (Equality b)) (AgreesAt (Atom a 0))
  equality_then b = into_map (behind_outer x s p k (Equality b)) (IsBehindTerm (Equality b)) (AgreesAt (Atom a 0)) (compared_on b) (outer_leads x s p k (Equality b))

outer_then : (a : AtomPlace) (x : Term) (s : Side) (p : Part) (k : List Frame) (t : Token) → Then (behind_outer x s p k t) (outside_arguments a t)
outer_then a x s p k Open = last_none a x s p k (unit_of s x) Open (AgreesAt (Atom a 1)) (λ r h. elim h [ ])
outer_then a x s p k (Name y) = last_none a x s p k (unit_of s x) (Name y) (AgreesAt (Atom a 0)) (λ r h. elim h [ ])
outer_then a x s p k (Variable v) = last_none a x s p k (unit_of s x) (Variable v) (AgreesAt (Atom a 0)) (λ r h. elim h [ ])
outer_then a x s p k (Equality true) = equality_then a x s p k true
outer_then Positive x s p k (Equality false) = equality_then Positive x s p k false
outer_then Positive x s p k (Chain Or) = last_none Positive x s p k (unit_of s x) (Chain Or) (AgreesAt Literal) behind_or
outer_then Negative x s p k (Chain Or) = last_none Negative x s p k (unit_of s x) (Chain Or) (AgreesAt Literal) behind_or
outer_then Positive x s p k Close = last_none Positive x s p k (unit_of s x) Close (AgreesAt BehindGroup) behind_clause
outer_then Negative x s p k Close = last_none Negative x s p k (unit_of s x) Close (AgreesAt BehindGroup) behind_clause
outer_then Grouped x s p k Close = last_none Grouped x s p k (unit_of s x) Close (AgreesAt BehindLiteral) behind_atom
outer_then Positive x s p k t = tt
outer_then Negative x s p k t = tt
outer_then Grouped x s p k t = tt

-- in a term
argument_then : (a : AtomPlace) (x : Term) (s : Side) (c : Call) (cs : List Call) (p : Part) (k : List Frame) (t : Token) → Then (behind_term x s (c ∷ cs) p k t) (inside_arguments a (suc (length cs)) t)
argument_then a x s c cs p k Comma = term_wanted a (_ ∷ cs)
argument_then a x s c cs p k Close = term_read a (called c x) cs
argument_then a x s c cs p k t = then_refused (inside_arguments a (suc (length cs)) t)

term_then : (a : AtomPlace) (x : Term) (s : Side) (cs : List Call) (p : Part) (k : List Frame) (t : Token) → Then (behind_term x s cs p k t) (place_behind (Atom a (length cs)) t)
term_then a x s [] p k t = outer_then a x s p k t
term_then a x s (c ∷ cs) p k t = argument_then a x s c cs p k t

wanted_then : (a : AtomPlace) (s : Side) (cs : List Call) (p : Part) (k : List Frame) (t : Token) → Then (move_by WantTerm s cs p k t) (place_behind (Atom a (length cs)) t)
wanted_then a s [] p k (Name x) = name_read a x []
wanted_then a s [] p k (Variable v) = term_read a (free v) []
wanted_then a s (c ∷ cs) p k (Name x) = name_read a x (c ∷ cs)
wanted_then a s (c ∷ cs) p k (Variable v) = term_read a (free v) (c ∷ cs)
wanted_then a s cs p k t = then_refused (place_behind (Atom a (length cs)) t)

name_then : (a : AtomPlace) (x : List ℕ) (s : Side) (cs : List Call) (p : Part) (k : List Frame) (t : Token) → Then (move_by (AfterName x) s cs p k t) (place_behind (Atom a (length cs)) t)
name_then a x s [] p k Open = term_wanted a (_ ∷ [])
name_then a x s (c ∷ cs) p k Open = term_wanted a (_ ∷ c ∷ cs)
name_then a x s cs p k t = term_then a (application x nil) s cs p k t

-- each token
pub move_then : (q : ClausePlace) (m : Mode) (s : Side) (cs : List Call) (p : Part) (k : List Frame) (t : Token) → Agrees q m cs → Then (move_by m s cs p k t) (place_behind q t)
move_then q m s cs p k t (clause cs') = clause_then p k t
move_then q m s cs p k t (literal cs') = literal_then p k t
move_then q m s cs p k t (negation cs') = negation_then p k t
move_then q m s cs p k t (negated_group cs') = atom_then Grouped p k t
move_then q m s cs p k t (term_wanted a cs') = wanted_then a s cs' p k t
move_then q m s cs p k t (name_read a x cs') = name_then a x s cs' p k t
move_then q m s cs p k t (term_read a x cs') = term_then a x s cs' p k t
move_then q m s cs p k t (literal_read f cs') = literal_end_then f s cs' p k t
move_then q m s cs p k t (group_read f cs') = group_end_then f s cs' p k t

-- a clause has the tokens that complete the formula
group_closings : (k : List Frame) → accepts BehindGroup (closings k) ≡ true
group_closings [] = refl
group_closings (Group p ∷ k) = group_closings k
group_closings (Negated ∷ k) = group_closings k
group_closings (Quantified q vs ∷ k) = group_closings k

literal_closings : (k : List Frame) → accepts BehindLiteral (closings k) ≡ true
literal_closings [] = refl
literal_closings (Group p ∷ k) = group_closings k
literal_closings (Negated ∷ k) = literal_closings k
literal_closings (Quantified q vs ∷ k) = literal_closings k

atom_closings : (a : AtomPlace) (k : List Frame) → accepts (Atom a 0) (closings k) ≡ true
atom_closings a [] = refl
atom_closings Positive (Group p ∷ k) = group_closings k
atom_closings Negative (Group p ∷ k) = group_closings k
atom_closings Grouped (Group p ∷ k) = literal_closings k
atom_closings a (Negated ∷ k) = atom_closings a k
atom_closings a (Quantified q vs ∷ k) = atom_closings a k

term_closings : (a : AtomPlace) (x : Term) (s : Side) (cs : List Call) (k : List Frame) → accepts (Atom a (length cs)) (finish_term x s cs k) ≡ true
term_closings a x s (c ∷ cs) k = term_closings a (called c x) s cs k
term_closings a x Whole [] k = refl
term_closings a x (Right sign y) [] k = atom_closings a k
term_closings a (app f xs) Lead [] k = atom_closings a k
term_closings a (free v) Lead [] k = atom_closings a k
term_closings a (bound i) Lead [] k = atom_closings a k

wanted_closings : (a : AtomPlace) (s : Side) (cs : List Call) (k : List Frame) → accepts (Atom a (length cs)) (Variable some_variable ∷ finish_term (free some_variable) s cs k) ≡ true
wanted_closings a s [] k = term_closings a (free some_variable) s [] k
wanted_closings a s (c ∷ cs) k = term_closings a (free some_variable) s (c ∷ cs) k

pub finish_accepted : (q : ClausePlace) (m : Mode) (s : Side) (cs : List Call) (k : List Frame) → Agrees q m cs → accepts q (finish m s cs k) ≡ true
finish_accepted q m s cs k (clause cs') = atom_closings Positive k
finish_accepted q m s cs k (literal cs') = atom_closings Positive k
finish_accepted q m s cs k (negation cs') = atom_closings Negative k
finish_accepted q m s cs k (negated_group cs') = atom_closings Grouped k
finish_accepted q m s cs k (term_wanted a cs') = wanted_closings a s cs' k
finish_accepted q m s cs k (name_read a x cs') = term_closings a (application x nil) s cs' k
finish_accepted q m s cs k (term_read a x cs') = term_closings a x s cs' k
finish_accepted q m s cs k (literal_read f cs') = literal_closings k
finish_accepted q m s cs k (group_read f cs') = group_closings k
