-- What the machine reads is in the grammar.
use Rattle.std.proofs.Common.{◌≡◌, ℕ, suc, ◌-◌, ◌≤◌, List, [], ◌∷◌, length, Some, Ok, refl, sym, subst, arith}
use Rattle.fol.specs.declared.symbols.Var.{Var}
use Rattle.fol.specs.Syntax.{Term, free, bound, app, Terms, nil, cons, plain, Formula, atom, not}
use Rattle.tptp_tokens.specs.declared.tokens.Quantifier.{Quantifier}
use Rattle.tptp_tokens.specs.declared.tokens.ChainOperator.{ChainOperator}
use Rattle.tptp_tokens.specs.declared.tokens.ChainOperator.TheVariants.{And, Or}
use Rattle.tptp_tokens.specs.declared.tokens.BinaryOperator.{BinaryOperator}
use Rattle.tptp_tokens.specs.declared.tokens.Token.{Token}
use Rattle.tptp_tokens.specs.declared.tokens.Token.TheVariants.{Name, Variable, Truth, Equality, Negation, Quantifier as Quantifies, Chain, Binary, Open, Close, OpenSquare, CloseSquare, Comma, Colon}
use Rattle.tptp_read.specs.declared.state.Limits.{Limits}
use Rattle.tptp_read.specs.declared.state.Outcome.{Outcome}
use Rattle.tptp_read.specs.declared.state.Outcome.TheVariants.{Formula as FormulaRead, Term as TermRead}
use Rattle.tptp_read.specs.declared.state.Part.{Part}
use Rattle.tptp_read.specs.declared.state.Part.TheVariants.{First, Chained, Joined}
use Rattle.tptp_read.specs.declared.state.Frame.{Frame}
use Rattle.tptp_read.specs.declared.state.Frame.TheVariants.{Group, Negated, Quantified}
use Rattle.tptp_read.specs.declared.state.Call.{Call}
use Rattle.tptp_read.specs.declared.state.Side.{Side}
use Rattle.tptp_read.specs.declared.state.Side.TheVariants.{Lead, Right, Whole}
use Rattle.tptp_read.specs.declared.state.Mode.{Mode}
use Rattle.tptp_read.specs.declared.state.Mode.TheVariants.{WantUnit, AfterUnit, WantTerm, AfterName, AfterTerm, WantSquare, WantVariable, AfterVariable, WantColon}
use Rattle.tptp_read.specs.Meaning.{chained_by, truth, equation, application, quantified}
use Rattle.tptp_read.specs.Grammar.{IsTerm, variable, constant, applied, IsArguments, last_argument, argument, IsVariables, next_variable, IsBehindVariable, all_variables, more_variables, IsUnit, truth_value, predicate, equality, negation, group, quantifier, IsQuantified, body, IsFormula, alone, binary, chain, IsMembers, last_member, member, Sort, formulas, terms, Reads}
use Rattle.tptp_read.specs.Reader.{Move, refused, goes, limited, bound_by, checked}
use Rattle.tptp_read.specs.Machine.{Reading, start, depth, turned_onto, closed, settled, settled_frames, completed, begin_unit, behind_unit, behind_outer, behind_term, begin_term, behind_name, behind_quantifier, begin_variable, behind_variable, behind_list, move_by, move, step, ending_settled, ending_term, ending_by, meant, after}
use Rattle.tptp_read.proofs.ReaderLaw.{then_ok, checked_ok}

-- how many levels are left where n are open
abbrev pub left : Limits → ℕ → ℕ
left lim n = lim.levels - n

-- what holds where a move leads, within its limit
abbrev pub Onward : Limits → Move Reading → (Reading → Type 0) → Type 0
Onward lim refused P = Unit {0}
Onward lim (goes r) P = P r
Onward lim (limited x n r) P = n ≤ bound_by lim x → P r

onward_map : (lim : Limits) (m : Move Reading) (P Q : Reading → Type 0) → ((r : Reading) → P r → Q r) → Onward lim m P → Onward lim m Q
onward_map lim refused P Q f o = tt
onward_map lim (goes r) P Q f o = f r o
onward_map lim (limited x n r) P Q f o = λ fits. f r (o fits)

-- a step that is made leads on within its limit
onward_step : (lim : Limits) (m : Move Reading) (P : Reading → Type 0) (s : Reading) → Onward lim m P → checked lim m ≡ Ok s → P s
onward_step lim refused P s o e = cc
onward_step lim (goes r) P s o e = let same : r ≡ s = cc in subst P same o
onward_step lim (limited x n r) P s o e = let (leads, fits) = checked_ok lim (limited x n r) s e in let same : r ≡ s = cc in subst P same (o fits)

module _ (lim : Limits) where
  -- Behind what stands before it in its formula, a unit f with us behind it completes the formula g with vs behind it.
  abbrev pub Tails : ℕ → Part → Formula → List Token → Formula → List Token → Type 0
  Tails l First f us g vs = (ts : List Token) → IsUnit lim l ts f us → IsFormula lim l ts g vs
  Tails l (Chained c e n) f us g vs = (ts : List Token) → n ≤ lim.operators → IsUnit lim l ts f us → IsMembers lim c l n e ts g vs
  Tails l (Joined b e) f us g vs = (ss ts : List Token) → IsUnit lim l ss e (Binary b ∷ ts) → IsUnit lim l ts f us → IsFormula lim l ss g vs

  -- A unit f has been read, us follow it, and the whole text means w.
  abbrev pub Goes : Part → List Frame → Formula → List Token → Outcome → Type 0
  Goes p [] f us w = (g : Formula) × ((w ≡ FormulaRead g) × Tails (left lim 0) p f us g [])
  Goes p (Group q ∷ k) f us w = (g : Formula) × ((vs : List Token) × (Tails (left lim (suc (length k))) p f us g (Close ∷ vs) × Goes q k g vs w))
  Goes p (Negated ∷ k) f us w = Goes p k (not f) us w
  Goes p (Quantified q vs ∷ k) f us w = Goes p k (closed q vs f) us w

  -- the same for a term that stands in no other, and for any term
  abbrev pub GoesOuter : Side → Part → List Frame → Term → List Token → Outcome → Type 0
  GoesOuter Lead p k x us w = (f : Formula) × ((vs : List Token) × (((ts : List Token) → IsTerm lim (left lim (length k)) ts x us → IsUnit lim (left lim (length k)) ts f vs) × Goes p k f vs w))
  GoesOuter (Right sign y) p k x us w = Goes p k (equation sign y x) us w
  GoesOuter Whole p k x us w = (w ≡ TermRead x) × (us ≡ [])

  abbrev pub GoesTerm : Side → List Call → Part → List Frame → Term → List Token → Outcome → Type 0
  GoesTerm s [] p k x us w = GoesOuter s p k x us w
  GoesTerm s (c ∷ cs) p k x us w = (xs : Terms) × ((vs : List Token) × (((ts : List Token) → IsTerm lim (left lim (suc (depth cs k))) ts x us → IsArguments lim (left lim (suc (depth cs k))) ts xs vs) × GoesTerm s cs p k (application c.name (turned_onto c.terms xs)) vs w))

  -- The text goes on with ts from here, and means w as a whole. Where a token has just been read, it is put back.
  abbrev pub Means : Mode → Side → List Call → Part → List Frame → List Token → Outcome → Type 0
  Means WantUnit s cs p k ts w = (f : Formula) × ((us : List Token) × (IsUnit lim (left lim (length k)) ts f us × Goes p k f us w))
  Means (AfterUnit f) s cs p k ts w = Goes p k f ts w
  Means WantTerm s cs p k ts w = (x : Term) × ((us : List Token) × (IsTerm lim (left lim (depth cs k)) ts x us × GoesTerm s cs p k x us w))
  Means (AfterName n) s cs p k ts w = (x : Term) × ((us : List Token) × (IsTerm lim (left lim (depth cs k)) (Name n ∷ ts) x us × GoesTerm s cs p k x us w))
  Means (AfterTerm x) s cs p k ts w = GoesTerm s cs p k x ts w
  Means (WantSquare q) s cs p k ts w = (g : Formula) × ((us : List Token) × (IsQuantified lim q (left lim (suc (length k))) ts g us × Goes p k g us w))
  Means (WantVariable q vs) s cs p k ts w = (ws : List Var) × ((us : List Token) × ((f : Formula) × ((zs : List Token) × (IsVariables lim (length vs) ts ws us × (IsUnit lim (left lim (suc (length k))) us f zs × Goes p k (closed q vs (quantified q ws f)) zs w)))))
  Means (AfterVariable q vs) s cs p k ts w = (ws : List Var) × ((us : List Token) × ((f : Formula) × ((zs : List Token) × (IsBehindVariable lim (length vs) ts ws us × (IsUnit lim (left lim (suc (length k))) us f zs × Goes p k (closed q vs (quantified q ws f)) zs w)))))
  Means (WantColon q vs) s cs p k ts w = (us : List Token) × ((f : Formula) × ((zs : List Token) × (((n : ℕ) → IsBehindVariable lim n (CloseSquare ∷ ts) [] us) × (IsUnit lim (left lim (suc (length k))) us f zs × Goes p k (closed q vs f) zs w))))

  abbrev pub MeansAt : Reading → List Token → Outcome → Type 0
  MeansAt r ts w = Means r.mode r.side r.calls r.part r.frames ts w

  -- one level more
  level : (n : ℕ) → suc n ≤ lim.levels → suc (left lim (suc n)) ≡ left lim n
  level n fits = omega arith

  at_unit_level : (n : ℕ) (ts us : List Token) (f : Formula) → suc n ≤ lim.levels → IsUnit lim (suc (left lim (suc n))) ts f us → IsUnit lim (left lim n) ts f us
  at_unit_level n ts us f fits u = subst (λ (l : ℕ). IsUnit lim l ts f us) (level n fits) u

  at_term_level : (n : ℕ) (ts us : List Token) (x : Term) → suc n ≤ lim.levels → IsTerm lim (suc (left lim (suc n))) ts x us → IsTerm lim (left lim n) ts x us
  at_term_level n ts us x fits u = subst (λ (l : ℕ). IsTerm lim l ts x us) (level n fits) u

  -- what a unit does to its formula
  tails_chain : (l : ℕ) (c : ChainOperator) (f g h : Formula) (ts us vs : List Token) → 1 ≤ lim.operators → IsUnit lim l ts g us → Tails l (Chained c f 1) g us h vs → Tails l First f (Chain c ∷ ts) h vs
  tails_chain l c f g h ts us vs fits u tails = λ ss v. chain l ss ts vs c f h v (tails ts fits u)

  tails_member : (l n : ℕ) (c : ChainOperator) (e f g h : Formula) (ts us vs : List Token) → suc n ≤ lim.operators → IsUnit lim l ts g us → Tails l (Chained c (chained_by c e f) (suc n)) g us h vs → Tails l (Chained c e n) f (Chain c ∷ ts) h vs
  tails_member l n c e f g h ts us vs fits u tails = λ ss le v. member c l n e f h ss ts vs le v (tails ts fits u)

  tails_joined : (l : ℕ) (b : BinaryOperator) (f g h : Formula) (ts us vs : List Token) → IsUnit lim l ts g us → Tails l (Joined b f) g us h vs → Tails l First f (Binary b ∷ ts) h vs
  tails_joined l b f g h ts us vs u tails = λ ss v. tails ss ts v u

  tails_end : (l : ℕ) (p : Part) (f : Formula) (us : List Token) → Tails l p f us (completed p f) us
  tails_end l First f us = λ ts u. alone l ts us f u
  tails_end l (Chained c e n) f us = λ ts le u. last_member c l n e f ts us le u
  tails_end l (Joined b e) f us = λ ss ts u v. binary l ss ts us b e f u v

  -- Each token, backwards.
  back_unit : (f : Formula) (p : Part) (k : List Frame) (t : Token) (ts : List Token) (w : Outcome) → Onward lim (behind_unit f p k t) (λ r. MeansAt r ts w → Goes p k f (t ∷ ts) w)
  back_unit f First [] (Chain c) ts w = λ fits (g, (us, (u, (h, (is, tails))))). (h, (is, tails_chain (left lim 0) c f g h ts us [] fits u tails))
  back_unit f First [] (Binary b) ts w = λ (g, (us, (u, (h, (is, tails))))). (h, (is, tails_joined (left lim 0) b f g h ts us [] u tails))
  back_unit f (Chained And e n) [] (Chain And) ts w = λ fits (g, (us, (u, (h, (is, tails))))). (h, (is, tails_member (left lim 0) n And e f g h ts us [] fits u tails))
  back_unit f (Chained Or e n) [] (Chain Or) ts w = λ fits (g, (us, (u, (h, (is, tails))))). (h, (is, tails_member (left lim 0) n Or e f g h ts us [] fits u tails))
  back_unit f First (Group q ∷ k) (Chain c) ts w = λ fits (g, (us, (u, (h, (vs, (tails, rest)))))). (h, (vs, (tails_chain (left lim (suc (length k))) c f g h ts us (Close ∷ vs) fits u tails, rest)))
  back_unit f First (Group q ∷ k) (Binary b) ts w = λ (g, (us, (u, (h, (vs, (tails, rest)))))). (h, (vs, (tails_joined (left lim (suc (length k))) b f g h ts us (Close ∷ vs) u tails, rest)))
  back_unit f (Chained And e n) (Group q ∷ k) (Chain And) ts w = λ fits (g, (us, (u, (h, (vs, (tails, rest)))))). (h, (vs, (tails_member (left lim (suc (length k))) n And e f g h ts us (Close ∷ vs) fits u tails, rest)))
  back_unit f (Chained Or e n) (Group q ∷ k) (Chain Or) ts w = λ fits (g, (us, (u, (h, (vs, (tails, rest)))))). (h, (vs, (tails_member (left lim (suc (length k))) n Or e f g h ts us (Close ∷ vs) fits u tails, rest)))
  back_unit f p (Group q ∷ k) Close ts w = λ rest. (completed p f, (ts, (tails_end (left lim (suc (length k))) p f (Close ∷ ts), rest)))
  back_unit f p (Negated ∷ k) t ts w = back_unit (not f) p k t ts w
  back_unit f p (Quantified q vs ∷ k) t ts w = back_unit (closed q vs f) p k t ts w
  back_unit f p [] Close ts w = tt
  back_unit f p [] t ts w = tt
  back_unit f p (Group q ∷ k) t ts w = tt

  back_outer : (x : Term) (s : Side) (p : Part) (k : List Frame) (t : Token) (ts : List Token) (w : Outcome) → Onward lim (behind_outer x s p k t) (λ r. MeansAt r ts w → GoesOuter s p k x (t ∷ ts) w)
  back_outer x Lead p k (Equality sign) ts w = λ (y, (us, (ty, rest))). (equation sign x y, (us, (λ ss tx. equality (left lim (length k)) ss ts us sign x y tx ty, rest)))
  back_outer (app s xs) Lead p k t ts w =
      onward_map lim (behind_unit (atom (plain s) xs) p k t) (λ r. MeansAt r ts w → Goes p k (atom (plain s) xs) (t ∷ ts) w) (λ r. MeansAt r ts w → GoesOuter Lead p k (app s xs) (t ∷ ts) w)
      (λ r b m. (atom (plain s) xs, (t ∷ ts, (λ ss tx. predicate (left lim (length k)) ss (t ∷ ts) s xs tx, b m)))) (back_unit (atom (plain s) xs) p k t ts w)
  back_outer (free v) Lead p k t ts w = tt
  back_outer (bound i) Lead p k t ts w = tt
  back_outer x (Right sign y) p k (Equality sign') ts w = tt
  back_outer x (Right sign y) p k t ts w = back_unit (equation sign y x) p k t ts w
  back_outer x Whole p k (Equality sign) ts w = tt
  back_outer x Whole p k t ts w = tt

  back_term : (x : Term) (s : Side) (cs : List Call) (p : Part) (k : List Frame) (t : Token) (ts : List Token) (w : Outcome) → Onward lim (behind_term x s cs p k t) (λ r. MeansAt r ts w → GoesTerm s cs p k x (t ∷ ts) w)
  back_term x s [] p k t ts w = back_outer x s p k t ts w
  back_term x s (c ∷ cs) p k Comma ts w = λ (y, (us, (ty, (ys, (vs, (args, rest)))))). (cons x ys, (vs, (λ ss tx. argument (left lim (suc (depth cs k))) ss ts vs x ys tx (args ts ty), rest)))
  back_term x s (c ∷ cs) p k Close ts w = λ rest. (cons x nil, (ts, (λ ss tx. last_argument (left lim (suc (depth cs k))) ss ts x tx, rest)))
  back_term x s (c ∷ cs) p k t ts w = tt

  back_begin_unit : (s : Side) (cs : List Call) (p : Part) (k : List Frame) (t : Token) (ts : List Token) (w : Outcome) → Onward lim (begin_unit p k t) (λ r. MeansAt r ts w → Means WantUnit s cs p k (t ∷ ts) w)
  back_begin_unit s cs p k (Name n) ts w = λ (x, (us, (tx, (f, (vs, (up, rest)))))). (f, (vs, (up (Name n ∷ ts) tx, rest)))
  back_begin_unit s cs p k (Variable v) ts w = λ (f, (vs, (up, rest))). (f, (vs, (up (Variable v ∷ ts) (variable (left lim (length k)) ts v), rest)))
  back_begin_unit s cs p k (Truth b) ts w = λ rest. (truth b, (ts, (truth_value (left lim (length k)) ts b, rest)))
  back_begin_unit s cs p k Negation ts w = λ fits (f, (us, (u, rest))). (not f, (us, (at_unit_level (length k) (Negation ∷ ts) us (not f) fits (negation (left lim (suc (length k))) ts us f u), rest)))
  back_begin_unit s cs p k Open ts w = λ fits (f, (us, (u, (g, (vs, (tails, rest)))))). (g, (vs, (at_unit_level (length k) (Open ∷ ts) vs g fits (group (left lim (suc (length k))) ts vs g (tails ts u)), rest)))
  back_begin_unit s cs p k (Quantifies q) ts w = λ fits (g, (us, (u, rest))). (g, (us, (at_unit_level (length k) (Quantifies q ∷ ts) us g fits (quantifier (left lim (suc (length k))) ts us q g u), rest)))
  back_begin_unit s cs p k t ts w = tt

  back_begin_term : (s : Side) (cs : List Call) (p : Part) (k : List Frame) (t : Token) (ts : List Token) (w : Outcome) → Onward lim (begin_term s cs p k t) (λ r. MeansAt r ts w → Means WantTerm s cs p k (t ∷ ts) w)
  back_begin_term s cs p k (Name n) ts w = λ m. m
  back_begin_term s cs p k (Variable v) ts w = λ rest. (free v, (ts, (variable (left lim (depth cs k)) ts v, rest)))
  back_begin_term s cs p k t ts w = tt

  back_name : (n : List ℕ) (s : Side) (cs : List Call) (p : Part) (k : List Frame) (t : Token) (ts : List Token) (w : Outcome) → Onward lim (behind_name n s cs p k t) (λ r. MeansAt r ts w → Means (AfterName n) s cs p k (t ∷ ts) w)
  back_name n s cs p k Open ts w = λ fits (y, (us, (ty, (ys, (vs, (args, rest)))))). (application n ys, (vs, (at_term_level (depth cs k) (Name n ∷ Open ∷ ts) vs (application n ys) fits (applied (left lim (suc (depth cs k))) ts vs n ys (args ts ty)), rest)))
  back_name n s cs p k t ts w =
      onward_map lim (behind_term (application n nil) s cs p k t) (λ r. MeansAt r ts w → GoesTerm s cs p k (application n nil) (t ∷ ts) w) (λ r. MeansAt r ts w → Means (AfterName n) s cs p k (t ∷ ts) w)
      (λ r b m. (application n nil, (t ∷ ts, (constant (left lim (depth cs k)) (t ∷ ts) n, b m)))) (back_term (application n nil) s cs p k t ts w)

  back_quantifier : (q : Quantifier) (s : Side) (cs : List Call) (p : Part) (k : List Frame) (t : Token) (ts : List Token) (w : Outcome) → Onward lim (behind_quantifier q p k t) (λ r. MeansAt r ts w → Means (WantSquare q) s cs p k (t ∷ ts) w)
  back_quantifier q s cs p k OpenSquare ts w = λ (ws, (us, (f, (zs, (list, (u, rest)))))). (quantified q ws f, (zs, (body q (left lim (suc (length k))) ts us zs ws f list u, rest)))
  back_quantifier q s cs p k t ts w = tt

  back_begin_variable : (q : Quantifier) (vs : List Var) (s : Side) (cs : List Call) (p : Part) (k : List Frame) (t : Token) (ts : List Token) (w : Outcome) → Onward lim (begin_variable q vs p k t) (λ r. MeansAt r ts w → Means (WantVariable q vs) s cs p k (t ∷ ts) w)
  back_begin_variable q vs s cs p k (Variable v) ts w = λ fits (ws, (us, (f, (zs, (list, rest))))). (v ∷ ws, (us, (f, (zs, (next_variable (length vs) ts us v ws fits list, rest)))))
  back_begin_variable q vs s cs p k t ts w = tt

  back_variable : (q : Quantifier) (vs : List Var) (s : Side) (cs : List Call) (p : Part) (k : List Frame) (t : Token) (ts : List Token) (w : Outcome) → Onward lim (behind_variable q vs p k t) (λ r. MeansAt r ts w → Means (AfterVariable q vs) s cs p k (t ∷ ts) w)
  back_variable q vs s cs p k Comma ts w = λ (ws, (us, (f, (zs, (list, rest))))). (ws, (us, (f, (zs, (more_variables (length vs) ts us ws list, rest)))))
  back_variable q vs s cs p k CloseSquare ts w = λ (us, (f, (zs, (list, rest)))). ([], (us, (f, (zs, (list (length vs), rest)))))
  back_variable q vs s cs p k t ts w = tt

  back_list : (q : Quantifier) (vs : List Var) (s : Side) (cs : List Call) (p : Part) (k : List Frame) (t : Token) (ts : List Token) (w : Outcome) → Onward lim (behind_list q vs p k t) (λ r. MeansAt r ts w → Means (WantColon q vs) s cs p k (t ∷ ts) w)
  back_list q vs s cs p k Colon ts w = λ (f, (zs, rest)). (ts, (f, (zs, (λ n. all_variables n ts, rest))))
  back_list q vs s cs p k t ts w = tt

  back : (m : Mode) (s : Side) (cs : List Call) (p : Part) (k : List Frame) (t : Token) (ts : List Token) (w : Outcome) → Onward lim (move_by m s cs p k t) (λ r. MeansAt r ts w → Means m s cs p k (t ∷ ts) w)
  back WantUnit s cs p k t ts w = back_begin_unit s cs p k t ts w
  back (AfterUnit f) s cs p k t ts w = back_unit f p k t ts w
  back WantTerm s cs p k t ts w = back_begin_term s cs p k t ts w
  back (AfterName n) s cs p k t ts w = back_name n s cs p k t ts w
  back (AfterTerm x) s cs p k t ts w = back_term x s cs p k t ts w
  back (WantSquare q) s cs p k t ts w = back_quantifier q s cs p k t ts w
  back (WantVariable q vs) s cs p k t ts w = back_begin_variable q vs s cs p k t ts w
  back (AfterVariable q vs) s cs p k t ts w = back_variable q vs s cs p k t ts w
  back (WantColon q vs) s cs p k t ts w = back_list q vs s cs p k t ts w

  -- the end of the text
  end_unit : (f : Formula) (p : Part) (k : List Frame) (w : Outcome) → ending_settled (settled k f) p (settled_frames k) ≡ Some w → Goes p k f [] w
  end_unit f p [] w e = (completed p f, (cc, tails_end (left lim 0) p f []))
  end_unit f p (Group q ∷ k) w e = cc
  end_unit f p (Negated ∷ k) w e = end_unit (not f) p k w e
  end_unit f p (Quantified q vs ∷ k) w e = end_unit (closed q vs f) p k w e

  end_term : (x : Term) (s : Side) (cs : List Call) (p : Part) (k : List Frame) (w : Outcome) → ending_term x s cs p k ≡ Some w → GoesTerm s cs p k x [] w
  end_term x s (c ∷ cs) p k w e = cc
  end_term x Whole [] p k w e = (cc, refl)
  end_term x (Right sign y) [] p k w e = end_unit (equation sign y x) p k w e
  end_term (app s xs) Lead [] p k w e = (atom (plain s) xs, ([], (λ ss tx. predicate (left lim (length k)) ss [] s xs tx, end_unit (atom (plain s) xs) p k w e)))
  end_term (free v) Lead [] p k w e = cc
  end_term (bound i) Lead [] p k w e = cc

  end_back : (m : Mode) (s : Side) (cs : List Call) (p : Part) (k : List Frame) (w : Outcome) → ending_by m s cs p k ≡ Some w → Means m s cs p k [] w
  end_back (AfterUnit f) s cs p k w e = end_unit f p k w e
  end_back (AfterName n) s cs p k w e = (application n nil, ([], (constant (left lim (depth cs k)) [] n, end_term (application n nil) s cs p k w e)))
  end_back (AfterTerm x) s cs p k w e = end_term x s cs p k w e
  end_back m s cs p k w e = cc

  sound_from : (ts : List Token) (r s : Reading) (w : Outcome) → after lim r ts ≡ Ok s → meant s ≡ Some w → MeansAt r ts w
  sound_from [] r s w e m = let same : r ≡ s = cc in subst (λ (z : Reading). MeansAt z [] w) (sym same) (end_back s.mode s.side s.calls s.part s.frames w m)
  sound_from (t ∷ ts) r s w e m =
      let (z, (made, rest)) = then_ok (step lim r t) (λ (y : Reading). after lim y ts) s e in
      onward_step lim (move r t) (λ (y : Reading). MeansAt y ts w → MeansAt r (t ∷ ts) w) z (back r.mode r.side r.calls r.part r.frames t ts w) made (sound_from ts z s w rest m)

  -- what is read is in the grammar
  pub sound : (sort : Sort) (ts : List Token) (s : Reading) (w : Outcome) → after lim (start sort) ts ≡ Ok s → meant s ≡ Some w → Reads lim sort ts w
  sound formulas ts s w e is =
      let m : Means WantUnit Lead [] First [] ts w = sound_from ts (start formulas) s w e is in
      let all : left lim 0 ≡ lim.levels = omega arith in
      subst (λ (v : Outcome). Reads lim formulas ts v) (sym m.1.1.1.1.0) (subst (λ (l : ℕ). IsFormula lim l ts m.1.1.1.0 []) all (m.1.1.1.1.1 ts m.1.1.0))
  sound terms ts s w e is =
      let m : Means WantTerm Whole [] First [] ts w = sound_from ts (start terms) s w e is in
      let all : left lim 0 ≡ lim.levels = omega arith in
      subst (λ (v : Outcome). Reads lim terms ts v) (sym m.1.1.1.0) (subst (λ (us : List Token). IsTerm lim lim.levels ts m.0 us) m.1.1.1.1 (subst (λ (l : ℕ). IsTerm lim l ts m.0 m.1.0) all m.1.1.0))
