-- What the grammar has is read by the machine.
use Rattle.std.proofs.Common.{◌≡◌, ℕ, suc, ◌+◌, ◌≤◌, Bool, if◌then◌else◌, List, [], ◌∷◌, length, Option, Some, None, Result, Ok, Err, refl, ◌∙◌, ap, arith}
use Rattle.std.proofs.lemmas.Bool.{le-leb}
use Rattle.fol.specs.declared.symbols.Sym.{Sym}
use Rattle.fol.specs.declared.symbols.Var.{Var}
use Rattle.fol.specs.Syntax.{Term, app, Terms, nil, plain, Formula, atom, not}
use Rattle.tptp_tokens.specs.declared.tokens.Quantifier.{Quantifier}
use Rattle.tptp_tokens.specs.declared.tokens.ChainOperator.{ChainOperator}
use Rattle.tptp_tokens.specs.declared.tokens.ChainOperator.TheVariants.{And, Or}
use Rattle.tptp_tokens.specs.declared.tokens.BinaryOperator.{BinaryOperator}
use Rattle.tptp_tokens.specs.declared.tokens.Token.{Token}
use Rattle.tptp_tokens.specs.declared.tokens.Token.TheVariants.{Equality, Chain, Binary, Open, Close, Comma}
use Rattle.tptp_tokens.specs.declared.tokens.TextKind.{TextKind}
use Rattle.tptp_tokens.specs.declared.tokens.TextKind.TheVariants.{Deep}
use Rattle.tptp_read.specs.declared.state.Limits.{Limits}
use Rattle.tptp_read.specs.declared.state.Outcome.{Outcome}
use Rattle.tptp_read.specs.declared.state.Outcome.TheVariants.{Formula as FormulaRead, Term as TermRead}
use Rattle.tptp_read.specs.declared.state.Part.{Part}
use Rattle.tptp_read.specs.declared.state.Part.TheVariants.{First, Chained, Joined}
use Rattle.tptp_read.specs.declared.state.Frame.{Frame}
use Rattle.tptp_read.specs.declared.state.Frame.TheVariants.{Group, Negated, Quantified}
use Rattle.tptp_read.specs.declared.state.Call.{Call}
use Rattle.tptp_read.specs.declared.state.Side.{Side}
use Rattle.tptp_read.specs.declared.state.Side.TheVariants.{Lead, Right, Whole}
use Rattle.tptp_read.specs.declared.state.Mode.TheVariants.{WantUnit, AfterUnit, WantTerm, AfterName, AfterTerm, WantSquare, WantVariable, AfterVariable}
use Rattle.tptp_read.specs.Meaning.{chained_by, equation, application, quantified}
use Rattle.tptp_read.specs.Grammar.{IsTerm, variable, constant, applied, IsArguments, last_argument, argument, IsVariables, next_variable, IsBehindVariable, all_variables, more_variables, IsUnit, truth_value, predicate, equality, negation, group, quantifier, IsQuantified, body, IsFormula, alone, binary, chain, IsMembers, last_member, member, Sort, formulas, terms, Reads}
use Rattle.tptp_read.specs.Reader.{Limit, levels, operators, variables, limited, bound_by, checked, or_expected, ◌>>=◌}
use Rattle.tptp_read.specs.Machine.{Reading, at, in_term, start, depth, turned_onto, with_term, closed, settled, settled_frames, completed, meant, ending, after, read_tokens}
use Rattle.tptp_read.proofs.ReaderLaw.{then_ok}

-- what may stand behind a term and behind a unit
abbrev pub BehindTerm : List Token → Type 0
BehindTerm (Open ∷ ts) = ⊥
BehindTerm ts = Unit {0}

abbrev pub BehindUnit : List Token → Type 0
BehindUnit (Open ∷ ts) = ⊥
BehindUnit (Equality sign ∷ ts) = ⊥
BehindUnit ts = Unit {0}

behind_unit_term : (ts : List Token) → BehindUnit ts → BehindTerm ts
behind_unit_term [] b = tt
behind_unit_term (Open ∷ ts) b = b
behind_unit_term (t ∷ ts) b = tt

-- no negation and no quantifier is open
abbrev pub IsSettled : List Frame → Type 0
IsSettled [] = Unit {0}
IsSettled (Group p ∷ k) = Unit {0}
IsSettled (f ∷ k) = ⊥

-- variables in front of others, turned round
abbrev turned : List Var → List Var → List Var
turned [] vs = vs
turned (v ∷ us) vs = turned us (v ∷ vs)

closed_turned : (q : Quantifier) (us vs : List Var) (f : Formula) → closed q (turned us vs) f ≡ closed q vs (quantified q us f)
closed_turned q [] vs f = refl
closed_turned q (v ∷ us) vs f = closed_turned q us (v ∷ vs) f

module _ (lim : Limits) where
  abbrev pub reads : Reading → List Token → Result Outcome TextKind
  reads r ts = read_tokens lim r ts

  -- a limit that is kept
  pub within : (x : Limit) (n : ℕ) (r : Reading) (ts : List Token) → n ≤ bound_by lim x → ((checked lim (limited x n r) >>= λ (s : Reading). after lim s ts) >>= ending) ≡ reads r ts
  within x n r ts fits = ap (λ (b : Bool). ((if b then Ok r else Err Deep) >>= λ (s : Reading). after lim s ts) >>= ending) (le-leb n (bound_by lim x) fits)

  -- terms
  pub name_ends : (x : List ℕ) (s : Side) (cs : List Call) (p : Part) (k : List Frame) (us : List Token) → BehindTerm us → reads (in_term (AfterName x) s cs p k) us ≡ reads (in_term (AfterTerm (application x nil)) s cs p k) us
  name_ends x s cs p k [] b = refl
  name_ends x s cs p k (Open ∷ us) b = absurd b
  name_ends x s cs p k (t ∷ us) b = refl

  mutual
    pub term_read : (l : ℕ) (ts us : List Token) (x : Term) → IsTerm lim l ts x us → BehindTerm us → (s : Side) (cs : List Call) (p : Part) (k : List Frame) → depth cs k + l ≤ lim.levels → reads (in_term WantTerm s cs p k) ts ≡ reads (in_term (AfterTerm x) s cs p k) us
    term_read l ts us x (variable l' us' v) b s cs p k fits = refl
    term_read l ts us x (constant l' us' n) b s cs p k fits = name_ends n s cs p k us' b
    term_read l ts us x (applied l' ts' us' n xs args) b s cs p k fits =
        within levels (suc (depth cs k)) (in_term WantTerm s (record { name = n; terms = nil } ∷ cs) p k) ts' (omega arith)
        ∙ arguments_read l' ts' us' xs args (record { name = n; terms = nil }) s cs p k (omega arith)

    arguments_read : (l : ℕ) (ts us : List Token) (xs : Terms) → IsArguments lim l ts xs us → (c : Call) (s : Side) (cs : List Call) (p : Part) (k : List Frame) → suc (depth cs k) + l ≤ lim.levels → reads (in_term WantTerm s (c ∷ cs) p k) ts ≡ reads (in_term (AfterTerm (application c.name (turned_onto c.terms xs))) s cs p k) us
    arguments_read l ts us xs (last_argument l' ts' us' t u) c s cs p k fits = term_read l' ts' (Close ∷ us') t u tt s (c ∷ cs) p k fits
    arguments_read l ts us xs (argument l' ts' us' vs' t ys u rest) c s cs p k fits =
        term_read l' ts' (Comma ∷ us') t u tt s (c ∷ cs) p k fits ∙ arguments_read l' us' vs' ys rest (with_term c t) s cs p k fits

  -- the variables of a quantifier
  mutual
    variables_read : (n : ℕ) (ts us : List Token) (ws : List Var) → IsVariables lim n ts ws us → (q : Quantifier) (vs : List Var) (p : Part) (k : List Frame) → length vs ≡ n → reads (at (WantVariable q vs) p k) ts ≡ reads (at WantUnit p (Quantified q (turned ws vs) ∷ k)) us
    variables_read n ts us ws (next_variable n' ts' us' v ws' fits rest) q vs p k count =
        within variables (suc (length vs)) (at (AfterVariable q (v ∷ vs)) p k) ts' (omega arith)
        ∙ behind_variable_read (suc n') ts' us' ws' rest q (v ∷ vs) p k (ap suc count)

    behind_variable_read : (n : ℕ) (ts us : List Token) (ws : List Var) → IsBehindVariable lim n ts ws us → (q : Quantifier) (vs : List Var) (p : Part) (k : List Frame) → length vs ≡ n → reads (at (AfterVariable q vs) p k) ts ≡ reads (at WantUnit p (Quantified q (turned ws vs) ∷ k)) us
    behind_variable_read n ts us ws (all_variables n' us') q vs p k count = refl
    behind_variable_read n ts us ws (more_variables n' ts' us' ws' rest) q vs p k count = variables_read n' ts' us' ws' rest q vs p k count

  -- units
  begins_term : (l : ℕ) (ts us : List Token) (x : Term) → IsTerm lim l ts x us → (p : Part) (k : List Frame) → reads (at WantUnit p k) ts ≡ reads (in_term WantTerm Lead [] p k) ts
  begins_term l ts us x (variable l' us' v) p k = refl
  begins_term l ts us x (constant l' us' n) p k = refl
  begins_term l ts us x (applied l' ts' us' n xs args) p k = refl

  pub atom_ends : (s : Sym) (xs : Terms) (p : Part) (k : List Frame) (us : List Token) → BehindUnit us → reads (in_term (AfterTerm (app s xs)) Lead [] p k) us ≡ reads (at (AfterUnit (atom (plain s) xs)) p k) us
  atom_ends s xs p k [] b = refl
  atom_ends s xs p k (Equality sign ∷ us) b = absurd b
  atom_ends s xs p k (t ∷ us) b = refl

  equation_begins : (sign : Bool) (x : Term) (p : Part) (k : List Frame) (us : List Token) → reads (in_term (AfterTerm x) Lead [] p k) (Equality sign ∷ us) ≡ reads (in_term WantTerm (Right sign x) [] p k) us
  equation_begins sign x p k us = refl

  pub equation_ends : (sign : Bool) (x y : Term) (p : Part) (k : List Frame) (us : List Token) → reads (in_term (AfterTerm y) (Right sign x) [] p k) us ≡ reads (at (AfterUnit (equation sign x y)) p k) us
  equation_ends sign x y p k [] = refl
  equation_ends sign x y p k (t ∷ us) = refl

  pub negation_ends : (f : Formula) (p : Part) (k : List Frame) (us : List Token) → reads (at (AfterUnit f) p (Negated ∷ k)) us ≡ reads (at (AfterUnit (not f)) p k) us
  negation_ends f p k [] = refl
  negation_ends f p k (t ∷ us) = refl

  pub quantifier_ends : (q : Quantifier) (vs : List Var) (f : Formula) (p : Part) (k : List Frame) (us : List Token) → reads (at (AfterUnit f) p (Quantified q vs ∷ k)) us ≡ reads (at (AfterUnit (closed q vs f)) p k) us
  quantifier_ends q vs f p k [] = refl
  quantifier_ends q vs f p k (t ∷ us) = refl

  settled_same : (k : List Frame) (f : Formula) → IsSettled k → (settled k f ≡ f) × (settled_frames k ≡ k)
  settled_same [] f s = (refl, refl)
  settled_same (Group p ∷ k) f s = (refl, refl)
  settled_same (Negated ∷ k) f s = absurd s
  settled_same (Quantified q vs ∷ k) f s = absurd s

  joins : (b : BinaryOperator) (f : Formula) (k : List Frame) (us : List Token) → IsSettled k → reads (at (AfterUnit f) First k) (Binary b ∷ us) ≡ reads (at WantUnit (Joined b f) k) us
  joins b f k us s = let (unit, rest) = settled_same k f s in λ i. reads (at WantUnit (Joined b (unit i)) (rest i)) us

  chains : (c : ChainOperator) (f : Formula) (k : List Frame) (us : List Token) → IsSettled k → 1 ≤ lim.operators → reads (at (AfterUnit f) First k) (Chain c ∷ us) ≡ reads (at WantUnit (Chained c f 1) k) us
  chains c f k us s fits = let (unit, rest) = settled_same k f s in within operators 1 (at WantUnit (Chained c (settled k f) 1) (settled_frames k)) us fits ∙ (λ i. reads (at WantUnit (Chained c (unit i) 1) (rest i)) us)

  chains_on : (c : ChainOperator) (e f : Formula) (n : ℕ) (k : List Frame) (us : List Token) → IsSettled k → suc n ≤ lim.operators → reads (at (AfterUnit f) (Chained c e n) k) (Chain c ∷ us) ≡ reads (at WantUnit (Chained c (chained_by c e f) (suc n)) k) us
  chains_on And e f n k us s fits = let (unit, rest) = settled_same k f s in within operators (suc n) (at WantUnit (Chained And (chained_by And e (settled k f)) (suc n)) (settled_frames k)) us fits ∙ (λ i. reads (at WantUnit (Chained And (chained_by And e (unit i)) (suc n)) (rest i)) us)
  chains_on Or e f n k us s fits = let (unit, rest) = settled_same k f s in within operators (suc n) (at WantUnit (Chained Or (chained_by Or e (settled k f)) (suc n)) (settled_frames k)) us fits ∙ (λ i. reads (at WantUnit (Chained Or (chained_by Or e (unit i)) (suc n)) (rest i)) us)

  pub group_ends : (p : Part) (k : List Frame) (us : List Token) (q : Part) (g : Formula) → reads (at (AfterUnit g) q (Group p ∷ k)) (Close ∷ us) ≡ reads (at (AfterUnit (completed q g)) p k) us
  group_ends p k us q g = refl

  members_fit : (c : ChainOperator) (l n : ℕ) (f g : Formula) (ts us : List Token) → IsMembers lim c l n f ts g us → n ≤ lim.operators
  members_fit c l n f g ts us (last_member c' l' n' f' g' ts' us' fits u) = fits
  members_fit c l n f g ts us (member c' l' n' f' g' h' ts' us' vs' fits u rest) = fits

  mutual
    pub unit_read : (l : ℕ) (ts us : List Token) (f : Formula) → IsUnit lim l ts f us → BehindUnit us → (p : Part) (k : List Frame) → length k + l ≤ lim.levels → reads (at WantUnit p k) ts ≡ reads (at (AfterUnit f) p k) us
    unit_read l ts us f (truth_value l' us' b) behind p k fits = refl
    unit_read l ts us f (predicate l' ts' us' s xs t) behind p k fits =
        begins_term l' ts' us' (app s xs) t p k ∙ (term_read l' ts' us' (app s xs) t (behind_unit_term us' behind) Lead [] p k fits ∙ atom_ends s xs p k us' behind)
    unit_read l ts us f (equality l' ts' us' vs' sign x y t u) behind p k fits =
        begins_term l' ts' (Equality sign ∷ us') x t p k ∙ (term_read l' ts' (Equality sign ∷ us') x t tt Lead [] p k fits
        ∙ (equation_begins sign x p k us' ∙ (term_read l' us' vs' y u (behind_unit_term vs' behind) (Right sign x) [] p k fits ∙ equation_ends sign x y p k vs')))
    unit_read l ts us f (negation l' ts' us' g u) behind p k fits =
        within levels (suc (length k)) (at WantUnit p (Negated ∷ k)) ts' (omega arith)
        ∙ (unit_read l' ts' us' g u behind p (Negated ∷ k) (omega arith) ∙ negation_ends g p k us')
    unit_read l ts us f (group l' ts' us' g u) behind p k fits =
        within levels (suc (length k)) (at WantUnit First (Group p ∷ k)) ts' (omega arith)
        ∙ formula_read l' ts' (Close ∷ us') g u tt (Group p ∷ k) tt (omega arith) (λ (h : Formula). reads (at (AfterUnit h) p k) us') (group_ends p k us')
    unit_read l ts us f (quantifier l' ts' us' q g u) behind p k fits =
        within levels (suc (length k)) (at (WantSquare q) p k) ts' (omega arith) ∙ quantified_read q l' ts' us' g u behind p k (omega arith)

    quantified_read : (q : Quantifier) (l : ℕ) (ts us : List Token) (g : Formula) → IsQuantified lim q l ts g us → BehindUnit us → (p : Part) (k : List Frame) → suc (length k) + l ≤ lim.levels → reads (at (WantSquare q) p k) ts ≡ reads (at (AfterUnit g) p k) us
    quantified_read q l ts us g (body q' l' ts' us' zs' vs f list u) behind p k fits =
        variables_read 0 ts' us' vs list q' [] p k refl
        ∙ (unit_read l' us' zs' f u behind p (Quantified q' (turned vs []) ∷ k) fits
        ∙ (quantifier_ends q' (turned vs []) f p k zs' ∙ ap (λ (h : Formula). reads (at (AfterUnit h) p k) zs') (closed_turned q' vs [] f)))

    -- Z says what comes of a formula that ends here
    pub formula_read : (l : ℕ) (ts us : List Token) (f : Formula) → IsFormula lim l ts f us → BehindUnit us → (k : List Frame) → IsSettled k → length k + l ≤ lim.levels → (Z : Formula → Result Outcome TextKind) → ((p : Part) (g : Formula) → reads (at (AfterUnit g) p k) us ≡ Z (completed p g)) → reads (at WantUnit First k) ts ≡ Z f
    formula_read l ts us f (alone l' ts' us' g u) behind k s fits Z ends = unit_read l' ts' us' g u behind First k fits ∙ ends First g
    formula_read l ts us f (binary l' ts' us' vs' b g h u v) behind k s fits Z ends =
        unit_read l' ts' (Binary b ∷ us') g u tt First k fits ∙ (joins b g k us' s ∙ (unit_read l' us' vs' h v behind (Joined b g) k fits ∙ ends (Joined b g) h))
    formula_read l ts us f (chain l' ts' us' vs' c g h u rest) behind k s fits Z ends =
        unit_read l' ts' (Chain c ∷ us') g u tt First k fits
        ∙ (chains c g k us' s (members_fit c l' 1 g h us' vs' rest) ∙ members_read c l' 1 g h us' vs' rest behind k s fits Z ends)

    members_read : (c : ChainOperator) (l n : ℕ) (f h : Formula) (ts us : List Token) → IsMembers lim c l n f ts h us → BehindUnit us → (k : List Frame) → IsSettled k → length k + l ≤ lim.levels → (Z : Formula → Result Outcome TextKind) → ((p : Part) (g : Formula) → reads (at (AfterUnit g) p k) us ≡ Z (completed p g)) → reads (at WantUnit (Chained c f n) k) ts ≡ Z h
    members_read c l n f h ts us (last_member c' l' n' f' g' ts' us' le u) behind k s fits Z ends =
        unit_read l' ts' us' g' u behind (Chained c' f' n') k fits ∙ ends (Chained c' f' n') g'
    members_read c l n f h ts us (member c' l' n' f' g' h' ts' us' vs' le u rest) behind k s fits Z ends =
        unit_read l' ts' (Chain c' ∷ us') g' u tt (Chained c' f' n') k fits
        ∙ (chains_on c' f' g' n' k us' s (members_fit c' l' (suc n') (chained_by c' f' g') h' us' vs' rest)
        ∙ members_read c' l' (suc n') (chained_by c' f' g') h' us' vs' rest behind k s fits Z ends)

  -- what the grammar has is read
  pub whole_read : (sort : Sort) (ts : List Token) (w : Outcome) → Reads lim sort ts w → reads (start sort) ts ≡ Ok w
  whole_read formulas ts (FormulaRead f) d = formula_read lim.levels ts [] f d tt [] tt (omega arith) (λ (h : Formula). Ok (FormulaRead h)) (λ p g. refl)
  whole_read formulas ts (TermRead x) d = absurd d
  whole_read terms ts (FormulaRead f) d = absurd d
  whole_read terms ts (TermRead x) d = term_read lim.levels ts [] x d tt Whole [] First [] (omega arith)

  meant_by : (o : Option Outcome) (w : Outcome) → or_expected o ≡ Ok w → o ≡ Some w
  meant_by None w e = cc
  meant_by (Some v) w e = cc

  pub reads_to : (r : Reading) (ts : List Token) (w : Outcome) → reads r ts ≡ Ok w → (s : Reading) × ((after lim r ts ≡ Ok s) × (meant s ≡ Some w))
  reads_to r ts w e = let (s, (leads, is)) = then_ok (after lim r ts) ending w e in (s, (leads, meant_by (meant s) w is))

  pub complete : (sort : Sort) (ts : List Token) (w : Outcome) → Reads lim sort ts w → (s : Reading) × ((after lim (start sort) ts ≡ Ok s) × (meant s ≡ Some w))
  complete sort ts w d = reads_to (start sort) ts w (whole_read sort ts w d)
