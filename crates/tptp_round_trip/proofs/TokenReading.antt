-- The tokens of a term are read as the term, and those of a formula as the formula.
use Rattle.std.proofs.Common.{◌≡◌, ℕ, zero, suc, ◌+◌, ◌-◌, ◌≤◌, max, Bool, true, false, eqb, ◌&&◌, ◌||◌, if◌then◌else◌, List, [], ◌∷◌, refl, sym, ap, subst, ◌∙◌, arith}
use Rattle.std.proofs.lemmas.Bool.{and_parts, or_parts, eqb-true, le-ltb}
use Rattle.fol.specs.declared.symbols.Sym.{Sym}
use Rattle.fol.specs.declared.symbols.Var.TheVariants.{Num}
use Rattle.fol.specs.Syntax.{Term, free, bound, app, Terms, nil, cons, plain, pred_symbol, Formula, atom, top, bot, not, and, or, imp, all, ex}
use Rattle.fol.specs.Formed.{is_formed_sym, count_terms, is_formed_term_at, are_formed_terms_at, is_formed_at}
use Rattle.free_variables.specs.Occurrence.{is_free_in}
use Rattle.tptp_tokens.specs.declared.tokens.Quantifier.{Quantifier}
use Rattle.tptp_tokens.specs.declared.tokens.Quantifier.TheVariants.{All, Ex}
use Rattle.tptp_tokens.specs.declared.tokens.ChainOperator.{ChainOperator}
use Rattle.tptp_tokens.specs.declared.tokens.ChainOperator.TheVariants.{And, Or}
use Rattle.tptp_tokens.specs.declared.tokens.BinaryOperator.TheVariants.{Implies}
use Rattle.tptp_tokens.specs.declared.tokens.Token.{Token}
use Rattle.tptp_tokens.specs.declared.tokens.Token.TheVariants.{Equality, Negation, Chain, Binary, Open, Close, OpenSquare, CloseSquare, Comma, Colon, Variable}
use Rattle.tptp_read.specs.declared.state.Limits.{Limits}
use Rattle.tptp_read.specs.Meaning.{symbol_of, equality_sym, equation, chained_by, quantified}
use Rattle.tptp_read.specs.Grammar.{IsTerm, variable, constant, applied, IsArguments, last_argument, argument, next_variable, all_variables, IsUnit, truth_value, predicate, equality, negation, group, quantifier, body, IsFormula, alone, binary, chain, IsMembers, last_member, member}
use Rattle.tptp_print.specs.Canonical.{is_equals, is_equality, is_binary}
use Rattle.tptp_print.proofs.Agreement.{formed_application}
use Rattle.tptp_round_trip.specs.Limits.{term_levels, argument_levels, list_levels, atom_levels, unit_levels, negation_levels, formula_levels, AreChainsWithin}
use Rattle.tptp_round_trip.proofs.Tokens.{term_tokens, more_tokens, sides_tokens, atom_tokens, enclosed, unit_tokens, left_tokens, left_levels, chain_operators, negated_tokens, head_tokens, formula_tokens, of_each}
use Rattle.tptp_round_trip.proofs.Opened.{opened_term, opened_terms, count-opened, opened, AreRising, bind_opened}

-- the symbol of a name with as many terms as its arity says
same_symbol : (names : ℕ → ℕ) (k : ℕ) (s : Sym) (ts : Terms) (b : Bool) → (is_formed_sym s && eqb (count_terms ts) s.arity && b) ≡ true → symbol_of s.name (opened_terms names k 0 ts) ≡ s
same_symbol names k s ts b h =
    let whole : count_terms (opened_terms names k 0 ts) ≡ s.arity = count-opened names k 0 ts ∙ eqb-true (count_terms ts) s.arity (and_parts _ _ (and_parts _ b h).0).1 in
    λ i. record { name = s.name; arity = whole i }

-- the name `=`
equals_name : (x : List ℕ) → is_equals x ≡ true → x ≡ 61 ∷ []
equals_name [] h = cc
equals_name (b ∷ []) h = ap (λ (c : ℕ). c ∷ []) (eqb-true b 61 h)
equals_name (b ∷ c ∷ cs) h = cc

-- no chosen name is free in a formula
abbrev pub AreApart : (ℕ → ℕ) → Formula → Type 0
AreApart names f = (d : ℕ) → is_free_in (Num (names d)) f ≡ false

module _ (lim : Limits) (names : ℕ → ℕ) where
  module _ (k : ℕ) where
    mutual
      pub term_reads : (t : Term) (l : ℕ) (us : List Token) → term_levels t ≤ l → is_formed_term_at k t ≡ true → IsTerm lim l (term_tokens names k t us) (opened_term names k 0 t) us
      term_reads (free v) l us fits h = variable l us v
      term_reads (bound i) l us fits h =
          subst (λ (t : Term). IsTerm lim l (term_tokens names k (bound i) us) t us) (ap (λ (b : Bool). if b then bound i else free (Num (names (k - (i + 1))))) (sym (le-ltb i 0 (omega arith))))
          (variable l us (Num (names (k - (i + 1)))))
      term_reads (app s ts) l us fits h =
          subst (λ (r : Sym). IsTerm lim l (term_tokens names k (app s ts) us) (app r (opened_terms names k 0 ts)) us) (same_symbol names k s ts (are_formed_terms_at k ts) h)
          (application_reads s ts l us fits (and_parts _ (are_formed_terms_at k ts) h).1)

      application_reads : (s : Sym) (ts : Terms) (l : ℕ) (us : List Token) → argument_levels ts ≤ l → are_formed_terms_at k ts ≡ true
          → IsTerm lim l (term_tokens names k (app s ts) us) (app (symbol_of s.name (opened_terms names k 0 ts)) (opened_terms names k 0 ts)) us
      application_reads s nil l us fits h = constant l us s.name
      application_reads s (cons t ts) zero us fits h = absurd (omega arith)
      application_reads s (cons t ts) (suc l) us fits h =
          applied l (term_tokens names k t (more_tokens names k ts us)) us s.name (opened_terms names k 0 (cons t ts))
          (rest_reads ts l us (opened_term names k 0 t) (term_tokens names k t) (λ vs. term_reads t l vs (omega arith) (and_parts _ (are_formed_terms_at k ts) h).0) (omega arith) (and_parts (is_formed_term_at k t) _ h).1)

      -- arguments, from the reading of the first one
      rest_reads : (ts : Terms) (l : ℕ) (us : List Token) (x : Term) (first : List Token → List Token) → ((vs : List Token) → IsTerm lim l (first vs) x vs) → list_levels ts ≤ l → are_formed_terms_at k ts ≡ true
          → IsArguments lim l (first (more_tokens names k ts us)) (cons x (opened_terms names k 0 ts)) us
      rest_reads nil l us x first reads fits h = last_argument l (first (Close ∷ us)) us x (reads (Close ∷ us))
      rest_reads (cons t ts) l us x first reads fits h =
          let next = term_tokens names k t (more_tokens names k ts us) in
          argument l (first (Comma ∷ next)) next us x (opened_terms names k 0 (cons t ts)) (reads (Comma ∷ next))
          (rest_reads ts l us (opened_term names k 0 t) (term_tokens names k t) (λ vs. term_reads t l vs (omega arith) (and_parts _ (are_formed_terms_at k ts) h).0) (omega arith) (and_parts (is_formed_term_at k t) _ h).1)

    -- the atoms
    module _ (s : Sym) (ts : Terms) (h : is_formed_at k (atom (plain s) ts) ≡ true) where
      abbrev means : Formula
      means = opened names k 0 (atom (plain s) ts)

      atom_reads : (l : ℕ) (us : List Token) → argument_levels ts ≤ l → IsUnit lim l (term_tokens names k (app s ts) us) means us
      atom_reads l us fits = predicate l (term_tokens names k (app s ts) us) us s (opened_terms names k 0 ts) (term_reads (app s ts) l us fits h)

    -- what the tokens of an equality or of its negation mean, and how they are read
    abbrev signed : Bool → Formula → Formula
    signed true f = f
    signed false f = not f

    sign_out : (sign : Bool) (s : Sym) (t u : Term) → equality_sym ≡ s → equation sign t u ≡ signed sign (atom (plain s) (cons t (cons u nil)))
    sign_out true s t u e = ap (λ (r : Sym). atom (plain r) (cons t (cons u nil))) e
    sign_out false s t u e = ap (λ (r : Sym). not (atom (plain r) (cons t (cons u nil)))) e

    equality_symbol : (s : Sym) (ts : Terms) → is_equals s.name ≡ true → (is_formed_sym s && eqb 2 s.arity && are_formed_terms_at k ts) ≡ true → equality_sym ≡ s
    equality_symbol s ts e h =
        let name = equals_name s.name e in
        let arity = eqb-true 2 s.arity (and_parts (is_formed_sym s) _ (and_parts _ (are_formed_terms_at k ts) h).0).1 in
        λ i. record { name = sym name i; arity = arity i }

    equality_reads : (sign : Bool) (s : Sym) (ts : Terms) (l : ℕ) (us : List Token) → is_equality s ts ≡ true → list_levels ts ≤ l → is_formed_at k (atom (plain s) ts) ≡ true
        → IsUnit lim l (sides_tokens names k sign ts us) (signed sign (opened names k 0 (atom (plain s) ts))) us
    equality_reads sign s (cons t (cons u nil)) l us e fits h =
        let vs = Equality sign ∷ term_tokens names k u us in
        let formed = (and_parts _ (are_formed_terms_at k (cons t (cons u nil))) h).1 in
        let one : term_levels t ≤ l = omega arith in
        let two : term_levels u ≤ l = omega arith in
        subst (λ (f : Formula). IsUnit lim l (term_tokens names k t vs) f us) (sign_out sign s (opened_term names k 0 t) (opened_term names k 0 u) (equality_symbol s (cons t (cons u nil)) e h))
        (equality l (term_tokens names k t vs) (term_tokens names k u us) us sign (opened_term names k 0 t) (opened_term names k 0 u)
        (term_reads t l vs one (and_parts _ (is_formed_term_at k u && true) formed).0) (term_reads u l us two (and_parts _ true (and_parts (is_formed_term_at k t) _ formed).1).0))
    equality_reads sign s nil l us e fits h = cc
    equality_reads sign s (cons t nil) l us e fits h = cc
    equality_reads sign s (cons t (cons u (cons v vs))) l us e fits h = cc

    plain_atom : (s : Sym) (ts : Terms) (l : ℕ) (us : List Token) → atom_levels s ts ≤ l → is_formed_at k (atom (plain s) ts) ≡ true → IsUnit lim l (atom_tokens names k true s ts us) (opened names k 0 (atom (plain s) ts)) us
    plain_atom s ts l us fits h =
        elim (is_equality s ts) as (λ (b : Bool). is_equality s ts ≡ b → (if b then list_levels ts else argument_levels ts) ≤ l
        → IsUnit lim l (if b then sides_tokens names k true ts us else term_tokens names k (app s ts) us) (opened names k 0 (atom (plain s) ts)) us) [
          | true ↦ λ e few. equality_reads true s ts l us e few h
          | false ↦ λ e few. atom_reads s ts h l us few
        ] refl fits

    negate : (l : ℕ) (ts us : List Token) (f : Formula) → ((m : ℕ) → suc m ≡ l → IsUnit lim m ts f us) → 1 ≤ l → IsUnit lim l (Negation ∷ ts) (not f) us
    negate zero ts us f reads some = absurd (omega arith)
    negate (suc l) ts us f reads some = negation l ts us f (reads l refl)

    negated_atom : (s : Sym) (ts : Terms) (l : ℕ) (us : List Token) → negation_levels (atom (plain s) ts) (atom_levels s ts) ≤ l → is_formed_at k (atom (plain s) ts) ≡ true
        → IsUnit lim l (negated_tokens names k (atom (plain s) ts) (atom_tokens names k true s ts) us) (not (opened names k 0 (atom (plain s) ts))) us
    negated_atom s ts l us fits h =
        elim (is_equality s ts) as (λ (b : Bool). is_equality s ts ≡ b → (if b then (if b then list_levels ts else argument_levels ts) else suc (if b then list_levels ts else argument_levels ts)) ≤ l
        → IsUnit lim l (if b then sides_tokens names k false ts us else Negation ∷ (if b then sides_tokens names k true ts us else term_tokens names k (app s ts) us)) (not (opened names k 0 (atom (plain s) ts))) us) [
          | true ↦ λ e few. equality_reads false s ts l us e few h
          | false ↦ λ e few. negate l (term_tokens names k (app s ts) us) us (opened names k 0 (atom (plain s) ts)) (λ m q. atom_reads s ts h m us (omega arith)) (omega arith)
        ] refl fits

  -- a first member of a chain, and that what follows the formula f, which ends behind n operators, follows it
  record Left (c : ChainOperator) (l n : ℕ) (ts : List Token) (f : Formula) (us : List Token) : Type 0 where
    first : Formula
    behind : List Token
    reads : IsUnit lim l ts first (Chain c ∷ behind)
    goes : (g : Formula) (ws : List Token) → IsMembers lim c l (suc n) f us g ws → IsMembers lim c l 1 first behind g ws

  left_unit : (c : ChainOperator) (l : ℕ) (ts : List Token) (f : Formula) (us : List Token) → IsUnit lim l ts f (Chain c ∷ us) → Left c l 0 ts f us
  left_unit c l ts f us u = record { first = f; behind = us; reads = u; goes = λ g ws m. m }

  -- how the tokens of a formula are read at each place
  abbrev IsRead : ℕ → Formula → Type 0
  IsRead k f = (l : ℕ) (us : List Token) → formula_levels f ≤ l → IsFormula lim l (formula_tokens names k f us) (opened names k 0 f) us

  abbrev HasLeft : ℕ → Formula → ChainOperator → Type 0
  HasLeft k f c = (l : ℕ) (us : List Token) → left_levels c f (formula_levels f) ≤ l → Left c l (chain_operators c f) (left_tokens c f (formula_tokens names k f) (Chain c ∷ us)) (opened names k 0 f) us

  record Piece (k : ℕ) (f : Formula) : Type 0 where
    whole : IsRead k f
    unit : (l : ℕ) (us : List Token) → unit_levels f (formula_levels f) ≤ l → IsUnit lim l (unit_tokens f (formula_tokens names k f) us) (opened names k 0 f) us
    left : (c : ChainOperator) → HasLeft k f c

  -- a formula that is a unit without parentheses
  unit_piece : (k : ℕ) (f : Formula) → is_binary f ≡ false → ((l : ℕ) (us : List Token) → formula_levels f ≤ l → IsUnit lim l (formula_tokens names k f us) (opened names k 0 f) us) → Piece k f
  unit_piece k (and f g) plain reads = cc
  unit_piece k (or f g) plain reads = cc
  unit_piece k (imp f g) plain reads = cc
  unit_piece k f plain reads = record {
    whole = λ l us fits. alone l (formula_tokens names k f us) us (opened names k 0 f) (reads l us fits);
    unit = reads;
    left = of_each (HasLeft k f)
        (λ l us fits. left_unit And l (formula_tokens names k f (Chain And ∷ us)) (opened names k 0 f) us (reads l (Chain And ∷ us) fits))
        (λ l us fits. left_unit Or l (formula_tokens names k f (Chain Or ∷ us)) (opened names k 0 f) us (reads l (Chain Or ∷ us) fits));
  }

  -- one in parentheses
  grouped : (l : ℕ) (ts us : List Token) (f : Formula) → ((m : ℕ) → suc m ≡ l → IsFormula lim m ts f (Close ∷ us)) → 1 ≤ l → IsUnit lim l (Open ∷ ts) f us
  grouped zero ts us f reads some = absurd (omega arith)
  grouped (suc l) ts us f reads some = group l ts us f (reads l refl)

  module _ (k : ℕ) (f : Formula) (reads : IsRead k f) where
    in_group : (l : ℕ) (us : List Token) → suc (formula_levels f) ≤ l → IsUnit lim l (enclosed (formula_tokens names k f) us) (opened names k 0 f) us
    in_group l us fits = grouped l (formula_tokens names k f (Close ∷ us)) us (opened names k 0 f) (λ m e. reads m (Close ∷ us) (omega arith)) (omega arith)

    left_group : (c : ChainOperator) (l : ℕ) (us : List Token) → suc (formula_levels f) ≤ l → Left c l 0 (enclosed (formula_tokens names k f) (Chain c ∷ us)) (opened names k 0 f) us
    left_group c l us fits = left_unit c l (enclosed (formula_tokens names k f) (Chain c ∷ us)) (opened names k 0 f) us (in_group l (Chain c ∷ us) fits)

  -- the connectives
  module _ (k : ℕ) (f g : Formula) (p : Piece k f) (q : Piece k g) where
    module _ (c : ChainOperator) (few : suc (chain_operators c f) ≤ lim.operators) where
      abbrev goes_on : List Token → List Token
      goes_on us = left_tokens c f (formula_tokens names k f) (Chain c ∷ unit_tokens g (formula_tokens names k g) us)

      chain_reads : (l : ℕ) (us : List Token) → max (left_levels c f (formula_levels f)) (unit_levels g (formula_levels g)) ≤ l → IsFormula lim l (goes_on us) (chained_by c (opened names k 0 f) (opened names k 0 g)) us
      chain_reads l us fits =
          let vs = unit_tokens g (formula_tokens names k g) us in
          let first = p.left c l vs (omega arith) in
          chain l (goes_on us) first.behind us c first.first (chained_by c (opened names k 0 f) (opened names k 0 g)) first.reads
          (first.goes (chained_by c (opened names k 0 f) (opened names k 0 g)) us (last_member c l (suc (chain_operators c f)) (opened names k 0 f) (opened names k 0 g) vs us few (q.unit l us (omega arith))))

      chain_goes : (l : ℕ) (us : List Token) → max (left_levels c f (formula_levels f)) (unit_levels g (formula_levels g)) ≤ l → Left c l (suc (chain_operators c f)) (goes_on (Chain c ∷ us)) (chained_by c (opened names k 0 f) (opened names k 0 g)) us
      chain_goes l us fits =
          let vs = unit_tokens g (formula_tokens names k g) (Chain c ∷ us) in
          let first = p.left c l vs (omega arith) in
          record {
            first = first.first;
            behind = first.behind;
            reads = first.reads;
            goes = λ h ws m. first.goes h ws (member c l (suc (chain_operators c f)) (opened names k 0 f) (opened names k 0 g) h vs us ws few (q.unit l (Chain c ∷ us) (omega arith)) m);
          }

    imp_reads : IsRead k (imp f g)
    imp_reads l us fits =
        let vs = unit_tokens g (formula_tokens names k g) us in
        binary l (unit_tokens f (formula_tokens names k f) (Binary Implies ∷ vs)) vs us Implies (opened names k 0 f) (opened names k 0 g) (p.unit l (Binary Implies ∷ vs) (omega arith)) (q.unit l us (omega arith))

    and_piece : suc (chain_operators And f) ≤ lim.operators → Piece k (and f g)
    and_piece few = record {
      whole = chain_reads And few;
      unit = in_group k (and f g) (chain_reads And few);
      left = of_each (HasLeft k (and f g)) (chain_goes And few) (left_group k (and f g) (chain_reads And few) Or);
    }

    or_piece : suc (chain_operators Or f) ≤ lim.operators → Piece k (or f g)
    or_piece few = record {
      whole = chain_reads Or few;
      unit = in_group k (or f g) (chain_reads Or few);
      left = of_each (HasLeft k (or f g)) (left_group k (or f g) (chain_reads Or few) And) (chain_goes Or few);
    }

    imp_piece : Piece k (imp f g)
    imp_piece = record {
      whole = imp_reads;
      unit = in_group k (imp f g) imp_reads;
      left = of_each (HasLeft k (imp f g)) (left_group k (imp f g) imp_reads And) (left_group k (imp f g) imp_reads Or);
    }

  module _ (rising : AreRising names) (some : 1 ≤ lim.variables) where
    -- a quantifier with its one variable
    quantified_reads : (q : Quantifier) (n l : ℕ) (ts us : List Token) (f g : Formula) → ((m : ℕ) → suc m ≡ l → IsUnit lim m ts f us) → 1 ≤ l → quantified q (Num n ∷ []) f ≡ g → IsUnit lim l (head_tokens q n ts) g us
    quantified_reads q n zero ts us f g reads few e = absurd (omega arith)
    quantified_reads q n (suc l) ts us f g reads few e =
        subst (λ (h : Formula). IsUnit lim (suc l) (head_tokens q n ts) h us) e
        (quantifier l (OpenSquare ∷ Variable (Num n) ∷ CloseSquare ∷ Colon ∷ ts) us q (quantified q (Num n ∷ []) f)
        (body q l (Variable (Num n) ∷ CloseSquare ∷ Colon ∷ ts) ts us (Num n ∷ []) f (next_variable 0 (CloseSquare ∷ Colon ∷ ts) ts (Num n) [] some (all_variables 1 ts)) (reads l refl)))

    body_reads : (q : Quantifier) (k : ℕ) (f h : Formula) → Piece (k + 1) f → quantified q (Num (names k) ∷ []) (opened names (k + 1) 0 f) ≡ h → (l : ℕ) (us : List Token) → suc (unit_levels f (formula_levels f)) ≤ l
        → IsUnit lim l (head_tokens q (names k) (unit_tokens f (formula_tokens names (k + 1) f) us)) h us
    body_reads q k f h p same l us fits = quantified_reads q (names k) l (unit_tokens f (formula_tokens names (k + 1) f) us) us (opened names (k + 1) 0 f) h (λ m e. p.unit m us (omega arith)) (omega arith) same

    abbrev HasPiece : ℕ → Formula → Type 0
    HasPiece k f = is_formed_at k f ≡ true → AreApart names f → AreChainsWithin lim.operators f → Piece k f

    both_pieces : (k : ℕ) (f g : Formula) → HasPiece k f → HasPiece k g → (is_formed_at k f && is_formed_at k g) ≡ true → ((d : ℕ) → (is_free_in (Num (names d)) f || is_free_in (Num (names d)) g) ≡ false)
        → AreChainsWithin lim.operators f × AreChainsWithin lim.operators g → Piece k f × Piece k g
    both_pieces k f g p q h apart short = (p (and_parts _ _ h).0 (λ d. (or_parts _ _ (apart d)).0) short.0, q (and_parts _ _ h).1 (λ d. (or_parts _ _ (apart d)).1) short.1)

    piece : (k : ℕ) (f : Formula) → HasPiece k f
    piece k (atom p ts) h apart short =
        unit_piece k (atom p ts) refl (λ l us fits. plain_atom k (pred_symbol p) ts l us fits (formed_application k p ts h))
    piece k top h apart short = unit_piece k top refl (λ l us fits. truth_value l us true)
    piece k bot h apart short = unit_piece k bot refl (λ l us fits. truth_value l us false)
    piece k (not (atom p ts)) h apart short =
        unit_piece k (not (atom p ts)) refl (λ l us fits. negated_atom k (pred_symbol p) ts l us fits (formed_application k p ts h))
    piece k (not f) h apart short =
        let p = piece k f h apart short in
        unit_piece k (not f) refl (λ l us fits. negate k l (unit_tokens f (formula_tokens names k f) us) us (opened names k 0 f) (λ m e. p.unit m us (omega arith)) (omega arith))
    piece k (and f g) h apart short = let ps = both_pieces k f g (piece k f) (piece k g) h apart short.1 in and_piece k f g ps.0 ps.1 short.0
    piece k (or f g) h apart short = let ps = both_pieces k f g (piece k f) (piece k g) h apart short.1 in or_piece k f g ps.0 ps.1 short.0
    piece k (imp f g) h apart short = let ps = both_pieces k f g (piece k f) (piece k g) h apart short in imp_piece k f g ps.0 ps.1
    piece k (all f) h apart short = unit_piece k (all f) refl (body_reads All k f (opened names k 0 (all f)) (piece (k + 1) f h apart short) (ap all (bind_opened names rising f k (k + 1) 0 refl h (apart k))))
    piece k (ex f) h apart short = unit_piece k (ex f) refl (body_reads Ex k f (opened names k 0 (ex f)) (piece (k + 1) f h apart short) (ap ex (bind_opened names rising f k (k + 1) 0 refl h (apart k))))

    pub formula_reads : (k : ℕ) (f : Formula) → is_formed_at k f ≡ true → AreApart names f → AreChainsWithin lim.operators f → IsRead k f
    formula_reads k f h apart short = (piece k f h apart short).whole

    pub unit_reads : (k : ℕ) (f : Formula) (l : ℕ) (us : List Token) → is_formed_at k f ≡ true → AreApart names f → AreChainsWithin lim.operators f → unit_levels f (formula_levels f) ≤ l
        → IsUnit lim l (unit_tokens f (formula_tokens names k f) us) (opened names k 0 f) us
    unit_reads k f l us h apart short fits = (piece k f h apart short).unit l us fits
