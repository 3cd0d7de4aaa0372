-- A formula whose canonical tokens are read is within the limits.
use Rattle.std.proofs.Common.{◌≡◌, ℕ, suc, ◌+◌, ◌≤◌, max, Bool, true, false, leb, ◌&&◌, if◌then◌else◌, List, [], ◌∷◌, length, Ok, Err, refl, sym, ◌∙◌, arith}
use Rattle.std.proofs.lemmas.Bool.{and_parts, or_parts, leb-true}
use Rattle.fol.specs.declared.symbols.Sym.{Sym}
use Rattle.fol.specs.declared.symbols.Var.TheVariants.{Num}
use Rattle.fol.specs.Syntax.{Term, free, bound, app, Terms, nil, cons, plain, pred_symbol, Formula, atom, top, bot, not, and, or, imp, all, ex}
use Rattle.fol.specs.Formed.{is_formed_term_at, are_formed_terms_at, is_formed_at}
use Rattle.tptp_tokens.specs.declared.tokens.Quantifier.{Quantifier}
use Rattle.tptp_tokens.specs.declared.tokens.Quantifier.TheVariants.{All, Ex}
use Rattle.tptp_tokens.specs.declared.tokens.ChainOperator.{ChainOperator}
use Rattle.tptp_tokens.specs.declared.tokens.ChainOperator.TheVariants.{And, Or}
use Rattle.tptp_tokens.specs.declared.tokens.BinaryOperator.TheVariants.{Implies}
use Rattle.tptp_tokens.specs.declared.tokens.Token.{Token}
use Rattle.tptp_tokens.specs.declared.tokens.Token.TheVariants.{Variable, Equality, Negation, Chain, Binary, Close, OpenSquare, CloseSquare, Colon}
use Rattle.tptp_tokens.specs.declared.tokens.TextKind.TheVariants.{Deep}
use Rattle.tptp_read.specs.declared.state.Limits.{Limits}
use Rattle.tptp_read.specs.declared.state.Outcome.{Outcome}
use Rattle.tptp_read.specs.declared.state.Part.{Part}
use Rattle.tptp_read.specs.declared.state.Part.TheVariants.{First, Chained, Joined}
use Rattle.tptp_read.specs.declared.state.Frame.{Frame}
use Rattle.tptp_read.specs.declared.state.Frame.TheVariants.{Group, Negated, Quantified}
use Rattle.tptp_read.specs.declared.state.Call.{Call}
use Rattle.tptp_read.specs.declared.state.Side.{Side}
use Rattle.tptp_read.specs.declared.state.Side.TheVariants.{Lead, Right}
use Rattle.tptp_read.specs.declared.state.Mode.TheVariants.{WantUnit, AfterUnit, WantTerm, AfterTerm, WantSquare, AfterVariable}
use Rattle.tptp_read.specs.Meaning.{chained_by}
use Rattle.tptp_read.specs.Reader.{Limit, levels, operators, variables, limited, bound_by, checked, ◌>>=◌}
use Rattle.tptp_read.specs.Machine.{Reading, at, in_term, depth, with_term, ending, after, read_tokens}
use Rattle.tptp_read.proofs.Complete.{BehindTerm, BehindUnit, IsSettled, term_read, unit_read}
use Rattle.tptp_print.specs.Canonical.{is_equality, is_binary}
use Rattle.tptp_print.proofs.Agreement.{formed_application}
use Rattle.tptp_round_trip.specs.Limits.{term_levels, argument_levels, list_levels, atom_levels, unit_levels, negation_levels, formula_levels, AreChainsWithin}
use Rattle.tptp_round_trip.proofs.Tokens.{term_tokens, more_tokens, sides_tokens, atom_tokens, enclosed, unit_tokens, left_tokens, left_levels, chain_operators, negated_tokens, head_tokens, formula_tokens, of_each}
use Rattle.tptp_round_trip.proofs.Opened.{opened_term, opened, AreRising}
use Rattle.tptp_round_trip.proofs.TokenReading.{AreApart, term_reads, unit_reads}

more_behind : (names : ℕ → ℕ) (d : ℕ) (ts : Terms) (us : List Token) → BehindTerm (more_tokens names d ts us)
more_behind names d nil us = tt
more_behind names d (cons t ts) us = tt

module _ (lim : Limits) (names : ℕ → ℕ) (w : Outcome) where
  -- the tokens are read to their end
  abbrev Reach : Reading → List Token → Type 0
  Reach r ts = read_tokens lim r ts ≡ Ok w

  kept : (b : Bool) (r : Reading) (ts : List Token) → (((if b then Ok r else Err Deep) >>= λ (s : Reading). after lim s ts) >>= ending) ≡ Ok w → (b ≡ true) × Reach r ts
  kept true r ts h = (refl, h)
  kept false r ts h = cc

  limit_kept : (x : Limit) (n : ℕ) (r : Reading) (ts : List Token) → ((checked lim (limited x n r) >>= λ (s : Reading). after lim s ts) >>= ending) ≡ Ok w → (n ≤ bound_by lim x) × Reach r ts
  limit_kept x n r ts h = let both = kept (leb n (bound_by lim x)) r ts h in (leb-true n (bound_by lim x) both.0, both.1)

  module _ (d : ℕ) where
    -- terms
    term_moves : (t : Term) (s : Side) (cs : List Call) (p : Part) (k : List Frame) (us : List Token) → depth cs k + term_levels t ≤ lim.levels → is_formed_term_at d t ≡ true → BehindTerm us
        → Reach (in_term WantTerm s cs p k) (term_tokens names d t us) → Reach (in_term (AfterTerm (opened_term names d 0 t)) s cs p k) us
    term_moves t s cs p k us fits h behind r =
        sym (term_read lim (term_levels t) (term_tokens names d t us) us (opened_term names d 0 t) (term_reads lim names d t (term_levels t) us (omega arith) h) behind s cs p k fits) ∙ r

    mutual
      pub term_within : (t : Term) (s : Side) (cs : List Call) (p : Part) (k : List Frame) (us : List Token) → depth cs k ≤ lim.levels → is_formed_term_at d t ≡ true
          → Reach (in_term WantTerm s cs p k) (term_tokens names d t us) → depth cs k + term_levels t ≤ lim.levels
      term_within (free v) s cs p k us few h r = omega arith
      term_within (bound i) s cs p k us few h r = omega arith
      term_within (app f nil) s cs p k us few h r = omega arith
      term_within (app f (cons t ts)) s cs p k us few h r =
          let formed = (and_parts _ (are_formed_terms_at d (cons t ts)) h).1 in
          let call : Call = record { name = f.name; terms = nil } in
          let inside = limit_kept levels (suc (depth cs k)) (in_term WantTerm s (call ∷ cs) p k) (term_tokens names d t (more_tokens names d ts us)) r in
          let one : suc (depth cs k) + term_levels t ≤ lim.levels = term_within t s (call ∷ cs) p k (more_tokens names d ts us) inside.0 (and_parts _ (are_formed_terms_at d ts) formed).0 inside.1 in
          let others : suc (depth cs k) + list_levels ts ≤ lim.levels =
          rest_within ts (opened_term names d 0 t) s call cs p k us inside.0 (and_parts (is_formed_term_at d t) _ formed).1
          (term_moves t s (call ∷ cs) p k (more_tokens names d ts us) one (and_parts _ (are_formed_terms_at d ts) formed).0 (more_behind names d ts us) inside.1) in
          omega arith

      rest_within : (ts : Terms) (x : Term) (s : Side) (c : Call) (cs : List Call) (p : Part) (k : List Frame) (us : List Token) → suc (depth cs k) ≤ lim.levels → are_formed_terms_at d ts ≡ true
          → Reach (in_term (AfterTerm x) s (c ∷ cs) p k) (more_tokens names d ts us) → suc (depth cs k) + list_levels ts ≤ lim.levels
      rest_within nil x s c cs p k us few h r = omega arith
      rest_within (cons t ts) x s c cs p k us few h r =
          let one : suc (depth cs k) + term_levels t ≤ lim.levels = term_within t s (with_term c x ∷ cs) p k (more_tokens names d ts us) few (and_parts _ (are_formed_terms_at d ts) h).0 r in
          let others : suc (depth cs k) + list_levels ts ≤ lim.levels =
          rest_within ts (opened_term names d 0 t) s (with_term c x) cs p k us few (and_parts (is_formed_term_at d t) _ h).1
          (term_moves t s (with_term c x ∷ cs) p k (more_tokens names d ts us) one (and_parts _ (are_formed_terms_at d ts) h).0 (more_behind names d ts us) r) in
          omega arith

    -- atoms
    starts_term : (t : Term) (p : Part) (k : List Frame) (us : List Token) → read_tokens lim (at WantUnit p k) (term_tokens names d t us) ≡ read_tokens lim (in_term WantTerm Lead [] p k) (term_tokens names d t us)
    starts_term (free v) p k us = refl
    starts_term (bound i) p k us = refl
    starts_term (app s ts) p k us = refl

    first_within : (t : Term) (p : Part) (k : List Frame) (us : List Token) → length k ≤ lim.levels → is_formed_term_at d t ≡ true → Reach (at WantUnit p k) (term_tokens names d t us) → length k + term_levels t ≤ lim.levels
    first_within t p k us few h r = term_within t Lead [] p k us few h (sym (starts_term t p k us) ∙ r)

    sides_within : (sign : Bool) (s : Sym) (ts : Terms) (p : Part) (k : List Frame) (us : List Token) → is_equality s ts ≡ true → length k ≤ lim.levels → are_formed_terms_at d ts ≡ true
        → Reach (at WantUnit p k) (sides_tokens names d sign ts us) → length k + list_levels ts ≤ lim.levels
    sides_within sign s (cons t (cons u nil)) p k us e few h r =
        let formed = (and_parts _ (is_formed_term_at d u && true) h).0 in
        let vs = Equality sign ∷ term_tokens names d u us in
        let one : length k + term_levels t ≤ lim.levels = first_within t p k vs few formed r in
        let behind = term_moves t Lead [] p k vs one formed tt (sym (starts_term t p k vs) ∙ r) in
        let two : length k + term_levels u ≤ lim.levels = term_within u (Right sign (opened_term names d 0 t)) [] p k us few (and_parts _ true (and_parts (is_formed_term_at d t) _ h).1).0 behind in
        omega arith
    sides_within sign s nil p k us e few h r = cc
    sides_within sign s (cons t nil) p k us e few h r = cc
    sides_within sign s (cons t (cons u (cons v vs))) p k us e few h r = cc

    module _ (s : Sym) (ts : Terms) (p : Part) (k : List Frame) (us : List Token) (few : length k ≤ lim.levels) (h : is_formed_at d (atom (plain s) ts) ≡ true) where
      atom_within : Reach (at WantUnit p k) (atom_tokens names d true s ts us) → length k + atom_levels s ts ≤ lim.levels
      atom_within =
          elim (is_equality s ts) as (λ (b : Bool). is_equality s ts ≡ b → Reach (at WantUnit p k) (if b then sides_tokens names d true ts us else term_tokens names d (app s ts) us)
          → length k + (if b then list_levels ts else argument_levels ts) ≤ lim.levels) [
            | true ↦ λ e. sides_within true s ts p k us e few (and_parts _ (are_formed_terms_at d ts) h).1
            | false ↦ λ e. first_within (app s ts) p k us few h
          ] refl

      negated_atom_within : Reach (at WantUnit p k) (negated_tokens names d (atom (plain s) ts) (atom_tokens names d true s ts) us) → length k + negation_levels (atom (plain s) ts) (atom_levels s ts) ≤ lim.levels
      negated_atom_within =
          elim (is_equality s ts) as (λ (b : Bool). is_equality s ts ≡ b
          → Reach (at WantUnit p k) (if b then sides_tokens names d false ts us else Negation ∷ (if b then sides_tokens names d true ts us else term_tokens names d (app s ts) us))
          → length k + (if b then (if b then list_levels ts else argument_levels ts) else suc (if b then list_levels ts else argument_levels ts)) ≤ lim.levels) [
            | true ↦ λ e. sides_within false s ts p k us e few (and_parts _ (are_formed_terms_at d ts) h).1
            | false ↦ λ e r.
                let inside = limit_kept levels (suc (length k)) (at WantUnit p (Negated ∷ k)) (term_tokens names d (app s ts) us) r in
                let fits : suc (length k) + argument_levels ts ≤ lim.levels = first_within (app s ts) p (Negated ∷ k) us inside.0 h inside.1 in
                omega arith
          ] refl

  -- behind a unit that is the first member of a chain, and behind a further one
  chain_begins : (c : ChainOperator) (f : Formula) (k : List Frame) (us : List Token) → IsSettled k → Reach (at (AfterUnit f) First k) (Chain c ∷ us) → (1 ≤ lim.operators) × Reach (at WantUnit (Chained c f 1) k) us
  chain_begins c f [] us s r = limit_kept operators 1 (at WantUnit (Chained c f 1) []) us r
  chain_begins c f (Group p ∷ k) us s r = limit_kept operators 1 (at WantUnit (Chained c f 1) (Group p ∷ k)) us r
  chain_begins c f (Negated ∷ k) us s r = absurd s
  chain_begins c f (Quantified q vs ∷ k) us s r = absurd s

  chain_goes_on : (c : ChainOperator) (e f : Formula) (n : ℕ) (k : List Frame) (us : List Token) → IsSettled k → Reach (at (AfterUnit f) (Chained c e n) k) (Chain c ∷ us)
      → (suc n ≤ lim.operators) × Reach (at WantUnit (Chained c (chained_by c e f) (suc n)) k) us
  chain_goes_on And e f n [] us s r = limit_kept operators (suc n) (at WantUnit (Chained And (chained_by And e f) (suc n)) []) us r
  chain_goes_on Or e f n [] us s r = limit_kept operators (suc n) (at WantUnit (Chained Or (chained_by Or e f) (suc n)) []) us r
  chain_goes_on And e f n (Group p ∷ k) us s r = limit_kept operators (suc n) (at WantUnit (Chained And (chained_by And e f) (suc n)) (Group p ∷ k)) us r
  chain_goes_on Or e f n (Group p ∷ k) us s r = limit_kept operators (suc n) (at WantUnit (Chained Or (chained_by Or e f) (suc n)) (Group p ∷ k)) us r
  chain_goes_on c e f n (Negated ∷ k) us s r = absurd s
  chain_goes_on c e f n (Quantified q vs ∷ k) us s r = absurd s

  joins_second : (f : Formula) (k : List Frame) (us : List Token) → IsSettled k → Reach (at (AfterUnit f) First k) (Binary Implies ∷ us) → Reach (at WantUnit (Joined Implies f) k) us
  joins_second f [] us s r = r
  joins_second f (Group p ∷ k) us s r = r
  joins_second f (Negated ∷ k) us s r = absurd s
  joins_second f (Quantified q vs ∷ k) us s r = absurd s

  -- what the reading of the left part of a chain shows, and that of a formula at each place
  record LeftPart (c : ChainOperator) (n : ℕ) (k : List Frame) (f : Formula) (f_read : Formula) (depth_of : ℕ) (us : List Token) : Type 0 where
    fits : length k + depth_of ≤ lim.levels
    short : AreChainsWithin lim.operators f
    few : suc n ≤ lim.operators
    reach : Reach (at WantUnit (Chained c f_read (suc n)) k) us

  abbrev Fits : List Frame → ℕ → Formula → Type 0
  Fits k n f = (length k + n ≤ lim.levels) × AreChainsWithin lim.operators f

  abbrev UnitWithin : ℕ → Formula → Type 0
  UnitWithin d f = (p : Part) (k : List Frame) (us : List Token) → length k ≤ lim.levels → Reach (at WantUnit p k) (unit_tokens f (formula_tokens names d f) us) → Fits k (unit_levels f (formula_levels f)) f

  abbrev WholeWithin : ℕ → Formula → Type 0
  WholeWithin d f = (k : List Frame) (us : List Token) → IsSettled k → length k ≤ lim.levels → Reach (at WantUnit First k) (formula_tokens names d f us) → Fits k (formula_levels f) f

  abbrev LeftWithin : ℕ → Formula → ChainOperator → Type 0
  LeftWithin d f c = (k : List Frame) (us : List Token) → IsSettled k → length k ≤ lim.levels → Reach (at WantUnit First k) (left_tokens c f (formula_tokens names d f) (Chain c ∷ us))
      → LeftPart c (chain_operators c f) k f (opened names d 0 f) (left_levels c f (formula_levels f)) us

  record Within (d : ℕ) (f : Formula) : Type 0 where
    unit : UnitWithin d f
    whole : WholeWithin d f
    left : (c : ChainOperator) → LeftWithin d f c

  module _ (rising : AreRising names) (some : 1 ≤ lim.variables) where
    unit_moves : (d : ℕ) (f : Formula) → is_formed_at d f ≡ true → AreApart names f → (p : Part) (k : List Frame) (us : List Token) → Fits k (unit_levels f (formula_levels f)) f → BehindUnit us
        → Reach (at WantUnit p k) (unit_tokens f (formula_tokens names d f) us) → Reach (at (AfterUnit (opened names d 0 f)) p k) us
    unit_moves d f h apart p k us fits behind r =
        let l = unit_levels f (formula_levels f) in
        sym (unit_read lim l (unit_tokens f (formula_tokens names d f) us) us (opened names d 0 f) (unit_reads lim names rising some d f l us h apart fits.1 (omega arith)) behind p k fits.0) ∙ r

    -- a unit as the left part of a chain
    unit_left : (c : ChainOperator) (d : ℕ) (f : Formula) → is_formed_at d f ≡ true → AreApart names f → UnitWithin d f → (k : List Frame) (us : List Token) → IsSettled k → length k ≤ lim.levels
        → Reach (at WantUnit First k) (unit_tokens f (formula_tokens names d f) (Chain c ∷ us)) → LeftPart c 0 k f (opened names d 0 f) (unit_levels f (formula_levels f)) us
    unit_left c d f h apart unit k us settled few r =
        let shown = unit First k (Chain c ∷ us) few r in
        let begun = chain_begins c (opened names d 0 f) k us settled (unit_moves d f h apart First k (Chain c ∷ us) shown tt r) in
        record { fits = shown.0; short = shown.1; few = begun.0; reach = begun.1 }

    -- a formula that is a unit without parentheses
    plain_within : (d : ℕ) (f : Formula) → is_formed_at d f ≡ true → AreApart names f → is_binary f ≡ false → UnitWithin d f → Within d f
    plain_within d (and f g) h apart plain unit = cc
    plain_within d (or f g) h apart plain unit = cc
    plain_within d (imp f g) h apart plain unit = cc
    plain_within d f h apart plain unit = record { unit = unit; whole = λ k us settled few r. unit First k us few r; left = of_each (LeftWithin d f) (unit_left And d f h apart unit) (unit_left Or d f h apart unit) }

    -- the connectives
    group_within : (d : ℕ) (f : Formula) → WholeWithin d f → (p : Part) (k : List Frame) (us : List Token) → length k ≤ lim.levels → Reach (at WantUnit p k) (enclosed (formula_tokens names d f) us) → Fits k (suc (formula_levels f)) f
    group_within d f whole p k us few r =
        let inside = limit_kept levels (suc (length k)) (at WantUnit First (Group p ∷ k)) (formula_tokens names d f (Close ∷ us)) r in
        let shown = whole (Group p ∷ k) (Close ∷ us) tt inside.0 inside.1 in
        let fits : suc (length k) + formula_levels f ≤ lim.levels = shown.0 in
        (omega arith, shown.1)

    module _ (d : ℕ) (f g : Formula) (h : is_formed_at d f ≡ true) (i : is_formed_at d g ≡ true) (f_apart : AreApart names f) (g_apart : AreApart names g) (p : Within d f) (q : Within d g) where
      module _ (c : ChainOperator) where
        abbrev joint : List Token → List Token
        joint us = left_tokens c f (formula_tokens names d f) (Chain c ∷ unit_tokens g (formula_tokens names d g) us)

        abbrev joint_levels : ℕ
        joint_levels = max (left_levels c f (formula_levels f)) (unit_levels g (formula_levels g))

        -- both parts, and what is reached behind them
        record Joint (k : List Frame) (us : List Token) : Type 0 where
          fits : length k + joint_levels ≤ lim.levels
          few : suc (chain_operators c f) ≤ lim.operators
          short : AreChainsWithin lim.operators f × AreChainsWithin lim.operators g
          reach : BehindUnit us → Reach (at (AfterUnit (opened names d 0 g)) (Chained c (opened names d 0 f) (suc (chain_operators c f))) k) us

        chain_within : (k : List Frame) (us : List Token) → IsSettled k → length k ≤ lim.levels → Reach (at WantUnit First k) (joint us) → Joint k us
        chain_within k us settled few r =
            let part = Chained c (opened names d 0 f) (suc (chain_operators c f)) in
            let left = p.left c k (unit_tokens g (formula_tokens names d g) us) settled few r in
            let right = q.unit part k us few left.reach in
            let one : length k + left_levels c f (formula_levels f) ≤ lim.levels = left.fits in
            let two : length k + unit_levels g (formula_levels g) ≤ lim.levels = right.0 in
            record { fits = omega arith; few = left.few; short = (left.short, right.1); reach = λ behind. unit_moves d g i g_apart part k us right behind left.reach }

        chain_left : (k : List Frame) (us : List Token) → IsSettled k → length k ≤ lim.levels → (w : Joint k (Chain c ∷ us))
            → (suc (suc (chain_operators c f)) ≤ lim.operators) × Reach (at WantUnit (Chained c (chained_by c (opened names d 0 f) (opened names d 0 g)) (suc (suc (chain_operators c f)))) k) us
        chain_left k us settled few w = chain_goes_on c (opened names d 0 f) (opened names d 0 g) (suc (chain_operators c f)) k us settled (w.reach tt)

      and_whole : WholeWithin d (and f g)
      and_whole k us settled few r = let w = chain_within And k us settled few r in (w.fits, (w.few, w.short))

      or_whole : WholeWithin d (or f g)
      or_whole k us settled few r = let w = chain_within Or k us settled few r in (w.fits, (w.few, w.short))

      imp_whole : WholeWithin d (imp f g)
      imp_whole k us settled few r =
          let vs = unit_tokens g (formula_tokens names d g) us in
          let left = p.unit First k (Binary Implies ∷ vs) few r in
          let behind = joins_second (opened names d 0 f) k vs settled (unit_moves d f h f_apart First k (Binary Implies ∷ vs) left tt r) in
          let right = q.unit (Joined Implies (opened names d 0 f)) k us few behind in
          let one : length k + unit_levels f (formula_levels f) ≤ lim.levels = left.0 in
          let two : length k + unit_levels g (formula_levels g) ≤ lim.levels = right.0 in
          (omega arith, (left.1, right.1))

      module _ (both : is_formed_at d (and f g) ≡ true) (apart : AreApart names (and f g)) where
        and_within : Within d (and f g)
        and_within = record {
          unit = group_within d (and f g) and_whole;
          whole = and_whole;
          left = of_each (LeftWithin d (and f g))
              (λ k us settled few r. let w = chain_within And k (Chain And ∷ us) settled few r in let next = chain_left And k us settled few w in record { fits = w.fits; short = (w.few, w.short); few = next.0; reach = next.1 })
              (unit_left Or d (and f g) both apart (group_within d (and f g) and_whole));
        }

        or_within : Within d (or f g)
        or_within = record {
          unit = group_within d (or f g) or_whole;
          whole = or_whole;
          left = of_each (LeftWithin d (or f g)) (unit_left And d (or f g) both apart (group_within d (or f g) or_whole))
              (λ k us settled few r. let w = chain_within Or k (Chain Or ∷ us) settled few r in let next = chain_left Or k us settled few w in record { fits = w.fits; short = (w.few, w.short); few = next.0; reach = next.1 });
        }

        imp_within : Within d (imp f g)
        imp_within = record {
          unit = group_within d (imp f g) imp_whole;
          whole = imp_whole;
          left = of_each (LeftWithin d (imp f g)) (unit_left And d (imp f g) both apart (group_within d (imp f g) imp_whole)) (unit_left Or d (imp f g) both apart (group_within d (imp f g) imp_whole));
        }

    negation_within : (d : ℕ) (f : Formula) → Within d f → (p : Part) (k : List Frame) (us : List Token) → Reach (at WantUnit p k) (Negation ∷ unit_tokens f (formula_tokens names d f) us) → Fits k (suc (unit_levels f (formula_levels f))) f
    negation_within d f q p k us r =
        let inside = limit_kept levels (suc (length k)) (at WantUnit p (Negated ∷ k)) (unit_tokens f (formula_tokens names d f) us) r in
        let shown = q.unit p (Negated ∷ k) us inside.0 inside.1 in
        let fits : suc (length k) + unit_levels f (formula_levels f) ≤ lim.levels = shown.0 in
        (omega arith, shown.1)

    quantified_within : (q : Quantifier) (n d : ℕ) (f : Formula) → Within d f → (p : Part) (k : List Frame) (us : List Token) → Reach (at WantUnit p k) (head_tokens q n (unit_tokens f (formula_tokens names d f) us)) → Fits k (suc (unit_levels f (formula_levels f))) f
    quantified_within q n d f b p k us r =
        let ts = CloseSquare ∷ Colon ∷ unit_tokens f (formula_tokens names d f) us in
        let inside = limit_kept levels (suc (length k)) (at (WantSquare q) p k) (OpenSquare ∷ Variable (Num n) ∷ ts) r in
        let named = limit_kept variables 1 (at (AfterVariable q (Num n ∷ [])) p k) ts inside.1 in
        let shown = b.unit p (Quantified q (Num n ∷ []) ∷ k) us inside.0 named.1 in
        let fits : suc (length k) + unit_levels f (formula_levels f) ≤ lim.levels = shown.0 in
        (omega arith, shown.1)

    abbrev IsWithin : ℕ → Formula → Type 0
    IsWithin d f = is_formed_at d f ≡ true → AreApart names f → Within d f

    -- what the connectives ask of their parts
    abbrev Binds : (Formula → Formula → Formula) → Type 0
    Binds c = (d : ℕ) (f g : Formula) → is_formed_at d f ≡ true → is_formed_at d g ≡ true → AreApart names f → AreApart names g → Within d f → Within d g → is_formed_at d (and f g) ≡ true → AreApart names (and f g) → Within d (c f g)

    both_within : (c : Formula → Formula → Formula) → Binds c → (d : ℕ) (f g : Formula) → IsWithin d f → IsWithin d g → is_formed_at d (and f g) ≡ true → AreApart names (and f g) → Within d (c f g)
    both_within c bind d f g p q h apart =
        let formed = and_parts (is_formed_at d f) (is_formed_at d g) h in
        let f_apart : AreApart names f = λ n. (or_parts _ _ (apart n)).0 in
        let g_apart : AreApart names g = λ n. (or_parts _ _ (apart n)).1 in
        bind d f g formed.0 formed.1 f_apart g_apart (p formed.0 f_apart) (q formed.1 g_apart) h apart

    within : (d : ℕ) (f : Formula) → IsWithin d f
    within d (atom q ts) h apart =
        plain_within d (atom q ts) h apart refl (λ p k us few r. (atom_within d (pred_symbol q) ts p k us few (formed_application d q ts h) r, tt))
    within d top h apart = plain_within d top h apart refl (λ p k us few r. (omega arith, tt))
    within d bot h apart = plain_within d bot h apart refl (λ p k us few r. (omega arith, tt))
    within d (not (atom q ts)) h apart =
        plain_within d (not (atom q ts)) h apart refl (λ p k us few r. (negated_atom_within d (pred_symbol q) ts p k us few (formed_application d q ts h) r, tt))
    within d (not f) h apart = let q = within d f h apart in plain_within d (not f) h apart refl (λ p k us few r. negation_within d f q p k us r)
    within d (and f g) h apart = both_within and and_within d f g (within d f) (within d g) h apart
    within d (or f g) h apart = both_within or or_within d f g (within d f) (within d g) h apart
    within d (imp f g) h apart = both_within imp imp_within d f g (within d f) (within d g) h apart
    within d (all f) h apart = let q = within (d + 1) f h apart in plain_within d (all f) h apart refl (λ p k us few r. quantified_within All (names d) (d + 1) f q p k us r)
    within d (ex f) h apart = let q = within (d + 1) f h apart in plain_within d (ex f) h apart refl (λ p k us few r. quantified_within Ex (names d) (d + 1) f q p k us r)

    pub formula_within : (f : Formula) (us : List Token) → is_formed_at 0 f ≡ true → AreApart names f → Reach (at WantUnit First []) (formula_tokens names 0 f us) → Fits [] (formula_levels f) f
    formula_within f us h apart r = (within 0 f h apart).whole [] us tt (omega arith) r
