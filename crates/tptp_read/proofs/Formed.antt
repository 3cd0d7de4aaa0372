-- What the grammar reads of well-formed tokens is well formed.
use Rattle.std.proofs.Common.{◌≡◌, ℕ, suc, ◌+◌, ◌*◌, ◌^◌, ◌<◌, ◌≤◌, Bool, true, false, ◌==◌, ◌&&◌, max, List, [], ◌∷◌, length, refl, ap, arith}
use Rattle.std.proofs.Math.Nat.{suc-mul}
use Rattle.std.proofs.lemmas.Bool.{and_from}
use Rattle.std.proofs.lemmas.Bool.Decides.{nat_tests}
use Rattle.fol.specs.declared.symbols.Var.{Var}
use Rattle.fol.specs.Syntax.{Term, app, Terms, nil, cons, plain, Formula, atom, top, bot, not, and, or, imp, all, ex}
use Rattle.fol.specs.Formed.{is_name, count_terms, is_formed_term_at, are_formed_terms_at, is_formed_at, IsFormed, IsFormedTerm}
use Rattle.substitution.specs.Instance.{bind_at, nesting}
use Rattle.substitution.proofs.InstanceFormed.{formed-bind}
use Rattle.tptp_tokens.specs.declared.tokens.Quantifier.{Quantifier}
use Rattle.tptp_tokens.specs.declared.tokens.Quantifier.TheVariants.{All, Ex}
use Rattle.tptp_tokens.specs.declared.tokens.ChainOperator.{ChainOperator}
use Rattle.tptp_tokens.specs.declared.tokens.ChainOperator.TheVariants.{And, Or}
use Rattle.tptp_tokens.specs.declared.tokens.BinaryOperator.{BinaryOperator}
use Rattle.tptp_tokens.specs.declared.tokens.BinaryOperator.TheVariants.{Implies, ImpliedBy, Equivalent, Different, Nor, Nand}
use Rattle.tptp_tokens.specs.declared.tokens.Token.{Token}
use Rattle.tptp_tokens.specs.declared.tokens.Token.TheVariants.{Equality, Chain, Binary, Close, Comma}
use Rattle.tptp_tokens.specs.Formed.{AreFormedTokens}
use Rattle.tptp_tokens.specs.Stream.{ends}
use Rattle.tptp_tokens.proofs.FormedTokens.{tokens_formed}
use Rattle.tptp_read.specs.declared.state.Limits.{Limits}
use Rattle.tptp_read.specs.declared.state.TheConstants.{LIMITS}
use Rattle.tptp_read.specs.Meaning.{chained_by, joined_by, truth, equation, equality_sym, application, quantified, quantified_by}
use Rattle.tptp_read.specs.Grammar.{IsTerm, variable, constant, applied, IsArguments, last_argument, argument, IsVariables, next_variable, IsBehindVariable, all_variables, more_variables, IsUnit, truth_value, predicate, equality, negation, group, quantifier, IsQuantified, body, IsFormula, alone, binary, chain, IsMembers, last_member, member}
use Rattle.tptp_read.specs.Texts.{IsFormulaText, IsTermText}

same_number : (n : ℕ) → (n == n) ≡ true
same_number n = grind (arith, nat_tests)

-- a symbol whose arity is the number of its arguments
symbol_formed : (x : List ℕ) (xs : Terms) → is_name x ≡ true → are_formed_terms_at 0 xs ≡ true → is_formed_term_at 0 (application x xs) ≡ true
symbol_formed x xs p q = and_from (is_name x && count_terms xs == count_terms xs) (are_formed_terms_at 0 xs) (and_from (is_name x) (count_terms xs == count_terms xs) p (same_number (count_terms xs))) q

pair_formed : (s t : Term) → is_formed_term_at 0 s ≡ true → is_formed_term_at 0 t ≡ true → is_formed_at 0 (atom (plain equality_sym) (cons s (cons t nil))) ≡ true
pair_formed s t p q = and_from (is_formed_term_at 0 s) (is_formed_term_at 0 t && true) p (and_from (is_formed_term_at 0 t) true q refl)

-- binding keeps the number of quantifiers inside one another
nesting_bound : (v : Var) (f : Formula) (k : ℕ) → nesting (bind_at v k f) ≡ nesting f
nesting_bound v (atom s xs) k = refl
nesting_bound v top k = refl
nesting_bound v bot k = refl
nesting_bound v (not f) k = nesting_bound v f k
nesting_bound v (and f g) k = λ i. max (nesting_bound v f k i) (nesting_bound v g k i)
nesting_bound v (or f g) k = λ i. max (nesting_bound v f k i) (nesting_bound v g k i)
nesting_bound v (imp f g) k = λ i. max (nesting_bound v f k i) (nesting_bound v g k i)
nesting_bound v (all f) k = ap (λ (n : ℕ). n + 1) (nesting_bound v f (k + 1))
nesting_bound v (ex f) k = ap (λ (n : ℕ). n + 1) (nesting_bound v f (k + 1))

-- a formula is well formed, and at most n quantifiers stand inside one another
pub record IsSound (n : ℕ) (f : Formula) : Type 0 where
  pub formed : is_formed_at 0 f ≡ true
  pub nested : nesting f ≤ n

deeper : (n m : ℕ) (f : Formula) → n ≤ m → IsSound n f → IsSound m f
deeper n m f le h = let nested : nesting f ≤ n = h.nested in record { formed = h.formed; nested = omega arith }

not_sound : (n : ℕ) (f : Formula) → IsSound n f → IsSound n (not f)
not_sound n f h = record { formed = h.formed; nested = h.nested }

and_sound : (n : ℕ) (f g : Formula) → IsSound n f → IsSound n g → IsSound n (and f g)
and_sound n f g h i =
    let a : nesting f ≤ n = h.nested in
    let b : nesting g ≤ n = i.nested in
    record { formed = and_from (is_formed_at 0 f) (is_formed_at 0 g) h.formed i.formed; nested = omega arith }

or_sound : (n : ℕ) (f g : Formula) → IsSound n f → IsSound n g → IsSound n (or f g)
or_sound n f g h i =
    let a : nesting f ≤ n = h.nested in
    let b : nesting g ≤ n = i.nested in
    record { formed = and_from (is_formed_at 0 f) (is_formed_at 0 g) h.formed i.formed; nested = omega arith }

imp_sound : (n : ℕ) (f g : Formula) → IsSound n f → IsSound n g → IsSound n (imp f g)
imp_sound n f g h i =
    let a : nesting f ≤ n = h.nested in
    let b : nesting g ≤ n = i.nested in
    record { formed = and_from (is_formed_at 0 f) (is_formed_at 0 g) h.formed i.formed; nested = omega arith }

chained_sound : (c : ChainOperator) (n : ℕ) (f g : Formula) → IsSound n f → IsSound n g → IsSound n (chained_by c f g)
chained_sound And n f g h i = and_sound n f g h i
chained_sound Or n f g h i = or_sound n f g h i

joined_sound : (b : BinaryOperator) (n : ℕ) (f g : Formula) → IsSound n f → IsSound n g → IsSound n (joined_by b f g)
joined_sound Implies n f g h i = imp_sound n f g h i
joined_sound ImpliedBy n f g h i = imp_sound n g f i h
joined_sound Equivalent n f g h i = and_sound n (imp f g) (imp g f) (imp_sound n f g h i) (imp_sound n g f i h)
joined_sound Different n f g h i = not_sound n (and (imp f g) (imp g f)) (and_sound n (imp f g) (imp g f) (imp_sound n f g h i) (imp_sound n g f i h))
joined_sound Nor n f g h i = not_sound n (or f g) (or_sound n f g h i)
joined_sound Nand n f g h i = not_sound n (and f g) (and_sound n f g h i)

truth_sound : (b : Bool) (n : ℕ) → IsSound n (truth b)
truth_sound true n = record { formed = refl; nested = omega arith }
truth_sound false n = record { formed = refl; nested = omega arith }

equation_sound : (sign : Bool) (n : ℕ) (s t : Term) → is_formed_term_at 0 s ≡ true → is_formed_term_at 0 t ≡ true → IsSound n (equation sign s t)
equation_sound true n s t p q = record { formed = pair_formed s t p q; nested = omega arith }
equation_sound false n s t p q = record { formed = pair_formed s t p q; nested = omega arith }

quantified_by_sound : (q : Quantifier) (v : Var) (n : ℕ) (f : Formula) → n < 2 ^ 32 → IsSound n f → IsSound (suc n) (quantified_by q v f)
quantified_by_sound All v n f small h =
    let a : nesting f ≤ n = h.nested in
    let b : nesting (bind_at v 0 f) ≡ nesting f = nesting_bound v f 0 in
    record { formed = formed-bind f v (omega arith) h.formed; nested = omega arith }
quantified_by_sound Ex v n f small h =
    let a : nesting f ≤ n = h.nested in
    let b : nesting (bind_at v 0 f) ≡ nesting f = nesting_bound v f 0 in
    record { formed = formed-bind f v (omega arith) h.formed; nested = omega arith }

quantified_sound : (q : Quantifier) (vs : List Var) (n : ℕ) (f : Formula) → length vs + n < 2 ^ 32 → IsSound n f → IsSound (length vs + n) (quantified q vs f)
quantified_sound q [] n f small h = deeper n (length {A = Var} [] + n) f (omega arith) h
quantified_sound q (v ∷ vs) n f small h =
    deeper (suc (length vs + n)) (length (v ∷ vs) + n) (quantified q (v ∷ vs) f) (omega arith)
    (quantified_by_sound q v (length vs + n) (quantified q vs f) (omega arith) (quantified_sound q vs n f (omega arith) h))

module _ (lim : Limits) where
  mutual
    term_formed : (l : ℕ) (ts us : List Token) (x : Term) → IsTerm lim l ts x us → AreFormedTokens ts → (is_formed_term_at 0 x ≡ true) × AreFormedTokens us
    term_formed l ts us x (variable l' us' v) p = (p.0, p.1)
    term_formed l ts us x (constant l' us' n) p = (symbol_formed n nil p.0 refl, p.1)
    term_formed l ts us x (applied l' ts' us' n xs args) p = let rest = arguments_formed l' ts' us' xs args p.1.1 in (symbol_formed n xs p.0 rest.0, rest.1)

    arguments_formed : (l : ℕ) (ts us : List Token) (xs : Terms) → IsArguments lim l ts xs us → AreFormedTokens ts → (are_formed_terms_at 0 xs ≡ true) × AreFormedTokens us
    arguments_formed l ts us xs (last_argument l' ts' us' t u) p = let one = term_formed l' ts' (Close ∷ us') t u p in (and_from (is_formed_term_at 0 t) true one.0 refl, one.1.1)
    arguments_formed l ts us xs (argument l' ts' us' vs' t ys u rest) p =
        let one = term_formed l' ts' (Comma ∷ us') t u p in
        let more = arguments_formed l' us' vs' ys rest one.1.1 in
        (and_from (is_formed_term_at 0 t) (are_formed_terms_at 0 ys) one.0 more.0, more.1)

  mutual
    variables_formed : (n : ℕ) (ts us : List Token) (vs : List Var) → IsVariables lim n ts vs us → AreFormedTokens ts → AreFormedTokens us × (length vs + n ≤ lim.variables)
    variables_formed n ts us vs (next_variable n' ts' us' v ws fits rest) p = let more = behind_formed (suc n') ts' us' ws rest fits p.1 in (more.0, omega (arith, more.1))

    behind_formed : (n : ℕ) (ts us : List Token) (vs : List Var) → IsBehindVariable lim n ts vs us → n ≤ lim.variables → AreFormedTokens ts → AreFormedTokens us × (length vs + n ≤ lim.variables)
    behind_formed n ts us vs (all_variables n' us') fits p = (p.1.1, omega arith)
    behind_formed n ts us vs (more_variables n' ts' us' ws rest) fits p = variables_formed n' ts' us' ws rest p.1

  -- one level more has room for the variables of one quantifier more
  room : (l : ℕ) → suc l * lim.variables ≡ l * lim.variables + lim.variables
  room l = suc-mul l lim.variables

  mutual
    unit_formed : (l : ℕ) (ts us : List Token) (f : Formula) → IsUnit lim l ts f us → l * lim.variables < 2 ^ 32 → AreFormedTokens ts → IsSound (l * lim.variables) f × AreFormedTokens us
    unit_formed l ts us f (truth_value l' us' b) small p = (truth_sound b (l' * lim.variables), p.1)
    unit_formed l ts us f (predicate l' ts' us' s xs t) small p = let one = term_formed l' ts' us' (app s xs) t p in (record { formed = one.0; nested = omega arith }, one.1)
    unit_formed l ts us f (equality l' ts' us' vs' sign x y t u) small p =
        let one = term_formed l' ts' (Equality sign ∷ us') x t p in
        let two = term_formed l' us' vs' y u one.1.1 in
        (equation_sound sign (l' * lim.variables) x y one.0 two.0, two.1)
    unit_formed l ts us f (negation l' ts' us' g u) small p =
        let more = room l' in
        let inner = unit_formed l' ts' us' g u (omega arith) p.1 in
        (deeper (l' * lim.variables) (suc l' * lim.variables) (not g) (omega arith) (not_sound (l' * lim.variables) g inner.0), inner.1)
    unit_formed l ts us f (group l' ts' us' g u) small p =
        let more = room l' in
        let inner = formula_formed l' ts' (Close ∷ us') g u (omega arith) p.1 in
        (deeper (l' * lim.variables) (suc l' * lim.variables) g (omega arith) inner.0, inner.1.1)
    unit_formed l ts us f (quantifier l' ts' us' q g u) small p = quantified_formed q l' ts' us' g u small p.1

    quantified_formed : (q : Quantifier) (l : ℕ) (ts us : List Token) (g : Formula) → IsQuantified lim q l ts g us → suc l * lim.variables < 2 ^ 32 → AreFormedTokens ts → IsSound (suc l * lim.variables) g × AreFormedTokens us
    quantified_formed q l ts us g (body q' l' ts' us' zs' vs f list u) small p =
        let more = room l' in
        let listed = variables_formed 0 ts' us' vs list p.1 in
        let count : length vs + 0 ≤ lim.variables = listed.1 in
        let inner = unit_formed l' us' zs' f u (omega arith) listed.0 in
        (deeper (length vs + l' * lim.variables) (suc l' * lim.variables) (quantified q' vs f) (omega arith) (quantified_sound q' vs (l' * lim.variables) f (omega arith) inner.0), inner.1)

    pub formula_formed : (l : ℕ) (ts us : List Token) (f : Formula) → IsFormula lim l ts f us → l * lim.variables < 2 ^ 32 → AreFormedTokens ts → IsSound (l * lim.variables) f × AreFormedTokens us
    formula_formed l ts us f (alone l' ts' us' g u) small p = unit_formed l' ts' us' g u small p
    formula_formed l ts us f (binary l' ts' us' vs' b g h u v) small p =
        let one = unit_formed l' ts' (Binary b ∷ us') g u small p in
        let two = unit_formed l' us' vs' h v small one.1.1 in
        (joined_sound b (l' * lim.variables) g h one.0 two.0, two.1)
    formula_formed l ts us f (chain l' ts' us' vs' c g h u rest) small p =
        let one = unit_formed l' ts' (Chain c ∷ us') g u small p in members_formed c l' 1 g h us' vs' rest small one.0 one.1.1

    members_formed : (c : ChainOperator) (l n : ℕ) (f h : Formula) (ts us : List Token) → IsMembers lim c l n f ts h us → l * lim.variables < 2 ^ 32 → IsSound (l * lim.variables) f → AreFormedTokens ts → IsSound (l * lim.variables) h × AreFormedTokens us
    members_formed c l n f h ts us (last_member c' l' n' f' g' ts' us' fits u) small s p =
        let one = unit_formed l' ts' us' g' u small p in (chained_sound c' (l' * lim.variables) f' g' s one.0, one.1)
    members_formed c l n f h ts us (member c' l' n' f' g' h' ts' us' vs' fits u rest) small s p =
        let one = unit_formed l' ts' (Chain c' ∷ us') g' u small p in
        members_formed c' l' (suc n') (chained_by c' f' g') h' us' vs' rest small (chained_sound c' (l' * lim.variables) f' g' s one.0) one.1.1

pub text_formed : (bytes : List ℕ) (f : Formula) → IsFormulaText bytes f → IsFormed f
text_formed bytes f text = (formula_formed LIMITS LIMITS.levels text.tokens [] f text.reads (omega arith) (tokens_formed bytes (ends text.length) text.tokens text.whole)).0.formed

pub term_text_formed : (bytes : List ℕ) (t : Term) → IsTermText bytes t → IsFormedTerm t
term_text_formed bytes t text = (term_formed LIMITS LIMITS.levels text.tokens [] t text.reads (tokens_formed bytes (ends text.length) text.tokens text.whole)).0
