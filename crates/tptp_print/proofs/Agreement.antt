-- A text depends on the names of those quantifiers alone that stand around its parts.
use Rattle.std.proofs.Common.{◌≡◌, ℕ, ◌+◌, ◌-◌, ◌<◌, ◌≤◌, true, ◌&&◌, cond, eqb, List, ◌∷◌, ◌++◌, refl, ap, arith}
use Rattle.std.specs.Prelude.{nat_lt, codes}
use Rattle.std.proofs.lemmas.Bool.{and_parts, and_from}
use Rattle.std.proofs.lemmas.Bool.Decides.{nat_tests}
use Rattle.fol.specs.declared.symbols.Sym.{Sym}
use Rattle.fol.specs.Syntax.{Term, free, bound, app, Terms, nil, cons, Pred, pred_symbol, Formula, atom, top, bot, not, and, or, imp, all, ex}
use Rattle.fol.specs.Formed.{is_formed_sym, is_formed_pred, is_formed_term_at, are_formed_terms_at, is_formed_at, count_terms}
use Rattle.fol.proofs.FormedPredicates.{formed_symbol}
use Rattle.tptp_print.specs.Canonical.{name_text, numbered_text, term_text, args_text, more_text, is_equals, is_equality, atom_text, unit_of, left_of_and, left_of_or, negated, head_text, formula_text, quantifier_depth}

-- an atom is well formed as its name with its arguments is, whatever the body
pub formed_application : (k : ℕ) (p : Pred) (ts : Terms) → (is_formed_pred p && eqb (count_terms ts) (pred_symbol p).arity && are_formed_terms_at k ts) ≡ true
    → (is_formed_sym (pred_symbol p) && eqb (count_terms ts) (pred_symbol p).arity && are_formed_terms_at k ts) ≡ true
formed_application k p ts h =
    let outer = and_parts (is_formed_pred p && eqb (count_terms ts) (pred_symbol p).arity) (are_formed_terms_at k ts) h in
    let inner = and_parts (is_formed_pred p) (eqb (count_terms ts) (pred_symbol p).arity) outer.0 in
    and_from (is_formed_sym (pred_symbol p) && eqb (count_terms ts) (pred_symbol p).arity) (are_formed_terms_at k ts)
    (and_from (is_formed_sym (pred_symbol p)) (eqb (count_terms ts) (pred_symbol p).arity) (formed_symbol p inner.0) inner.1) outer.1

-- the names agree below a depth
abbrev pub Agree : (ℕ → ℕ) → (ℕ → ℕ) → ℕ → Type 0
Agree n m most = (d : ℕ) → d < most → n d ≡ m d

module _ (n m : ℕ → ℕ) (most : ℕ) (same : Agree n m most) where
  args_of : (k : ℕ) (s : Sym) (ts : Terms) → (is_formed_sym s && eqb (count_terms ts) s.arity && are_formed_terms_at k ts) ≡ true → are_formed_terms_at k ts ≡ true
  args_of k s ts p = (and_parts (is_formed_sym s && eqb (count_terms ts) s.arity) (are_formed_terms_at k ts) p).1

  mutual
    pub term_agrees : (k : ℕ) → k ≤ most → (t : Term) → is_formed_term_at k t ≡ true → term_text n k t ≡ term_text m k t
    term_agrees k le (free v) p = refl
    term_agrees k le (bound i) p =
        let test = (and_parts (nat_lt i k) (nat_lt i 4294967296) p).0 in
        let below : i < k = grind (arith, nat_tests) in
        ap numbered_text (same (k - (i + 1)) (omega arith))
    term_agrees k le (app s ts) p = ap (λ (x : List ℕ). name_text s.name ++ x) (args_agree k le ts (args_of k s ts p))

    args_agree : (k : ℕ) → k ≤ most → (ts : Terms) → are_formed_terms_at k ts ≡ true → args_text n k ts ≡ args_text m k ts
    args_agree k le nil p = refl
    args_agree k le (cons t ts) p =
        let parts = and_parts (is_formed_term_at k t) (are_formed_terms_at k ts) p in
        λ i. 40 ∷ (term_agrees k le t parts.0 i ++ more_agree k le ts parts.1 i)

    more_agree : (k : ℕ) → k ≤ most → (ts : Terms) → are_formed_terms_at k ts ≡ true → more_text n k ts ≡ more_text m k ts
    more_agree k le nil p = refl
    more_agree k le (cons t ts) p =
        let parts = and_parts (is_formed_term_at k t) (are_formed_terms_at k ts) p in
        λ i. 44 ∷ (term_agrees k le t parts.0 i ++ more_agree k le ts parts.1 i)

  atom_agrees : (k : ℕ) → k ≤ most → (between : List ℕ) (s : Sym) (ts : Terms)
      → (is_formed_sym s && eqb (count_terms ts) s.arity && are_formed_terms_at k ts) ≡ true → atom_text n k between s ts ≡ atom_text m k between s ts
  atom_agrees k le between s nil p = refl
  atom_agrees k le between s (cons t nil) p = ap (λ (x : List ℕ). name_text s.name ++ x) (args_agree k le (cons t nil) (args_of k s (cons t nil) p))
  atom_agrees k le between s (cons t (cons u nil)) p =
      let formed = args_of k s (cons t (cons u nil)) p in
      let both = and_parts (is_formed_term_at k t) (is_formed_term_at k u && true) formed in
      let second = (and_parts (is_formed_term_at k u) true both.1).0 in
      λ i. cond (is_equals s.name) (term_agrees k le t both.0 i ++ between ++ term_agrees k le u second i)
      (name_text s.name ++ args_agree k le (cons t (cons u nil)) formed i)
  atom_agrees k le between s (cons t (cons u (cons v vs))) p =
      let ts = cons t (cons u (cons v vs)) in ap (λ (x : List ℕ). name_text s.name ++ x) (args_agree k le ts (args_of k s ts p))

  negated_agrees : (k : ℕ) → k ≤ most → (f : Formula) (x y : List ℕ) → is_formed_at k f ≡ true → x ≡ y → negated n k f x ≡ negated m k f y
  negated_agrees k le (atom q ts) x y p e =
      λ i. cond (is_equality (pred_symbol q) ts) (atom_agrees k le (codes " != ") (pred_symbol q) ts (formed_application k q ts p) i) (126 ∷ e i)
  negated_agrees k le top x y p e = λ i. 126 ∷ e i
  negated_agrees k le f x y p e = λ i. 126 ∷ unit_of f (e i)

  pub formula_agrees : (k : ℕ) (f : Formula) → k + quantifier_depth f ≤ most → is_formed_at k f ≡ true → formula_text n k f ≡ formula_text m k f
  formula_agrees k (atom q ts) le p = atom_agrees k (omega arith) (codes " = ") (pred_symbol q) ts (formed_application k q ts p)
  formula_agrees k top le p = refl
  formula_agrees k bot le p = refl
  formula_agrees k (not f) le p = negated_agrees k (omega arith) f _ _ p (formula_agrees k f le p)
  formula_agrees k (and f g) le p =
      let parts = and_parts (is_formed_at k f) (is_formed_at k g) p in
      λ i. left_of_and f (formula_agrees k f (omega arith) parts.0 i) ++ codes " & " ++ unit_of g (formula_agrees k g (omega arith) parts.1 i)
  formula_agrees k (or f g) le p =
      let parts = and_parts (is_formed_at k f) (is_formed_at k g) p in
      λ i. left_of_or f (formula_agrees k f (omega arith) parts.0 i) ++ codes " | " ++ unit_of g (formula_agrees k g (omega arith) parts.1 i)
  formula_agrees k (imp f g) le p =
      let parts = and_parts (is_formed_at k f) (is_formed_at k g) p in
      λ i. unit_of f (formula_agrees k f (omega arith) parts.0 i) ++ codes " => " ++ unit_of g (formula_agrees k g (omega arith) parts.1 i)
  formula_agrees k (all f) le p =
      λ i. head_text 33 (same k (omega arith) i) ++ unit_of f (formula_agrees (k + 1) f (omega arith) p i)
  formula_agrees k (ex f) le p =
      λ i. head_text 63 (same k (omega arith) i) ++ unit_of f (formula_agrees (k + 1) f (omega arith) p i)
