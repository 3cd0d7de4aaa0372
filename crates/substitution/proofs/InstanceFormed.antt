-- An instance of an open body is well formed, and a formula with a variable bound is an open body.
use Rattle.std.proofs.Common.{◌≡◌, ℕ, ◌+◌, ◌^◌, ◌<◌, ◌≤◌, ltb, eqb, Bool, true, false, ◌==◌, ◌&&◌, if◌then◌else◌, refl, ap, ◌∙◌, arith}
use Rattle.std.proofs.lemmas.Bool.Decides.{nat_tests}
use Rattle.std.specs.Ordering.{eq_by_cmp}
use Rattle.fol.specs.declared.symbols.Var.{Var}
use Rattle.fol.specs.Syntax.{Term, free, bound, app, Terms, nil, cons, pred_symbol, Formula, atom, top, bot, not, and, or, imp, all, ex}
use Rattle.fol.specs.Order.{var_cmp}
use Rattle.fol.specs.Formed.{is_formed_sym, is_formed_pred, count_terms, is_formed_term_at, are_formed_terms_at, is_formed_at, IsFormed, IsFormedTerm}
use Rattle.substitution.proofs.Booleans.{and_left, and_right, and_both}
use Rattle.substitution.specs.Instance.{inst_term_at, inst_terms_at, inst_at, inst, bind_term_at, bind_terms_at, bind_at, bind, nesting, IsOpenBody}

below_more : (i k m w : ℕ) → k ≤ m → (ltb i k && ltb i w) ≡ true → (ltb i m && ltb i w) ≡ true
below_more i k m w le h = grind (arith, nat_tests)

mutual
  -- what is well formed inside k quantifiers is so inside more
  pub formed_deeper : (t : Term) (k m : ℕ) → k ≤ m → is_formed_term_at k t ≡ true → is_formed_term_at m t ≡ true
  formed_deeper (free v) k m le h = h
  formed_deeper (bound i) k m le h = below_more i k m (2 ^ 32) le h
  formed_deeper (app s ts) k m le h =
      and_both _ _ (and_left _ (are_formed_terms_at k ts) h) (formed_deeper_all ts k m le (and_right _ (are_formed_terms_at k ts) h))

  formed_deeper_all : (ts : Terms) (k m : ℕ) → k ≤ m → are_formed_terms_at k ts ≡ true → are_formed_terms_at m ts ≡ true
  formed_deeper_all nil k m le h = refl
  formed_deeper_all (cons t ts) k m le h =
      and_both _ _ (formed_deeper t k m le (and_left _ _ h)) (formed_deeper_all ts k m le (and_right (is_formed_term_at k t) _ h))

-- an atom with other terms is well formed where they are and are as many
pub formed_atom : (a : Bool) (n m arity : ℕ) (b c : Bool) → n ≡ m → (b ≡ true → c ≡ true) → (a && (m == arity) && b) ≡ true → (a && (n == arity) && c) ≡ true
formed_atom a n m arity b c same more h =
    and_both _ c (ap (λ k. a && (k == arity)) same ∙ and_left _ b h) (more (and_right _ b h))

count-inst_terms : (u : Term) (k : ℕ) (ts : Terms) → count_terms (inst_terms_at u k ts) ≡ count_terms ts
count-inst_terms u k nil = refl
count-inst_terms u k (cons t ts) = ap (λ n. n + 1) (count-inst_terms u k ts)

inst_bound : (u : Term) (i k w : ℕ) → (ltb i k ≡ true → is_formed_term_at k (bound i) ≡ true) → is_formed_term_at k u ≡ true → (ltb i (k + 1) && ltb i w) ≡ true
    → is_formed_term_at k (if i == k then u else bound i) ≡ true
inst_bound u i k w lower upper h =
    elim (eqb i k) as (λ b. eqb i k ≡ b → is_formed_term_at k (if b then u else bound i) ≡ true) [
      | true ↦ λ e. upper
      | false ↦ λ e. lower (let below : (ltb i (k + 1) && ltb i w) ≡ true = h in grind (arith, nat_tests))
    ] refl

mutual
  formed-inst_term : (u t : Term) (k : ℕ) → IsFormedTerm u → is_formed_term_at (k + 1) t ≡ true → is_formed_term_at k (inst_term_at u k t) ≡ true
  formed-inst_term u (free v) k f h = h
  formed-inst_term u (bound i) k f h =
      inst_bound u i k (2 ^ 32) (λ e. and_both _ _ e (and_right (ltb i (k + 1)) _ h)) (formed_deeper u 0 k (omega arith) f) h
  formed-inst_term u (app s ts) k f h =
      formed_atom (is_formed_sym s) _ _ s.arity _ _ (count-inst_terms u k ts) (formed-inst_terms u ts k f) h

  formed-inst_terms : (u : Term) (ts : Terms) (k : ℕ) → IsFormedTerm u → are_formed_terms_at (k + 1) ts ≡ true → are_formed_terms_at k (inst_terms_at u k ts) ≡ true
  formed-inst_terms u nil k f h = refl
  formed-inst_terms u (cons t ts) k f h =
      and_both _ _ (formed-inst_term u t k f (and_left _ _ h)) (formed-inst_terms u ts k f (and_right (is_formed_term_at (k + 1) t) _ h))

pub formed-inst_at : (u : Term) (f : Formula) (k : ℕ) → IsFormedTerm u → is_formed_at (k + 1) f ≡ true → is_formed_at k (inst_at u k f) ≡ true
formed-inst_at u (atom p ts) k f h = formed_atom (is_formed_pred p) _ _ (pred_symbol p).arity _ _ (count-inst_terms u k ts) (formed-inst_terms u ts k f) h
formed-inst_at u top k f h = refl
formed-inst_at u bot k f h = refl
formed-inst_at u (not a) k f h = formed-inst_at u a k f h
formed-inst_at u (and a b) k f h = and_both _ _ (formed-inst_at u a k f (and_left _ _ h)) (formed-inst_at u b k f (and_right (is_formed_at (k + 1) a) _ h))
formed-inst_at u (or a b) k f h = and_both _ _ (formed-inst_at u a k f (and_left _ _ h)) (formed-inst_at u b k f (and_right (is_formed_at (k + 1) a) _ h))
formed-inst_at u (imp a b) k f h = and_both _ _ (formed-inst_at u a k f (and_left _ _ h)) (formed-inst_at u b k f (and_right (is_formed_at (k + 1) a) _ h))
formed-inst_at u (all a) k f h = formed-inst_at u a (k + 1) f h
formed-inst_at u (ex a) k f h = formed-inst_at u a (k + 1) f h

-- an instance of an open body by a well-formed term is well formed
pub formed-inst : (f : Formula) (u : Term) → IsOpenBody f → IsFormedTerm u → IsFormed (inst f u)
formed-inst f u body term = formed-inst_at u f 0 term body

pub ruleset instance_formed = (formed-inst)

count-bind_terms : (v : Var) (k : ℕ) (ts : Terms) → count_terms (bind_terms_at v k ts) ≡ count_terms ts
count-bind_terms v k nil = refl
count-bind_terms v k (cons t ts) = ap (λ n. n + 1) (count-bind_terms v k ts)

index_fits : (k w : ℕ) → k < w → (ltb k (k + 1) && ltb k w) ≡ true
index_fits k w l = grind (arith, nat_tests)

mutual
  formed-bind_term : (v : Var) (t : Term) (k : ℕ) → k < 2 ^ 32 → is_formed_term_at k t ≡ true → is_formed_term_at (k + 1) (bind_term_at v k t) ≡ true
  formed-bind_term v (free w) k l h =
      elim (eq_by_cmp var_cmp v w) as (λ b. is_formed_term_at (k + 1) (if b then bound k else free w) ≡ true) [
        | true ↦ index_fits k (2 ^ 32) l
        | false ↦ h
      ]
  formed-bind_term v (bound i) k l h = below_more i k (k + 1) (2 ^ 32) (omega arith) h
  formed-bind_term v (app s ts) k l h =
      formed_atom (is_formed_sym s) _ _ s.arity _ _ (count-bind_terms v k ts) (formed-bind_terms v ts k l) h

  formed-bind_terms : (v : Var) (ts : Terms) (k : ℕ) → k < 2 ^ 32 → are_formed_terms_at k ts ≡ true → are_formed_terms_at (k + 1) (bind_terms_at v k ts) ≡ true
  formed-bind_terms v nil k l h = refl
  formed-bind_terms v (cons t ts) k l h =
      and_both _ _ (formed-bind_term v t k l (and_left _ _ h)) (formed-bind_terms v ts k l (and_right (is_formed_term_at k t) _ h))

pub formed-bind_at : (v : Var) (f : Formula) (k : ℕ) → k + nesting f < 2 ^ 32 → is_formed_at k f ≡ true → is_formed_at (k + 1) (bind_at v k f) ≡ true
formed-bind_at v (atom p ts) k l h =
    formed_atom (is_formed_pred p) _ _ (pred_symbol p).arity _ _ (count-bind_terms v k ts) (formed-bind_terms v ts k (omega arith)) h
formed-bind_at v top k l h = refl
formed-bind_at v bot k l h = refl
formed-bind_at v (not a) k l h = formed-bind_at v a k l h
formed-bind_at v (and a b) k l h =
    and_both _ _ (formed-bind_at v a k (omega arith) (and_left _ _ h)) (formed-bind_at v b k (omega arith) (and_right (is_formed_at k a) _ h))
formed-bind_at v (or a b) k l h =
    and_both _ _ (formed-bind_at v a k (omega arith) (and_left _ _ h)) (formed-bind_at v b k (omega arith) (and_right (is_formed_at k a) _ h))
formed-bind_at v (imp a b) k l h =
    and_both _ _ (formed-bind_at v a k (omega arith) (and_left _ _ h)) (formed-bind_at v b k (omega arith) (and_right (is_formed_at k a) _ h))
formed-bind_at v (all a) k l h = formed-bind_at v a (k + 1) (omega arith) h
formed-bind_at v (ex a) k l h = formed-bind_at v a (k + 1) (omega arith) h

-- a well-formed formula with a variable bound is an open body, where its quantifiers are few enough
pub formed-bind : (f : Formula) (v : Var) → nesting f < 2 ^ 32 → IsFormed f → IsOpenBody (bind f v)
formed-bind f v few formed = formed-bind_at v f 0 (omega arith) formed

pub ruleset bound_open = (formed-bind)
