-- Well-formed values have no index of a quantifier outside, and an instance changes nothing in a term without such an index.
use Rattle.std.proofs.Common.{◌≡◌, ℕ, ◌+◌, ◌≤◌, true, ltb, ◌==◌, if◌then◌else◌, Option, Some, None, IfSome, refl, ap, arith}
use Rattle.std.proofs.lemmas.Bool.Decides.{nat_tests}
use Rattle.fol.specs.declared.symbols.Var.{Var}
use Rattle.fol.specs.Syntax.{Term, free, bound, app, Terms, nil, cons, Formula, atom, top, bot, not, and, or, imp, all, ex}
use Rattle.fol.specs.Formed.{is_formed_term_at, are_formed_terms_at, is_formed_at, IsFormedTerm}
use Rattle.substitution.specs.Closed.{is_closed_term_at, are_closed_terms_at, is_closed_at, IsClosedTerm, IsClosedMap}
use Rattle.substitution.specs.Instance.{inst_term_at, inst_terms_at, inst_at}
use Rattle.substitution.specs.Image.{IsFormedMap}
use Rattle.substitution.proofs.Booleans.{and_left, and_right, and_both}

mutual
  pub closed_term_of : (t : Term) (k : ℕ) → is_formed_term_at k t ≡ true → is_closed_term_at k t ≡ true
  closed_term_of (free v) k h = refl
  closed_term_of (bound i) k h = and_left _ _ h
  closed_term_of (app s ts) k h = closed_terms_of ts k (and_right _ (are_formed_terms_at k ts) h)

  closed_terms_of : (ts : Terms) (k : ℕ) → are_formed_terms_at k ts ≡ true → are_closed_terms_at k ts ≡ true
  closed_terms_of nil k h = refl
  closed_terms_of (cons t ts) k h = and_both _ _ (closed_term_of t k (and_left _ _ h)) (closed_terms_of ts k (and_right (is_formed_term_at k t) _ h))

-- well formed inside k quantifiers: each index is below k and the number of quantifiers around it
pub closed_of : (f : Formula) (k : ℕ) → is_formed_at k f ≡ true → is_closed_at k f ≡ true
closed_of (atom s ts) k h = closed_terms_of ts k (and_right _ (are_formed_terms_at k ts) h)
closed_of top k h = refl
closed_of bot k h = refl
closed_of (not f) k h = closed_of f k h
closed_of (and f g) k h = and_both _ _ (closed_of f k (and_left _ _ h)) (closed_of g k (and_right (is_formed_at k f) _ h))
closed_of (or f g) k h = and_both _ _ (closed_of f k (and_left _ _ h)) (closed_of g k (and_right (is_formed_at k f) _ h))
closed_of (imp f g) k h = and_both _ _ (closed_of f k (and_left _ _ h)) (closed_of g k (and_right (is_formed_at k f) _ h))
closed_of (all f) k h = closed_of f (k + 1) h
closed_of (ex f) k h = closed_of f (k + 1) h

closed_option : (o : Option Term) → IfSome o IsFormedTerm → IfSome o IsClosedTerm
closed_option None h = tt
closed_option (Some t) h = closed_term_of t 0 h

pub closed_map_of : (m : Var → Option Term) → IsFormedMap m → IsClosedMap m
closed_map_of m h v = closed_option (m v) (h v)

pub inst_below : (u : Term) (i j k : ℕ) → j ≤ k → ltb i j ≡ true → (if i == k then u else bound i) ≡ bound i
inst_below u i j k le h = grind (arith, nat_tests)

mutual
  pub inst-closed_term : (u t : Term) (j k : ℕ) → j ≤ k → is_closed_term_at j t ≡ true → inst_term_at u k t ≡ t
  inst-closed_term u (free v) j k le h = refl
  inst-closed_term u (bound i) j k le h = inst_below u i j k le h
  inst-closed_term u (app s ts) j k le h = ap (app s) (inst-closed_terms u ts j k le h)

  inst-closed_terms : (u : Term) (ts : Terms) (j k : ℕ) → j ≤ k → are_closed_terms_at j ts ≡ true → inst_terms_at u k ts ≡ ts
  inst-closed_terms u nil j k le h = refl
  inst-closed_terms u (cons t ts) j k le h = λ i. cons (inst-closed_term u t j k le (and_left _ _ h) i) (inst-closed_terms u ts j k le (and_right (is_closed_term_at j t) _ h) i)

-- a formula without an index of a quantifier outside is its own instance
pub inst-closed : (u : Term) (f : Formula) (j k : ℕ) → j ≤ k → is_closed_at j f ≡ true → inst_at u k f ≡ f
inst-closed u (atom p ts) j k le h = ap (atom p) (inst-closed_terms u ts j k le h)
inst-closed u top j k le h = refl
inst-closed u bot j k le h = refl
inst-closed u (not f) j k le h = ap not (inst-closed u f j k le h)
inst-closed u (and f g) j k le h = λ i. and (inst-closed u f j k le (and_left _ _ h) i) (inst-closed u g j k le (and_right (is_closed_at j f) _ h) i)
inst-closed u (or f g) j k le h = λ i. or (inst-closed u f j k le (and_left _ _ h) i) (inst-closed u g j k le (and_right (is_closed_at j f) _ h) i)
inst-closed u (imp f g) j k le h = λ i. imp (inst-closed u f j k le (and_left _ _ h) i) (inst-closed u g j k le (and_right (is_closed_at j f) _ h) i)
inst-closed u (all f) j k le h = ap all (inst-closed u f (j + 1) (k + 1) (omega arith) h)
inst-closed u (ex f) j k le h = ap ex (inst-closed u f (j + 1) (k + 1) (omega arith) h)
