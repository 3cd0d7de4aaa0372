-- Of a formula with all unfolded: no predicate symbol there has a body, and its indices and free variables are among those of the formula.
use Rattle.std.proofs.Common.{◌≡◌, ℕ, ◌+◌, ◌≤◌, ◌==◌, ◌&&◌, true, false, Bool, refl, ap, ◌∙◌, arith}
use Rattle.std.proofs.lemmas.Bool.Decides.{nat_tests}
use Rattle.fol.specs.declared.symbols.Sym.{Sym}
use Rattle.fol.specs.declared.symbols.Var.{Var}
use Rattle.fol.specs.Syntax.{Terms, Pred, pred, pred_symbol, pred_body, Body, undefined, defined, is_defined, Formula, atom, top, bot, not, and, or, imp, all, ex}
use Rattle.fol.specs.Facts.{are_terms_open, is_open, has_body}
use Rattle.fol.specs.Formed.{count_terms, leading_all, is_formed_pred, are_formed_terms_at, is_formed_at}
use Rattle.fol.proofs.FormedPredicates.{formed_body, shut_body, leading_body}
use Rattle.free_variables.proofs.ShutLaws.{or_left, or_right}
use Rattle.free_variables.specs.Occurrence.{is_free_in, is_free_in_terms}
use Rattle.substitution.specs.Closed.{are_closed_terms_at, is_closed_at}
use Rattle.substitution.specs.Unfolding.{matrix_under}
use Rattle.substitution.proofs.Booleans.{and_left, and_right, and_both}
use Rattle.substitution.proofs.ClosedLaws.{closed_of}
use Rattle.proof_trees.proofs.Booleans.{or_more}
use Rattle.def_laws.specs.Flat.{flat_atom, flat_body, flat}
use Rattle.def_laws.proofs.Arguments.{neither}
use Rattle.def_laws.proofs.PutShapes.{closed-put, free-put, shut-put, body-put}
use Rattle.def_laws.proofs.Matrices.{matrix_keeps, closed-matrix}

-- what is well formed in a well-formed atom

pub formed_pred : (p : Pred) (ts : Terms) (k : ℕ) → is_formed_at k (atom p ts) ≡ true → is_formed_pred p ≡ true
formed_pred p ts k h = and_left _ _ (and_left _ (are_formed_terms_at k ts) h)

same_number : (a : Bool) (m n : ℕ) (b : Bool) → (a && (m == n) && b) ≡ true → m ≡ n
same_number a m n b h = let e : (m == n) ≡ true = and_right a _ (and_left _ b h) in grind (arith, nat_tests)

pub formed_count : (p : Pred) (ts : Terms) (k : ℕ) → is_formed_at k (atom p ts) ≡ true → count_terms ts ≡ (pred_symbol p).arity
formed_count p ts k h = same_number (is_formed_pred p) _ _ (are_formed_terms_at k ts) h

-- no predicate symbol has a body
mutual
  body-flat_atom : (p : Pred) (ts : Terms) → has_body (flat_atom p ts) ≡ false
  body-flat_atom (pred s b) ts = body-flat_body s b ts

  body-flat_body : (s : Sym) (b : Body) (ts : Terms) → has_body (flat_body s b ts) ≡ false
  body-flat_body s undefined ts = refl
  body-flat_body s (defined f) ts = body-put ts (count_terms ts) (matrix_under ts (flat f)) ∙ matrix_keeps has_body (λ g. refl) ts (flat f) ∙ body-flat f

  pub body-flat : (f : Formula) → has_body (flat f) ≡ false
  body-flat (atom p ts) = body-flat_atom p ts
  body-flat top = refl
  body-flat bot = refl
  body-flat (not f) = body-flat f
  body-flat (and f g) = neither _ _ (body-flat f) (body-flat g)
  body-flat (or f g) = neither _ _ (body-flat f) (body-flat g)
  body-flat (imp f g) = neither _ _ (body-flat f) (body-flat g)
  body-flat (all f) = body-flat f
  body-flat (ex f) = body-flat f

-- a formula where none has one is left as it is

flat-plain_atom : (p : Pred) (ts : Terms) → is_defined (pred_body p) ≡ false → flat_atom p ts ≡ atom p ts
flat-plain_atom (pred s undefined) ts h = refl
flat-plain_atom (pred s (defined f)) ts h = cc

pub flat-plain : (f : Formula) → has_body f ≡ false → flat f ≡ f
flat-plain (atom p ts) h = flat-plain_atom p ts h
flat-plain top h = refl
flat-plain bot h = refl
flat-plain (not f) h = ap not (flat-plain f h)
flat-plain (and f g) h = λ i. and (flat-plain f (or_left _ _ h) i) (flat-plain g (or_right (has_body f) _ h) i)
flat-plain (or f g) h = λ i. or (flat-plain f (or_left _ _ h) i) (flat-plain g (or_right (has_body f) _ h) i)
flat-plain (imp f g) h = λ i. imp (flat-plain f (or_left _ _ h) i) (flat-plain g (or_right (has_body f) _ h) i)
flat-plain (all f) h = ap all (flat-plain f h)
flat-plain (ex f) h = ap ex (flat-plain f h)

-- it begins with as many universal quantifiers

pub leading-flat : (f : Formula) → leading_all f ≤ leading_all (flat f)
leading-flat (all f) = omega (arith, leading-flat f)
leading-flat f = omega arith

pub leads : (s : Sym) (f : Formula) (ts : Terms) → is_formed_pred (pred s (defined f)) ≡ true → count_terms ts ≡ s.arity → count_terms ts ≤ leading_all (flat f)
leads s f ts h n = omega (arith, leading_body s f h, leading-flat f)

-- each index is that of a quantifier around
mutual
  closed-flat_atom : (p : Pred) (ts : Terms) (k : ℕ) → is_formed_pred p ≡ true → count_terms ts ≡ (pred_symbol p).arity → are_closed_terms_at k ts ≡ true → is_closed_at k (flat_atom p ts) ≡ true
  closed-flat_atom (pred s b) ts k h n c = closed-flat_body s b ts k h n c

  closed-flat_body : (s : Sym) (b : Body) (ts : Terms) (k : ℕ) → is_formed_pred (pred s b) ≡ true → count_terms ts ≡ s.arity → are_closed_terms_at k ts ≡ true → is_closed_at k (flat_body s b ts) ≡ true
  closed-flat_body s undefined ts k h n c = c
  closed-flat_body s (defined f) ts k h n c =
      closed-put ts (matrix_under ts (flat f)) k (count_terms ts) (omega arith) c
      (closed-matrix ts (flat f) 0 (count_terms ts) (omega arith) (leads s f ts h n) (closed-flat f 0 (formed_body s f h)))

  pub closed-flat : (f : Formula) (k : ℕ) → is_formed_at k f ≡ true → is_closed_at k (flat f) ≡ true
  closed-flat (atom p ts) k h = closed-flat_atom p ts k (formed_pred p ts k h) (formed_count p ts k h) (closed_of (atom p ts) k h)
  closed-flat top k h = refl
  closed-flat bot k h = refl
  closed-flat (not f) k h = closed-flat f k h
  closed-flat (and f g) k h = and_both _ _ (closed-flat f k (and_left _ _ h)) (closed-flat g k (and_right (is_formed_at k f) _ h))
  closed-flat (or f g) k h = and_both _ _ (closed-flat f k (and_left _ _ h)) (closed-flat g k (and_right (is_formed_at k f) _ h))
  closed-flat (imp f g) k h = and_both _ _ (closed-flat f k (and_left _ _ h)) (closed-flat g k (and_right (is_formed_at k f) _ h))
  closed-flat (all f) k h = closed-flat f (k + 1) h
  closed-flat (ex f) k h = closed-flat f (k + 1) h

-- the same of the matrix of a body
pub closed_flat_matrix : (s : Sym) (f : Formula) (ts : Terms) → is_formed_pred (pred s (defined f)) ≡ true → count_terms ts ≡ s.arity → is_closed_at (count_terms ts) (matrix_under ts (flat f)) ≡ true
closed_flat_matrix s f ts h n =
    closed-matrix ts (flat f) 0 (count_terms ts) (omega arith) (leads s f ts h n) (closed-flat f 0 (formed_body s f h))

-- no variable is free where none is
mutual
  shut-flat_atom : (p : Pred) (ts : Terms) → is_formed_pred p ≡ true → are_terms_open ts ≡ false → is_open (flat_atom p ts) ≡ false
  shut-flat_atom (pred s b) ts h o = shut-flat_body s b ts h o

  shut-flat_body : (s : Sym) (b : Body) (ts : Terms) → is_formed_pred (pred s b) ≡ true → are_terms_open ts ≡ false → is_open (flat_body s b ts) ≡ false
  shut-flat_body s undefined ts h o = o
  shut-flat_body s (defined f) ts h o =
      shut-put ts (count_terms ts) (matrix_under ts (flat f)) o (matrix_keeps is_open (λ g. refl) ts (flat f) ∙ shut-flat f 0 (formed_body s f h) (shut_body s f h))

  pub shut-flat : (f : Formula) (k : ℕ) → is_formed_at k f ≡ true → is_open f ≡ false → is_open (flat f) ≡ false
  shut-flat (atom p ts) k h o = shut-flat_atom p ts (formed_pred p ts k h) o
  shut-flat top k h o = refl
  shut-flat bot k h o = refl
  shut-flat (not f) k h o = shut-flat f k h o
  shut-flat (and f g) k h o = neither _ _ (shut-flat f k (and_left _ _ h) (or_left _ _ o)) (shut-flat g k (and_right (is_formed_at k f) _ h) (or_right (is_open f) _ o))
  shut-flat (or f g) k h o = neither _ _ (shut-flat f k (and_left _ _ h) (or_left _ _ o)) (shut-flat g k (and_right (is_formed_at k f) _ h) (or_right (is_open f) _ o))
  shut-flat (imp f g) k h o = neither _ _ (shut-flat f k (and_left _ _ h) (or_left _ _ o)) (shut-flat g k (and_right (is_formed_at k f) _ h) (or_right (is_open f) _ o))
  shut-flat (all f) k h o = shut-flat f (k + 1) h o
  shut-flat (ex f) k h o = shut-flat f (k + 1) h o

pub shut_flat_matrix : (s : Sym) (f : Formula) (ts : Terms) → is_formed_pred (pred s (defined f)) ≡ true → is_open (matrix_under ts (flat f)) ≡ false
shut_flat_matrix s f ts h = matrix_keeps is_open (λ g. refl) ts (flat f) ∙ shut-flat f 0 (formed_body s f h) (shut_body s f h)

-- what is free there is free in the formula

free-flat_atom : (v : Var) (p : Pred) (ts : Terms) → is_formed_pred p ≡ true → is_free_in v (flat_atom p ts) ≡ true → is_free_in_terms v ts ≡ true
free-flat_atom v (pred s undefined) ts h e = e
free-flat_atom v (pred s (defined f)) ts h e = free-put v ts (count_terms ts) (matrix_under ts (flat f)) (shut_flat_matrix s f ts h) e

pub free-flat : (v : Var) (f : Formula) (k : ℕ) → is_formed_at k f ≡ true → is_free_in v (flat f) ≡ true → is_free_in v f ≡ true
free-flat v (atom p ts) k h = free-flat_atom v p ts (formed_pred p ts k h)
free-flat v top k h = λ e. e
free-flat v bot k h = λ e. e
free-flat v (not f) k h = free-flat v f k h
free-flat v (and f g) k h = or_more _ _ _ _ (free-flat v f k (and_left _ _ h)) (free-flat v g k (and_right (is_formed_at k f) _ h))
free-flat v (or f g) k h = or_more _ _ _ _ (free-flat v f k (and_left _ _ h)) (free-flat v g k (and_right (is_formed_at k f) _ h))
free-flat v (imp f g) k h = or_more _ _ _ _ (free-flat v f k (and_left _ _ h)) (free-flat v g k (and_right (is_formed_at k f) _ h))
free-flat v (all f) k h = free-flat v f (k + 1) h
free-flat v (ex f) k h = free-flat v f (k + 1) h
