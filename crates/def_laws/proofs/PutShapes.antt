-- What a formula with arguments put into it keeps: which indices, variables and predicate symbols it has.
use Rattle.std.proofs.Common.{◌≡◌, ℕ, ◌+◌, ◌≤◌, true, false, ◌||◌, refl, sym, ◌∙◌, arith}
use Rattle.fol.specs.declared.symbols.Var.{Var}
use Rattle.fol.specs.Syntax.{Term, free, bound, app, Terms, nil, cons, Formula, atom, top, bot, not, and, or, imp, all, ex}
use Rattle.fol.specs.Facts.{is_term_open, are_terms_open, is_open, has_body}
use Rattle.fol.specs.Formed.{count_terms}
use Rattle.free_variables.proofs.ShutLaws.{or_left, or_right}
use Rattle.free_variables.specs.Occurrence.{is_free_in, is_free_in_term, is_free_in_terms}
use Rattle.substitution.specs.Closed.{are_closed_terms_at, is_closed_at}
use Rattle.substitution.proofs.Booleans.{and_left, and_right, and_both}
use Rattle.proof_trees.proofs.Booleans.{either}
use Rattle.def_laws.specs.Flat.{lifted_term, lifted_terms, lifted_put}
use Rattle.def_laws.proofs.Lifts.{count-lifted, closed-lifted_terms}
use Rattle.def_laws.proofs.Arguments.{closed-put_terms, free-put_terms, neither, shut-put_terms}

-- lifting keeps the variables
mutual
  open-lifted_term : (t : Term) → is_term_open (lifted_term 1 t) ≡ is_term_open t
  open-lifted_term (free v) = refl
  open-lifted_term (bound i) = refl
  open-lifted_term (app s ts) = open-lifted_terms ts

  open-lifted_terms : (ts : Terms) → are_terms_open (lifted_terms 1 ts) ≡ are_terms_open ts
  open-lifted_terms nil = refl
  open-lifted_terms (cons t ts) = λ i. open-lifted_term t i || open-lifted_terms ts i

mutual
  free-lifted_term : (v : Var) (t : Term) → is_free_in_term v (lifted_term 1 t) ≡ is_free_in_term v t
  free-lifted_term v (free w) = refl
  free-lifted_term v (bound i) = refl
  free-lifted_term v (app s ts) = free-lifted_terms v ts

  free-lifted_terms : (v : Var) (ts : Terms) → is_free_in_terms v (lifted_terms 1 ts) ≡ is_free_in_terms v ts
  free-lifted_terms v nil = refl
  free-lifted_terms v (cons t ts) = λ i. free-lifted_term v t i || free-lifted_terms v ts i

-- each index is that of a quantifier around
pub closed-put : (us : Terms) (f : Formula) (k l : ℕ) → l ≤ k + count_terms us → are_closed_terms_at k us ≡ true → is_closed_at l f ≡ true → is_closed_at k (lifted_put us l f) ≡ true
closed-put us (atom p ts) k l few c h = closed-put_terms us ts k l few c h
closed-put us top k l few c h = refl
closed-put us bot k l few c h = refl
closed-put us (not f) k l few c h = closed-put us f k l few c h
closed-put us (and f g) k l few c h = and_both _ _ (closed-put us f k l few c (and_left _ _ h)) (closed-put us g k l few c (and_right (is_closed_at l f) _ h))
closed-put us (or f g) k l few c h = and_both _ _ (closed-put us f k l few c (and_left _ _ h)) (closed-put us g k l few c (and_right (is_closed_at l f) _ h))
closed-put us (imp f g) k l few c h = and_both _ _ (closed-put us f k l few c (and_left _ _ h)) (closed-put us g k l few c (and_right (is_closed_at l f) _ h))
closed-put us (all f) k l few c h = closed-put (lifted_terms 1 us) f (k + 1) (l + 1) (omega (arith, count-lifted 1 us)) (closed-lifted_terms us k c) h
closed-put us (ex f) k l few c h = closed-put (lifted_terms 1 us) f (k + 1) (l + 1) (omega (arith, count-lifted 1 us)) (closed-lifted_terms us k c) h

-- what is free there is free in an argument, where no variable is free in the formula
pub free-put : (v : Var) (us : Terms) (l : ℕ) (f : Formula) → is_open f ≡ false → is_free_in v (lifted_put us l f) ≡ true → is_free_in_terms v us ≡ true
free-put v us l (atom p ts) h = free-put_terms v us l ts h
free-put v us l top h = λ e. cc
free-put v us l bot h = λ e. cc
free-put v us l (not f) h = free-put v us l f h
free-put v us l (and f g) h = either _ _ (free-put v us l f (or_left _ _ h)) (free-put v us l g (or_right (is_open f) _ h))
free-put v us l (or f g) h = either _ _ (free-put v us l f (or_left _ _ h)) (free-put v us l g (or_right (is_open f) _ h))
free-put v us l (imp f g) h = either _ _ (free-put v us l f (or_left _ _ h)) (free-put v us l g (or_right (is_open f) _ h))
free-put v us l (all f) h = λ e. sym (free-lifted_terms v us) ∙ free-put v (lifted_terms 1 us) (l + 1) f h e
free-put v us l (ex f) h = λ e. sym (free-lifted_terms v us) ∙ free-put v (lifted_terms 1 us) (l + 1) f h e

-- no variable is free there where none is free in the arguments and in the formula
pub shut-put : (us : Terms) (l : ℕ) (f : Formula) → are_terms_open us ≡ false → is_open f ≡ false → is_open (lifted_put us l f) ≡ false
shut-put us l (atom p ts) h e = shut-put_terms us l ts h e
shut-put us l top h e = refl
shut-put us l bot h e = refl
shut-put us l (not f) h e = shut-put us l f h e
shut-put us l (and f g) h e = neither _ _ (shut-put us l f h (or_left _ _ e)) (shut-put us l g h (or_right (is_open f) _ e))
shut-put us l (or f g) h e = neither _ _ (shut-put us l f h (or_left _ _ e)) (shut-put us l g h (or_right (is_open f) _ e))
shut-put us l (imp f g) h e = neither _ _ (shut-put us l f h (or_left _ _ e)) (shut-put us l g h (or_right (is_open f) _ e))
shut-put us l (all f) h e = shut-put (lifted_terms 1 us) (l + 1) f (open-lifted_terms us ∙ h) e
shut-put us l (ex f) h e = shut-put (lifted_terms 1 us) (l + 1) f (open-lifted_terms us ∙ h) e

-- a predicate symbol with a body stands there where one stands in the formula
pub body-put : (us : Terms) (l : ℕ) (f : Formula) → has_body (lifted_put us l f) ≡ has_body f
body-put us l (atom p ts) = refl
body-put us l top = refl
body-put us l bot = refl
body-put us l (not f) = body-put us l f
body-put us l (and f g) = λ i. body-put us l f i || body-put us l g i
body-put us l (or f g) = λ i. body-put us l f i || body-put us l g i
body-put us l (imp f g) = λ i. body-put us l f i || body-put us l g i
body-put us l (all f) = body-put (lifted_terms 1 us) (l + 1) f
body-put us l (ex f) = body-put (lifted_terms 1 us) (l + 1) f
