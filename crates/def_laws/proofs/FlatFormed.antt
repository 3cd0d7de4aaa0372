-- A well-formed formula with all unfolded is well formed, where no more than 2 ^ 32 quantifiers stand inside one another.
use Rattle.std.proofs.Common.{◌≡◌, ℕ, ◌+◌, ◌-◌, ◌^◌, ◌≤◌, Bool, true, ltb, ◌==◌, ◌&&◌, refl, ap, ◌∙◌, arith}
use Rattle.std.proofs.lemmas.Bool.Decides.{nat_tests}
use Rattle.fol.specs.declared.symbols.Sym.{Sym}
use Rattle.fol.specs.Syntax.{Term, free, bound, app, Terms, nil, cons, Pred, pred, pred_symbol, Body, undefined, defined, Formula, atom, top, bot, not, and, or, imp, all, ex}
use Rattle.fol.specs.Formed.{count_terms, is_formed_var, is_formed_sym, is_formed_pred, is_formed_term_at, are_formed_terms_at, is_formed_at, IsFormed}
use Rattle.fol.proofs.FormedPredicates.{formed_body}
use Rattle.substitution.specs.Closed.{is_closed_term_at, are_closed_terms_at, is_closed_at}
use Rattle.substitution.specs.Instance.{nesting}
use Rattle.substitution.specs.Unfolding.{argument, put_term_at, put_terms_at, matrix_under}
use Rattle.substitution.proofs.Booleans.{and_left, and_right, and_both}
use Rattle.substitution.proofs.InstanceFormed.{formed_atom}
use Rattle.def_laws.specs.Flat.{lifted_term, lifted_terms, lifted_put, flat_atom, flat_body, flat}
use Rattle.def_laws.proofs.Lifts.{count-lifted}
use Rattle.def_laws.proofs.Arguments.{choice}
use Rattle.def_laws.proofs.Matrices.{matrix_keeps}
use Rattle.def_laws.proofs.FlatShapes.{closed-flat}

-- whether a term and a formula are well formed but for their indices
abbrev mutual
  pub is_shaped_term : Term → Bool
  is_shaped_term (free v) = is_formed_var v
  is_shaped_term (bound i) = true
  is_shaped_term (app s ts) = is_formed_sym s && count_terms ts == s.arity && are_shaped_terms ts

  pub are_shaped_terms : Terms → Bool
  are_shaped_terms nil = true
  are_shaped_terms (cons t ts) = is_shaped_term t && are_shaped_terms ts

abbrev pub is_shaped : Formula → Bool
is_shaped (atom p ts) = is_formed_pred p && count_terms ts == (pred_symbol p).arity && are_shaped_terms ts
is_shaped top = true
is_shaped bot = true
is_shaped (not f) = is_shaped f
is_shaped (and f g) = is_shaped f && is_shaped g
is_shaped (or f g) = is_shaped f && is_shaped g
is_shaped (imp f g) = is_shaped f && is_shaped g
is_shaped (all f) = is_shaped f
is_shaped (ex f) = is_shaped f

-- so they are where they are well formed

mutual
  shaped_of_term : (t : Term) (k : ℕ) → is_formed_term_at k t ≡ true → is_shaped_term t ≡ true
  shaped_of_term (free v) k h = h
  shaped_of_term (bound i) k h = refl
  shaped_of_term (app s ts) k h = formed_atom (is_formed_sym s) _ _ s.arity _ _ refl (shaped_of_terms ts k) h

  shaped_of_terms : (ts : Terms) (k : ℕ) → are_formed_terms_at k ts ≡ true → are_shaped_terms ts ≡ true
  shaped_of_terms nil k h = refl
  shaped_of_terms (cons t ts) k h = and_both _ _ (shaped_of_term t k (and_left _ _ h)) (shaped_of_terms ts k (and_right (is_formed_term_at k t) _ h))

shaped_of : (f : Formula) (k : ℕ) → is_formed_at k f ≡ true → is_shaped f ≡ true
shaped_of (atom p ts) k h = formed_atom (is_formed_pred p) _ _ (pred_symbol p).arity _ _ refl (shaped_of_terms ts k) h
shaped_of top k h = refl
shaped_of bot k h = refl
shaped_of (not f) k h = shaped_of f k h
shaped_of (and f g) k h = and_both _ _ (shaped_of f k (and_left _ _ h)) (shaped_of g k (and_right (is_formed_at k f) _ h))
shaped_of (or f g) k h = and_both _ _ (shaped_of f k (and_left _ _ h)) (shaped_of g k (and_right (is_formed_at k f) _ h))
shaped_of (imp f g) k h = and_both _ _ (shaped_of f k (and_left _ _ h)) (shaped_of g k (and_right (is_formed_at k f) _ h))
shaped_of (all f) k h = shaped_of f (k + 1) h
shaped_of (ex f) k h = shaped_of f (k + 1) h

-- and they are well formed where each index is that of one of at most 2 ^ 32 quantifiers around

low_index : (i k w : ℕ) → k ≤ w → ltb i k ≡ true → (ltb i k && ltb i w) ≡ true
low_index i k w few h = grind (arith, nat_tests)

mutual
  formed_of_term : (t : Term) (k : ℕ) → k ≤ 2 ^ 32 → is_closed_term_at k t ≡ true → is_shaped_term t ≡ true → is_formed_term_at k t ≡ true
  formed_of_term (free v) k few c h = h
  formed_of_term (bound i) k few c h = low_index i k (2 ^ 32) few c
  formed_of_term (app s ts) k few c h = formed_atom (is_formed_sym s) _ _ s.arity _ _ refl (formed_of_terms ts k few c) h

  formed_of_terms : (ts : Terms) (k : ℕ) → k ≤ 2 ^ 32 → are_closed_terms_at k ts ≡ true → are_shaped_terms ts ≡ true → are_formed_terms_at k ts ≡ true
  formed_of_terms nil k few c h = refl
  formed_of_terms (cons t ts) k few c h =
      and_both _ _ (formed_of_term t k few (and_left _ _ c) (and_left _ _ h)) (formed_of_terms ts k few (and_right (is_closed_term_at k t) _ c) (and_right (is_shaped_term t) _ h))

formed_of : (f : Formula) (k : ℕ) → k + nesting f ≤ 2 ^ 32 → is_closed_at k f ≡ true → is_shaped f ≡ true → is_formed_at k f ≡ true
formed_of (atom p ts) k few c h = formed_atom (is_formed_pred p) _ _ (pred_symbol p).arity _ _ refl (formed_of_terms ts k (omega arith) c) h
formed_of top k few c h = refl
formed_of bot k few c h = refl
formed_of (not f) k few c h = formed_of f k few c h
formed_of (and f g) k few c h =
    and_both _ _ (formed_of f k (omega arith) (and_left _ _ c) (and_left _ _ h)) (formed_of g k (omega arith) (and_right (is_closed_at k f) _ c) (and_right (is_shaped f) _ h))
formed_of (or f g) k few c h =
    and_both _ _ (formed_of f k (omega arith) (and_left _ _ c) (and_left _ _ h)) (formed_of g k (omega arith) (and_right (is_closed_at k f) _ c) (and_right (is_shaped f) _ h))
formed_of (imp f g) k few c h =
    and_both _ _ (formed_of f k (omega arith) (and_left _ _ c) (and_left _ _ h)) (formed_of g k (omega arith) (and_right (is_closed_at k f) _ c) (and_right (is_shaped f) _ h))
formed_of (all f) k few c h = formed_of f (k + 1) (omega arith) c h
formed_of (ex f) k few c h = formed_of f (k + 1) (omega arith) c h

-- arguments put into a formula

mutual
  shaped-lifted_term : (t : Term) → is_shaped_term (lifted_term 1 t) ≡ is_shaped_term t
  shaped-lifted_term (free v) = refl
  shaped-lifted_term (bound i) = refl
  shaped-lifted_term (app s ts) = λ i. is_formed_sym s && count-lifted 1 ts i == s.arity && shaped-lifted_terms ts i

  shaped-lifted_terms : (ts : Terms) → are_shaped_terms (lifted_terms 1 ts) ≡ are_shaped_terms ts
  shaped-lifted_terms nil = refl
  shaped-lifted_terms (cons t ts) = λ i. shaped-lifted_term t i && shaped-lifted_terms ts i

shaped-argument : (us : Terms) (l i : ℕ) → are_shaped_terms us ≡ true → is_shaped_term (argument us l i) ≡ true
shaped-argument nil l i h = refl
shaped-argument (cons u us) l i h =
    choice (λ t. is_shaped_term t ≡ true) (i + 1 == l) u (argument us (l - 1) i)
    (λ e. and_left _ _ h)
    (λ e. shaped-argument us (l - 1) i (and_right (is_shaped_term u) _ h))

count-put : (us : Terms) (l : ℕ) (ts : Terms) → count_terms (put_terms_at us l ts) ≡ count_terms ts
count-put us l nil = refl
count-put us l (cons t ts) = ap (λ n. n + 1) (count-put us l ts)

mutual
  shaped-put_term : (us : Terms) (l : ℕ) (t : Term) → are_shaped_terms us ≡ true → is_shaped_term t ≡ true → is_shaped_term (put_term_at us l t) ≡ true
  shaped-put_term us l (free v) c h = h
  shaped-put_term us l (bound i) c h = shaped-argument us l i c
  shaped-put_term us l (app s ts) c h = formed_atom (is_formed_sym s) _ _ s.arity _ _ (count-put us l ts) (shaped-put_terms us l ts c) h

  shaped-put_terms : (us : Terms) (l : ℕ) (ts : Terms) → are_shaped_terms us ≡ true → are_shaped_terms ts ≡ true → are_shaped_terms (put_terms_at us l ts) ≡ true
  shaped-put_terms us l nil c h = refl
  shaped-put_terms us l (cons t ts) c h = and_both _ _ (shaped-put_term us l t c (and_left _ _ h)) (shaped-put_terms us l ts c (and_right (is_shaped_term t) _ h))

shaped-put : (us : Terms) (l : ℕ) (f : Formula) → are_shaped_terms us ≡ true → is_shaped f ≡ true → is_shaped (lifted_put us l f) ≡ true
shaped-put us l (atom p ts) c h = formed_atom (is_formed_pred p) _ _ (pred_symbol p).arity _ _ (count-put us l ts) (shaped-put_terms us l ts c) h
shaped-put us l top c h = refl
shaped-put us l bot c h = refl
shaped-put us l (not f) c h = shaped-put us l f c h
shaped-put us l (and f g) c h = and_both _ _ (shaped-put us l f c (and_left _ _ h)) (shaped-put us l g c (and_right (is_shaped f) _ h))
shaped-put us l (or f g) c h = and_both _ _ (shaped-put us l f c (and_left _ _ h)) (shaped-put us l g c (and_right (is_shaped f) _ h))
shaped-put us l (imp f g) c h = and_both _ _ (shaped-put us l f c (and_left _ _ h)) (shaped-put us l g c (and_right (is_shaped f) _ h))
shaped-put us l (all f) c h = shaped-put (lifted_terms 1 us) (l + 1) f (shaped-lifted_terms us ∙ c) h
shaped-put us l (ex f) c h = shaped-put (lifted_terms 1 us) (l + 1) f (shaped-lifted_terms us ∙ c) h

-- all unfolded

mutual
  shaped-flat_atom : (p : Pred) (ts : Terms) → is_shaped (atom p ts) ≡ true → is_shaped (flat_atom p ts) ≡ true
  shaped-flat_atom (pred s b) ts h = shaped-flat_body s b ts h

  shaped-flat_body : (s : Sym) (b : Body) (ts : Terms) → is_shaped (atom (pred s b) ts) ≡ true → is_shaped (flat_body s b ts) ≡ true
  shaped-flat_body s undefined ts h = h
  shaped-flat_body s (defined f) ts h =
      shaped-put ts (count_terms ts) (matrix_under ts (flat f)) (and_right _ (are_shaped_terms ts) h)
      (matrix_keeps is_shaped (λ g. refl) ts (flat f) ∙ shaped-flat f (shaped_of f 0 (formed_body s f (and_left _ _ (and_left _ (are_shaped_terms ts) h)))))

  shaped-flat : (f : Formula) → is_shaped f ≡ true → is_shaped (flat f) ≡ true
  shaped-flat (atom p ts) h = shaped-flat_atom p ts h
  shaped-flat top h = refl
  shaped-flat bot h = refl
  shaped-flat (not f) h = shaped-flat f h
  shaped-flat (and f g) h = and_both _ _ (shaped-flat f (and_left _ _ h)) (shaped-flat g (and_right (is_shaped f) _ h))
  shaped-flat (or f g) h = and_both _ _ (shaped-flat f (and_left _ _ h)) (shaped-flat g (and_right (is_shaped f) _ h))
  shaped-flat (imp f g) h = and_both _ _ (shaped-flat f (and_left _ _ h)) (shaped-flat g (and_right (is_shaped f) _ h))
  shaped-flat (all f) h = shaped-flat f h
  shaped-flat (ex f) h = shaped-flat f h

pub formed-flat : (f : Formula) (k : ℕ) → k + nesting (flat f) ≤ 2 ^ 32 → is_formed_at k f ≡ true → is_formed_at k (flat f) ≡ true
formed-flat f k few h = formed_of (flat f) k few (closed-flat f k h) (shaped-flat f (shaped_of f k h))

pub formed_flat : (f : Formula) → nesting (flat f) ≤ 2 ^ 32 → IsFormed f → IsFormed (flat f)
formed_flat f few h = formed-flat f 0 (omega arith) h
