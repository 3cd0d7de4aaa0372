-- The unfolding of an atom is well formed where the atom is, commutes with images and instances, is of smaller grade, and has no free
-- variable but those of the atom.
use Rattle.std.proofs.Common.{◌≡◌, ◌↔◌, ℕ, ◌+◌, ◌-◌, ◌^◌, ◌≤◌, Bool, true, false, IsTrue, ltb, eqb, ◌==◌, ◌&&◌, ◌||◌, if◌then◌else◌, Option, Some, None, IfSome, option_map, refl, sym, ap, subst, ◌∙◌, arith}
use Rattle.std.proofs.lemmas.Bool.Decides.{nat_tests}
use Rattle.fol.specs.declared.symbols.Sym.{Sym}
use Rattle.fol.specs.declared.symbols.Var.{Var}
use Rattle.fol.specs.Syntax.{Term, free, bound, app, Terms, nil, cons, Pred, pred, pred_symbol, pred_body, Body, undefined, defined, Formula, atom, top, bot, not, and, or, imp, all, ex}
use Rattle.fol.specs.Facts.{terms_size, is_term_open, are_terms_open, is_open}
use Rattle.fol.specs.Formed.{is_formed_sym, is_formed_pred, count_terms, leading_all, is_formed_term_at, are_formed_terms_at, is_formed_at, IsFormed}
use Rattle.fol.proofs.OrderTies.{formula_equality_same}
use Rattle.fol.proofs.FormedPredicates.{formed_body, shut_body, leading_body}
use Rattle.free_variables.proofs.ShutLaws.{or_left, or_right}
use Rattle.free_variables.specs.Grade.{grade_of}
use Rattle.free_variables.specs.Occurrence.{is_free_in, is_free_in_term, is_free_in_terms}
use Rattle.substitution.proofs.Booleans.{and_left, and_right, and_both}
use Rattle.substitution.proofs.InstanceFormed.{formed_deeper, formed_atom}
use Rattle.substitution.proofs.ImageFormed.{count-image_terms}
use Rattle.substitution.proofs.ClosedLaws.{closed_of, inst-closed}
use Rattle.substitution.specs.Instance.{inst_at}
use Rattle.substitution.specs.Image.{image_term, image_terms, image}
use Rattle.substitution.specs.Unfolding.{argument, put_term_at, put_terms_at, put_at, matrix_under, unf_body, unf, is_just}

-- a list has no more terms than nodes
pub count_within : (ts : Terms) → count_terms ts ≤ terms_size ts
count_within nil = omega arith
count_within (cons t ts) = omega (arith, count_within ts)

-- whether a formula is an unfolding
pub just_same : (o : Option Formula) (g : Formula) (r : Bool) → r ≡ is_just o g → IsTrue r ↔ (o ≡ Some g)
just_same None g r is = (λ h. cc, λ e. cc)
just_same (Some f) g r is =
    let same = formula_equality_same f g r is in (λ h. ap (λ x. Some x) (same.0 h), λ e. same.1 (cc))

-- well-formedness

count-put : (us : Terms) (l : ℕ) (ts : Terms) → count_terms (put_terms_at us l ts) ≡ count_terms ts
count-put us l nil = refl
count-put us l (cons t ts) = ap (λ n. n + 1) (count-put us l ts)

chosen_formed : (t u : Term) (k i l : ℕ) → is_formed_term_at k t ≡ true → ((i + 1 == l) ≡ false → is_formed_term_at k u ≡ true)
    → is_formed_term_at k (if i + 1 == l then t else u) ≡ true
chosen_formed t u k i l first second =
    elim (eqb (i + 1) l) as (λ b. eqb (i + 1) l ≡ b → is_formed_term_at k (if b then t else u) ≡ true) [
      | true ↦ λ e. first
      | false ↦ λ e. second e
    ] refl

below_left : (i k l w : ℕ) → l ≡ k → (ltb i l && ltb i w) ≡ true → (ltb i k && ltb i w) ≡ true
below_left i k l w same h = ap (λ m. ltb i m && ltb i w) (sym same) ∙ h

one_less : (i l w : ℕ) → (i + 1 == l) ≡ false → (ltb i l && ltb i w) ≡ true → (ltb i (l - 1) && ltb i w) ≡ true
one_less i l w other h = grind (arith, nat_tests)

formed-argument : (us : Terms) (k l i : ℕ) → l ≡ k + count_terms us → are_formed_terms_at 0 us ≡ true → (ltb i l && ltb i (2 ^ 32)) ≡ true
    → is_formed_term_at k (argument us l i) ≡ true
formed-argument nil k l i level closed h = below_left i k l (2 ^ 32) (omega arith) h
formed-argument (cons u us) k l i level closed h =
    chosen_formed u (argument us (l - 1) i) k i l
    (formed_deeper u 0 k (omega arith) (and_left _ _ closed))
    (λ other. formed-argument us k (l - 1) i (omega arith) (and_right (is_formed_term_at 0 u) _ closed) (one_less i l (2 ^ 32) other h))

mutual
  formed-put_term : (us : Terms) (t : Term) (k l : ℕ) → l ≡ k + count_terms us → are_formed_terms_at 0 us ≡ true → is_formed_term_at l t ≡ true
      → is_formed_term_at k (put_term_at us l t) ≡ true
  formed-put_term us (free v) k l level closed h = h
  formed-put_term us (bound i) k l level closed h = formed-argument us k l i level closed h
  formed-put_term us (app s ts) k l level closed h =
      formed_atom (is_formed_sym s) _ _ s.arity _ _ (count-put us l ts) (formed-put_terms us ts k l level closed) h

  formed-put_terms : (us ts : Terms) (k l : ℕ) → l ≡ k + count_terms us → are_formed_terms_at 0 us ≡ true → are_formed_terms_at l ts ≡ true
      → are_formed_terms_at k (put_terms_at us l ts) ≡ true
  formed-put_terms us nil k l level closed h = refl
  formed-put_terms us (cons t ts) k l level closed h =
      and_both _ _ (formed-put_term us t k l level closed (and_left _ _ h)) (formed-put_terms us ts k l level closed (and_right (is_formed_term_at l t) _ h))

formed-put : (us : Terms) (f : Formula) (k l : ℕ) → l ≡ k + count_terms us → are_formed_terms_at 0 us ≡ true → is_formed_at l f ≡ true
    → is_formed_at k (put_at us l f) ≡ true
formed-put us (atom p ts) k l level closed h =
    formed_atom (is_formed_pred p) _ _ (pred_symbol p).arity _ _ (count-put us l ts) (formed-put_terms us ts k l level closed) h
formed-put us top k l level closed h = refl
formed-put us bot k l level closed h = refl
formed-put us (not f) k l level closed h = formed-put us f k l level closed h
formed-put us (and f g) k l level closed h = and_both _ _ (formed-put us f k l level closed (and_left _ _ h)) (formed-put us g k l level closed (and_right (is_formed_at l f) _ h))
formed-put us (or f g) k l level closed h = and_both _ _ (formed-put us f k l level closed (and_left _ _ h)) (formed-put us g k l level closed (and_right (is_formed_at l f) _ h))
formed-put us (imp f g) k l level closed h = and_both _ _ (formed-put us f k l level closed (and_left _ _ h)) (formed-put us g k l level closed (and_right (is_formed_at l f) _ h))
formed-put us (all f) k l level closed h = formed-put us f (k + 1) (l + 1) (omega arith) closed h
formed-put us (ex f) k l level closed h = formed-put us f (k + 1) (l + 1) (omega arith) closed h

none_leads : (n : ℕ) → n + 1 ≤ 0 → {P : Type 0} → P
none_leads n h = absurd (omega arith)

formed-matrix : (ts : Terms) (f : Formula) (k : ℕ) → count_terms ts ≤ leading_all f → is_formed_at k f ≡ true → is_formed_at (k + count_terms ts) (matrix_under ts f) ≡ true
formed-matrix nil f k few h = let same : k ≡ k + 0 = omega arith in subst (λ (n : ℕ). is_formed_at n f ≡ true) same h
formed-matrix (cons t ts) (all f) k few h =
    let same : (k + 1) + count_terms ts ≡ k + (count_terms ts + 1) = omega arith in
    subst (λ (n : ℕ). is_formed_at n (matrix_under ts f) ≡ true) same (formed-matrix ts f (k + 1) (omega arith) h)
formed-matrix (cons t ts) f k few h = none_leads _ few

same_count : (a : Bool) (m n : ℕ) (b : Bool) → (a && (m == n) && b) ≡ true → m ≡ n
same_count a m n b h = let e : (m == n) ≡ true = and_right a _ (and_left _ b h) in grind (arith, nat_tests)

formed_unf_body : (s : Sym) (b : Body) (ts : Terms) → is_formed_at 0 (atom (pred s b) ts) ≡ true → IfSome (unf_body b ts) IsFormed
formed_unf_body s undefined ts h = tt
formed_unf_body s (defined f) ts h =
    let formed : is_formed_pred (pred s (defined f)) ≡ true = and_left _ _ (and_left _ (are_formed_terms_at 0 ts) h) in
    let count : count_terms ts ≡ s.arity = same_count (is_formed_pred (pred s (defined f))) _ _ (are_formed_terms_at 0 ts) h in
    let leads : s.arity ≤ leading_all f = leading_body s f formed in
    formed-put ts (matrix_under ts f) 0 (count_terms ts) (omega arith) (and_right _ (are_formed_terms_at 0 ts) h)
    (let same : 0 + count_terms ts ≡ count_terms ts = omega arith in
    subst (λ (n : ℕ). is_formed_at n (matrix_under ts f) ≡ true) same (formed-matrix ts f 0 (omega arith) (formed_body s f formed)))

formed_unf_atom : (p : Pred) (ts : Terms) → is_formed_at 0 (atom p ts) ≡ true → IfSome (unf_body (pred_body p) ts) IsFormed
formed_unf_atom (pred s b) ts h = formed_unf_body s b ts h

-- the unfolding of a well-formed formula is well formed
pub formed-unf : (f : Formula) → IsFormed f → IfSome (unf f) IsFormed
formed-unf (atom p ts) h = formed_unf_atom p ts h
formed-unf f h = tt

-- the same, of what a call answers
pub formed_answer : (f : Formula) (o : Option Formula) → o ≡ unf f → IsFormed f → IfSome o IsFormed
formed_answer f o is h = subst (λ (p : Option Formula). IfSome p IsFormed) (sym is) (formed-unf f h)

-- images

image-choice : (m : Var → Option Term) (b : Bool) (t u : Term) → image_term m (if b then t else u) ≡ (if b then image_term m t else image_term m u)
image-choice m true t u = refl
image-choice m false t u = refl

image-argument : (m : Var → Option Term) (us : Terms) (l i : ℕ) → image_term m (argument us l i) ≡ argument (image_terms m us) l i
image-argument m nil l i = refl
image-argument m (cons u us) l i =
    image-choice m (i + 1 == l) u (argument us (l - 1) i)
    ∙ ap (λ t. if i + 1 == l then image_term m u else t) (image-argument m us (l - 1) i)

mutual
  image-put_term : (m : Var → Option Term) (us : Terms) (l : ℕ) (t : Term) → is_term_open t ≡ false → image_term m (put_term_at us l t) ≡ put_term_at (image_terms m us) l t
  image-put_term m us l (free v) h = cc
  image-put_term m us l (bound i) h = image-argument m us l i
  image-put_term m us l (app s ts) h = ap (app s) (image-put_terms m us l ts h)

  image-put_terms : (m : Var → Option Term) (us : Terms) (l : ℕ) (ts : Terms) → are_terms_open ts ≡ false → image_terms m (put_terms_at us l ts) ≡ put_terms_at (image_terms m us) l ts
  image-put_terms m us l nil h = refl
  image-put_terms m us l (cons t ts) h =
      λ i. cons (image-put_term m us l t (or_left _ _ h) i) (image-put_terms m us l ts (or_right (is_term_open t) _ h) i)

image-put : (m : Var → Option Term) (us : Terms) (l : ℕ) (f : Formula) → is_open f ≡ false → image m (put_at us l f) ≡ put_at (image_terms m us) l f
image-put m us l (atom p ts) h = ap (atom p) (image-put_terms m us l ts h)
image-put m us l top h = refl
image-put m us l bot h = refl
image-put m us l (not f) h = ap not (image-put m us l f h)
image-put m us l (and f g) h = λ i. and (image-put m us l f (or_left _ _ h) i) (image-put m us l g (or_right (is_open f) _ h) i)
image-put m us l (or f g) h = λ i. or (image-put m us l f (or_left _ _ h) i) (image-put m us l g (or_right (is_open f) _ h) i)
image-put m us l (imp f g) h = λ i. imp (image-put m us l f (or_left _ _ h) i) (image-put m us l g (or_right (is_open f) _ h) i)
image-put m us l (all f) h = ap all (image-put m us (l + 1) f h)
image-put m us l (ex f) h = ap ex (image-put m us (l + 1) f h)

open-matrix : (ts : Terms) (f : Formula) → is_open (matrix_under ts f) ≡ is_open f
open-matrix nil f = refl
open-matrix (cons t ts) (all f) = open-matrix ts f
open-matrix (cons t ts) f = refl

matrix-image : (m : Var → Option Term) (ts : Terms) (f : Formula) → matrix_under (image_terms m ts) f ≡ matrix_under ts f
matrix-image m nil f = refl
matrix-image m (cons t ts) (all f) = matrix-image m ts f
matrix-image m (cons t ts) f = refl

image_unf_body : (m : Var → Option Term) (s : Sym) (b : Body) (ts : Terms) → is_formed_pred (pred s b) ≡ true → unf_body b (image_terms m ts) ≡ option_map (image m) (unf_body b ts)
image_unf_body m s undefined ts h = refl
image_unf_body m s (defined f) ts h =
    ap (λ (g : Formula). Some g)
    ((λ i. put_at (image_terms m ts) (count-image_terms m ts i) (matrix-image m ts f i))
    ∙ sym (image-put m ts (count_terms ts) (matrix_under ts f) (open-matrix ts f ∙ shut_body s f h)))

image_unf_atom : (m : Var → Option Term) (p : Pred) (ts : Terms) → is_formed_pred p ≡ true → unf_body (pred_body p) (image_terms m ts) ≡ option_map (image m) (unf_body (pred_body p) ts)
image_unf_atom m (pred s b) ts h = image_unf_body m s b ts h

-- the unfolding of an image is the image of the unfolding
pub unf-image : (m : Var → Option Term) (f : Formula) (k : ℕ) → is_formed_at k f ≡ true → unf (image m f) ≡ option_map (image m) (unf f)
unf-image m (atom p ts) k h = image_unf_atom m p ts (and_left _ _ (and_left _ (are_formed_terms_at k ts) h))
unf-image m top k h = refl
unf-image m bot k h = refl
unf-image m (not f) k h = refl
unf-image m (and f g) k h = refl
unf-image m (or f g) k h = refl
unf-image m (imp f g) k h = refl
unf-image m (all f) k h = refl
unf-image m (ex f) k h = refl

-- instances

same_option : (u : Term) (k : ℕ) (o : Option Formula) → IfSome o IsFormed → o ≡ option_map (inst_at u k) o
same_option u k None h = refl
same_option u k (Some f) h = ap (λ (g : Formula). Some g) (sym (inst-closed u f 0 k (omega arith) (closed_of f 0 h)))

-- a well-formed formula and its unfolding are their own instances
pub unf-inst : (u : Term) (k : ℕ) (f : Formula) → IsFormed f → unf (inst_at u k f) ≡ option_map (inst_at u k) (unf f)
unf-inst u k f h = ap unf (inst-closed u f 0 k (omega arith) (closed_of f 0 h)) ∙ same_option u k (unf f) (formed-unf f h)

-- the grade

grade-put : (us : Terms) (l : ℕ) (f : Formula) → grade_of (put_at us l f) ≡ grade_of f
grade-put us l (atom p ts) = refl
grade-put us l top = refl
grade-put us l bot = refl
grade-put us l (not f) = ap (λ n. n + 1) (grade-put us l f)
grade-put us l (and f g) = λ i. grade-put us l f i + grade-put us l g i + 1
grade-put us l (or f g) = λ i. grade-put us l f i + grade-put us l g i + 1
grade-put us l (imp f g) = λ i. grade-put us l f i + grade-put us l g i + 1
grade-put us l (all f) = ap (λ n. n + 1) (grade-put us (l + 1) f)
grade-put us l (ex f) = ap (λ n. n + 1) (grade-put us (l + 1) f)

grade-matrix : (ts : Terms) (f : Formula) → grade_of (matrix_under ts f) ≤ grade_of f
grade-matrix nil f = omega arith
grade-matrix (cons t ts) (all f) = omega (arith, grade-matrix ts f)
grade-matrix (cons t ts) f = omega arith

grade_unf_atom : (p : Pred) (ts : Terms) → IfSome (unf_body (pred_body p) ts) (λ g. grade_of g + 1 ≤ grade_of (atom p ts))
grade_unf_atom (pred s undefined) ts = tt
grade_unf_atom (pred s (defined f)) ts = omega (arith, grade-put ts (count_terms ts) (matrix_under ts f), grade-matrix ts f)

-- the unfolding of an atom is of smaller grade
pub grade-unf : (f : Formula) → IfSome (unf f) (λ g. grade_of g + 1 ≤ grade_of f)
grade-unf (atom p ts) = grade_unf_atom p ts
grade-unf f = tt

-- the free variables

free-choice : (v : Var) (b : Bool) (t u : Term) (c : Bool) → is_free_in_term v (if b then t else u) ≡ true → (is_free_in_term v u ≡ true → c ≡ true) → (is_free_in_term v t || c) ≡ true
free-choice v true t u c h rest = or_first _ c h
  where
    or_first : (a b : Bool) → a ≡ true → (a || b) ≡ true
    or_first a b e = rw e refl
free-choice v false t u c h rest = or_second (is_free_in_term v t) c (rest h)
  where
    or_second : (a b : Bool) → b ≡ true → (a || b) ≡ true
    or_second true b e = refl
    or_second false b e = e

free-argument : (v : Var) (us : Terms) (l i : ℕ) → is_free_in_term v (argument us l i) ≡ true → is_free_in_terms v us ≡ true
free-argument v nil l i h = cc
free-argument v (cons u us) l i h = free-choice v (i + 1 == l) u (argument us (l - 1) i) _ h (free-argument v us (l - 1) i)

either_true : {P : Type 0} (a b : Bool) → (a || b) ≡ true → (a ≡ true → P) → (b ≡ true → P) → P
either_true true b e f g = f refl
either_true false b e f g = g e

mutual
  free-put_term : (v : Var) (us : Terms) (l : ℕ) (t : Term) → is_term_open t ≡ false → is_free_in_term v (put_term_at us l t) ≡ true → is_free_in_terms v us ≡ true
  free-put_term v us l (free w) h e = cc
  free-put_term v us l (bound i) h e = free-argument v us l i e
  free-put_term v us l (app s ts) h e = free-put_terms v us l ts h e

  free-put_terms : (v : Var) (us : Terms) (l : ℕ) (ts : Terms) → are_terms_open ts ≡ false → is_free_in_terms v (put_terms_at us l ts) ≡ true → is_free_in_terms v us ≡ true
  free-put_terms v us l nil h e = cc
  free-put_terms v us l (cons t ts) h e =
      either_true _ _ e (free-put_term v us l t (or_left _ _ h)) (free-put_terms v us l ts (or_right (is_term_open t) _ h))

free-put : (v : Var) (us : Terms) (l : ℕ) (f : Formula) → is_open f ≡ false → is_free_in v (put_at us l f) ≡ true → is_free_in_terms v us ≡ true
free-put v us l (atom p ts) h e = free-put_terms v us l ts h e
free-put v us l top h e = cc
free-put v us l bot h e = cc
free-put v us l (not f) h e = free-put v us l f h e
free-put v us l (and f g) h e = either_true _ _ e (free-put v us l f (or_left _ _ h)) (free-put v us l g (or_right (is_open f) _ h))
free-put v us l (or f g) h e = either_true _ _ e (free-put v us l f (or_left _ _ h)) (free-put v us l g (or_right (is_open f) _ h))
free-put v us l (imp f g) h e = either_true _ _ e (free-put v us l f (or_left _ _ h)) (free-put v us l g (or_right (is_open f) _ h))
free-put v us l (all f) h e = free-put v us (l + 1) f h e
free-put v us l (ex f) h e = free-put v us (l + 1) f h e

free_unf_body : (v : Var) (s : Sym) (b : Body) (ts : Terms) → is_formed_pred (pred s b) ≡ true → IfSome (unf_body b ts) (λ g. is_free_in v g ≡ true → is_free_in_terms v ts ≡ true)
free_unf_body v s undefined ts h = tt
free_unf_body v s (defined f) ts h = free-put v ts (count_terms ts) (matrix_under ts f) (open-matrix ts f ∙ shut_body s f h)

free_unf_atom : (v : Var) (p : Pred) (ts : Terms) → is_formed_pred p ≡ true → IfSome (unf_body (pred_body p) ts) (λ g. is_free_in v g ≡ true → is_free_in_terms v ts ≡ true)
free_unf_atom v (pred s b) ts h = free_unf_body v s b ts h

-- a variable that is free in the unfolding of an atom is free in the atom
pub free-unf : (v : Var) (f : Formula) (k : ℕ) → is_formed_at k f ≡ true → IfSome (unf f) (λ g. is_free_in v g ≡ true → is_free_in v f ≡ true)
free-unf v (atom p ts) k h = free_unf_atom v p ts (and_left _ _ (and_left _ (are_formed_terms_at k ts) h))
free-unf v f k h = tt
