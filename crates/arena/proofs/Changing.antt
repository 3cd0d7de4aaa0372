-- What a key means, with its parts changed.
use Rattle.std.proofs.Common.{◌≡◌, ℕ, ◌<◌, List, refl, sym, ap, ◌∙◌, subst, arith}
use Rattle.std.specs.Prelude.{Some}
use Rattle.fol.specs.declared.symbols.Sym.{Sym}
use Rattle.fol.specs.Syntax as fol
use Rattle.fol.specs.Syntax.{Term, Terms, Pred, Formula}
use Rattle.arena.specs.declared.task.Change.{Change}
use Rattle.arena.specs.declared.task.Change.TheVariants as change
use Rattle.arena_cells.specs.declared.key.Parts.TheVariants.{Zero, One, Two}
use Rattle.arena_cells.specs.declared.key.Key.{Key}
use Rattle.arena_cells.specs.declared.key.Key.TheVariants.{Symbol, Free, Bound, App, Nil, Cons, Atom, Defined, Top, Bot, Not, And, Or, Imp, All as Forall, Ex, Variables, Map, Side, Sequent, Tree}
use Rattle.arena_cells.specs.Items.{Item, term, terms, formula}
use Rattle.arena_cells.specs.Standing.{Stands, Extends, item_at, term_at, terms_at, formula_at, HasTerm, HasTerms, HasFormula, IsTermAt, IsTermsAt, IsFormulaAt, IsThere}
use Rattle.arena_cells.specs.Meaning.{meaning, HasParts, AreBelow}
use Rattle.arena.specs.Changes.{Operation, instance, image, binding, on_term, on_terms, on_formula, changed, deeper, inside, parts_of, with_parts, operation_at, deeper_change, change_inside, HasChange, FitsChange, IsWalked}
use Rattle.arena_cells.proofs.Staying.{item_is, is_term, is_terms, is_formula, symbol_stays, symbol_there, formula_stays, formula_there}
use Rattle.arena_cells.proofs.Facts as facts
use Rattle.arena.proofs.Results.{item_stays, operation_stays}

-- a change goes into each construction
on_app : (o : Operation) (s : Sym) (ts : Terms) → on_term o (fol.app s ts) ≡ fol.app s (on_terms o ts)
on_app (instance u k) s ts = refl
on_app (image m) s ts = refl
on_app (binding v k) s ts = refl

on_nil : (o : Operation) → on_terms o fol.nil ≡ fol.nil
on_nil (instance u k) = refl
on_nil (image m) = refl
on_nil (binding v k) = refl

on_cons : (o : Operation) (t : Term) (ts : Terms) → on_terms o (fol.cons t ts) ≡ fol.cons (on_term o t) (on_terms o ts)
on_cons (instance u k) t ts = refl
on_cons (image m) t ts = refl
on_cons (binding v k) t ts = refl

on_atom : (o : Operation) (s : Pred) (ts : Terms) → on_formula o (fol.atom s ts) ≡ fol.atom s (on_terms o ts)
on_atom (instance u k) s ts = refl
on_atom (image m) s ts = refl
on_atom (binding v k) s ts = refl

on_top : (o : Operation) → on_formula o fol.top ≡ fol.top
on_top (instance u k) = refl
on_top (image m) = refl
on_top (binding v k) = refl

on_bot : (o : Operation) → on_formula o fol.bot ≡ fol.bot
on_bot (instance u k) = refl
on_bot (image m) = refl
on_bot (binding v k) = refl

on_not : (o : Operation) (f : Formula) → on_formula o (fol.not f) ≡ fol.not (on_formula o f)
on_not (instance u k) f = refl
on_not (image m) f = refl
on_not (binding v k) f = refl

on_and : (o : Operation) (f g : Formula) → on_formula o (fol.and f g) ≡ fol.and (on_formula o f) (on_formula o g)
on_and (instance u k) f g = refl
on_and (image m) f g = refl
on_and (binding v k) f g = refl

on_or : (o : Operation) (f g : Formula) → on_formula o (fol.or f g) ≡ fol.or (on_formula o f) (on_formula o g)
on_or (instance u k) f g = refl
on_or (image m) f g = refl
on_or (binding v k) f g = refl

on_imp : (o : Operation) (f g : Formula) → on_formula o (fol.imp f g) ≡ fol.imp (on_formula o f) (on_formula o g)
on_imp (instance u k) f g = refl
on_imp (image m) f g = refl
on_imp (binding v k) f g = refl

on_all : (o : Operation) (f : Formula) → on_formula o (fol.all f) ≡ fol.all (on_formula (deeper o) f)
on_all (instance u k) f = refl
on_all (image m) f = refl
on_all (binding v k) f = refl

on_ex : (o : Operation) (f : Formula) → on_formula o (fol.ex f) ≡ fol.ex (on_formula (deeper o) f)
on_ex (instance u k) f = refl
on_ex (image m) f = refl
on_ex (binding v k) f = refl

-- what has no parts stays
pub unchanged : (a : List Item) (o : Operation) (k : Key) → IsWalked k → parts_of k ≡ Zero → meaning a k ≡ changed o (meaning a k)
unchanged a o (Symbol s) w e = refl
unchanged a o (Free v) w e = absurd w
unchanged a o (Bound i) w e = absurd w
unchanged a o (App s ts) w e = cc
unchanged a o Nil w e = ap terms (sym (on_nil o))
unchanged a o (Cons t ts) w e = cc
unchanged a o (Atom s ts) w e = cc
unchanged a o (Defined s f ts) w e = cc
unchanged a o Top w e = ap formula (sym (on_top o))
unchanged a o Bot w e = ap formula (sym (on_bot o))
unchanged a o (Not f) w e = cc
unchanged a o (And f g) w e = cc
unchanged a o (Or f g) w e = cc
unchanged a o (Imp f g) w e = cc
unchanged a o (Forall f) w e = cc
unchanged a o (Ex f) w e = cc
unchanged a o (Variables ns) w e = refl
unchanged a o (Map vs ts) w e = refl
unchanged a o (Side ns) w e = refl
unchanged a o (Sequent l r) w e = refl
unchanged a o (Tree r n ps) w e = refl

pub one_same : (m n : ℕ) → One m ≡ One n → m ≡ n
one_same m n e = cc

pub first_same : (m n p q : ℕ) → Two m n ≡ Two p q → m ≡ p
first_same m n p q e = cc

pub second_same : (m n p q : ℕ) → Two m n ≡ Two p q → n ≡ q
second_same m n p q e = cc

there : (a : List Item) (n : ℕ) (t : Item) → Stands a n t → IsThere a n
there a n t h = h ∙ ap Some (sym (item_is a n t h))

-- a part stands below its key
pub record IsPart (a : List Item) (n p : ℕ) : Type 0 where
  pub stands : IsThere a p
  pub below : p < n

part : (a : List Item) (n m p : ℕ) (t : Item) → Stands a m t → m < n → m ≡ p → IsPart a n p
part a n m p t h lt e = subst (λ (x : ℕ). IsPart a n x) e (record { stands = there a m t h; below = lt })

pub one_part : (a : List Item) (n : ℕ) (k : Key) (p : ℕ) → HasParts a k → AreBelow n k → parts_of k ≡ One p → IsPart a n p
one_part a n (App s ts) p h b e = part a n ts p _ h.1 b (one_same ts p e)
one_part a n (Atom s ts) p h b e = part a n ts p _ h.1 b (one_same ts p e)
one_part a n (Defined s f ts) p h b e = part a n ts p _ h.1.1 b (one_same ts p e)
one_part a n (Not f) p h b e = part a n f p _ h b (one_same f p e)
one_part a n (Forall f) p h b e = part a n f p _ h b (one_same f p e)
one_part a n (Ex f) p h b e = part a n f p _ h b (one_same f p e)
one_part a n k p h b e = cc

pub two_parts : (a : List Item) (n : ℕ) (k : Key) (p q : ℕ) → HasParts a k → AreBelow n k → parts_of k ≡ Two p q → IsPart a n p × IsPart a n q
two_parts a n (Cons t ts) p q h b e = (part a n t p _ h.0 b.0 (first_same t ts p q e), part a n ts q _ h.1 b.1 (second_same t ts p q e))
two_parts a n (And f g) p q h b e = (part a n f p _ h.0 b.0 (first_same f g p q e), part a n g q _ h.1 b.1 (second_same f g p q e))
two_parts a n (Or f g) p q h b e = (part a n f p _ h.0 b.0 (first_same f g p q e), part a n g q _ h.1 b.1 (second_same f g p q e))
two_parts a n (Imp f g) p q h b e = (part a n f p _ h.0 b.0 (first_same f g p q e), part a n g q _ h.1 b.1 (second_same f g p q e))
two_parts a n k p q h b e = cc

-- the change inside
deeper-operation_at : (a : List Item) (ch : Change) → operation_at a (deeper_change ch) ≡ deeper (operation_at a ch)
deeper-operation_at a (change.Instance u k) = refl
deeper-operation_at a (change.Image m) = refl
deeper-operation_at a (change.Bind v k) = refl

pub operation_inside : (a : List Item) (k : Key) (ch : Change) → operation_at a (change_inside k ch) ≡ inside k (operation_at a ch)
operation_inside a (Forall f) ch = deeper-operation_at a ch
operation_inside a (Ex f) ch = deeper-operation_at a ch
operation_inside a k ch = refl

deeper_there : (a : List Item) (ch : Change) → HasChange a ch → HasChange a (deeper_change ch)
deeper_there a (change.Instance u k) h = h
deeper_there a (change.Image m) h = h
deeper_there a (change.Bind v k) h = h

pub inside_there : (a : List Item) (k : Key) (ch : Change) → HasChange a ch → HasChange a (change_inside k ch)
inside_there a (Forall f) ch h = deeper_there a ch h
inside_there a (Ex f) ch h = deeper_there a ch h
inside_there a k ch h = h

lower_fits : (n p : ℕ) (ch : Change) → FitsChange n ch → p < n → FitsChange p ch
lower_fits n p (change.Instance u k) h lt = omega arith
lower_fits n p (change.Image m) h lt = tt
lower_fits n p (change.Bind v k) h lt = omega arith

deeper_fits : (n p : ℕ) (ch : Change) → FitsChange n ch → p < n → FitsChange p (deeper_change ch)
deeper_fits n p (change.Instance u k) h lt = omega arith
deeper_fits n p (change.Image m) h lt = tt
deeper_fits n p (change.Bind v k) h lt = omega arith

pub inside_fits : (n p : ℕ) (k : Key) (ch : Change) → FitsChange n ch → p < n → FitsChange p (change_inside k ch)
inside_fits n p (Forall f) ch h lt = deeper_fits n p ch h lt
inside_fits n p (Ex f) ch h lt = deeper_fits n p ch h lt
inside_fits n p k ch h lt = lower_fits n p ch h lt

-- the key with changed parts, and what it means
pub record IsChanged (a b : List Item) (o : Operation) (k l : Key) : Type 0 where
  pub parts : HasParts b l
  pub means : meaning b l ≡ changed o (meaning a k)

module _ (a b : List Item) (grown : Extends a b) (o : Operation) where
  -- what stands for a changed part
  list_part : (ts p x : ℕ) → IsTermsAt a ts → ts ≡ p → Stands b x (changed o (item_at a p)) → HasTerms b x (on_terms o (terms_at a ts))
  list_part ts p x h e s = s ∙ ap (λ (n : ℕ). Some (changed o (item_at a n))) (sym e) ∙ ap (λ t. Some (changed o t)) (item_is a ts _ h)

  term_part : (t p x : ℕ) → IsTermAt a t → t ≡ p → Stands b x (changed o (item_at a p)) → HasTerm b x (on_term o (term_at a t))
  term_part t p x h e s = s ∙ ap (λ (n : ℕ). Some (changed o (item_at a n))) (sym e) ∙ ap (λ u. Some (changed o u)) (item_is a t _ h)

  body_part : (o : Operation) (f p x : ℕ) → IsFormulaAt a f → f ≡ p → Stands b x (changed o (item_at a p)) → HasFormula b x (on_formula o (formula_at a f))
  body_part o f p x h e s = s ∙ ap (λ (n : ℕ). Some (changed o (item_at a n))) (sym e) ∙ ap (λ u. Some (changed o u)) (item_is a f _ h)

  pub one_changed : (k : Key) (p x : ℕ) → HasParts a k → parts_of k ≡ One p → Stands b x (changed (inside k o) (item_at a p)) → IsChanged a b o k (with_parts k x 0)
  one_changed (App s ts) p x h e s' =
      let made = list_part ts p x h.1 (one_same ts p e) s' in
      record {
        parts = (symbol_there a b grown s h.0, facts.terms_there b x _ made);
        means = (λ i. term (fol.app (symbol_stays a b grown s h.0 i) (is_terms b x _ made i))) ∙ ap term (sym (on_app o _ _));
      }
  one_changed (Atom s ts) p x h e s' =
      let made = list_part ts p x h.1 (one_same ts p e) s' in
      record {
        parts = (symbol_there a b grown s h.0, facts.terms_there b x _ made);
        means = (λ i. formula (fol.atom (fol.plain (symbol_stays a b grown s h.0 i)) (is_terms b x _ made i))) ∙ ap formula (sym (on_atom o _ _));
      }
  one_changed (Defined s f ts) p x h e s' =
      let made = list_part ts p x h.1.1 (one_same ts p e) s' in
      record {
        parts = (symbol_there a b grown s h.0, (formula_there a b grown f h.1.0, facts.terms_there b x _ made));
        means =
            (λ i. formula (fol.atom (fol.pred (symbol_stays a b grown s h.0 i) (fol.defined (formula_stays a b grown f h.1.0 i))) (is_terms b x _ made i)))
            ∙ ap formula (sym (on_atom o _ _));
      }
  one_changed (Not f) p x h e s' =
      let made = body_part o f p x h (one_same f p e) s' in
      record { parts = facts.formula_there b x _ made; means = ap (λ g. formula (fol.not g)) (is_formula b x _ made) ∙ ap formula (sym (on_not o _)) }
  one_changed (Forall f) p x h e s' =
      let made = body_part (deeper o) f p x h (one_same f p e) s' in
      record { parts = facts.formula_there b x _ made; means = ap (λ g. formula (fol.all g)) (is_formula b x _ made) ∙ ap formula (sym (on_all o _)) }
  one_changed (Ex f) p x h e s' =
      let made = body_part (deeper o) f p x h (one_same f p e) s' in
      record { parts = facts.formula_there b x _ made; means = ap (λ g. formula (fol.ex g)) (is_formula b x _ made) ∙ ap formula (sym (on_ex o _)) }
  one_changed k p x h e s' = absurd (cc)

  pub two_changed : (k : Key) (p q x y : ℕ) → HasParts a k → parts_of k ≡ Two p q → Stands b x (changed (inside k o) (item_at a p)) → Stands b y (changed (inside k o) (item_at a q))
      → IsChanged a b o k (with_parts k x y)
  two_changed (Cons t ts) p q x y h e s r =
      let first = term_part t p x h.0 (first_same t ts p q e) s in
      let second = list_part ts q y h.1 (second_same t ts p q e) r in
      record {
        parts = (facts.term_there b x _ first, facts.terms_there b y _ second);
        means = (λ i. terms (fol.cons (is_term b x _ first i) (is_terms b y _ second i))) ∙ ap terms (sym (on_cons o _ _));
      }
  two_changed (And f g) p q x y h e s r =
      let first = body_part o f p x h.0 (first_same f g p q e) s in
      let second = body_part o g q y h.1 (second_same f g p q e) r in
      record {
        parts = (facts.formula_there b x _ first, facts.formula_there b y _ second);
        means = (λ i. formula (fol.and (is_formula b x _ first i) (is_formula b y _ second i))) ∙ ap formula (sym (on_and o _ _));
      }
  two_changed (Or f g) p q x y h e s r =
      let first = body_part o f p x h.0 (first_same f g p q e) s in
      let second = body_part o g q y h.1 (second_same f g p q e) r in
      record {
        parts = (facts.formula_there b x _ first, facts.formula_there b y _ second);
        means = (λ i. formula (fol.or (is_formula b x _ first i) (is_formula b y _ second i))) ∙ ap formula (sym (on_or o _ _));
      }
  two_changed (Imp f g) p q x y h e s r =
      let first = body_part o f p x h.0 (first_same f g p q e) s in
      let second = body_part o g q y h.1 (second_same f g p q e) r in
      record {
        parts = (facts.formula_there b x _ first, facts.formula_there b y _ second);
        means = (λ i. formula (fol.imp (is_formula b x _ first i) (is_formula b y _ second i))) ∙ ap formula (sym (on_imp o _ _));
      }
  two_changed k p q x y h e s r = absurd (cc)

-- a result in a larger arena, as one of the arena before
pub moved : (a b c : List Item) (ch : Change) (n x : ℕ) → Extends a b → HasChange a ch → IsThere a n → Stands c x (changed (operation_at b ch) (item_at b n))
    → Stands c x (changed (operation_at a ch) (item_at a n))
moved a b c ch n x grown h there s = s ∙ (λ i. Some (changed (operation_stays a b grown ch h i) (item_stays a b grown n there i)))

-- the key with its one part changed, by numbers
pub one_step : (a b : List Item) → Extends a b → (ch inner : Change) (k : Key) (p x : ℕ) → inner ≡ change_inside k ch → HasParts a k → parts_of k ≡ One p
    → Stands b x (changed (operation_at a inner) (item_at a p)) → IsChanged a b (operation_at a ch) k (with_parts k x 0)
one_step a b grown ch inner k p x same h e s =
    one_changed a b grown (operation_at a ch) k p x h e (s ∙ ap (λ c. Some (changed (operation_at a c) (item_at a p))) same ∙ ap (λ o. Some (changed o (item_at a p))) (operation_inside a k ch))

-- the key with its two parts changed, by numbers
pub two_step : (a b c : List Item) → Extends a b → Extends b c → (ch inner : Change) (k : Key) (p q x y : ℕ) → inner ≡ change_inside k ch → HasChange a inner → HasParts a k
    → parts_of k ≡ Two p q → IsThere a q → Stands b x (changed (operation_at a inner) (item_at a p)) → Stands c y (changed (operation_at b inner) (item_at b q))
    → IsChanged a c (operation_at a ch) k (with_parts k x y)
two_step a b c grown more ch inner k p q x y same has h e there s r =
    let at : (n : ℕ) → Some (changed (operation_at a inner) (item_at a n)) ≡ Some (changed (inside k (operation_at a ch)) (item_at a n)) =
    λ n. ap (λ d. Some (changed (operation_at a d) (item_at a n))) same ∙ ap (λ o. Some (changed o (item_at a n))) (operation_inside a k ch) in
    two_changed a c (λ n t u. more n t (grown n t u)) (operation_at a ch) k p q x y h e
    (more x _ s ∙ at p)
    (moved a b c inner q y grown has there r ∙ at q)

-- the changed key's item, where it stands
pub stands_changed : (a b c : List Item) (o : Operation) (k l m : Key) (n : ℕ) → IsChanged a b o k l → m ≡ l → Stands c n (meaning b m) → Stands c n (changed o (meaning a k))
stands_changed a b c o k l m n h e s = s ∙ ap (λ d. Some (meaning b d)) e ∙ ap Some h.means
