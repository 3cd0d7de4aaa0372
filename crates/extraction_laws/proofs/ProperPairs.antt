-- Axioms keep states proper.
use Rattle.std.proofs.Common.{◌≡◌, true, false, List, refl, sym, ap, subst, ◌∙◌}
use Rattle.fol.specs.declared.symbols.Var.{Var}
use Rattle.fol.specs.Syntax.{free, Formula, atom, top, bot, not, and, or, imp, all, ex}
use Rattle.free_variables.specs.Occurrence.{is_free_in_term}
use Rattle.lk_rules.specs.declared.sequent.Side.{Side}
use Rattle.lk_rules.specs.declared.sequent.Side.TheVariants.{Left, Right}
use Rattle.cut_laws.proofs.Sides.{clash}
use Rattle.expansion_laws.specs.Building.{is_flat}
use Rattle.expansion_laws.specs.Proofs.{is_strong_on}
use Rattle.extraction_laws.specs.Addresses.{Address, part, via, formula_at, side_at}
use Rattle.extraction_laws.specs.States.{State, opened, named, nth_outside, variable_at}
use Rattle.extraction_laws.specs.Extraction.{paired}
use Rattle.extraction_laws.proofs.Grades.{Share, PairRises, side_of_part, at_pairs}
use Rattle.extraction_laws.proofs.Growing.{includes-variable, includes-paired}
use Rattle.extraction_laws.proofs.Marks.{is_there, own_place}
use Rattle.extraction_laws.proofs.Proper.{KnownPath, path_later, Proper, proper_opened, proper_instantiated, proper_named, known_instance, known_variable}
use Rattle.extraction_laws.proofs.Unrolled.{both, by_variable, paired-flat, paired-not, paired-and, paired-or, paired-imp, paired-all, paired-ex}

-- an atom, truth and falsity are no strong quantifiers
flat_weak : (s : Side) (f : Formula) → is_flat f ≡ true → is_strong_on s f ≡ false
flat_weak Left (atom r ts) h = refl
flat_weak Right (atom r ts) h = refl
flat_weak Left top h = refl
flat_weak Right top h = refl
flat_weak Left bot h = refl
flat_weak Right bot h = refl
flat_weak s (not f) h = cc
flat_weak s (and f g) h = cc
flat_weak s (or f g) h = cc
flat_weak s (imp f g) h = cc
flat_weak s (all f) h = cc
flat_weak s (ex f) h = cc

module _ (vs : List Var) where
  -- what stands there is no strong quantifier
  abbrev IsWeak : Address → Type 0
  IsWeak a = is_strong_on (side_at a) (formula_at a) ≡ false

  weak_on : (a : Address) (s : Side) (f : Formula) → side_at a ≡ s → formula_at a ≡ f → is_strong_on s f ≡ false → IsWeak a
  weak_on a s f side e h = (λ i. is_strong_on (side i) (e i)) ∙ h

  -- it needs no variable
  no_name : {P : Type 0} (a : Address) → IsWeak a → is_strong_on (side_at a) (formula_at a) ≡ true → P
  no_name a weak strong = clash (is_strong_on (side_at a) (formula_at a)) strong weak

  proper_both : (l r : Address) (x : State) → Proper vs x → IsWeak l → IsWeak r → Proper vs (both vs l r x)
  proper_both l r x p left right = proper_opened vs r (opened l x) (proper_opened vs l x p (no_name l left)) (no_name r right)

  record Keeps (l r : Address) : Type 0 where
    keeps : (x : State) → Proper vs x → side_at l ≡ Left → side_at r ≡ Right → KnownPath vs x l → KnownPath vs x r → Proper vs (paired vs l r x)

  -- the variable that a strong address has before its name is its variable after
  own_variable : (s w : Address) (v : Var) (x : State) → variable_at vs (by_variable vs s w v x) s ≡ variable_at vs x s
  own_variable s w v x = ap (nth_outside vs) (own_place s x.names)

  -- after the instance by the variable of the strong address s
  known_by_variable : (s w : Address) (v : Var) (x : State) → v ≡ variable_at vs x s → (a : Address) → KnownPath vs x a → KnownPath vs (by_variable vs s w v x) (via a (free v))
  known_by_variable s w v x is a known =
      let y : State = by_variable vs s w v x in
      known_instance vs a (free v) y (path_later vs x y (includes-variable s w (free v) x) a known)
      (λ u e. known_variable vs s y (is_there s x.names) u (subst (λ n. is_free_in_term u (free n) ≡ true) (is ∙ sym (own_variable s w v x)) e))

  -- a second pair of parts after the first
  proper_parts : (a b d e : Address) (x : State) → Keeps d e → KnownPath vs x d → KnownPath vs x e → Proper vs (paired vs a b x) → side_at d ≡ Left → side_at e ≡ Right
      → Proper vs (paired vs d e (paired vs a b x))
  proper_parts a b d e x k known also first left right =
      k.keeps (paired vs a b x) first left right
      (path_later vs x (paired vs a b x) (includes-paired vs a b x) d known)
      (path_later vs x (paired vs a b x) (includes-paired vs a b x) e also)

  keeping : PairRises Keeps
  keeping = record {
    flat = λ l r f e flat. record {
      keeps = λ x p left right known also.
          subst (Proper vs) (sym (paired-flat vs f l r x e flat)) (proper_both l r x p (weak_on l _ f refl e.left (flat_weak (side_at l) f flat)) (weak_on r _ f refl e.right (flat_weak (side_at r) f flat)));
    };
    negation = λ l r f e h. record {
      keeps = λ x p left right known also.
          subst (Proper vs) (sym (paired-not vs f l r x e))
          (h.keeps (both vs l r x) (proper_both l r x p (weak_on l Left (not f) left e.left refl) (weak_on r Right (not f) right e.right refl))
          (side_of_part r 0 (not f) Right e.right right) (side_of_part l 0 (not f) Left e.left left) also known);
    };
    conjunction = λ l r f g e h k. record {
      keeps = λ x p left right known also.
          let opened_both : Proper vs (both vs l r x) = proper_both l r x p (weak_on l Left (and f g) left e.left refl) (weak_on r Right (and f g) right e.right refl) in
          subst (Proper vs) (sym (paired-and vs f g l r x e))
          (proper_parts (part l 0) (part r 0) (part l 1) (part r 1) (both vs l r x) k known also
          (h.keeps (both vs l r x) opened_both (side_of_part l 0 (and f g) Left e.left left) (side_of_part r 0 (and f g) Right e.right right) known also)
          (side_of_part l 1 (and f g) Left e.left left) (side_of_part r 1 (and f g) Right e.right right));
    };
    disjunction = λ l r f g e h k. record {
      keeps = λ x p left right known also.
          let opened_both : Proper vs (both vs l r x) = proper_both l r x p (weak_on l Left (or f g) left e.left refl) (weak_on r Right (or f g) right e.right refl) in
          subst (Proper vs) (sym (paired-or vs f g l r x e))
          (proper_parts (part l 0) (part r 0) (part l 1) (part r 1) (both vs l r x) k known also
          (h.keeps (both vs l r x) opened_both (side_of_part l 0 (or f g) Left e.left left) (side_of_part r 0 (or f g) Right e.right right) known also)
          (side_of_part l 1 (or f g) Left e.left left) (side_of_part r 1 (or f g) Right e.right right));
    };
    implication = λ l r f g e h k. record {
      keeps = λ x p left right known also.
          let opened_both : Proper vs (both vs l r x) = proper_both l r x p (weak_on l Left (imp f g) left e.left refl) (weak_on r Right (imp f g) right e.right refl) in
          subst (Proper vs) (sym (paired-imp vs f g l r x e))
          (proper_parts (part r 0) (part l 0) (part l 1) (part r 1) (both vs l r x) k known also
          (h.keeps (both vs l r x) opened_both (side_of_part r 0 (imp f g) Right e.right right) (side_of_part l 0 (imp f g) Left e.left left) also known)
          (side_of_part l 1 (imp f g) Left e.left left) (side_of_part r 1 (imp f g) Right e.right right));
    };
    universal = λ l r f e h. record {
      keeps = λ x p left right known also.
          let v : Var = variable_at vs x r in
          let y : State = both vs l r x in
          let named_first : Proper vs (named r (opened l x)) = proper_named vs r (opened l x) (proper_opened vs l x p (no_name l (weak_on l Left (all f) left e.left refl))) also in
          let ready : Proper vs (named r y) = proper_opened vs r (named r (opened l x)) named_first (λ _. is_there r x.names) in
          subst (Proper vs) (sym (paired-all vs f l r x e))
          ((h (free v)).keeps (by_variable vs r l v y) (proper_instantiated vs l (free v) (named r y) ready) left right
          (known_by_variable r l v y refl l known) (known_by_variable r l v y refl r also));
    };
    existential = λ l r f e h. record {
      keeps = λ x p left right known also.
          let v : Var = variable_at vs x l in
          let y : State = both vs l r x in
          let ready : Proper vs (opened r (opened l (named l x))) = proper_opened vs r (opened l (named l x)) (proper_opened vs l (named l x) (proper_named vs l x p known) (λ _. is_there l x.names)) (no_name r (weak_on r Right (ex f) right e.right refl)) in
          subst (Proper vs) (sym (paired-ex vs f l r x e))
          ((h (free v)).keeps (by_variable vs l r v y) (proper_instantiated vs r (free v) (named l y) ready) left right
          (known_by_variable l r v y refl l known) (known_by_variable l r v y refl r also));
    };
  }

  pub proper_paired : (l r : Address) (f : Formula) (x : State) → Share l r f → Proper vs x → side_at l ≡ Left → side_at r ≡ Right → KnownPath vs x l → KnownPath vs x r → Proper vs (paired vs l r x)
  proper_paired l r f x e = (at_pairs Keeps keeping f l r e).keeps x
