-- Marks that keep a state closed under prefixes, and axioms.
use Rattle.std.proofs.Common.{◌≡◌, true, false, List, refl, sym, subst, ◌∙◌}
use Rattle.fol.specs.declared.symbols.Var.{Var}
use Rattle.fol.specs.Syntax.{Term, free, Formula, not, and, or, imp, all, ex}
use Rattle.finite.specs.Finite as set
use Rattle.finite.proofs.Finite.{has-empty}
use Rattle.lk_rules.specs.declared.sequent.Side.{Side}
use Rattle.lk_rules.specs.declared.sequent.Side.TheVariants.{Left, Right}
use Rattle.search_laws.proofs.Tests.{clash}
use Rattle.expansion_laws.specs.Proofs.{is_weak_on}
use Rattle.extraction_laws.specs.Addresses.{Address, root, part, via, address_cmp, formula_at, side_at}
use Rattle.extraction_laws.specs.States.{State, unmarked, opened, instantiated, named, Includes, variable_at}
use Rattle.extraction_laws.specs.Extraction.{paired}
use Rattle.extraction_laws.proofs.Grades.{Share, PairRises, side_of_part, at_pairs}
use Rattle.extraction_laws.proofs.Growing.{includes-paired}
use Rattle.extraction_laws.proofs.Marks.{marked, stays_marked, old_or_marked, includes-opened, includes-instantiated, includes-named}
use Rattle.extraction_laws.proofs.Unrolled.{both, by_variable, paired-flat, paired-not, paired-and, paired-or, paired-imp, paired-all, paired-ex}
use Rattle.merge_laws.specs.United.{IsReached, IsPrefixClosed}
use Rattle.merge_laws.specs.Inferences.{with_names}

-- what is reached stays so
pub reached_later : (x y : State) → Includes x y → (a : Address) → IsReached x a → IsReached y a
reached_later x y h (root s f) reached = tt
reached_later x y h (part a i) reached = h.used a reached
reached_later x y h (via a t) reached = (h.used a reached.0, λ weak. h.instances (via a t) (reached.1 weak))

pub closed_opened : (a : Address) (x : State) → IsPrefixClosed x → IsReached x a → IsPrefixClosed (opened a x)
closed_opened a x h reached =
    let later = reached_later x (opened a x) (includes-opened a x) in record {
      opened = λ b there. old_or_marked x.opened b a (λ old. later b (h.opened b old)) (λ new. subst (IsReached (opened a x)) (sym new) (later a reached)) there;
      instances = λ b t there. stays_marked x.opened b a (h.instances b t there);
    }

pub closed_instantiated : (a : Address) (t : Term) (x : State) → IsPrefixClosed x → set.has x.opened a ≡ true → IsPrefixClosed (instantiated a t x)
closed_instantiated a t x h used = record {
  opened = λ b there. reached_later x (instantiated a t x) (includes-instantiated a t x) b (h.opened b there);
  instances = λ b u there. old_or_marked x.instances (via b u) (via a t) (h.instances b u) (λ new. let same : b ≡ a = cc in subst (λ c. set.has x.opened c ≡ true) (sym same) used) there;
}

pub closed_named : (a : Address) (x : State) → IsPrefixClosed x → IsPrefixClosed (named a x)
closed_named a x h = record { opened = λ b there. reached_later x (named a x) (includes-named a x) b (h.opened b there); instances = h.instances }

-- a state with no marks
pub closed_unmarked : (names : List Address) → IsPrefixClosed (with_names names unmarked)
closed_unmarked names = record {
  opened = λ a there. clash (set.has (set.empty {R = address_cmp}) a) there (has-empty address_cmp a);
  instances = λ a t there. clash (set.has (set.empty {R = address_cmp}) (via a t)) there (has-empty address_cmp (via a t));
}

-- the instance at an address that is no weak quantifier is reached
pub reached_strong : (x : State) (a : Address) (t : Term) (s : Side) (f : Formula) → side_at a ≡ s → formula_at a ≡ f → is_weak_on s f ≡ false → set.has x.opened a ≡ true → IsReached x (via a t)
reached_strong x a t s f side e strong used = (used, λ weak. clash (is_weak_on (side_at a) (formula_at a)) weak ((λ i. is_weak_on (side i) (e i)) ∙ strong))

module _ (vs : List Var) where
  -- both addresses of an axiom's formula

  closed_both : (l r : Address) (x : State) → IsPrefixClosed x → IsReached x l → IsReached x r → IsPrefixClosed (both vs l r x)
  closed_both l r x h left right = closed_opened r (opened l x) (closed_opened l x h left) (reached_later x (opened l x) (includes-opened l x) r right)

  used_left : (l r : Address) (x : State) → set.has (both vs l r x).opened l ≡ true
  used_left l r x = stays_marked (opened l x).opened l r (marked x.opened l)

  used_right : (l r : Address) (x : State) → set.has (both vs l r x).opened r ≡ true
  used_right l r x = marked (opened l x).opened r

  record Keeps (l r : Address) : Type 0 where
    keeps : (x : State) → IsPrefixClosed x → side_at l ≡ Left → side_at r ≡ Right → IsReached x l → IsReached x r → IsPrefixClosed (paired vs l r x)

  -- a second pair of parts after the first
  closed_parts : (a b d e : Address) (x : State) → Keeps d e → IsReached x d → IsReached x e → IsPrefixClosed (paired vs a b x) → side_at d ≡ Left → side_at e ≡ Right
      → IsPrefixClosed (paired vs d e (paired vs a b x))
  closed_parts a b d e x k one other first left right =
      let later = reached_later x (paired vs a b x) (includes-paired vs a b x) in
      k.keeps (paired vs a b x) first left right (later d one) (later e other)

  -- after the strong address s has got its variable, and the weak one w the instance by that
  closed_by_variable : (s w : Address) (v : Var) (x : State) → IsPrefixClosed x → set.has x.opened w ≡ true → IsPrefixClosed (by_variable vs s w v x)
  closed_by_variable s w v x h used = closed_instantiated w (free v) (named s x) (closed_named s x h) used

  keeping : PairRises Keeps
  keeping = record {
    flat = λ l r f e flat. record {
      keeps = λ x h left right one other. subst IsPrefixClosed (sym (paired-flat vs f l r x e flat)) (closed_both l r x h one other);
    };
    negation = λ l r f e k. record {
      keeps = λ x h left right one other.
          subst IsPrefixClosed (sym (paired-not vs f l r x e))
          (k.keeps (both vs l r x) (closed_both l r x h one other)
          (side_of_part r 0 (not f) Right e.right right) (side_of_part l 0 (not f) Left e.left left) (used_right l r x) (used_left l r x));
    };
    conjunction = λ l r f g e k m. record {
      keeps = λ x h left right one other.
          subst IsPrefixClosed (sym (paired-and vs f g l r x e))
          (closed_parts (part l 0) (part r 0) (part l 1) (part r 1) (both vs l r x) m (used_left l r x) (used_right l r x)
          (k.keeps (both vs l r x) (closed_both l r x h one other) (side_of_part l 0 (and f g) Left e.left left) (side_of_part r 0 (and f g) Right e.right right) (used_left l r x) (used_right l r x))
          (side_of_part l 1 (and f g) Left e.left left) (side_of_part r 1 (and f g) Right e.right right));
    };
    disjunction = λ l r f g e k m. record {
      keeps = λ x h left right one other.
          subst IsPrefixClosed (sym (paired-or vs f g l r x e))
          (closed_parts (part l 0) (part r 0) (part l 1) (part r 1) (both vs l r x) m (used_left l r x) (used_right l r x)
          (k.keeps (both vs l r x) (closed_both l r x h one other) (side_of_part l 0 (or f g) Left e.left left) (side_of_part r 0 (or f g) Right e.right right) (used_left l r x) (used_right l r x))
          (side_of_part l 1 (or f g) Left e.left left) (side_of_part r 1 (or f g) Right e.right right));
    };
    implication = λ l r f g e k m. record {
      keeps = λ x h left right one other.
          subst IsPrefixClosed (sym (paired-imp vs f g l r x e))
          (closed_parts (part r 0) (part l 0) (part l 1) (part r 1) (both vs l r x) m (used_left l r x) (used_right l r x)
          (k.keeps (both vs l r x) (closed_both l r x h one other) (side_of_part r 0 (imp f g) Right e.right right) (side_of_part l 0 (imp f g) Left e.left left) (used_right l r x) (used_left l r x))
          (side_of_part l 1 (imp f g) Left e.left left) (side_of_part r 1 (imp f g) Right e.right right));
    };
    universal = λ l r f e k. record {
      keeps = λ x h left right one other.
          let v : Var = variable_at vs x r in
          let y : State = both vs l r x in
          subst IsPrefixClosed (sym (paired-all vs f l r x e))
          ((k (free v)).keeps (by_variable vs r l v y) (closed_by_variable r l v y (closed_both l r x h one other) (used_left l r x)) left right
          (used_left l r x, λ _. marked y.instances (via l (free v)))
          (reached_strong (by_variable vs r l v y) r (free v) Right (all f) right e.right refl (used_right l r x)));
    };
    existential = λ l r f e k. record {
      keeps = λ x h left right one other.
          let v : Var = variable_at vs x l in
          let y : State = both vs l r x in
          subst IsPrefixClosed (sym (paired-ex vs f l r x e))
          ((k (free v)).keeps (by_variable vs l r v y) (closed_by_variable l r v y (closed_both l r x h one other) (used_right l r x)) left right
          (reached_strong (by_variable vs l r v y) l (free v) Left (ex f) left e.left refl (used_left l r x))
          (used_right l r x, λ _. marked y.instances (via r (free v))));
    };
  }

  pub closed_paired : (l r : Address) (f : Formula) (x : State) → Share l r f → IsPrefixClosed x → side_at l ≡ Left → side_at r ≡ Right → IsReached x l → IsReached x r → IsPrefixClosed (paired vs l r x)
  closed_paired l r f x e = (at_pairs Keeps keeping f l r e).keeps x
