-- The map of the variables below a number, and the next one.
use Rattle.std.proofs.Common.{◌≡◌, ◌≢◌, ℕ, ◌+◌, ◌<◌, ⊎_elim, Bool, true, false, List, length, refl, sym, ap, subst, ◌∙◌, arith}
use Rattle.std.specs.Prelude.{Some, None, slice_get}
use Rattle.std.specs.FinMap as fin
use Rattle.std.specs.Ordering.{eq_by_cmp}
use Rattle.std.proofs.lemmas.Bool.{cases_eq}
use Rattle.fol.specs.declared.symbols.Var.{Var}
use Rattle.fol.specs.Syntax.{Term, free}
use Rattle.fol.specs.Order.{var_cmp}
use Rattle.substitution.specs.Maps.{Map}
use Rattle.substitution.proofs.ImageLaws.{own_binding, other_binding, same_var}
use Rattle.unify_laws.specs.Equations.{Equation}
use Rattle.arena_cells.specs.declared.key.Key.{Key}
use Rattle.arena_cells.specs.declared.key.Key.TheVariants.{Free}
use Rattle.arena_cells.specs.Items.{Item, term}
use Rattle.arena_cells.specs.Standing.{Extends, item_at, term_at, HasVariable, IsDistinct}
use Rattle.arena_cells.specs.Meaning.{meaning}
use Rattle.fol_unify.specs.declared.values.Mark.{Mark}
use Rattle.fol_unify.specs.declared.values.Mark.TheVariants.{Done}
use Rattle.fol_unify.specs.Classes.{next}
use Rattle.fol_unify.specs.Solving.{kind_of, other, AreSolved}
use Rattle.fol_unify.specs.Values.{IsDone, IsBinding, IsSolution, AreDone, MarksGrow}
use Rattle.fol_unify.proofs.Solved.{item_stays}

-- only the key of a variable means one
pub key_free : (a : List Item) (k : Key) (x : Var) → meaning a k ≡ term (free x) → k ≡ Free x
key_free a (Free v) x e = cc
key_free a k x e = absurd cc

-- the values of the classes of one more number are made
pub done_more : (a b : List Item) (es : List Equation) (rs : List ℕ) (ms ns : List Mark) (n : ℕ) → Extends a b → AreSolved a es rs → MarksGrow ms ns → n < length rs → AreDone a rs ms n → (kind_of (item_at a n) ≢ other → (v : ℕ) × IsDone ns (next rs n) v) → AreDone b rs ns (n + 1)
done_more a b es rs ms ns n grown s marks below so_far one m mb known =
    ⊎_elim {C = (v : ℕ) × IsDone ns (next rs m) v}
    (λ e. subst (λ k. (v : ℕ) × IsDone ns (next rs k) v) (sym e) (one (λ d. known (ap kind_of (item_stays a b es rs grown s m (omega (arith, below))) ∙ ap (λ k. kind_of (item_at a k)) e ∙ d))))
    (λ apart.
    let old = so_far m (omega arith) (λ d. known (ap kind_of (item_stays a b es rs grown s m (omega (arith, below))) ∙ d)) in
    (old.0, marks.done (next rs m) old.0 old.1))
    (cases_eq m n)

module _ (a : List Item) (rs : List ℕ) (ms : List Mark) (n : ℕ) where
  later : (x : Var) (t : Term) → IsBinding a rs ms n x t → IsBinding a rs ms (n + 1) x t
  later x t b = record {
    number = b.number;
    value = b.value;
    below = omega (arith, b.below);
    stands = b.stands;
    moved = b.moved;
    done = b.done;
    bound = b.bound;
  }

  earlier : (x : Var) (t : Term) (b : IsBinding a rs ms (n + 1) x t) → (b.number ≡ n → ⊥) → IsBinding a rs ms n x t
  earlier x t b apart = record {
    number = b.number;
    value = b.value;
    below = omega (arith, b.below, apart);
    stands = b.stands;
    moved = b.moved;
    done = b.done;
    bound = b.bound;
  }

  -- the next number is that of no variable, or of one that is a root
  pub skipped : (m : Map) → ((x : Var) → HasVariable a n x → next rs n ≢ n → ⊥) → IsSolution a rs ms n m → IsSolution a rs ms (n + 1) m
  skipped m none s = record {
    only = λ x t e. later x t (s.only x t e);
    all = λ x t b. s.all x t (earlier x t b (λ e. none x (subst (λ k. HasVariable a k x) e b.stands) (λ d. b.moved (ap (next rs) e ∙ d ∙ sym e))));
  }

  -- the next number is that of a variable which is bound
  module _ (distinct : IsDistinct a) (m : Map) (x : Var) (v : ℕ) (here : HasVariable a n x) (moved : next rs n ≢ n) (done : IsDone ms (next rs n) v) (s : IsSolution a rs ms n m) where
    only_for : (y : Var) (t : Term) (c : Bool) → eq_by_cmp var_cmp y x ≡ c → fin.get (fin.insert m x (term_at a v)) y ≡ Some t → IsBinding a rs ms (n + 1) y t
    only_for y t true is e =
        let y_is : y ≡ x = same_var y x is in
        let both : Some (term_at a v) ≡ Some t = sym (own_binding m x (term_at a v)) ∙ ap (fin.get (fin.insert m x (term_at a v))) (sym y_is) ∙ e in
        record {
          number = n;
          value = v;
          below = omega arith;
          stands = subst (HasVariable a n) (sym y_is) here;
          moved = moved;
          done = done;
          bound = cc;
        }
    only_for y t false is e = later y t (s.only y t (sym (other_binding m x y (term_at a v) is) ∙ e))

    all_others : (y : Var) (t : Term) (b : IsBinding a rs ms (n + 1) y t) → (b.number ≡ n → ⊥) → (c : Bool) → eq_by_cmp var_cmp y x ≡ c → fin.get (fin.insert m x (term_at a v)) y ≡ Some t
    all_others y t b apart true is = absurd (apart (distinct b.number n (term (free x)) (subst (HasVariable a b.number) (same_var y x is) b.stands) here))
    all_others y t b apart false is = other_binding m x y (term_at a v) is ∙ s.all y t (earlier y t b apart)

    all_for : (y : Var) (t : Term) (b : IsBinding a rs ms (n + 1) y t) → b.number ≡ n → fin.get (fin.insert m x (term_at a v)) y ≡ Some t
    all_for y t b e =
        let at_n : HasVariable a n y = subst (λ k. HasVariable a k y) e b.stands in
        let same : Some (term (free y)) ≡ Some (term (free x)) = sym at_n ∙ here in
        let is : y ≡ x = cc in
        let marked : Some (Done b.value) ≡ Some (Done v) = sym b.done ∙ ap (λ k. slice_get ms (next rs k)) e ∙ done in
        let value : b.value ≡ v = cc in
        ap (fin.get (fin.insert m x (term_at a v))) is ∙ own_binding m x (term_at a v) ∙ ap (λ k. Some (term_at a k)) (sym value) ∙ ap Some (sym b.bound)

    pub one_bound : IsSolution a rs ms (n + 1) (fin.insert m x (term_at a v))
    one_bound = record {
      only = λ y t e. only_for y t (eq_by_cmp var_cmp y x) refl e;
      all = λ y t b. ⊎_elim {C = fin.get (fin.insert m x (term_at a v)) y ≡ Some t} (all_for y t b) (λ apart. all_others y t b apart (eq_by_cmp var_cmp y x) refl) (cases_eq b.number n);
    }

-- the map of no variable
pub none_bound : (a : List Item) (rs : List ℕ) (ms : List Mark) → IsSolution a rs ms 0 (fin.empty {R = var_cmp})
none_bound a rs ms = record {
  only = λ x t e. let none : None ≡ Some t = sym (fin.get-empty var_cmp x) ∙ e in cc;
  all = λ x t b. absurd (omega (arith, b.below));
}
