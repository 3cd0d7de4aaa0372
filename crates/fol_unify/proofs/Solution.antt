-- The map of all variables makes of each number what is the value of its class, so it solves the equations.
use Rattle.std.proofs.Common.{◌≡◌, ◌≢◌, ℕ, ◌<◌, ⊎_elim, List, length, Option, unwrap_or, refl, sym, ap, subst, ◌∙◌}
use Rattle.std.specs.Prelude.{Some, None, slice_get}
use Rattle.std.specs.FinMap as fin
use Rattle.std.proofs.lemmas.List.Elements.{All-weaker}
use Rattle.std.proofs.lemmas.Bool.{cases_eq}
use Rattle.fol.specs.declared.symbols.Var.{Var}
use Rattle.fol.specs.Syntax.{Term, free, bound, app, Terms, nil, cons}
use Rattle.substitution.specs.Image.{image_term, image_terms, after}
use Rattle.substitution.specs.Maps.{Map}
use Rattle.substitution.proofs.ImageLaws.{image-image_term, agree_term}
use Rattle.unify_laws.specs.Equations.{Equation, Unifies}
use Rattle.arena_cells.specs.Items.{Item, symbol, term, terms, formula, variables, substitution, side, sequent, tree}
use Rattle.arena_cells.specs.Standing.{Stands, item_at, term_at, HasTerm, HasTerms, HasVariable, IsDistinct}
use Rattle.arena_cells.proofs.Staying.{item_is, is_term}
use Rattle.fol_unify.specs.declared.values.Mark.{Mark}
use Rattle.fol_unify.specs.Classes.{next}
use Rattle.fol_unify.specs.Solving.{a_term, other, kind_of, image_item, AreTied, AreAlike, AreSolved}
use Rattle.fol_unify.specs.Values.{IsDone, IsPart, IsBuilt, AreValued, AreDone, IsSolution}
use Rattle.fol_unify.proofs.ValueLaws.{value_term, value_image}

-- not a variable
abbrev IsComposed : Item → Type 0
IsComposed (term (free x)) = ⊥
IsComposed i = Unit {0}

module _ (a : List Item) (es : List Equation) (rs : List ℕ) (ms : List Mark) (distinct : IsDistinct a) (s : AreSolved a es rs) (valued : AreValued a es rs ms) where
  part_of_tied : (i j k : Item) → AreTied a (length rs) (next rs) i j → IsPart a rs ms j k → IsPart a rs ms i k
  part_of_tied i j k t p =
      let same : next rs t.one ≡ next rs p.part = t.tied ∙ ap (next rs) (distinct t.two p.part j t.two_stands p.stands) in
      record {
        part = t.one;
        value = p.value;
        below = t.one_below;
        stands = t.one_stands;
        done = ap (slice_get ms) same ∙ p.done;
        there = p.there;
      }

  -- what is built of a like item is built of this one
  built_of_alike : (i j k : Item) → IsComposed i → AreAlike a (length rs) (next rs) i j → IsBuilt a rs ms j k → IsBuilt a rs ms i k
  built_of_alike (term (free x)) j k c p q = absurd c
  built_of_alike (term (bound b)) j k c p q = subst (λ w. IsBuilt a rs ms w k) p q
  built_of_alike (term (app f ts)) j k c p q =
      let r = subst (λ w. IsBuilt a rs ms w k) p.1.0 q in
      (r.0, (r.1.0, part_of_tied (terms ts) (terms p.0) (terms r.0) p.1.1 r.1.1))
  built_of_alike (terms nil) j k c p q = subst (λ w. IsBuilt a rs ms w k) p q
  built_of_alike (terms (cons t ts)) j k c p q =
      let r = subst (λ w. IsBuilt a rs ms w k) p.1.1.0 q in
      (r.0, (r.1.0, (r.1.1.0, (part_of_tied (term t) (term p.0) (term r.0) p.1.1.1.0 r.1.1.1.0, part_of_tied (terms ts) (terms p.1.0) (terms r.1.0) p.1.1.1.1 r.1.1.1.1))))
  built_of_alike (symbol x) j k c p q = subst (λ w. IsBuilt a rs ms w k) p q
  built_of_alike (formula x) j k c p q = subst (λ w. IsBuilt a rs ms w k) p q
  built_of_alike (variables x) j k c p q = subst (λ w. IsBuilt a rs ms w k) p q
  built_of_alike (substitution x) j k c p q = subst (λ w. IsBuilt a rs ms w k) p q
  built_of_alike (side x) j k c p q = subst (λ w. IsBuilt a rs ms w k) p q
  built_of_alike (sequent x) j k c p q = subst (λ w. IsBuilt a rs ms w k) p q
  built_of_alike (tree x) j k c p q = subst (λ w. IsBuilt a rs ms w k) p q

  built_of : (i : Item) (n v : ℕ) → n < length rs → Stands a n i → IsComposed i → IsDone ms (next rs n) v → IsBuilt a rs ms i (item_at a v)
  built_of i n v below here composed d =
      let at_n : item_at a n ≡ i = item_is a n i here in
      let built = (valued.each (next rs n) v d).built in
      ⊎_elim {C = IsBuilt a rs ms i (item_at a v)}
      (λ e. subst (λ w. IsBuilt a rs ms w (item_at a v)) (ap (item_at a) e ∙ at_n) built)
      (λ moved. built_of_alike i (item_at a (next rs n)) (item_at a v) composed (subst (λ w. AreAlike a (length rs) (next rs) w (item_at a (next rs n))) at_n (s.alike n below moved)) built)
      (cases_eq (next rs n) n)

  stands_at : (v : ℕ) (j : Item) (r : ℕ) → IsDone ms r v → item_at a v ≡ j → Stands a v j
  stands_at v j r d e = (valued.each r v d).there ∙ ap Some e

  module _ (m : Map) (sol : IsSolution a rs ms (length rs) m) where
    variable_root : (x : Var) (n : ℕ) → HasVariable a n x → next rs n ≡ n → (o : Option Term) → fin.get m x ≡ o → image_term (fin.get m) (free x) ≡ free x
    variable_root x n here root None e = ap (λ o. unwrap_or o (free x)) e
    variable_root x n here root (Some t) e =
        let b = sol.only x t e in
        let same : b.number ≡ n = distinct b.number n (term (free x)) b.stands here in
        absurd (b.moved (ap (next rs) same ∙ root ∙ sym same))

    variable_moved : (x : Var) (n v : ℕ) → n < length rs → HasVariable a n x → next rs n ≢ n → IsDone ms (next rs n) v → image_term (fin.get m) (free x) ≡ term_at a v
    variable_moved x n v below here moved d =
        ap (λ o. unwrap_or o (free x)) (sol.all x (term_at a v) (record { number = n; value = v; below = below; stands = here; moved = moved; done = d; bound = refl }))

    variable_value : (x : Var) (n v : ℕ) → n < length rs → HasVariable a n x → IsDone ms (next rs n) v → HasTerm a v (image_term (fin.get m) (free x))
    variable_value x n v below here d =
        let at_n : item_at a n ≡ term (free x) = item_is a n _ here in
        ⊎_elim {C = HasTerm a v (image_term (fin.get m) (free x))}
        (λ root.
        let built : IsBuilt a rs ms (term (free x)) (item_at a v) = subst (λ w. IsBuilt a rs ms w (item_at a v)) (ap (item_at a) root ∙ at_n) (valued.each (next rs n) v d).built in
        stands_at v _ (next rs n) d (built ∙ ap term (sym (variable_root x n here root (fin.get m x) refl))))
        (λ moved.
        let there = value_term a es rs ms s valued n v below d (here ∙ ap (λ t. Some (term t)) (sym (is_term a n (free x) here))) in
        there ∙ ap (λ t. Some (term t)) (sym (variable_moved x n v below here moved d)))
        (cases_eq (next rs n) n)

    mutual
      pub image_value : (t : Term) (n v : ℕ) → n < length rs → HasTerm a n t → IsDone ms (next rs n) v → HasTerm a v (image_term (fin.get m) t)
      image_value (free x) n v below here d = variable_value x n v below here d
      image_value (bound i) n v below here d = stands_at v _ (next rs n) d (built_of (term (bound i)) n v below here tt d)
      image_value (app f ts) n v below here d =
          let built = built_of (term (app f ts)) n v below here tt d in
          let part = built.1.1 in
          let arguments = image_values ts part.part part.value part.below part.stands part.done in
          let same : Some (terms built.0) ≡ Some (terms (image_terms (fin.get m) ts)) = sym part.there ∙ arguments in
          let is : built.0 ≡ image_terms (fin.get m) ts = cc in
          stands_at v _ (next rs n) d (built.1.0 ∙ ap (λ us. term (app f us)) is)

      image_values : (ts : Terms) (n v : ℕ) → n < length rs → HasTerms a n ts → IsDone ms (next rs n) v → HasTerms a v (image_terms (fin.get m) ts)
      image_values nil n v below here d = stands_at v _ (next rs n) d (built_of (terms nil) n v below here tt d)
      image_values (cons t ts) n v below here d =
          let built = built_of (terms (cons t ts)) n v below here tt d in
          let part = built.1.1.1.0 in
          let rest = built.1.1.1.1 in
          let first = image_value t part.part part.value part.below part.stands part.done in
          let others = image_values ts rest.part rest.value rest.below rest.stands rest.done in
          let same : Some (term built.0) ≡ Some (term (image_term (fin.get m) t)) = sym part.there ∙ first in
          let same_rest : Some (terms built.1.0) ≡ Some (terms (image_terms (fin.get m) ts)) = sym rest.there ∙ others in
          let is : built.0 ≡ image_term (fin.get m) t = cc in
          let is_rest : built.1.0 ≡ image_terms (fin.get m) ts = cc in
          stands_at v _ (next rs n) d (built.1.1.0 ∙ (λ i. terms (cons (is i) (is_rest i))))

    one_unified : (done : AreDone a rs ms (length rs)) (e : Equation) → AreTied a (length rs) (next rs) (term e.0) (term e.1) → image_term (fin.get m) e.0 ≡ image_term (fin.get m) e.1
    one_unified done e t =
        let value = done t.one t.one_below (λ d. let same : a_term ≡ other = sym (ap kind_of (item_is a t.one _ t.one_stands)) ∙ d in cc) in
        let one = image_value e.0 t.one value.0 t.one_below t.one_stands value.1 in
        let two = image_value e.1 t.two value.0 t.two_below t.two_stands (ap (slice_get ms) (sym t.tied) ∙ value.1) in
        let same : Some (term (image_term (fin.get m) e.0)) ≡ Some (term (image_term (fin.get m) e.1)) = sym one ∙ two in
        cc

    pub unified : AreDone a rs ms (length rs) → Unifies (fin.get m) es
    unified done = All-weaker (λ (e : Equation). AreTied a (length rs) (next rs) (term e.0) (term e.1)) (λ (e : Equation). image_term (fin.get m) e.0 ≡ image_term (fin.get m) e.1) (one_unified done) es s.equal

    general_at : (h : Var → Option Term) → Unifies h es → (x : Var) (o : Option Term) → fin.get m x ≡ o → image_term h (image_term (fin.get m) (free x)) ≡ image_term h (free x)
    general_at h all x None e = ap (λ o. image_term h (unwrap_or o (free x))) e
    general_at h all x (Some t) e =
        let b = sol.only x t e in
        let below : b.number < length rs = b.below in
        let there = value_term a es rs ms s valued b.number b.value below b.done (b.stands ∙ ap (λ t. Some (term t)) (sym (is_term a b.number (free x) b.stands))) in
        let same : term (image_term h (term_at a b.value)) ≡ term (image_term h (free x)) = sym (ap (image_item h) (item_is a b.value _ there)) ∙ value_image a es rs ms s valued b.number b.value below b.done h all ∙ ap (image_item h) (item_is a b.number _ b.stands) in
        let is : image_term h (term_at a b.value) ≡ image_term h (free x) = cc in
        ap (λ o. image_term h (unwrap_or o (free x))) e ∙ ap (image_term h) b.bound ∙ is

    pub general : (h : Var → Option Term) → Unifies h es → (t : Term) → image_term h (image_term (fin.get m) t) ≡ image_term h t
    general h all t =
        image-image_term (fin.get m) h t
        ∙ agree_term (after (fin.get m) h) h t (λ x _. general_at h all x (fin.get m x) refl)

    built_variable : (i j : Item) (x : Var) → IsBuilt a rs ms i j → j ≡ term (free x) → i ≡ term (free x)
    built_variable (term (free y)) j x p e = sym p ∙ e
    built_variable (term (bound b)) j x p e = sym p ∙ e
    built_variable (term (app f ts)) j x p e = let same : term (app f p.0) ≡ term (free x) = sym p.1.0 ∙ e in cc
    built_variable (terms nil) j x p e = sym p ∙ e
    built_variable (terms (cons t ts)) j x p e = let same : terms (cons p.0 p.1.0) ≡ term (free x) = sym p.1.1.0 ∙ e in cc
    built_variable (symbol y) j x p e = sym p ∙ e
    built_variable (formula y) j x p e = sym p ∙ e
    built_variable (variables y) j x p e = sym p ∙ e
    built_variable (substitution y) j x p e = sym p ∙ e
    built_variable (side y) j x p e = sym p ∙ e
    built_variable (sequent y) j x p e = sym p ∙ e
    built_variable (tree y) j x p e = sym p ∙ e

    -- no variable is bound to itself
    pub proper : (x : Var) (t : Term) → fin.get m x ≡ Some t → t ≡ free x → ⊥
    proper x t e is =
        let b = sol.only x t e in
        let r = next rs b.number in
        let there = value_term a es rs ms s valued b.number b.value b.below b.done (b.stands ∙ ap (λ t. Some (term t)) (sym (is_term a b.number (free x) b.stands))) in
        let at_v : item_at a b.value ≡ term (free x) = item_is a b.value _ there ∙ ap term (sym b.bound ∙ is) in
        let at_r : item_at a r ≡ term (free x) = built_variable (item_at a r) (item_at a b.value) x (valued.each r b.value b.done).built at_v in
        b.moved (distinct r b.number (term (free x)) (s.there r (s.within b.number b.below) ∙ ap Some at_r) b.stands)
