-- Values stay values as the arena and the marks grow, and are of the kind of their class.
use Rattle.std.proofs.Common.{◌≡◌, ℕ, ◌<◌, List, length, refl, sym, ap, subst, ◌∙◌, arith}
use Rattle.std.specs.Prelude.{Option, Some, slice_get, slice_set}
use Rattle.std.proofs.lemmas.List.{length-set}
use Rattle.std.proofs.lemmas.Option.{slice_get_within}
use Rattle.fol.specs.declared.symbols.Var.{Var}
use Rattle.fol.specs.Syntax.{Term, free, bound, app, nil, cons}
use Rattle.unify_laws.specs.Equations.{Equation, Unifies}
use Rattle.arena_cells.specs.Items.{Item, symbol, term, terms, formula, variables, substitution, side, sequent, tree}
use Rattle.arena_cells.specs.Standing.{Extends, item_at, IsThere, IsTermAt, IsTermsAt, term_of, terms_of}
use Rattle.arena_cells.proofs.Staying.{item_is}
use Rattle.fol_unify.specs.declared.values.Mark.{Mark}
use Rattle.fol_unify.specs.declared.values.Mark.TheVariants.{New, Open, Done}
use Rattle.fol_unify.specs.Classes.{next}
use Rattle.fol_unify.specs.Solving.{a_term, a_list, kind_of, image_item, image_at, AreSolved}
use Rattle.fol_unify.specs.Values.{IsDone, IsOpen, IsPart, IsBuilt, IsValue, AreValued}
use Rattle.fol_unify.proofs.Solved.{item_stays}
use Rattle.fol_unify.proofs.Marks.{get_others, get_after}

module _ (a : List Item) (rs : List ℕ) (ms : List Mark) where
  pub built_kind : (i j : Item) → IsBuilt a rs ms i j → kind_of j ≡ kind_of i
  built_kind (term (free x)) j p = ap kind_of p
  built_kind (term (bound k)) j p = ap kind_of p
  built_kind (term (app s ts)) j p = ap kind_of p.1.0
  built_kind (terms nil) j p = ap kind_of p
  built_kind (terms (cons t ts)) j p = ap kind_of p.1.1.0
  built_kind (symbol s) j p = ap kind_of p
  built_kind (formula s) j p = ap kind_of p
  built_kind (variables s) j p = ap kind_of p
  built_kind (substitution s) j p = ap kind_of p
  built_kind (side s) j p = ap kind_of p
  built_kind (sequent s) j p = ap kind_of p
  built_kind (tree s) j p = ap kind_of p

-- a thing of the kind of terms is a term, and one of the kind of lists a list

term_from : (i : Item) → kind_of i ≡ a_term → i ≡ term (term_of i)
term_from (term t) e = refl
term_from (terms ts) e = cc
term_from (symbol s) e = cc
term_from (formula s) e = cc
term_from (variables s) e = cc
term_from (substitution s) e = cc
term_from (side s) e = cc
term_from (sequent s) e = cc
term_from (tree s) e = cc

list_from : (i : Item) → kind_of i ≡ a_list → i ≡ terms (terms_of i)
list_from (terms ts) e = refl
list_from (term t) e = cc
list_from (symbol s) e = cc
list_from (formula s) e = cc
list_from (variables s) e = cc
list_from (substitution s) e = cc
list_from (side s) e = cc
list_from (sequent s) e = cc
list_from (tree s) e = cc

pub term_of_kind : (a : List Item) (n : ℕ) → IsThere a n → kind_of (item_at a n) ≡ a_term → IsTermAt a n
term_of_kind a n there e = there ∙ ap Some (term_from (item_at a n) e)

pub list_of_kind : (a : List Item) (n : ℕ) → IsThere a n → kind_of (item_at a n) ≡ a_list → IsTermsAt a n
list_of_kind a n there e = there ∙ ap Some (list_from (item_at a n) e)

module _ (a b : List Item) (es : List Equation) (rs : List ℕ) (ms ns : List Mark) (grown : Extends a b) (s : AreSolved a es rs) (done : (r v : ℕ) → IsDone ms r v → IsDone ns r v) where
  part_stays : (i j : Item) → IsPart a rs ms i j → IsPart b rs ns i j
  part_stays i j p = record {
    part = p.part;
    value = p.value;
    below = p.below;
    stands = grown p.part i p.stands;
    done = done (next rs p.part) p.value p.done;
    there = grown p.value j p.there;
  }

  pub built_stays : (i j : Item) → IsBuilt a rs ms i j → IsBuilt b rs ns i j
  built_stays (term (free x)) j p = p
  built_stays (term (bound k)) j p = p
  built_stays (term (app f ts)) j p = (p.0, (p.1.0, part_stays (terms ts) (terms p.0) p.1.1))
  built_stays (terms nil) j p = p
  built_stays (terms (cons t ts)) j p = (p.0, (p.1.0, (p.1.1.0, (part_stays (term t) (term p.0) p.1.1.1.0, part_stays (terms ts) (terms p.1.0) p.1.1.1.1))))
  built_stays (symbol x) j p = p
  built_stays (formula x) j p = p
  built_stays (variables x) j p = p
  built_stays (substitution x) j p = p
  built_stays (side x) j p = p
  built_stays (sequent x) j p = p
  built_stays (tree x) j p = p

  pub value_stays : (r v : ℕ) → r < length rs → IsValue a es rs ms r v → IsValue b es rs ns r v
  value_stays r v below value =
      let at_r = item_stays a b es rs grown s r below in
      let at_v : item_at b v ≡ item_at a v = item_is b v (item_at a v) (grown v (item_at a v) value.there) in
      record {
        there = grown v (item_at a v) value.there ∙ ap Some (sym at_v);
        built = subst (λ i. IsBuilt b rs ns i (item_at b v)) (sym at_r) (subst (IsBuilt b rs ns (item_at a r)) (sym at_v) (built_stays (item_at a r) (item_at a v) value.built));
        general = λ h all. ap (image_item h) at_v ∙ value.general h all ∙ sym (ap (image_item h) at_r);
      }

  pub values_stay : length ns ≡ length ms → ((r v : ℕ) → IsDone ns r v → IsDone ms r v) → AreValued a es rs ms → AreValued b es rs ns
  values_stay lengths back valued = record {
    so_many = lengths ∙ valued.so_many;
    each = λ r v d. value_stays r v (let below = slice_get_within ms r (Done v) (back r v d) in omega (arith, below, valued.so_many)) (valued.each r v (back r v d));
  }

module _ (a : List Item) (es : List Equation) (rs : List ℕ) (ms : List Mark) (s : AreSolved a es rs) (valued : AreValued a es rs ms) where
  -- a class that was not looked at is opened
  pub values_opened : (r : ℕ) → slice_get ms r ≡ Some New → AreValued a es rs (slice_set ms r Open)
  values_opened r new =
      let rb : r < length ms = slice_get_within ms r New new in
      values_stay a a es rs ms (slice_set ms r Open) (λ n t h. h) s
      (λ q v d.
      let apart : q ≡ r → ⊥ = λ e. let both : Some New ≡ Some (Done v) = sym new ∙ ap (slice_get ms) (sym e) ∙ d in cc in
      get_others ms r Open q apart ∙ d)
      (length-set ms r Open)
      (λ q v d. get_after (IsDone ms q v) ms r Open q (Done v) rb d (λ _ e. absurd cc) (λ _ old. old))
      valued

  -- the value of an open class is noted
  pub values_noted : (r v : ℕ) → IsOpen ms r → IsValue a es rs ms r v → AreValued a es rs (slice_set ms r (Done v))
  values_noted r v opened value =
      let rb : r < length ms = slice_get_within ms r Open opened in
      let keeps = λ (q w : ℕ) (d : IsDone ms q w).
      let apart : q ≡ r → ⊥ = λ e. let both : Some Open ≡ Some (Done w) = sym opened ∙ ap (slice_get ms) (sym e) ∙ d in cc in
      get_others ms r (Done v) q apart ∙ d in
      let ns = slice_set ms r (Done v) in
      record {
        so_many = length-set ms r (Done v) ∙ valued.so_many;
        each = λ q w d. get_after (IsValue a es rs ns q w) ms r (Done v) q (Done w) rb d
            (λ same e.
            let is : v ≡ w = cc in
            subst (IsValue a es rs ns q) is (subst (λ k. IsValue a es rs ns k v) (sym same) (value_stays a a es rs ms ns (λ n t h. h) s keeps r v (omega (arith, rb, valued.so_many)) value)))
            (λ apart old. value_stays a a es rs ms ns (λ n t h. h) s keeps q w (let below = slice_get_within ms q (Done w) old in omega (arith, below, valued.so_many)) (valued.each q w old));
      }

  -- the value of a number's class is of its kind, and each unifier makes the same of both
  pub value_kind : (n v : ℕ) → n < length rs → IsDone ms (next rs n) v → kind_of (item_at a v) ≡ kind_of (item_at a n)
  value_kind n v below d = built_kind a rs ms (item_at a (next rs n)) (item_at a v) (valued.each (next rs n) v d).built ∙ sym (s.kinds n below)

  pub value_image : (n v : ℕ) → n < length rs → IsDone ms (next rs n) v → (h : Var → Option Term) → Unifies h es → image_at a h v ≡ image_at a h n
  value_image n v below d h all = (valued.each (next rs n) v d).general h all ∙ sym (s.sound h all n below)

  pub value_term : (n v : ℕ) → n < length rs → IsDone ms (next rs n) v → IsTermAt a n → IsTermAt a v
  value_term n v below d term_there = term_of_kind a v (valued.each (next rs n) v d).there (value_kind n v below d ∙ ap kind_of (item_is a n _ term_there))

  pub value_list : (n v : ℕ) → n < length rs → IsDone ms (next rs n) v → IsTermsAt a n → IsTermsAt a v
  value_list n v below d list_there = list_of_kind a v (valued.each (next rs n) v d).there (value_kind n v below d ∙ ap kind_of (item_is a n _ list_there))
