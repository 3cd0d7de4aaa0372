-- Values that are made of the values of their parts.
use Rattle.std.proofs.Common.{◌≡◌, ℕ, ◌<◌, List, length, refl, sym, ap, subst, ◌∙◌, arith}
use Rattle.std.specs.Prelude.{Some}
use Rattle.fol.specs.declared.symbols.Var.{Var}
use Rattle.fol.specs.Syntax.{free, bound, app, nil, cons}
use Rattle.substitution.specs.Image.{image_term, image_terms}
use Rattle.unify_laws.specs.Equations.{Equation}
use Rattle.arena_cells.specs.Items.{Item, term, terms}
use Rattle.arena_cells.specs.Standing.{Stands, Extends, item_at, symbol_at, term_at, terms_at, IsTermAt, IsTermsAt}
use Rattle.arena_cells.proofs.Staying.{item_is}
use Rattle.fol_unify.specs.declared.values.Mark.{Mark}
use Rattle.fol_unify.specs.Classes.{next}
use Rattle.fol_unify.specs.Solving.{image_item, AreSolved}
use Rattle.fol_unify.specs.Shapes.{IsApplication, IsFront}
use Rattle.fol_unify.specs.Values.{IsDone, IsBuilt, IsValue, AreValued}
use Rattle.fol_unify.proofs.Solved.{item_stays}
use Rattle.fol_unify.proofs.ValueLaws.{value_image, value_term, value_list}

-- what has no parts is its own value
pub leaf_value : (a : List Item) (es : List Equation) (rs : List ℕ) (ms : List Mark) (r : ℕ) → AreSolved a es rs → r < length rs → IsBuilt a rs ms (item_at a r) (item_at a r) → IsValue a es rs ms r r
leaf_value a es rs ms r s below built = record { there = s.there r below; built = built; general = λ h all. refl }

pub variable_value : (a : List Item) (es : List Equation) (rs : List ℕ) (ms : List Mark) (r : ℕ) → AreSolved a es rs → r < length rs → (x : Var) × (item_at a r ≡ term (free x)) → IsValue a es rs ms r r
variable_value a es rs ms r s below is = leaf_value a es rs ms r s below (subst (λ i. IsBuilt a rs ms i i) (sym is.1) refl)

pub index_value : (a : List Item) (es : List Equation) (rs : List ℕ) (ms : List Mark) (r : ℕ) → AreSolved a es rs → r < length rs → (i : ℕ) × (item_at a r ≡ term (bound i)) → IsValue a es rs ms r r
index_value a es rs ms r s below is = leaf_value a es rs ms r s below (subst (λ i. IsBuilt a rs ms i i) (sym is.1) refl)

pub empty_value : (a : List Item) (es : List Equation) (rs : List ℕ) (ms : List Mark) (r : ℕ) → AreSolved a es rs → r < length rs → item_at a r ≡ terms nil → IsValue a es rs ms r r
empty_value a es rs ms r s below is = leaf_value a es rs ms r s below (subst (λ i. IsBuilt a rs ms i i) (sym is) refl)

module _ (a b : List Item) (es : List Equation) (rs : List ℕ) (ms : List Mark) (grown : Extends a b) (s : AreSolved a es rs) (valued : AreValued a es rs ms) (r v : ℕ) (below : r < length rs) where
  pub application_value : (f ts w : ℕ) → IsApplication a r f ts → IsDone ms (next rs ts) w → Stands b v (term (app (symbol_at a f) (terms_at a w))) → IsValue b es rs ms r v
  application_value f ts w is d stands =
      let tb : ts < length rs = omega (arith, is.below, below) in
      let list : IsTermsAt a w = value_list a es rs ms s valued ts w tb d is.arguments_there in
      let at_v : item_at b v ≡ term (app (symbol_at a f) (terms_at a w)) = item_is b v _ stands in
      let at_r : item_at b r ≡ term (app (symbol_at a f) (terms_at a ts)) = item_stays a b es rs grown s r below ∙ is.item in
      record {
        there = stands ∙ ap Some (sym at_v);
        built = subst (λ i. IsBuilt b rs ms i (item_at b v)) (sym at_r) (
          terms_at a w,
          (
            at_v,
            record {
              part = ts;
              value = w;
              below = tb;
              stands = grown ts _ is.arguments_there;
              done = d;
              there = grown w _ list;
            },
          ),
        );
        general = λ h all.
            let same : terms (image_terms h (terms_at a w)) ≡ terms (image_terms h (terms_at a ts)) = sym (ap (image_item h) (item_is a w _ list)) ∙ value_image a es rs ms s valued ts w tb d h all ∙ ap (image_item h) (item_is a ts _ is.arguments_there) in
            let arguments : image_terms h (terms_at a w) ≡ image_terms h (terms_at a ts) = cc in
            ap (image_item h) at_v ∙ ap (λ us. term (app (symbol_at a f) us)) arguments ∙ sym (ap (image_item h) at_r);
      }

  pub front_value : (t ts w ws : ℕ) → IsFront a r t ts → IsDone ms (next rs t) w → IsDone ms (next rs ts) ws → Stands b v (terms (cons (term_at a w) (terms_at a ws))) → IsValue b es rs ms r v
  front_value t ts w ws is d ds stands =
      let tb : t < length rs = omega (arith, is.first_below, below) in
      let tsb : ts < length rs = omega (arith, is.rest_below, below) in
      let one : IsTermAt a w = value_term a es rs ms s valued t w tb d is.first_there in
      let list : IsTermsAt a ws = value_list a es rs ms s valued ts ws tsb ds is.rest_there in
      let at_v : item_at b v ≡ terms (cons (term_at a w) (terms_at a ws)) = item_is b v _ stands in
      let at_r : item_at b r ≡ terms (cons (term_at a t) (terms_at a ts)) = item_stays a b es rs grown s r below ∙ is.item in
      record {
        there = stands ∙ ap Some (sym at_v);
        built = subst (λ i. IsBuilt b rs ms i (item_at b v)) (sym at_r) (
          term_at a w,
          (
            terms_at a ws,
            (
              at_v,
              (
                record { part = t; value = w; below = tb; stands = grown t _ is.first_there; done = d; there = grown w _ one },
                record { part = ts; value = ws; below = tsb; stands = grown ts _ is.rest_there; done = ds; there = grown ws _ list },
              ),
            ),
          ),
        );
        general = λ h all.
            let same : term (image_term h (term_at a w)) ≡ term (image_term h (term_at a t)) = sym (ap (image_item h) (item_is a w _ one)) ∙ value_image a es rs ms s valued t w tb d h all ∙ ap (image_item h) (item_is a t _ is.first_there) in
            let same_rest : terms (image_terms h (terms_at a ws)) ≡ terms (image_terms h (terms_at a ts)) = sym (ap (image_item h) (item_is a ws _ list)) ∙ value_image a es rs ms s valued ts ws tsb ds h all ∙ ap (image_item h) (item_is a ts _ is.rest_there) in
            let first : image_term h (term_at a w) ≡ image_term h (term_at a t) = cc in
            let rest : image_terms h (terms_at a ws) ≡ image_terms h (terms_at a ts) = cc in
            ap (image_item h) at_v ∙ (λ i. terms (cons (first i) (rest i))) ∙ sym (ap (image_item h) at_r);
      }
