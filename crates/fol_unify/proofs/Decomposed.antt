-- Two lists with a first term become equal where their first terms and their rests do.
use Rattle.std.proofs.Common.{◌≡◌, ℕ, ◌<◌, List, [], ◌∷◌, length, sym, ap, subst, ◌∙◌, arith}
use Rattle.std.proofs.lemmas.List.Elements.{All-nil, All-cons, All-head, All-tail}
use Rattle.fol.specs.Syntax.{cons}
use Rattle.substitution.specs.Image.{image_term, image_terms}
use Rattle.arena_cells.specs.Items.{Item, term, terms}
use Rattle.arena_cells.specs.Standing.{item_at, term_at, terms_at, IsTermAt, IsTermsAt}
use Rattle.arena_cells.proofs.Staying.{item_is}
use Rattle.fol_unify.specs.Solving.{a_term, a_list, other, kind_of, image_item, image_at, Ties, AreAlike, IsPair}
use Rattle.fol_unify.specs.Shapes.{IsFront, Decomposes, IsLevel}

module _ (a : List Item) where
  pub term_pair : (m n t u : ℕ) → m < length a → n < length a → t < m → u < n → IsTermAt a t → IsTermAt a u → IsPair a (length a) (t, u)
  term_pair m n t u mb nb tb ub ht hu = record {
    one_below = omega arith;
    two_below = omega arith;
    kinds = ap kind_of (item_is a t _ ht) ∙ sym (ap kind_of (item_is a u _ hu));
    known = λ e. let same : a_term ≡ other = sym (ap kind_of (item_is a t _ ht)) ∙ e in cc;
  }

  pub list_pair : (m n ts us : ℕ) → m < length a → n < length a → ts < m → us < n → IsTermsAt a ts → IsTermsAt a us → IsPair a (length a) (ts, us)
  list_pair m n ts us mb nb tb ub ht hu = record {
    one_below = omega arith;
    two_below = omega arith;
    kinds = ap kind_of (item_is a ts _ ht) ∙ sym (ap kind_of (item_is a us _ hu));
    known = λ e. let same : a_list ≡ other = sym (ap kind_of (item_is a ts _ ht)) ∙ e in cc;
  }

  fronts_decompose : (m n t ts u us : ℕ) → m < length a → n < length a → IsFront a m t ts → IsFront a n u us → Decomposes a m n ((t, u) ∷ (ts, us) ∷ [])
  fronts_decompose m n t ts u us mb nb f g = record {
    images = λ h e.
        let same : terms (cons (image_term h (term_at a t)) (image_terms h (terms_at a ts))) ≡ terms (cons (image_term h (term_at a u)) (image_terms h (terms_at a us))) = sym (ap (image_item h) f.item) ∙ e ∙ ap (image_item h) g.item in
        let first : image_term h (term_at a t) ≡ image_term h (term_at a u) = cc in
        let rest : image_terms h (terms_at a ts) ≡ image_terms h (terms_at a us) = cc in
        All-cons (Ties (image_at a h)) (t, u) ((ts, us) ∷ [])
        (ap (image_item h) (item_is a t _ f.first_there) ∙ ap term first ∙ sym (ap (image_item h) (item_is a u _ g.first_there)))
        (All-cons (Ties (image_at a h)) (ts, us) []
        (ap (image_item h) (item_is a ts _ f.rest_there) ∙ ap terms rest ∙ sym (ap (image_item h) (item_is a us _ g.rest_there)))
        (All-nil (Ties (image_at a h))));
    alike = λ k tied.
        subst (λ i. AreAlike a (length a) k i (item_at a n)) (sym f.item) (
          term_at a u,
          (
            terms_at a us,
            (
              g.item,
              (
                record { one = t; two = u; one_below = omega (arith, f.first_below); two_below = omega (arith, g.first_below); one_stands = f.first_there; two_stands = g.first_there; tied = All-head (Ties k) (t, u) ((ts, us) ∷ []) tied },
                record { one = ts; two = us; one_below = omega (arith, f.rest_below); two_below = omega (arith, g.rest_below); one_stands = f.rest_there; two_stands = g.rest_there; tied = All-head (Ties k) (ts, us) [] (All-tail (Ties k) (t, u) ((ts, us) ∷ []) tied) },
              ),
            ),
          ),
        );
    pairs =
        All-cons (IsPair a (length a)) (t, u) ((ts, us) ∷ []) (term_pair m n t u mb nb f.first_below g.first_below f.first_there g.first_there)
        (All-cons (IsPair a (length a)) (ts, us) [] (list_pair m n ts us mb nb f.rest_below g.rest_below f.rest_there g.rest_there)
        (All-nil (IsPair a (length a))));
  }

  pub fronts_level : (m n t ts u us : ℕ) → m < length a → n < length a → IsFront a m t ts → IsFront a n u us → IsLevel a m n ((t, u) ∷ (ts, us) ∷ [])
  fronts_level m n t ts u us mb nb f g =
      let d = fronts_decompose m n t ts u us mb nb f g in (
        d,
        record {
          images = λ h e. d.images h (sym e);
          pairs = d.pairs;
          alike = λ k tied.
              subst (λ i. AreAlike a (length a) k i (item_at a m)) (sym g.item) (
                term_at a t,
                (
                  terms_at a ts,
                  (
                    f.item,
                    (
                      record { one = u; two = t; one_below = omega (arith, g.first_below); two_below = omega (arith, f.first_below); one_stands = g.first_there; two_stands = f.first_there; tied = sym (All-head (Ties k) (t, u) ((ts, us) ∷ []) tied) },
                      record { one = us; two = ts; one_below = omega (arith, g.rest_below); two_below = omega (arith, f.rest_below); one_stands = g.rest_there; two_stands = f.rest_there; tied = sym (All-head (Ties k) (ts, us) [] (All-tail (Ties k) (t, u) ((ts, us) ∷ []) tied)) },
                    ),
                  ),
                ),
              );
        },
      )
