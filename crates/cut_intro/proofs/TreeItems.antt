-- The item of a tree.
use Rattle.std.proofs.Common.{◌≡◌, ℕ, zero, suc, Bool, true, ◌&&◌, ◌==◌, List, [], ◌∷◌, ◌++◌, map, refl, sym, ap, subst, ◌∙◌}
use Rattle.std.specs.List.{list_all}
use Rattle.std.proofs.lemmas.List.Elements.{All-weaker}
use Rattle.std.proofs.lemmas.List.Sums.{list_all-from_AllPass}
use borrow.Author.Tests.{eq-eqb}
use Rattle.fol.specs.Syntax.{Term, Terms, nil, cons, Formula}
use Rattle.fol.specs.Order.{terms_cmp}
use Rattle.fol.specs.Formed.{is_formed, is_formed_term, is_formed_term_at, are_formed_terms_at, count_terms}
use Rattle.finite.specs.Finite as set
use Rattle.lk_rules.specs.declared.sequent.Side.{Side}
use Rattle.lk_rules.proofs.Subsequents.{and_left, and_right, and_both}
use Rattle.expansion_laws.specs.Expansions.{Exp, wk, leaf, neg, conj, disj, impl, weak, strong, Insts, none, more, shallow}
use Rattle.expansion_laws.specs.Formed.{is_formed_exp, are_formed_insts, IsProper}
use Rattle.herbrand_laws.specs.Herbrand.{is_prenex, prefix, tuples, tuples_in, tuples_on, Item, item_of}
use Rattle.herbrand_laws.proofs.Herbrand.{tuples_counted}
use Rattle.herbrand_laws.proofs.RisingTuples.{tuples_rise}
use Rattle.delta_table.specs.Items.{IsItem}

module _ {X : Type 0} (p : X → Bool) where
  appended : (xs ys : List X) → list_all p xs ≡ true → list_all p ys ≡ true → list_all p (xs ++ ys) ≡ true
  appended [] ys h g = g
  appended (x ∷ xs) ys h g = and_both (p x) _ (and_left (p x) _ h) (appended xs ys (and_right (p x) _ h) g)

with_first : (t : Term) → is_formed_term t ≡ true → (uss : List Terms) → list_all (are_formed_terms_at 0) uss ≡ true → list_all (are_formed_terms_at 0) (map (cons t) uss) ≡ true
with_first t f [] h = refl
with_first t f (us ∷ uss) h =
    and_both (is_formed_term_at 0 t && are_formed_terms_at 0 us) _ (and_both (is_formed_term_at 0 t) _ f (and_left (are_formed_terms_at 0 us) _ h)) (with_first t f uss (and_right (are_formed_terms_at 0 us) _ h))

mutual
  pub tuples_formed : (n : ℕ) (e : Exp) → is_formed_exp e ≡ true → list_all (are_formed_terms_at 0) (tuples n e) ≡ true
  tuples_formed n (wk f) h = refl
  tuples_formed zero e h = refl
  tuples_formed (suc n) (weak f is) h = insts_formed n is (and_right (is_formed f) _ h)
  tuples_formed (suc n) e h = refl

  insts_formed : (n : ℕ) (is : Insts) → are_formed_insts is ≡ true → list_all (are_formed_terms_at 0) (tuples_in n is) ≡ true
  insts_formed n none h = refl
  insts_formed n (more t e is) h =
      let first = and_left (is_formed_term t && is_formed_exp e) _ h in
      appended (are_formed_terms_at 0) (map (cons t) (tuples n e)) (tuples_in n is)
      (with_first t (and_left (is_formed_term t) _ first) (tuples n e) (tuples_formed n e (and_right (is_formed_term t) _ first)))
      (insts_formed n is (and_right (is_formed_term t && is_formed_exp e) _ h))

-- the item of a tree, by its parts
module _ (side : Side) (e : Exp) (proper : IsProper e) (f : Formula) (is_f : f ≡ shallow e) (n : ℕ) (is_n : n ≡ prefix side f) (uss : List Terms) (is_uss : uss ≡ tuples n e) where
  same_tuples : uss ≡ tuples_on side e
  same_tuples = is_uss ∙ ap (λ k. tuples k e) (is_n ∙ ap (prefix side) is_f)

  pub tuples_rising : set.IsRising terms_cmp uss
  tuples_rising = subst (λ vss. set.IsRising terms_cmp vss) (sym same_tuples) (tuples_rise (prefix side (shallow e)) e proper.built)

  abbrev Parts : Formula → List Terms → Item
  Parts g vss = record { side = side; formula = g; tuples = vss }

  pub same_item : Parts f uss ≡ item_of side e
  same_item = λ i. Parts (is_f i) (same_tuples i)

  pub right_item : is_prenex side (shallow e) ≡ true → is_formed f ≡ true → IsItem (Parts f uss)
  right_item prenex formed =
      subst IsItem (sym same_item) (record {
        prenex = prenex;
        formula = ap is_formed (sym is_f) ∙ formed;
        formed = tuples_formed (prefix side (shallow e)) e proper.formed;
        counted = list_all-from_AllPass (λ us. count_terms us == prefix side (shallow e)) (tuples_on side e)
            (All-weaker (λ us. count_terms us ≡ prefix side (shallow e)) (λ us. (count_terms us == prefix side (shallow e)) ≡ true) (λ us h. eq-eqb (count_terms us) _ h) (tuples_on side e) (tuples_counted (prefix side (shallow e)) e));
        rises = tuples_rise (prefix side (shallow e)) e proper.built;
      })
