-- What a candidate covers: each tuple that a pattern gives with a value is a tuple of the item.
use Rattle.std.proofs.Common.{◌≡◌, ℕ, suc, Bool, true, ◌&&◌, List, [], ◌∷◌, map, Option, Some, None, IfSome, nat_lt, length, get_or, refl, sym, ap, ◌∙◌}
use Rattle.std.specs.List.{All, list_all, list_any, filter}
use Rattle.std.specs.Ordering.{eq_by_cmp}
use Rattle.std.proofs.lemmas.List.Elements.{All-nil, All-cons, All-head, All-tail, All-map, All-weaker, All-filter, filter_passes}
use Rattle.std.proofs.lemmas.List.Sums.{AllPass-from_list_all}
use Rattle.fol.specs.Syntax.{Term, Terms}
use Rattle.fol.specs.Order.{terms_cmp}
use Rattle.fol.specs.OrderLaws.{term_total, terms_total}
use Rattle.fol.specs.Formed.{are_formed_terms_at}
use Rattle.fol.proofs.OrderTies.{term_ties, terms_ties, terms_equality_same}
use Rattle.finite.specs.Finite as set
use Rattle.proof_trees.proofs.Booleans.{or_first, or_second}
use Rattle.herbrand_laws.specs.Herbrand.{Item}
use Rattle.herbrand_laws.specs.Patterns.{put, Row, delta, TermSet, IsRow}
use Rattle.herbrand_laws.specs.Candidates.{sublists, rows_of, same_terms, patterns, is_covered}
use Rattle.herbrand_laws.proofs.Lists.{from_any, all-filter_map, all-set_of_keys}
use Rattle.herbrand_laws.proofs.Patterns.{same_lists}
use Rattle.herbrand_laws.proofs.Rows.{delta_row, all_sublists}

-- whether a tuple is one of a list
abbrev pub among_tuples : List Terms → Terms → Bool
among_tuples uss us = list_any (eq_by_cmp terms_cmp us) uss

itself_among : (uss : List Terms) → All (λ us. among_tuples uss us ≡ true) uss
itself_among [] = All-nil _
itself_among (us ∷ uss) =
    All-cons (λ vs. among_tuples (us ∷ uss) vs ≡ true) us uss
    (or_first _ (among_tuples uss us) ((terms_equality_same us us _ refl).1 refl))
    (All-weaker (λ vs. among_tuples uss vs ≡ true) (λ vs. among_tuples (us ∷ uss) vs ≡ true) (λ vs. or_second (eq_by_cmp terms_cmp vs us) (among_tuples uss vs)) uss (itself_among uss))

module _ (all : List Terms) where
  -- a well-formed tuple of the list
  record IsOne (us : Terms) : Type 0 where
    formed : are_formed_terms_at 0 us ≡ true
    among : among_tuples all us ≡ true

  -- the pattern of a row gives tuples of the list with its values
  abbrev GivesTuples : Row → Type 0
  GivesTuples r = list_all (λ t. among_tuples all (put r.pattern t)) (set.listing r.values) ≡ true

  given : (p : Terms) (vs : List Term) (uss : List Terms) → map (put p) vs ≡ uss → All IsOne uss → All (λ t. among_tuples all (put p t) ≡ true) vs
  given p [] uss e h = All-nil _
  given p (v ∷ vs) [] e h = cc
  given p (v ∷ vs) (us ∷ uss) e h =
      let first : put p v ≡ us = cc in
      let later : map (put p) vs ≡ uss = cc in
      All-cons (λ t. among_tuples all (put p t) ≡ true) v vs
      (ap (among_tuples all) first ∙ (All-head IsOne us uss h).among)
      (given p vs uss later (All-tail IsOne us uss h))

  row_given : (uss : List Terms) → All IsOne uss → (o : Option Row) → IfSome o (IsRow uss) → IfSome o GivesTuples
  row_given uss h None g = tt
  row_given uss h (Some r) g =
      let test = λ (t : Term). among_tuples all (put r.pattern t) in
      ap (λ v. list_all test (set.listing v)) g.values
      ∙ all-set_of_keys term_total test (λ q x tie. ap test (sym (term_ties q x tie))) g.list (given r.pattern g.list uss g.gives h)

  delta_given : (uss : List Terms) → All IsOne uss → IfSome (delta uss) GivesTuples
  delta_given [] h = tt
  delta_given (us ∷ uss) h = row_given (us ∷ uss) h (delta (us ∷ uss)) (delta_row us uss (All-head IsOne us uss h).formed)

module _ (width : ℕ) (i : Item) (formed : All (λ us. are_formed_terms_at 0 us ≡ true) i.tuples) where
  rows_given : All (GivesTuples i.tuples) (rows_of width i)
  rows_given =
      let few = filter (λ uss. nat_lt 1 (length uss) && nat_lt (length uss) (suc width)) (sublists i.tuples) in
      all-filter_map (GivesTuples i.tuples) delta few
      (All-weaker (All (IsOne i.tuples)) (λ uss. IfSome (delta uss) (GivesTuples i.tuples)) (delta_given i.tuples) few
      (All-filter _ (All (IsOne i.tuples)) (sublists i.tuples) (all_sublists (IsOne i.tuples) i.tuples (λ k d l. record { formed = formed k d l; among = itself_among i.tuples k d l }))))

  module _ (w : TermSet) where
    -- whether a pattern gives tuples of the item with all values
    abbrev gives_all : Terms → Bool
    gives_all p = list_all (λ t. among_tuples i.tuples (put p t)) (set.listing w)

    row_gives_all : (r : Row) → GivesTuples i.tuples r → same_terms r.values w ≡ true → gives_all r.pattern ≡ true
    row_gives_all r h e =
        ap (list_all (λ t. among_tuples i.tuples (put r.pattern t))) (sym (same_lists (set.listing r.values) (set.listing w) e))
        ∙ h

    patterns_give : list_all gives_all (patterns width w i) ≡ true
    patterns_give =
        let test = λ (r : Row). same_terms r.values w in
        let those = filter test (rows_of width i) in
        all-set_of_keys terms_total gives_all (λ q x e. ap gives_all (sym (terms_ties q x e))) (map (λ r. r.pattern) those)
        (All-map (λ p. gives_all p ≡ true) (λ r. r.pattern) those
        (λ k d l. row_gives_all (get_or those k d) (All-filter test (GivesTuples i.tuples) (rows_of width i) rows_given k d l) (filter_passes test (rows_of width i) k d l)))

    -- what is covered is a tuple of the item
    pub covered_among : (us : Terms) → is_covered (patterns width w i) w us ≡ true → among_tuples i.tuples us ≡ true
    covered_among us =
        from_any (λ p. gives_all p ≡ true) (λ p. list_any (λ t. eq_by_cmp terms_cmp (put p t) us) (set.listing w)) (patterns width w i)
        (AllPass-from_list_all gives_all (patterns width w i) patterns_give)
        (λ p g.
        from_any (λ t. among_tuples i.tuples (put p t) ≡ true) (λ t. eq_by_cmp terms_cmp (put p t) us) (set.listing w)
        (AllPass-from_list_all (λ t. among_tuples i.tuples (put p t)) (set.listing w) g)
        (λ t m e. ap (among_tuples i.tuples) (sym ((terms_equality_same (put p t) us _ refl).0 e)) ∙ m))
