-- The merge of the instances by the terms of two rising lists.
use Rattle.std.proofs.Common.{◌≡◌, Bool, true, false, List, [], ◌∷◌, refl, sym, subst}
use Rattle.std.specs.List.{list_any}
use Rattle.std.specs.Ordering.{eq_by_cmp, match_ordering}
use Rattle.std.specs.Set.{merge_step, sorted_merge}
use Rattle.std.specs.declared.cmp.Ordering.TheVariants.{Less, Equal, Greater}
use Rattle.fol.specs.Syntax.{Term}
use Rattle.fol.specs.Order.{term_cmp}
use Rattle.fol.specs.OrderLaws.{term_total}
use Rattle.fol.proofs.OrderTies.{term_ties}
use Rattle.finite.specs.Finite as set
use Rattle.finite.proofs.Rising.{both, is_less, head_below, tail_rises, below_none, below_less, turned}
use Rattle.proof_trees.proofs.Booleans.{or_first, or_second}
use Rattle.search_laws.proofs.Tests.{clash, fails, neither}
use Rattle.expansion_laws.specs.Expansions.{Exp, none, more}
use Rattle.extraction_laws.specs.States.{instances_by}
use Rattle.extraction_laws.proofs.Equal.{equal_terms, tied_terms}
use Rattle.exp_tree.specs.Merging.{by_order, among, merged, merged_in}

abbrev pub is_in : Term → List Term → Bool
is_in t = list_any (eq_by_cmp term_cmp t)

-- the terms of two rising lists, each once, in rising order
abbrev pub joined : List Term → List Term → List Term
joined = sorted_merge term_cmp true

-- from t on
abbrev joined_from : Term → List Term → List Term → List Term
joined_from t ts = merge_step term_cmp true t ts (joined ts)

here : (t : Term) (ts : List Term) → is_in t (t ∷ ts) ≡ true
here t ts = or_first (eq_by_cmp term_cmp t t) (is_in t ts) (tied_terms t t refl)

-- a term that is in a list in which u isn't is not u
not_with : (t u : Term) (ts us : List Term) → is_in t ts ≡ true → is_in u ts ≡ false → is_in t us ≡ false → is_in t (u ∷ us) ≡ false
not_with t u ts us there out rest = neither _ _ (fails (eq_by_cmp term_cmp t u) (λ e. clash (is_in u ts) (subst (λ w. is_in w ts ≡ true) (equal_terms t u e) there) out)) rest

-- a term that is below the first of a rising list is not in it
not_above : (t u : Term) (us : List Term) → term_cmp t u ≡ Less → set.IsRising term_cmp (u ∷ us) → is_in t (u ∷ us) ≡ false
not_above t u us e h = below_none term_cmp t (u ∷ us) (both _ _ (is_less _ e) (below_less term_cmp term_total u t us e (head_below term_cmp u us h)))

-- the first of a rising list isn't in the rest
not_again : (t : Term) (ts : List Term) → set.IsRising term_cmp (t ∷ ts) → is_in t ts ≡ false
not_again t ts h = below_none term_cmp t ts (head_below term_cmp t ts h)

module _ (d e : Term → Exp) where
  -- the merge of the trees by one term
  abbrev both_trees : Term → Exp
  both_trees t = merged (d t) (e t)

  -- where a term is in one list alone, the merge is the tree of that list
  pub record Alone (ts us : List Term) : Type 0 where
    pub first : (t : Term) → is_in t ts ≡ true → is_in t us ≡ false → merged (d t) (e t) ≡ d t
    pub second : (t : Term) → is_in t us ≡ true → is_in t ts ≡ false → merged (d t) (e t) ≡ e t

  without_first : (t : Term) (ts us : List Term) → is_in t us ≡ false → Alone (t ∷ ts) us → Alone ts us
  without_first t ts us out a = record {
    first = λ s there away. a.first s (or_second (eq_by_cmp term_cmp s t) _ there) away;
    second = λ s there away. a.second s there (not_with s t us ts there out away);
  }

  without_second : (u : Term) (ts us : List Term) → is_in u ts ≡ false → Alone ts (u ∷ us) → Alone ts us
  without_second u ts us out a = record {
    first = λ s there away. a.first s there (not_with s u ts us there out away);
    second = λ s there away. a.second s (or_second (eq_by_cmp term_cmp s u) _ there) away;
  }

  without_both : (t u : Term) (ts us : List Term) → is_in u ts ≡ false → is_in t us ≡ false → Alone (t ∷ ts) (u ∷ us) → Alone ts us
  without_both t u ts us first_out second_out a = record {
    first = λ s there away. a.first s (or_second (eq_by_cmp term_cmp s t) _ there) (not_with s u ts us there first_out away);
    second = λ s there away. a.second s (or_second (eq_by_cmp term_cmp s u) _ there) (not_with s t us ts there second_out away);
  }

  first_alone : (ts : List Term) → Alone ts [] → merged_in (instances_by d ts) none ≡ instances_by both_trees ts
  first_alone [] a = refl
  first_alone (t ∷ ts) a = λ i. more t (sym (a.first t (here t ts) refl) i) (first_alone ts (without_first t ts [] refl a) i)

  second_alone : (us : List Term) → Alone [] us → instances_by e us ≡ instances_by both_trees us
  second_alone [] a = refl
  second_alone (u ∷ us) a = λ i. more u (sym (a.second u (here u us) refl) i) (second_alone us (without_second u [] us refl a) i)

  -- the instances from t on
  merged_from : (t : Term) (ts us : List Term) → set.IsRising term_cmp (t ∷ ts) → set.IsRising term_cmp us → Alone (t ∷ ts) us
      → ((ws : List Term) → set.IsRising term_cmp ws → Alone ts ws → merged_in (instances_by d ts) (instances_by e ws) ≡ instances_by both_trees (joined ts ws))
      → among t (d t) (merged (d t)) (merged_in (instances_by d ts)) (instances_by e us) ≡ instances_by both_trees (joined_from t ts us)
  merged_from t ts [] h k a on = first_alone (t ∷ ts) a
  merged_from t ts (u ∷ us) h k a on =
      let rest = tail_rises term_cmp u us k in
      elim (term_cmp t u) as (λ r. term_cmp t u ≡ r
      → by_order r (more t (d t) (merged_in (instances_by d ts) (instances_by e (u ∷ us)))) (more t (merged (d t) (e u)) (merged_in (instances_by d ts) (instances_by e us))) (more u (e u) (among t (d t) (merged (d t)) (merged_in (instances_by d ts)) (instances_by e us)))
      ≡ instances_by both_trees (match_ordering r (t ∷ joined ts (u ∷ us)) (t ∷ joined ts us) (u ∷ joined_from t ts us))) [
        | Less ↦ λ less.
            let out = not_above t u us less k in
            λ i. more t (sym (a.first t (here t ts) out) i) (on (u ∷ us) k (without_first t ts (u ∷ us) out a) i)
        | Equal ↦ λ tied.
            let same : t ≡ u = term_ties t u tied in
            let first_out = subst (λ w. is_in w ts ≡ false) same (not_again t ts h) in
            let second_out = subst (λ w. is_in w us ≡ false) (sym same) (not_again u us k) in
            λ i. more t (merged (d t) (e (sym same i))) (on us rest (without_both t u ts us first_out second_out a) i)
        | Greater ↦ λ greater.
            let out = not_above u t ts (turned term_cmp term_total t u greater) h in
            λ i. more u (sym (a.second u (here u us) out) i) (merged_from t ts us h rest (without_second u (t ∷ ts) us out a) on i)
      ] refl

  pub merged-instances : (ts us : List Term) → set.IsRising term_cmp ts → set.IsRising term_cmp us → Alone ts us → merged_in (instances_by d ts) (instances_by e us) ≡ instances_by both_trees (joined ts us)
  merged-instances [] us h k a = second_alone us a
  merged-instances (t ∷ ts) us h k a = merged_from t ts us h k a (λ ws. merged-instances ts ws (tail_rises term_cmp t ts h))
