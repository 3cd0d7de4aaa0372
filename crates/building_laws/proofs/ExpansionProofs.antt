-- What holds of each list that is visited says that its trees are an expansion proof.
use Rattle.std.proofs.Common.{◌≡◌, ℕ, ◌<◌, true, false, ◌||◌, List, refl, sym, ap, ◌∙◌, arith}
use Rattle.std.specs.List.{All, AllByRecursion, list_all, list_any}
use Rattle.std.specs.Ordering.{eq_by_cmp}
use Rattle.std.proofs.lemmas.List.Sums.{AllPass-from_list_all, list_all-from_AllPass}
use Rattle.fol.specs.declared.symbols.Var.{Var}
use Rattle.fol.specs.Order.{var_cmp}
use Rattle.fol.specs.Formed.{is_formed, IsFormed}
use Rattle.finite.specs.Finite as set
use Rattle.substitution.proofs.ImageLaws.{same_var}
use Rattle.lk_rules.specs.declared.sequent.Side.{Side}
use Rattle.lk_rules.specs.declared.sequent.Side.TheVariants.{Left, Right}
use Rattle.lk_rules.specs.Sequents.{side_of, is_free_in_sequent}
use Rattle.lk_rules.proofs.Subsequents.{and_left, and_right, and_both}
use Rattle.proof_trees.proofs.FormulaSets.{equal}
use Rattle.search_laws.proofs.Listed.{member_passes, members_pass}
use Rattle.search_laws.proofs.Tests.{clash, fails}
use Rattle.expansion_laws.specs.Expansions.{shallow}
use Rattle.expansion_laws.specs.Building.{is_built}
use Rattle.expansion_laws.specs.Dependency.{strongs_of, is_above, is_before}
use Rattle.expansion_laws.specs.Helping.{helped}
use Rattle.expansion_laws.specs.Proofs.{stands, IsExpansionProof}
use Rattle.expansion_laws.proofs.Falsified.{tautology_helped}
use Rattle.expansion_laws.proofs.Lists.{any_of}
use Rattle.expansion_laws.proofs.Ranks.{acyclic_ranked}
use Rattle.building_laws.specs.Lists.{Placed, trees_on, sides, conclusion, strongs_in_list}
use Rattle.building_laws.specs.Buildable.{has_formed_terms, IsFormedExpansion, IsBuildable}
use Rattle.building_laws.proofs.Conclusions.{same_side, is_formula, own_formula, is_free_at, has-conclusion, free_in_trees, free_in_conclusion}
use Rattle.building_laws.proofs.Counting.{count, among_of_count, count_of_among, some_counted, distinct_counted, distinct_once}
use Rattle.building_laws.proofs.Inside.{In, all_in, all_of, any_in, from_any}
use Rattle.building_laws.proofs.Invariant.{IsProvable}
use Rattle.building_laws.proofs.Right.{IsRight, is_over}
use Rattle.building_laws.proofs.Sides.{any_sides, all_sides, all_on, count-sides}

module _ (l : List Placed) where
  -- a variable of the list is one of the trees by their sides, and the other way round

  named : (v : Var) → 0 < count v (strongs_in_list l) → list_any (eq_by_cmp var_cmp v) (strongs_of (sides l)) ≡ true
  named v inside = let same = count-sides v l in among_of_count v (strongs_of (sides l)) (omega arith)

  named_in_list : (v : Var) → list_any (eq_by_cmp var_cmp v) (strongs_of (sides l)) ≡ true → 0 < count v (strongs_in_list l)
  named_in_list v e = let same = count-sides v l in let some = count_of_among v (strongs_of (sides l)) e in omega arith

  over : (y z : Var) → list_any (is_over y z) l ≡ (list_any (is_above y z false) (trees_on Left l) || list_any (is_above y z false) (trees_on Right l))
  over y z = any_sides (λ s. is_above y z false) l

  module _ (h : IsExpansionProof (sides l) (conclusion l)) (g : IsFormedExpansion (sides l) (conclusion l)) where
    formed_on : (side : Side) → list_all is_formed (set.listing (side_of (conclusion l) side)) ≡ true
    formed_on Left = list_all-from_AllPass is_formed (set.listing (conclusion l).left) g.formulas_left
    formed_on Right = list_all-from_AllPass is_formed (set.listing (conclusion l).right) g.formulas_right

    formed_in : (p : Placed) → In p l → is_formed (shallow p.tree) ≡ true
    formed_in p i = member_passes is_formed (side_of (conclusion l) p.side) (shallow p.tree) (formed_on p.side) (has-conclusion l p.side (shallow p.tree) ∙ any_in (is_formula p.side (shallow p.tree)) p l i (own_formula p))

    all_built : AllByRecursion (λ p. is_built p.tree ≡ true) l
    all_built = all_sides (λ s. is_built) l (list_all-from_AllPass is_built (trees_on Left l) h.built_left) (list_all-from_AllPass is_built (trees_on Right l) h.built_right)

    all_stand : AllByRecursion (λ p. stands p.side p.tree ≡ true) l
    all_stand = all_sides stands l (list_all-from_AllPass (stands Left) (trees_on Left l) h.stand_left) (list_all-from_AllPass (stands Right) (trees_on Right l) h.stand_right)

    all_terms : AllByRecursion (λ p. has_formed_terms p.tree ≡ true) l
    all_terms = all_sides (λ s. has_formed_terms) l (list_all-from_AllPass has_formed_terms (trees_on Left l) g.terms_left) (list_all-from_AllPass has_formed_terms (trees_on Right l) g.terms_right)

    free_not : (v : Var) → 0 < count v (strongs_in_list l) → list_any (is_free_at v) l ≡ false
    free_not v inside =
        fails (list_any (is_free_at v) l) (λ e.
        clash (list_any (λ w. is_free_in_sequent w (conclusion l)) (strongs_of (sides l)))
        (any_of (eq_by_cmp var_cmp) same_var (λ w. is_free_in_sequent w (conclusion l)) (strongs_of (sides l)) v (named v inside) (free_in_conclusion v l e))
        h.fresh)

    -- from an expansion proof
    pub provable_of_proof : IsProvable ((acyclic_ranked (sides l)).0 h.acyclic).0 l
    provable_of_proof = record {
      right = all_of IsRight l (λ p i. record {
        built = all_in (λ q. is_built q.tree ≡ true) p l i all_built;
        stand = all_in (λ q. stands q.side q.tree ≡ true) p l i all_stand;
        terms = all_in (λ q. has_formed_terms q.tree ≡ true) p l i all_terms;
        formed = formed_in p i;
      });
      once = λ v. let same = count-sides v l in let one = distinct_counted (strongs_of (sides l)) h.distinct v in omega arith;
      fresh = free_not;
      ranked = λ y z inside e. ((acyclic_ranked (sides l)).0 h.acyclic).1 y z (and_both _ _ (named y inside) (sym (over y z) ∙ e));
      helps = λ a. any_sides (helped a) l ∙ (tautology_helped (sides l)).0 h.tautology a;
    }

  module _ (rank : Var → ℕ) (h : IsProvable rank l) where
    rises : (y z : Var) → is_before (sides l) y z ≡ true → rank y < rank z
    rises y z e = h.ranked y z (named_in_list y (and_left _ _ e)) (over y z ∙ and_right (list_any (eq_by_cmp var_cmp y) (strongs_of (sides l))) _ e)

    each_built : AllByRecursion (λ p. is_built p.tree ≡ true) l
    each_built = all_of (λ p. is_built p.tree ≡ true) l (λ p i. (all_in IsRight p l i h.right).built)

    each_stands : AllByRecursion (λ p. stands p.side p.tree ≡ true) l
    each_stands = all_of (λ p. stands p.side p.tree ≡ true) l (λ p i. (all_in IsRight p l i h.right).stand)

    each_term : AllByRecursion (λ p. has_formed_terms p.tree ≡ true) l
    each_term = all_of (λ p. has_formed_terms p.tree ≡ true) l (λ p i. (all_in IsRight p l i h.right).terms)

    formula_formed : (side : Side) → All IsFormed (set.listing (side_of (conclusion l) side))
    formula_formed side =
        AllPass-from_list_all is_formed (set.listing (side_of (conclusion l) side))
        (members_pass is_formed (side_of (conclusion l) side) (λ f m.
        from_any (is_formula side f) l
        (λ p i is. ap is_formed (equal f (shallow p.tree) (and_right (same_side side p.side) _ is)) ∙ (all_in IsRight p l i h.right).formed)
        (sym (has-conclusion l side f) ∙ m)))

    proof_of_provable : IsExpansionProof (sides l) (conclusion l)
    proof_of_provable = record {
      built_left = AllPass-from_list_all is_built (trees_on Left l) (all_on (λ s. is_built) Left l each_built);
      built_right = AllPass-from_list_all is_built (trees_on Right l) (all_on (λ s. is_built) Right l each_built);
      stand_left = AllPass-from_list_all (stands Left) (trees_on Left l) (all_on stands Left l each_stands);
      stand_right = AllPass-from_list_all (stands Right) (trees_on Right l) (all_on stands Right l each_stands);
      formulas = refl;
      distinct = distinct_once (strongs_of (sides l)) (λ v. let same = count-sides v l in let one = h.once v in omega arith);
      fresh = fails (list_any (λ v. is_free_in_sequent v (conclusion l)) (strongs_of (sides l)))
          (some_counted (λ v. is_free_in_sequent v (conclusion l)) (strongs_of (sides l)) (λ v inside free.
          let same = count-sides v l in
          clash (list_any (is_free_at v) l) (free_in_trees v l free) (h.fresh v (omega arith))));
      acyclic = (acyclic_ranked (sides l)).1 (rank, rises);
      tautology = (tautology_helped (sides l)).1 (λ a. sym (any_sides (helped a) l) ∙ h.helps a);
    }

    -- and back to one
    pub buildable_of_provable : IsBuildable l
    buildable_of_provable = record {
      proof = proof_of_provable;
      formed = record {
        formulas_left = formula_formed Left;
        formulas_right = formula_formed Right;
        terms_left = AllPass-from_list_all has_formed_terms (trees_on Left l) (all_on (λ s. has_formed_terms) Left l each_term);
        terms_right = AllPass-from_list_all has_formed_terms (trees_on Right l) (all_on (λ s. has_formed_terms) Right l each_term);
      };
    }
