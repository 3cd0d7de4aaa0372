-- What expansion trees name is well formed, and so is the sequent of their formulas.
use Rattle.std.proofs.Common.{◌≡◌, true, List, [], ◌∷◌, map, refl, ◌∙◌}
use Rattle.std.specs.List.{list_all}
use Rattle.std.specs.Cmp.Derive.{both_true}
use Rattle.std.proofs.lemmas.Bool.{and_parts}
use Rattle.std.proofs.lemmas.List.Sums.{AllPass-from_list_all, list_all-from_AllPass}
use Rattle.fol.specs.Formed.{is_formed}
use Rattle.proof_trees.specs.Conclusions.{IsFormedSequent}
use Rattle.expansion_laws.specs.Expansions.{Exp, wk, leaf, neg, conj, disj, impl, weak, strong, Insts, none, more, shallow}
use Rattle.expansion_laws.specs.Building.{is_built}
use Rattle.expansion_laws.specs.Dependency.{Expansion}
use Rattle.expansion_laws.specs.Proofs.{shallow_sequent, IsExpansionProof}
use Rattle.expansion_laws.proofs.Lists.{all-set_of}
use Rattle.expansion_laws.specs.Formed.{is_formed_exp, are_formed_insts}
use Rattle.expansion_laws.proofs.FormedFormulas.{formula_formed}
use Rattle.building_laws.specs.Buildable.{has_formed_terms, have_formed_terms, IsFormedExpansion}
use Rattle.building_laws.specs.Budgets.{has_formed_trees}

mutual
  terms_formed : (e : Exp) → is_formed_exp e ≡ true → has_formed_terms e ≡ true
  terms_formed (wk f) h = refl
  terms_formed (leaf f) h = refl
  terms_formed (neg e) h = terms_formed e h
  terms_formed (conj d e) h = let both = and_parts (is_formed_exp d) (is_formed_exp e) h in both_true (terms_formed d both.0) (terms_formed e both.1)
  terms_formed (disj d e) h = let both = and_parts (is_formed_exp d) (is_formed_exp e) h in both_true (terms_formed d both.0) (terms_formed e both.1)
  terms_formed (impl d e) h = let both = and_parts (is_formed_exp d) (is_formed_exp e) h in both_true (terms_formed d both.0) (terms_formed e both.1)
  terms_formed (weak f is) h = let both = and_parts (is_formed f) (are_formed_insts is) h in insts_formed is both.1
  terms_formed (strong f y e) h =
      let both = and_parts _ (is_formed_exp e) h in
      let front = and_parts (is_formed f) _ both.0 in
      both_true front.1 (terms_formed e both.1)

  insts_formed : (is : Insts) → are_formed_insts is ≡ true → have_formed_terms is ≡ true
  insts_formed none h = refl
  insts_formed (more t e is) h =
      let both = and_parts _ (are_formed_insts is) h in
      let front = and_parts _ (is_formed_exp e) both.0 in
      both_true (both_true front.0 (terms_formed e front.1)) (insts_formed is both.1)

formulas_formed : (es : List Exp) → list_all is_built es ≡ true → list_all is_formed_exp es ≡ true → list_all is_formed (map shallow es) ≡ true
formulas_formed [] built formed = refl
formulas_formed (e ∷ es) built formed =
    let builts = and_parts (is_built e) (list_all is_built es) built in
    let formeds = and_parts (is_formed_exp e) (list_all is_formed_exp es) formed in
    both_true (formula_formed (shallow e) e refl (record { built = builts.0; formed = formeds.0 })) (formulas_formed es builts.1 formeds.1)

terms_each : (es : List Exp) → list_all is_formed_exp es ≡ true → list_all has_formed_terms es ≡ true
terms_each [] formed = refl
terms_each (e ∷ es) formed =
    let both = and_parts (is_formed_exp e) (list_all is_formed_exp es) formed in
    both_true (terms_formed e both.0) (terms_each es both.1)

-- the formulas of rightly built trees
module _ (x : Expansion) (built_left : list_all is_built x.left ≡ true) (built_right : list_all is_built x.right ≡ true) (left : list_all is_formed_exp x.left ≡ true) (right : list_all is_formed_exp x.right ≡ true) where
  sequent_of_trees : IsFormedSequent (shallow_sequent x)
  sequent_of_trees = record {
    left = all-set_of is_formed (map shallow x.left) ∙ formulas_formed x.left built_left left;
    right = all-set_of is_formed (map shallow x.right) ∙ formulas_formed x.right built_right right;
  }

  formed_trees : IsFormedExpansion x (shallow_sequent x)
  formed_trees = record {
    formulas_left = AllPass-from_list_all is_formed _ sequent_of_trees.left;
    formulas_right = AllPass-from_list_all is_formed _ sequent_of_trees.right;
    terms_left = AllPass-from_list_all has_formed_terms x.left (terms_each x.left left);
    terms_right = AllPass-from_list_all has_formed_terms x.right (terms_each x.right right);
  }

pub formed_proof : (x : Expansion) → IsExpansionProof x (shallow_sequent x) → has_formed_trees x ≡ true → IsFormedExpansion x (shallow_sequent x)
formed_proof x proof formed =
    let both = and_parts (list_all is_formed_exp x.left) (list_all is_formed_exp x.right) formed in
    formed_trees x (list_all-from_AllPass is_built x.left proof.built_left) (list_all-from_AllPass is_built x.right proof.built_right) both.0 both.1
