-- What building asks for.
--     IsFormedExpansion      formulas, terms and variables are well formed
--     IsBuildable      the trees of a list are an expansion proof
use Rattle.std.specs.Prelude.{◌≡◌, Bool, true, ◌&&◌, List}
use Rattle.std.specs.List.{All}
use Rattle.fol.specs.Formed.{is_formed_term, is_formed_var, IsFormed}
use Rattle.finite.specs.Finite as set
use Rattle.lk_rules.specs.declared.sequent.Sequent.{Sequent}
use Rattle.expansion_laws.specs.Expansions.{Exp, wk, leaf, neg, conj, disj, impl, weak, strong, Insts, none, more}
use Rattle.expansion_laws.specs.Dependency.{Expansion}
use Rattle.expansion_laws.specs.Proofs.{IsExpansionProof}
use Rattle.building_laws.specs.Lists.{Placed, sides, conclusion}

-- whether the terms of a tree's instances and the variables of its strong quantifiers are well formed
abbrev mutual
  pub has_formed_terms : Exp → Bool
  has_formed_terms (wk f) = true
  has_formed_terms (leaf f) = true
  has_formed_terms (neg e) = has_formed_terms e
  has_formed_terms (conj d e) = has_formed_terms d && has_formed_terms e
  has_formed_terms (disj d e) = has_formed_terms d && has_formed_terms e
  has_formed_terms (impl d e) = has_formed_terms d && has_formed_terms e
  has_formed_terms (weak f is) = have_formed_terms is
  has_formed_terms (strong f y e) = is_formed_var y && has_formed_terms e

  pub have_formed_terms : Insts → Bool
  have_formed_terms none = true
  have_formed_terms (more t e is) = (is_formed_term t && has_formed_terms e) && have_formed_terms is

-- the formulas of a sequent are well formed, and so are the terms and variables of trees for it
pub record IsFormedExpansion (x : Expansion) (s : Sequent) : Type 0 where
  pub formulas_left : All IsFormed (set.listing s.left)
  pub formulas_right : All IsFormed (set.listing s.right)
  pub terms_left : All (λ e. has_formed_terms e ≡ true) x.left
  pub terms_right : All (λ e. has_formed_terms e ≡ true) x.right

-- the trees of a list, by their sides, are an expansion proof of the sequent of their formulas, and all is well formed
pub record IsBuildable (l : List Placed) : Type 0 where
  pub proof : IsExpansionProof (sides l) (conclusion l)
  pub formed : IsFormedExpansion (sides l) (conclusion l)
