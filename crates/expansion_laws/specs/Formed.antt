-- Whether what an expansion tree names is well formed.
--     is_formed_exp, IsProper      the formulas, terms and variables are well formed; and the tree is rightly built
use Rattle.std.specs.Prelude.{◌≡◌, Bool, true, ◌&&◌}
use Rattle.fol.specs.Formed.{is_formed_var, is_formed_term, is_formed}
use Rattle.expansion_laws.specs.Expansions.{Exp, wk, leaf, neg, conj, disj, impl, weak, strong, Insts, none, more}
use Rattle.expansion_laws.specs.Building.{is_built}

-- whether the formulas, terms and variables of a tree are well formed
abbrev mutual
  pub is_formed_exp : Exp → Bool
  is_formed_exp (wk f) = is_formed f
  is_formed_exp (leaf f) = is_formed f
  is_formed_exp (neg e) = is_formed_exp e
  is_formed_exp (conj d e) = is_formed_exp d && is_formed_exp e
  is_formed_exp (disj d e) = is_formed_exp d && is_formed_exp e
  is_formed_exp (impl d e) = is_formed_exp d && is_formed_exp e
  is_formed_exp (weak f is) = is_formed f && are_formed_insts is
  is_formed_exp (strong f y e) = is_formed f && is_formed_var y && is_formed_exp e

  pub are_formed_insts : Insts → Bool
  are_formed_insts none = true
  are_formed_insts (more t e is) = is_formed_term t && is_formed_exp e && are_formed_insts is

-- the tree is rightly built of what is well formed
pub record IsProper (e : Exp) : Type 0 where
  pub built : is_built e ≡ true
  pub formed : is_formed_exp e ≡ true
