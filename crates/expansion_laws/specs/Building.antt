-- Which expansion trees are rightly built.
--     is_built      each leaf is an atom, truth or falsity, and each child at a quantifier has the instance for its formula
use Rattle.std.specs.Prelude.{Bool, true, false, ◌&&◌}
use Rattle.std.specs.Ordering.{eq_by_cmp}
use Rattle.std.specs.declared.cmp.Ordering.TheVariants.{Less, Equal, Greater}
use Rattle.std.specs.declared.cmp.Ordering.{Ordering}
use Rattle.fol.specs.Syntax.{Term, free, Formula, atom, top, bot, all, ex}
use Rattle.fol.specs.Order.{term_cmp, formula_cmp}
use Rattle.substitution.specs.Instance.{inst}
use Rattle.expansion_laws.specs.Expansions.{Exp, wk, leaf, neg, conj, disj, impl, weak, strong, Insts, none, more, shallow}

-- whether the formula has no connective and no quantifier
abbrev pub is_flat : Formula → Bool
is_flat (atom s ts) = true
is_flat top = true
is_flat bot = true
is_flat f = false

-- whether g is the instance of a quantified formula by a term
abbrev pub is_instance : Formula → Term → Formula → Bool
is_instance (all b) t g = eq_by_cmp formula_cmp g (inst b t)
is_instance (ex b) t g = eq_by_cmp formula_cmp g (inst b t)
is_instance f t g = false

abbrev pub is_less : Ordering → Bool
is_less Less = true
is_less Equal = false
is_less Greater = false

-- whether a term is below that of the first of the instances
abbrev pub is_below : Term → Insts → Bool
is_below t none = true
is_below t (more u e is) = is_less (term_cmp t u)

abbrev pub is_quantified : Formula → Bool
is_quantified (all b) = true
is_quantified (ex b) = true
is_quantified f = false

-- whether the tree is rightly built. The terms of the instances at a quantifier rise, so none is given twice
abbrev mutual
  pub is_built : Exp → Bool
  is_built (wk f) = true
  is_built (leaf f) = is_flat f
  is_built (neg e) = is_built e
  is_built (conj d e) = is_built d && is_built e
  is_built (disj d e) = is_built d && is_built e
  is_built (impl d e) = is_built d && is_built e
  is_built (weak f is) = is_quantified f && are_built f is
  is_built (strong f y e) = is_instance f (free y) (shallow e) && is_built e

  pub are_built : Formula → Insts → Bool
  are_built f none = true
  are_built f (more t e is) = (is_instance f t (shallow e) && is_built e) && (is_below t is && are_built f is)
