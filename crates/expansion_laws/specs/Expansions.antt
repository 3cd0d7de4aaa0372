-- Expansion trees, after Miller (1987): for a formula, which instances of its quantifiers a proof uses.
--     Exp, Insts      expansion trees, and the instances at a weak quantifier
--     shallow      the formula of a tree
--     turn, deep      the formula without quantifiers that a tree stands for on a side
use Rattle.fol.specs.declared.symbols.Var.{Var}
use Rattle.fol.specs.Syntax.{Term, Formula, top, bot, not, and, or, imp}
use Rattle.lk_rules.specs.declared.sequent.Side.{Side}
use Rattle.lk_rules.specs.declared.sequent.Side.TheVariants.{Left, Right}

-- A tree is a formula that is never used; an atom, truth or falsity that is; a connective over its parts; a weak quantifier with the
-- instances that are used; or a strong quantifier with its variable and the instance by that.
mutual
  pub data Exp : Type 0 where
    wk : Formula → Exp
    leaf : Formula → Exp
    neg : Exp → Exp
    conj : Exp → Exp → Exp
    disj : Exp → Exp → Exp
    impl : Exp → Exp → Exp
    weak : Formula → Insts → Exp
    strong : Formula → Var → Exp → Exp

  -- instances by terms, each with its tree
  pub data Insts : Type 0 where
    none : Insts
    more : Term → Exp → Insts → Insts

-- the formula of a tree
abbrev pub shallow : Exp → Formula
shallow (wk f) = f
shallow (leaf f) = f
shallow (neg e) = not (shallow e)
shallow (conj d e) = and (shallow d) (shallow e)
shallow (disj d e) = or (shallow d) (shallow e)
shallow (impl d e) = imp (shallow d) (shallow e)
shallow (weak f is) = f
shallow (strong f y e) = f

-- the other side
abbrev pub turn : Side → Side
turn Left = Right
turn Right = Left

-- what says nothing on a side: truth on the left, falsity on the right
abbrev pub nothing_on : Side → Formula
nothing_on Left = top
nothing_on Right = bot

-- instances together: all of them on the left, one of them on the right
abbrev pub joined : Side → Formula → Formula → Formula
joined Left f g = and f g
joined Right f g = or f g

-- The formula without quantifiers that a tree stands for on a side. The instances at a weak quantifier are joined in order, chained to
-- the left.
abbrev mutual
  pub deep : Side → Exp → Formula
  deep s (wk f) = nothing_on s
  deep s (leaf f) = f
  deep s (neg e) = not (deep (turn s) e)
  deep s (conj d e) = and (deep s d) (deep s e)
  deep s (disj d e) = or (deep s d) (deep s e)
  deep s (impl d e) = imp (deep (turn s) d) (deep s e)
  deep s (weak f is) = deep_first s is
  deep s (strong f y e) = deep s e

  pub deep_first : Side → Insts → Formula
  deep_first s none = nothing_on s
  deep_first s (more t e is) = deep_rest s (deep s e) is

  pub deep_rest : Side → Formula → Insts → Formula
  deep_rest s front none = front
  deep_rest s front (more t e is) = deep_rest s (joined s front (deep s e)) is
