-- Several instances of a formula in a row.
use Rattle.fol.specs.Syntax.{Terms, nil, cons, Formula, all}
use Rattle.substitution.specs.Instance.{inst}

-- the formula's instance by the first term, of that the instance by the second one, and so on: each term takes the place of the outermost
-- universal quantifier
abbrev pub instances : Terms → Formula → Formula
instances nil f = f
instances (cons t ts) (all f) = instances ts (inst f t)
instances (cons t ts) f = f
