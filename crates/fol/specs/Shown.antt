-- What a stored node means, where its parts mean what they do.
use Rattle.std.specs.Prelude.{Option, Some, None}
use Rattle.fol.specs.Syntax.{Term, free, bound, app, Terms, nil, cons, Body, undefined, defined, Formula, atom, top, bot, not, and, or, imp, all, ex}
use Rattle.fol.specs.declared.syntax.TermNode.{TermNode}
use Rattle.fol.specs.declared.syntax.TermNode.TheVariants.{Free, Bound, App}
use Rattle.fol.specs.declared.syntax.TermsLink.{TermsLink}
use Rattle.fol.specs.declared.syntax.TermsLink.TheVariants.{Nil, Cons}
use Rattle.fol.specs.declared.syntax.FormulaNode.{FormulaNode}
use Rattle.fol.specs.declared.syntax.FormulaNode.TheVariants.{Atom, Top, Bot, Not, And, Or, Imp, All, Ex}

-- the term at whose root the node stands
abbrev pub term_of : TermNode → Term
term_of (Free v) = free v
term_of (Bound i) = bound i
term_of (App s ts) = app s ts

-- the list that begins with the link
abbrev pub terms_of : TermsLink → Terms
terms_of Nil = nil
terms_of (Cons t ts) = cons t ts

-- the body that a predicate symbol keeps
abbrev pub body_of : Option Formula → Body
body_of None = undefined
body_of (Some f) = defined f

-- the formula at whose root the node stands
abbrev pub formula_of : FormulaNode → Formula
formula_of (Atom p ts) = atom p ts
formula_of Top = top
formula_of Bot = bot
formula_of (Not f) = not f
formula_of (And f g) = and f g
formula_of (Or f g) = or f g
formula_of (Imp f g) = imp f g
formula_of (All f) = all f
formula_of (Ex f) = ex f
