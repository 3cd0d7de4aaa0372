-- Terms and formulas with new parts, where `None` stands for a part that stays.
use Rattle.std.specs.Prelude.{Option, unwrap_or}
use Rattle.fol.specs.Syntax.{Term, app, Terms, nil, cons, Formula, atom, not, and, or, imp, all, ex}

-- an application with new arguments; other terms stay
abbrev pub term_with_arguments : Term → Option Terms → Term
term_with_arguments (app s ts) us = app s (unwrap_or us ts)
term_with_arguments t us = t

-- a list of terms with a new first one and a new rest
abbrev pub with_elements : Terms → Option Term → Option Terms → Terms
with_elements nil u us = nil
with_elements (cons t ts) u us = cons (unwrap_or u t) (unwrap_or us ts)

-- an atom with new arguments; other formulas stay
abbrev pub with_arguments : Formula → Option Terms → Formula
with_arguments (atom s ts) us = atom s (unwrap_or us ts)
with_arguments f us = f

-- a negation or a quantified formula with a new body; other formulas stay
abbrev pub with_body : Formula → Option Formula → Formula
with_body (not f) a = not (unwrap_or a f)
with_body (all f) a = all (unwrap_or a f)
with_body (ex f) a = ex (unwrap_or a f)
with_body f a = f

-- a conjunction, a disjunction or an implication with new parts; other formulas stay
abbrev pub with_parts : Formula → Option Formula → Option Formula → Formula
with_parts (and f g) a b = and (unwrap_or a f) (unwrap_or b g)
with_parts (or f g) a b = or (unwrap_or a f) (unwrap_or b g)
with_parts (imp f g) a b = imp (unwrap_or a f) (unwrap_or b g)
with_parts f a b = f

-- an equivalence, which has each of its sides twice
abbrev pub equivalence : Formula → Formula → Formula
equivalence f g = and (imp f g) (imp g f)
