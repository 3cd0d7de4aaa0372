-- Lists of lists of formulas, and lists of variables that grow.
--     lists_of, unlisted
use Rattle.std.specs.Prelude.{List, map}
use Rattle.std.specs.declared.vec.Vec.{Vec}
use Rattle.fol.specs.declared.symbols.Var.{Var}
use Rattle.fol.specs.Syntax.{Formula}
use Rattle.free_variables.specs.Fresh.{is_among}
use Rattle.refutations.specs.FirstOccurrences.{unseen}

-- the lists that vectors hold
abbrev pub lists_of : {Z : Type 0} → List (Vec Formula Z) → List (List Formula)
lists_of vs = map (λ v. v.items) vs

-- the first occurrences of variables that are not listed yet
abbrev pub unlisted : List Var → List Var → List Var
unlisted firsts vs = unseen (λ w. is_among w firsts) vs
