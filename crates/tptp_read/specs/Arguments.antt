-- The arguments of a symbol that have been read.
use Rattle.std.specs.Prelude.{List, [], ◌∷◌}
use Rattle.fol.specs.Syntax.{Term, Terms, nil, cons}

-- a list of terms as such
abbrev pub terms_of : List Term → Terms
terms_of [] = nil
terms_of (t ∷ ts) = cons t (terms_of ts)
