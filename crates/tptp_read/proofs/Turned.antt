-- Arguments that are kept in the order of the text.
use Rattle.std.proofs.Common.{◌≡◌, List, [], ◌∷◌, ◌++◌, length, reverse, refl, ◌∙◌, ap, arith}
use Rattle.std.proofs.lemmas.List.{reverse-append}
use Rattle.fol.specs.Syntax.{Term, Terms, cons}
use Rattle.tptp_read.specs.Arguments.{terms_of}
use Rattle.tptp_read.specs.Machine.{turned_onto}

-- the last one in the text goes in front first
pub last_turned : (terms rest : List Term) (term : Term) (all : Terms) → terms ≡ rest ++ term ∷ [] → turned_onto (terms_of (reverse terms)) all ≡ turned_onto (terms_of (reverse rest)) (cons term all)
last_turned terms rest term all is = ap (λ (ts : List Term). turned_onto (terms_of ts) all) (ap reverse is ∙ reverse-append rest (term ∷ []))

pub none_turned : (terms : List Term) (all : Terms) → length terms ≡ 0 → turned_onto (terms_of (reverse terms)) all ≡ all
none_turned [] all none = refl
none_turned (t ∷ ts) all none = absurd (omega arith)
