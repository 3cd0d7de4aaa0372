-- The numbers of equations stay, and one more equation comes with its numbers.
use Rattle.std.proofs.Common.{ℕ, List, [], ◌∷◌, ◌++◌}
use Rattle.unify_laws.specs.Equations.{Equation}
use Rattle.arena_cells.specs.Items.{Item, term}
use Rattle.arena_cells.specs.Standing.{Extends, HasTerm}
use Rattle.fol_unify.specs.Joining.{ArePairs}

pub pairs_stay : (a b : List Item) → Extends a b → (ps : List (ℕ × ℕ)) (es : List Equation) → ArePairs a ps es → ArePairs b ps es
pairs_stay a b grown [] [] h = tt
pairs_stay a b grown [] (e ∷ es) h = absurd h
pairs_stay a b grown (p ∷ ps) [] h = absurd h
pairs_stay a b grown (p ∷ ps) (e ∷ es) h = ((grown p.0 (term e.0) h.0.0, grown p.1 (term e.1) h.0.1), pairs_stay a b grown ps es h.1)

zip_push : (a : List Item) (ps : List (ℕ × ℕ)) (es : List Equation) (p : ℕ × ℕ) (e : Equation) → ArePairs a ps es → HasTerm a p.0 e.0 → HasTerm a p.1 e.1 → ArePairs a (ps ++ p ∷ []) (es ++ e ∷ [])
zip_push a [] [] p e h one two = ((one, two), tt)
zip_push a [] (d ∷ es) p e h one two = absurd h
zip_push a (q ∷ ps) [] p e h one two = absurd h
zip_push a (q ∷ ps) (d ∷ es) p e h one two = (h.0, zip_push a ps es p e h.1 one two)

pub one_more_pair : (a b : List Item) → Extends a b → (ps : List (ℕ × ℕ)) (es : List Equation) (p : ℕ × ℕ) (e : Equation) → ArePairs a ps es → HasTerm b p.0 e.0 → HasTerm b p.1 e.1 → ArePairs b (ps ++ p ∷ []) (es ++ e ∷ [])
one_more_pair a b grown ps es p e h one two = zip_push b ps es p e (pairs_stay a b grown ps es h) one two
