-- Links of a clause: bits for any two places of arguments where one variable stands. An instance has one term at both.
--     variable_number      the number of a numbered variable
--     argument_places, atom_places, side_places, clause_places      the places of arguments, each with what stands there
--     needs_at, needs_of      the bits for places with one variable
--     offers_at, offers_of      the bits for places with one term, as the fingerprints tell
--     AreLinksOf      those of a clause
use Rattle.std.specs.Prelude.{◌≡◌, ◌==◌, ℕ, Bool, false, ◌&&◌, not as negated, if◌then◌else◌, List, [], ◌∷◌, ◌++◌, Option, Some, None, bit_or}
use Rattle.fol.specs.declared.symbols.Var.TheVariants.{Num}
use Rattle.fol.specs.Syntax.{Term, free, Terms, nil, cons, Formula, atom}
use Rattle.fol.specs.Mixing.{mixed}
use Rattle.fol.specs.Facts.{term_fingerprint, pred_fingerprint}
use Rattle.finite.specs.Finite as set
use Rattle.lk_rules.specs.declared.sequent.Sequent.{Sequent}
use Rattle.res_prover.specs.declared.links.Place.{Place}
use Rattle.res_prover.specs.declared.links.Links.{Links}
use Rattle.res_prover.specs.Marks.{bit_of}

abbrev pub variable_number : Term → Option ℕ
variable_number (free (Num n)) = Some n
variable_number t = None

-- what stands at the place with the number h
abbrev pub place_of : ℕ → Term → Place
place_of h t = record { number = h; fingerprint = term_fingerprint t; variable = variable_number t }

-- arguments, of which the first has the number h
abbrev pub argument_places : ℕ → Terms → List Place
argument_places h nil = []
argument_places h (cons t ts) = place_of h t ∷ argument_places (mixed h 0) ts

abbrev pub atom_places : ℕ → Formula → List Place
atom_places h (atom p ts) = argument_places (mixed (pred_fingerprint p) h) ts
atom_places h f = []

abbrev pub side_places : ℕ → List Formula → List Place
side_places h [] = []
side_places h (f ∷ fs) = atom_places h f ++ side_places h fs

abbrev pub clause_places : Sequent → List Place
clause_places c = side_places 1 (set.listing c.left) ++ side_places 2 (set.listing c.right)

-- the bit for two places
abbrev pub link : Place → Place → ℕ
link p q = bit_of (mixed p.number q.number)

abbrev pub is_one_number : Option ℕ → Option ℕ → Bool
is_one_number (Some m) (Some n) = m == n
is_one_number o p = false

abbrev pub is_one_variable : Place → Place → Bool
is_one_variable p q = is_one_number p.variable q.variable

abbrev pub needs_at : Place → List Place → ℕ
needs_at p [] = 0
needs_at p (q ∷ qs) = if negated (p.number == q.number) && is_one_variable p q then bit_or (link p q) (needs_at p qs) else needs_at p qs

abbrev pub needs_of : List Place → List Place → ℕ
needs_of [] qs = 0
needs_of (p ∷ ps) qs = bit_or (needs_at p qs) (needs_of ps qs)

abbrev pub offers_at : Place → List Place → ℕ
offers_at p [] = 0
offers_at p (q ∷ qs) = if negated (p.number == q.number) && (p.fingerprint == q.fingerprint) then bit_or (link p q) (offers_at p qs) else offers_at p qs

abbrev pub offers_of : List Place → List Place → ℕ
offers_of [] qs = 0
offers_of (p ∷ ps) qs = bit_or (offers_at p qs) (offers_of ps qs)

pub record AreLinksOf (c : Sequent) (l : Links) : Type 0 where
  pub needed : l.needed ≡ needs_of (clause_places c) (clause_places c)
  pub offered : l.offered ≡ offers_of (clause_places c) (clause_places c)
