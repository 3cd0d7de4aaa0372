-- Marks of atoms: bits that each instance of an atom has as well. So a clause subsumes only such clauses as have its marks.
--     IsMaskWithin      each bit of a mask is one of another mask
--     bit_of      one of 64 bits
--     term_marks, terms_marks      of the function symbols of terms, each at its place
--     atom_marks      of the predicate symbol, of the function symbols of the arguments, and of an atom without variables as a whole
--     side_marks      all those of several atoms
--     predicate_mark      of the predicate symbol alone
--     is_marked_within, within_some, each_within_some      the tests that atoms may have images among others
use Rattle.std.specs.Prelude.{◌≡◌, ◌==◌, ℕ, ◌-◌, ◌%◌, ◌^◌, Bool, ◌&&◌, if◌then◌else◌, List, [], ◌∷◌, bit_or}
use Rattle.std.specs.List.{list_any, list_all}
use Rattle.fol.specs.Syntax.{Term, free, bound, app, Terms, nil, cons, Formula, atom}
use Rattle.fol.specs.Mixing.{mixed}
use Rattle.fol.specs.Facts.{is_open, sym_fingerprint, pred_fingerprint, formula_fingerprint}

abbrev pub IsMaskWithin : ℕ → ℕ → Type 0
IsMaskWithin a b = bit_or a b ≡ b

-- the bit that a fingerprint is for
unfoldable pub bit_of : ℕ → ℕ
bit_of n = 2 ^ (n % 64)

-- of the function symbols of a term, down to so many symbols below its first one, where h tells the place
abbrev mutual
  pub term_marks : ℕ → ℕ → Term → ℕ
  term_marks n h (free v) = 0
  term_marks n h (bound i) = 0
  term_marks n h (app s ts) = if n == 0 then bit_of (mixed h (sym_fingerprint s)) else bit_or (bit_of (mixed h (sym_fingerprint s))) (terms_marks (n - 1) (mixed h (sym_fingerprint s)) ts)

  -- those of arguments from one place on
  pub terms_marks : ℕ → ℕ → Terms → ℕ
  terms_marks n h nil = 0
  terms_marks n h (cons t ts) = bit_or (term_marks n h t) (terms_marks n (mixed h 0) ts)

-- of the whole, where it has no variable
abbrev pub whole_mark : Formula → ℕ
whole_mark f = if is_open f then 0 else bit_of (formula_fingerprint f)

abbrev pub atom_marks : Formula → ℕ
atom_marks (atom p ts) = bit_or (bit_of (pred_fingerprint p)) (bit_or (terms_marks 4 (pred_fingerprint p) ts) (whole_mark (atom p ts)))
atom_marks f = 0

-- all of several atoms
abbrev pub side_marks : List Formula → ℕ
side_marks [] = 0
side_marks (f ∷ fs) = bit_or (atom_marks f) (side_marks fs)

-- of the predicate symbol alone
abbrev pub predicate_mark : Formula → ℕ
predicate_mark (atom p ts) = pred_fingerprint p
predicate_mark f = 0

-- whether an atom has the predicate symbol and all marks of another one
abbrev pub is_marked_within : Formula → Formula → Bool
is_marked_within f g = (predicate_mark f == predicate_mark g) && (bit_or (atom_marks f) (atom_marks g) == atom_marks g)

-- whether some atom has all marks of one, and whether for each of a list some has
abbrev pub within_some : List Formula → Formula → Bool
within_some gs f = list_any (is_marked_within f) gs

abbrev pub each_within_some : List Formula → List Formula → Bool
each_within_some gs fs = list_all (within_some gs) fs
