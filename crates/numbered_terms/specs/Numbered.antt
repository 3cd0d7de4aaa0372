-- What numbers of terms and of tuples of terms mean.
--     arguments_of      the arguments of a term
--     tuple_at, tuples_at      the tuple at a number, and those at several
--     IsTuple, AreTuples      numbers of tuples
--     set_at, IsTermSet      the set of the terms at numbers; the rising numbers of one
--     listed_at, AreListed      values by their numbers
use Rattle.std.specs.Prelude.{◌≡◌, ℕ, List, map, Option, option_map, IfSome}
use Rattle.std.specs.List.{All}
use Rattle.std.specs.Ordering.{nat_cmp}
use Rattle.fol.specs.Syntax.{Term, free, bound, app, Terms, nil}
use Rattle.finite.specs.Finite as set
use Rattle.herbrand_laws.specs.Patterns.{TermSet}
use Rattle.arrayvec.specs.ArrayVec.{ArrayVec}
use Rattle.arena_cells.specs.Items.{Item}
use Rattle.arena_cells.specs.Standing.{term_at, IsTermAt}

-- the arguments of a term
abbrev pub arguments_of : Term → Terms
arguments_of (free v) = nil
arguments_of (bound i) = nil
arguments_of (app s us) = us

-- a tuple has the number of a term whose arguments it is
abbrev pub tuple_at : List Item → ℕ → Terms
tuple_at a n = arguments_of (term_at a n)

abbrev pub tuples_at : List Item → List ℕ → List Terms
tuples_at a ns = map (tuple_at a) ns

-- n is the number of a tuple
pub record IsTuple (a : List Item) (n : ℕ) (us : Terms) : Type 0 where
  pub term : IsTermAt a n
  pub tuple : tuple_at a n ≡ us

-- the numbers are those of tuples, in their order
pub record AreTuples (a : List Item) (ns : List ℕ) (uss : List Terms) : Type 0 where
  pub terms : All (IsTermAt a) ns
  pub tuples : tuples_at a ns ≡ uss

-- the set of the terms at numbers
abbrev pub set_at : List Item → List ℕ → TermSet
set_at a ns = set.of_list (map (term_at a) ns)

-- rising numbers of terms
pub record IsTermSet (a : List Item) (ns : List ℕ) : Type 0 where
  pub rises : set.IsRising nat_cmp ns
  pub terms : All (IsTermAt a) ns

-- values by their numbers
abbrev pub listed_at : List Item → Option (ArrayVec ℕ) → Option (List Term)
listed_at a vs = option_map (λ v. map (term_at a) v.items) vs

-- these are numbers of terms
abbrev pub AreListed : List Item → Option (ArrayVec ℕ) → Type 0
AreListed a vs = IfSome vs (λ v. All (IsTermAt a) v.items)
