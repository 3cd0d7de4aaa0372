-- Which formulas and terms have a canonical text that is within the reader's limits.
--     term_levels, formula_levels      how many levels the canonical text opens inside one another, at most
--     AreChainsWithin      how long its chains may be
--     AreNumbersInRange      whether each numbered variable in it is one that a text can have
use Rattle.std.specs.Prelude.{◌≡◌, ℕ, suc, ◌^◌, ◌<◌, ◌≤◌, max, true, if◌then◌else◌}
use Rattle.fol.specs.declared.symbols.Sym.{Sym}
use Rattle.fol.specs.declared.symbols.Var.TheVariants.{Num}
use Rattle.fol.specs.Syntax.{Term, free, bound, app, Terms, nil, cons, pred_symbol, Formula, atom, top, bot, not, and, or, imp, all, ex}
use Rattle.finite.specs.Finite as set
use Rattle.free_variables.specs.Occurrence.{is_free_in, is_free_in_term, vars_formula}
use Rattle.tptp_print.specs.Choice.{numbers_of, outside}
use Rattle.tptp_print.specs.Canonical.{is_equality, is_binary, is_and, is_or, quantifier_depth}

-- the parentheses of arguments; no arguments have none
abbrev mutual
  pub term_levels : Term → ℕ
  term_levels (free v) = 0
  term_levels (bound i) = 0
  term_levels (app s ts) = argument_levels ts

  pub argument_levels : Terms → ℕ
  argument_levels nil = 0
  argument_levels (cons t ts) = suc (max (term_levels t) (list_levels ts))

  -- in some of the terms
  pub list_levels : Terms → ℕ
  list_levels nil = 0
  list_levels (cons t ts) = max (term_levels t) (list_levels ts)

-- an equality stands between its sides, which have no parentheses around them
abbrev pub atom_levels : Sym → Terms → ℕ
atom_levels s ts = if is_equality s ts then list_levels ts else argument_levels ts

-- where a unit has to stand a formula of n levels may have parentheses around it, and as the left part of a conjunction or of a
-- disjunction one that isn't of the same chain may have them
abbrev pub unit_levels : Formula → ℕ → ℕ
unit_levels f n = if is_binary f then suc n else n

abbrev pub left_of_and_levels : Formula → ℕ → ℕ
left_of_and_levels f n = if is_and f then n else unit_levels f n

abbrev pub left_of_or_levels : Formula → ℕ → ℕ
left_of_or_levels f n = if is_or f then n else unit_levels f n

-- a negation is a level, and that of an equality, with `!=`, is none
abbrev pub negation_levels : Formula → ℕ → ℕ
negation_levels (atom p ts) n = if is_equality (pred_symbol p) ts then n else suc n
negation_levels f n = suc (unit_levels f n)

abbrev pub formula_levels : Formula → ℕ
formula_levels (atom p ts) = atom_levels (pred_symbol p) ts
formula_levels top = 0
formula_levels bot = 0
formula_levels (not f) = negation_levels f (formula_levels f)
formula_levels (and f g) = max (left_of_and_levels f (formula_levels f)) (unit_levels g (formula_levels g))
formula_levels (or f g) = max (left_of_or_levels f (formula_levels f)) (unit_levels g (formula_levels g))
formula_levels (imp f g) = max (unit_levels f (formula_levels f)) (unit_levels g (formula_levels g))
formula_levels (all f) = suc (unit_levels f (formula_levels f))
formula_levels (ex f) = suc (unit_levels f (formula_levels f))

-- how many operators the chain has that the formula is
abbrev pub and_operators : Formula → ℕ
and_operators (and f g) = suc (and_operators f)
and_operators f = 0

abbrev pub or_operators : Formula → ℕ
or_operators (or f g) = suc (or_operators f)
or_operators f = 0

-- each chain in the formula has at most so many operators
abbrev pub AreChainsWithin : ℕ → Formula → Type 0
AreChainsWithin most (not f) = AreChainsWithin most f
AreChainsWithin most (and f g) = (and_operators (and f g) ≤ most) × (AreChainsWithin most f × AreChainsWithin most g)
AreChainsWithin most (or f g) = (or_operators (or f g) ≤ most) × (AreChainsWithin most f × AreChainsWithin most g)
AreChainsWithin most (imp f g) = AreChainsWithin most f × AreChainsWithin most g
AreChainsWithin most (all f) = AreChainsWithin most f
AreChainsWithin most (ex f) = AreChainsWithin most f
AreChainsWithin most f = Unit {0}

-- the canonical text opens at most 200 levels, and no chain in it has more than 999 operators
abbrev pub IsWithinLimits : Formula → Type 0
IsWithinLimits f = (formula_levels f ≤ 200) × AreChainsWithin 999 f

abbrev pub IsTermWithinLimits : Term → Type 0
IsTermWithinLimits t = term_levels t ≤ 200

-- each numbered variable in the canonical text, free or chosen for a quantifier, has a number below 2 ^ 64
abbrev pub AreNumbersInRange : Formula → Type 0
AreNumbersInRange f =
    ((n : ℕ) → is_free_in (Num n) f ≡ true → n < 2 ^ 64) × ((d : ℕ) → d < quantifier_depth f → outside (numbers_of (vars_formula f set.empty)) d < 2 ^ 64)

abbrev pub AreTermNumbersInRange : Term → Type 0
AreTermNumbersInRange t = (n : ℕ) → is_free_in_term (Num n) t ≡ true → n < 2 ^ 64
