-- Herbrand sequents, after Herbrand (1930) and Miller (1987), of sequents all of whose formulas are weak quantifiers over a formula without
-- quantifiers and without predicate symbols that have a body: `all` on the left, `ex` on the right.
--     is_prenex, prefix      whether a formula is of that kind on a side, and how many quantifiers it has
--     instance_of, matrix_instance      the instance of a quantified formula by a term; that of all its quantifiers by a tuple
--     tuples      the tuples of terms by which a tree reaches its formula without quantifiers
--     Item, items_of      a formula on a side and its tuples; those of trees
--     IsPrenex      each formula of a sequent is of that kind
--     herbrand_sequent      the matrix instances by the tuples
--     IsMatrixInstance      a formula is the matrix instance of one of a sequent
use Rattle.std.specs.Prelude.{◌≡◌, ℕ, zero, suc, Bool, true, ◌&&◌, not as negated, List, [], ◌∷◌, ◌++◌, map}
use Rattle.std.specs.List.{flat_map}
use Rattle.fol.specs.Syntax.{Term, Terms, nil, cons, Formula, all, ex}
use Rattle.fol.specs.Facts.{has_body}
use Rattle.fol.specs.Formed.{count_terms}
use Rattle.finite.specs.Finite as set
use Rattle.substitution.specs.Instance.{inst}
use Rattle.lk_rules.specs.declared.sequent.Sequent.{Sequent}
use Rattle.lk_rules.specs.declared.sequent.Side.{Side}
use Rattle.lk_rules.specs.declared.sequent.Side.TheVariants.{Left, Right}
use Rattle.lk_rules.specs.Sequents.{side_of}
use Rattle.search_laws.specs.Truth.{has_quantifier}
use Rattle.expansion_laws.specs.Expansions.{Exp, wk, weak, Insts, none, more, shallow}
use Rattle.expansion_laws.specs.Dependency.{Expansion}

-- whether a formula is zero or more weak quantifiers over its matrix, which has no quantifier and no predicate symbol with a body
abbrev pub is_prenex : Side → Formula → Bool
is_prenex Left (all f) = is_prenex Left f
is_prenex Right (ex f) = is_prenex Right f
is_prenex s f = negated (has_quantifier f) && negated (has_body f)

-- how many weak quantifiers stand in front
abbrev pub prefix : Side → Formula → ℕ
prefix Left (all f) = suc (prefix Left f)
prefix Right (ex f) = suc (prefix Right f)
prefix s f = 0

-- the instance of a quantified formula by a term
abbrev pub instance_of : Formula → Term → Formula
instance_of (all f) t = inst f t
instance_of (ex f) t = inst f t
instance_of f t = f

-- the instance of the matrix by a tuple, which has a term for each quantifier
abbrev pub matrix_instance : Terms → Formula → Formula
matrix_instance nil f = f
matrix_instance (cons t us) f = matrix_instance us (instance_of f t)

-- The tuples of the terms of n instances inside one another in a tree, in order: those whose path reaches a tree that is used.
abbrev mutual
  pub tuples : ℕ → Exp → List Terms
  tuples n (wk f) = []
  tuples zero e = nil ∷ []
  tuples (suc n) (weak f is) = tuples_in n is
  tuples (suc n) e = []

  pub tuples_in : ℕ → Insts → List Terms
  tuples_in n none = []
  tuples_in n (more t e is) = map (cons t) (tuples n e) ++ tuples_in n is

-- the tuples of a tree on a side, which have a term for each quantifier of its formula
abbrev pub tuples_on : Side → Exp → List Terms
tuples_on s e = tuples (prefix s (shallow e)) e

-- a formula on a side, and tuples of terms for its quantifiers
pub record Item : Type 0 where
  pub side : Side
  pub formula : Formula
  pub tuples : List Terms

-- how many quantifiers the item's formula has
abbrev pub quantifiers : Item → ℕ
quantifiers i = prefix i.side i.formula

-- the items of trees, the left ones first
abbrev pub item_of : Side → Exp → Item
item_of s e = record { side = s; formula = shallow e; tuples = tuples_on s e }

abbrev pub items_of : Expansion → List Item
items_of x = map (item_of Left) x.left ++ map (item_of Right) x.right

-- the matrix instances of the items on a side
abbrev pub on_side : Side → Side → List Formula → List Formula
on_side Left Left fs = fs
on_side Right Right fs = fs
on_side side other fs = []

abbrev pub matrix_instances : Side → List Item → List Formula
matrix_instances side items = flat_map (λ i. on_side side i.side (map (λ us. matrix_instance us i.formula) i.tuples)) items

-- each formula of the sequent is weak quantifiers over such a matrix
abbrev pub IsPrenex : Sequent → Type 0
IsPrenex s = (side : Side) (f : Formula) → set.has (side_of s side) f ≡ true → is_prenex side f ≡ true

-- the Herbrand sequent of items
abbrev pub herbrand_sequent : List Item → Sequent
herbrand_sequent items = record { left = set.of_list (matrix_instances Left items); right = set.of_list (matrix_instances Right items) }

-- f is the matrix instance of a formula of the side of a sequent by a tuple of as many terms as that has quantifiers
pub record IsMatrixInstance (s : Sequent) (side : Side) (f : Formula) : Type 0 where
  pub formula : Formula
  pub tuple : Terms
  pub stands : set.has (side_of s side) formula ≡ true
  pub counted : count_terms tuple ≡ prefix side formula
  pub same : f ≡ matrix_instance tuple formula
