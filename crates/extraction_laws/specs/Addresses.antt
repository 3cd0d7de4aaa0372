-- Places in the trees of an expansion: a formula of the sequent, and a path of parts and instance terms.
--     Address, address_cmp, AddressSet      addresses, their order, and sets of them
--     same_address, is_listed      whether two are equal, and whether one is in a list
--     part_formula, part_side      the parts of a formula, and the sides on which they stand
--     formula_at, side_at      the formula at an address, and its side
use Rattle.std.specs.Prelude.{ℕ, zero, suc, Bool, List, [], ◌∷◌}
use Rattle.std.specs.Cmp.{IsTotalOrder}
use Rattle.std.specs.Cmp.Lexicographic.{slice_cmp}
use Rattle.std.specs.List.{list_any}
use Rattle.std.specs.Ordering.{nat_cmp, then_cmp, eq_by_cmp}
use Rattle.std.specs.declared.cmp.Ordering.{Ordering}
use Rattle.std.proofs.lemmas.Cmp.{nat_cmp_total, lists_total, on_total, then_total}
use Rattle.fol.specs.Syntax.{Term, Formula, not, and, or, imp, all, ex}
use Rattle.fol.specs.Order.{term_cmp, formula_cmp}
use Rattle.fol.specs.OrderLaws.{term_total, formula_total}
use Rattle.finite.specs.Finite as set
use Rattle.substitution.specs.Instance.{inst}
use Rattle.lk_rules.specs.declared.sequent.Side.{Side}
use Rattle.lk_rules.specs.declared.sequent.Side.TheVariants.{Left, Right}
use Rattle.expansion_laws.specs.Expansions.{turn}

-- The address of a formula of the sequent, of a part of the formula at an address, counted from 0, or of its instance by a term. At a
-- strong quantifier the term is the variable.
pub data Address : Type 0 where
  root : Side → Formula → Address
  part : Address → ℕ → Address
  via : Address → Term → Address

-- a step of a path: which it is, and the formula or the term that it has
pub record Step : Type 0 where
  pub kind : ℕ
  pub formulas : List Formula
  pub terms : List Term

abbrev pub first_step : Side → Formula → Step
first_step Left f = record { kind = 0; formulas = f ∷ []; terms = [] }
first_step Right f = record { kind = 1; formulas = f ∷ []; terms = [] }

-- the steps to an address, the last one first
abbrev pub steps_to : Address → List Step
steps_to (root s f) = first_step s f ∷ []
steps_to (via a t) = record { kind = 2; formulas = []; terms = t ∷ [] } ∷ steps_to a
steps_to (part a i) = record { kind = suc (suc (suc i)); formulas = []; terms = [] } ∷ steps_to a

-- the order of addresses, by their steps
abbrev pub step_cmp : Step → Step → Ordering
step_cmp =
    then_cmp (λ x y. nat_cmp x.kind y.kind) (
    then_cmp (λ x y. slice_cmp formula_cmp x.formulas y.formulas) (λ x y. slice_cmp term_cmp x.terms y.terms))

abbrev pub address_cmp : Address → Address → Ordering
address_cmp a b = slice_cmp step_cmp (steps_to a) (steps_to b)

step_total : IsTotalOrder step_cmp
step_total =
    then_total (on_total (λ x. x.kind) nat_cmp_total) (
    then_total (on_total (λ x. x.formulas) (lists_total formula_total)) (on_total (λ x. x.terms) (lists_total term_total)))

pub address_total : IsTotalOrder address_cmp
address_total = on_total steps_to (lists_total step_total)

-- finite sets of addresses
abbrev pub AddressSet : Type 0
AddressSet = set.Finite address_cmp

-- whether two addresses are equal
abbrev pub same_address : Address → Address → Bool
same_address = eq_by_cmp address_cmp

-- whether an address is in a list
abbrev pub is_listed : Address → List Address → Bool
is_listed a = list_any (same_address a)

abbrev pub first_or_second : {A : Type 0} → ℕ → A → A → A
first_or_second zero x y = x
first_or_second (suc i) x y = y

-- a part of a formula with a connective at its head; other formulas have none
abbrev pub part_formula : Formula → ℕ → Formula
part_formula (not f) i = f
part_formula (and f g) i = first_or_second i f g
part_formula (or f g) i = first_or_second i f g
part_formula (imp f g) i = first_or_second i f g
part_formula f i = f

-- the side on which the part of a formula on a side stands
abbrev pub part_side : Formula → ℕ → Side → Side
part_side (not f) i s = turn s
part_side (imp f g) i s = first_or_second i (turn s) s
part_side f i s = s

-- the body of a quantified formula
abbrev pub body_of : Formula → Formula
body_of (all f) = f
body_of (ex f) = f
body_of f = f

-- the formula at an address
abbrev pub formula_at : Address → Formula
formula_at (root s f) = f
formula_at (part a i) = part_formula (formula_at a) i
formula_at (via a t) = inst (body_of (formula_at a)) t

-- the side on which it stands
abbrev pub side_at : Address → Side
side_at (root s f) = s
side_at (part a i) = part_side (formula_at a) i (side_at a)
side_at (via a t) = side_at a
