-- What is marked while a proof is gone through, and the trees that are read off in the end.
--     nth_outside, number_of      the numbered variables outside a list, by rising number
--     State, opened, instantiated, named      marks at addresses
--     Includes      a state has the marks of another
--     variable_at, terms_at      the variable and the instance terms at an address
--     tree_at      the expansion tree at an address
use Rattle.std.specs.Prelude.{◌≡◌, ℕ, zero, suc, true, if◌then◌else◌, List, [], ◌∷◌, ◌++◌}
use Rattle.fol.specs.declared.symbols.Var.{Var}
use Rattle.fol.specs.declared.symbols.Var.TheVariants.{Word, Num}
use Rattle.fol.specs.Syntax.{Term, free, Formula, atom, top, bot, not, and, or, imp, all, ex}
use Rattle.fol.specs.Order.{term_cmp}
use Rattle.finite.specs.Finite as set
use Rattle.free_variables.specs.Fresh.{least_outside}
use Rattle.lk_rules.specs.declared.sequent.Side.{Side}
use Rattle.lk_rules.specs.declared.sequent.Side.TheVariants.{Left, Right}
use Rattle.expansion_laws.specs.Expansions.{Exp, wk, leaf, neg, conj, disj, impl, weak, strong, Insts, none, more}
use Rattle.extraction_laws.specs.Addresses.{Address, part, via, AddressSet, same_address, is_listed, formula_at, side_at}

-- the k-th numbered variable outside a list, counted from 0: the first is of least number, and the others are outside the list with that
abbrev pub nth_outside : List Var → ℕ → Var
nth_outside vs zero = least_outside vs
nth_outside vs (suc k) = nth_outside (least_outside vs ∷ vs) k

-- the number of a numbered variable
abbrev pub number_of : Var → ℕ
number_of (Num n) = n
number_of (Word x) = 0

-- the addresses at which a formula is used, those of the instances that are, and the addresses at which a strong quantifier has got its
-- variable, in this order
pub record State : Type 0 where
  pub opened : AddressSet
  pub instances : AddressSet
  pub names : List Address

-- with nothing marked
abbrev pub unmarked : State
unmarked = record { opened = set.empty; instances = set.empty; names = [] }

-- the formula at the address is used
abbrev pub opened : Address → State → State
opened a st = record st { opened = set.adds st.opened a }

-- so is its instance by the term
abbrev pub instantiated : Address → Term → State → State
instantiated a t st = record st { instances = set.adds st.instances (via a t) }

-- an address at the end of a list, if it isn't there
abbrev pub with_address : List Address → Address → List Address
with_address xs a = if is_listed a xs then xs else xs ++ (a ∷ [])

-- the address has a variable
abbrev pub named : Address → State → State
named a st = record st { names = with_address st.names a }

-- the place of an address in a list, or the length of the list
abbrev pub place_of : Address → List Address → ℕ
place_of a [] = 0
place_of a (b ∷ bs) = if same_address a b then 0 else suc (place_of a bs)

-- all marks of a state are in another, and the addresses with variables have the same places there
pub record Includes (x y : State) : Type 0 where
  pub used : set.IsSubset x.opened y.opened
  pub instances : set.IsSubset x.instances y.instances
  pub names : (a : Address) → is_listed a x.names ≡ true → is_listed a y.names ≡ true
  pub places : (a : Address) → is_listed a x.names ≡ true → place_of a y.names ≡ place_of a x.names

-- the variable of the strong quantifier at an address, from those outside a list: the first address that gets one has the first
abbrev pub variable_at : List Var → State → Address → Var
variable_at vs st a = nth_outside vs (place_of a st.names)

-- the terms by which the formula at an address is instantiated there
abbrev pub terms_of : Address → List Address → List Term
terms_of a [] = []
terms_of a (via b t ∷ bs) = if same_address a b then t ∷ terms_of a bs else terms_of a bs
terms_of a (b ∷ bs) = terms_of a bs

-- in rising order
abbrev pub terms_at : State → Address → List Term
terms_at st a = set.listing (set.adds_each (set.empty {R = term_cmp}) (terms_of a (set.listing st.instances)))

-- instances by the terms of a list, each with its tree
abbrev pub instances_by : (Term → Exp) → List Term → Insts
instances_by e [] = none
instances_by e (t ∷ ts) = more t (e t) (instances_by e ts)

-- the tree, or that of a formula that isn't used
abbrev pub if_opened : State → Address → Exp → Exp
if_opened st a e = if set.has st.opened a then e else wk (formula_at a)

-- the first on the left, the second on the right
abbrev pub by_side : {A : Type 0} → Side → A → A → A
by_side Left x y = x
by_side Right x y = y

-- a quantifier that may have several instances, and one with an instance by its variable, where the trees of the instances are given
abbrev pub weak_at : State → Address → (Term → Exp) → Exp
weak_at st a e = weak (formula_at a) (instances_by e (terms_at st a))

abbrev pub strong_at : List Var → State → Address → (Term → Exp) → Exp
strong_at vs st a e = strong (formula_at a) (variable_at vs st a) (e (free (variable_at vs st a)))

-- The tree at an address. It goes by the shape of the formula there, in which bound variables may stand for the instance terms.
abbrev pub tree_by : List Var → State → Formula → Address → Exp
tree_by vs st (atom s ts) a = if_opened st a (leaf (formula_at a))
tree_by vs st top a = if_opened st a (leaf (formula_at a))
tree_by vs st bot a = if_opened st a (leaf (formula_at a))
tree_by vs st (not f) a = if_opened st a (neg (tree_by vs st f (part a 0)))
tree_by vs st (and f g) a = if_opened st a (conj (tree_by vs st f (part a 0)) (tree_by vs st g (part a 1)))
tree_by vs st (or f g) a = if_opened st a (disj (tree_by vs st f (part a 0)) (tree_by vs st g (part a 1)))
tree_by vs st (imp f g) a = if_opened st a (impl (tree_by vs st f (part a 0)) (tree_by vs st g (part a 1)))
tree_by vs st (all f) a = if_opened st a (by_side (side_at a) (weak_at st a (λ t. tree_by vs st f (via a t))) (strong_at vs st a (λ t. tree_by vs st f (via a t))))
tree_by vs st (ex f) a = if_opened st a (by_side (side_at a) (strong_at vs st a (λ t. tree_by vs st f (via a t))) (weak_at st a (λ t. tree_by vs st f (via a t))))

abbrev pub tree_at : List Var → State → Address → Exp
tree_at vs st a = tree_by vs st (formula_at a) a
