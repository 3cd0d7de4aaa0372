-- Worked examples: an axiom with a quantifier, an auxiliary formula that stands in the conclusion, two equal auxiliary formulas, and two
-- eigenvariables for one address.
use Rattle.std.proofs.Common.{◌≡◌, ℕ, Bool, true, false, ◌||◌, if◌then◌else◌, List, [], ◌∷◌, ◌++◌, map, refl, sym, ap, ◌∙◌}
use Rattle.std.specs.FinMap as fin
use Rattle.std.specs.Cmp.{IsTotalOrder}
use Rattle.std.specs.List.{list_any}
use Rattle.std.specs.declared.cmp.Ordering.{Ordering}
use Rattle.fol.specs.declared.symbols.Sym.{Sym}
use Rattle.fol.specs.declared.symbols.Var.{Var}
use Rattle.fol.specs.declared.symbols.Var.TheVariants.{Word, Num}
use Rattle.fol.specs.Syntax.{Term, free, bound, nil, cons, plain, Formula, atom, and, all}
use Rattle.fol.specs.Order.{var_cmp, term_cmp, formula_cmp}
use Rattle.fol.specs.OrderLaws.{term_total, formula_total}
use Rattle.finite.specs.Finite as set
use Rattle.finite.proofs.Finite.{has-empty, has-adds, has-adds_each, of_rising-empty}
use Rattle.free_variables.specs.Fresh.{least_outside}
use Rattle.lk_rules.specs.declared.sequent.Sequent.{Sequent}
use Rattle.lk_rules.specs.declared.sequent.Side.{Side}
use Rattle.lk_rules.specs.declared.sequent.Side.TheVariants.{Left, Right}
use Rattle.lk_rules.specs.declared.rule.Rule.TheVariants.{Ax, AndL, AllR}
use Rattle.lk_rules.specs.Formulas.{var_lists}
use Rattle.proof_trees.specs.Trees.{Tree, node, none, more}
use Rattle.expansion_laws.specs.Expansions.{Exp, wk, leaf, conj, weak, strong, Insts}
use Rattle.expansion_laws.specs.Expansions as expansions
use Rattle.extraction_laws.specs.Addresses.{Address, root, part, via, address_cmp, address_total, same_address}
use Rattle.extraction_laws.specs.States.{State, unmarked, opened, named, variable_at, terms_of, terms_at, instances_by, tree_at}
use Rattle.extraction_laws.specs.Extraction.{vars_in, paired, walked, marks_of, extracted}
use Rattle.extraction_laws.proofs.Read.{tree-unused, read-flat, read-and, read-all_left, read-all_right}

-- sets with few members

entries_none : {K : Type 0} (R : K → K → Ordering) → fin.entries {R = R} (set.empty {R = R}) ≡ []
entries_none R = ap fin.entries (sym (of_rising-empty R)) ∙ fin.entries-from_sorted R [] tt

listing_none : {K : Type 0} (R : K → K → Ordering) → set.listing {R = R} set.empty ≡ []
listing_none R = ap (map (λ e. e.0)) (entries_none R)

module _ {K : Type 0} {R : K → K → Ordering} (o : IsTotalOrder R) where
  entries_one : (k : K) → fin.entries {R = R} (set.adds set.empty k) ≡ fin.put R k tt []
  entries_one k = fin.entries-insert o set.empty k tt ∙ ap (fin.put R k tt) (entries_none R)

  listing_one : (k : K) → set.listing {R = R} (set.adds set.empty k) ≡ k ∷ []
  listing_one k = ap (map (λ e. e.0)) (entries_one k)

  listing_two : (k j : K) → set.listing {R = R} (set.adds (set.adds set.empty k) j) ≡ map (λ (e : K × Unit {0}). e.0) (fin.put R j tt (fin.put R k tt []))
  listing_two k j = ap (map (λ e. e.0)) (fin.entries-insert o (set.adds set.empty k) j tt ∙ ap (fin.put R j tt) (entries_one k))

-- the marks of the addresses of a list are told by a look at the list
marks_tell : (xs : List Address) (a : Address) → set.has (set.adds_each (set.empty {R = address_cmp}) xs) a ≡ list_any (same_address a) xs
marks_tell xs a = has-adds_each address_total set.empty xs a ∙ ap (λ b. b || list_any (same_address a) xs) (has-empty address_cmp a)

-- the axiom `![X]: p(X) / ![X]: p(X)`: the right side has the variable V0, and the left side the instance by that

abbrev predicate : Sym
predicate = record { name = 112 ∷ []; arity = 1 }

abbrev every : Formula
every = all (atom (plain predicate) (cons (bound 0) nil))

abbrev v0 : Term
v0 = free (Num 0)

abbrev instance : Formula
instance = atom (plain predicate) (cons v0 nil)

abbrev only_every : set.Finite formula_cmp
only_every = set.adds set.empty every

abbrev initial : Tree
initial = node (Ax every) (record { left = only_every; right = only_every }) none

closed_sequent : vars_in initial ≡ []
closed_sequent =
    let of_list : List Var → List Var = λ vs. set.listing (set.adds_each (set.empty {R = var_cmp}) vs) in
    ap (λ fs. of_list (of_list (var_lists fs ++ var_lists fs) ++ [])) (listing_one formula_total every)
    ∙ (ap (λ vs. of_list (vs ++ [])) (listing_none var_cmp)
    ∙ listing_none var_cmp)

abbrev on_left : Address
on_left = root Left every

abbrev on_right : Address
on_right = root Right every

abbrev all_opened : List Address
all_opened = on_left ∷ on_right ∷ via on_left v0 ∷ via on_right v0 ∷ []

abbrev marks : State
marks = record { opened = set.of_list all_opened; instances = set.adds set.empty (via on_left v0); names = on_right ∷ [] }

marks_are : walked [] initial fin.empty root unmarked ≡ marks
unfolding least_outside
marks_are = refl

terms_are : terms_at marks on_left ≡ v0 ∷ []
terms_are = ap (λ xs. set.listing (set.adds_each (set.empty {R = term_cmp}) (terms_of on_left xs))) (listing_one address_total (via on_left v0)) ∙ listing_one term_total v0

left_is : tree_at [] marks on_left ≡ weak every (expansions.more v0 (leaf instance) expansions.none)
left_is =
    read-all_left [] marks on_left (atom (plain predicate) (cons (bound 0) nil)) (marks_tell all_opened on_left) refl refl
    ∙ (ap (λ ts. weak every (instances_by (λ t. tree_at [] marks (via on_left t)) ts)) terms_are
    ∙ ap (λ e. weak every (expansions.more v0 e expansions.none)) (read-flat [] marks (via on_left v0) (marks_tell all_opened (via on_left v0)) refl))

variable_is : variable_at [] marks on_right ≡ Num 0
unfolding least_outside
variable_is = refl

right_is : tree_at [] marks on_right ≡ strong every (Num 0) (leaf instance)
right_is =
    read-all_right [] marks on_right (atom (plain predicate) (cons (bound 0) nil)) (marks_tell all_opened on_right) refl refl
    ∙ (ap (λ v. strong every v (tree_at [] marks (via on_right (free v)))) variable_is
    ∙ ap (strong every (Num 0)) (read-flat [] marks (via on_right v0) (marks_tell all_opened (via on_right v0)) refl))

pub quantified : extracted initial ≡ record { left = weak every (expansions.more v0 (leaf instance) expansions.none) ∷ []; right = strong every (Num 0) (leaf instance) ∷ [] }
quantified =
    (λ i. record {
      left = map (λ f. tree_at (closed_sequent i) (walked (closed_sequent i) initial fin.empty root unmarked) (root Left f)) (listing_one formula_total every i);
      right = map (λ f. tree_at (closed_sequent i) (walked (closed_sequent i) initial fin.empty root unmarked) (root Right f)) (listing_one formula_total every i);
    })
    ∙ ((λ i. record { left = tree_at [] (marks_are i) on_left ∷ []; right = tree_at [] (marks_are i) on_right ∷ [] })
    ∙ λ i. record { left = left_is i ∷ []; right = right_is i ∷ [] })

abbrev p : Formula
p = atom (plain (record { name = 112 ∷ []; arity = 0 })) nil

abbrev q : Formula
q = atom (plain (record { name = 113 ∷ []; arity = 0 })) nil

-- `p, p & q / p` over an axiom: the auxiliary formula p stands in the conclusion, so the part of `p & q` isn't used
module _ (e : Sequent) where
  abbrev two_lefts : set.Finite formula_cmp
  two_lefts = set.adds (set.adds set.empty p) (and p q)

  abbrev only_p : set.Finite formula_cmp
  only_p = set.adds set.empty p

  abbrev kept : Tree
  kept = node (AndL (and p q)) (record { left = two_lefts; right = only_p }) (more (node (Ax p) e none) none)

  kept_left : set.has two_lefts p ≡ true
  kept_left = has-adds formula_total (set.adds set.empty p) (and p q) p ∙ has-adds formula_total set.empty p p

  kept_right : set.has only_p p ≡ true
  kept_right = has-adds formula_total set.empty p p

  abbrev both : Address
  both = root Left (and p q)

  abbrev kept_opened : List Address
  kept_opened = both ∷ root Left p ∷ root Right p ∷ []

  abbrev kept_marks : State
  kept_marks = record { opened = set.of_list kept_opened; instances = set.empty; names = [] }

  kept_marks_are : marks_of kept ≡ kept_marks
  kept_marks_are = λ i. paired (vars_in kept) (if kept_left i then root Left p else part both 0) (if kept_right i then root Right p else part both 0) (opened both unmarked)

  unused_parts : (vs : List Var) → tree_at vs kept_marks both ≡ conj (wk p) (wk q)
  unused_parts vs =
      read-and vs kept_marks both p q (marks_tell kept_opened both) refl
      ∙ λ i. conj (tree-unused vs kept_marks (part both 0) (marks_tell kept_opened (part both 0)) i) (tree-unused vs kept_marks (part both 1) (marks_tell kept_opened (part both 1)) i)

  pub in_conclusion : extracted kept ≡ record { left = leaf p ∷ conj (wk p) (wk q) ∷ []; right = leaf p ∷ [] }
  in_conclusion =
      (λ i. record {
        left = map (λ f. tree_at (vars_in kept) (kept_marks_are i) (root Left f)) (listing_two formula_total p (and p q) i);
        right = map (λ f. tree_at (vars_in kept) (kept_marks_are i) (root Right f)) (listing_one formula_total p i);
      })
      ∙ λ i. record {
        left = read-flat (vars_in kept) kept_marks (root Left p) (marks_tell kept_opened (root Left p)) refl i ∷ unused_parts (vars_in kept) i ∷ [];
        right = read-flat (vars_in kept) kept_marks (root Right p) (marks_tell kept_opened (root Right p)) refl i ∷ [];
      }

  -- `p & p / p` over an axiom: the first of the two equal parts is used

  abbrev only_pp : set.Finite formula_cmp
  only_pp = set.adds set.empty (and p p)

  abbrev doubled : Tree
  doubled = node (AndL (and p p)) (record { left = only_pp; right = only_p }) (more (node (Ax p) e none) none)

  doubled_left : set.has only_pp p ≡ false
  doubled_left = has-adds formula_total set.empty (and p p) p ∙ has-empty formula_cmp p

  abbrev twice_p : Address
  twice_p = root Left (and p p)

  abbrev doubled_opened : List Address
  doubled_opened = twice_p ∷ part twice_p 0 ∷ root Right p ∷ []

  abbrev doubled_marks : State
  doubled_marks = record { opened = set.of_list doubled_opened; instances = set.empty; names = [] }

  doubled_marks_are : marks_of doubled ≡ doubled_marks
  doubled_marks_are = λ i. paired (vars_in doubled) (if doubled_left i then root Left p else part twice_p 0) (if kept_right i then root Right p else part twice_p 0) (opened twice_p unmarked)

  first_used : (vs : List Var) → tree_at vs doubled_marks twice_p ≡ conj (leaf p) (wk p)
  first_used vs =
      read-and vs doubled_marks twice_p p p (marks_tell doubled_opened twice_p) refl
      ∙ λ i. conj (read-flat vs doubled_marks (part twice_p 0) (marks_tell doubled_opened (part twice_p 0)) refl i) (tree-unused vs doubled_marks (part twice_p 1) (marks_tell doubled_opened (part twice_p 1)) i)

  pub equal_parts : extracted doubled ≡ record { left = conj (leaf p) (wk p) ∷ []; right = leaf p ∷ [] }
  equal_parts =
      (λ i. record {
        left = map (λ f. tree_at (vars_in doubled) (doubled_marks_are i) (root Left f)) (listing_one formula_total (and p p) i);
        right = map (λ f. tree_at (vars_in doubled) (doubled_marks_are i) (root Right f)) (listing_one formula_total p i);
      })
      ∙ λ i. record {
        left = first_used (vars_in doubled) i ∷ [];
        right = read-flat (vars_in doubled) doubled_marks (root Right p) (marks_tell doubled_opened (root Right p)) refl i ∷ [];
      }

-- `q / q, ![X]: p(X)` by X over `q / q, ![X]: p(X), p(X)` by Y over an axiom: both inferences have one address, which has one variable

abbrev by_variable : List ℕ → Sequent → Tree → Tree
by_variable name s t = node (AllR every (Word name)) s (more t none)

module _ (vs : List Var) (s e r : Sequent) (main : set.has s.right every ≡ true) (left : set.has s.left q ≡ true) (right : set.has s.right q ≡ true)
    (left_above : set.has e.left q ≡ true) (right_above : set.has e.right q ≡ true) where
  abbrev twice : Tree
  twice = by_variable (88 ∷ []) s (by_variable (89 ∷ []) e (node (Ax q) r none))

  -- the marks of the lower inference, and the address of its auxiliary formula

  abbrev once : State
  once = named on_right (opened on_right unmarked)

  abbrev auxiliary : Address
  auxiliary = via on_right (free (variable_at vs once on_right))

  -- by whether the formulas are in the conclusions

  abbrev upper_main : Bool → Address
  upper_main b = if b then on_right else auxiliary

  abbrev after : Bool → State
  after b = named (upper_main b) (opened (upper_main b) once)

  abbrev address_of : Side → Bool → Bool → Bool → Address
  address_of side b lower upper = if upper then (if lower then root side q else auxiliary) else via (upper_main b) (free (variable_at vs (after b) (upper_main b)))

  pub one_variable : walked vs twice fin.empty root unmarked ≡ record { opened = set.of_list (on_right ∷ on_right ∷ root Left q ∷ root Right q ∷ []); instances = set.empty; names = on_right ∷ [] }
  one_variable = λ i. paired vs (address_of Left (main i) (left i) (left_above i)) (address_of Right (main i) (right i) (right_above i)) (after (main i))
