-- Worked examples: the parts of `p & q` on the left and of `q & p` on the right, where one rule has two premises; a formula that is never
-- used; and `?[X]: (p(X) => ![Y]: p(Y))` with instances by E1 and by c0, where E1 is the variable of the strong quantifier in the second
-- instance, so that the first has to wait.
use Rattle.std.proofs.Common.{◌≡◌, [], ◌∷◌, List, map, Some, sym, ap, ◌∙◌}
use Rattle.std.specs.Prelude.{find, option_map}
use Rattle.std.specs.FinMap as fin
use Rattle.fol.specs.declared.symbols.Sym.{Sym}
use Rattle.fol.specs.declared.symbols.Var.{Var}
use Rattle.fol.specs.declared.symbols.Var.TheVariants.{Word}
use Rattle.fol.specs.Syntax.{Term, free, bound, app, nil, cons, plain, Formula, atom, top, bot, and, imp, all, ex}
use Rattle.fol.specs.Order.{formula_cmp}
use Rattle.fol.specs.OrderLaws.{formula_total}
use Rattle.finite.specs.Finite as set
use Rattle.finite.proofs.Finite.{of_rising-empty}
use Rattle.lk_rules.specs.declared.sequent.Side.TheVariants.{Left, Right}
use Rattle.lk_rules.specs.declared.rule.Rule.TheVariants.{Ax, TopR, AndL, AndR, ImpR, AllR, ExR}
use Rattle.proof_trees.specs.Trees.{Tree, node, none as no_trees, more as tree_more}
use Rattle.search_laws.proofs.Listed.{among}
use Rattle.expansion_laws.specs.Expansions.{Exp, wk, leaf, conj, impl, weak, strong, Insts, none, more}
use Rattle.expansion_laws.specs.Dependency.{Expansion}
use Rattle.building_laws.specs.Lists.{Placed, on, trees_on, start, conclusion, leaf_formulas, leaf_sequent, strongs_in_list}
use Rattle.building_laws.specs.Building.{or_else, axiom_or, closing, parts, instance_at, first_step, step_at, build, size_of, visits}
use Rattle.building_laws.proofs.Cases.{leaf_built, one_built, two_built}
use Rattle.building_laws.proofs.Conclusions.{none_listed}
use Rattle.building_laws.proofs.Leaves.{has-leaves}

-- sets with few members

entries_none : fin.entries {R = formula_cmp} (set.empty {R = formula_cmp}) ≡ []
entries_none = ap fin.entries (sym (of_rising-empty formula_cmp)) ∙ fin.entries-from_sorted formula_cmp [] tt

entries_one : (f : Formula) → fin.entries {R = formula_cmp} (set.adds set.empty f) ≡ fin.put formula_cmp f tt []
entries_one f = fin.entries-insert formula_total set.empty f tt ∙ ap (fin.put formula_cmp f tt) entries_none

listed_one : (f : Formula) → set.listing {R = formula_cmp} (set.adds set.empty f) ≡ f ∷ []
listed_one f = ap (map (λ e. e.0)) (entries_one f)

listed_two : (f g : Formula) → set.listing {R = formula_cmp} (set.adds (set.adds set.empty f) g) ≡ map (λ (e : Formula × Unit {0}). e.0) (fin.put formula_cmp g tt (fin.put formula_cmp f tt []))
listed_two f g = ap (map (λ e. e.0)) (fin.entries-insert formula_total (set.adds set.empty f) g tt ∙ ap (fin.put formula_cmp g tt) (entries_one f))

-- the step at a list, by the formulas of the leaves on the left in rising order
step_is : (l : List Placed) (fs : List Formula) → set.listing (leaf_sequent l).left ≡ fs
    → step_at l
    ≡ or_else (option_map closing (axiom_or (find (among (leaf_formulas (trees_on Right l))) fs) (among (leaf_formulas (trees_on Right l)) top) (among (leaf_formulas (trees_on Left l)) bot)))
    (or_else (first_step parts l) (first_step (instance_at (strongs_in_list l)) l))
unfolding step_at
step_is l fs e = λ i.
    or_else (option_map closing (axiom_or (find (λ f. has-leaves l Right f i) (e i)) (has-leaves l Right top i) (has-leaves l Left bot i)))
    (or_else (first_step parts l) (first_step (instance_at (strongs_in_list l)) l))

-- the parts of conjunctions
abbrev p : Formula
p = atom (plain (record { name = 112 ∷ []; arity = 0 })) nil

abbrev q : Formula
q = atom (plain (record { name = 113 ∷ []; arity = 0 })) nil

abbrev swapped : Expansion
swapped = record { left = conj (leaf p) (leaf q) ∷ []; right = conj (leaf q) (leaf p) ∷ [] }

abbrev apart : List Placed
apart = on Left (leaf p) ∷ on Left (leaf q) ∷ on Right (conj (leaf q) (leaf p)) ∷ []

abbrev with_q : List Placed
with_q = on Left (leaf p) ∷ on Left (leaf q) ∷ on Right (leaf q) ∷ []

abbrev with_p : List Placed
with_p = on Left (leaf p) ∷ on Left (leaf q) ∷ on Right (leaf p) ∷ []

abbrev axiom_on : Formula → List Placed → Tree
axiom_on f l = node (Ax f) (conclusion l) no_trees

abbrev over_both : Tree
over_both = node (AndR (and q p)) (conclusion apart) (tree_more (axiom_on q with_q) (tree_more (axiom_on p with_p) no_trees))

both_built : build apart ≡ Some over_both
both_built =
    (two_built apart with_q with_p (AndR (and q p)) (axiom_on q with_q) (axiom_on p with_p) (step_is apart (p ∷ q ∷ []) (listed_two p q))
    (leaf_built with_q (Ax q) (step_is with_q (p ∷ q ∷ []) (listed_two p q))).0
    (leaf_built with_p (Ax p) (step_is with_p (p ∷ q ∷ []) (listed_two p q))).0).0

pub swapped_built : build (start swapped) ≡ Some (node (AndL (and p q)) (conclusion (start swapped)) (tree_more over_both no_trees))
swapped_built = (one_built (start swapped) apart (AndL (and p q)) over_both (step_is (start swapped) [] none_listed) both_built).0

-- a formula that is never used is no leaf, so that it stands on both sides closes nothing; truth on the right does
abbrev unused : List Placed
unused = on Left (wk p) ∷ on Right (wk p) ∷ on Right (leaf top) ∷ []

pub unused_built : build unused ≡ Some (node TopR (conclusion unused) no_trees)
unused_built = (leaf_built unused TopR (step_is unused [] none_listed)).0

-- an instance that has to wait
abbrev predicate : Sym
predicate = record { name = 112 ∷ []; arity = 1 }

abbrev of : Term → Formula
of t = atom (plain predicate) (cons t nil)

abbrev variable : Var
variable = Word (69 ∷ 49 ∷ [])

abbrev constant : Term
constant = app (record { name = 99 ∷ 48 ∷ []; arity = 0 }) nil

abbrev every : Formula
every = all (of (bound 0))

abbrev goal : Formula
goal = ex (imp (of (bound 0)) every)

abbrev by_variable : Exp
by_variable = impl (leaf (of (free variable))) (wk every)

abbrev by_constant : Exp
by_constant = impl (leaf (of constant)) (strong every variable (leaf (of (free variable))))

abbrev waiting : Insts
waiting = more (free variable) by_variable none

abbrev drinker : Expansion
drinker = record { left = []; right = weak goal (more (free variable) by_variable (more constant by_constant none)) ∷ [] }

-- the lists, from the conclusion upwards

abbrev first : List Placed
first = on Right (weak goal waiting) ∷ on Right by_constant ∷ []

abbrev second : List Placed
second = on Right (weak goal waiting) ∷ on Left (leaf (of constant)) ∷ on Right (strong every variable (leaf (of (free variable)))) ∷ []

abbrev third : List Placed
third = on Right (weak goal waiting) ∷ on Left (leaf (of constant)) ∷ on Right (leaf (of (free variable))) ∷ []

abbrev fourth : List Placed
fourth = on Right (weak goal none) ∷ on Right by_variable ∷ on Left (leaf (of constant)) ∷ on Right (leaf (of (free variable))) ∷ []

abbrev last : List Placed
last = on Right (weak goal none) ∷ on Left (leaf (of (free variable))) ∷ on Right (wk every) ∷ on Left (leaf (of constant)) ∷ on Right (leaf (of (free variable))) ∷ []

-- the proofs

abbrev last_proof : Tree
last_proof = node (Ax (of (free variable))) (conclusion last) no_trees

abbrev fourth_proof : Tree
fourth_proof = node (ImpR (imp (of (free variable)) every)) (conclusion fourth) (tree_more last_proof no_trees)

abbrev third_proof : Tree
third_proof = node (ExR goal (free variable)) (conclusion third) (tree_more fourth_proof no_trees)

abbrev second_proof : Tree
second_proof = node (AllR every variable) (conclusion second) (tree_more third_proof no_trees)

abbrev first_proof : Tree
first_proof = node (ImpR (imp (of constant) every)) (conclusion first) (tree_more second_proof no_trees)

last_built : build last ≡ Some last_proof
last_built = (leaf_built last (Ax (of (free variable))) (step_is last (of (free variable) ∷ of constant ∷ []) (listed_two (of (free variable)) (of constant)))).0

fourth_built : build fourth ≡ Some fourth_proof
fourth_built = (one_built fourth last (ImpR (imp (of (free variable)) every)) last_proof (step_is fourth (of constant ∷ []) (listed_one (of constant))) last_built).0

third_built : build third ≡ Some third_proof
third_built = (one_built third fourth (ExR goal (free variable)) fourth_proof (step_is third (of constant ∷ []) (listed_one (of constant))) fourth_built).0

second_built : build second ≡ Some second_proof
second_built = (one_built second third (AllR every variable) third_proof (step_is second (of constant ∷ []) (listed_one (of constant))) third_built).0

first_built : build first ≡ Some first_proof
first_built = (one_built first second (ImpR (imp (of constant) every)) second_proof (step_is first [] none_listed) second_built).0

pub drinker_built : build (start drinker) ≡ Some (node (ExR goal constant) (conclusion (start drinker)) (tree_more first_proof no_trees))
drinker_built = (one_built (start drinker) first (ExR goal constant) first_proof (step_is (start drinker) [] none_listed) first_built).0

pub drinker_visits : visits (start drinker) ≡ 6
drinker_visits = ap size_of drinker_built
