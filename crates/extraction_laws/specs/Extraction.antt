-- Expansion proofs from proofs without cuts in which no rule unfolds an atom, after Miller (1987). The proof is gone through from its
-- conclusion, the left premise first. Each formula of a conclusion on the way has an address, and what the rules use is marked there; the
-- trees are read off in the end. So what two premises use at one address is merged.
--     vars_tree, vars_in      the variables of a proof
--     paired      an axiom
--     met, inner_map, inner_context      a rule, and the map and the addresses for its premises
--     walked      a proof
--     extracted      the expansion of a proof
use Rattle.std.specs.Prelude.{ℕ, suc, if◌then◌else◌, List, [], ◌∷◌, ◌++◌, map}
use Rattle.std.specs.FinMap as fin
use Rattle.std.specs.Ordering.{eq_by_cmp}
use Rattle.fol.specs.declared.symbols.Var.{Var}
use Rattle.fol.specs.Syntax.{Term, free, Formula, atom, top, bot, not, and, or, imp, all, ex}
use Rattle.fol.specs.Order.{formula_cmp}
use Rattle.finite.specs.Finite as set
use Rattle.free_variables.specs.Sets.{VarSet}
use Rattle.free_variables.specs.Occurrence.{var_list_term}
use Rattle.substitution.specs.Image.{image_term}
use Rattle.substitution.specs.Maps.{Map}
use Rattle.lk_rules.specs.declared.sequent.Sequent.{Sequent}
use Rattle.lk_rules.specs.declared.sequent.Side.{Side}
use Rattle.lk_rules.specs.declared.sequent.Side.TheVariants.{Left, Right}
use Rattle.lk_rules.specs.declared.rule.Rule.{Rule}
use Rattle.lk_rules.specs.declared.rule.Rule.TheVariants.{Ax, AndL, AndR, OrL, OrR, ImpL, ImpR, AllL, AllR, ExL, ExR, DefL, DefR, Cut, Weak}
use Rattle.lk_rules.specs.Sequents.{side_of, vars_sequent}
use Rattle.lk_rules.specs.Rules.{main}
use Rattle.proof_trees.specs.Trees.{Tree, node, Trees, none, more, concl}
use Rattle.expansion_laws.specs.Dependency.{Expansion}
use Rattle.extraction_laws.specs.Addresses.{Address, root, part, via, formula_at}
use Rattle.extraction_laws.specs.States.{State, unmarked, opened, instantiated, named, variable_at, tree_at}

-- the term or the eigenvariable of a rule has these variables
abbrev pub vars_chosen : Rule → List Var
vars_chosen (AllL f t) = var_list_term t
vars_chosen (ExR f t) = var_list_term t
vars_chosen (AllR f y) = y ∷ []
vars_chosen (ExL f y) = y ∷ []
vars_chosen r = []

-- the variables of a proof's conclusions, terms and eigenvariables, some of them repeated
abbrev mutual
  pub var_list_tree : Tree → List Var
  var_list_tree (node r s ts) = set.listing (vars_sequent s) ++ (vars_chosen r ++ var_list_trees ts)

  pub var_list_trees : Trees → List Var
  var_list_trees none = []
  var_list_trees (more t ts) = var_list_tree t ++ var_list_trees ts

-- as a set, and in rising order

abbrev pub vars_tree : Tree → VarSet
vars_tree t = set.of_list (var_list_tree t)

abbrev pub vars_in : Tree → List Var
vars_in t = set.listing (vars_tree t)

-- An axiom's formula, which has the first address on the left and the second on the right, is expanded down to atoms. At a quantifier
-- the strong side gets its variable, and the weak side the instance by that. It goes by the shape of the formula.
abbrev pub paired_by : List Var → Formula → Address → Address → State → State
paired_by vs (atom s ts) l r st = opened r (opened l st)
paired_by vs top l r st = opened r (opened l st)
paired_by vs bot l r st = opened r (opened l st)
paired_by vs (not f) l r st = paired_by vs f (part r 0) (part l 0) (opened r (opened l st))
paired_by vs (and f g) l r st = paired_by vs g (part l 1) (part r 1) (paired_by vs f (part l 0) (part r 0) (opened r (opened l st)))
paired_by vs (or f g) l r st = paired_by vs g (part l 1) (part r 1) (paired_by vs f (part l 0) (part r 0) (opened r (opened l st)))
paired_by vs (imp f g) l r st = paired_by vs g (part l 1) (part r 1) (paired_by vs f (part r 0) (part l 0) (opened r (opened l st)))
paired_by vs (all f) l r st =
    let t : Term = free (variable_at vs st r) in
    paired_by vs f (via l t) (via r t) (instantiated l t (named r (opened r (opened l st))))
paired_by vs (ex f) l r st =
    let t : Term = free (variable_at vs st l) in
    paired_by vs f (via l t) (via r t) (instantiated r t (named l (opened r (opened l st))))

abbrev pub paired : List Var → Address → Address → State → State
paired vs l r st = paired_by vs (formula_at l) l r st

-- an address for each formula of a side. Those of a conclusion's formulas count
abbrev pub Context : Type 0
Context = Side → Formula → Address

-- the address of a rule's main formula, which is on the left or on the right; cut and weakening have none
abbrev pub address_of_main : Context → List Formula → List Formula → Address
address_of_main c (f ∷ fs) gs = c Left f
address_of_main c [] (g ∷ gs) = c Right g
address_of_main c [] [] = root Left top

abbrev pub main_address : Rule → Context → Address
main_address r c = address_of_main c (main r Left) (main r Right)

-- the marks of a rule. A cut leaves none, nor does a rule that unfolds an atom
abbrev pub met : List Var → Rule → Map → Context → State → State
met vs (Ax f) m c st = paired vs (c Left f) (c Right f) st
met vs (AllL f t) m c st = instantiated (c Left f) (image_term (fin.get m) t) (opened (c Left f) st)
met vs (AllR f y) m c st = named (c Right f) (opened (c Right f) st)
met vs (ExL f y) m c st = named (c Left f) (opened (c Left f) st)
met vs (ExR f t) m c st = instantiated (c Right f) (image_term (fin.get m) t) (opened (c Right f) st)
met vs (DefL f) m c st = st
met vs (DefR f) m c st = st
met vs (Cut f) m c st = st
met vs Weak m c st = st
met vs r m c st = opened (main_address r c) st

-- the number of the part that an auxiliary formula is. Of two equal ones of a premise the first counts
abbrev pub part_number : Rule → ℕ → Side → Formula → ℕ
part_number (AndL (and f g)) i side h = if eq_by_cmp formula_cmp h f then 0 else 1
part_number (AndR f) i side h = i
part_number (OrL f) i side h = i
part_number (OrR (or f g)) i side h = if eq_by_cmp formula_cmp h f then 0 else 1
part_number (ImpL f) i side h = i
part_number (ImpR f) i Right h = 1
part_number r i side h = 0

-- the address of an auxiliary formula of a premise, where the main formula has the address a and v is the variable there
abbrev pub auxiliary_address : Rule → Map → Var → Address → ℕ → Side → Formula → Address
auxiliary_address (AllL f t) m v a i side h = via a (image_term (fin.get m) t)
auxiliary_address (AllR f y) m v a i side h = via a (free v)
auxiliary_address (ExL f y) m v a i side h = via a (free v)
auxiliary_address (ExR f t) m v a i side h = via a (image_term (fin.get m) t)
auxiliary_address r m v a i side h = part a (part_number r i side h)

-- the addresses of a premise's formulas: that in the conclusion s, where the formula stands there, and else that of an auxiliary formula
abbrev pub inner_context : Rule → Sequent → Map → Context → Var → ℕ → Context
inner_context r s m c v i side h = if set.has (side_of s side) h then c side h else auxiliary_address r m v (main_address r c) i side h

-- the map for the premises: the eigenvariable is sent to the variable of the main formula's address
abbrev pub inner_map : Rule → Map → Var → Map
inner_map (AllR f y) m v = fin.insert m y (free v)
inner_map (ExL f y) m v = fin.insert m y (free v)
inner_map r m v = m

-- that variable, after the rule
abbrev pub inner_variable : List Var → Rule → Map → Context → State → Var
inner_variable vs r m c st = variable_at vs (met vs r m c st) (main_address r c)

-- The marks after a proof, from those before it. The map sends eigenvariables to the variables of addresses.
abbrev mutual
  pub walked : List Var → Tree → Map → Context → State → State
  walked vs (node r s ts) m c st =
      let v : Var = inner_variable vs r m c st in
      walked_each vs ts (inner_map r m v) (inner_context r s m c v) 0 (met vs r m c st)

  -- after the premises from the i-th on
  pub walked_each : List Var → Trees → Map → (ℕ → Context) → ℕ → State → State
  walked_each vs none m cs i st = st
  walked_each vs (more t ts) m cs i st = walked_each vs ts m cs (suc i) (walked vs t m (cs i) st)

-- the marks of a whole proof: each formula of its conclusion has an address of its own
abbrev pub marks_of : Tree → State
marks_of t = walked (vars_in t) t fin.empty root unmarked

-- the expansion of a proof without cuts and unfoldings
abbrev pub extracted : Tree → Expansion
extracted t = record {
  left = map (λ f. tree_at (vars_in t) (marks_of t) (root Left f)) (set.listing (concl t).left);
  right = map (λ f. tree_at (vars_in t) (marks_of t) (root Right f)) (set.listing (concl t).right);
}
