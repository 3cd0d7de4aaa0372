-- What stands at the numbers of an arena, which contracts see as the list of its items.
--     Stands, HasTerm, HasFormula ..      a thing stands at a number
--     item_at, term_at, formula_at ..      what stands at a number, or some default
--     IsTermAt, IsFormulaAt ..      a thing of that kind stands at a number
--     Extends      what stands in an arena stands in another at the same number
--     IsDistinct      no thing stands twice
use Rattle.std.specs.Prelude.{◌≡◌, ℕ, [], List, Some, slice_get}
use Rattle.std.specs.Option.{unwrap_or}
use Rattle.fol.specs.declared.symbols.Sym.{Sym}
use Rattle.fol.specs.declared.symbols.Var.{Var}
use Rattle.fol.specs.declared.symbols.Var.TheVariants.{Num}
use Rattle.fol.specs.Syntax.{Term, free, bound, app, Terms, nil, Formula, top}
use Rattle.std.specs.FinMap as fin
use Rattle.finite.specs.Finite as set
use Rattle.free_variables.specs.Sets.{VarSet}
use Rattle.substitution.specs.Maps.{Map}
use Rattle.lk_rules.specs.declared.sequent.Sequent.{Sequent}
use Rattle.lk_rules.specs.declared.rule.Rule.TheVariants.{Weak}
use Rattle.lk_rules.specs.Formulas.{FormulaSet}
use Rattle.lk_rules.specs.Sequents.{empty}
use Rattle.proof_trees.specs.Trees.{Tree, node, none}
use Rattle.arena_cells.specs.Items.{Item, symbol, term, terms, formula, variables, substitution, side, sequent, tree}

-- t stands at the number n
abbrev pub Stands : List Item → ℕ → Item → Type 0
Stands a n t = slice_get a n ≡ Some t

abbrev pub HasSymbol : List Item → ℕ → Sym → Type 0
HasSymbol a n x = Stands a n (symbol x)

abbrev pub HasTerm : List Item → ℕ → Term → Type 0
HasTerm a n x = Stands a n (term x)

-- a variable stands where its term does
abbrev pub HasVariable : List Item → ℕ → Var → Type 0
HasVariable a n x = Stands a n (term (free x))

abbrev pub HasTerms : List Item → ℕ → Terms → Type 0
HasTerms a n x = Stands a n (terms x)

abbrev pub HasFormula : List Item → ℕ → Formula → Type 0
HasFormula a n x = Stands a n (formula x)

abbrev pub HasVariables : List Item → ℕ → VarSet → Type 0
HasVariables a n x = Stands a n (variables x)

abbrev pub HasMap : List Item → ℕ → Map → Type 0
HasMap a n x = Stands a n (substitution x)

abbrev pub HasSide : List Item → ℕ → FormulaSet → Type 0
HasSide a n x = Stands a n (side x)

abbrev pub HasSequent : List Item → ℕ → Sequent → Type 0
HasSequent a n x = Stands a n (sequent x)

abbrev pub HasTree : List Item → ℕ → Tree → Type 0
HasTree a n x = Stands a n (tree x)

-- what an item is, or some default where it is something else
abbrev pub symbol_of : Item → Sym
symbol_of (symbol x) = x
symbol_of i = record { name = []; arity = 0 }

abbrev pub term_of : Item → Term
term_of (term x) = x
term_of i = bound 0

abbrev pub variable_of : Term → Var
variable_of (free v) = v
variable_of (bound i) = Num 0
variable_of (app s ts) = Num 0

abbrev pub terms_of : Item → Terms
terms_of (terms x) = x
terms_of i = nil

abbrev pub formula_of : Item → Formula
formula_of (formula x) = x
formula_of i = top

abbrev pub variables_of : Item → VarSet
variables_of (variables x) = x
variables_of i = set.empty

abbrev pub map_of : Item → Map
map_of (substitution x) = x
map_of i = fin.empty

abbrev pub side_of : Item → FormulaSet
side_of (side x) = x
side_of i = set.empty

abbrev pub sequent_of : Item → Sequent
sequent_of (sequent x) = x
sequent_of i = empty

abbrev pub tree_of : Item → Tree
tree_of (tree x) = x
tree_of i = node Weak empty none

-- what stands at a number, or truth where nothing does
abbrev pub item_at : List Item → ℕ → Item
item_at a n = unwrap_or (slice_get a n) (formula top)

abbrev pub symbol_at : List Item → ℕ → Sym
symbol_at a n = symbol_of (item_at a n)

abbrev pub term_at : List Item → ℕ → Term
term_at a n = term_of (item_at a n)

abbrev pub variable_at : List Item → ℕ → Var
variable_at a n = variable_of (term_at a n)

abbrev pub terms_at : List Item → ℕ → Terms
terms_at a n = terms_of (item_at a n)

abbrev pub formula_at : List Item → ℕ → Formula
formula_at a n = formula_of (item_at a n)

abbrev pub variables_at : List Item → ℕ → VarSet
variables_at a n = variables_of (item_at a n)

abbrev pub map_at : List Item → ℕ → Map
map_at a n = map_of (item_at a n)

abbrev pub side_at : List Item → ℕ → FormulaSet
side_at a n = side_of (item_at a n)

abbrev pub sequent_at : List Item → ℕ → Sequent
sequent_at a n = sequent_of (item_at a n)

abbrev pub tree_at : List Item → ℕ → Tree
tree_at a n = tree_of (item_at a n)

-- something stands at the number
abbrev pub IsThere : List Item → ℕ → Type 0
IsThere a n = Stands a n (item_at a n)

-- a thing of this kind stands at the number n
abbrev pub IsSymbolAt : List Item → ℕ → Type 0
IsSymbolAt a n = HasSymbol a n (symbol_at a n)

abbrev pub IsTermAt : List Item → ℕ → Type 0
IsTermAt a n = HasTerm a n (term_at a n)

abbrev pub IsVariableAt : List Item → ℕ → Type 0
IsVariableAt a n = HasVariable a n (variable_at a n)

abbrev pub IsTermsAt : List Item → ℕ → Type 0
IsTermsAt a n = HasTerms a n (terms_at a n)

abbrev pub IsFormulaAt : List Item → ℕ → Type 0
IsFormulaAt a n = HasFormula a n (formula_at a n)

abbrev pub AreVariablesAt : List Item → ℕ → Type 0
AreVariablesAt a n = HasVariables a n (variables_at a n)

abbrev pub IsMapAt : List Item → ℕ → Type 0
IsMapAt a n = HasMap a n (map_at a n)

abbrev pub IsSideAt : List Item → ℕ → Type 0
IsSideAt a n = HasSide a n (side_at a n)

abbrev pub IsSequentAt : List Item → ℕ → Type 0
IsSequentAt a n = HasSequent a n (sequent_at a n)

abbrev pub IsTreeAt : List Item → ℕ → Type 0
IsTreeAt a n = HasTree a n (tree_at a n)

-- what stands in a stands in b at its number
abbrev pub Extends : List Item → List Item → Type 0
Extends a b = (n : ℕ) (t : Item) → Stands a n t → Stands b n t

-- no thing stands twice
abbrev pub IsDistinct : List Item → Type 0
IsDistinct a = (m n : ℕ) (t : Item) → Stands a m t → Stands a n t → m ≡ n
