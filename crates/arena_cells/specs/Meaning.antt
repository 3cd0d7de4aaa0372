-- What a key means, where its numbers stand for what they do.
--     meaning      the item of a key
--     HasParts      the key's numbers are those of things of the right kinds, and rise in a set
--     AreBelow      they are below a number
use Rattle.std.specs.Prelude.{◌≡◌, ℕ, ◌<◌, List, [], ◌∷◌, length, map}
use Rattle.std.specs.List.{All}
use Rattle.std.specs.Ordering.{nat_cmp}
use Rattle.std.specs.FinMap as fin
use Rattle.fol.specs.declared.symbols.Var.{Var}
use Rattle.fol.specs.Syntax as fol
use Rattle.fol.specs.Syntax.{Term, Formula}
use Rattle.finite.specs.Finite as set
use Rattle.free_variables.specs.Sets.{VarSet}
use Rattle.substitution.specs.Maps.{Map as Substitution}
use Rattle.lk_rules.specs.declared.rule.Rule.{Rule}
use Rattle.lk_rules.specs.declared.rule.Rule.TheVariants as rule
use Rattle.lk_rules.specs.Formulas.{FormulaSet}
use Rattle.proof_trees.specs.Trees.{node, Trees, none, more}
use Rattle.arena_cells.specs.declared.key.RuleKey.{RuleKey}
use Rattle.arena_cells.specs.declared.key.RuleKey.TheVariants.{Ax, TopR, BotL, NegL, NegR, AndL, AndR, OrL, OrR, ImpL, ImpR, AllL, AllR, ExL, ExR, DefL, DefR, Cut, Weak}
use Rattle.arena_cells.specs.declared.key.Parts.{Parts}
use Rattle.arena_cells.specs.declared.key.Parts.TheVariants.{Zero, One, Two}
use Rattle.arena_cells.specs.declared.key.Key.{Key}
use Rattle.arena_cells.specs.declared.key.Key.TheVariants.{Symbol, Free, Bound, App, Nil, Cons, Atom, Defined, Top, Bot, Not, And, Or, Imp, All as Forall, Ex, Variables, Map, Side, Sequent, Tree}
use Rattle.arena_cells.specs.Items.{Item, symbol, term, terms, formula, variables, substitution, side, sequent, tree}
use Rattle.arena_cells.specs.Standing.{Stands, symbol_at, term_at, variable_at, terms_at, formula_at, side_at, sequent_at, tree_at, IsSymbolAt, IsTermAt, IsVariableAt, IsTermsAt, IsFormulaAt, IsSideAt, IsSequentAt, IsTreeAt}

-- the rule that a rule's numbers stand for
abbrev pub rule_at : List Item → RuleKey → Rule
rule_at a (Ax f) = rule.Ax (formula_at a f)
rule_at a TopR = rule.TopR
rule_at a BotL = rule.BotL
rule_at a (NegL f) = rule.NegL (formula_at a f)
rule_at a (NegR f) = rule.NegR (formula_at a f)
rule_at a (AndL f) = rule.AndL (formula_at a f)
rule_at a (AndR f) = rule.AndR (formula_at a f)
rule_at a (OrL f) = rule.OrL (formula_at a f)
rule_at a (OrR f) = rule.OrR (formula_at a f)
rule_at a (ImpL f) = rule.ImpL (formula_at a f)
rule_at a (ImpR f) = rule.ImpR (formula_at a f)
rule_at a (AllL f t) = rule.AllL (formula_at a f) (term_at a t)
rule_at a (AllR f y) = rule.AllR (formula_at a f) (variable_at a y)
rule_at a (ExL f y) = rule.ExL (formula_at a f) (variable_at a y)
rule_at a (ExR f t) = rule.ExR (formula_at a f) (term_at a t)
rule_at a (DefL f) = rule.DefL (formula_at a f)
rule_at a (DefR f) = rule.DefR (formula_at a f)
rule_at a (Cut f) = rule.Cut (formula_at a f)
rule_at a Weak = rule.Weak

-- the trees of premises
abbrev pub trees_at : List Item → Parts → Trees
trees_at a Zero = none
trees_at a (One p) = more (tree_at a p) none
trees_at a (Two p q) = more (tree_at a p) (more (tree_at a q) none)

-- the set of the formulas at the numbers
abbrev pub formulas_of : List Item → List ℕ → FormulaSet
formulas_of a ns = set.of_list (map (formula_at a) ns)

-- the set of the variables at the numbers
abbrev pub vars_of : List Item → List ℕ → VarSet
vars_of a ns = set.of_list (map (variable_at a) ns)

-- the map from variables to the terms at the same places
abbrev pub bindings : List Var → List Term → Substitution
bindings [] ts = fin.empty
bindings (v ∷ vs) [] = fin.empty
bindings (v ∷ vs) (t ∷ ts) = fin.insert (bindings vs ts) v t

abbrev pub meaning : List Item → Key → Item
meaning a (Symbol s) = symbol s
meaning a (Free v) = term (fol.free v)
meaning a (Bound i) = term (fol.bound i)
meaning a (App s ts) = term (fol.app (symbol_at a s) (terms_at a ts))
meaning a Nil = terms fol.nil
meaning a (Cons t ts) = terms (fol.cons (term_at a t) (terms_at a ts))
meaning a (Atom s ts) = formula (fol.atom (fol.plain (symbol_at a s)) (terms_at a ts))
meaning a (Defined s f ts) = formula (fol.atom (fol.pred (symbol_at a s) (fol.defined (formula_at a f))) (terms_at a ts))
meaning a Top = formula fol.top
meaning a Bot = formula fol.bot
meaning a (Not f) = formula (fol.not (formula_at a f))
meaning a (And f g) = formula (fol.and (formula_at a f) (formula_at a g))
meaning a (Or f g) = formula (fol.or (formula_at a f) (formula_at a g))
meaning a (Imp f g) = formula (fol.imp (formula_at a f) (formula_at a g))
meaning a (Forall f) = formula (fol.all (formula_at a f))
meaning a (Ex f) = formula (fol.ex (formula_at a f))
meaning a (Variables ns) = variables (vars_of a ns)
meaning a (Map vs ts) = substitution (bindings (map (variable_at a) vs) (map (term_at a) ts))
meaning a (Side ns) = side (formulas_of a ns)
meaning a (Sequent l r) = sequent (record { left = side_at a l; right = side_at a r })
meaning a (Tree r e ps) = tree (node (rule_at a r) (sequent_at a e) (trees_at a ps))

-- what the rule names stands at its numbers
abbrev pub HasRuleParts : List Item → RuleKey → Type 0
HasRuleParts a (Ax f) = IsFormulaAt a f
HasRuleParts a TopR = Unit {0}
HasRuleParts a BotL = Unit {0}
HasRuleParts a (NegL f) = IsFormulaAt a f
HasRuleParts a (NegR f) = IsFormulaAt a f
HasRuleParts a (AndL f) = IsFormulaAt a f
HasRuleParts a (AndR f) = IsFormulaAt a f
HasRuleParts a (OrL f) = IsFormulaAt a f
HasRuleParts a (OrR f) = IsFormulaAt a f
HasRuleParts a (ImpL f) = IsFormulaAt a f
HasRuleParts a (ImpR f) = IsFormulaAt a f
HasRuleParts a (AllL f t) = IsFormulaAt a f × IsTermAt a t
HasRuleParts a (AllR f y) = IsFormulaAt a f × IsVariableAt a y
HasRuleParts a (ExL f y) = IsFormulaAt a f × IsVariableAt a y
HasRuleParts a (ExR f t) = IsFormulaAt a f × IsTermAt a t
HasRuleParts a (DefL f) = IsFormulaAt a f
HasRuleParts a (DefR f) = IsFormulaAt a f
HasRuleParts a (Cut f) = IsFormulaAt a f
HasRuleParts a Weak = Unit {0}

abbrev pub HasPremises : List Item → Parts → Type 0
HasPremises a Zero = Unit {0}
HasPremises a (One p) = IsTreeAt a p
HasPremises a (Two p q) = IsTreeAt a p × IsTreeAt a q

-- rising numbers of variables
pub record AreRisingVariables (a : List Item) (ns : List ℕ) : Type 0 where
  pub rises : set.IsRising nat_cmp ns
  pub members : All (IsVariableAt a) ns

-- rising numbers of formulas
pub record AreRisingFormulas (a : List Item) (ns : List ℕ) : Type 0 where
  pub rises : set.IsRising nat_cmp ns
  pub members : All (IsFormulaAt a) ns

-- rising numbers of variables, and as many numbers of terms
pub record AreBindings (a : List Item) (vs ts : List ℕ) : Type 0 where
  pub variables : AreRisingVariables a vs
  pub values : All (IsTermAt a) ts
  pub lengths : length vs ≡ length ts

-- the key's numbers are those of things of the right kinds
abbrev pub HasParts : List Item → Key → Type 0
HasParts a (Symbol s) = Unit {0}
HasParts a (Free v) = Unit {0}
HasParts a (Bound i) = Unit {0}
HasParts a (App s ts) = IsSymbolAt a s × IsTermsAt a ts
HasParts a Nil = Unit {0}
HasParts a (Cons t ts) = IsTermAt a t × IsTermsAt a ts
HasParts a (Atom s ts) = IsSymbolAt a s × IsTermsAt a ts
HasParts a (Defined s f ts) = IsSymbolAt a s × (IsFormulaAt a f × IsTermsAt a ts)
HasParts a Top = Unit {0}
HasParts a Bot = Unit {0}
HasParts a (Not f) = IsFormulaAt a f
HasParts a (And f g) = IsFormulaAt a f × IsFormulaAt a g
HasParts a (Or f g) = IsFormulaAt a f × IsFormulaAt a g
HasParts a (Imp f g) = IsFormulaAt a f × IsFormulaAt a g
HasParts a (Forall f) = IsFormulaAt a f
HasParts a (Ex f) = IsFormulaAt a f
HasParts a (Variables ns) = AreRisingVariables a ns
HasParts a (Map vs ts) = AreBindings a vs ts
HasParts a (Side ns) = AreRisingFormulas a ns
HasParts a (Sequent l r) = IsSideAt a l × IsSideAt a r
HasParts a (Tree r e ps) = HasRuleParts a r × (IsSequentAt a e × HasPremises a ps)

-- the numbers of the premises are below n
abbrev pub ArePartsBelow : ℕ → Parts → Type 0
ArePartsBelow n Zero = Unit {0}
ArePartsBelow n (One p) = p < n
ArePartsBelow n (Two p q) = (p < n) × (q < n)

-- the numbers of the parts of the same kind, by which a walk goes down, are below n
abbrev pub AreBelow : ℕ → Key → Type 0
AreBelow n (Symbol s) = Unit {0}
AreBelow n (Free v) = Unit {0}
AreBelow n (Bound i) = Unit {0}
AreBelow n (App s ts) = ts < n
AreBelow n Nil = Unit {0}
AreBelow n (Cons t ts) = (t < n) × (ts < n)
AreBelow n (Atom s ts) = ts < n
AreBelow n (Defined s f ts) = ts < n
AreBelow n Top = Unit {0}
AreBelow n Bot = Unit {0}
AreBelow n (Not f) = f < n
AreBelow n (And f g) = (f < n) × (g < n)
AreBelow n (Or f g) = (f < n) × (g < n)
AreBelow n (Imp f g) = (f < n) × (g < n)
AreBelow n (Forall f) = f < n
AreBelow n (Ex f) = f < n
AreBelow n (Variables ns) = All (λ m. m < n) ns
AreBelow n (Map vs ts) = All (λ m. m < n) ts
AreBelow n (Side ns) = All (λ m. m < n) ns
AreBelow n (Sequent l r) = (l < n) × (r < n)
AreBelow n (Tree r e ps) = (e < n) × ArePartsBelow n ps

-- the key k stands at the number n, above its parts
pub record IsKeyAt (a : List Item) (n : ℕ) (k : Key) : Type 0 where
  pub stands : Stands a n (meaning a k)
  pub parts : HasParts a k
  pub below : AreBelow n k
