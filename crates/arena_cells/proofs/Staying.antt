-- What stands at numbers stays in a larger arena, and so does the meaning of a key.
use Rattle.std.proofs.Common.{◌≡◌, ℕ, ◌<◌, List, [], ◌∷◌, length, map, refl, sym, ap, ◌∙◌}
use Rattle.std.specs.Prelude.{Some}
use Rattle.std.specs.Option.{unwrap_or}
use Rattle.std.specs.List.{All}
use Rattle.std.proofs.lemmas.List.Elements.{All-head, All-tail, All-weaker}
use Rattle.std.proofs.lemmas.Option.{slice_get_within}
use Rattle.fol.specs.declared.symbols.Sym.{Sym}
use Rattle.fol.specs.declared.symbols.Var.{Var}
use Rattle.fol.specs.Syntax as fol
use Rattle.fol.specs.Syntax.{Term, Terms, Formula}
use Rattle.finite.specs.Finite as set
use Rattle.free_variables.specs.Sets.{VarSet}
use Rattle.substitution.specs.Maps.{Map as Substitution}
use Rattle.lk_rules.specs.declared.rule.Rule.TheVariants as rule
use Rattle.lk_rules.specs.Formulas.{FormulaSet}
use Rattle.lk_rules.specs.declared.sequent.Sequent.{Sequent as Conclusion}
use Rattle.proof_trees.specs.Trees.{Tree as Proof, node, none, more}
use Rattle.arena_cells.specs.declared.key.RuleKey.{RuleKey}
use Rattle.arena_cells.specs.declared.key.RuleKey.TheVariants.{Ax, TopR, BotL, NegL, NegR, AndL, AndR, OrL, OrR, ImpL, ImpR, AllL, AllR, ExL, ExR, DefL, DefR, Cut, Weak}
use Rattle.arena_cells.specs.declared.key.Parts.{Parts}
use Rattle.arena_cells.specs.declared.key.Parts.TheVariants.{Zero, One, Two}
use Rattle.arena_cells.specs.declared.key.Key.{Key}
use Rattle.arena_cells.specs.declared.key.Key.TheVariants.{Symbol, Free, Bound, App, Nil, Cons, Atom, Defined, Top, Bot, Not, And, Or, Imp, All as Forall, Ex, Variables, Map, Side, Sequent, Tree}
use Rattle.arena_cells.specs.Items.{Item, symbol, term, terms, formula, variables, substitution, side, sequent, tree}
use Rattle.arena_cells.specs.Standing.{Stands, Extends, HasSymbol, HasTerm, HasVariable, HasTerms, HasFormula, HasSide, HasSequent, HasTree, HasMap, HasVariables, symbol_of, term_of, variable_of, terms_of, formula_of, side_of, sequent_of, tree_of, map_of, variables_of, item_at, symbol_at, term_at, variable_at, terms_at, formula_at, side_at, sequent_at, tree_at, map_at, variables_at, IsSymbolAt, IsTermAt, IsVariableAt, IsTermsAt, IsFormulaAt, IsSideAt, IsSequentAt, IsTreeAt}
use Rattle.arena_cells.specs.Meaning.{rule_at, trees_at, bindings, meaning, HasRuleParts, HasPremises, AreRisingVariables, AreRisingFormulas, HasParts, ArePartsBelow, AreBelow}

-- the item at a number where a thing stands
pub item_is : (a : List Item) (n : ℕ) (t : Item) → Stands a n t → item_at a n ≡ t
item_is a n t h = ap (λ o. unwrap_or o (formula fol.top)) h

pub is_symbol : (a : List Item) (n : ℕ) (x : Sym) → HasSymbol a n x → symbol_at a n ≡ x
is_symbol a n x h = ap symbol_of (item_is a n (symbol x) h)

pub is_term : (a : List Item) (n : ℕ) (x : Term) → HasTerm a n x → term_at a n ≡ x
is_term a n x h = ap term_of (item_is a n (term x) h)

pub is_variable : (a : List Item) (n : ℕ) (x : Var) → HasVariable a n x → variable_at a n ≡ x
is_variable a n x h = ap variable_of (is_term a n (fol.free x) h)

pub is_terms : (a : List Item) (n : ℕ) (x : Terms) → HasTerms a n x → terms_at a n ≡ x
is_terms a n x h = ap terms_of (item_is a n (terms x) h)

pub is_formula : (a : List Item) (n : ℕ) (x : Formula) → HasFormula a n x → formula_at a n ≡ x
is_formula a n x h = ap formula_of (item_is a n (formula x) h)

pub is_side : (a : List Item) (n : ℕ) (x : FormulaSet) → HasSide a n x → side_at a n ≡ x
is_side a n x h = ap side_of (item_is a n (side x) h)

pub is_sequent : (a : List Item) (n : ℕ) (x : Conclusion) → HasSequent a n x → sequent_at a n ≡ x
is_sequent a n x h = ap sequent_of (item_is a n (sequent x) h)

pub is_map : (a : List Item) (n : ℕ) (x : Substitution) → HasMap a n x → map_at a n ≡ x
is_map a n x h = ap map_of (item_is a n (substitution x) h)

pub are_variables : (a : List Item) (n : ℕ) (x : VarSet) → HasVariables a n x → variables_at a n ≡ x
are_variables a n x h = ap variables_of (item_is a n (variables x) h)

pub is_tree : (a : List Item) (n : ℕ) (x : Proof) → HasTree a n x → tree_at a n ≡ x
is_tree a n x h = ap tree_of (item_is a n (tree x) h)

-- a term that is a variable
pub variable_term : (a : List Item) (n : ℕ) → IsVariableAt a n → IsTermAt a n
variable_term a n h = h ∙ ap (λ t. Some (term t)) (sym (is_term a n (fol.free (variable_at a n)) h))

-- functions that agree at each number make one list
pub same_each : {X : Type 0} (f g : ℕ → X) (ns : List ℕ) → All (λ n. f n ≡ g n) ns → map f ns ≡ map g ns
same_each f g [] h = refl
same_each f g (n ∷ ns) h = λ i. All-head (λ n. f n ≡ g n) n ns h i ∷ same_each f g ns (All-tail (λ n. f n ≡ g n) n ns h) i

module _ (a b : List Item) (grown : Extends a b) where
  pub symbol_stays : (n : ℕ) → IsSymbolAt a n → symbol_at b n ≡ symbol_at a n
  symbol_stays n h = is_symbol b n _ (grown n _ h)

  pub term_stays : (n : ℕ) → IsTermAt a n → term_at b n ≡ term_at a n
  term_stays n h = is_term b n _ (grown n _ h)

  pub variable_stays : (n : ℕ) → IsVariableAt a n → variable_at b n ≡ variable_at a n
  variable_stays n h = is_variable b n _ (grown n _ h)

  pub terms_stay : (n : ℕ) → IsTermsAt a n → terms_at b n ≡ terms_at a n
  terms_stay n h = is_terms b n _ (grown n _ h)

  pub formula_stays : (n : ℕ) → IsFormulaAt a n → formula_at b n ≡ formula_at a n
  formula_stays n h = is_formula b n _ (grown n _ h)

  pub side_stays : (n : ℕ) → IsSideAt a n → side_at b n ≡ side_at a n
  side_stays n h = is_side b n _ (grown n _ h)

  pub sequent_stays : (n : ℕ) → IsSequentAt a n → sequent_at b n ≡ sequent_at a n
  sequent_stays n h = is_sequent b n _ (grown n _ h)

  pub tree_stays : (n : ℕ) → IsTreeAt a n → tree_at b n ≡ tree_at a n
  tree_stays n h = is_tree b n _ (grown n _ h)

  pub rule_stays : (r : RuleKey) → HasRuleParts a r → rule_at b r ≡ rule_at a r
  rule_stays (Ax f) h = ap rule.Ax (formula_stays f h)
  rule_stays TopR h = refl
  rule_stays BotL h = refl
  rule_stays (NegL f) h = ap rule.NegL (formula_stays f h)
  rule_stays (NegR f) h = ap rule.NegR (formula_stays f h)
  rule_stays (AndL f) h = ap rule.AndL (formula_stays f h)
  rule_stays (AndR f) h = ap rule.AndR (formula_stays f h)
  rule_stays (OrL f) h = ap rule.OrL (formula_stays f h)
  rule_stays (OrR f) h = ap rule.OrR (formula_stays f h)
  rule_stays (ImpL f) h = ap rule.ImpL (formula_stays f h)
  rule_stays (ImpR f) h = ap rule.ImpR (formula_stays f h)
  rule_stays (AllL f t) h = λ i. rule.AllL (formula_stays f h.0 i) (term_stays t h.1 i)
  rule_stays (AllR f y) h = λ i. rule.AllR (formula_stays f h.0 i) (variable_stays y h.1 i)
  rule_stays (ExL f y) h = λ i. rule.ExL (formula_stays f h.0 i) (variable_stays y h.1 i)
  rule_stays (ExR f t) h = λ i. rule.ExR (formula_stays f h.0 i) (term_stays t h.1 i)
  rule_stays (DefL f) h = ap rule.DefL (formula_stays f h)
  rule_stays (DefR f) h = ap rule.DefR (formula_stays f h)
  rule_stays (Cut f) h = ap rule.Cut (formula_stays f h)
  rule_stays Weak h = refl

  pub trees_stay : (ps : Parts) → HasPremises a ps → trees_at b ps ≡ trees_at a ps
  trees_stay Zero h = refl
  trees_stay (One p) h = λ i. more (tree_stays p h i) none
  trees_stay (Two p q) h = λ i. more (tree_stays p h.0 i) (more (tree_stays q h.1 i) none)

  pub formulas_stay : (ns : List ℕ) → All (IsFormulaAt a) ns → map (formula_at b) ns ≡ map (formula_at a) ns
  formulas_stay ns h = same_each (formula_at b) (formula_at a) ns (All-weaker (IsFormulaAt a) (λ n. formula_at b n ≡ formula_at a n) formula_stays ns h)

  pub variables_stay : (ns : List ℕ) → All (IsVariableAt a) ns → map (variable_at b) ns ≡ map (variable_at a) ns
  variables_stay ns h = same_each (variable_at b) (variable_at a) ns (All-weaker (IsVariableAt a) (λ n. variable_at b n ≡ variable_at a n) variable_stays ns h)

  pub values_stay : (ns : List ℕ) → All (IsTermAt a) ns → map (term_at b) ns ≡ map (term_at a) ns
  values_stay ns h = same_each (term_at b) (term_at a) ns (All-weaker (IsTermAt a) (λ n. term_at b n ≡ term_at a n) term_stays ns h)

  -- a key whose parts stand means the same
  pub meaning_stays : (k : Key) → HasParts a k → meaning b k ≡ meaning a k
  meaning_stays (Symbol s) h = refl
  meaning_stays (Free v) h = refl
  meaning_stays (Bound i) h = refl
  meaning_stays (App s ts) h = λ i. term (fol.app (symbol_stays s h.0 i) (terms_stay ts h.1 i))
  meaning_stays Nil h = refl
  meaning_stays (Cons t ts) h = λ i. terms (fol.cons (term_stays t h.0 i) (terms_stay ts h.1 i))
  meaning_stays (Atom s ts) h = λ i. formula (fol.atom (fol.plain (symbol_stays s h.0 i)) (terms_stay ts h.1 i))
  meaning_stays (Defined s f ts) h =
      λ i. formula (fol.atom (fol.pred (symbol_stays s h.0 i) (fol.defined (formula_stays f h.1.0 i))) (terms_stay ts h.1.1 i))
  meaning_stays Top h = refl
  meaning_stays Bot h = refl
  meaning_stays (Not f) h = λ i. formula (fol.not (formula_stays f h i))
  meaning_stays (And f g) h = λ i. formula (fol.and (formula_stays f h.0 i) (formula_stays g h.1 i))
  meaning_stays (Or f g) h = λ i. formula (fol.or (formula_stays f h.0 i) (formula_stays g h.1 i))
  meaning_stays (Imp f g) h = λ i. formula (fol.imp (formula_stays f h.0 i) (formula_stays g h.1 i))
  meaning_stays (Forall f) h = λ i. formula (fol.all (formula_stays f h i))
  meaning_stays (Ex f) h = λ i. formula (fol.ex (formula_stays f h i))
  meaning_stays (Variables ns) h = λ i. variables (set.of_list (variables_stay ns h.members i))
  meaning_stays (Map vs ts) h = λ i. substitution (bindings (variables_stay vs h.variables.members i) (values_stay ts h.values i))
  meaning_stays (Side ns) h = λ i. side (set.of_list (formulas_stay ns h.members i))
  meaning_stays (Sequent l r) h = λ i. sequent (record { left = side_stays l h.0 i; right = side_stays r h.1 i })
  meaning_stays (Tree r e ps) h = λ i. tree (node (rule_stays r h.0 i) (sequent_stays e h.1.0 i) (trees_stay ps h.1.1 i))

  pub symbol_there : (n : ℕ) → IsSymbolAt a n → IsSymbolAt b n
  symbol_there n h = grown n _ h ∙ ap (λ x. Some (symbol x)) (sym (symbol_stays n h))

  pub term_there : (n : ℕ) → IsTermAt a n → IsTermAt b n
  term_there n h = grown n _ h ∙ ap (λ x. Some (term x)) (sym (term_stays n h))

  pub variable_there : (n : ℕ) → IsVariableAt a n → IsVariableAt b n
  variable_there n h = grown n _ h ∙ ap (λ x. Some (term (fol.free x))) (sym (variable_stays n h))

  pub terms_there : (n : ℕ) → IsTermsAt a n → IsTermsAt b n
  terms_there n h = grown n _ h ∙ ap (λ x. Some (terms x)) (sym (terms_stay n h))

  pub formula_there : (n : ℕ) → IsFormulaAt a n → IsFormulaAt b n
  formula_there n h = grown n _ h ∙ ap (λ x. Some (formula x)) (sym (formula_stays n h))

  pub side_there : (n : ℕ) → IsSideAt a n → IsSideAt b n
  side_there n h = grown n _ h ∙ ap (λ x. Some (side x)) (sym (side_stays n h))

  pub sequent_there : (n : ℕ) → IsSequentAt a n → IsSequentAt b n
  sequent_there n h = grown n _ h ∙ ap (λ x. Some (sequent x)) (sym (sequent_stays n h))

  pub tree_there : (n : ℕ) → IsTreeAt a n → IsTreeAt b n
  tree_there n h = grown n _ h ∙ ap (λ x. Some (tree x)) (sym (tree_stays n h))

  pub rule_parts_there : (r : RuleKey) → HasRuleParts a r → HasRuleParts b r
  rule_parts_there (Ax f) h = formula_there f h
  rule_parts_there TopR h = tt
  rule_parts_there BotL h = tt
  rule_parts_there (NegL f) h = formula_there f h
  rule_parts_there (NegR f) h = formula_there f h
  rule_parts_there (AndL f) h = formula_there f h
  rule_parts_there (AndR f) h = formula_there f h
  rule_parts_there (OrL f) h = formula_there f h
  rule_parts_there (OrR f) h = formula_there f h
  rule_parts_there (ImpL f) h = formula_there f h
  rule_parts_there (ImpR f) h = formula_there f h
  rule_parts_there (AllL f t) h = (formula_there f h.0, term_there t h.1)
  rule_parts_there (AllR f y) h = (formula_there f h.0, variable_there y h.1)
  rule_parts_there (ExL f y) h = (formula_there f h.0, variable_there y h.1)
  rule_parts_there (ExR f t) h = (formula_there f h.0, term_there t h.1)
  rule_parts_there (DefL f) h = formula_there f h
  rule_parts_there (DefR f) h = formula_there f h
  rule_parts_there (Cut f) h = formula_there f h
  rule_parts_there Weak h = tt

  pub premises_there : (ps : Parts) → HasPremises a ps → HasPremises b ps
  premises_there Zero h = tt
  premises_there (One p) h = tree_there p h
  premises_there (Two p q) h = (tree_there p h.0, tree_there q h.1)

  pub rising_variables_there : (ns : List ℕ) → AreRisingVariables a ns → AreRisingVariables b ns
  rising_variables_there ns h = record { rises = h.rises; members = All-weaker (IsVariableAt a) (IsVariableAt b) variable_there ns h.members }

  pub rising_formulas_there : (ns : List ℕ) → AreRisingFormulas a ns → AreRisingFormulas b ns
  rising_formulas_there ns h = record { rises = h.rises; members = All-weaker (IsFormulaAt a) (IsFormulaAt b) formula_there ns h.members }

  -- the parts of a key still stand
  pub parts_there : (k : Key) → HasParts a k → HasParts b k
  parts_there (Symbol s) h = tt
  parts_there (Free v) h = tt
  parts_there (Bound i) h = tt
  parts_there (App s ts) h = (symbol_there s h.0, terms_there ts h.1)
  parts_there Nil h = tt
  parts_there (Cons t ts) h = (term_there t h.0, terms_there ts h.1)
  parts_there (Atom s ts) h = (symbol_there s h.0, terms_there ts h.1)
  parts_there (Defined s f ts) h = (symbol_there s h.0, (formula_there f h.1.0, terms_there ts h.1.1))
  parts_there Top h = tt
  parts_there Bot h = tt
  parts_there (Not f) h = formula_there f h
  parts_there (And f g) h = (formula_there f h.0, formula_there g h.1)
  parts_there (Or f g) h = (formula_there f h.0, formula_there g h.1)
  parts_there (Imp f g) h = (formula_there f h.0, formula_there g h.1)
  parts_there (Forall f) h = formula_there f h
  parts_there (Ex f) h = formula_there f h
  parts_there (Variables ns) h = rising_variables_there ns h
  parts_there (Map vs ts) h = record {
    variables = rising_variables_there vs h.variables;
    values = All-weaker (IsTermAt a) (IsTermAt b) term_there ts h.values;
    lengths = h.lengths;
  }
  parts_there (Side ns) h = rising_formulas_there ns h
  parts_there (Sequent l r) h = (side_there l h.0, side_there r h.1)
  parts_there (Tree r e ps) h = (rule_parts_there r h.0, (sequent_there e h.1.0, premises_there ps h.1.1))

-- what stands somewhere stands below the length
pub within : (a : List Item) (n : ℕ) (t : Item) → Stands a n t → n < length a
within a n t h = slice_get_within a n t h

all_within : (a : List Item) (pick : ℕ → Item) (ns : List ℕ) → All (λ n. Stands a n (pick n)) ns → All (λ n. n < length a) ns
all_within a pick ns h = All-weaker (λ n. Stands a n (pick n)) (λ n. n < length a) (λ n s. within a n (pick n) s) ns h

premises_below : (a : List Item) (ps : Parts) → HasPremises a ps → ArePartsBelow (length a) ps
premises_below a Zero h = tt
premises_below a (One p) h = within a p _ h
premises_below a (Two p q) h = (within a p _ h.0, within a q _ h.1)

-- the parts of a key stand below the length
pub parts_below : (a : List Item) (k : Key) → HasParts a k → AreBelow (length a) k
parts_below a (Symbol s) h = tt
parts_below a (Free v) h = tt
parts_below a (Bound i) h = tt
parts_below a (App s ts) h = within a ts _ h.1
parts_below a Nil h = tt
parts_below a (Cons t ts) h = (within a t _ h.0, within a ts _ h.1)
parts_below a (Atom s ts) h = within a ts _ h.1
parts_below a (Defined s f ts) h = within a ts _ h.1.1
parts_below a Top h = tt
parts_below a Bot h = tt
parts_below a (Not f) h = within a f _ h
parts_below a (And f g) h = (within a f _ h.0, within a g _ h.1)
parts_below a (Or f g) h = (within a f _ h.0, within a g _ h.1)
parts_below a (Imp f g) h = (within a f _ h.0, within a g _ h.1)
parts_below a (Forall f) h = within a f _ h
parts_below a (Ex f) h = within a f _ h
parts_below a (Variables ns) h = all_within a (λ n. term (fol.free (variable_at a n))) ns h.members
parts_below a (Map vs ts) h = all_within a (λ n. term (term_at a n)) ts h.values
parts_below a (Side ns) h = all_within a (λ n. formula (formula_at a n)) ns h.members
parts_below a (Sequent l r) h = (within a l _ h.0, within a r _ h.1)
parts_below a (Tree r e ps) h = (within a e _ h.1.0, premises_below a ps h.1.1)
