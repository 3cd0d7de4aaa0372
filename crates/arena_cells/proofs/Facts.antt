-- What is known of a number at which a thing stands.
use Rattle.std.proofs.Common.{◌≡◌, ℕ, List, sym, ap, ◌∙◌}
use Rattle.std.specs.Prelude.{Some}
use Rattle.fol.specs.declared.symbols.Sym.{Sym}
use Rattle.fol.specs.declared.symbols.Var.{Var}
use Rattle.fol.specs.Syntax as fol
use Rattle.fol.specs.Syntax.{Term, Terms, Formula}
use Rattle.free_variables.specs.Sets.{VarSet}
use Rattle.substitution.specs.Maps.{Map}
use Rattle.lk_rules.specs.declared.sequent.Sequent.{Sequent as Conclusion}
use Rattle.lk_rules.specs.Formulas.{FormulaSet}
use Rattle.proof_trees.specs.Trees.{Tree as Proof}
use Rattle.arena_cells.specs.Items.{Item, symbol, term, terms, formula, variables, substitution, side, sequent, tree}
use Rattle.arena_cells.specs.Standing.{HasSymbol, HasTerm, HasVariable, HasTerms, HasFormula, HasSide, HasSequent, HasMap, HasVariables, HasTree, item_at, term_at, formula_at, IsSymbolAt, IsTermAt, IsVariableAt, IsTermsAt, IsFormulaAt, IsSideAt, IsSequentAt, IsMapAt, AreVariablesAt, IsTreeAt, IsThere}
use Rattle.arena_cells.proofs.Staying.{item_is, is_symbol, is_term, is_variable, is_terms, is_formula, is_side, is_sequent, is_map, are_variables, is_tree}

pub symbol_there : (a : List Item) (n : ℕ) (x : Sym) → HasSymbol a n x → IsSymbolAt a n
symbol_there a n x h = h ∙ ap (λ y. Some (symbol y)) (sym (is_symbol a n x h))

pub term_there : (a : List Item) (n : ℕ) (x : Term) → HasTerm a n x → IsTermAt a n
term_there a n x h = h ∙ ap (λ y. Some (term y)) (sym (is_term a n x h))

pub variable_there : (a : List Item) (n : ℕ) (x : Var) → HasVariable a n x → IsVariableAt a n
variable_there a n x h = h ∙ ap (λ y. Some (term (fol.free y))) (sym (is_variable a n x h))

pub terms_there : (a : List Item) (n : ℕ) (x : Terms) → HasTerms a n x → IsTermsAt a n
terms_there a n x h = h ∙ ap (λ y. Some (terms y)) (sym (is_terms a n x h))

pub formula_there : (a : List Item) (n : ℕ) (x : Formula) → HasFormula a n x → IsFormulaAt a n
formula_there a n x h = h ∙ ap (λ y. Some (formula y)) (sym (is_formula a n x h))

pub term_item : (a : List Item) (n : ℕ) → IsTermAt a n → item_at a n ≡ term (term_at a n)
term_item a n h = item_is a n _ h

pub formula_item : (a : List Item) (n : ℕ) → IsFormulaAt a n → item_at a n ≡ formula (formula_at a n)
formula_item a n h = item_is a n _ h

pub term_is_there : (a : List Item) (n : ℕ) → IsTermAt a n → IsThere a n
term_is_there a n h = h ∙ ap Some (sym (item_is a n _ h))

pub formula_is_there : (a : List Item) (n : ℕ) → IsFormulaAt a n → IsThere a n
formula_is_there a n h = h ∙ ap Some (sym (item_is a n _ h))

pub side_there : (a : List Item) (n : ℕ) (x : FormulaSet) → HasSide a n x → IsSideAt a n
side_there a n x h = h ∙ ap (λ y. Some (side y)) (sym (is_side a n x h))

pub sequent_there : (a : List Item) (n : ℕ) (x : Conclusion) → HasSequent a n x → IsSequentAt a n
sequent_there a n x h = h ∙ ap (λ y. Some (sequent y)) (sym (is_sequent a n x h))

pub map_there : (a : List Item) (n : ℕ) (x : Map) → HasMap a n x → IsMapAt a n
map_there a n x h = h ∙ ap (λ y. Some (substitution y)) (sym (is_map a n x h))

pub variables_there : (a : List Item) (n : ℕ) (x : VarSet) → HasVariables a n x → AreVariablesAt a n
variables_there a n x h = h ∙ ap (λ y. Some (variables y)) (sym (are_variables a n x h))

pub ruleset sequents = (side_there, is_side, sequent_there, is_sequent, map_there, is_map, variables_there, are_variables)

pub tree_there : (a : List Item) (n : ℕ) (x : Proof) → HasTree a n x → IsTreeAt a n
tree_there a n x h = h ∙ ap (λ y. Some (tree y)) (sym (is_tree a n x h))

pub ruleset trees = (tree_there, is_tree, sequent_there, is_sequent)

pub ruleset items = (term_item, formula_item, term_is_there, formula_is_there)

pub ruleset places = (symbol_there, term_there, variable_there, terms_there, formula_there, is_symbol, is_term, is_variable, is_terms, is_formula)
