-- What stands at the numbers of an arena, and the code of it.
use Rattle.std.specs.Prelude.{◌≡◌, ◌⊎◌, refl}
use Rattle.std.proofs.Common.{inl, inr}
use Rattle.std.specs.Coded.{Coded, code_by, coded⊎}
use Rattle.fol.specs.declared.symbols.Sym.{Sym}
use Rattle.fol.specs.Syntax.{Term, Terms, Formula}
use Rattle.fol.specs.Codes.{coded_term, coded_terms, coded_formula}
use Rattle.finite.specs.Finite as set
use Rattle.free_variables.specs.Sets.{VarSet, coded_var, coded_sym}
use Rattle.substitution.specs.Maps.{Map, coded_map}
use Rattle.lk_rules.specs.declared.sequent.Sequent.{Sequent}
use Rattle.lk_rules.specs.contracts.sequent.Sequent as sequents
use Rattle.lk_rules.specs.Formulas.{FormulaSet}
use Rattle.proof_trees.specs.Trees.{Tree}
use Rattle.proof_trees.specs.Codes.{coded_tree}

-- a symbol, a term, a list of terms, a formula, a set of variables, a map from variables to terms, a set of formulas, a sequent or a
-- proof tree
pub data Item : Type 0 where
  symbol : Sym → Item
  term : Term → Item
  terms : Terms → Item
  formula : Formula → Item
  variables : VarSet → Item
  substitution : Map → Item
  side : FormulaSet → Item
  sequent : Sequent → Item
  tree : Tree → Item

-- an item as one of nine things
abbrev pub Sum : Type 0
Sum = Sym ⊎ (Term ⊎ (Terms ⊎ (Formula ⊎ (VarSet ⊎ (Map ⊎ (FormulaSet ⊎ (Sequent ⊎ Tree)))))))

abbrev pub split : Item → Sum
split (symbol x) = inl x
split (term x) = inr (inl x)
split (terms x) = inr (inr (inl x))
split (formula x) = inr (inr (inr (inl x)))
split (variables x) = inr (inr (inr (inr (inl x))))
split (substitution x) = inr (inr (inr (inr (inr (inl x)))))
split (side x) = inr (inr (inr (inr (inr (inr (inl x))))))
split (sequent x) = inr (inr (inr (inr (inr (inr (inr (inl x)))))))
split (tree x) = inr (inr (inr (inr (inr (inr (inr (inr x)))))))

abbrev pub join : Sum → Item
join (inl x) = symbol x
join (inr (inl x)) = term x
join (inr (inr (inl x))) = terms x
join (inr (inr (inr (inl x)))) = formula x
join (inr (inr (inr (inr (inl x))))) = variables x
join (inr (inr (inr (inr (inr (inl x)))))) = substitution x
join (inr (inr (inr (inr (inr (inr (inl x))))))) = side x
join (inr (inr (inr (inr (inr (inr (inr (inl x)))))))) = sequent x
join (inr (inr (inr (inr (inr (inr (inr (inr x)))))))) = tree x

pub join-split : (i : Item) → join (split i) ≡ i
join-split (symbol x) = refl
join-split (term x) = refl
join-split (terms x) = refl
join-split (formula x) = refl
join-split (variables x) = refl
join-split (substitution x) = refl
join-split (side x) = refl
join-split (sequent x) = refl
join-split (tree x) = refl

abbrev pub coded_sum : Coded Sum
coded_sum =
    coded⊎ coded_sym (
    coded⊎ coded_term (
    coded⊎ coded_terms (
    coded⊎ coded_formula (
    coded⊎ (set.code coded_var) (
    coded⊎ coded_map (
    coded⊎ (set.code coded_formula) (
    coded⊎ sequents.the_row.coded coded_tree)))))))

abbrev pub coded_item : Coded Item
coded_item = code_by Sum coded_sum split join join-split
