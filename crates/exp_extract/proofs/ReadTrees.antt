-- The trees that are read are rightly built, and those of a side are arranged.
use Rattle.std.proofs.Common.{◌≡◌, ℕ, true, List, [], ◌∷◌, map, refl, sym, ap, ◌∙◌, subst}
use Rattle.std.specs.List.{list_all}
use Rattle.std.proofs.lemmas.Bool.{and_parts}
use Rattle.std.specs.Cmp.Derive.{both_true}
use Rattle.fol.specs.declared.symbols.Var.{Var}
use Rattle.fol.specs.Syntax.{free, Formula}
use Rattle.fol.specs.Formed.{is_formed_var, IsFormed, IsFormedVar}
use Rattle.fol.specs.Order.{formula_cmp}
use Rattle.finite.specs.Finite as set
use Rattle.expansion_laws.specs.Expansions.{Exp, weak, strong, Insts, shallow}
use Rattle.expansion_laws.specs.Building.{is_built, is_instance}
use Rattle.extraction_laws.specs.Addresses.{Address, formula_at}
use Rattle.extraction_laws.specs.States.{State, place_of, variable_at, terms_at, instances_by, weak_at, strong_at}
use Rattle.extraction_laws.proofs.Built.{shallow-tree, built-tree}
use Rattle.extraction_laws.proofs.Variables.{nth_numbered}
use Rattle.expansion_laws.specs.Formed.{is_formed_exp, are_formed_insts, IsProper}
use Rattle.exp_tree.specs.Sequents.{AreArranged}
use Rattle.exp_extract.specs.Marked.{Marked, address_at}
use Rattle.exp_extract.specs.Reading.{tree_of, instance_tree}

-- the variable of an address is a numbered one
pub formed_variable : (vs : List Var) (st : State) (a : Address) (v : Var) → v ≡ variable_at vs st a → IsFormedVar v
formed_variable vs st a v is = ap is_formed_var (is ∙ nth_numbered vs (place_of a st.names))

module _ (m : Marked) (a : Address) where
  abbrev variable : Var
  variable = variable_at m.outside m.state a

  pub weak_is : (f : Formula) (is : Insts) → f ≡ formula_at a → is ≡ instances_by (instance_tree m a) (terms_at m.state a) → tree_of m a ≡ weak_at m.state a (instance_tree m a) → weak f is ≡ tree_of m a
  weak_is f is of insts whole = (λ i. weak (of i) (insts i)) ∙ sym whole

  pub weak_proper : (f : Formula) (is : Insts) → weak f is ≡ tree_of m a → IsFormed f → are_formed_insts is ≡ true → IsProper (weak f is)
  weak_proper f is e formed insts = record { built = ap is_built e ∙ built-tree m.outside m.state a; formed = both_true formed insts }

  pub strong_is : (f : Formula) (v : Var) (e : Exp) → f ≡ formula_at a → v ≡ variable → e ≡ instance_tree m a (free variable) → tree_of m a ≡ strong_at m.outside m.state a (instance_tree m a) → strong f v e ≡ tree_of m a
  strong_is f v e of named child whole = (λ i. strong (of i) (named i) (child i)) ∙ sym whole

  pub strong_instance : (f : Formula) (v : Var) (e : Exp) → strong f v e ≡ tree_of m a → is_instance f (free v) (shallow e) ≡ true
  strong_instance f v e is = (and_parts (is_instance f (free v) (shallow e)) (is_built e) (ap is_built is ∙ built-tree m.outside m.state a)).0

-- trees at addresses
module _ (m : Marked) where
  abbrev tree : ℕ → Exp
  tree n = tree_of m (address_at m n)

  all_built : (ns : List ℕ) → list_all is_built (map tree ns) ≡ true
  all_built [] = refl
  all_built (n ∷ ns) = both_true (built-tree m.outside m.state (address_at m n)) (all_built ns)

  formulas : (ns : List ℕ) → map shallow (map tree ns) ≡ map (λ n. formula_at (address_at m n)) ns
  formulas [] = refl
  formulas (n ∷ ns) = λ i. shallow-tree m.outside m.state (address_at m n) i ∷ formulas ns i

  pub arranged : (ns : List ℕ) (es : List Exp) → es ≡ map tree ns → list_all is_formed_exp es ≡ true → set.IsRising formula_cmp (map (λ n. formula_at (address_at m n)) ns) → AreArranged es
  arranged ns es are formed rises = record {
    rises = subst (set.IsRising formula_cmp) (sym (ap (map shallow) are ∙ formulas ns)) rises;
    built = ap (list_all is_built) are ∙ all_built ns;
    formed = formed;
  }
