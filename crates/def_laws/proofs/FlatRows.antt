-- A right inference with all unfolded is right.
use Rattle.std.proofs.Common.{◌≡◌, ℕ, zero, suc, true, false, List, [], ◌∷◌, map, Option, Some, None, IfSome, option_map, refl, sym, ap, subst, ◌∙◌, arith}
use Rattle.std.specs.List.{All, list_any}
use Rattle.std.specs.Ordering.{eq_by_cmp}
use Rattle.std.proofs.lemmas.List.Elements.{All-map}
use Rattle.fol.specs.Syntax.{pred, defined, Formula, atom}
use Rattle.fol.specs.Order.{formula_cmp}
use Rattle.fol.specs.OrderLaws.{formula_total}
use Rattle.finite.specs.Finite as set
use Rattle.finite.proofs.Finite.{has-adds_each}
use Rattle.lk_rules.specs.declared.sequent.Sequent.{Sequent}
use Rattle.lk_rules.specs.declared.sequent.Side.{Side}
use Rattle.lk_rules.specs.declared.sequent.Side.TheVariants.{Left, Right}
use Rattle.lk_rules.specs.declared.rule.Rule.{Rule}
use Rattle.lk_rules.specs.declared.rule.Rule.TheVariants.{AllR, ExL, DefL, DefR}
use Rattle.lk_rules.specs.Formulas.{FormulaSet}
use Rattle.lk_rules.specs.Sequents.{side_of, is_free_in_sequent}
use Rattle.lk_rules.specs.Rules.{IsFormedRule, has_shape, main, eigen_free, aux, IsWithin, Row}
use Rattle.proof_trees.specs.Conclusions.{IsFormedSequent}
use Rattle.proof_trees.proofs.Booleans.{or_second, either}
use Rattle.proof_trees.proofs.FormulaSets.{equal}
use Rattle.proof_trees.proofs.WithoutBodies.{stays_false}
use Rattle.def_laws.specs.Flat.{flat, flat_set, flat_sequent}
use Rattle.def_laws.specs.Unfolded.{flat_rule}
use Rattle.def_laws.proofs.FlatRules.{needs-flat, shape-flat, main-flat, aux-flat}
use Rattle.def_laws.proofs.FlatSets.{mapped, flat_member, flat_within, free_in_flat_sequent}
use Rattle.def_laws.proofs.FlatUnfoldings.{flat-unf}

abbrev pub Stands : Rule → Sequent → Type 0
Stands r s = (side : Side) → All (λ f. set.has (side_of s side) f ≡ true) (main r side)

-- the main formulas stand in the conclusion

none_stand : (P : Formula → Type 0) → All P []
none_stand P k d l = absurd (omega arith)

flat_stand : (s : FormulaSet) (fs gs : List Formula) → gs ≡ map flat fs → All (λ f. set.has s f ≡ true) fs → All (λ f. set.has (flat_set s) f ≡ true) gs
flat_stand s fs gs same stand =
    let P : List Formula → Type 0 = λ hs. All (λ f. set.has (flat_set s) f ≡ true) hs in
    subst P (sym same) (All-map (λ f. set.has (flat_set s) f ≡ true) flat fs (λ k d l. flat_member s _ (stand k d l)))

main_stands-flat : (r : Rule) (s : Sequent) → Stands r s → Stands (flat_rule r) (flat_sequent s)
main_stands-flat (DefL a) s stands side = none_stand _
main_stands-flat (DefR a) s stands side = none_stand _
main_stands-flat r s stands Left = flat_stand s.left (main r Left) (main (flat_rule r) Left) (main-flat r Left refl) (stands Left)
main_stands-flat r s stands Right = flat_stand s.right (main r Right) (main (flat_rule r) Right) (main-flat r Right refl) (stands Right)

-- the eigenvariable isn't free in it

eigen-flat : (r : Rule) (s : Sequent) → IsFormedSequent s → eigen_free r s ≡ false → eigen_free (flat_rule r) (flat_sequent s) ≡ false
eigen-flat (AllR a y) s h e = stays_false (is_free_in_sequent y (flat_sequent s)) (is_free_in_sequent y s) (free_in_flat_sequent y s h) e
eigen-flat (ExL a y) s h e = stays_false (is_free_in_sequent y (flat_sequent s)) (is_free_in_sequent y s) (free_in_flat_sequent y s h) e
eigen-flat r s h e = refl

-- each auxiliary formula becomes an auxiliary formula, or the main formula where the rule unfolds that

stands_added : (s : FormulaSet) (r q : Rule) (i : ℕ) (side : Side) (f : Formula) → aux q i side ≡ map flat (aux r i side) → list_any (eq_by_cmp formula_cmp f) (aux r i side) ≡ true
    → set.has (set.adds_each (flat_set s) (aux q i side)) (flat f) ≡ true
stands_added s r q i side f same m =
    has-adds_each formula_total (flat_set s) (aux q i side) (flat f)
    ∙ or_second (set.has (flat_set s) (flat f)) _ (ap (list_any (eq_by_cmp formula_cmp (flat f))) same ∙ mapped (aux r i side) f m)

falls_together : (s : FormulaSet) (a g f : Formula) → set.has s a ≡ true → flat g ≡ flat a → list_any (eq_by_cmp formula_cmp f) (g ∷ []) ≡ true → set.has (flat_set s) (flat f) ≡ true
falls_together s a g f stands same m =
    either (eq_by_cmp formula_cmp f g) false
    (λ e. ap (set.has (flat_set s)) (ap flat (equal f g e) ∙ same) ∙ flat_member s a stands)
    (λ e. cc)
    m

aux_stands : (r : Rule) (s : Sequent) → IsFormedRule r → has_shape r ≡ true → Stands r s → (i : ℕ) (side : Side) (f : Formula) → list_any (eq_by_cmp formula_cmp f) (aux r i side) ≡ true
    → set.has (set.adds_each (flat_set (side_of s side)) (aux (flat_rule r) i side)) (flat f) ≡ true
aux_stands (DefL (atom (pred p (defined b)) ts)) s h shape stands zero Left f m =
    let a : Formula = atom (pred p (defined b)) ts in falls_together s.left a _ f (stands Left 0 a (omega arith)) (flat-unf a h) m
aux_stands (DefL (atom (pred p (defined b)) ts)) s h shape stands zero Right f m = cc
aux_stands (DefL (atom (pred p (defined b)) ts)) s h shape stands (suc i) side f m = cc
aux_stands (DefL a) s h shape stands i side f m = cc
aux_stands (DefR (atom (pred p (defined b)) ts)) s h shape stands zero Left f m = cc
aux_stands (DefR (atom (pred p (defined b)) ts)) s h shape stands zero Right f m =
    let a : Formula = atom (pred p (defined b)) ts in falls_together s.right a _ f (stands Right 0 a (omega arith)) (flat-unf a h) m
aux_stands (DefR (atom (pred p (defined b)) ts)) s h shape stands (suc i) side f m = cc
aux_stands (DefR a) s h shape stands i side f m = cc
aux_stands r s h shape stands i side f m = stands_added (side_of s side) r (flat_rule r) i side f (aux-flat r i side h refl shape) m

within-flat : (r : Rule) (s : Sequent) → IsFormedRule r → has_shape r ≡ true → Stands r s → (i : ℕ) (x : Sequent) → IsWithin r s i x → IsWithin (flat_rule r) (flat_sequent s) i (flat_sequent x)
within-flat r s h shape stands i x w = record {
  left = flat_within x.left s.left (aux r i Left) (aux (flat_rule r) i Left) w.left (aux_stands r s h shape stands i Left);
  right = flat_within x.right s.right (aux r i Right) (aux (flat_rule r) i Right) w.right (aux_stands r s h shape stands i Right);
}

premise-flat : (r : Rule) (s : Sequent) → IsFormedRule r → has_shape r ≡ true → Stands r s → (i : ℕ) (premise : Option Sequent) → IfSome premise (IsWithin r s i)
    → IfSome (option_map flat_sequent premise) (IsWithin (flat_rule r) (flat_sequent s) i)
premise-flat r s h shape stands i None w = tt
premise-flat r s h shape stands i (Some x) w = within-flat r s h shape stands i x w

pub row-flat : (r : Rule) (s : Sequent) (n : ℕ) (first second : Option Sequent) → IsFormedRule r → IsFormedSequent s → Row r s n first second
    → Row (flat_rule r) (flat_sequent s) n (option_map flat_sequent first) (option_map flat_sequent second)
row-flat r s n first second h formed row = record {
  premises = row.premises ∙ sym (needs-flat r);
  shape = shape-flat r row.shape;
  main_formula = main_stands-flat r s row.main_formula;
  eigenvariable = eigen-flat r s formed row.eigenvariable;
  first_premise = premise-flat r s h row.shape row.main_formula 0 first row.first_premise;
  second_premise = premise-flat r s h row.shape row.main_formula 1 second row.second_premise;
}
