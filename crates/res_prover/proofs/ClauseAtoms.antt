-- The sides of a clause have atoms alone.
use Rattle.std.proofs.Common.{◌≡◌, true, List, [], ◌∷◌, refl, sym, subst, ◌∙◌}
use Rattle.std.specs.List.{All, AllByRecursion, list_any}
use Rattle.std.specs.Ordering.{eq_by_cmp}
use Rattle.std.proofs.lemmas.Bool.{or_left, or_right}
use Rattle.std.proofs.lemmas.List.Elements.{All-from_recursion}
use Rattle.fol.specs.Syntax.{Formula}
use Rattle.fol.specs.Order.{formula_cmp}
use Rattle.fol.specs.Formed.{IsFormed}
use Rattle.finite.specs.Finite as set
use Rattle.finite.proofs.Finite.{has-listing}
use Rattle.lk_rules.specs.declared.sequent.Sequent.{Sequent}
use Rattle.lk_rules.specs.declared.sequent.Side.TheVariants.{Left, Right}
use Rattle.lk_rules.specs.Formulas.{FormulaSet}
use Rattle.proof_trees.specs.FormulaSets.{is_atom}
use Rattle.proof_trees.proofs.FormulaSets.{tied}
use Rattle.clause_laws.specs.Subsumption.{IsClause}
use Rattle.res_prover.specs.Resolved.{IsAtomFormed}

each_member : (P : Formula → Type 0) (fs : List Formula) → ((f : Formula) → list_any (eq_by_cmp formula_cmp f) fs ≡ true → P f) → AllByRecursion P fs
each_member P [] h = tt
each_member P (f ∷ fs) h = (
  h f (or_left (eq_by_cmp formula_cmp f f) (list_any (eq_by_cmp formula_cmp f) fs) (tied f f refl)),
  each_member P fs (λ g e. h g (or_right (eq_by_cmp formula_cmp g f) (list_any (eq_by_cmp formula_cmp g) fs) e)),
)

side_atoms : (s : FormulaSet) → ((f : Formula) → set.has s f ≡ true → is_atom f ≡ true) → All (λ f. is_atom f ≡ true) (set.listing s)
side_atoms s h = All-from_recursion (λ f. is_atom f ≡ true) (set.listing s) (each_member (λ f. is_atom f ≡ true) (set.listing s) (λ f e. h f (has-listing s f ∙ e)))

formed_atoms : (s : FormulaSet) → ((f : Formula) → set.has s f ≡ true → is_atom f ≡ true) → (fs : List Formula) → fs ≡ set.listing s → All IsFormed fs → All IsAtomFormed fs
formed_atoms s h fs is formed = let atoms = subst (All (λ f. is_atom f ≡ true)) (sym is) (side_atoms s h) in λ k d below. (atoms k d below, formed k d below)

pub left_atoms : (c : Sequent) → IsClause c → (fs : List Formula) → fs ≡ set.listing c.left → All IsFormed fs → All IsAtomFormed fs
left_atoms c h = formed_atoms c.left (h Left)

pub right_atoms : (c : Sequent) → IsClause c → (fs : List Formula) → fs ≡ set.listing c.right → All IsFormed fs → All IsAtomFormed fs
right_atoms c h = formed_atoms c.right (h Right)
