-- A map without terms changes nothing, and makes equal atoms one.
use Rattle.std.proofs.Common.{◌≡◌, true, List, [], ◌∷◌, Option, refl, sym, ap, subst}
use Rattle.std.specs.Prelude.{IfSome}
use Rattle.std.specs.List.{AllByRecursion, list_all}
use Rattle.std.specs.Ordering.{eq_by_cmp}
use Rattle.std.specs.FinMap as fin
use Rattle.std.proofs.lemmas.List.Elements.{All-cons, All-from_recursion}
use Rattle.fol.specs.declared.symbols.Var.{Var}
use Rattle.fol.specs.Syntax.{Term, Formula}
use Rattle.fol.specs.Order.{var_cmp, formula_cmp}
use Rattle.fol.specs.Formed.{IsFormedTerm}
use Rattle.finite.specs.Finite as set
use Rattle.substitution.specs.Image.{image_term, image}
use Rattle.substitution.proofs.Booleans.{and_left, and_right}
use Rattle.substitution.proofs.ImageLaws.{image-empty, image-empty_term}
use Rattle.lk_rules.specs.declared.sequent.Sequent.{Sequent}
use Rattle.lk_rules.specs.Formulas.{FormulaSet, image_set}
use Rattle.lk_rules.specs.Sequents.{image_sequent}
use Rattle.proof_trees.proofs.Members.{image_member}
use Rattle.proof_trees.proofs.FormulaSets.{equal, same_sets}
use Rattle.clause_laws.proofs.Sets.{images_within}
use Rattle.clause_laws.proofs.Atomic.{makes-listed}
use Rattle.res_prover.specs.Resolved.{IsUnifierFor}

abbrev unchanged : Var → Option Term
unchanged = fin.get {R = var_cmp} fin.empty

set-none : (s : FormulaSet) → image_set unchanged s ≡ s
set-none s =
    same_sets (image_set unchanged s) s
    (images_within unchanged s s (λ f e. subst (λ g. set.has s g ≡ true) (sym (image-empty f)) e))
    (λ f e. subst (λ g. set.has (image_set unchanged s) g ≡ true) (image-empty f) (image_member unchanged s f e))

pub image-none : (c : Sequent) → image_sequent unchanged c ≡ c
image-none c = λ i. record { left = set-none c.left i; right = set-none c.right i }

alike_each : (f : Formula) (gs : List Formula) → list_all (eq_by_cmp formula_cmp f) gs ≡ true → AllByRecursion (λ g. image unchanged g ≡ image unchanged f) gs
alike_each f [] e = tt
alike_each f (g ∷ gs) e = (
  ap (image unchanged) (sym (equal f g (and_left (eq_by_cmp formula_cmp f g) (list_all (eq_by_cmp formula_cmp f) gs) e))),
  alike_each f gs (and_right (eq_by_cmp formula_cmp f g) (list_all (eq_by_cmp formula_cmp f) gs) e),
)

pub unified_alike : (f : Formula) (gs : List Formula) → list_all (eq_by_cmp formula_cmp f) gs ≡ true → IsUnifierFor f gs fin.empty
unified_alike f gs e = record {
  formed = λ v. subst (λ o. IfSome o IsFormedTerm) (sym (fin.get-empty var_cmp v)) tt;
  most_general = record {
    makes = (makes-listed unchanged (f ∷ gs) (image unchanged f)).1
        (All-cons (λ g. image unchanged g ≡ image unchanged f) f gs refl (All-from_recursion (λ g. image unchanged g ≡ image unchanged f) gs (alike_each f gs e)));
    general = λ h b all. record { rest = h; is = λ t. ap (image_term h) (image-empty_term t) };
  };
}
