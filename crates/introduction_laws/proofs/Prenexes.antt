-- Where no formula is found that isn't weak quantifiers over a matrix, each is.
use Rattle.std.proofs.Common.{◌≡◌, true, false, None, refl, sym, ap, ◌∙◌}
use Rattle.std.specs.Prelude.{not as negated}
use Rattle.std.specs.List.{find, list_any}
use Rattle.fol.specs.Syntax.{Formula}
use Rattle.finite.specs.Finite as set
use Rattle.finite.proofs.Finite.{has-listing}
use Rattle.lk_rules.specs.declared.sequent.Sequent.{Sequent}
use Rattle.lk_rules.specs.declared.sequent.Side.{Side}
use Rattle.lk_rules.specs.declared.sequent.Side.TheVariants.{Left, Right}
use Rattle.lk_rules.specs.Formulas.{FormulaSet}
use Rattle.proof_trees.proofs.Members.{some_passes}
use Rattle.step_laws.proofs.Found.{find_none, sides_none}
use Rattle.cut_laws.proofs.Sides.{clash}
use Rattle.extraction_laws.specs.declared.fault.ExtractFault.TheVariants as extract
use Rattle.herbrand_laws.specs.Herbrand.{is_prenex, IsPrenex}
use Rattle.introduction_laws.specs.Instancing.{first_not_prenex}

each_prenex : (side : Side) (fs : FormulaSet) → find (λ f. negated (is_prenex side f)) (set.listing fs) ≡ None → (f : Formula) → set.has fs f ≡ true → is_prenex side f ≡ true
each_prenex side fs none f m =
    let p = λ (g : Formula). negated (is_prenex side g) in
    elim (is_prenex side f) as (λ b. is_prenex side f ≡ b → b ≡ true) [
      | true ↦ λ e. refl
      | false ↦ λ e. clash (list_any p (set.listing fs)) (some_passes p (set.listing fs) f (sym (has-listing fs f) ∙ m) (ap negated e)) (find_none p (set.listing fs) none)
    ] refl

pub prenex_of : (s : Sequent) → first_not_prenex s ≡ None → IsPrenex s
prenex_of s none Left = each_prenex Left s.left (sides_none (find (λ f. negated (is_prenex Left f)) (set.listing s.left)) (find (λ f. negated (is_prenex Right f)) (set.listing s.right)) none).0
prenex_of s none Right = each_prenex Right s.right (sides_none (find (λ f. negated (is_prenex Left f)) (set.listing s.left)) (find (λ f. negated (is_prenex Right f)) (set.listing s.right)) none).1
