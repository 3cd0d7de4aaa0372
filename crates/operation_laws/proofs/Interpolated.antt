-- What an interpolation makes.
use Rattle.std.proofs.Common.{◌≡◌, ℕ, Bool, true, false, cond, List, Option, Result, Ok, Err, refl, subst}
use Rattle.std.specs.Prelude.{IfSome}
use Rattle.fol.specs.Formed.{is_formed, IsFormed}
use Rattle.lk_rules.specs.declared.sequent.Sequent.{Sequent}
use Rattle.proof_trees.specs.Trees.{Tree, IsValid}
use Rattle.interp_laws.specs.Interpolation.{Interpolation}
use Rattle.interp_laws.specs.Parts.{IsFormedSequent}
use Rattle.interp_laws.specs.declared.fault.InterpFault.{InterpFault}
use Rattle.interp_laws.specs.declared.fault.InterpFault.TheVariants as interpolation
use Rattle.interp_laws.specs.Interpolating.{interpolating}
use Rattle.job_lang.specs.FormedOps.{AreFormedSides}
use Rattle.operation_laws.specs.Values.{Value, IsSound}
use Rattle.operation_laws.specs.Answers.{Product, interpolant, lacking, product}
use Rattle.operation_laws.specs.Given.{found, proof_given}
use Rattle.operation_laws.specs.Running.{over, interpolated}
use Rattle.operation_laws.specs.Claims.{AnInterpolant, IsInterpolated}
use Rattle.operation_laws.proofs.Making.{found_valid, over_made}

-- what an interpolation of a valid proof by well-formed parts is, where the interpolant is well formed
abbrev pub InterpolatesRightly : Type 0
InterpolatesRightly = (t : Tree) (one two : Sequent) (n : ℕ) (i : Interpolation) → IsValid t → IsFormedSequent one → IsFormedSequent two → interpolating t one two n ≡ Ok i
    → IsFormed i.formula → IsInterpolated t one two i.formula i.first i.second

module _ (rightly : InterpolatesRightly) (of : List ℕ) (one two : Sequent) (n : ℕ) where
  formed_by : (t : Tree) (made : Product) (i : Interpolation) (b : Bool) → (IsFormed i.formula → IsInterpolated t one two i.formula i.first i.second) → is_formed i.formula ≡ b
      → cond b (product (interpolant i.formula i.first i.second)) lacking ≡ product made → AnInterpolant made (IsInterpolated t one two)
  formed_by t made i true right formed is =
      let same : interpolant i.formula i.first i.second ≡ made = cc in subst (λ p. AnInterpolant p (IsInterpolated t one two)) same (right formed)
  formed_by t made i false right formed is = cc

  interpolated_by : (t : Tree) (made : Product) (r : Result Interpolation InterpFault) → IsValid t → AreFormedSides one → AreFormedSides two → interpolating t one two n ≡ r
      → interpolated r ≡ product made → AnInterpolant made (IsInterpolated t one two)
  interpolated_by t made (Ok i) valid first second by is =
      formed_by t made i (is_formed i.formula) (rightly t one two n i valid (record { left = first.0; right = first.1 }) (record { left = second.0; right = second.1 }) by) refl is
  interpolated_by t made (Err (interpolation.Cut step)) valid first second by is = cc
  interpolated_by t made (Err (interpolation.Defined f side)) valid first second by is = cc
  interpolated_by t made (Err (interpolation.Partition f side)) valid first second by is = cc
  interpolated_by t made (Err interpolation.Budget) valid first second by is = cc
  interpolated_by t made (Err interpolation.Memory) valid first second by is = cc

  pub interpolation_made : (v : Option Value) (made : Product) → AreFormedSides one × AreFormedSides two → IfSome v IsSound
      → over (proof_given of v) (λ t. interpolated (interpolating t one two n)) ≡ product made
      → (t : Tree) × (proof_given of v ≡ found t) × AnInterpolant made (IsInterpolated t one two)
  interpolation_made v made formed sound is =
      let given = over_made (proof_given of v) (λ t. interpolated (interpolating t one two n)) made is in
      (given.0, given.1, interpolated_by given.0 made (interpolating given.0 one two n) (found_valid of v given.0 sound given.1) formed.0 formed.1 refl given.2)
