-- What the Herbrand instances of a proof and the introduction of a cut make.
use Rattle.std.proofs.Common.{◌≡◌, ℕ, ◌<◌, Bool, true, false, cond, List, Option, Result, Ok, Err, refl, sym, subst}
use Rattle.std.specs.Prelude.{IfSome}
use Rattle.proof_trees.specs.Trees.{Tree, concl, quants, IsValid}
use Rattle.herbrand_laws.specs.Herbrand.{Item, herbrand_sequent}
use Rattle.herbrand_laws.specs.Introduction.{IsProofWithCut}
use Rattle.herbrand_laws.specs.Counted.{counted}
use Rattle.introduction_laws.specs.declared.fault.HerbrandFault.{HerbrandFault}
use Rattle.introduction_laws.specs.declared.fault.HerbrandFault.TheVariants as instances
use Rattle.introduction_laws.specs.declared.fault.IntroFault.{IntroFault}
use Rattle.introduction_laws.specs.declared.fault.IntroFault.TheVariants as introduction
use Rattle.introduction_laws.specs.Instancing.{instancing}
use Rattle.introduction_laws.specs.Introducing.{Answer as Introduction, shorter, same, introducing, has_formed_instances}
use Rattle.operation_laws.specs.Values.{Value, IsSound}
use Rattle.operation_laws.specs.Answers.{Product, herbrand, introduced, lacking, product, capped}
use Rattle.operation_laws.specs.Given.{found, proof_given}
use Rattle.operation_laws.specs.Running.{over, instanced, shortened}
use Rattle.operation_laws.specs.Claims.{AHerbrandSequent, AnIntroduction, IsHerbrandOf, IsIntroduced}
use Rattle.operation_laws.proofs.Making.{found_valid, over_made}

-- the Herbrand sequent of a valid proof
abbrev pub InstancesRightly : Type 0
InstancesRightly = (t : Tree) (n : ℕ) (items : List Item) → IsValid t → instancing t n ≡ Ok items → IsHerbrandOf t (capped (counted items)) (herbrand_sequent items)

-- a shorter proof that takes the place of a valid one
abbrev pub IntroducesRightly : Type 0
IntroducesRightly = (width : ℕ) (t u : Tree) (n : ℕ) → IsValid t → has_formed_instances t ≡ true → introducing width t n ≡ Ok (shorter u)
    → (k : ℕ) × IsProofWithCut (concl t) k u × (k < quants t)

module _ (rightly : InstancesRightly) (of : List ℕ) (n : ℕ) where
  instanced_by : (t : Tree) (made : Product) (r : Result (List Item) HerbrandFault) → IsValid t → instancing t n ≡ r → instanced r ≡ product made
      → AHerbrandSequent made (IsHerbrandOf t)
  instanced_by t made (Ok items) valid by is =
      let same : herbrand (capped (counted items)) (herbrand_sequent items) ≡ made = cc in
      subst (λ p. AHerbrandSequent p (IsHerbrandOf t)) same (rightly t n items valid by)
  instanced_by t made (Err (instances.Cut step)) valid by is = cc
  instanced_by t made (Err (instances.NotPrenex f side)) valid by is = cc
  instanced_by t made (Err instances.Budget) valid by is = cc
  instanced_by t made (Err instances.Memory) valid by is = cc

  pub herbrand_made : (v : Option Value) (made : Product) → IfSome v IsSound → over (proof_given of v) (λ t. instanced (instancing t n)) ≡ product made
      → (t : Tree) × (proof_given of v ≡ found t) × AHerbrandSequent made (IsHerbrandOf t)
  herbrand_made v made sound is =
      let given = over_made (proof_given of v) (λ t. instanced (instancing t n)) made is in
      (given.0, given.1, instanced_by given.0 made (instancing given.0 n) (found_valid of v given.0 sound given.1) refl given.2)

-- the proof with the cut, and the given one
cut_introduced : (t u : Tree) (k : ℕ) → IsProofWithCut (concl t) k u → k < quants t → IsIntroduced t u true
cut_introduced t u k proof less = record {
  right = record { valid = proof.valid; ends = proof.end };
  shortened = λ is. (proof.one_cut, subst (λ j. j < quants t) (sym proof.inferences) less);
  same = λ is. absurd (cc);
}

unchanged : (t : Tree) → IsValid t → IsIntroduced t t false
unchanged t valid = record { right = record { valid = valid; ends = refl }; shortened = λ is. absurd (cc); same = λ is. refl }

module _ (rightly : IntroducesRightly) (of : List ℕ) (width n : ℕ) where
  shorter_by : (t u : Tree) (made : Product) (b : Bool) → IsValid t → introducing width t n ≡ Ok (shorter u) → has_formed_instances t ≡ b
      → cond b (product (introduced u true)) lacking ≡ product made → AnIntroduction made (IsIntroduced t)
  shorter_by t u made true valid by formed is =
      let this : introduced u true ≡ made = cc in
      let proof = rightly width t u n valid formed by in
      subst (λ p. AnIntroduction p (IsIntroduced t)) this (cut_introduced t u proof.0 proof.1 proof.2)
  shorter_by t u made false valid by formed is = cc

  introduced_by : (t : Tree) (made : Product) (r : Result Introduction IntroFault) → IsValid t → introducing width t n ≡ r → shortened t r ≡ product made
      → AnIntroduction made (IsIntroduced t)
  introduced_by t made (Ok (shorter u)) valid by is = shorter_by t u made (has_formed_instances t) valid by refl is
  introduced_by t made (Ok same) valid by is =
      let this : introduced t false ≡ made = cc in subst (λ p. AnIntroduction p (IsIntroduced t)) this (unchanged t valid)
  introduced_by t made (Err (introduction.Cut step)) valid by is = cc
  introduced_by t made (Err (introduction.NotPrenex f side)) valid by is = cc
  introduced_by t made (Err introduction.Budget) valid by is = cc
  introduced_by t made (Err (introduction.TooMany k)) valid by is = cc
  introduced_by t made (Err introduction.Memory) valid by is = cc

  pub cutintro_made : (v : Option Value) (made : Product) → IfSome v IsSound → over (proof_given of v) (λ t. shortened t (introducing width t n)) ≡ product made
      → (t : Tree) × (proof_given of v ≡ found t) × AnIntroduction made (IsIntroduced t)
  cutintro_made v made sound is =
      let given = over_made (proof_given of v) (λ t. shortened t (introducing width t n)) made is in
      (given.0, given.1, introduced_by given.0 made (introducing width given.0 n) (found_valid of v given.0 sound given.1) refl given.2)
