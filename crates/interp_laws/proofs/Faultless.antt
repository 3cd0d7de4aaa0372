-- What isn't refused is as interpolation asks for.
use Rattle.std.proofs.Common.{◌≡◌, ℕ, ◌≤◌, true, false, None, Ok, refl, sym, subst}
use Rattle.finite.specs.Finite as set
use Rattle.lk_rules.specs.declared.sequent.Sequent.{Sequent}
use Rattle.lk_rules.specs.Sequents.{union_sequent}
use Rattle.proof_trees.specs.Trees.{Tree, concl, IsValid, size}
use Rattle.proof_trees.specs.Conclusions as conclusions
use Rattle.proof_trees.specs.Occurrence.{has_body_in_sequent}
use Rattle.step_laws.proofs.CutPlaces.{no_first_cut}
use Rattle.step_laws.proofs.Found.{plain_found}
use Rattle.interp_laws.specs.Interpolation.{Interpolation, itp}
use Rattle.interp_laws.specs.Parts.{IsFormedSequent, HasParts}
use Rattle.interp_laws.specs.Interpolating.{interpolating}
use Rattle.interp_laws.proofs.InterpolationOrder.{IsFaultless, faultless}
use Rattle.interp_laws.proofs.Differences.{equal_found}

module _ (t : Tree) (one two : Sequent) (n : ℕ) (i : Interpolation) (answered : interpolating t one two n ≡ Ok i) where
  here : IsFaultless t one two n i
  here = faultless t one two n i answered

  pub interpolation : i ≡ itp t one two
  interpolation = here.is

  pub union : union_sequent one two ≡ concl t
  union = (equal_found (union_sequent one two) (concl t)).0 here.same

  pub bodies : has_body_in_sequent (concl t) ≡ false
  bodies = (plain_found (concl t)).0 here.no_body

  pub budget : size t ≤ n
  budget = here.small

  pub parts : IsValid t → IsFormedSequent one → IsFormedSequent two → HasParts t one two
  parts valid first second = record {
    valid = valid;
    without_cuts = (no_first_cut t None (sym here.no_cut)).0 refl;
    first_formed = first;
    second_formed = second;
    together = record { left = λ f h. subst (λ (s : Sequent). set.has s.left f ≡ true) (sym union) h; right = λ f h. subst (λ (s : Sequent). set.has s.right f ≡ true) (sym union) h };
  }
