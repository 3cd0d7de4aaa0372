-- The proofs of an interpolation, and the quantifiers of a small interpolant.
use Rattle.std.proofs.Common.{◌≡◌, ℕ, ◌<◌, ◌≤◌, sym, subst, arith}
use Rattle.std.proofs.lemmas.List.Sums.{list_all-from_AllPass}
use Rattle.fol.specs.Syntax.{Formula}
use Rattle.fol.specs.OrderLaws.{formula_total}
use Rattle.fol.specs.Facts.{formula_size}
use Rattle.fol.specs.Formed.{is_formed, IsFormed}
use Rattle.substitution.specs.Instance.{nesting}
use Rattle.substitution.proofs.Shut.{nesting_within}
use Rattle.finite.specs.Finite as set
use Rattle.finite.proofs.Finite.{all-adds}
use Rattle.lk_rules.specs.declared.sequent.Sequent.{Sequent}
use Rattle.lk_rules.specs.declared.sequent.Side.TheVariants.{Left, Right}
use Rattle.lk_rules.specs.Sequents.{adds_to}
use Rattle.lk_rules.proofs.Listings.{alike}
use Rattle.proof_trees.specs.Trees.{Tree, concl, IsValid}
use Rattle.proof_trees.specs.Conclusions as conclusions
use Rattle.interp_laws.specs.Interpolation.{Interpolation}
use Rattle.interp_laws.specs.Parts.{IsFormedSequent}
use Rattle.lk_interp.specs.Interpolating.{AreProofs}

-- a sequent of well-formed formulas with one more
listed : (s : Sequent) → IsFormedSequent s → conclusions.IsFormedSequent s
listed s h = record { left = list_all-from_AllPass is_formed (set.listing s.left) h.left; right = list_all-from_AllPass is_formed (set.listing s.right) h.right }

pub with_left : (s : Sequent) (f : Formula) → IsFormedSequent s → IsFormed f → conclusions.IsFormedSequent (adds_to s Left f)
with_left s f h formed =
    let k = listed s h in
    record { left = all-adds formula_total is_formed (alike is_formed) s.left f k.left formed; right = k.right }

pub with_right : (s : Sequent) (f : Formula) → IsFormedSequent s → IsFormed f → conclusions.IsFormedSequent (adds_to s Right f)
with_right s f h formed =
    let k = listed s h in
    record { left = k.left; right = all-adds formula_total is_formed (alike is_formed) s.right f k.right formed }

-- both proofs have well-formed end sequents, if the interpolant is well formed
pub are_proofs : (t : Tree) (one two : Sequent) (i : Interpolation) → IsValid i.first × IsValid i.second → (concl i.first ≡ adds_to one Right i.formula) × (concl i.second ≡ adds_to two Left i.formula) → IsFormedSequent one → IsFormedSequent two → IsFormed i.formula → AreProofs i
are_proofs t one two i valid ends first second formed = record {
  first = valid.0;
  second = valid.1;
  first_formed = subst (λ (s : Sequent). conclusions.IsFormedSequent s) (sym ends.0) (with_right one i.formula first formed);
  second_formed = subst (λ (s : Sequent). conclusions.IsFormedSequent s) (sym ends.1) (with_left two i.formula second formed);
}

-- a formula of few nodes has few quantifiers
pub few_quantifiers : (f : Formula) (n k m : ℕ) → n ≡ formula_size f → n ≤ k → k < m → nesting f < m
few_quantifiers f n k m is within above = omega (arith, nesting_within f)
