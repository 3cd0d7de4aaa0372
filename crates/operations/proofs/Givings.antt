-- What an operation comes to, by what its fields are given.
use Rattle.std.proofs.Common.{◌≡◌, ℕ, Err, refl, sym, ap, ◌∙◌, subst, inr}
use Rattle.proof_trees.specs.Trees.{Tree}
use Rattle.tptp_problem.specs.declared.problems.Problem.{Problem}
use Rattle.proof_graph.specs.declared.graph.Graph.{Graph}
use Rattle.operation_laws.specs.declared.refusals.Refusal.{Refusal}
use Rattle.operations.specs.declared.answers.Absent.{Absent}
use Rattle.operations.specs.declared.answers.Absent.TheVariants as absent
use Rattle.operations.specs.declared.answers.Ran.{Ran}
use Rattle.operations.specs.declared.answers.Ran.TheVariants as ran
use Rattle.operation_laws.specs.Answers.{Answer, refused, lacking, Asked, one}
use Rattle.operation_laws.specs.Given.{Found, missing, wanting, found}
use Rattle.operation_laws.specs.Running.{over, over_both, to_eliminate, to_solve, to_saturate}
use Rattle.operations.specs.Means.{Finds, IsFound, FindsProof, without, Comes, ComesTo}

-- a field that is given nothing, where a fault of the field is refused and want of memory is lacking
module _ {T A : Type 0} (g : Graph) (of : T → A) (asks : Found A → Asked) (refuses : (t : Refusal) → asks (missing t) ≡ one (refused t)) (lacks : asks wanting ≡ one lacking) where
  without_asked : (a : Absent) (f : Found A) → Finds of (Err a) f → ComesTo g (without a) (asks f)
  without_asked (absent.Refused t) f is = subst (ComesTo g (ran.Refused t)) (sym (ap asks is ∙ refuses t)) refl
  without_asked absent.Unnamed (missing t) shows = subst (ComesTo g ran.Unnamed) (sym (refuses t)) shows
  without_asked absent.Unnamed wanting shows = absurd shows
  without_asked absent.Unnamed (found a) shows = absurd shows
  without_asked absent.Wanting f is = subst (ComesTo g ran.Lacking) (sym (ap asks is ∙ lacks)) tt
  without_asked absent.Unmade f none = absurd none

  pub absent_from : (a : Absent) (r : Ran) (f : Found A) → r ≡ without a → Finds of (Err a) f → ComesTo g r (asks f)
  absent_from a r f is finds = subst (λ q. ComesTo g q (asks f)) (sym is) (without_asked a f finds)

pub absent_comes : {T A : Type 0} (g : Graph) (of : T → A) (a : Absent) (r : Ran) (f : Found A) (k : A → Answer) → r ≡ without a → Finds of (Err a) f → Comes g r (over f k)
absent_comes g of a r f k = absent_from g of (λ h. one (over h k)) (λ t. refl) refl a r f

-- The same of a field for a proof, which there may have been no memory to make: whatever proof that is, want of memory may be answered.
module _ {T A : Type 0} (g : Graph) (of : T → A) (asks : Found A → Asked) (refuses : (t : Refusal) → asks (missing t) ≡ one (refused t)) (lacks : asks wanting ≡ one lacking)
    (may_lack : (x : A) → ComesTo g ran.Lacking (asks (found x))) where
  unmade_asked : (f : Found A) → IsFound f → ComesTo g ran.Lacking (asks f)
  unmade_asked (missing t) none = absurd none
  unmade_asked wanting none = absurd none
  unmade_asked (found x) there = may_lack x

  without_proof : (a : Absent) (f : Found A) → FindsProof of (Err a) f → ComesTo g (without a) (asks f)
  without_proof (absent.Refused t) f finds = absent_from g of asks refuses lacks (absent.Refused t) _ f refl finds
  without_proof absent.Unnamed f finds = absent_from g of asks refuses lacks absent.Unnamed _ f refl finds
  without_proof absent.Wanting f finds = absent_from g of asks refuses lacks absent.Wanting _ f refl finds
  without_proof absent.Unmade f finds = unmade_asked f finds

  pub proofless_from : (a : Absent) (r : Ran) (f : Found A) → r ≡ without a → FindsProof of (Err a) f → ComesTo g r (asks f)
  proofless_from a r f is finds = subst (λ q. ComesTo g q (asks f)) (sym is) (without_proof a f finds)

pub proofless_comes : {T A : Type 0} (g : Graph) (of : T → A) (a : Absent) (r : Ran) (f : Found A) (k : A → Answer) → ((x : A) → Comes g ran.Lacking (k x))
    → r ≡ without a → FindsProof of (Err a) f → Comes g r (over f k)
proofless_comes g of a r f k may_lack = proofless_from g of (λ h. one (over h k)) (λ t. refl) refl may_lack a r f

-- the same where a proof without cuts is asked for
pub proofless_asked : {T : Type 0} (g : Graph) (of : T → Tree) (a : Absent) (r : Ran) (f : Found Tree) → r ≡ without a → FindsProof of (Err a) f → ComesTo g r (to_eliminate f)
proofless_asked g of = proofless_from g of to_eliminate (λ t. refl) refl (λ t. (lacking, inr refl, tt))

-- a field for a problem, where a model or a refutation is asked for, and rounds of resolution
pub absent_solved : {T : Type 0} (g : Graph) (of : T → Problem) (a : Absent) (r : Ran) (f : Found Problem) → r ≡ without a → Finds of (Err a) f → ComesTo g r (to_solve f)
absent_solved g of = absent_from g of to_solve (λ t. refl) refl

pub absent_saturated : {T : Type 0} (g : Graph) (of : T → Problem) (a : Absent) (r : Ran) (n : ℕ) (f : Found Problem) → r ≡ without a → Finds of (Err a) f → ComesTo g r (to_saturate n f)
absent_saturated g of a r n = absent_from g of (to_saturate n) (λ t. refl) refl a r

-- a field that is given something
pub found_comes : {A : Type 0} (g : Graph) (r : Ran) (f : Found A) (a : A) (k : A → Answer) → f ≡ found a → Comes g r (k a) → Comes g r (over f k)
found_comes g r f a k is comes = subst (λ w. Comes g r (over w k)) (sym is) comes

-- two fields, the first of them for a proof
module _ {A B : Type 0} (g : Graph) (f : Found A) (s : Found B) (k : A → B → Answer) where
  pub first_comes : (r : Ran) (a : A) → f ≡ found a → Comes g r (over s (k a)) → Comes g r (over_both f s k)
  first_comes r a is comes = subst (λ w. Comes g r (over_both w s k)) (sym is) comes

  pub first_refused : {T : Type 0} (of : T → A) (a : Absent) (r : Refusal) → a ≡ absent.Refused r → FindsProof of (Err a) f → Comes g (ran.Refused r) (over_both f s k)
  first_refused of a r is finds = ap (λ w. over_both w s k) (subst (λ b. FindsProof of (Err b) f) is finds)

  pub first_unnamed : {T : Type 0} (of : T → A) (a : Absent) → a ≡ absent.Unnamed → FindsProof of (Err a) f → Comes g ran.Unnamed (over_both f s k)
  first_unnamed of a is finds = by_found f (subst (λ b. FindsProof of (Err b) f) is finds)
    where
      by_found : (h : Found A) → FindsProof of (Err absent.Unnamed) h → Comes g ran.Unnamed (over_both h s k)
      by_found (missing r) shows = shows
      by_found wanting shows = absurd shows
      by_found (found a) shows = absurd shows

  pub first_wanting : {T : Type 0} (of : T → A) (a : Absent) (r : Ran) → a ≡ absent.Wanting → FindsProof of (Err a) f → Comes g r (over s (λ b. lacking)) → Comes g r (over_both f s k)
  first_wanting of a r is finds comes = subst (λ w. Comes g r (over_both w s k)) (sym (subst (λ b. FindsProof of (Err b) f) is finds)) comes

  -- what comes where the second field has a fault, or else memory is wanting
  behind_first : (r : Ran) → ((x : A) (y : B) → Comes g r lacking → Comes g r (k x y)) → (x : A) (t : Found B) → Comes g r (over t (λ b. lacking)) → Comes g r (over t (k x))
  behind_first r may_lack x (missing q) comes = comes
  behind_first r may_lack x wanting comes = comes
  behind_first r may_lack x (found y) comes = may_lack x y comes

  pub first_unmade : {T : Type 0} (of : T → A) (a : Absent) (r : Ran) → ((x : A) (y : B) → Comes g r lacking → Comes g r (k x y)) → a ≡ absent.Unmade → FindsProof of (Err a) f
      → Comes g r (over s (λ b. lacking)) → Comes g r (over_both f s k)
  first_unmade of a r may_lack is finds comes = by_found f (subst (λ b. FindsProof of (Err b) f) is finds)
    where
      by_found : (h : Found A) → FindsProof of (Err absent.Unmade) h → Comes g r (over_both h s k)
      by_found (missing q) none = absurd none
      by_found wanting none = absurd none
      by_found (found x) there = behind_first r may_lack x s comes
