-- What holds of each input clause, and passes to images and resolvents, holds of each clause that steps derive.
use Rattle.std.proofs.Common.{◌≡◌, ℕ, suc, ◌-◌, Bool, true, false, ◌&&◌, if◌then◌else◌, List, [], ◌∷◌, ◌++◌, length, refl, subst, arith}
use Rattle.std.specs.Prelude.{Option, Some, None, slice_get, Result, Ok, Err}
use Rattle.std.specs.FinMap as fin
use Rattle.std.specs.List.{All}
use Rattle.std.proofs.lemmas.List.Elements.{All-head, All-tail, All-push}
use Rattle.std.proofs.lemmas.Option.{slice_get_within, get_or_from_slice_get}
use Rattle.fol.specs.Syntax.{Formula}
use Rattle.fol.specs.Formed.{IsFormed}
use Rattle.finite.specs.Finite as set
use Rattle.substitution.specs.Image.{IsFormedMap}
use Rattle.substitution.specs.Maps.{Map}
use Rattle.lk_rules.specs.declared.sequent.Sequent.{Sequent}
use Rattle.lk_rules.specs.Sequents.{empty, same_sequents}
use Rattle.lk_rules.proofs.Subsequents.{sequents_equality_same}
use Rattle.proof_trees.specs.Trees.{Tree}
use Rattle.refutations.specs.declared.clause.Clause.{Clause}
use Rattle.refutations.specs.declared.step.ResStep.{ResStep}
use Rattle.refutations.specs.declared.step.ResStep.TheVariants.{Input, Subst, Resolve}
use Rattle.refutations.specs.declared.step.ResCause.{ResCause}
use Rattle.refutations.specs.declared.step.ResCause.TheVariants.{AtomMissing, NotEmpty}
use Rattle.refutations.specs.DerivedSteps.{image_of, resolved}
use Rattle.refutations.specs.Refutations.{Derived, of_input, of_resolution, referred, derives, and_on, derives_all, concluded, last_of, IsFormedStep, AreFormedSteps}

-- an element that is there
pub found_in : {A : Type 0} (P : A → Type 0) (xs : List A) (k : ℕ) (x : A) → All P xs → slice_get xs k ≡ Some x → P x
found_in P xs k x h is = subst P (get_or_from_slice_get xs k x x is) (h k x (slice_get_within xs k x is))

-- the last clause of a refutation, which is empty, with its tree
pub record IsLast (P : Derived → Type 0) (t : Tree) : Type 0 where
  pub last : Derived
  pub holds : P last
  pub nothing : last.clause ≡ empty
  pub tree : last.tree ≡ t

module _ (cs : List Clause) (g : Sequent) (P : Derived → Type 0)
    (inputs : (i : ℕ) (c : Clause) → slice_get cs i ≡ Some c → P (of_input g c))
    (images : (m : Map) (d : Derived) → IsFormedMap (fin.get m) → P d → P (image_of m d))
    (resolvents : (a : Formula) (p n : Derived) → IsFormed a → P p → P n → P (resolved g p n a))
  where
    by_input : (i : ℕ) (o : Option Clause) (d : Derived) → slice_get cs i ≡ o → referred o (λ c. Ok (of_input g c)) ≡ Ok d → P d
    by_input i None d at is = cc
    by_input i (Some c) d at is = let same : of_input g c ≡ d = cc in subst P same (inputs i c at)

    by_image : (ds : List Derived) → All P ds → (k : ℕ) (m : Map) → IsFormedMap (fin.get m) → (o : Option Derived) (d : Derived) → slice_get ds k ≡ o → referred o (λ e. Ok (image_of m e)) ≡ Ok d → P d
    by_image ds h k m formed None d at is = cc
    by_image ds h k m formed (Some e) d at is = let same : image_of m e ≡ d = cc in subst P same (images m e formed (found_in P ds k e h at))

    by_test : (a : Formula) (p n d : Derived) → IsFormed a → P p → P n → (b : Bool) → (if b then Ok (resolved g p n a) else Err AtomMissing) ≡ Ok d → P d
    by_test a p n d formed first second true is = let same : resolved g p n a ≡ d = cc in subst P same (resolvents a p n formed first second)
    by_test a p n d formed first second false is = cc

    by_resolution : (ds : List Derived) → All P ds → (i j : ℕ) (a : Formula) → IsFormed a → (o q : Option Derived) (d : Derived) → slice_get ds i ≡ o → slice_get ds j ≡ q
        → referred o (λ p. referred q (λ n. of_resolution g p n a)) ≡ Ok d → P d
    by_resolution ds h i j a formed None q d first second is = cc
    by_resolution ds h i j a formed (Some p) None d first second is = cc
    by_resolution ds h i j a formed (Some p) (Some n) d first second is =
        by_test a p n d formed (found_in P ds i p h first) (found_in P ds j n h second) (set.has p.clause.right a && set.has n.clause.left a) is

    pub of_step : (ds : List Derived) → All P ds → (step : ResStep) → IsFormedStep step → (d : Derived) → derives cs g ds step ≡ Ok d → P d
    of_step ds h (Input i) formed d is = by_input i (slice_get cs i) d refl is
    of_step ds h (Subst k m) formed d is = by_image ds h k m formed (slice_get ds k) d refl is
    of_step ds h (Resolve i j a) formed d is = by_resolution ds h i j a formed (slice_get ds i) (slice_get ds j) d refl refl is

    by_outcome : (ds : List Derived) → All P ds → (i : ℕ) (step : ResStep) (rest : List ResStep) → IsFormedStep step → (out : List Derived)
        → ((d : Derived) → All P (ds ++ d ∷ []) → derives_all cs g (ds ++ d ∷ []) (suc i) rest ≡ Ok out → All P out)
        → (r : Result Derived ResCause) → derives cs g ds step ≡ r → and_on i r (λ d. derives_all cs g (ds ++ d ∷ []) (suc i) rest) ≡ Ok out → All P out
    by_outcome ds h i step rest formed out go_on (Ok d) given is = go_on d (All-push P ds d h (of_step ds h step formed d given)) is
    by_outcome ds h i step rest formed out go_on (Err cause) given is = cc

    of_steps : (ds : List Derived) → All P ds → (i : ℕ) (steps : List ResStep) → AreFormedSteps steps → (out : List Derived) → derives_all cs g ds i steps ≡ Ok out → All P out
    of_steps ds h i [] formed out is = let same : ds ≡ out = cc in subst (All P) same h
    of_steps ds h i (step ∷ rest) formed out is =
        by_outcome ds h i step rest (All-head IsFormedStep step rest formed) out (λ d more. of_steps (ds ++ d ∷ []) more (suc i) rest (All-tail IsFormedStep step rest formed) out) (derives cs g ds step) refl is

    by_emptiness : (n : ℕ) (d : Derived) (t : Tree) → P d → (b : Bool) → b ≡ same_sequents d.clause empty → if◌then◌else◌ {A = Result Tree (ℕ × ResCause)} b (Ok d.tree) (Err (n - 1, NotEmpty)) ≡ Ok t → IsLast P t
    by_emptiness n d t h true same is = record { last = d; holds = h; nothing = (sequents_equality_same d.clause empty true same).0 refl; tree = cc }
    by_emptiness n d t h false same is = cc

    by_last : (ds : List Derived) → All P ds → (n : ℕ) (o : Option Derived) (t : Tree) → slice_get ds (n - 1) ≡ o → concluded n o ≡ Ok t → IsLast P t
    by_last ds h n None t at is = cc
    by_last ds h n (Some d) t at is = by_emptiness n d t (found_in P ds (n - 1) d h at) (same_sequents d.clause empty) refl is

    by_outcomes : (steps : List ResStep) → AreFormedSteps steps → (r : Result (List Derived) (ℕ × ResCause)) (t : Tree) → derives_all cs g [] 0 steps ≡ r → last_of (length steps) r ≡ Ok t → IsLast P t
    by_outcomes steps formed (Err fault) t given is = cc
    by_outcomes steps formed (Ok ds) t given is =
        by_last ds (of_steps [] (λ k d l. absurd (omega arith)) 0 steps formed ds given) (length steps) (slice_get ds (length steps - 1)) t refl is

    pub last_of_steps : (steps : List ResStep) → AreFormedSteps steps → (t : Tree) → last_of (length steps) (derives_all cs g [] 0 steps) ≡ Ok t → IsLast P t
    last_of_steps steps formed t is = by_outcomes steps formed (derives_all cs g [] 0 steps) t refl is
