-- What each case of a contraction tells of the cut.
use Rattle.std.proofs.Common.{◌≡◌, Bool, true, false, ◌&&◌, not, if◌then◌else◌, refl}
use Rattle.std.proofs.lemmas.Bool.{not-true, not-false}
use Rattle.fol.specs.Syntax.{Formula}
use Rattle.lk_rules.specs.declared.sequent.Sequent.{Sequent}
use Rattle.lk_rules.specs.declared.sequent.Side.{Side}
use Rattle.lk_rules.specs.declared.sequent.Side.TheVariants.{Left, Right}
use Rattle.lk_rules.specs.Sequents.{is_subsequent}
use Rattle.proof_trees.specs.Trees.{Tree, concl, rule_of, below, IsValid}
use Rattle.cut_laws.specs.declared.case.Case.{Case}
use Rattle.cut_laws.specs.declared.case.Case.TheVariants.{Weaken, Leaf, Pass, Split, Reduce}
use Rattle.cut_laws.specs.Contraction.{introduces, has_above, is_leaf, cut, opposite, premise_on, pick, case_of}
use Rattle.cut_laws.proofs.Cuts.{valid_cuts}
use Rattle.cut_laws.proofs.Introduced.{IsIntroduction}
use Rattle.cut_laws.proofs.ValidCuts.{introduction}

-- for both sides
pub each : (P : Side → Type 0) → P Right → P Left → (side : Side) → P side
each P right left Left = left
each P right left Right = right

-- what holds of each case that may be picked
picked : (P : Case → Type 0) (test : Side → Bool) (case : Side → Case) (other : Case)
    → (test Right ≡ true → P (case Right)) → (test Right ≡ false → test Left ≡ true → P (case Left)) → (((side : Side) → test side ≡ false) → P other) → P (pick test case other)
picked P test case other right left neither =
    elim (test Right) as (λ b. test Right ≡ b → P (if b then case Right else if test Left then case Left else other)) [
      | true ↦ right
      | false ↦ λ e. elim (test Left) as (λ b. test Left ≡ b → P (if b then case Left else other)) [
        | true ↦ left e
        | false ↦ λ f. neither (each _ e f)
      ] refl
    ] refl

-- of the cut on a with the conclusion s over l and r
module _ (s : Sequent) (a : Formula) (l r : Tree) where
  -- neither end is a subsequent of the conclusion, and both premises introduce the formula
  pub record Meets : Type 0 where
    pub outside : (side : Side) → is_subsequent (concl (premise_on side l r)) s ≡ false
    pub intro : (side : Side) → introduces side a (premise_on side l r) ≡ true

  -- what holds in each case
  abbrev pub Known : Case → Type 0
  Known (Weaken side) = is_subsequent (concl (premise_on side l r)) s ≡ true
  Known (Leaf side) = (is_leaf (premise_on side l r) && not (introduces side a (premise_on side l r))) ≡ true
  Known (Pass side) = introduces side a (premise_on side l r) ≡ false
  Known (Split side) = Meets × (has_above side a (below (premise_on side l r)) ≡ true) × (side ≡ Left → has_above Right a (below l) ≡ false)
  Known Reduce = Meets × ((side : Side) → has_above side a (below (premise_on side l r)) ≡ false)

  pub known_case : Known (case_of s a l r)
  unfolding case_of
  known_case =
      picked Known (λ side. is_subsequent (concl (premise_on side l r)) s) Weaken _ (λ e. e) (λ _ e. e) (λ outside.
      picked Known (λ side. is_leaf (premise_on side l r) && not (introduces side a (premise_on side l r))) Leaf _ (λ e. e) (λ _ e. e) (λ _.
      picked Known (λ side. not (introduces side a (premise_on side l r))) Pass _ (not-true _) (λ _. not-true _) (λ passed.
      let meets : Meets = record { outside = outside; intro = λ side. not-false _ (passed side) } in
      picked Known (λ side. has_above side a (below (premise_on side l r))) Split Reduce (λ e. (meets, e, λ f. cc)) (λ none e. (meets, e, λ _. none)) (λ none. (meets, none)))))

  -- the rules that introduce it are no axioms
  pub introductions : IsValid (cut s a l r) → Meets → (side : Side) → IsIntroduction side (rule_of (premise_on side l r)) a
  introductions h meets side =
      introduction side s a (premise_on side l r) (premise_on (opposite side) l r) (valid_cuts s a l r h side) (meets.outside (opposite side)) (meets.intro side)
