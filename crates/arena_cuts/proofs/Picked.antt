-- Which case of contraction a cut is, by the tests that were made.
use Rattle.std.proofs.Common.{◌≡◌, Bool, true, false, ◌&&◌, not as negated, if◌then◌else◌, ◌∙◌}
use Rattle.fol.specs.Syntax.{Formula}
use Rattle.lk_rules.specs.declared.sequent.Sequent.{Sequent}
use Rattle.lk_rules.specs.declared.sequent.Side.{Side}
use Rattle.lk_rules.specs.declared.sequent.Side.TheVariants.{Left, Right}
use Rattle.lk_rules.specs.Sequents.{is_subsequent}
use Rattle.proof_trees.specs.Trees.{Tree, concl, below}
use Rattle.cut_laws.specs.declared.case.Case.{Case}
use Rattle.cut_laws.specs.declared.case.Case.TheVariants.{Weaken, Leaf, Pass, Split, Reduce}
use Rattle.cut_laws.specs.Contraction.{introduces, is_leaf, has_above, premise_on, pick, case_of}

-- the test is passed by the premise on that side first, or by neither

abbrev pub First : (Side → Bool) → Side → Type 0
First test Right = true ≡ test Right
First test Left = (false ≡ test Right) × (true ≡ test Left)

abbrev pub Neither : (Side → Bool) → Type 0
Neither test = (false ≡ test Right) × (false ≡ test Left)

module _ (test : Side → Bool) (case : Side → Case) (other : Case) where
  picked : (side : Side) → First test side → case side ≡ pick test case other
  picked Right h = λ i. if h i then case Right else if test Left then case Left else other
  picked Left h = λ i. if h.0 i then case Right else if h.1 i then case Left else other

  passed_over : Neither test → other ≡ pick test case other
  passed_over h = λ i. if h.0 i then case Right else if h.1 i then case Left else other

module _ (s : Sequent) (a : Formula) (l r : Tree) where
  abbrev weakens : Side → Bool
  weakens side = is_subsequent (concl (premise_on side l r)) s

  abbrev leaves : Side → Bool
  leaves side = is_leaf (premise_on side l r) && negated (introduces side a (premise_on side l r))

  abbrev passes : Side → Bool
  passes side = negated (introduces side a (premise_on side l r))

  abbrev splits : Side → Bool
  splits side = has_above side a (below (premise_on side l r))

  pub picks_weaken : (side : Side) → First weakens side → Weaken side ≡ case_of s a l r
  unfolding case_of
  picks_weaken = picked weakens Weaken _

  module _ (not_weakened : Neither weakens) where
    after_weaken : pick leaves Leaf (pick passes Pass (pick splits Split Reduce)) ≡ case_of s a l r
    unfolding case_of
    after_weaken = passed_over weakens Weaken _ not_weakened

    pub picks_leaf : (side : Side) → First leaves side → Leaf side ≡ case_of s a l r
    picks_leaf side h = picked leaves Leaf _ side h ∙ after_weaken

    module _ (no_leaf : Neither leaves) where
      after_leaf : pick passes Pass (pick splits Split Reduce) ≡ case_of s a l r
      after_leaf = passed_over leaves Leaf _ no_leaf ∙ after_weaken

      pub picks_pass : (side : Side) → First passes side → Pass side ≡ case_of s a l r
      picks_pass side h = picked passes Pass _ side h ∙ after_leaf

      module _ (introduced : Neither passes) where
        pub picks_split : (side : Side) → First splits side → Split side ≡ case_of s a l r
        picks_split side h = picked splits Split Reduce side h ∙ passed_over passes Pass _ introduced ∙ after_leaf

        pub picks_reduce : Neither splits → Reduce ≡ case_of s a l r
        picks_reduce h = passed_over splits Split Reduce h ∙ passed_over passes Pass _ introduced ∙ after_leaf
