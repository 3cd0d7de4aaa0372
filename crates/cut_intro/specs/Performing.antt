-- What the parts of a proof with a cut come to.
--     tree_with, performed      the proof by proofs of what is searched; the same by searches
--     IsReady      both searches find proofs, and all inferences are right over these
--     IsShort, IsShortOfOne      the fault says that a search visits more sequents than it may, or one of two searches
--     Performs      the proof is made, or one of the searches visits more sequents than it may
use Rattle.std.specs.Prelude.{◌≡◌, ℕ, ◌<◌, ◌≤◌, ◌⊎◌, Option, Some, Result, Ok, Err}
use Rattle.lk_rules.specs.declared.sequent.Sequent.{Sequent}
use Rattle.lk_rules.specs.declared.rule.Rule.TheVariants.{Cut}
use Rattle.proof_trees.specs.Trees.{Tree, node, none, more, concl, IsInference}
use Rattle.search_laws.specs.Truth.{IsPropositional}
use Rattle.search_laws.specs.Search.{Walk, visits, walk}
use Rattle.proof_graph.specs.References.{Reference}
use Rattle.prop_search.specs.Deciding.{IsProved}
use Rattle.herbrand_laws.specs.Introduction.{from_walks}
use Rattle.introduction_laws.specs.declared.fault.IntroFault.{IntroFault}
use Rattle.introduction_laws.specs.declared.fault.IntroFault.TheVariants as fault
use Rattle.cut_intro.specs.declared.performing.Cutting.{Cutting}
use Rattle.cut_intro.specs.Branches.{over_each, AreInferences}

-- the proof with the cut, over proofs of what is searched
abbrev pub tree_with : Sequent → Cutting → Tree → Tree → Tree
tree_with s c l r = node (Cut c.formula) s (more (over_each c.left.inferences.items l) (more (over_each c.right.inferences.items r) none))

-- the same by search
abbrev pub performed : Sequent → Cutting → Option Tree
performed s c = from_walks (tree_with s c) (walk c.left.searched) (walk c.right.searched)

-- what is searched has no quantifier and is proved, and over any proofs of it all inferences are right
pub record IsReady (s : Sequent) (c : Cutting) : Type 0 where
  pub left_propositional : IsPropositional c.left.searched
  pub right_propositional : IsPropositional c.right.searched
  pub left_proved : IsProved (walk c.left.searched)
  pub right_proved : IsProved (walk c.right.searched)
  pub left : (t : Tree) → concl t ≡ c.left.searched → AreInferences c.left.inferences.items t
  pub right : (t : Tree) → concl t ≡ c.right.searched → AreInferences c.right.inferences.items t
  pub root : (l r : Tree) → concl l ≡ c.left.searched → concl r ≡ c.right.searched
      → IsInference (Cut c.formula) s (more (over_each c.left.inferences.items l) (more (over_each c.right.inferences.items r) none))

-- the fault says that a search visits more than n sequents, or that memory ran out
abbrev pub IsShort : IntroFault → ℕ → Walk → Type 0
IsShort fault.Budget n w = n < visits w
IsShort fault.Memory n w = Unit {0}
IsShort (fault.Cut k) n w = ⊥
IsShort (fault.NotPrenex f side) n w = ⊥
IsShort (fault.TooMany k) n w = ⊥

-- the same of two searches
abbrev pub IsShortOfOne : IntroFault → ℕ → Walk → Walk → Type 0
IsShortOfOne fault.Budget n v w = (n < visits v) ⊎ (n < visits w)
IsShortOfOne fault.Memory n v w = Unit {0}
IsShortOfOne (fault.Cut k) n v w = ⊥
IsShortOfOne (fault.NotPrenex f side) n v w = ⊥
IsShortOfOne (fault.TooMany k) n v w = ⊥

-- by two searches that visit at most n sequents each a proof is made; else the fault says that one visits more
abbrev pub Performs : Result Reference IntroFault → ℕ → Walk → Walk → Option Tree → Type 0
Performs (Ok r) n v w made = (visits v ≤ n) × (visits w ≤ n) × (made ≡ Some r.tree)
Performs (Err e) n v w made = IsShortOfOne e n v w
