-- Tests that each formula of a sequent passes: of a conclusion and of its premises.
use Rattle.std.proofs.Common.{◌≡◌, ℕ, zero, suc, ◌+◌, ◌<◌, Bool, true, false, ◌&&◌, ◌||◌, List, ◌∙◌, arith}
use Rattle.std.specs.List.{AllByRecursion, list_all, list_any}
use Rattle.fol.specs.Syntax.{Formula}
use Rattle.finite.specs.Finite as set
use Rattle.lk_rules.specs.declared.sequent.Sequent.{Sequent}
use Rattle.lk_rules.specs.declared.sequent.Side.{Side}
use Rattle.lk_rules.specs.declared.sequent.Side.TheVariants.{Left, Right}
use Rattle.lk_rules.specs.declared.rule.Rule.{Rule}
use Rattle.lk_rules.specs.Sequents.{side_of}
use Rattle.lk_rules.specs.Rules.{main, aux, main_stands}
use Rattle.lk_rules.proofs.Subsequents.{and_left, and_right}
use Rattle.search_laws.specs.Search.{without_each, without_main, premise_at, premises_from}
use Rattle.search_laws.proofs.Tests.{regrouped, distributed, and-false}
use Rattle.search_laws.proofs.Listed.{all-adds_each, all-rest}

-- whether each formula of a sequent passes the test of its side, and each formula of two lists
abbrev pub passes : (Side → Formula → Bool) → Sequent → Bool
passes p s = list_all (p Left) (set.listing s.left) && list_all (p Right) (set.listing s.right)

abbrev pub lists_pass : (Side → Formula → Bool) → (Side → List Formula) → Bool
lists_pass p fs = list_all (p Left) (fs Left) && list_all (p Right) (fs Right)

-- whether one of n numbers from i on passes
abbrev pub some_from : (ℕ → Bool) → ℕ → ℕ → Bool
some_from p i zero = false
some_from p i (suc n) = p i || some_from p (suc i) n

module _ (p : Side → Formula → Bool) (r : Rule) (s : Sequent) where
  -- whether a side without the main formula passes
  abbrev rest_passes : Side → Bool
  rest_passes side = list_all (p side) (set.listing (side_of (without_main r s) side))

  -- a premise passes where the rest and its auxiliary formulas do
  pub passes-premise : (i : ℕ) → passes p (premise_at r s i) ≡ (passes p (without_main r s) && lists_pass p (aux r i))
  passes-premise i =
      (λ j. all-adds_each (p Left) (without_each s.left (main r Left)) (aux r i Left) j && all-adds_each (p Right) (without_each s.right (main r Right)) (aux r i Right) j)
      ∙ regrouped (rest_passes Left) (list_all (p Left) (aux r i Left)) (rest_passes Right) (list_all (p Right) (aux r i Right))

  -- the conclusion passes where the rest and the main formula do
  pub passes-conclusion : main_stands r s ≡ true → passes p s ≡ (passes p (without_main r s) && lists_pass p (main r))
  passes-conclusion stands =
      (λ j. all-rest (p Left) s.left (main r Left) (and_left _ _ stands) j && all-rest (p Right) s.right (main r Right) (and_right (list_all (set.has s.left) (main r Left)) _ stands) j)
      ∙ regrouped (rest_passes Left) (list_all (p Left) (main r Left)) (rest_passes Right) (list_all (p Right) (main r Right))

  -- one of the premises passes where the rest and the auxiliary formulas of one pass
  pub some-premises : (i n : ℕ) → list_any (passes p) (premises_from r s i n) ≡ (passes p (without_main r s) && some_from (λ j. lists_pass p (aux r j)) i n)
  some-premises i zero = and-false (passes p (without_main r s))
  some-premises i (suc n) =
      (λ j. passes-premise i j || some-premises (suc i) n j)
      ∙ distributed (passes p (without_main r s)) (lists_pass p (aux r i)) (some_from (λ j. lists_pass p (aux r j)) (suc i) n)

-- what holds of each of n premises from the i-th on
pub each_premise : (P : Sequent → Type 0) (r : Rule) (s : Sequent) (i n : ℕ) → ((j : ℕ) → j < i + n → P (premise_at r s j)) → AllByRecursion P (premises_from r s i n)
each_premise P r s i zero h = tt
each_premise P r s i (suc n) h = (h i (omega arith), each_premise P r s (suc i) n (λ j l. h j (omega arith)))
