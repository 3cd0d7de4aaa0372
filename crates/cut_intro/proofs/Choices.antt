-- The choice of a candidate that costs less.
use Rattle.std.proofs.Common.{◌≡◌, ℕ, ◌-◌, ◌^◌, ◌<◌, ◌≤◌, ◌⊎◌, min, List, map, Option, Some, None, inl, inr, refl, sym, ap, subst, ◌∙◌, arith}
use Rattle.std.specs.Prelude.{option_map}
use Rattle.std.specs.List.{Contains}
use Rattle.proof_trees.specs.Trees.{Tree, size, quants}
use Rattle.herbrand_laws.specs.Herbrand.{Item}
use Rattle.herbrand_laws.specs.Patterns.{TermSet}
use Rattle.herbrand_laws.specs.Candidates.{occurring, patterns, cost, best}
use Rattle.delta_table.specs.declared.candidates.Candidate.{Candidate}
use Rattle.delta_table.specs.Chosen.{rest_item, candidate_of}
use Rattle.cut_intro.specs.Cuttings.{IsCandidateFor}
use Rattle.cut_intro.specs.Introducing.{ChoosesBelow}
use Rattle.cut_intro.proofs.IntroductionOrder.{quants_within}

-- what is known of the best candidate
abbrev IsBest : ℕ → List Item → Option Candidate → Type 0
IsBest width items None = best width items ≡ None
IsBest width items (Some c) = (best width items ≡ Some c.values) × (c.patterns ≡ map (patterns width c.values) items) × (c.rest ≡ map (rest_item width c.values) items) × (c.cost ≡ cost width items c.values)

is_best : (width : ℕ) (items : List Item) (o : Option Candidate) → o ≡ option_map (candidate_of width items) (best width items) → IsBest width items o
is_best width items o e = go (best width items) o refl e
  where
    go : (b : Option TermSet) (o : Option Candidate) → best width items ≡ b → o ≡ option_map (candidate_of width items) b → IsBest width items o
    go None None is e = is
    go None (Some c) is e = absurd (cc)
    go (Some w) None is e = absurd (cc)
    go (Some w) (Some c) is e =
        let same : c ≡ candidate_of width items w = cc in
        subst (λ d. IsBest width items (Some d)) (sym same) (is, refl, refl, refl)

-- a number of inferences that is cut off at the largest of 64 bits isn't, where the proof has fewer nodes
uncapped : (t : Tree) (n q : ℕ) → n ≡ min q (2 ^ 64 - 1) → q ≤ size t → size t < 2 ^ 64 → n ≡ q
uncapped t n q e h k = omega arith

module _ (width : ℕ) (items : List Item) (t : Tree) (n : ℕ) (is_n : n ≡ min (quants t) (2 ^ 64 - 1)) (small : size t < 2 ^ 64) where
  abbrev counted : n ≡ quants t
  counted = uncapped t n (quants t) is_n (quants_within t) small

  pub none_chosen : None ≡ option_map (candidate_of width items) (best width items) → ChoosesBelow None width (quants t) items
  none_chosen e = inl (is_best width items None e)

  pub chosen : (c : Candidate) → Some c ≡ option_map (candidate_of width items) (best width items) → ((w : TermSet) → best width items ≡ Some w → Contains (occurring width items) w) → c.cost < n → ChoosesBelow (Some c) width (quants t) items
  chosen c e occurs less =
      let h = is_best width items (Some c) e in
      let cheap : cost width items c.values < quants t = omega (arith, h.3, counted) in
      (h.0, cheap, record { occurs = occurs c.values h.0; of_patterns = h.1; of_rest = h.2 })

  pub not_chosen : (c : Candidate) → Some c ≡ option_map (candidate_of width items) (best width items) → n ≤ c.cost → ChoosesBelow None width (quants t) items
  not_chosen c e costly =
      let h = is_best width items (Some c) e in
      let dear : quants t ≤ cost width items c.values = omega (arith, h.3, counted) in
      inr (c.values, h.0, dear)
