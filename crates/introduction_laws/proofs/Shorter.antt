-- What takes the place of a proof.
use Rattle.std.proofs.Common.{◌≡◌, ℕ, ◌<◌, Bool, true, false, arith, List, Option, Some, None, Result, Ok, Err, refl, sym, ap, subst, ◌∙◌, if◌then◌else◌}
use Rattle.std.specs.Prelude.{◌||◌, ◌&&◌, ◌-◌, ◌^◌, min, nat_lt}
use Rattle.std.specs.List.{All, list_all}
use Rattle.std.proofs.lemmas.Bool.Decides.{nat_tests}
use Rattle.std.proofs.lemmas.List.Elements.{All-weaker}
use Rattle.std.proofs.lemmas.List.Sums.{AllPass-from_list_all}
use Rattle.fol.specs.Formed.{is_formed, are_formed_terms_at}
use Rattle.finite.specs.Finite as set
use Rattle.lk_rules.specs.declared.sequent.Sequent.{Sequent}
use Rattle.lk_rules.proofs.Subsequents.{and_left, and_right}
use Rattle.proof_trees.specs.Trees.{Tree, concl, quants, IsValid}
use Rattle.search_laws.specs.Search.{Walk, visits, walk}
use Rattle.expansion_laws.specs.Dependency.{Expansion}
use Rattle.expansion_laws.specs.Proofs.{IsExpansionProof}
use Rattle.extraction_laws.specs.Extraction.{extracted}
use Rattle.herbrand_laws.specs.Herbrand.{Item, items_of, IsPrenex}
use Rattle.herbrand_laws.specs.Patterns.{TermSet}
use Rattle.herbrand_laws.specs.Candidates.{cost, best}
use Rattle.herbrand_laws.specs.Introduction.{left_search, right_search, introduced, IsFormedProof, IsProofWithCut}
use Rattle.herbrand_laws.proofs.Least.{best_least}
use Rattle.herbrand_laws.proofs.NewProof.{introduced_with_cut}
use Rattle.herbrand_laws.specs.Counted.{counted}
use Rattle.introduction_laws.specs.declared.fault.HerbrandFault.{HerbrandFault}
use Rattle.introduction_laws.specs.declared.fault.IntroFault.{IntroFault}
use Rattle.introduction_laws.specs.declared.fault.IntroFault.TheVariants.{Budget, TooMany}
use Rattle.introduction_laws.specs.Instancing.{instancing}
use Rattle.introduction_laws.specs.Introducing.{Answer, shorter, same, if_found, by_searches, with_candidate, by_candidate, by_items, from_instances, introducing, has_formed_instances, IsByBest}
use Rattle.introduction_laws.proofs.Faultless.{instances, prenex, expands}

below : (m n : ℕ) → nat_lt m n ≡ true → m < n
below m n h = grind (arith, nat_tests)

-- the trees that are extracted are well formed
pub formed_proof : (t : Tree) → IsExpansionProof (extracted t) (concl t) → IsPrenex (concl t) → has_formed_instances t ≡ true → IsFormedProof (extracted t) (concl t)
formed_proof t expands prenex formed =
    let left = list_all is_formed (set.listing (concl t).left) in
    let right = list_all is_formed (set.listing (concl t).right) in
    let sides = and_left (left && right) _ formed in
    record {
      proof = expands;
      prenex = prenex;
      formulas = record {
        left = AllPass-from_list_all is_formed (set.listing (concl t).left) (and_left left right sides);
        right = AllPass-from_list_all is_formed (set.listing (concl t).right) (and_right left right sides);
      };
      terms =
          All-weaker (λ i. list_all (are_formed_terms_at 0) i.tuples ≡ true) (λ i. All (λ us. are_formed_terms_at 0 us ≡ true) i.tuples)
          (λ i h. AllPass-from_list_all (are_formed_terms_at 0) i.tuples h) (items_of (extracted t))
          (AllPass-from_list_all (λ i. list_all (are_formed_terms_at 0) i.tuples) (items_of (extracted t)) (and_right (left && right) _ formed));
    }

module _ (width : ℕ) (t : Tree) (n : ℕ) (u : Tree) where
  -- the proof is that with a cut by the best candidate of the items, which costs less
  pub record IsByCandidate (items : List Item) : Type 0 where
    pub values : TermSet
    pub best : best width items ≡ Some values
    pub cheaper : cost width items values < quants t
    pub made : introduced width (concl t) items values ≡ Some u

  of_searches : (l r : Walk) (made : Option Tree) → by_searches n l r made ≡ Ok (shorter u) → made ≡ Some u
  of_searches l r made h = go (nat_lt n (visits l) || nat_lt n (visits r)) made h
    where
      go : (b : Bool) (o : Option Tree) → ◌≡◌ {A = Result Answer IntroFault} (if b then Err Budget else Ok (if_found o)) (Ok (shorter u)) → o ≡ Some u
      go true o h = absurd (cc)
      go false None h = absurd (cc)
      go false (Some v) h = let same : v ≡ u = cc in ap Some same

  of_candidate : (items : List Item) (o : Option TermSet) → best width items ≡ o → by_candidate width t n items o ≡ Ok (shorter u) → IsByCandidate items
  of_candidate items None is h = absurd (cc)
  of_candidate items (Some w) is h = go (nat_lt (cost width items w) (quants t)) refl h
    where
      go : (b : Bool) → nat_lt (cost width items w) (quants t) ≡ b
          → ◌≡◌ {A = Result Answer IntroFault} (if b then by_searches n (walk (left_search width (concl t) items w)) (walk (right_search width (concl t) items w)) (introduced width (concl t) items w) else Ok same) (Ok (shorter u))
          → IsByCandidate items
      go true c h = record {
        values = w;
        best = is;
        cheaper = below (cost width items w) (quants t) c;
        made = of_searches (walk (left_search width (concl t) items w)) (walk (right_search width (concl t) items w)) (introduced width (concl t) items w) h;
      }
      go false c h = absurd (cc)

  of_items : (items : List Item) → by_items width t n items ≡ Ok (shorter u) → IsByCandidate items
  of_items items h = go (nat_lt 48 (counted items)) h
    where
      go : (b : Bool) → (if b then Err (TooMany (min (counted items) (2 ^ 64 - 1))) else by_candidate width t n items (best width items)) ≡ Ok (shorter u) → IsByCandidate items
      go true h = absurd (cc)
      go false h = of_candidate items (best width items) refl h

  of_instances : (r : Result (List Item) HerbrandFault) → from_instances width t n r ≡ Ok (shorter u) → (items : List Item) × (r ≡ Ok items) × IsByCandidate items
  of_instances (Ok items) h = (items, refl, of_items items h)
  of_instances (Err fault) h = absurd (cc)

  is_from : introducing width t n ≡ from_instances width t n (instancing t n)
  unfolding introducing
  is_from = refl

  module _ (valid : IsValid t) (formed : has_formed_instances t ≡ true) (answered : introducing width t n ≡ Ok (shorter u)) where
    pub by_best : IsByBest width t u
    by_best =
        let from = of_instances (instancing t n) (sym is_from ∙ answered) in
        let is = instances t n from.0 from.1 in
        let chosen = subst IsByCandidate is from.2 in
        let trees = formed_proof t (expands t n from.0 from.1 valid) (prenex t n from.0 from.1) formed in
        record {
          values = chosen.values;
          best = chosen.best;
          proof = introduced_with_cut (extracted t) (concl t) trees width chosen.values (best_least width (items_of (extracted t)) chosen.values chosen.best).0 u chosen.made;
          cheaper = chosen.cheaper;
        }

    pub with_cut : (k : ℕ) × IsProofWithCut (concl t) k u × (k < quants t)
    with_cut = (cost width (items_of (extracted t)) by_best.values, by_best.proof, by_best.cheaper)
