-- What an introduction comes to, by what was found so far.
use Rattle.std.proofs.Common.{◌≡◌, ℕ, ◌+◌, ◌-◌, ◌^◌, ◌<◌, ◌≤◌, ◌||◌, ◌⊎◌, min, Bool, true, false, List, Option, Some, None, Result, Ok, Err, inl, inr, refl, sym, ap, subst, ◌∙◌, arith, if◌then◌else◌}
use Rattle.std.specs.Prelude.{nat_lt}
use Rattle.std.proofs.lemmas.Bool.Decides.{nat_tests}
use Rattle.lk_rules.specs.declared.rule.Rule.{Rule}
use Rattle.proof_trees.specs.Trees.{Tree, node, Trees, none, more, concl, size, quants, is_quantifier_rule, count_rules, count_rules_all}
use Rattle.proof_graph.specs.References.{Reference}
use Rattle.search_laws.specs.Search.{Walk, visits, walk}
use Rattle.herbrand_laws.specs.Herbrand.{Item}
use Rattle.herbrand_laws.specs.Patterns.{TermSet}
use Rattle.herbrand_laws.specs.Candidates.{cost, best}
use Rattle.herbrand_laws.specs.Introduction.{left_search, right_search, introduced}
use Rattle.herbrand_laws.specs.Counted.{counted}
use Rattle.introduction_laws.specs.declared.fault.HerbrandFault.{HerbrandFault}
use Rattle.introduction_laws.specs.declared.fault.HerbrandFault.TheVariants as herbrand
use Rattle.introduction_laws.specs.declared.fault.IntroFault.{IntroFault}
use Rattle.introduction_laws.specs.declared.fault.IntroFault.TheVariants as fault
use Rattle.cut_intro.specs.declared.introduction.Introduced.{Introduced}
use Rattle.cut_intro.specs.declared.introduction.Introduced.TheVariants.{Shorter, Same}
use Rattle.introduction_laws.specs.Faults.{intro_fault}
use Rattle.introduction_laws.specs.Instancing.{instancing}
use Rattle.cut_intro.specs.Instancing.{HasInstances}
use Rattle.cut_intro.specs.Performing.{Performs, IsShortOfOne}
use Rattle.introduction_laws.specs.Introducing.{Answer, shorter, same, if_found, by_searches, with_candidate, by_candidate, by_items, from_instances, introducing}
use Rattle.cut_intro.specs.Introducing.{Introduces}

not_above : (n m : ℕ) → m ≤ n → nat_lt n m ≡ false
not_above n m h = grind (arith, nat_tests)

is_above : (n m : ℕ) → n < m → nat_lt n m ≡ true
is_above n m h = grind (arith, nat_tests)

-- a proof has no more quantifier inferences than nodes

one_more : (b : Bool) → (if b then 1 else 0) ≤ 1
one_more true = omega arith
one_more false = omega arith

mutual
  pub quants_within : (t : Tree) → quants t ≤ size t
  quants_within (node r s ts) = omega (arith, one_more (is_quantifier_rule r), quants_all_within ts)

  quants_all_within : (ts : Trees) → count_rules_all is_quantifier_rule ts ≤ count_rules_all (λ r. true) ts
  quants_all_within none = omega arith
  quants_all_within (more t ts) = omega (arith, quants_within t, quants_all_within ts)

module _ (width : ℕ) (t : Tree) (n : ℕ) where
  -- without instances
  pub refused : (f : HerbrandFault) → HasInstances (Err f) (instancing t n) → Introduces (Err (intro_fault f)) (introducing width t n)
  unfolding introducing
  refused (herbrand.Cut k) h = ap (from_instances width t n) h
  refused (herbrand.NotPrenex f side) h = ap (from_instances width t n) h
  refused herbrand.Budget h = ap (from_instances width t n) h
  refused herbrand.Memory h = tt

  pub refused_by : (f : HerbrandFault) (e : IntroFault) → e ≡ intro_fault f → HasInstances (Err f) (instancing t n) → Introduces (Err e) (introducing width t n)
  refused_by f e is h = subst (λ (k : IntroFault). Introduces (Err k) (introducing width t n)) (sym is) (refused f h)

  module _ (items : List Item) (found : instancing t n ≡ Ok items) where
    whole : introducing width t n ≡ by_items width t n items
    unfolding introducing
    whole = ap (from_instances width t n) found

    pub too_many : 48 < counted items → introducing width t n ≡ Err (fault.TooMany (min (counted items) (2 ^ 64 - 1)))
    too_many h = whole ∙ ap (λ b. if b then Err (fault.TooMany (min (counted items) (2 ^ 64 - 1))) else by_candidate width t n items (best width items)) (is_above 48 (counted items) h)

    module _ (few : counted items ≤ 48) where
      by_best : introducing width t n ≡ by_candidate width t n items (best width items)
      by_best = whole ∙ ap (λ b. if b then Err (fault.TooMany (min (counted items) (2 ^ 64 - 1))) else by_candidate width t n items (best width items)) (not_above 48 (counted items) few)

      pub without : best width items ≡ None → introducing width t n ≡ Ok same
      without e = by_best ∙ ap (by_candidate width t n items) e

      module _ (w : TermSet) (is : best width items ≡ Some w) where
        abbrev first : Walk
        first = walk (left_search width (concl t) items w)

        abbrev second : Walk
        second = walk (right_search width (concl t) items w)

        abbrev made : Option Tree
        made = introduced width (concl t) items w

        with_best : introducing width t n ≡ with_candidate width t n items w
        with_best = by_best ∙ ap (by_candidate width t n items) is

        pub costly : quants t ≤ cost width items w → introducing width t n ≡ Ok same
        costly h = with_best ∙ ap (λ b. if b then by_searches n first second made else Ok same) (not_above (cost width items w) (quants t) h)

        module _ (less : cost width items w < quants t) where
          searched : introducing width t n ≡ by_searches n first second made
          searched = with_best ∙ ap (λ b. if b then by_searches n first second made else Ok same) (is_above (cost width items w) (quants t) less)

          budget : (n < visits first) ⊎ (n < visits second) → introducing width t n ≡ Err fault.Budget
          budget (inl h) = searched ∙ ap (λ b. if b || nat_lt n (visits second) then Err fault.Budget else Ok (if_found made)) (is_above n (visits first) h)
          budget (inr h) = searched ∙ ap (λ b. if b then Err fault.Budget else Ok (if_found made)) (either_way (nat_lt n (visits first)) (nat_lt n (visits second)) (is_above n (visits second) h))
            where
              either_way : (a b : Bool) → b ≡ true → (a || b) ≡ true
              either_way true b e = refl
              either_way false b e = e

          found_proof : (u : Tree) → visits first ≤ n → visits second ≤ n → made ≡ Some u → introducing width t n ≡ Ok (shorter u)
          found_proof u h k e =
              searched ∙ (λ i. if not_above n (visits first) h i || not_above n (visits second) k i then Err fault.Budget else Ok (if_found (e i)))

          -- what is made is what is answered
          pub made_shorter : (r : Reference) → Performs (Ok r) n first second made → introducing width t n ≡ Ok (shorter r.tree)
          made_shorter r h = found_proof r.tree h.0 h.1 h.2

          pub made_fault : (f : IntroFault) → Performs (Err f) n first second made → Introduces (Err f) (introducing width t n)
          made_fault fault.Budget h = budget h
          made_fault fault.Memory h = tt
          made_fault (fault.Cut k) h = absurd h
          made_fault (fault.NotPrenex f side) h = absurd h
          made_fault (fault.TooMany k) h = absurd h

      -- where no candidate costs less
      pub none_below : (best width items ≡ None) ⊎ ((w : TermSet) × (best width items ≡ Some w) × (quants t ≤ cost width items w)) → introducing width t n ≡ Ok same
      none_below (inl e) = without e
      none_below (inr h) = costly h.0 h.1 h.2
