-- What a search answers decides what the operation comes to.
use Rattle.std.proofs.Common.{◌≡◌, ℕ, false, List, Option, Some, None, Result, Ok, Err, refl, sym, ap, subst, ◌∙◌}
use Rattle.std.specs.Prelude.{find, is_some, option_map}
use Rattle.std.specs.List.{list_any}
use Rattle.std_collections.proofs.SetKeys.{is_some-find}
use Rattle.fol.specs.Syntax.{Formula}
use Rattle.finite.specs.Finite as set
use Rattle.lk_rules.specs.declared.sequent.Sequent.{Sequent}
use Rattle.lk_rules.specs.declared.sequent.Side.{Side}
use Rattle.lk_rules.specs.declared.sequent.Side.TheVariants.{Left, Right}
use Rattle.proof_trees.specs.Trees.{Tree}
use Rattle.proof_graph.specs.declared.graph.Graph.{Graph}
use Rattle.search_laws.specs.Truth.{Assignment, has_quantifier, IsPropositional}
use Rattle.search_laws.specs.Search.{walk}
use Rattle.search_laws.specs.declared.fault.SearchFault.{SearchFault}
use Rattle.search_laws.specs.declared.fault.SearchFault.TheVariants as search
use Rattle.search_laws.specs.Budgets.{found}
use Rattle.operation_laws.specs.declared.refusals.Failure.TheVariants.{Budget, Quantified, Falsified}
use Rattle.operations.specs.declared.answers.Ran.{Ran}
use Rattle.operations.specs.declared.answers.Ran.TheVariants as ran
use Rattle.operation_laws.specs.Answers.{proof, failed, product}
use Rattle.operation_laws.specs.Given.{or_else}
use Rattle.operation_laws.specs.Running.{quantified_on, quantified_in, searched, searches}
use Rattle.operations.specs.Means.{Comes}

pub search_gives : (g : Graph) (r : Ran) (t : Tree) (wanted : Result Tree SearchFault) → wanted ≡ Ok t → Comes g r (product (proof t)) → Comes g r (searched wanted)
search_gives g r t wanted is comes = subst (λ (w : Result Tree SearchFault). Comes g r (searched w)) (sym is) comes

pub search_falsifies : (g : Graph) (atoms : Assignment) (wanted : Result Tree SearchFault) → wanted ≡ Err (search.Falsified atoms)
    → Comes g (ran.Failed (Falsified atoms)) (searched wanted)
search_falsifies g atoms wanted is = ap searched is

pub search_ends : (g : Graph) (wanted : Result Tree SearchFault) → wanted ≡ Err search.Budget → Comes g (ran.Failed Budget) (searched wanted)
search_ends g wanted is = ap searched is

pub search_lacks : (g : Graph) (wanted : Result Tree SearchFault) → Comes g ran.Lacking (searched wanted)
search_lacks g (Ok t) = tt
search_lacks g (Err (search.Falsified atoms)) = tt
search_lacks g (Err search.Budget) = tt
search_lacks g (Err search.Memory) = tt

-- a sequent that has such a formula, and one that has none
pub quantified_comes : (g : Graph) (r : Ran) (q : Option (Formula × Side)) (f : Formula) (side : Side) (s : Sequent) (n : ℕ) → q ≡ Some (f, side)
    → Comes g r (failed (Quantified f side)) → Comes g r (searches q s n)
quantified_comes g r q f side s n is comes = subst (λ (p : Option (Formula × Side)). Comes g r (searches p s n)) (sym is) comes

pub searches_comes : (g : Graph) (r : Ran) (q : Option (Formula × Side)) (s : Sequent) (n : ℕ) → q ≡ None → Comes g r (searched (found n (walk s)))
    → Comes g r (searches q s n)
searches_comes g r q s n is comes = subst (λ (p : Option (Formula × Side)). Comes g r (searches p s n)) (sym is) comes

-- where none is found, no formula has a quantifier
none_among : (fs : List Formula) (found : Option Formula) → find has_quantifier fs ≡ found → found ≡ None → list_any has_quantifier fs ≡ false
none_among fs found is none = sym (is_some-find has_quantifier fs) ∙ ap is_some (is ∙ none)

none_on : (side : Side) (found : Option Formula) → option_map {U = Formula × Side} (λ f. (f, side)) found ≡ None → found ≡ None
none_on side None none = refl
none_on side (Some f) none = cc

neither : (p q : Option (Formula × Side)) → or_else p q ≡ None → (p ≡ None) × (q ≡ None)
neither None q none = (refl, none)
neither (Some x) q none = cc

pub none_quantified : (s : Sequent) → quantified_in s ≡ None → IsPropositional s
none_quantified s none =
    let both = neither (quantified_on Left s.left) (quantified_on Right s.right) none in
    let in_left = none_on Left (find has_quantifier (set.listing s.left)) both.0 in
    let in_right = none_on Right (find has_quantifier (set.listing s.right)) both.1 in
    record {
      left = none_among (set.listing s.left) (find has_quantifier (set.listing s.left)) refl in_left;
      right = none_among (set.listing s.right) (find has_quantifier (set.listing s.right)) refl in_right;
    }
