-- The proof with the cut: the searches succeed, and it is a valid proof of the sequent with one cut and as many quantifier inferences as the
-- candidate costs.
use Rattle.std.proofs.Common.{◌≡◌, ℕ, suc, ◌+◌, ◌≤◌, ◌<◌, true, if◌then◌else◌, nat_lt, List, Some, None, IfSome, unwrap_or, map, length, length-append, refl, sym, ap, subst, ◌∙◌, arith}
use Rattle.std.specs.List.{All, list_all, Contains}
use Rattle.std.proofs.lemmas.List.{length-map}
use Rattle.std.proofs.lemmas.List.Elements.{All-contains, All-contains_itself}
use borrow.Author.Tests.{ltb-true, lt-ltb}
use Rattle.fol.specs.Syntax.{free, Formula}
use Rattle.fol.specs.Formed.{is_formed_term}
use Rattle.finite.specs.Finite as set
use Rattle.lk_rules.specs.declared.sequent.Sequent.{Sequent}
use Rattle.lk_rules.specs.declared.sequent.Side.TheVariants.{Left, Right}
use Rattle.lk_rules.specs.declared.rule.Rule.TheVariants.{AllL}
use Rattle.lk_rules.specs.Sequents.{adds_to, IsSubsequent}
use Rattle.proof_trees.specs.Trees.{Tree, concl, IsValid, cuts, quants}
use Rattle.refutations.proofs.Inferences.{cut}
use Rattle.search_laws.specs.Search.{Walk, proved, falsified, walk}
use Rattle.search_laws.proofs.Decided.{tautology_proved}
use Rattle.search_laws.proofs.Found.{found}
use Rattle.search_laws.proofs.Tests.{fails}
use Rattle.expansion_laws.specs.Dependency.{Expansion}
use Rattle.herbrand_laws.specs.Herbrand.{Item, items_of, quantifiers}
use Rattle.herbrand_laws.specs.Patterns.{TermSet}
use Rattle.herbrand_laws.specs.Candidates.{occurring, rest, cost, candidate_cmp, best}
use Rattle.herbrand_laws.specs.Introduction.{instances_by, instances_at, cut_variable, cut_formula, rules_for, left_rules, right_rules, end_after, over, left_search, right_search, new_proof, from_walks, introduced, introduction_by, introduction, IsFormedProof, IsProofWithCut}
use Rattle.herbrand_laws.proofs.Rows.{candidates_formed}
use Rattle.herbrand_laws.proofs.RulesOver.{AreSteps, over_within, over_valid, over_cuts, over_quants}
use Rattle.herbrand_laws.proofs.CutMatrix.{IsItem, instances_at_are, rest_are}
use Rattle.herbrand_laws.proofs.CutVariable.{variable_formed, variable_out}
use Rattle.herbrand_laws.proofs.CutFormula.{cut_formed}
use Rattle.herbrand_laws.proofs.PlainPart.{plain_within, plain_propositional}
use Rattle.herbrand_laws.proofs.SearchedTrees.{no_quants, no_cuts}
use Rattle.herbrand_laws.proofs.Searches.{left_steps, left_formed, left_tautology, right_steps, right_formed, right_tautology}
use Rattle.herbrand_laws.proofs.Least.{least_of}
use Rattle.herbrand_laws.proofs.Counting.{rules_cost}
use Rattle.herbrand_laws.proofs.Expanded.{sequent_formed, items_are, items_help}

-- the inferences of both premises, where the searches have none
added_up : (q a b m n v k : ℕ) → q ≡ 0 + (a + (b + 0)) → a ≡ suc m + 0 → b ≡ v + n + 0 → 1 + v + (m + n) ≡ k → q ≡ k
added_up q a b m n v k e f g h = omega arith

module _ (x : Expansion) (s : Sequent) (h : IsFormedProof x s) (width : ℕ) (w : TermSet) (occurs : Contains (occurring width (items_of x)) w) where
  abbrev items : List Item
  items = items_of x

  abbrev are : All (IsItem (cut_variable s (items_of x)) s) (items_of x)
  are = items_are x s h

  -- the values are well formed
  pub values_formed : list_all is_formed_term (set.listing w) ≡ true
  values_formed =
      All-contains (λ v. list_all is_formed_term (set.listing v) ≡ true) (occurring width items) w
      (candidates_formed (cut_variable s items) (variable_formed s items) width quantifiers items (λ k d l. (are k d l).fits)) occurs

  pub left_found : (l : Tree) × (walk (left_search width s items w) ≡ proved l)
  left_found = tautology_proved (left_search width s items w) (plain_propositional (end_after (left_rules width s items w) (adds_to s Right (cut_formula width s items w)))) (left_tautology s (sequent_formed x s h) items are width w)

  pub right_found : (r : Tree) × (walk (right_search width s items w) ≡ proved r)
  right_found =
      tautology_proved (right_search width s items w) (plain_propositional (end_after (right_rules width s items w) (adds_to s Left (cut_formula width s items w))))
      (right_tautology s (sequent_formed x s h) items are width w values_formed (items_help x s h))

  module _ (l r : Tree) (found_l : walk (left_search width s items w) ≡ proved l) (found_r : walk (right_search width s items w) ≡ proved r) where
    abbrev c : Formula
    c = cut_formula width s items w

    abbrev left_tree : Tree
    left_tree = over (left_rules width s items w) (adds_to s Right c) l

    abbrev right_tree : Tree
    right_tree = over (right_rules width s items w) (adds_to s Left c) r

    steps_left : AreSteps (left_rules width s items w) (adds_to s Right c)
    steps_left = left_steps s (sequent_formed x s h) items are width w

    steps_right : AreSteps (right_rules width s items w) (adds_to s Left c)
    steps_right = right_steps s (sequent_formed x s h) items are width w values_formed

    within_l : IsSubsequent (concl l) (end_after (left_rules width s items w) (adds_to s Right c))
    within_l = subst (λ e. IsSubsequent e (end_after (left_rules width s items w) (adds_to s Right c))) (sym (found _ l found_l).end) (plain_within (end_after (left_rules width s items w) (adds_to s Right c)))

    within_r : IsSubsequent (concl r) (end_after (right_rules width s items w) (adds_to s Left c))
    within_r = subst (λ e. IsSubsequent e (end_after (right_rules width s items w) (adds_to s Left c))) (sym (found _ r found_r).end) (plain_within (end_after (right_rules width s items w) (adds_to s Left c)))

    valid : IsValid (new_proof width s items w l r)
    valid = (
      cut s c left_tree right_tree (concl left_tree) (concl right_tree) (cut_formed (cut_variable s items) s (variable_formed s items) (variable_out s items) items are width w) refl refl
          (over_within (left_rules width s items w) (adds_to s Right c) l within_l)
          (over_within (right_rules width s items w) (adds_to s Left c) r within_r),
      (
        over_valid (left_rules width s items w) (adds_to s Right c) l steps_left within_l ((found _ l found_l).valid (left_formed s (sequent_formed x s h) items are width w)),
        (over_valid (right_rules width s items w) (adds_to s Left c) r steps_right within_r ((found _ r found_r).valid (right_formed s (sequent_formed x s h) items are width w values_formed)), tt),
      ),
    )

    one_cut : cuts (new_proof width s items w l r) ≡ 1
    one_cut =
        let first = over_cuts (left_rules width s items w) (adds_to s Right c) l steps_left ∙ no_cuts l (found _ l found_l).without_cuts in
        let second = over_cuts (right_rules width s items w) (adds_to s Left c) r steps_right ∙ no_cuts r (found _ r found_r).without_cuts in
        λ i. 1 + (first i + (second i + 0))

    inferences : quants (new_proof width s items w l r) ≡ cost width items w
    inferences =
        let js = instances_at width items w (free (cut_variable s items)) in
        let ks = instances_by (rest width w) items in
        let rules = length-append (map (AllL c) (set.listing w)) (rules_for ks) ∙ ap (λ n. n + length (rules_for ks)) (length-map (set.listing w) (AllL c)) in
        added_up (quants (new_proof width s items w l r)) (quants left_tree) (quants right_tree) (length (rules_for js)) (length (rules_for ks)) (length (set.listing w)) (cost width items w)
        refl
        (over_quants (left_rules width s items w) (adds_to s Right c) l steps_left ∙ ap (λ n. length (left_rules width s items w) + n) (no_quants (left_search width s items w) l found_l))
        (over_quants (right_rules width s items w) (adds_to s Left c) r steps_right ∙ (λ i. rules i + no_quants (right_search width s items w) r found_r i))
        (rules_cost s width items w (free (cut_variable s items))
        (instances_at_are (cut_variable s items) s (variable_formed s items) width items are w (free (cut_variable s items)) (variable_formed s items))
        (rest_are (cut_variable s items) s (variable_formed s items) width items are w))

    pub with_cut : IsProofWithCut s (cost width items w) (new_proof width s items w l r)
    with_cut = record { valid = valid; end = refl; one_cut = one_cut; inferences = inferences }

  -- the proof with the cut is found, and what is found is such a proof

  pub introduced_with_cut : (t : Tree) → introduced width s items w ≡ Some t → IsProofWithCut s (cost width items w) t
  introduced_with_cut t e = by_walks (walk (left_search width s items w)) (walk (right_search width s items w)) refl refl t e
    where
      by_walks : (a b : Walk) → walk (left_search width s items w) ≡ a → walk (right_search width s items w) ≡ b → (t : Tree) → from_walks (new_proof width s items w) a b ≡ Some t → IsProofWithCut s (cost width items w) t
      by_walks (proved l) (proved r) p q t e = let same : new_proof width s items w l r ≡ t = cc in subst (IsProofWithCut s (cost width items w)) same (with_cut l r p q)
      by_walks (proved l) (falsified n a) p q t e = cc
      by_walks (falsified n a) b p q t e = cc

  pub introduced_found : (t : Tree) × (introduced width s items w ≡ Some t)
  introduced_found = (new_proof width s items w left_found.0 right_found.0, λ i. from_walks (new_proof width s items w) (left_found.1 i) (right_found.1 i))

-- the result of the introduction

module _ (width : ℕ) (t : Tree) (items : List Item) where
  -- without a candidate it is the proof itself
  pub unchanged_without : best width items ≡ None → introduction width t items ≡ t
  unchanged_without e = ap (introduction_by width t items) e

  -- and so it is where the best one doesn't cost less
  pub unchanged_costly : (w : TermSet) → best width items ≡ Some w → quants t ≤ cost width items w → introduction width t items ≡ t
  unchanged_costly w e low =
      ap (introduction_by width t items) e
      ∙ ap (λ b. if b then unwrap_or (introduced width (concl t) items w) t else t) (fails (nat_lt (cost width items w) (quants t)) (λ h. let less : cost width items w < quants t = ltb-true (cost width items w) (quants t) h in absurd (omega arith)))

-- else it is the proof with the cut
pub changed : (x : Expansion) (s : Sequent) (h : IsFormedProof x s) (width : ℕ) (t : Tree) → concl t ≡ s → (w : TermSet) → best width (items_of x) ≡ Some w → cost width (items_of x) w < quants t
    → IsProofWithCut s (cost width (items_of x) w) (introduction width t (items_of x))
changed x s h width t end w e less =
    let items = items_of x in
    let occurs = subst (λ o. IfSome o (Contains (occurring width items))) e (least_of (candidate_cmp width items) (Contains (occurring width items)) (occurring width items) (All-contains_itself (occurring width items))) in
    let made = introduced_found x s h width w occurs in
    let same : introduction width t items ≡ made.0 =
    ap (introduction_by width t items) e
    ∙ (ap (λ b. if b then unwrap_or (introduced width (concl t) items w) t else t) (lt-ltb (cost width items w) (quants t) less)
    ∙ (ap (λ q. unwrap_or (introduced width q items w) t) end
    ∙ ap (λ o. unwrap_or o t) made.1)) in
    subst (IsProofWithCut s (cost width items w)) (sym same) (introduced_with_cut x s h width w occurs made.0 made.1)
