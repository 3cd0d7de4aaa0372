-- What a search finds is a proof without cuts of the sequent, a valid one where the sequent's formulas are well formed.
use Rattle.std.proofs.Common.{◌≡◌, ℕ, zero, suc, Bool, true, not, List, [], ◌∷◌, Some, None, IfSome, refl, sym, ap, subst}
use Rattle.std.specs.List.{All}
use Rattle.std.proofs.lemmas.List.Sums.{list_all-from_AllPass}
use Rattle.fol.specs.Formed.{is_formed, IsFormed}
use Rattle.finite.specs.Finite as set
use Rattle.lk_rules.specs.declared.sequent.Sequent.{Sequent}
use Rattle.lk_rules.specs.declared.sequent.Side.TheVariants.{Left, Right}
use Rattle.lk_rules.specs.declared.rule.Rule.{Rule}
use Rattle.lk_rules.specs.Rules.{needs, main, aux, IsWithin}
use Rattle.lk_rules.proofs.Rows.{main_of}
use Rattle.lk_rules.proofs.Subsequents.{and_both}
use Rattle.proof_trees.specs.Trees.{Tree, node, Trees, none, more, concl, count, first_end, second_end, IsValid, AllValid, cut_free, cut_free_all}
use Rattle.proof_trees.proofs.Verdicts.{verdict_of_row}
use Rattle.search_laws.specs.Search.{without_each, premise_at, premises_from, rule_at, Walk, proved, falsified, Walks, all_proved, one_falsified, with_first, walk_each, inferred, by_rule, walk_within, walk}
use Rattle.search_laws.proofs.Listed.{larger, added, old_or_added, within_rest}
use Rattle.search_laws.proofs.Passing.{passes}
use Rattle.search_laws.proofs.Searched.{Fits, shape_searched, eigen_searched, cut_searched, formed_by_parts, premise_passes, formed_rule}
use Rattle.search_laws.proofs.Taken.{rule_fits}

-- whether each formula of a sequent is well formed
abbrev pub are_formed : Sequent → Bool
are_formed = passes (λ side. is_formed)

-- a premise is within the conclusion with the premise's auxiliary formulas
premise_within : (r : Rule) (s : Sequent) (i : ℕ) → IsWithin r s i (premise_at r s i)
premise_within r s i = record {
  left = λ f. old_or_added (without_each s.left (main r Left)) (aux r i Left) f (λ old. larger s.left (aux r i Left) f (within_rest s.left (main r Left) f old)) (added s.left (aux r i Left) f);
  right = λ f. old_or_added (without_each s.right (main r Right)) (aux r i Right) f (λ old. larger s.right (aux r i Right) f (within_rest s.right (main r Right) f old)) (added s.right (aux r i Right) f);
}

-- the tree is a proof of the sequent without cuts
pub record IsFound (s : Sequent) (t : Tree) : Type 0 where
  pub end : concl t ≡ s
  pub without_cuts : cut_free t ≡ true
  pub valid : are_formed s ≡ true → IsValid t

-- the trees are proofs of the sequents, one for each
abbrev AreFound : List Sequent → Trees → Type 0
AreFound [] none = Unit {0}
AreFound [] (more t ts) = ⊥
AreFound (s ∷ ss) none = ⊥
AreFound (s ∷ ss) (more t ts) = IsFound s t × AreFound ss ts

module _ (r : Rule) (s : Sequent) where
  -- there are as many trees as premises
  counted : (i n : ℕ) (ts : Trees) → AreFound (premises_from r s i n) ts → count ts ≡ n
  counted i zero none h = refl
  counted i zero (more t ts) h = absurd h
  counted i (suc n) none h = absurd h
  counted i (suc n) (more t ts) h = ap suc (counted (suc i) n ts h.1)

  -- the trees have no cuts
  all_cut_free : (i n : ℕ) (ts : Trees) → AreFound (premises_from r s i n) ts → cut_free_all ts ≡ true
  all_cut_free i zero none h = refl
  all_cut_free i zero (more t ts) h = absurd h
  all_cut_free i (suc n) none h = absurd h
  all_cut_free i (suc n) (more t ts) h = and_both _ _ h.0.without_cuts (all_cut_free (suc i) n ts h.1)

  -- the trees are valid where the premises are well formed
  all_valid : ((j : ℕ) → are_formed (premise_at r s j) ≡ true) → (i n : ℕ) (ts : Trees) → AreFound (premises_from r s i n) ts → AllValid ts
  all_valid formed i zero none h = tt
  all_valid formed i zero (more t ts) h = absurd h
  all_valid formed i (suc n) none h = absurd h
  all_valid formed i (suc n) (more t ts) h = (h.0.valid (formed i), all_valid formed (suc i) n ts h.1)

  -- the first tree's end sequent is within the conclusion with the auxiliary formulas
  first_within : (i n : ℕ) (ts : Trees) → AreFound (premises_from r s i n) ts → IfSome (first_end ts) (IsWithin r s i)
  first_within i zero none h = tt
  first_within i zero (more t ts) h = absurd h
  first_within i (suc n) none h = absurd h
  first_within i (suc n) (more t ts) h = subst (λ e. IsWithin r s i e) (sym h.0.end) (premise_within r s i)

  -- and so is the second's
  second_within : (i n : ℕ) (ts : Trees) → AreFound (premises_from r s i n) ts → IfSome (second_end ts) (IsWithin r s (suc i))
  second_within i zero none h = tt
  second_within i zero (more t ts) h = absurd h
  second_within i (suc n) none h = absurd h
  second_within i (suc n) (more t ts) h = first_within (suc i) n ts h.1

  -- an inference from proofs of the premises
  inferred_found : Fits r s → (ts : Trees) → AreFound (premises_from r s 0 (needs r)) ts → IsFound s (node r s ts)
  inferred_found fits ts h = record {
    end = refl;
    without_cuts = and_both _ _ (ap not (cut_searched r fits.searched)) (all_cut_free 0 (needs r) ts h);
    valid = λ formed. (
      record {
        right = verdict_of_row r s (count ts) (first_end ts) (second_end ts) (record {
          premises = counted 0 (needs r) ts h;
          shape = shape_searched r fits.searched;
          main_formula = main_of r s fits.stands;
          eigenvariable = eigen_searched r s fits.searched;
          first_premise = first_within 0 (needs r) ts h;
          second_premise = second_within 0 (needs r) ts h;
        });
        formed = formed_rule r s fits formed;
      },
      all_valid (λ j. premise_passes is_formed formed_by_parts r s j fits formed) 0 (needs r) ts h,
    );
  }

-- what a search comes to is a proof of the sequent, where it is a proof, and the same of searches for some sequents
abbrev FindsProof : Sequent → Walk → Type 0
FindsProof s (proved t) = IsFound s t
FindsProof s (falsified n a) = Unit {0}

abbrev FindProofs : List Sequent → Walks → Type 0
FindProofs ss (all_proved ts) = AreFound ss ts
FindProofs ss (one_falsified n a) = Unit {0}

-- the first of several searches, and the others
first_found : (s : Sequent) (ss : List Sequent) (w : Walk) (ws : Walks) → FindsProof s w → FindProofs ss ws → FindProofs (s ∷ ss) (with_first w ws)
first_found s ss (proved t) (all_proved ts) h g = (h, g)
first_found s ss (proved t) (one_falsified n a) h g = tt
first_found s ss (falsified n a) ws h g = tt

-- searches that find proofs of each sequent find proofs of all
each_found : (look : Sequent → Walk) → ((s : Sequent) → FindsProof s (look s)) → (ss : List Sequent) → FindProofs ss (walk_each look ss)
each_found look h [] = tt
each_found look h (s ∷ ss) = first_found s ss (look s) (walk_each look ss) (h s) (each_found look h ss)

-- a search by a rule, after searches for the premises
rule_found : (r : Rule) (s : Sequent) (ws : Walks) → Fits r s → FindProofs (premises_from r s 0 (needs r)) ws → FindsProof s (inferred r s ws)
rule_found r s (all_proved ts) fits h = inferred_found r s fits ts h
rule_found r s (one_falsified n a) fits h = tt

-- a search with any bound on the height finds a proof, where it finds one
within_found : (n : ℕ) (s : Sequent) → FindsProof s (walk_within n s)
unfolding walk_within
within_found zero s = tt
within_found (suc n) s =
    elim (rule_at s) as (λ o. rule_at s ≡ o → FindsProof s (by_rule (walk_within n) s o)) [
      | None ↦ λ e. tt
      | Some r ↦ λ e. rule_found r s (walk_each (walk_within n) (premises_from r s 0 (needs r))) (rule_fits s r e) (each_found (walk_within n) (within_found n) (premises_from r s 0 (needs r)))
    ] refl

-- the search does
walk_found : (s : Sequent) → FindsProof s (walk s)
unfolding walk
walk_found s = within_found _ s

-- the tree that the search finds is a proof
pub found : (s : Sequent) (t : Tree) → walk s ≡ proved t → IsFound s t
found s t e = subst (λ w. FindsProof s w) e (walk_found s)

-- both sides are well formed
pub formed_sequent : (s : Sequent) → All IsFormed (set.listing s.left) → All IsFormed (set.listing s.right) → are_formed s ≡ true
formed_sequent s left right = and_both _ _ (list_all-from_AllPass is_formed (set.listing s.left) left) (list_all-from_AllPass is_formed (set.listing s.right) right)
