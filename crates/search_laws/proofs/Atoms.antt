-- The formulas that a search makes true are atoms.
use Rattle.std.proofs.Common.{◌≡◌, ℕ, zero, suc, true, false, not as negated, ◌&&◌, List, [], ◌∷◌, Some, None, refl, subst}
use Rattle.std.specs.List.{AllByRecursion, list_all}
use Rattle.std.specs.Ordering.{eq_by_cmp}
use Rattle.fol.specs.Syntax.{Formula, atom, top, bot, not, and, or, imp, all, ex}
use Rattle.fol.specs.Order.{formula_cmp}
use Rattle.finite.specs.Finite as set
use Rattle.finite.proofs.Finite.{has-empty}
use Rattle.lk_rules.specs.declared.sequent.Sequent.{Sequent}
use Rattle.lk_rules.specs.declared.rule.Rule.{Rule}
use Rattle.lk_rules.specs.Rules.{needs}
use Rattle.lk_rules.proofs.Subsequents.{and_left, and_both}
use Rattle.proof_trees.specs.FormulaSets.{is_atom}
use Rattle.search_laws.specs.Truth.{Assignment, IsPropositional}
use Rattle.search_laws.specs.Search.{is_compound, left_atoms, premises_from, premise_at, rule_at, Walk, proved, falsified, Walks, all_proved, one_falsified, with_first, walk_each, inferred, by_rule, walk_within, walk}
use Rattle.search_laws.proofs.Tests.{clash}
use Rattle.search_laws.proofs.Listed.{kept, within_without, member_passes, members_pass}
use Rattle.search_laws.proofs.Passing.{passes, each_premise}
use Rattle.search_laws.proofs.Searched.{is_propositional, propositional_by_parts, premise_passes}
use Rattle.search_laws.proofs.Taken.{IsUntaken, rule_fits, no_rule}
use Rattle.search_laws.proofs.Decided.{none_quantified}

-- a formula on the left that is neither truth nor falsity, has no connective at its head and no quantifier is an atom
atom_left : (s : Sequent) → IsUntaken s → (f : Formula) → (negated (eq_by_cmp formula_cmp top f) && set.has s.left f) ≡ true → is_compound f ≡ false → is_propositional f ≡ true → set.has s.left f ≡ true → is_atom f ≡ true
atom_left s h (atom r ts) other e q m = refl
atom_left s h top other e q m = cc
atom_left s h bot other e q m = clash (set.has s.left bot) m h.no_falsity
atom_left s h (not f) other e q m = cc
atom_left s h (and f g) other e q m = cc
atom_left s h (or f g) other e q m = cc
atom_left s h (imp f g) other e q m = cc
atom_left s h (all f) other e q m = cc
atom_left s h (ex f) other e q m = cc

-- where no rule is taken, what is left of the left side are atoms
left_are_atoms : (s : Sequent) → IsUntaken s → passes (λ side. is_propositional) s ≡ true → list_all is_atom (set.listing (left_atoms s)) ≡ true
left_are_atoms s h plain =
    members_pass is_atom (left_atoms s) (λ f m.
    let stands = within_without s.left top f m in
    atom_left s h f (kept s.left top f m) (h.atomic_left f stands) (member_passes is_propositional s.left f (and_left _ _ plain) stands) stands)

-- where a search, or one of several, ends at a false sequent, only atoms are true
abbrev HasAtoms : Walk → Type 0
HasAtoms (proved t) = Unit {0}
HasAtoms (falsified n a) = list_all is_atom (set.listing a) ≡ true

abbrev HaveAtoms : Walks → Type 0
HaveAtoms (all_proved ts) = Unit {0}
HaveAtoms (one_falsified n a) = list_all is_atom (set.listing a) ≡ true

-- the first of several searches, and the others
first_atoms : (w : Walk) (ws : Walks) → HasAtoms w → HaveAtoms ws → HaveAtoms (with_first w ws)
first_atoms (proved t) (all_proved ts) h g = tt
first_atoms (proved t) (one_falsified n a) h g = g
first_atoms (falsified n a) ws h g = h

-- searches for some sequents
each_atoms : (look : Sequent → Walk) (ss : List Sequent) → AllByRecursion (λ s. HasAtoms (look s)) ss → HaveAtoms (walk_each look ss)
each_atoms look [] h = tt
each_atoms look (s ∷ ss) h = first_atoms (look s) (walk_each look ss) h.0 (each_atoms look ss h.1)

-- a search by a rule
inferred_atoms : (r : Rule) (s : Sequent) (ws : Walks) → HaveAtoms ws → HasAtoms (inferred r s ws)
inferred_atoms r s (all_proved ts) h = tt
inferred_atoms r s (one_falsified n a) h = h

-- a search with any bound on the height
within_atoms : (n : ℕ) (s : Sequent) → passes (λ side. is_propositional) s ≡ true → HasAtoms (walk_within n s)
unfolding walk_within
within_atoms zero s plain = members_pass is_atom set.empty (λ f m. clash (set.has (set.empty {R = formula_cmp}) f) m (has-empty formula_cmp f))
within_atoms (suc n) s plain =
    elim (rule_at s) as (λ o. rule_at s ≡ o → HasAtoms (by_rule (walk_within n) s o)) [
      | None ↦ λ e. left_are_atoms s (no_rule s e) plain
      | Some r ↦ λ e.
          inferred_atoms r s (walk_each (walk_within n) (premises_from r s 0 (needs r)))
          (each_atoms (walk_within n) (premises_from r s 0 (needs r))
          (each_premise (λ p. HasAtoms (walk_within n p)) r s 0 (needs r)
          (λ j below. within_atoms n (premise_at r s j) (premise_passes is_propositional propositional_by_parts r s j (rule_fits s r e) plain))))
    ] refl

-- the search
walk_atoms : (s : Sequent) → IsPropositional s → HasAtoms (walk s)
unfolding walk
walk_atoms s plain = within_atoms _ s (and_both _ _ (none_quantified (set.listing s.left) plain.left) (none_quantified (set.listing s.right) plain.right))

-- what a false sequent makes true are atoms
pub falsified_atoms : (s : Sequent) (n : ℕ) (a : Assignment) → IsPropositional s → walk s ≡ falsified n a → list_all is_atom (set.listing a) ≡ true
falsified_atoms s n a plain e = subst (λ w. HasAtoms w) e (walk_atoms s plain)
