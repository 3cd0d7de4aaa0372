-- A sequent without quantifiers at which a search takes no rule is false if just its left atoms are true.
use Rattle.std.proofs.Common.{◌≡◌, true, false, not as negated, refl}
use Rattle.std.specs.List.{list_all}
use Rattle.fol.specs.Syntax.{Formula, atom, top, bot, not, and, or, imp, all, ex}
use Rattle.finite.specs.Finite as set
use Rattle.lk_rules.specs.declared.sequent.Sequent.{Sequent}
use Rattle.lk_rules.proofs.Subsequents.{and_left, and_right, and_both}
use Rattle.proof_trees.proofs.FormulaSets.{without_member}
use Rattle.search_laws.specs.Truth.{value, falsifies}
use Rattle.search_laws.specs.Search.{is_compound, left_atoms}
use Rattle.search_laws.proofs.Tests.{clash, fails, not_false}
use Rattle.search_laws.proofs.Listed.{member_passes, members_pass, within_without}
use Rattle.search_laws.proofs.Passing.{passes}
use Rattle.search_laws.proofs.Searched.{is_propositional}
use Rattle.search_laws.proofs.Taken.{IsUntaken}

module _ (s : Sequent) (h : IsUntaken s) where
  -- each formula on the left is true
  true_left : (f : Formula) → set.has s.left f ≡ true → is_compound f ≡ false → is_propositional f ≡ true → value (left_atoms s) f ≡ true
  true_left (atom r ts) m e q = without_member s.left top (atom r ts) m refl
  true_left top m e q = refl
  true_left bot m e q = clash (set.has s.left bot) m h.no_falsity
  true_left (not f) m e q = cc
  true_left (and f g) m e q = cc
  true_left (or f g) m e q = cc
  true_left (imp f g) m e q = cc
  true_left (all f) m e q = cc
  true_left (ex f) m e q = cc

  -- each formula on the right is false
  false_right : (f : Formula) → set.has s.right f ≡ true → is_compound f ≡ false → is_propositional f ≡ true → value (left_atoms s) f ≡ false
  false_right (atom r ts) m e q =
      fails (set.has (left_atoms s) (atom r ts)) (λ in_left. clash (set.has s.right (atom r ts)) m (h.apart (atom r ts) (within_without s.left top (atom r ts) in_left)))
  false_right top m e q = clash (set.has s.right top) m h.no_truth
  false_right bot m e q = refl
  false_right (not f) m e q = cc
  false_right (and f g) m e q = cc
  false_right (or f g) m e q = cc
  false_right (imp f g) m e q = cc
  false_right (all f) m e q = cc
  false_right (ex f) m e q = cc

  -- so the sequent is false
  pub falsified_by_atoms : passes (λ side. is_propositional) s ≡ true → falsifies (left_atoms s) s ≡ true
  falsified_by_atoms plain =
      and_both _ _
      (members_pass (value (left_atoms s)) s.left (λ f m. true_left f m (h.atomic_left f m) (member_passes is_propositional s.left f (and_left _ _ plain) m)))
      (members_pass (λ f. negated (value (left_atoms s) f)) s.right (λ f m.
      not_false _ (false_right f m (h.atomic_right f m) (member_passes is_propositional s.right f (and_right (list_all is_propositional (set.listing s.left)) _ plain) m))))
