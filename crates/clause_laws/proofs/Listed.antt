-- The list of full resolvents has full resolvents alone.
use Rattle.std.proofs.Common.{◌≡◌, Bool, true, List, [], ◌∷◌, ◌++◌, filter, Option, Some, None, refl, sym, subst, ◌∙◌}
use Rattle.std.specs.Prelude.{Contains, option_map}
use Rattle.std.specs.FinMap as fin
use Rattle.std.specs.List.{flat_map, list_any}
use Rattle.std.specs.Option.{option_to_list}
use Rattle.std.specs.Ordering.{eq_by_cmp}
use Rattle.fol.specs.Syntax.{Formula}
use Rattle.fol.specs.Order.{formula_cmp}
use Rattle.finite.specs.Finite as set
use Rattle.finite.proofs.Finite.{has-listing}
use Rattle.substitution.specs.Image.{image}
use Rattle.substitution.specs.Maps.{Map}
use Rattle.lk_rules.specs.declared.sequent.Sequent.{Sequent}
use Rattle.lk_rules.specs.declared.sequent.Side.TheVariants.{Left, Right}
use Rattle.lk_rules.specs.Sequents.{image_sequent}
use Rattle.proof_trees.proofs.Booleans.{or_first}
use Rattle.proof_trees.proofs.Members.{some_passes}
use Rattle.proof_trees.proofs.FormulaSets.{tied}
use Rattle.proof_trees.specs.FormulaSets.{is_atom}
use Rattle.refutations.specs.Refutations.{resolvent}
use Rattle.substitution.proofs.Booleans.{and_left, and_right}
use Rattle.clause_laws.specs.Subsumption.{IsClause, IsVariant, AreApart}
use Rattle.clause_laws.specs.Apart.{first_apart, second_apart}
use Rattle.clause_laws.specs.Unifiers.{set_of, IsMostGeneral, unifier}
use Rattle.clause_laws.specs.Resolvents.{IsResolvent, IsFullResolvent, resolved_by}
use Rattle.clause_laws.specs.Choices.{choices, resolvents_by, resolvents_apart, full_resolvents}
use Rattle.clause_laws.proofs.Sets.{Replacing, is_in, in_filter}
use Rattle.clause_laws.proofs.Unified.{IsUnifierOf, unifier_of}
use Rattle.clause_laws.proofs.Atomic.{clause_variant}
use Rattle.clause_laws.proofs.RenamedApart.{first_variant, second_variant, apart}
use Rattle.clause_laws.proofs.Resolving.{resolves, resolves_by, in_front, in_parts}
use Rattle.clause_laws.proofs.Lists.{contains_head, contains_none, only_one, contains-flat_map, from_flat_map, choice_members, choice_has_one}

-- by one choice

of_unifier : (c d : Sequent) (k : Formula) (o : Option Map) (m : Map) → o ≡ Some m → Contains (option_to_list (option_map (resolved_by c d k) o)) (resolved_by c d k m)
of_unifier c d k o m is = subst (λ (q : Option Map). Contains (option_to_list (option_map (resolved_by c d k) q)) (resolved_by c d k m)) (sym is) (contains_head (resolved_by c d k m) [])

-- whichever of the right atoms is taken for the one that goes
pub in_resolvents_by : (c d : Sequent) (fs gs : List Formula) (f : Formula) → is_in fs f ≡ true → (m : Map) → unifier (fs ++ gs) ≡ Some m → IsUnifierOf (fs ++ gs) m → Contains (resolvents_by c d fs gs) (resolved_by c d f m)
in_resolvents_by c d [] gs f e m is right = cc
in_resolvents_by c d (k ∷ fs) gs f e m is right =
    let first : is_in (k ∷ fs) k ≡ true = or_first (eq_by_cmp formula_cmp k k) (is_in fs k) (tied k k refl) in
    let one : image (fin.get m) k ≡ image (fin.get m) f = right.one k f (in_front (k ∷ fs) gs k first) (in_front (k ∷ fs) gs f e) in
    subst (λ (a : Formula). Contains (resolvents_by c d (k ∷ fs) gs) (resolvent (image_sequent (fin.get m) c) (image_sequent (fin.get m) d) a)) one
    (of_unifier c d k (unifier ((k ∷ fs) ++ gs)) m is)

from_unifier : {P : Type 0} (c d : Sequent) (k : Formula) (o : Option Map) (r : Sequent) → ((m : Map) → o ≡ Some m → resolved_by c d k m ≡ r → P) → Contains (option_to_list (option_map (resolved_by c d k) o)) r → P
from_unifier c d k None r use_it h = contains_none r h
from_unifier c d k (Some m) r use_it h = use_it m refl (only_one (resolved_by c d k m) r h)

pub from_resolvents_by : {P : Type 0} (c d : Sequent) (fs gs : List Formula) (r : Sequent) → ((f : Formula) (m : Map) → is_in fs f ≡ true → unifier (fs ++ gs) ≡ Some m → resolved_by c d f m ≡ r → P) → Contains (resolvents_by c d fs gs) r → P
from_resolvents_by c d [] gs r use_it h = contains_none r h
from_resolvents_by c d (k ∷ fs) gs r use_it h =
    from_unifier c d k (unifier ((k ∷ fs) ++ gs)) r (λ m. use_it k m (or_first (eq_by_cmp formula_cmp k k) (is_in fs k) (tied k k refl))) h

-- by all choices

module _ (c d : Sequent) where
  pub in_resolvents_apart : (fs gs : List Formula) → Contains (choices (set.listing c.right)) fs → Contains (choices (set.listing d.left)) gs → (r : Sequent) → Contains (resolvents_by c d fs gs) r → Contains (resolvents_apart c d) r
  in_resolvents_apart fs gs one two r h =
      contains-flat_map (λ ks. flat_map (resolvents_by c d ks) (choices (set.listing d.left))) (choices (set.listing c.right)) fs r one
      (contains-flat_map (resolvents_by c d fs) (choices (set.listing d.left)) gs r two h)

  pub sound_apart : IsClause c → IsClause d → (r : Sequent) → Contains (resolvents_apart c d) r → IsResolvent c d r
  sound_apart of_c of_d r =
      from_flat_map (λ ks. flat_map (resolvents_by c d ks) (choices (set.listing d.left))) (choices (set.listing c.right)) r (λ fs one.
      from_flat_map (resolvents_by c d fs) (choices (set.listing d.left)) r (λ gs two.
      from_resolvents_by c d fs gs r (λ f m at found is.
      choice_has_one (set.listing d.left) gs (λ g on.
      let right_atoms = λ (q : Formula) (e : is_in fs q ≡ true). has-listing c.right q ∙ choice_members (set.listing c.right) fs one q e in
      let left_atoms = λ (q : Formula) (e : is_in gs q ≡ true). has-listing d.left q ∙ choice_members (set.listing d.left) gs two q e in
      let atoms = λ (q : Formula) (e : is_in (fs ++ gs) q ≡ true). in_parts fs gs q (λ a. of_c Right q (right_atoms q a)) (λ a. of_d Left q (left_atoms q a)) e in
      subst (IsResolvent c d) is
      (resolves c d fs gs f g at on right_atoms left_atoms (of_c Right f (right_atoms f at)) m (unifier_of (fs ++ gs) atoms m found)))
      two)))

-- by any most general unifier
pub sound_choice : (c d p n : Sequent) → IsVariant c p → IsVariant d n → AreApart p n → (fs gs : List Formula) → Contains (choices (set.listing p.right)) fs → Contains (choices (set.listing n.left)) gs
    → (m : Replacing) (b : Formula) → is_atom b ≡ true → IsMostGeneral m (set_of (fs ++ gs)) b → IsFullResolvent c d (resolvent (image_sequent m p) (image_sequent m n) b)
sound_choice c d p n of_c of_d apart fs gs one two m b is general =
    choice_has_one (set.listing p.right) fs (λ f at. choice_has_one (set.listing n.left) gs (λ g on. record {
      first = p;
      second = n;
      first_variant = of_c;
      second_variant = of_d;
      apart = apart;
      resolves =
          resolves_by p n fs gs f g at on
          (λ q e. has-listing p.right q ∙ choice_members (set.listing p.right) fs one q e) (λ q e. has-listing n.left q ∙ choice_members (set.listing n.left) gs two q e)
          m b is general;
    }) two) one

-- renamed apart

pub sound_variants : (c d p n : Sequent) → IsVariant c p → IsVariant d n → AreApart p n → IsClause c → IsClause d → (r : Sequent) → Contains (resolvents_apart p n) r → IsFullResolvent c d r
sound_variants c d p n of_c of_d apart clause_c clause_d r h = record {
  first = p;
  second = n;
  first_variant = of_c;
  second_variant = of_d;
  apart = apart;
  resolves = sound_apart p n (clause_variant c p of_c clause_c) (clause_variant d n of_d clause_d) r h;
}

pub sound : (c d : Sequent) → IsClause c → IsClause d → (r : Sequent) → Contains (full_resolvents c d) r → IsFullResolvent c d r
unfolding full_resolvents
sound c d = sound_variants c d (image_sequent first_apart c) (image_sequent second_apart d) (first_variant c) (second_variant d) (apart c d)

-- a filter keeps a formula that passes
pub some_chosen : (p : Formula → Bool) (fs : List Formula) (f : Formula) → is_in (filter p fs) f ≡ true → list_any p fs ≡ true
some_chosen p fs f e =
    let both = sym (in_filter p fs f) ∙ e in
    some_passes p fs f (and_right (p f) (is_in fs f) both) (and_left (p f) (is_in fs f) both)
