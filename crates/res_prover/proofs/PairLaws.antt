-- The resolvents of two clauses by choices of their atoms are their full resolvents.
use Rattle.std.proofs.Common.{◌≡◌, List, ◌++◌, sym, ap, subst, ◌∙◌}
use Rattle.std.specs.Prelude.{Contains, bit_and}
use Rattle.std.specs.List.{All}
use Rattle.std.proofs.lemmas.List.Elements.{All-contains, Contains-append_left, Contains-append_right}
use Rattle.finite.specs.Finite as set
use Rattle.lk_rules.specs.declared.sequent.Sequent.{Sequent}
use Rattle.lk_rules.specs.Sequents.{image_sequent}
use Rattle.refutations.specs.Refutations.{resolvent}
use Rattle.fol.specs.Syntax.{Formula}
use Rattle.clause_laws.specs.Apart.{first_apart}
use Rattle.clause_laws.specs.Subsumption.{IsVariant, AreApart, Subsumes}
use Rattle.clause_laws.specs.Resolvents.{IsFullResolvent}
use Rattle.clause_laws.specs.Choices.{choices, ByChoice}
use Rattle.clause_laws.specs.Normal.{IsNormal, normal}
use Rattle.clause_laws.proofs.Listed.{sound_choice}
use Rattle.clause_laws.proofs.Variants.{choice_apart}
use Rattle.clause_laws.proofs.RenamedApart.{first_variant, second_variant, apart}
use Rattle.clause_laws.proofs.Subsuming.{variant_back, variant_both, variant_subsumed}
use Rattle.clause_laws.proofs.Normalised.{normal_variant, normal_is}
use Rattle.res_prover.specs.declared.partners.Partner.{Partner}
use Rattle.res_prover.specs.Lists.{lists_of}
use Rattle.res_prover.specs.Choosing.{IsUnified}
use Rattle.res_prover.specs.Partners.{IsPartner}
use Rattle.res_prover.specs.Resolved.{IsResolvedBy}
use Rattle.res_prover.specs.Working.{ByAtoms, IsNext, FromOne}
use Rattle.res_prover.specs.GroundAtoms.{whole_marks, AreApart as AreApartMarks}
use Rattle.substitution.specs.Image.{image}
use Rattle.clause_laws.proofs.Atomic.{makes-listed}
use Rattle.res_prover.proofs.Chosen.{one_chosen}
use Rattle.res_prover.proofs.GroundAtomLaws.{none_unified}
use Rattle.res_prover.proofs.Extensions.{unified_front, unified_back}

-- the resolvent by some atoms is, up to names of variables, each one by these
pub same_by_atoms : (p n : Sequent) (fs gs : List Formula) (c : Sequent) → IsResolvedBy p n fs gs c → (r : Sequent) → ByAtoms p n fs gs r → Subsumes c r
same_by_atoms p n fs gs c by r other =
    let q = resolvent (image_sequent by.unifier p) (image_sequent by.unifier n) by.atom in
    variant_subsumed c r
    (subst (λ s. IsVariant s r) (sym by.is) (variant_both (normal q) q r (variant_back q (normal q) (normal_variant q)) (other.any by.unifier by.atom by.most_general)))

module _ (x y : Partner) (of_x : IsPartner x) (of_y : IsPartner y) where
  first_is : IsVariant x.clause x.first
  first_is = subst (IsVariant x.clause) (sym of_x.first) (first_variant x.clause)

  second_is : IsVariant y.clause y.second
  second_is = subst (IsVariant y.clause) (sym of_y.second) (second_variant y.clause)

  are_apart : AreApart x.first y.second
  are_apart = subst (λ s. AreApart s y.second) (sym of_x.first) (subst (AreApart (image_sequent first_apart x.clause)) (sym of_y.second) (apart x.clause y.clause))

  pub next_by : (fs gs : List Formula) → Contains (choices (set.listing x.first.right)) fs → Contains (choices (set.listing y.second.left)) gs
      → (c : Sequent) → IsResolvedBy x.first y.second fs gs c → (ks : List Sequent) → Contains ks x.clause → Contains ks y.clause → IsNext ks c
  next_by fs gs one two c by ks in_x in_y =
      let q = resolvent (image_sequent by.unifier x.first) (image_sequent by.unifier y.second) by.atom in
      let full : IsFullResolvent x.clause y.clause q = sound_choice x.clause y.clause x.first y.second first_is second_is are_apart fs gs one two by.unifier by.atom by.of_atoms by.most_general in
      record {
        full = record {
          member = q;
          is_member = record { first = x.clause; second = y.clause; is_first = in_x; is_second = in_y; full = full };
          variant = subst (IsVariant q) (sym by.is) (normal_variant q);
        };
        normal = subst IsNormal (sym by.is) (normal_is q);
      }

  -- each full resolvent is one by choices that have a unifier
  pub by_choices : (r : Sequent) → IsFullResolvent x.clause y.clause r → FromOne (λ fs. FromOne (λ gs. ByAtoms x.first y.second fs gs) (lists_of y.lefts.items)) (lists_of x.rights.items) r
  by_choices r full =
      let choice : ByChoice x.first y.second r = choice_apart x.clause y.clause x.first y.second r first_is second_is are_apart full in
      let all : IsUnified (choice.positive ++ choice.negative) = record { map = choice.map; atom = choice.atom; unifies = choice.unifies } in
      record {
        one = choice.positive;
        is_one = of_x.rights.has choice.positive choice.is_positive (unified_front choice.positive choice.negative all);
        by = record {
          one = choice.negative;
          is_one = of_y.lefts.has choice.negative choice.is_negative (unified_back choice.positive choice.negative all);
          by = record { map = choice.map; atom = choice.atom; unifies = choice.unifies; any = choice.any };
        };
      }

  -- none where no atoms of the sides have a unifier
  pub none_resolved : AreApartMarks x.right_marks y.left_marks → (r : Sequent) → IsFullResolvent x.clause y.clause r → ⊥
  none_resolved marks r full =
      let choice : ByChoice x.first y.second r = choice_apart x.clause y.clause x.first y.second r first_is second_is are_apart full in
      let fs = set.listing x.first.right in
      let gs = set.listing y.second.left in
      let P : Formula → Type 0 = λ q. image choice.map q ≡ choice.atom in
      let all : All P (choice.positive ++ choice.negative) = (makes-listed choice.map (choice.positive ++ choice.negative) choice.atom).0 choice.unifies in
      let f = one_chosen fs choice.positive choice.is_positive in
      let g = one_chosen gs choice.negative choice.is_negative in
      none_unified fs gs (sym of_x.right_marks.some_open ∙ marks.first) (sym of_y.left_marks.some_open ∙ marks.second)
      (ap (λ n. bit_and n (whole_marks gs)) (sym of_x.right_marks.wholes) ∙ ap (bit_and x.right_marks.wholes) (sym of_y.left_marks.wholes) ∙ marks.wholes)
      f.0 g.0 f.2 g.2 choice.map
      (All-contains P (choice.positive ++ choice.negative) f.0 all (Contains-append_left choice.positive choice.negative f.0 f.1)
      ∙ sym (All-contains P (choice.positive ++ choice.negative) g.0 all (Contains-append_right choice.positive choice.negative g.0 g.1)))
