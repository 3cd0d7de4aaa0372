-- What is kept after some rounds covers all clauses that these rounds reach, and is reached by them.
use Rattle.std.proofs.Common.{◌≡◌, ℕ, zero, suc, true, List, [], map, inl, inr, ⊎_elim, arith}
use Rattle.std.specs.Prelude.{Contains}
use Rattle.std.specs.List.{All, flat_map}
use Rattle.std.proofs.lemmas.List.Elements.{All-contains, All-nil, All-map}
use Rattle.lk_rules.specs.declared.sequent.Sequent.{Sequent}
use Rattle.clause_laws.specs.Subsumption.{IsClause, IsTautology}
use Rattle.clause_laws.specs.Choices.{full_resolvents}
use Rattle.clause_laws.specs.Normal.{IsNormal, normal}
use Rattle.clause_laws.specs.Rounds.{Covers, ResolventOf, WithResolvents, IsClosed, Level}
use Rattle.clause_laws.specs.Keeping.{is_covered, with_each, resolvents_of, rounds, is_closed, IsReduced}
use Rattle.clause_laws.proofs.Subsuming.{variant_subsumed, variant_subsumes}
use Rattle.clause_laws.proofs.Atomic.{clause_full, clause_variant}
use Rattle.clause_laws.proofs.Listed.{sound}
use Rattle.clause_laws.proofs.Variants.{variant_listed}
use Rattle.clause_laws.proofs.Lists.{contains-map, contains-flat_map, from_flat_map, all_pass_contained, contained_all_pass, all_contained}
use Rattle.clause_laws.proofs.Normalised.{normal_variant, normal_is}
use Rattle.clause_laws.proofs.Covering.{Clauses, covered_more, variant_again, level_more, level_resolvent, level_start, level_next}
use Rattle.clause_laws.proofs.Kept.{AreClauses, covered_sound, covered_complete, each_kept, each_covers, each_reduced}

-- all full resolvents of a list

module _ (ks : List Sequent) where
  listed_resolvent : (c d r : Sequent) → Contains ks c → Contains ks d → Contains (full_resolvents c d) r → Contains (resolvents_of ks) r
  listed_resolvent c d r one two h = contains-flat_map (λ e. flat_map (full_resolvents e) ks) ks c r one (contains-flat_map (full_resolvents c) ks d r two h)

  pub from_resolvents : AreClauses ks → (r : Sequent) → Contains (resolvents_of ks) r → ResolventOf (Contains ks) r
  from_resolvents clauses r =
      from_flat_map (λ e. flat_map (full_resolvents e) ks) ks r (λ c one. from_flat_map (full_resolvents c) ks r (λ d two h. record {
        first = c;
        second = d;
        is_first = one;
        is_second = two;
        full = sound c d (All-contains IsClause ks c clauses one) (All-contains IsClause ks d clauses two) r h;
      }))

  -- what covers the list of its full resolvents covers all of them
  pub resolvents_by_list : (k : Clauses) → Covers k (Contains (resolvents_of ks)) → Covers k (ResolventOf (Contains ks))
  resolvents_by_list k covers r h =
      let v = variant_listed h.first h.second r h.full in
      covered_more k v.member r (covers v.member (listed_resolvent h.first h.second v.member h.is_first h.is_second v.is_member)) (variant_subsumed v.member r v.variant)

  -- the test that a list is closed

  pub closed_sound : AreClauses ks → is_closed ks ≡ true → IsClosed (Contains ks)
  closed_sound clauses e =
      resolvents_by_list (Contains ks)
      (λ r at. covered_sound ks clauses r (all_pass_contained (is_covered ks) (resolvents_of ks) e r at))

  pub closed_complete : AreClauses ks → IsClosed (Contains ks) → is_closed ks ≡ true
  closed_complete clauses closed = contained_all_pass (is_covered ks) (resolvents_of ks) (λ r at. covered_complete ks clauses r (closed r (from_resolvents clauses r at)))

-- clauses with their variables numbered

normal_covers : (k : Clauses) (cs : List Sequent) → Covers k (Contains (map normal cs)) → Covers k (Contains cs)
normal_covers k cs covers c m = covered_more k (normal c) c (covers (normal c) (contains-map normal cs c m)) (variant_subsumes c (normal c) (normal_variant c))

normal_clauses : (cs : List Sequent) → AreClauses cs → AreClauses (map normal cs)
normal_clauses cs clauses = All-map IsClause normal cs (all_contained (λ c. IsClause (normal c)) cs (λ c m. clause_variant c (normal c) (normal_variant c) (All-contains IsClause cs c clauses m)))

all_normal : (cs : List Sequent) → All IsNormal (map normal cs)
all_normal cs = All-map IsNormal normal cs (all_contained (λ c. IsNormal (normal c)) cs (λ c m. normal_is c))

module _ (cs : List Sequent) (clauses : AreClauses cs) where
  resolvent_clauses : (ks : List Sequent) → AreClauses ks → AreClauses (resolvents_of ks)
  resolvent_clauses ks of_ks =
      all_contained IsClause (resolvents_of ks) (λ r at.
      let h = from_resolvents ks of_ks r at in
      clause_full h.first h.second r (All-contains IsClause ks h.first of_ks h.is_first) (All-contains IsClause ks h.second of_ks h.is_second) h.full)

  pub rounds_clauses : (n : ℕ) → AreClauses (rounds cs n)
  unfolding rounds
  rounds_clauses zero = each_kept IsClause [] (map normal cs) (All-nil IsClause) (normal_clauses cs clauses)
  rounds_clauses (suc n) = each_kept IsClause (rounds cs n) (map normal (resolvents_of (rounds cs n))) (rounds_clauses n) (normal_clauses (resolvents_of (rounds cs n)) (resolvent_clauses (rounds cs n) (rounds_clauses n)))

  -- a round covers the one before, and all its resolvents
  pub round_next : (n : ℕ) → Covers (Contains (rounds cs (suc n))) (WithResolvents (Contains (rounds cs n)))
  unfolding rounds
  round_next n =
      let ks = rounds cs n in
      let more = resolvents_of ks in
      let all = each_covers ks (map normal more) (rounds_clauses n) (normal_clauses more (resolvent_clauses ks (rounds_clauses n))) in
      let k : Clauses = Contains (with_each ks (map normal more)) in
      let old : Covers k (Contains ks) = λ c m. all c (inl m) in
      λ r. ⊎_elim (old r) (resolvents_by_list ks k (normal_covers k more (λ c m. all c (inr m))) r)

  pub rounds_cover : (n : ℕ) → Covers (Contains (rounds cs n)) (Level cs n)
  unfolding rounds
  rounds_cover zero =
      let k : Clauses = Contains (with_each [] (map normal cs)) in
      level_start cs k (normal_covers k cs (λ c m. each_covers [] (map normal cs) (All-nil IsClause) (normal_clauses cs clauses) c (inr m)))
  rounds_cover (suc n) = level_next cs (Contains (rounds cs (suc n))) n (Contains (rounds cs n)) (rounds_cover n) (round_next n)

  pub rounds_reached : (n : ℕ) → All (Level cs n) (rounds cs n)
  unfolding rounds
  rounds_reached zero =
      each_kept (Level cs 0) [] (map normal cs) (All-nil (Level cs 0))
      (All-map (Level cs 0) normal cs (all_contained (λ c. Level cs 0 (normal c)) cs (λ c m. record { member = c; is_member = m; variant = normal_variant c })))
  rounds_reached (suc n) =
      let ks = rounds cs n in
      let more = resolvents_of ks in
      let next : Clauses = Level cs (suc n) in
      each_kept next ks (map normal more)
      (all_contained next ks (λ c m. level_more cs n c (All-contains (Level cs n) ks c (rounds_reached n) m)))
      (All-map next normal more (all_contained (λ c. next (normal c)) more (λ r at.
      variant_again (WithResolvents (Level cs n)) r (normal r)
      (level_resolvent cs n (Contains ks) (λ c m. All-contains (Level cs n) ks c (rounds_reached n) m) r (from_resolvents ks (rounds_clauses n) r at))
      (normal_variant r))))

  pub rounds_reduced : (n : ℕ) → IsReduced (rounds cs n)
  unfolding rounds
  rounds_reduced zero = each_reduced [] (map normal cs) (All-nil IsClause) (normal_clauses cs clauses) (record { no_tautology = All-nil (λ (k : Sequent). IsTautology k → ⊥); independent = λ i j d l g. absurd (omega arith) })
  rounds_reduced (suc n) =
      each_reduced (rounds cs n) (map normal (resolvents_of (rounds cs n))) (rounds_clauses n)
      (normal_clauses (resolvents_of (rounds cs n)) (resolvent_clauses (rounds cs n) (rounds_clauses n))) (rounds_reduced n)

  pub rounds_normal : (n : ℕ) → All IsNormal (rounds cs n)
  unfolding rounds
  rounds_normal zero = each_kept IsNormal [] (map normal cs) (All-nil IsNormal) (all_normal cs)
  rounds_normal (suc n) = each_kept IsNormal (rounds cs n) (map normal (resolvents_of (rounds cs n))) (rounds_normal n) (all_normal (resolvents_of (rounds cs n)))
