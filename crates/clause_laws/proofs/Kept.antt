-- Clauses that are kept cover all that came, and none of them is needless.
use Rattle.std.proofs.Common.{◌≡◌, ◌↔◌, Bool, true, false, not, if◌then◌else◌, List, [], ◌∷◌, filter, refl, ap, subst, ◌⊎◌, inl, inr, ⊎_elim}
use Rattle.std.specs.Prelude.{Contains}
use Rattle.std.specs.List.{All, list_any}
use Rattle.std.proofs.lemmas.Bool.{both_ways, not-true}
use Rattle.std.proofs.lemmas.List.Elements.{All-contains, All-cons, All-head, All-tail, All-filter, All-contains_itself, filter_passes}
use Rattle.std.proofs.lemmas.List.Kept.{AllPairs-cons, AllPairs-filter}
use Rattle.lk_rules.specs.declared.sequent.Sequent.{Sequent}
use Rattle.proof_trees.proofs.Booleans.{or_first, or_second, either}
use Rattle.unify_laws.proofs.Images.{split}
use Rattle.clause_laws.specs.Subsumption.{IsClause, IsTautology}
use Rattle.clause_laws.specs.Searching.{subsumes, is_tautology}
use Rattle.clause_laws.specs.Rounds.{IsCovered, Covers}
use Rattle.clause_laws.specs.Keeping.{is_covered, with_clause, with_each, AreIndependent, IsReduced}
use Rattle.clause_laws.proofs.Searched.{subsumes-tested, tautology-tested}
use Rattle.clause_laws.proofs.Lists.{contains_head, contains_later, contains_none, from_contains, all_contained, from_any, any_contained, contains-filter}
use Rattle.clause_laws.proofs.Covering.{covered_member, covered_by}

abbrev pub AreClauses : List Sequent → Type 0
AreClauses ks = All IsClause ks

-- the test

pub covered_sound : (ks : List Sequent) → AreClauses ks → (c : Sequent) → is_covered ks c ≡ true → IsCovered (Contains ks) c
covered_sound ks clauses c e =
    either (is_tautology c) (list_any (λ k. subsumes k c) ks)
    (λ yes. inl ((tautology-tested c).0 yes))
    (from_any (λ k. subsumes k c) ks (λ k at yes. inr (record { member = k; is_member = at; subsumes = (subsumes-tested k c (All-contains IsClause ks k clauses at)).0 yes })))
    e

pub covered_complete : (ks : List Sequent) → AreClauses ks → (c : Sequent) → IsCovered (Contains ks) c → is_covered ks c ≡ true
covered_complete ks clauses c (inl t) = or_first (is_tautology c) (list_any (λ k. subsumes k c) ks) ((tautology-tested c).1 t)
covered_complete ks clauses c (inr s) =
    or_second (is_tautology c) (list_any (λ k. subsumes k c) ks)
    (any_contained (λ k. subsumes k c) ks s.member s.is_member ((subsumes-tested s.member c (All-contains IsClause ks s.member clauses s.is_member)).1 s.subsumes))

pub covered-tested : (ks : List Sequent) → AreClauses ks → (c : Sequent) → (is_covered ks c ≡ true) ↔ IsCovered (Contains ks) c
covered-tested ks clauses c = (covered_sound ks clauses c, covered_complete ks clauses c)

-- one clause more

module _ (ks : List Sequent) (clauses : AreClauses ks) (c : Sequent) (clause : IsClause c) where
  abbrev rest : List Sequent
  rest = filter (λ k. not (subsumes c k)) ks

  added_covers : Covers (Contains (c ∷ rest)) (Contains (c ∷ ks))
  added_covers d =
      from_contains c ks d
      (λ here. subst (IsCovered (Contains (c ∷ rest))) here (covered_member (Contains (c ∷ rest)) c (contains_head c rest)))
      (λ later. split (subsumes c d)
      (λ yes. inr (record { member = c; is_member = contains_head c rest; subsumes = (subsumes-tested c d clause).0 yes }))
      (λ no. covered_member (Contains (c ∷ rest)) d (contains_later c rest d (contains-filter (λ k. not (subsumes c k)) ks d later (ap not no)))))

  left_out_covers : IsCovered (Contains ks) c → Covers (Contains ks) (Contains (c ∷ ks))
  left_out_covers covered d = from_contains c ks d (λ here. subst (IsCovered (Contains ks)) here covered) (covered_member (Contains ks) d)

  covers_by : (b : Bool) → is_covered ks c ≡ b → Covers (Contains (if b then ks else c ∷ rest)) (Contains (c ∷ ks))
  covers_by true e = left_out_covers (covered_sound ks clauses c e)
  covers_by false e = added_covers

  pub clause_covers : Covers (Contains (with_clause ks c)) (Contains (c ∷ ks))
  clause_covers = covers_by (is_covered ks c) refl

  -- nothing needless is kept

  needed : is_covered ks c ≡ false → IsCovered (Contains ks) c → ⊥
  needed out covered = both_ways (is_covered ks c) out (covered_complete ks clauses c covered)

  independent_added : is_covered ks c ≡ false → All (AreIndependent c) rest
  independent_added out =
      all_contained (AreIndependent c) rest (λ d at.
      let there : Contains ks d = All-contains (Contains ks) rest d (All-filter (λ k. not (subsumes c k)) (Contains ks) ks (All-contains_itself ks)) at in (
        λ h. both_ways (subsumes c d) (not-true (subsumes c d) (All-contains (λ k. not (subsumes c k) ≡ true) rest d (filter_passes (λ k. not (subsumes c k)) ks) at)) ((subsumes-tested c d clause).1 h),
        λ h. needed out (inr (record { member = d; is_member = there; subsumes = h })),
      ))

  reduced_by : IsReduced ks → (b : Bool) → is_covered ks c ≡ b → IsReduced (if b then ks else c ∷ rest)
  reduced_by h true e = h
  reduced_by h false e = record {
    no_tautology = All-cons (λ (k : Sequent). IsTautology k → ⊥) c rest (λ t. needed e (inl t)) (All-filter (λ k. not (subsumes c k)) (λ (k : Sequent). IsTautology k → ⊥) ks h.no_tautology);
    independent = AllPairs-cons AreIndependent c rest (independent_added e) (AllPairs-filter AreIndependent (λ k. not (subsumes c k)) ks h.independent);
  }

  pub clause_reduced : IsReduced ks → IsReduced (with_clause ks c)
  clause_reduced h = reduced_by h (is_covered ks c) refl

-- what is kept has come

kept_of : (P : Sequent → Type 0) (ks : List Sequent) (c : Sequent) (b : Bool) → All P ks → P c → All P (if b then ks else c ∷ filter (λ k. not (subsumes c k)) ks)
kept_of P ks c true all p = all
kept_of P ks c false all p = All-cons P c (filter (λ k. not (subsumes c k)) ks) p (All-filter (λ k. not (subsumes c k)) P ks all)

pub clause_kept : (P : Sequent → Type 0) (ks : List Sequent) (c : Sequent) → All P ks → P c → All P (with_clause ks c)
clause_kept P ks c = kept_of P ks c (is_covered ks c)

-- several clauses more

pub each_kept : (P : Sequent → Type 0) (ks cs : List Sequent) → All P ks → All P cs → All P (with_each ks cs)
each_kept P ks [] all more = all
each_kept P ks (c ∷ cs) all more = each_kept P (with_clause ks c) cs (clause_kept P ks c all (All-head P c cs more)) (All-tail P c cs more)

abbrev pub InEither : List Sequent → List Sequent → Sequent → Type 0
InEither ks cs d = Contains ks d ⊎ Contains cs d

pub each_covers : (ks cs : List Sequent) → AreClauses ks → AreClauses cs → Covers (Contains (with_each ks cs)) (InEither ks cs)
each_covers ks [] of_ks of_cs d (inl h) = covered_member (Contains ks) d h
each_covers ks [] of_ks of_cs d (inr h) = contains_none d h
each_covers ks (c ∷ cs) of_ks of_cs d h =
    let clause = All-head IsClause c cs of_cs in
    let now = with_clause ks c in
    let later : Covers (Contains (with_each now cs)) (InEither now cs) = each_covers now cs (clause_kept IsClause ks c of_ks clause) (All-tail IsClause c cs of_cs) in
    let as_kept = λ (e : Sequent) (k : Contains (c ∷ ks) e). covered_by (Contains (with_each now cs)) (Contains now) (λ q at. later q (inl at)) e (clause_covers ks of_ks c clause e k) in
    ⊎_elim
    (λ old. as_kept d (contains_later c ks d old))
    (from_contains c cs d
    (λ here. as_kept d (subst (Contains (c ∷ ks)) here (contains_head c ks)))
    (λ rest_has. later d (inr rest_has)))
    h

pub each_reduced : (ks cs : List Sequent) → AreClauses ks → AreClauses cs → IsReduced ks → IsReduced (with_each ks cs)
each_reduced ks [] of_ks of_cs h = h
each_reduced ks (c ∷ cs) of_ks of_cs h =
    let clause = All-head IsClause c cs of_cs in
    each_reduced (with_clause ks c) cs (clause_kept IsClause ks c of_ks clause) (All-tail IsClause c cs of_cs) (clause_reduced ks of_ks c clause h)
