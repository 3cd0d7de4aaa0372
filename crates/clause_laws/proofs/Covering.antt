-- What a set covers stays covered: through further sets, through rounds, and by a closed set for ever.
use Rattle.std.proofs.Common.{◌≡◌, ℕ, zero, suc, ◌+◌, true, List, sym, subst, ◌⊎◌, inl, inr, arith}
use Rattle.std.specs.Prelude.{Contains}
use Rattle.fol.specs.Syntax.{Formula}
use Rattle.lk_rules.specs.declared.sequent.Sequent.{Sequent}
use Rattle.lk_rules.specs.Sequents.{empty, IsSubsequent}
use Rattle.proof_trees.specs.FormulaSets.{is_atom}
use Rattle.refutations.specs.Refutations.{resolvent}
use Rattle.clause_laws.specs.Subsumption.{Subsumes, IsVariant, IsTautology}
use Rattle.clause_laws.specs.Resolvents.{IsFullResolvent, SubsumedByPair}
use Rattle.clause_laws.specs.Rounds.{IsCovered, Covers, ResolventOf, WithResolvents, IsClosed, VariantOf, Level}
use Rattle.clause_laws.proofs.Subsuming.{subsumes_itself, subsumes_larger, subsumes_both, tautology_subsumed, variant_subsumed, variant_itself, variant_both}
use Rattle.clause_laws.proofs.Central.{lifted, first_part, second_part, subsumes_first, subsumes_second, first_tautology, second_tautology, subsumes_empty, empty_not_tautology}

abbrev pub Clauses : Type 1
Clauses = Sequent → Type 0

-- l has each member of k
abbrev pub Has : Clauses → Clauses → Type 0
Has l k = (c : Sequent) → k c → l c

-- one set

pub covered_member : (k : Clauses) (c : Sequent) → k c → IsCovered k c
covered_member k c m = inr (record { member = c; is_member = m; subsumes = subsumes_itself c })

pub covers_its : (k l : Clauses) → Has k l → Covers k l
covers_its k l has c m = covered_member k c (has c m)

pub covered_more : (k : Clauses) (c d : Sequent) → IsCovered k c → Subsumes c d → IsCovered k d
covered_more k c d (inl t) h = inl (tautology_subsumed c d h t)
covered_more k c d (inr s) h = inr (record { member = s.member; is_member = s.is_member; subsumes = subsumes_both s.member c d s.subsumes h })

-- one after the other

pub covered_by : (k l : Clauses) → Covers k l → (c : Sequent) → IsCovered l c → IsCovered k c
covered_by k l covers c (inl t) = inl t
covered_by k l covers c (inr s) = covered_more k s.member c (covers s.member s.is_member) s.subsumes

pub covers_both : (k l m : Clauses) → Covers k l → Covers l m → Covers k m
covers_both k l m one two c member = covered_by k l one c (two c member)

-- the empty clause is covered only where it is a member
pub empty_covered : (k : Clauses) → IsCovered k empty → k empty
empty_covered k (inl t) = absurd (empty_not_tautology t)
empty_covered k (inr s) = subst k (subsumes_empty s.member s.subsumes) s.is_member

-- resolvents of what is covered

pub in_round : (k : Clauses) → Has (WithResolvents k) k
in_round k c m = inl m

covered_in_round : (k : Clauses) (c : Sequent) → IsCovered k c → IsCovered (WithResolvents k) c
covered_in_round k = covered_by (WithResolvents k) k (covers_its (WithResolvents k) k (in_round k))

or_tautology : (k : Clauses) (c r : Sequent) → IsCovered k c → IsTautology r ⊎ IsSubsequent c r → IsCovered (WithResolvents k) r
or_tautology k c r covered (inl t) = inl t
or_tautology k c r covered (inr within) = covered_in_round k r (covered_more k c r covered (subsumes_larger c r within))

carried : (k : Clauses) (d e r : Sequent) → k d → k e → SubsumedByPair d e r → IsCovered (WithResolvents k) r
carried k d e r one two (inl h) = inr (record { member = d; is_member = inl one; subsumes = h })
carried k d e r one two (inr (inl h)) = inr (record { member = e; is_member = inl two; subsumes = h })
carried k d e r one two (inr (inr s)) = inr (record {
  member = s.resolvent;
  is_member = inr (record { first = d; second = e; is_first = one; is_second = two; full = s.full });
  subsumes = s.subsumes;
})

-- a resolvent on an atom as it stands
pub resolvent_covered : (k : Clauses) (x y : Sequent) (a : Formula) → is_atom a ≡ true → IsCovered k x → IsCovered k y → IsCovered (WithResolvents k) (resolvent x y a)
resolvent_covered k x y a is (inl t) two = or_tautology k y (resolvent x y a) two (first_tautology x y a t)
resolvent_covered k x y a is (inr s) (inl t) = or_tautology k x (resolvent x y a) (inr s) (second_tautology x y a t)
resolvent_covered k x y a is (inr s) (inr q) = carried k s.member q.member (resolvent x y a) s.is_member q.is_member (lifted s.member q.member x y a is s.subsumes q.subsumes)

of_both : (k : Clauses) (c d r : Sequent) → IsCovered k c → IsCovered k d → IsFullResolvent c d r → IsCovered (WithResolvents k) r
of_both k c d r one two h =
    let x = first_part c d r h in
    let y = second_part c d r h in
    subst (IsCovered (WithResolvents k)) (sym h.resolves.is)
    (resolvent_covered k x y h.resolves.atom h.resolves.of_atoms (covered_more k c x one (subsumes_first c d r h c (subsumes_itself c))) (covered_more k d y two (subsumes_second c d r h d (subsumes_itself d))))

pub resolvents_covered : (k l : Clauses) → Covers k l → Covers (WithResolvents k) (ResolventOf l)
resolvents_covered k l covers r h = of_both k h.first h.second r (covers h.first h.is_first) (covers h.second h.is_second) h.full

pub round_covered : (k l : Clauses) → Covers k l → Covers (WithResolvents k) (WithResolvents l)
round_covered k l covers r (inl m) = covered_in_round k r (covers r m)
round_covered k l covers r (inr h) = resolvents_covered k l covers r h

-- closed sets

pub closed_covers : (k : Clauses) → IsClosed k → Covers k (WithResolvents k)
closed_covers k closed c (inl m) = covered_member k c m
closed_covers k closed c (inr h) = closed c h

-- sets that cover each other are closed alike
pub closed_alike : (k l : Clauses) → Covers k l → Covers l k → IsClosed k → IsClosed l
closed_alike k l one two closed r h = covered_by l k two r (covered_by k (WithResolvents k) (closed_covers k closed) r (resolvents_covered k l one r h))

-- rounds

pub covers_variants : (k l : Clauses) → Covers k l → Covers k (VariantOf l)
covers_variants k l covers c v = covered_more k v.member c (covers v.member v.is_member) (variant_subsumed v.member c v.variant)

pub variant_member : (k : Clauses) → Has (VariantOf k) k
variant_member k c m = record { member = c; is_member = m; variant = variant_itself c }

pub variant_again : (k : Clauses) (c d : Sequent) → VariantOf k c → IsVariant c d → VariantOf k d
variant_again k c d v h = record { member = v.member; is_member = v.is_member; variant = variant_both v.member c d v.variant h }

module _ (cs : List Sequent) where
  pub level_variant : (n : ℕ) (c d : Sequent) → Level cs n c → IsVariant c d → Level cs n d
  level_variant zero = variant_again (Contains cs)
  level_variant (suc n) = variant_again (WithResolvents (Level cs n))

  pub level_more : (n : ℕ) (c : Sequent) → Level cs n c → Level cs (suc n) c
  level_more n c m = variant_member (WithResolvents (Level cs n)) c (inl m)

  pub level_later : (n j : ℕ) (c : Sequent) → Level cs n c → Level cs (j + n) c
  level_later n zero c m = let same : n ≡ 0 + n = omega arith in subst (λ (i : ℕ). Level cs i c) same m
  level_later n (suc j) c m =
      let same : suc (j + n) ≡ suc j + n = omega arith in
      subst (λ (i : ℕ). Level cs i c) same (level_more (j + n) c (level_later n j c m))

  -- a resolvent of clauses of a level is one of the next level
  pub level_resolvent : (n : ℕ) (k : Clauses) → Has (Level cs n) k → (r : Sequent) → ResolventOf k r → Level cs (suc n) r
  level_resolvent n k has r h =
      variant_member (WithResolvents (Level cs n)) r
      (inr (record { first = h.first; second = h.second; is_first = has h.first h.is_first; is_second = has h.second h.is_second; full = h.full }))

  module _ (k : Clauses) where
    pub level_start : Covers k (Contains cs) → Covers k (Level cs 0)
    level_start = covers_variants k (Contains cs)

    pub level_next : (n : ℕ) (l : Clauses) → Covers l (Level cs n) → Covers k (WithResolvents l) → Covers k (Level cs (suc n))
    level_next n l covers next =
        covers_variants k (WithResolvents (Level cs n)) (covers_both k (WithResolvents l) (WithResolvents (Level cs n)) next (round_covered l (Level cs n) covers))

    -- a closed set that covers a level covers each later one
    pub closed_later : IsClosed k → (n : ℕ) → Covers k (Level cs n) → (j : ℕ) → Covers k (Level cs (j + n))
    closed_later closed n covers zero = let same : n ≡ 0 + n = omega arith in subst (λ (i : ℕ). Covers k (Level cs i)) same covers
    closed_later closed n covers (suc j) =
        let same : suc (j + n) ≡ suc j + n = omega arith in
        subst (λ (i : ℕ). Covers k (Level cs i)) same (level_next (j + n) k (closed_later closed n covers j) (closed_covers k closed))
