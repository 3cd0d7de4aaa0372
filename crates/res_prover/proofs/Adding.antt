-- What is kept, with one resolvent more.
use Rattle.std.proofs.Common.{◌≡◌, suc, Bool, true, false, not, if◌then◌else◌, ◌||◌, List, [], ◌∷◌, ◌++◌, filter, sym, ap, subst, ◌∙◌, ◌⊎◌, inr, arith}
use Rattle.std.specs.Prelude.{Contains}
use Rattle.std.specs.List.{All}
use Rattle.std.proofs.lemmas.Bool.{both_ways}
use Rattle.std.proofs.lemmas.List.{map-append}
use Rattle.std.proofs.lemmas.List.Elements.{All-cons, All-push, All-filter, All-contains, Contains-append_left, Contains-append_right}
use Rattle.std.proofs.lemmas.List.Quantifiers.{all_pairs_push}
use Rattle.lk_rules.specs.declared.sequent.Sequent.{Sequent}
use Rattle.clause_laws.specs.Subsumption.{IsClause, IsTautology}
use Rattle.clause_laws.specs.Searching.{subsumes, is_tautology}
use Rattle.clause_laws.specs.Normal.{IsNormal}
use Rattle.clause_laws.specs.Rounds.{IsCovered, Covers, ResolventOf, IsClosed, VariantOf}
use Rattle.clause_laws.specs.Keeping.{is_covered, with_clause, AreIndependent, IsReduced}
use Rattle.clause_laws.proofs.Atomic.{clause_variant, clause_full}
use Rattle.clause_laws.proofs.Subsuming.{variant_subsumed}
use Rattle.clause_laws.proofs.Lists.{contains_head, contains_later, from_contains}
use Rattle.clause_laws.proofs.Covering.{covered_member, covered_more, covered_by}
use Rattle.clause_laws.proofs.Kept.{covered_sound, covered_complete, clause_covers, clause_reduced}
use Rattle.res_prover.specs.declared.kept.Kept.{Kept}
use Rattle.res_prover.specs.declared.work.Stage.{Stage}
use Rattle.res_prover.specs.declared.work.Stage.TheVariants.{Covered, Open, Empty}
use Rattle.res_prover.specs.declared.work.Work.{Work}
use Rattle.res_prover.specs.Kept.{kept_clauses, is_needless}
use Rattle.res_prover.specs.Working.{IsNext, IsAt, IsStageAfter, WasThere, IsWork, GoesOver}
use Rattle.res_prover.proofs.Members.{any-mapped, mapped-filter}

pub needless-covered : (ks : List Kept) (c : Sequent) → is_needless ks c ≡ is_covered (kept_clauses ks) c
needless-covered ks c = ap (λ b. is_tautology c || b) (sym (any-mapped (λ (k : Kept). k.clause) (λ k. subsumes k c) ks))

pub left_out : (ks : List Sequent) (c : Sequent) → is_covered ks c ≡ true → with_clause ks c ≡ ks
left_out ks c e = ap (λ b. if b then ks else c ∷ filter (λ k. not (subsumes c k)) ks) e

pub put_in : (ks : List Sequent) (c : Sequent) → is_covered ks c ≡ false → with_clause ks c ≡ c ∷ filter (λ k. not (subsumes c k)) ks
put_in ks c e = ap (λ b. if b then ks else c ∷ filter (λ k. not (subsumes c k)) ks) e

-- the clauses that are kept then
pub put_in_front : (ks js : List Kept) (one : Kept) (c : Sequent) → one.clause ≡ c → js ≡ one ∷ filter (λ (k : Kept). not (subsumes one.clause k.clause)) ks → is_needless ks c ≡ false → kept_clauses js ≡ with_clause (kept_clauses ks) c
put_in_front ks js one c is made needed =
    ap kept_clauses made
    ∙ ap (λ ds. one.clause ∷ ds) (mapped-filter (λ (k : Kept). k.clause) (λ d. not (subsumes one.clause d)) ks)
    ∙ ap (λ d. d ∷ filter (λ k. not (subsumes d k)) (kept_clauses ks)) is
    ∙ sym (put_in (kept_clauses ks) c (sym (needless-covered ks c) ∙ needed))

pub front_each : (P : Kept → Type 0) (ks js : List Kept) (one : Kept) → js ≡ one ∷ filter (λ (k : Kept). not (subsumes one.clause k.clause)) ks → P one → All P ks → All P js
front_each P ks js one made h all = subst (All P) (sym made) (All-cons P one (filter (λ (k : Kept). not (subsumes one.clause k.clause)) ks) h (All-filter (λ (k : Kept). not (subsumes one.clause k.clause)) P ks all))

pub front_clauses : (P : Sequent → Type 0) (ks js : List Kept) (one : Kept) → js ≡ one ∷ filter (λ (k : Kept). not (subsumes one.clause k.clause)) ks → P one.clause → All P (kept_clauses ks) → All P (kept_clauses js)
front_clauses P ks js one made h all =
    let p : Sequent → Bool = λ d. not (subsumes one.clause d) in
    subst (All P) (sym (ap kept_clauses made ∙ ap (λ ds. one.clause ∷ ds) (mapped-filter (λ (k : Kept). k.clause) p ks)))
    (All-cons P one.clause (filter p (kept_clauses ks)) h (All-filter p P (kept_clauses ks) all))

-- the same with the clause at the end

pub last_each : (P : Kept → Type 0) (ks js : List Kept) (one : Kept) → js ≡ filter (λ (k : Kept). not (subsumes one.clause k.clause)) ks ++ one ∷ [] → P one → All P ks → All P js
last_each P ks js one made h all = subst (All P) (sym made) (All-push P (filter (λ (k : Kept). not (subsumes one.clause k.clause)) ks) one (All-filter (λ (k : Kept). not (subsumes one.clause k.clause)) P ks all) h)

put_last : (ks js : List Kept) (one : Kept) (c : Sequent) → one.clause ≡ c → js ≡ filter (λ (k : Kept). not (subsumes one.clause k.clause)) ks ++ one ∷ [] → kept_clauses js ≡ filter (λ k. not (subsumes c k)) (kept_clauses ks) ++ c ∷ []
put_last ks js one c is made =
    ap kept_clauses made
    ∙ map-append (λ (k : Kept). k.clause) (filter (λ (k : Kept). not (subsumes one.clause k.clause)) ks) (one ∷ [])
    ∙ ap (λ ds. ds ++ one.clause ∷ []) (mapped-filter (λ (k : Kept). k.clause) (λ d. not (subsumes one.clause d)) ks)
    ∙ ap (λ d. filter (λ k. not (subsumes d k)) (kept_clauses ks) ++ d ∷ []) is

moved_last : (c : Sequent) (xs : List Sequent) (d : Sequent) → Contains (c ∷ xs) d → Contains (xs ++ c ∷ []) d
moved_last c xs d =
    from_contains c xs d
    (λ here. Contains-append_right xs (c ∷ []) d (subst (Contains (c ∷ [])) here (contains_head c [])))
    (λ later. Contains-append_left xs (c ∷ []) d later)

reduced_last : (c : Sequent) (xs : List Sequent) → IsReduced (c ∷ xs) → IsReduced (xs ++ c ∷ [])
reduced_last c xs h = record {
  no_tautology = All-push (λ (k : Sequent). IsTautology k → ⊥) xs c (λ k d below. h.no_tautology (suc k) d (omega (arith, below))) (h.no_tautology 0 c (omega arith));
  independent = all_pairs_push AreIndependent xs c
      (λ i j d before below. h.independent (suc i) (suc j) d (omega (arith, before)) (omega (arith, below)))
      (λ k d below. let apart = h.independent 0 (suc k) d (omega arith) (omega (arith, below)) in (apart.1, apart.0));
}

module _ (ks : List Sequent) (stops : Bool) (old : Work) (c : Sequent) (next : IsNext ks c) (at : IsWork ks stops old) where
  abbrev now : List Sequent
  now = kept_clauses old.kept.items

  -- a clause that is covered changes nothing
  pub goes_without : is_needless old.kept.items c ≡ true → GoesOver ks stops old old (λ r. c ≡ r)
  goes_without e = record {
    work = at;
    covers = covered_member (Contains now);
    further = λ _ r is. subst (IsCovered (Contains now)) is (covered_sound now at.clauses c (sym (needless-covered old.kept.items c) ∙ e));
  }

  pub is_clause : IsClause c
  is_clause =
      let of = next.full.is_member in
      clause_variant next.full.member c next.full.variant (clause_full of.first of.second next.full.member (All-contains IsClause ks of.first at.begun of.is_first) (All-contains IsClause ks of.second at.begun of.is_second) of.full)

  -- a closed set would cover it
  not_closed : is_covered now c ≡ false → IsClosed (Contains ks) → ⊥
  not_closed out closed =
      let there = covered_more (Contains ks) next.full.member c (closed next.full.member next.full.is_member) (variant_subsumed next.full.member c next.full.variant) in
      both_ways (is_covered now c) out (covered_complete now at.clauses c (covered_by (Contains now) (Contains ks) at.covers c there))

  at_stage : (ds : List Sequent) (s : Stage) → is_covered now c ≡ false → IsStageAfter c s → IsAt ks ds s
  at_stage ds Covered out after = absurd after
  at_stage ds Open out after = not_closed out
  at_stage ds Empty out after = (not_closed out, subst (VariantOf (ResolventOf (Contains ks))) after next.full)

  module _ (new : Work) (one : Kept) (is : one.clause ≡ c) (is_new : one.is_new ≡ true) (made : new.kept.items ≡ filter (λ (k : Kept). not (subsumes one.clause k.clause)) old.kept.items ++ one ∷ []) (needed : is_needless old.kept.items c ≡ false) where
    abbrev left : List Sequent
    left = filter (λ k. not (subsumes c k)) now

    grown : kept_clauses new.kept.items ≡ left ++ c ∷ []
    grown = put_last old.kept.items new.kept.items one c is made

    front : with_clause now c ≡ c ∷ left
    front = put_in now c (sym (needless-covered old.kept.items c) ∙ needed)

    covers_both_now : Covers (Contains (kept_clauses new.kept.items)) (Contains (c ∷ now))
    covers_both_now d m =
        covered_by (Contains (kept_clauses new.kept.items)) (Contains (c ∷ left))
        (λ e k. covered_member (Contains (kept_clauses new.kept.items)) e (subst (λ ds. Contains ds e) (sym grown) (moved_last c left e k)))
        d (subst (λ ds. IsCovered (Contains ds) d) front (clause_covers now at.clauses c is_clause d m))

    each_now : (P : Sequent → Type 0) → All P now → P c → All P (kept_clauses new.kept.items)
    each_now P all h = subst (All P) (sym grown) (All-push P left c (All-filter (λ k. not (subsumes c k)) P now all) h)

    there_before : All (WasThere ks) new.kept.items
    there_before = last_each (WasThere ks) old.kept.items new.kept.items one made (λ old_one. absurd (both_ways one.is_new old_one is_new)) at.old

    -- and another one is added
    pub goes_with : new.stops ≡ old.stops → IsStageAfter c new.stage → GoesOver ks stops old new (λ r. c ≡ r)
    goes_with same after =
        let out : is_covered now c ≡ false = sym (needless-covered old.kept.items c) ∙ needed in
        record {
          work = record {
            stops_so = same ∙ at.stops_so;
            begun = at.begun;
            covers = λ d m. covered_by (Contains (kept_clauses new.kept.items)) (Contains now) (λ e k. covers_both_now e (contains_later c now e k)) d (at.covers d m);
            from = each_now (λ d. Contains ks d ⊎ VariantOf (ResolventOf (Contains ks)) d) at.from (inr next.full);
            reduced = subst IsReduced (sym grown) (reduced_last c left (subst IsReduced front (clause_reduced now at.clauses c is_clause at.reduced)));
            normal = each_now IsNormal at.normal next.normal;
            clauses = each_now IsClause at.clauses is_clause;
            old = there_before;
            stage = at_stage (kept_clauses new.kept.items) new.stage out after;
          };
          covers = λ d m. covers_both_now d (contains_later c now d m);
          further = λ _ r e. subst (IsCovered (Contains (kept_clauses new.kept.items))) e (covers_both_now c (contains_head c now));
        }
