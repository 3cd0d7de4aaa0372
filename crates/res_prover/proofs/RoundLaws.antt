-- Rounds of a search, by the laws of clauses.
use Rattle.std.proofs.Common.{◌≡◌, ℕ, suc, ◌+◌, ◌-◌, ◌≤◌, ◌||◌, ◌⊎◌, ⊎_elim, inl, inr, Bool, true, false, List, [], ◌∷◌, map, take, drop, refl, sym, ap, subst, ◌∙◌, arith}
use Rattle.std.specs.Prelude.{Contains}
use Rattle.std.specs.List.{All, AllByRecursion}
use Rattle.std.proofs.lemmas.List.{drop-map, take-map}
use Rattle.std.proofs.lemmas.List.Elements.{All-take, All-drop, All-from_recursion, recursion_from_All, All-contains, All-weaker, All-nil, All-contains_itself}
use Rattle.lk_rules.specs.declared.sequent.Sequent.{Sequent}
use Rattle.lk_rules.specs.Sequents.{empty}
use Rattle.clause_laws.specs.Subsumption.{IsClause, IsTautology}
use Rattle.clause_laws.specs.Resolvents.{IsFullResolvent}
use Rattle.clause_laws.specs.Normal.{IsNormal, normal}
use Rattle.clause_laws.specs.Rounds.{IsCovered, Covers, ResolventOf, WithResolvents, IsClosed, VariantOf, Level}
use Rattle.clause_laws.specs.Keeping.{with_each, IsReduced}
use Rattle.clause_laws.specs.Saturation.{IsSaturation}
use Rattle.clause_laws.proofs.Subsuming.{variant_back, variant_subsumed}
use Rattle.clause_laws.proofs.Atomic.{clause_variant}
use Rattle.clause_laws.proofs.Lists.{contains-map, from_map}
use Rattle.clause_laws.proofs.Covering.{covered_member, covered_more, covered_by, variant_member, level_variant, level_later, level_resolvent, level_start, level_next}
use Rattle.clause_laws.proofs.Kept.{each_kept, each_covers, each_reduced}
use Rattle.clause_laws.proofs.Saturations.{closed-level, empty-level, saturation_later}
use Rattle.clause_laws.proofs.Normalised.{normal_variant, normal_is}
use Rattle.res_prover.specs.declared.kept.Kept.{Kept}
use Rattle.res_prover.specs.declared.partners.Partner.{Partner}
use Rattle.res_prover.specs.declared.work.Stage.{Stage}
use Rattle.res_prover.specs.declared.work.Stage.TheVariants.{Covered, Open, Empty}
use Rattle.res_prover.specs.declared.work.Work.{Work}
use Rattle.res_prover.specs.Kept.{kept_clauses, IsNew}
use Rattle.res_prover.specs.Partners.{Aged, kept_aged, partner_aged, partner_clauses}
use Rattle.res_prover.specs.Working.{stage_over, is_over, IsAt, WasThere, IsWork, GoesOver, FromOne, ByNew}
use Rattle.res_prover.specs.Reached.{IsReached, AreOldResolved, IsKeptAfter, IsReady, IsRoundOf}

-- the beginning of a round

alone : (ks : List Kept) (c : Sequent) → Contains (kept_clauses ks) c → (b : Bool) × Contains (kept_aged ks) (c, b)
alone ks c =
    from_map (λ (k : Kept). k.clause) ks c
    (λ k at is. (k.is_new, subst (λ d. Contains (kept_aged ks) (d, k.is_new)) is (contains-map (λ (j : Kept). let m : Aged = (j.clause, j.is_new) in m) ks k at)))

pub aged_alone : (ps : List Partner) (ks : List Kept) → partner_aged ps ≡ kept_aged ks → partner_clauses ps ≡ kept_clauses ks
aged_alone ps ks same = sym (of_partners ps) ∙ ap (map (λ (m : Aged). m.0)) same ∙ of_kept ks
  where
    of_partners : (ps : List Partner) → map (λ (m : Aged). m.0) (partner_aged ps) ≡ partner_clauses ps
    of_partners [] = refl
    of_partners (p ∷ ps) = ap (λ cs. p.clause ∷ cs) (of_partners ps)

    of_kept : (ks : List Kept) → map (λ (m : Aged). m.0) (kept_aged ks) ≡ kept_clauses ks
    of_kept [] = refl
    of_kept (k ∷ ks) = ap (λ cs. k.clause ∷ cs) (of_kept ks)

-- some of the clauses that stand one after another

pub part_each : (P : Sequent → Type 0) (a n : ℕ) (ks : List Kept) → All P (kept_clauses ks) → All P (kept_clauses (take a (drop n ks)))
part_each P a n ks all =
    let f : Kept → Sequent = λ k. k.clause in
    subst (All P) (ap (take a) (drop-map f n ks) ∙ take-map f a (drop n ks)) (All-take P a (drop n (map f ks)) (All-drop P n (map f ks) all))

pub part_member : (cs : List Sequent) (a n : ℕ) (ks : List Kept) → ((c : Sequent) → Contains (kept_clauses ks) c → Contains cs c) → (c : Sequent) → Contains (kept_clauses (take a (drop n ks))) c → Contains cs c
part_member cs a n ks within c m =
    let all = All-weaker (Contains (kept_clauses ks)) (Contains cs) within (kept_clauses ks) (All-contains_itself (kept_clauses ks)) in
    All-contains (Contains cs) (kept_clauses (take a (drop n ks))) c (part_each (Contains cs) a n ks all) m

module _ (ks : List Sequent) where
  were_there : (js : List Kept) → kept_clauses js ≡ ks → All (WasThere ks) js
  were_there js same =
      All-weaker (Contains js) (WasThere ks) (λ k at _. subst (λ cs. Contains cs k.clause) same (contains-map (λ (j : Kept). j.clause) js k at)) js (All-contains_itself js)

  pub begins : (stops : Bool) (w : Work) → w.stops ≡ stops → kept_clauses w.kept.items ≡ ks → w.stage ≡ Covered → IsReduced ks → All IsNormal ks → All IsClause ks → IsWork ks stops w
  begins stops w so same stage reduced numbered clauses = record {
    stops_so = so;
    begun = clauses;
    covers = λ c m. covered_member (Contains (kept_clauses w.kept.items)) c (subst (λ cs. Contains cs c) (sym same) m);
    from = subst (All (λ c. Contains ks c ⊎ VariantOf (ResolventOf (Contains ks)) c)) (sym same) (All-weaker (Contains ks) (λ c. Contains ks c ⊎ VariantOf (ResolventOf (Contains ks)) c) (λ c m. inl m) ks (All-contains_itself ks));
    reduced = subst IsReduced (sym same) reduced;
    normal = subst (All IsNormal) (sym same) numbered;
    clauses = subst (All IsClause) (sym same) clauses;
    old = were_there w.kept.items same;
    stage = subst (IsAt ks (kept_clauses w.kept.items)) (sym stage) same;
  }

-- the end of a round: all resolvents are covered, those of clauses that are not new from before

or_false : (a b : Bool) → (a || b) ≡ false → (a ≡ false) × (b ≡ false)
or_false true b e = cc
or_false false b e = (refl, e)

module _ (ks : List Kept) (ps : List Partner) (aged : partner_aged ps ≡ kept_aged ks) (resolved : AreOldResolved ks) where
  find_partner : {P : Type 0} (c : Sequent) (b : Bool) → ((p : Partner) → Contains ps p → p.clause ≡ c → p.is_new ≡ b → P) → Contains (kept_aged ks) (c, b) → P
  find_partner c b use_it m =
      let f : Partner → Aged = λ p. (p.clause, p.is_new) in
      let pair : Aged = (c, b) in
      from_map f ps pair (λ p at is. use_it p at (ap (λ (n : Aged). n.0) is) (ap (λ (n : Aged). n.1) is))
      (subst (λ ms. Contains ms pair) (sym aged) m)

  module _ (stops : Bool) (old new : Work) (g : GoesOver (kept_clauses ks) stops old new (FromOne (λ p. FromOne (ByNew p) ps) ps)) (not_over : is_over new ≡ false) where
    abbrev now : Sequent → Type 0
    now = Contains (kept_clauses new.kept.items)

    by_flags : (c d r : Sequent) (a b : Bool) → Contains (kept_aged ks) (c, a) → Contains (kept_aged ks) (d, b) → IsFullResolvent c d r → (e : Bool) → (a || b) ≡ e → IsCovered now r
    by_flags c d r a b in_c in_d full true some =
        find_partner c a (λ p on_p is_c is_a. find_partner d b (λ n on_n is_d is_b.
        g.further not_over r (record {
          one = p;
          is_one = on_p;
          by = record {
            one = n;
            is_one = on_n;
            by = record {
              some_new = ap (λ f. f || n.is_new) is_a ∙ ap (λ f. a || f) is_b ∙ some;
              full = subst (λ s. IsFullResolvent s n.clause r) (sym is_c) (subst (λ s. IsFullResolvent c s r) (sym is_d) full);
            };
          };
        })) in_d) in_c
    by_flags c d r a b in_c in_d full false none =
        let neither = or_false a b none in
        covered_by now (Contains (kept_clauses ks)) g.work.covers r
        (resolved c d r (subst (λ f. Contains (kept_aged ks) (c, f)) neither.0 in_c) (subst (λ f. Contains (kept_aged ks) (d, f)) neither.1 in_d) full)

    pub ends : Covers now (ResolventOf (Contains (kept_clauses ks)))
    ends r h =
        let one = alone ks h.first h.is_first in
        let two = alone ks h.second h.is_second in
        by_flags h.first h.second r one.0 two.0 one.1 two.1 h.full (one.0 || two.0) refl

-- the next round

module _ (cs : List Sequent) (n : ℕ) (ks : List Kept) (stops : Bool) (w : Work) (at : IsReached cs n (kept_clauses ks)) (of : IsRoundOf ks stops w) where
  abbrev before : List Sequent
  before = kept_clauses ks

  abbrev after : List Sequent
  after = kept_clauses w.kept.items

  later_one : (c : Sequent) → Level cs n c → Level cs (suc n) c
  later_one c m = let same : 1 + n ≡ suc n = omega arith in subst (λ k. Level cs k c) same (level_later cs n 1 c m)

  pub level_found : (r : Sequent) → VariantOf (ResolventOf (Contains before)) r → Level cs (suc n) r
  level_found r v = level_variant cs (suc n) v.member r (level_resolvent cs n (Contains before) at.reached v.member v.is_member) v.variant

  covers_next : is_over w ≡ false → Covers (Contains after) (WithResolvents (Contains before))
  covers_next not_over c m = ⊎_elim {C = IsCovered (Contains after) c} (of.work.covers c) (of.covers not_over c) m

  reached_after : (c : Sequent) → Contains after c → Level cs (suc n) c
  reached_after c m =
      ⊎_elim {C = Level cs (suc n) c} (λ old. later_one c (at.reached c old)) (level_found c)
      (All-contains (λ d. Contains before d ⊎ VariantOf (ResolventOf (Contains before)) d) after c of.work.from m)

  pub next_reached : is_over w ≡ false → IsReached cs (suc n) after
  next_reached not_over = record {
    covers = level_next cs (Contains after) n (Contains before) at.covers (covers_next not_over);
    reached = reached_after;
    reduced = of.work.reduced;
    normal = of.work.normal;
    clauses = of.work.clauses;
  }

  old_there : (c : Sequent) → Contains (kept_aged w.kept.items) (c, false) → Contains before c
  old_there c =
      let f : Kept → Aged = λ k. (k.clause, k.is_new) in
      let pair : Aged = (c, false) in
      from_map f w.kept.items pair
      (λ k on is. subst (Contains before) (ap (λ (m : Aged). m.0) is) (All-contains (WasThere before) w.kept.items k of.work.old on (ap (λ (m : Aged). m.1) is)))

  pub next_resolved : is_over w ≡ false → AreOldResolved w.kept.items
  next_resolved not_over c d r in_c in_d full = of.covers not_over r (record { first = c; second = d; is_first = old_there c in_c; is_second = old_there d in_d; full = full })

  pub closed_now : is_over w ≡ false → after ≡ before → IsClosed (Contains before)
  closed_now not_over same = subst (λ ds. Covers (Contains ds) (ResolventOf (Contains before))) same (of.covers not_over)

-- the start

recursion_map : (P : Sequent → Type 0) (cs : List Sequent) → AllByRecursion (λ c. P (normal c)) cs → AllByRecursion P (map normal cs)
recursion_map P [] h = tt
recursion_map P (c ∷ cs) h = (h.0, recursion_map P cs h.1)

none_reduced : IsReduced []
none_reduced = record { no_tautology = All-nil (λ (k : Sequent). IsTautology k → ⊥); independent = λ i j d l g. absurd (omega arith) }

module _ (cs : List Sequent) (clauses : All IsClause cs) where
  mapped_each : (P : Sequent → Type 0) → ((c : Sequent) → Contains cs c → P (normal c)) → All P (map normal cs)
  mapped_each P h = All-from_recursion P (map normal cs) (recursion_map P cs (recursion_from_All (λ c. P (normal c)) cs (All-weaker (Contains cs) (λ c. P (normal c)) h cs (All-contains_itself cs))))

  start_clauses : All IsClause (map normal cs)
  start_clauses = mapped_each IsClause (λ c m. clause_variant c (normal c) (normal_variant c) (All-contains IsClause cs c clauses m))

  start_covers : Covers (Contains (with_each [] (map normal cs))) (Contains cs)
  start_covers c m =
      covered_more (Contains (with_each [] (map normal cs))) (normal c) c
      (each_covers [] (map normal cs) (All-nil IsClause) start_clauses (normal c) (inr (contains-map normal cs c m)))
      (variant_subsumed (normal c) c (variant_back c (normal c) (normal_variant c)))

  start_level : All (Level cs 0) (with_each [] (map normal cs))
  start_level = each_kept (Level cs 0) [] (map normal cs) (All-nil (Level cs 0)) (mapped_each (Level cs 0) (λ c m. level_variant cs 0 c (normal c) (variant_member (Contains cs) c m) (normal_variant c)))

  pub start_reached : IsReached cs 0 (with_each [] (map normal cs))
  start_reached = record {
    covers = level_start cs (Contains (with_each [] (map normal cs))) start_covers;
    reached = λ c m. All-contains (Level cs 0) (with_each [] (map normal cs)) c start_level m;
    reduced = each_reduced [] (map normal cs) (All-nil IsClause) start_clauses none_reduced;
    normal = each_kept IsNormal [] (map normal cs) (All-nil IsNormal) (mapped_each IsNormal (λ c m. normal_is c));
    clauses = each_kept IsClause [] (map normal cs) (All-nil IsClause) start_clauses;
  }

-- where all clauses are new, none is old
pub all_new : (ks : List Kept) → All IsNew ks → AreOldResolved ks
all_new ks new c d r in_c in_d full =
    let f : Kept → Aged = λ k. (k.clause, k.is_new) in
    let pair : Aged = (c, false) in
    from_map f ks pair
    (λ k on is. let both : false ≡ true = sym (ap (λ (m : Aged). m.1) is) ∙ All-contains IsNew ks k new on in cc)
    in_c

-- the end

module _ (cs : List Sequent) (k : ℕ) (ks : List Sequent) (at : IsReached cs k ks) where
  later_to : (n : ℕ) → k ≤ n → (n - k) + k ≡ n
  later_to n within = omega arith

  pub empty_reached : (n : ℕ) → k ≤ n → Contains ks empty → Level cs n empty
  empty_reached n within m = subst (λ i. Level cs i empty) (later_to n within) (level_later cs k (n - k) empty (at.reached empty m))

  pub saturated : (n : ℕ) → k ≤ n → (Contains ks empty → ⊥) → IsClosed (Contains ks) → IsSaturation cs n ks
  saturated n within full closed =
      subst (λ i. IsSaturation cs i ks) (later_to n within) (saturation_later cs k ks (record {
        not_empty = full;
        reduced = at.reduced;
        reached = at.reached;
        normal = at.normal;
        inputs = λ c m. at.covers c (let same : k + 0 ≡ k = omega arith in subst (λ i. Level cs i c) same (level_later cs 0 k c (variant_member (Contains cs) c m)));
        closed = closed;
      }) (n - k))

  pub not_yet : (Contains ks empty → ⊥) → (IsClosed (Contains ks) → ⊥) → (Level cs k empty → ⊥) × (IsClosed (Level cs k) → ⊥)
  not_yet full open_yet = (λ m. full ((empty-level cs ks k at.covers at.reached).1 m), λ closed. open_yet ((closed-level cs ks k at.covers at.reached).1 closed))

-- the empty clause of one round more
pub later_empty : (cs : List Sequent) (k n : ℕ) → k ≤ n → Level cs k empty → Level cs n empty
later_empty cs k n within m = let same : (n - k) + k ≡ n = omega arith in subst (λ i. Level cs i empty) same (level_later cs k (n - k) empty m)

-- how a search goes on after a round, or ends

pub ready : (cs : List Sequent) (n : ℕ) (ks : List Kept) → IsKeptAfter cs n ks → IsReady ks
ready cs n ks at = record { reduced = at.reached.reduced; normal = at.reached.normal; clauses = at.reached.clauses; resolved = at.resolved }

over_at : (b : Bool) (w : Work) (ks : List Sequent) → IsWork ks b w → (s : Stage) → w.stage ≡ s → is_over w ≡ stage_over b s
over_at b w ks at s e = ap (λ a. stage_over a w.stage) at.stops_so ∙ ap (stage_over b) e

module _ (cs : List Sequent) (k : ℕ) (ks : List Kept) (at : IsKeptAfter cs k ks) (stops : Bool) (w : Work) (of : IsRoundOf ks stops w) where
  abbrev first : List Sequent
  first = kept_clauses ks

  stage_is : (s : Stage) → w.stage ≡ s → IsAt first (kept_clauses w.kept.items) s
  stage_is s e = subst (IsAt first (kept_clauses w.kept.items)) e of.work.stage

  pub saturated_by : (n : ℕ) → k ≤ n → (Contains first empty → ⊥) → w.stage ≡ Covered → (js : List Sequent) → js ≡ first → IsSaturation cs n js
  saturated_by n within full e js same =
      subst (IsSaturation cs n) (sym same)
      (saturated cs k first at.reached n within full (closed_now cs k ks stops w at.reached of (over_at stops w first of.work Covered e) (stage_is Covered e)))

  pub empty_by : (n : ℕ) → suc k ≤ n → w.stage ≡ Empty → Level cs n empty
  empty_by n within e = later_empty cs (suc k) n within (level_found cs k ks stops w at.reached of empty (stage_is Empty e).1)

  pub next_kept : stops ≡ false → w.stage ≡ Open → IsKeptAfter cs (suc k) w.kept.items
  next_kept goes_on e =
      let not_over : is_over w ≡ false = over_at stops w first of.work Open e ∙ goes_on in
      record {
        reached = next_reached cs k ks stops w at.reached of not_over;
        resolved = next_resolved cs k ks stops w at.reached of not_over;
      }

  pub open_by : (Contains first empty → ⊥) → w.stage ≡ Open → (Level cs k empty → ⊥) × (IsClosed (Level cs k) → ⊥)
  open_by full e = not_yet cs k first at.reached full (stage_is Open e)

  pub empty_yet : (Contains first empty → ⊥) → w.stage ≡ Empty → (Level cs k empty → ⊥) × (IsClosed (Level cs k) → ⊥)
  empty_yet full e = not_yet cs k first at.reached full (stage_is Empty e).0
