-- A round goes on over further resolvents.
use Rattle.std.proofs.Common.{◌≡◌, Bool, true, false, List, [], ◌∷◌, ◌++◌, sym, subst, ⊎_elim}
use Rattle.std.specs.Prelude.{Contains}
use Rattle.std.proofs.lemmas.Bool.{both_ways}
use Rattle.std.proofs.lemmas.List.Elements.{Contains-append_cases}
use Rattle.lk_rules.specs.declared.sequent.Sequent.{Sequent}
use Rattle.clause_laws.specs.Subsumption.{Subsumes}
use Rattle.clause_laws.specs.Rounds.{IsCovered}
use Rattle.clause_laws.proofs.Lists.{contains_none, only_one}
use Rattle.clause_laws.proofs.Covering.{covered_member, covered_more, covered_by}
use Rattle.res_prover.specs.declared.work.Work.{Work}
use Rattle.res_prover.specs.Kept.{kept_clauses}
use Rattle.res_prover.specs.Working.{is_over, IsWork, GoesOver, FromOne}

module _ (ks : List Sequent) (stops : Bool) where
  -- nothing is to be looked at
  pub goes_none : (w : Work) (kind : Sequent → Type 0) → IsWork ks stops w → ((r : Sequent) → kind r → ⊥) → GoesOver ks stops w w kind
  goes_none w kind at none = record {
    work = at;
    covers = covered_member (Contains (kept_clauses w.kept.items));
    further = λ _ r k. absurd (none r k);
  }

  -- the round is over
  pub goes_over : (old new : Work) (kind further : Sequent → Type 0) → GoesOver ks stops old new kind → is_over new ≡ true → GoesOver ks stops old new further
  goes_over old new kind further g over = record {
    work = g.work;
    covers = g.covers;
    further = λ not_over. absurd (both_ways (is_over new) not_over over);
  }

  -- each clause of another kind is one of the first kind, or is subsumed by one
  pub goes_weaker : (old new : Work) (kind other : Sequent → Type 0) → ((r : Sequent) → other r → (q : Sequent) × kind q × Subsumes q r) → GoesOver ks stops old new kind → GoesOver ks stops old new other
  goes_weaker old new kind other weaker g = record {
    work = g.work;
    covers = g.covers;
    further = λ not_over r k. let w = weaker r k in covered_more (Contains (kept_clauses new.kept.items)) w.0 r (g.further not_over w.0 w.1) w.2;
  }

  -- along a list

  pub goes_start : {X : Type 0} (by_one : X → Sequent → Type 0) (w : Work) → IsWork ks stops w → GoesOver ks stops w w (FromOne by_one [])
  goes_start by_one w at = goes_none w (FromOne by_one []) at (λ r k. contains_none k.one k.is_one)

  pub goes_next : {X : Type 0} (by_one : X → Sequent → Type 0) (xs : List X) (x : X) (old mid new : Work) → GoesOver ks stops old mid (FromOne by_one xs) → is_over mid ≡ false → GoesOver ks stops mid new (by_one x)
      → GoesOver ks stops old new (FromOne by_one (xs ++ x ∷ []))
  goes_next by_one xs x old mid new one not_over two = record {
    work = two.work;
    covers = λ c m. covered_by (Contains (kept_clauses new.kept.items)) (Contains (kept_clauses mid.kept.items)) two.covers c (one.covers c m);
    further = λ still r k. ⊎_elim {C = IsCovered (Contains (kept_clauses new.kept.items)) r}
        (λ before. covered_by (Contains (kept_clauses new.kept.items)) (Contains (kept_clauses mid.kept.items)) two.covers r (one.further not_over r (record { one = k.one; is_one = before; by = k.by })))
        (λ last. two.further still r (subst (λ y. by_one y r) (sym (only_one x k.one last)) k.by))
        (Contains-append_cases xs (x ∷ []) k.one k.is_one);
  }
