-- When rounds come to an end: what is kept is closed, or has the empty clause, exactly where what is reached is or has it.
use Rattle.std.proofs.Common.{◌≡◌, ◌↔◌, ℕ, ◌+◌, true, List, subst, ◌⊎◌, inl, inr, ⊎_elim, arith}
use Rattle.std.specs.Prelude.{Contains}
use Rattle.std.proofs.lemmas.List.Elements.{All-contains}
use Rattle.lk_rules.specs.declared.sequent.Sequent.{Sequent}
use Rattle.lk_rules.specs.Sequents.{empty}
use Rattle.clause_laws.specs.Rounds.{Covers, ResolventOf, ResolventWith, IsClosed, Level}
use Rattle.clause_laws.specs.Keeping.{rounds, is_closed}
use Rattle.clause_laws.specs.Saturation.{IsSaturation}
use Rattle.clause_laws.proofs.Covering.{Clauses, Has, covers_its, empty_covered, closed_alike, variant_member, level_later, level_start, closed_later}
use Rattle.clause_laws.proofs.Kept.{AreClauses}
use Rattle.clause_laws.proofs.KeptRounds.{closed_sound, closed_complete, rounds_clauses, rounds_cover, rounds_reached, rounds_reduced, rounds_normal}

-- a list that covers a level of which it has members alone

module _ (cs ks : List Sequent) (n : ℕ) (covers : Covers (Contains ks) (Level cs n)) (reached : Has (Level cs n) (Contains ks)) where
  pub closed-level : IsClosed (Contains ks) ↔ IsClosed (Level cs n)
  closed-level =
      let back = covers_its (Level cs n) (Contains ks) reached in
      (closed_alike (Contains ks) (Level cs n) covers back, closed_alike (Level cs n) (Contains ks) back covers)

  pub empty-level : Contains ks empty ↔ Level cs n empty
  empty-level = (reached empty, λ m. empty_covered (Contains ks) (covers empty m))

-- a closed level is the last one

module _ (cs : List Sequent) (n : ℕ) (closed : IsClosed (Level cs n)) (j : ℕ) where
  pub level_covers_later : Covers (Level cs n) (Level cs (j + n))
  level_covers_later = closed_later cs (Level cs n) closed n (covers_its (Level cs n) (Level cs n) (λ c m. m)) j

  pub level_still_closed : IsClosed (Level cs (j + n))
  level_still_closed = closed_alike (Level cs n) (Level cs (j + n)) level_covers_later (covers_its (Level cs (j + n)) (Level cs n) (level_later cs n j)) closed

-- what is kept

module _ (cs : List Sequent) (clauses : AreClauses cs) (n : ℕ) where
  pub kept_reached : Has (Level cs n) (Contains (rounds cs n))
  kept_reached c m = All-contains (Level cs n) (rounds cs n) c (rounds_reached cs clauses n) m

  pub kept_empty : Contains (rounds cs n) empty ↔ Level cs n empty
  kept_empty = empty-level cs (rounds cs n) n (rounds_cover cs clauses n) kept_reached

  pub kept_closed : (is_closed (rounds cs n) ≡ true) ↔ IsClosed (Level cs n)
  kept_closed =
      let both = closed-level cs (rounds cs n) n (rounds_cover cs clauses n) kept_reached in
      let of_rounds = rounds_clauses cs clauses n in (
        λ e. both.0 (closed_sound (rounds cs n) of_rounds e),
        λ closed. closed_complete (rounds cs n) of_rounds (both.1 closed),
      )

  -- an input is reached at once
  input_reached : Has (Level cs n) (Contains cs)
  input_reached c m =
      let same : n + 0 ≡ n = omega arith in
      subst (λ (i : ℕ). Level cs i c) same (level_later cs 0 n c (variant_member (Contains cs) c m))

  pub saturation : IsClosed (Level cs n) → (Level cs n empty → ⊥) → IsSaturation cs n (rounds cs n)
  saturation closed none = record {
    not_empty = λ m. none (kept_empty.0 m);
    reduced = rounds_reduced cs clauses n;
    reached = kept_reached;
    normal = rounds_normal cs clauses n;
    inputs = λ c m. rounds_cover cs clauses n c (input_reached c m);
    closed = (closed-level cs (rounds cs n) n (rounds_cover cs clauses n) kept_reached).1 closed;
  }

-- any saturation

module _ (cs : List Sequent) (n : ℕ) (ks : List Sequent) (h : IsSaturation cs n ks) where
  saturation_covers : Covers (Contains ks) (Level cs n)
  saturation_covers =
      let same : n + 0 ≡ n = omega arith in
      subst (λ (i : ℕ). Covers (Contains ks) (Level cs i)) same (closed_later cs (Contains ks) h.closed 0 (level_start cs (Contains ks) h.inputs) n)

  pub saturation_closed : IsClosed (Level cs n)
  saturation_closed = (closed-level cs ks n saturation_covers h.reached).0 h.closed

  pub saturation_not_empty : Level cs n empty → ⊥
  saturation_not_empty m = h.not_empty ((empty-level cs ks n saturation_covers h.reached).1 m)

  -- further rounds change nothing
  pub saturation_later : (j : ℕ) → IsSaturation cs (j + n) ks
  saturation_later j = record {
    not_empty = h.not_empty;
    reduced = h.reduced;
    reached = λ c m. level_later cs n j c (h.reached c m);
    normal = h.normal;
    inputs = h.inputs;
    closed = h.closed;
  }

-- only resolvents with a new member are to be looked at, where those of old ones are covered
new_or_old : (j k o n : Clauses) → ((c : Sequent) → k c → o c ⊎ n c) → Covers j (ResolventOf o) → Covers j (ResolventWith k n) → Covers j (ResolventOf k)
new_or_old j k o n which old new r h =
    ⊎_elim
    (λ (first_old : o h.first). ⊎_elim
    (λ (second_old : o h.second). old r (record { first = h.first; second = h.second; is_first = first_old; is_second = second_old; full = h.full }))
    (λ (second_new : n h.second). new r (record { first = h.first; second = h.second; is_first = h.is_first; is_second = h.is_second; some_new = inr second_new; full = h.full }))
    (which h.second h.is_second))
    (λ (first_new : n h.first). new r (record { first = h.first; second = h.second; is_first = h.is_first; is_second = h.is_second; some_new = inl first_new; full = h.full }))
    (which h.first h.is_first)

pub new_resolvents : (js ks os ns : List Sequent) → ((c : Sequent) → Contains ks c → Contains os c ⊎ Contains ns c) → Covers (Contains js) (ResolventOf (Contains os)) → Covers (Contains js) (ResolventWith (Contains ks) (Contains ns))
    → Covers (Contains js) (ResolventOf (Contains ks))
new_resolvents js ks os ns = new_or_old (Contains js) (Contains ks) (Contains os) (Contains ns)
