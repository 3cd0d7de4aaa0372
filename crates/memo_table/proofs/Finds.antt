-- What a look-up finds in a table, and what a new pair does to it.
use Rattle.std.proofs.Common.{◌≡◌, ◌≢◌, suc, ◌⊎◌, inl, inr, ⊎_elim, Bool, true, false, cond, List, [], ◌∷◌, ◌++◌, map, Option, Some, None, IfSome, IsSome, is_some, MatchBool, refl, sym, ap, subst, ◌∙◌, arith}
use Rattle.std.specs.Map.{lookup, update, update_all}
use Rattle.std.specs.Ordering.{is_eq, eq_by_cmp}
use Rattle.std.specs.BTreeMap.{is_at}
use Rattle.std.specs.Cmp.{IsTotalOrder, tied_itself}
use Rattle.std.specs.declared.cmp.Ordering.{Ordering}
use Rattle.std.specs.declared.cmp.Ordering.TheVariants.{Less, Equal, Greater}
use Rattle.std.proofs.lemmas.Bool.{true≢false}
use Rattle.std.proofs.lemmas.List.{map-append}
use Rattle.std.proofs.lemmas.List.Elements.{All-cons, All-map, All-push}
use Rattle.std.proofs.lemmas.List.Quantifiers.{Any-push, all_pairs_push}
use Rattle.std.proofs.lemmas.Map.{update_all_push}
use Rattle.std.proofs.lemmas.Map.Made.{IfSome-update_all}
use Rattle.std.specs.declared.snapshot.Snapshot.{Snapshot}
use Rattle.memo_table.specs.declared.rows.Pair.{Pair}
use Rattle.memo_table.specs.Pairs.{pair, IsIn, IsAbsent}
use Rattle.memo_table.specs.Table.{AreKept}

-- a test for `Equal` that passes
equal_from_test : (o : Ordering) → is_eq o ≡ true → o ≡ Equal
equal_from_test Less e = cc
equal_from_test Equal e = refl
equal_from_test Greater e = cc

-- what has no value after all pairs had none before them, and stands in none of them
none_before : {V : Type 0} (b : Bool) (v : V) (o : Option V) → cond b (Some v) o ≡ None → (b ≡ false) × (o ≡ None)
none_before true v o e = cc
none_before false v o e = (refl, e)

some_before : {V : Type 0} (b : Bool) (v : V) (o : Option V) → IsSome (cond b (Some v) o) → (b ≡ true) ⊎ IsSome o
some_before true v o e = inl refl
some_before false v o e = inr e

module _ {K V : Type 0} (cmp : K → K → Ordering) where
  absent_at : (q : K) (f : K → Option V) (pairs : List (Pair K V)) → update_all (eq_by_cmp cmp) f (map (λ p. (p.key, p.val)) pairs) q ≡ None
      → (f q ≡ None) × IsAbsent cmp pairs q
  absent_at q f [] e = (e, λ k d h. absurd (omega arith))
  absent_at q f (p ∷ pairs) e =
      let later = absent_at q (update (eq_by_cmp cmp) f p.key (Some p.val)) pairs e in
      let here = none_before (is_eq (cmp p.key q)) p.val (f q) later.0 in
      (here.1, All-cons (λ (r : Pair K V). cmp r.key q ≢ Equal) p pairs (λ e. absurd (true≢false (sym (ap is_eq e) ∙ here.0))) later.1)

  in_at : (q : K) (f : K → Option V) (pairs : List (Pair K V)) → IsSome (update_all (eq_by_cmp cmp) f (map (λ p. (p.key, p.val)) pairs) q)
      → IsSome (f q) ⊎ IsIn cmp pairs q
  in_at q f [] e = inl e
  in_at q f (p ∷ pairs) e =
      ⊎_elim
      (λ before. ⊎_elim (λ same. inr (0, p, omega arith, refl, equal_from_test (cmp p.key q) same)) (λ some. inl some) (some_before (is_eq (cmp p.key q)) p.val (f q) before))
      (λ at. inr (suc at.0, at.1, omega (arith, at.2), at.3, at.4))
      (in_at q (update (eq_by_cmp cmp) f p.key (Some p.val)) pairs e)

  -- a key that stands in a list isn't absent
  pub in_and_absent : (pairs : List (Pair K V)) (key : K) → IsIn cmp pairs key → IsAbsent cmp pairs key → ⊥
  in_and_absent pairs key at away = away at.0 at.1 at.2 (ap (λ (p : Pair K V). cmp p.key key) at.3 ∙ at.4)

  module _ (truth : K → V → Type 0) (entries : List (K × V)) (pairs : List (Pair K V)) (kept : AreKept truth cmp entries pairs) where
    -- what is found is true
    pub found_true : ((a b : K) (v : V) → cmp a b ≡ Equal → truth a v → truth b v) → (key : K) → IfSome (lookup (is_at (cmp key)) entries) (truth key)
    found_true respects key =
        subst (λ (o : Option V). IfSome o (truth key)) (sym (kept.found key))
        (IfSome-update_all (eq_by_cmp cmp) (truth key) key (λ _. None) (map (λ p. (p.key, p.val)) pairs) tt
        (All-map (λ e. eq_by_cmp cmp e.0 key ≡ true → truth key e.1) (λ (p : Pair K V). (p.key, p.val)) pairs
        (λ k d h e. respects _ key _ (equal_from_test _ e) (kept.legal.sound k d h))))

    pub found_at : ((a b : K) (v : V) → cmp a b ≡ Equal → truth a v → truth b v) → (key : K) (v : V) → Some v ≡ lookup (is_at (cmp key)) entries → truth key v
    found_at respects key v e = subst (λ (o : Option V). IfSome o (truth key)) (sym e) (found_true respects key)

    -- where nothing is found the key is absent
    pub absent_from_none : (key : K) → lookup (is_at (cmp key)) entries ≡ None → IsAbsent cmp pairs key
    absent_from_none key e = (absent_at key (λ _. None) pairs (sym (kept.found key) ∙ e)).1

    cases_at : (key : K) (o : Option V) → lookup (is_at (cmp key)) entries ≡ o → MatchBool (is_some o) (IsIn cmp pairs key) (IsAbsent cmp pairs key)
    cases_at key None e = absent_from_none key e
    cases_at key (Some v) e =
        ⊎_elim (λ none. absurd (true≢false (sym none))) (λ at. at) (in_at key (λ _. None) pairs (ap is_some (sym (kept.found key) ∙ e)))

    -- a key stands in the list exactly where it is found
    pub cases_from_lookup : (key : K) (has : Bool) (listed : List (Pair K V)) → has ≡ is_some (lookup (is_at (cmp key)) entries) → pairs ≡ listed
        → MatchBool has (IsIn cmp listed key) (IsAbsent cmp listed key)
    cases_from_lookup key has listed tells same =
        subst (λ (b : Bool). MatchBool b (IsIn cmp listed key) (IsAbsent cmp listed key)) (sym tells)
        (subst (λ (ps : List (Pair K V)). MatchBool (is_some (lookup (is_at (cmp key)) entries)) (IsIn cmp ps key) (IsAbsent cmp ps key)) same
        (cases_at key (lookup (is_at (cmp key)) entries) refl))

    -- a new pair
    pub kept_push : (key : K) (val : V) (after : List (K × V)) → truth key val → IsAbsent cmp pairs key
        → ((q : K) → lookup (is_at (cmp q)) after ≡ cond (is_at (cmp key) q) (Some val) (lookup (is_at (cmp q)) entries))
        → AreKept truth cmp after (pairs ++ pair key val ∷ [])
    kept_push key val after holds away updates = record {
      legal = record {
        sound = All-push (λ (p : Pair K V). truth p.key p.val) pairs (pair key val) kept.legal.sound holds;
        apart = all_pairs_push (λ (p q : Pair K V). cmp p.key q.key ≢ Equal) pairs (pair key val) kept.legal.apart away;
      };
      found = λ q.
          updates q
          ∙ update_all_push (eq_by_cmp cmp) (λ _. None) (λ k. lookup (is_at (cmp k)) entries) (map (λ p. (p.key, p.val)) pairs) (key, val) q (kept.found q)
          ∙ ap (λ (xs : List (K × V)). update_all (eq_by_cmp cmp) (λ _. None) xs q) (sym (map-append (λ (p : Pair K V). (p.key, p.val)) pairs (pair key val ∷ [])));
    }

-- a key stands in a list to which it was added
pub in_pushed : {K V : Type 0} (cmp : K → K → Ordering) → IsTotalOrder cmp → (pairs : List (Pair K V)) (key : K) (val : V) → IsIn cmp (pairs ++ pair key val ∷ []) key
in_pushed {K} {V} cmp laws pairs key val = Any-push (λ (p : Pair K V). cmp p.key key ≡ Equal) pairs (pair key val) (tied_itself laws key)

-- a pair that is pushed stands at the end
pub pushed : {P : Type 0} (before after : List (Snapshot P)) (noted : Snapshot P) (p : P) → after ≡ before ++ noted ∷ [] → noted.value ≡ p
    → map (λ s. s.value) after ≡ map (λ s. s.value) before ++ p ∷ []
pushed {P} before after noted p all is =
    ap (λ (xs : List (Snapshot P)). map (λ s. s.value) xs) all ∙ (map-append (λ (s : Snapshot P). s.value) before (noted ∷ []) ∙ ap (λ (x : P). map (λ (s : Snapshot P). s.value) before ++ x ∷ []) is)
