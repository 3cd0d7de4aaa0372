-- Lists of pairs and the events from which they come.
use Rattle.std.proofs.Common.{◌≡◌, ◌≢◌, ◌<◌, List, [], ◌∷◌, ◌++◌, length, get_or, refl, sym, ◌∙◌, subst, arith, append_assoc, append-nil, length-append}
use Rattle.std.specs.List.{All, AllPairs}
use Rattle.std.specs.declared.cmp.Ordering.{Ordering}
use Rattle.std.specs.declared.cmp.Ordering.TheVariants.{Equal}
use Rattle.std.proofs.lemmas.List.{get_or_append_left, get_or_at}
use Rattle.std.proofs.lemmas.List.Elements.{All-push}
use Rattle.std.proofs.lemmas.List.Quantifiers.{all_pairs_push}
use Rattle.memo_table.specs.declared.rows.Pair.{Pair}
use Rattle.memo_table.specs.Pairs.{IsLegal}
use Rattle.memo_table.specs.Events.{MayFollow, noted, AreAllowed, after_all}

-- each element of a list before one is related to it
before_one : {X : Type 0} (R : X → X → Type 0) (xs : List X) (y : X) (zs : List X) → AllPairs R (xs ++ y ∷ zs) → All (λ x. R x y) xs
before_one R xs y zs pairs k d within =
    let inside : length xs < length (xs ++ y ∷ zs) = omega (arith, length-append xs (y ∷ zs)) in
    let first : get_or (xs ++ y ∷ zs) k d ≡ get_or xs k d = get_or_append_left xs (y ∷ zs) d k within in
    let second : get_or (xs ++ y ∷ zs) (length xs) d ≡ y = get_or_at xs y zs d (length xs) refl in
    rw (← first) (subst (R (get_or (xs ++ y ∷ zs) k d)) second (pairs k (length xs) d within inside))

-- and what holds of each element of a list holds of one in its midst
at_one : {X : Type 0} (P : X → Type 0) (xs : List X) (y : X) (zs : List X) → All P (xs ++ y ∷ zs) → P y
at_one P xs y zs all =
    let inside : length xs < length (xs ++ y ∷ zs) = omega (arith, length-append xs (y ∷ zs)) in
    subst P (get_or_at xs y zs y (length xs) refl) (all (length xs) y inside)

module _ {K V : Type 0} (truth : K → V → Type 0) (cmp : K → K → Ordering) where
  pub legal_none : IsLegal truth cmp []
  legal_none = record { sound = λ k d within. absurd (omega arith); apart = λ i j d lt within. absurd (omega arith) }

  -- an event keeps pairs legal
  legal_more : (pairs : List (Pair K V)) (p : Pair K V) → IsLegal truth cmp pairs → MayFollow truth cmp pairs p → IsLegal truth cmp (noted pairs p)
  legal_more pairs p legal may = record {
    sound = All-push (λ q. truth q.key q.val) pairs p legal.sound may.sound;
    apart = all_pairs_push (λ q r. cmp q.key r.key ≢ Equal) pairs p legal.apart (λ k d within. may.key k d within);
  }

  pub legal_after : (pairs events : List (Pair K V)) → IsLegal truth cmp pairs → AreAllowed truth cmp pairs events → IsLegal truth cmp (after_all pairs events)
  legal_after pairs [] legal allowed = legal
  legal_after pairs (p ∷ ps) legal allowed = legal_after (noted pairs p) ps (legal_more pairs p legal allowed.0) allowed.1

  -- a legal list is made by its own pairs, one after the other
  pub made_by_itself : (pairs events : List (Pair K V)) → IsLegal truth cmp (pairs ++ events) → AreAllowed truth cmp pairs events × (after_all pairs events ≡ pairs ++ events)
  made_by_itself pairs [] legal = (tt, sym (append-nil pairs))
  made_by_itself pairs (p ∷ ps) legal =
      let same : pairs ++ p ∷ ps ≡ noted pairs p ++ ps = sym (append_assoc pairs (p ∷ []) ps) in
      let rest = made_by_itself (noted pairs p) ps (subst (IsLegal truth cmp) same legal) in
      let may : MayFollow truth cmp pairs p = record {
        key = before_one (λ q r. cmp q.key r.key ≢ Equal) pairs p ps legal.apart;
        sound = at_one (λ q. truth q.key q.val) pairs p ps legal.sound;
      } in ((may, rest.0), rest.1 ∙ sym same)
