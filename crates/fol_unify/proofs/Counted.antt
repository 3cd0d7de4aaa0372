-- Joining leaves fewer roots, so each step leaves less to do.
use Rattle.std.proofs.Common.{◌≡◌, ℕ, zero, suc, ◌+◌, ◌<◌, ◌≤◌, eqb, ⊎_elim, Bool, true, false, cond, List, [], ◌∷◌, ◌++◌, length, sym, ap, subst, arith, length-append, eq-eqb, ne_eqb}
use Rattle.std.specs.Prelude.{slice_set}
use Rattle.arena_cells.specs.Items.{Item}
use Rattle.fol_unify.specs.declared.shapes.Decision.{Decision}
use Rattle.fol_unify.specs.declared.shapes.Decision.TheVariants.{Clash, FirstUnder, OtherUnder, Level, LevelOne, LevelTwo}
use Rattle.fol_unify.specs.Classes.{next, roots_from}
use Rattle.fol_unify.specs.Joining.{pairs_of, IsJoined, work_left}

one_of : Bool → ℕ
one_of b = cond b 1 0

fewer_from : (ls : List ℕ) (i k v : ℕ) → k < length ls → next ls k ≡ i + k → (v ≡ i + k → ⊥) → roots_from i (slice_set ls k v) + 1 ≡ roots_from i ls
fewer_from [] i k v below at apart = absurd (omega arith)
fewer_from (l ∷ ls) i zero v below at apart =
    let own : eqb l i ≡ true = eq-eqb l i (omega (arith, at)) in
    let new : eqb v i ≡ false = ne_eqb v i (λ e. apart (omega (arith, e))) in
    let one : roots_from i (l ∷ ls) ≡ 1 + roots_from (suc i) ls = ap (λ b. cond b 1 0 + roots_from (suc i) ls) own in
    let two : roots_from i (v ∷ ls) ≡ 0 + roots_from (suc i) ls = ap (λ b. cond b 1 0 + roots_from (suc i) ls) new in
    omega (arith, one, two)
fewer_from (l ∷ ls) i (suc k) v below at apart =
    let rest = fewer_from ls (suc i) k v (omega arith) (omega (arith, at)) (λ e. apart (omega (arith, e))) in
    omega (arith, rest)

fewer : (ls : List ℕ) (k v : ℕ) → k < length ls → next ls k ≡ k → (k ≡ v → ⊥) → roots_from 0 (slice_set ls k v) + 1 ≡ roots_from 0 ls
fewer ls k v below at apart = fewer_from ls 0 k v below (omega (arith, at)) (λ e. apart (omega (arith, e)))

pub fewer_roots : (a : List Item) (ls ks : List ℕ) (r s : ℕ) (qs : List (ℕ × ℕ)) → r < length ls → s < length ls → next ls r ≡ r → next ls s ≡ s → (r ≡ s → ⊥) → IsJoined a ls ks r s qs → roots_from 0 ks + 1 ≡ roots_from 0 ls
fewer_roots a ls ks r s qs rb sb ra sa apart step =
    ⊎_elim {C = roots_from 0 ks + 1 ≡ roots_from 0 ls}
    (λ one. subst (λ k. roots_from 0 k + 1 ≡ roots_from 0 ls) (sym one.0) (fewer ls r s rb ra apart))
    (λ two. subst (λ k. roots_from 0 k + 1 ≡ roots_from 0 ls) (sym two.0) (fewer ls s r sb sa (λ e. apart (sym e))))
    step

few_pairs : (d : Decision) → length (pairs_of d) ≤ 2
few_pairs Clash = omega arith
few_pairs FirstUnder = omega arith
few_pairs OtherUnder = omega arith
few_pairs Level = omega arith
few_pairs (LevelOne p) = omega arith
few_pairs (LevelTwo p q) = omega arith

pub less_dropped : (ls : List ℕ) (ps : List (ℕ × ℕ)) (p : ℕ × ℕ) → work_left ls ps < work_left ls (ps ++ p ∷ [])
less_dropped ls ps p = let more = length-append ps (p ∷ []) in omega (arith, more)

pub less_joined : (a : List Item) (ls ks : List ℕ) (ps : List (ℕ × ℕ)) (p : ℕ × ℕ) (d : Decision) (r s : ℕ) → r < length ls → s < length ls → next ls r ≡ r → next ls s ≡ s → (r ≡ s → ⊥)
    → IsJoined a ls ks r s (pairs_of d) → work_left ks (ps ++ pairs_of d) < work_left ls (ps ++ p ∷ [])
less_joined a ls ks ps p d r s rb sb ra sa apart step =
    let roots = fewer_roots a ls ks r s (pairs_of d) rb sb ra sa apart step in
    let more = length-append ps (p ∷ []) in
    let left = length-append ps (pairs_of d) in
    let few = few_pairs d in
    omega (arith, roots, more, left, few)
