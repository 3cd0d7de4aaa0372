-- Pieces that are written one behind the other.
use Rattle.std.proofs.Common.{ℕ, ◌+◌, ◌≤◌, List, ◌++◌, length, take, sym, subst, arith, length-append}
use Rattle.std.specs.Prelude.{Option, Result, Ok, Err}
use Rattle.std.specs.Io.KnownBytes.{Appends}
use Rattle.std.proofs.KnownBytes.{Appends-trans}
use Rattle.std.proofs.Math.Seq.{take-append-add, take-append-le}
use Rattle.proof_server.specs.Writing.{Puts}
use Rattle.proof_server.proofs.Midway.{Rose-since}

-- the first was written, and then the second, or a part of it
pub puts_both : {E : Type 0} (r : Result (Unit {0}) E) (a b : List ℕ) (k k1 k2 : ℕ) (s s1 s2 : Option (List ℕ)) → k ≤ k1 → Appends s s1 a → Puts r b k1 k2 s1 s2
    → Puts r (a ++ b) k k2 s s2
puts_both (Ok _) a b k k1 k2 s s1 s2 kept first second = Appends-trans s s1 s2 a b first second
puts_both (Err _) a b k k1 k2 s s1 s2 kept first second =
    let n = second.1.0 in
    let within = second.1.1 in (
      Rose-since k k1 k2 kept second.0,
      (
        length a + n,
        omega (arith, within, length-append a b),
        subst (Appends s s2) (sym (take-append-add a b n)) (Appends-trans s s1 s2 a (take n b) first second.1.2),
      ),
    )

-- a part of the first was
pub puts_first : {E : Type 0} (e : E) (a b : List ℕ) (k k' : ℕ) (s s' : Option (List ℕ)) → Puts (Err e) a k k' s s' → Puts (Err e) (a ++ b) k k' s s'
puts_first e a b k k' s s' failed =
    let n = failed.1.0 in
    let within = failed.1.1 in (
      failed.0,
      (
        n,
        omega (arith, within, length-append a b),
        subst (Appends s s') (sym (take-append-le n a b (omega (arith, within)))) failed.1.2,
      ),
    )
