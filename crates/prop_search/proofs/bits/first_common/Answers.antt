-- The lowest bit of the first word with a bit of both.
use Rattle.std.proofs.Common.{ℕ, ◌<◌, ◌*◌, ◌^◌, get_or, length, inl, inr, refl, arith}
use Rattle.std.specs.Prelude.{bit_and}
use Rattle.std.proofs.lemmas.Bool.{cases_lt}
use Rattle.std.proofs.lemmas.Nat.{and_le_l}
use Rattle.prop_search.proofs.BitSets.{none_here, first_here, none_below, past_both}
use Rattle.prop_search.proofs.bits.first_common.Goals as goal

pub returns-then-both-ne0-clause-found : goal.returns-then-both-ne0-clause-found
returns-then-both-ne0-clause-found c =
    let xs = c.args.a.now in
    let ys = c.args.b.now in
    let i = c.loop-i.i in
    let w : ℕ = bit_and (get_or xs i 0) (get_or ys i 0) in
    let some : 0 < w = omega (arith, c.if-both-ne0.true) in
    let small : w < 2 ^ 64 = omega (arith, and_le_l (get_or xs i 0) (get_or ys i 0), (c.type_inv.a i).fits) in
    first_here xs ys i w refl some small

pub returns-then-both-ne0-clause-least : goal.returns-then-both-ne0-clause-least
returns-then-both-ne0-clause-least c =
    let xs = c.args.a.now in
    let ys = c.args.b.now in
    let i = c.loop-i.i in
    let w : ℕ = bit_and (get_or xs i 0) (get_or ys i 0) in
    let some : 0 < w = omega (arith, c.if-both-ne0.true) in
    let small : w < 2 ^ 64 = omega (arith, and_le_l (get_or xs i 0) (get_or ys i 0), (c.type_inv.a i).fits) in
    none_below xs ys i w refl some small c.loop-i.invariant

pub loop-i-preserved : goal.loop-i-preserved
loop-i-preserved c = λ n below.
    elim (cases_lt n (64 * c.loop-i.i)) [
      | inl l ↦ c.loop-i.invariant n l
      | inr l ↦ none_here c.args.a.now c.args.b.now c.loop-i.i (bit_and (get_or c.args.a.now c.loop-i.i 0) (get_or c.args.b.now c.loop-i.i 0)) refl c.if-both-ne0.false n (omega arith)
    ]

pub returns-clause-none : goal.returns-clause-none
returns-clause-none c = λ none n.
    elim (cases_lt n (64 * length c.args.a.now)) [
      | inl l ↦ c.loop-i.invariant n (omega arith)
      | inr l ↦ past_both c.args.a.now c.args.b.now n l
    ]
