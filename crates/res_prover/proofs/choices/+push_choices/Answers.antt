-- The choices with the first atom, and those without it.
use Rattle.std.proofs.Common.{◌≡◌, ◌-◌, ◌∷◌, ◌++◌, length, take, drop, sym, ap, subst, arith}
use Rattle.std.specs.List.{All}
use Rattle.std.proofs.lemmas.List.Elements.{All-tail}
use Rattle.res_prover.specs.Lists.{lists_of}
use Rattle.res_prover.specs.Resolved.{IsAtomFormed}
use Rattle.res_prover.specs.Choosing.{AddsExtensions, AddsChoices}
use Rattle.res_prover.proofs.Fronts.{front_rest}
use Rattle.res_prover.proofs.Extensions.{no_atoms, next_atom}
use Rattle.res_prover.proofs.choices.+push_choices.Goals as goal

pub returns-in_default : goal.returns-in_default
returns-in_default t c = no_atoms c.args.atoms.now (lists_of c.args.lists.now.items) (omega arith)

pub push_extensions-requires-clause-some : goal.push_extensions-requires-clause-some
push_extensions-requires-clause-some t c = let one : length c.in_ok-alone.alone.items ≡ 1 = ap length c.in_ok-alone.ensures in omega arith

pub push_extensions-requires-clause-atoms : goal.push_extensions-requires-clause-atoms
push_extensions-requires-clause-atoms t c =
    let all = c.args.atoms.now in
    let f = c.first-item.result in
    let rest = take (length all - 1) (drop 1 all) in
    let whole : f ∷ rest ≡ all = front_rest all f c.in-len1-up.len_at_least c.first-item.is in
    subst (λ u. All IsAtomFormed (u ++ rest)) (sym c.in_ok-alone.ensures) (subst (All IsAtomFormed) (sym whole) c.requires)

pub push_choices-requires : goal.push_choices-requires
push_choices-requires t c =
    let all = c.args.atoms.now in
    let f = c.first-item.result in
    let rest = take (length all - 1) (drop 1 all) in
    let whole : f ∷ rest ≡ all = front_rest all f c.in-len1-up.len_at_least c.first-item.is in
    (omega arith, All-tail IsAtomFormed f rest (subst (All IsAtomFormed) (sym whole) c.requires))

pub returns : goal.returns
returns t c =
    let all = c.args.atoms.now in
    let f = c.first-item.result in
    let rest = take (length all - 1) (drop 1 all) in
    let whole : f ∷ rest ≡ all = front_rest all f c.in-len1-up.len_at_least c.first-item.is in
    let old = lists_of c.args.lists.now.items in
    let mid = lists_of c.push_extensions.new.lists.items in
    let new = lists_of c.push_choices.new.lists.items in
    subst (λ u. AddsChoices u old new) whole
    (next_atom f rest old mid new (subst (λ u. AddsExtensions u rest old mid) c.in_ok-alone.ensures c.in_ok-push_extensions.ensures) c.in_ok-push_choices.ensures)
