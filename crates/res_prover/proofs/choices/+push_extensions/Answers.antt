-- With the next atom and without it, or without it alone.
use Rattle.std.proofs.Common.{◌≡◌, ◌-◌, ◌∷◌, ◌++◌, [], length, take, drop, sym, ap, subst, ◌∙◌, arith}
use Rattle.std.specs.Prelude.{Ok}
use Rattle.std.specs.List.{All}
use Rattle.std.proofs.lemmas.List.{map-append, length_push}
use Rattle.res_prover.specs.Lists.{lists_of}
use Rattle.res_prover.specs.Resolved.{IsAtomFormed}
use Rattle.res_prover.specs.Choosing.{IsUnified, AddsExtensions}
use Rattle.res_prover.proofs.Fronts.{front_rest}
use Rattle.res_prover.proofs.Extensions.{each_longer, each_more, each_shorter, no_others_of, with_next, without_next}
use Rattle.res_prover.proofs.choices.+push_extensions.Goals as goal

pub returns-in_default : goal.returns-in_default
returns-in_default t c =
    no_others_of c.args.chosen.items c.args.others.now (lists_of c.args.lists.now.items) (lists_of c.push.new.self.items) (omega arith)
    (ap lists_of c.in_ok-push.ensures.items ∙ map-append (λ u. u.items) c.args.lists.now.items (c.args.chosen ∷ []))

pub have_unifier-requires-clause-some : goal.have_unifier-requires-clause-some
have_unifier-requires-clause-some t c =
    let f = c.next-item.result in
    let chosen = c.args.chosen.items in
    let made : c.as_slice-2.result.now ≡ chosen ++ f ∷ [] = c.as_slice-2.ensures.value ∙ c.in_ok-more.ensures ∙ ap (λ u. u ++ f ∷ []) c.as_slice.ensures.value in
    let many = ap length made ∙ length_push chosen f in
    omega arith

pub have_unifier-requires-clause-atoms : goal.have_unifier-requires-clause-atoms
have_unifier-requires-clause-atoms t c =
    let chosen = c.args.chosen.items in
    let all = c.args.others.now in
    let f = c.next-item.result in
    let rest = take (length all - 1) (drop 1 all) in
    let whole : f ∷ rest ≡ all = front_rest all f c.in-len1-up.len_at_least c.next-item.is in
    let made : c.as_slice-2.result.now ≡ chosen ++ f ∷ [] = c.as_slice-2.ensures.value ∙ c.in_ok-more.ensures ∙ ap (λ u. u ++ f ∷ []) c.as_slice.ensures.value in
    subst (All IsAtomFormed) (sym made) (each_more IsAtomFormed chosen f rest (subst (λ os. All IsAtomFormed (chosen ++ os)) (sym whole) c.requires.atoms))

pub push_extensions-requires : goal.push_extensions-requires
push_extensions-requires t c =
    let chosen = c.args.chosen.items in
    let all = c.args.others.now in
    let f = c.next-item.result in
    let rest = take (length all - 1) (drop 1 all) in
    let whole : f ∷ rest ≡ all = front_rest all f c.in-len1-up.len_at_least c.next-item.is in
    (omega arith, (c.requires.some, each_shorter IsAtomFormed chosen f rest (subst (λ os. All IsAtomFormed (chosen ++ os)) (sym whole) c.requires.atoms)))

pub returns-then-not-branch : goal.returns-then-not-branch
returns-then-not-branch t c =
    let chosen = c.args.chosen.items in
    let all = c.args.others.now in
    let f = c.next-item.result in
    let rest = take (length all - 1) (drop 1 all) in
    let whole : f ∷ rest ≡ all = front_rest all f c.in-len1-up.len_at_least c.next-item.is in
    let made : c.as_slice-2.result.now ≡ chosen ++ f ∷ [] = c.as_slice-2.ensures.value ∙ c.in_ok-more.ensures ∙ ap (λ u. u ++ f ∷ []) c.as_slice.ensures.value in
    let old = lists_of c.args.lists.now.items in
    let new = lists_of c.push_extensions.new.lists.items in
    subst (λ os. AddsExtensions chosen os old new) whole
    (without_next chosen f rest old new (λ u. c.in_ok-have_unifier.ensures (ap Ok c.if-not-branch.true) (subst IsUnified (sym made) u)) c.in_ok-push_extensions.ensures)

pub push_extensions-requires-2 : goal.push_extensions-requires-2
push_extensions-requires-2 t c =
    let chosen = c.args.chosen.items in
    let all = c.args.others.now in
    let f = c.next-item.result in
    let rest = take (length all - 1) (drop 1 all) in
    let whole : f ∷ rest ≡ all = front_rest all f c.in-len1-up.len_at_least c.next-item.is in
    let made : c.in_ok-more.more.items ≡ chosen ++ f ∷ [] = c.in_ok-more.ensures ∙ ap (λ u. u ++ f ∷ []) c.as_slice.ensures.value in
    let many = ap length made ∙ length_push chosen f in (
      omega arith,
      (
        omega arith,
        subst (λ u. All IsAtomFormed (u ++ rest)) (sym made) (each_longer IsAtomFormed chosen f rest (subst (λ os. All IsAtomFormed (chosen ++ os)) (sym whole) c.requires.atoms)),
      ),
    )

pub push_extensions-requires-3 : goal.push_extensions-requires-3
push_extensions-requires-3 t c =
    let chosen = c.args.chosen.items in
    let all = c.args.others.now in
    let f = c.next-item.result in
    let rest = take (length all - 1) (drop 1 all) in
    let whole : f ∷ rest ≡ all = front_rest all f c.in-len1-up.len_at_least c.next-item.is in
    (omega arith, (c.requires.some, each_shorter IsAtomFormed chosen f rest (subst (λ os. All IsAtomFormed (chosen ++ os)) (sym whole) c.requires.atoms)))

pub returns : goal.returns
returns t c =
    let chosen = c.args.chosen.items in
    let all = c.args.others.now in
    let f = c.next-item.result in
    let rest = take (length all - 1) (drop 1 all) in
    let whole : f ∷ rest ≡ all = front_rest all f c.in-len1-up.len_at_least c.next-item.is in
    let made : c.in_ok-more.more.items ≡ chosen ++ f ∷ [] = c.in_ok-more.ensures ∙ ap (λ u. u ++ f ∷ []) c.as_slice.ensures.value in
    let old = lists_of c.args.lists.now.items in
    let mid = lists_of c.push_extensions-2.new.lists.items in
    let new = lists_of c.push_extensions-3.new.lists.items in
    subst (λ os. AddsExtensions chosen os old new) whole
    (with_next chosen f rest old mid new (subst (λ u. AddsExtensions u rest old mid) made c.in_ok-push_extensions-2.ensures) c.in_ok-push_extensions-3.ensures)
