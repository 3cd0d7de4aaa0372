-- By the cycle of numbers.
use Rattle.std.proofs.Common.{◌≡◌, ◌<◌, length, map, get_or, sym, ap, subst, ◌∙◌}
use Rattle.std.specs.List.{All, range_with_len}
use Rattle.std.specs.Option.{option_map}
use Rattle.finite.specs.Finite as set
use Rattle.exp_tree.specs.Reads.{expansion_of}
use Rattle.expansion_laws.specs.Cycles.{variables, first_cycle}
use Rattle.exp_check.specs.Links.{has_link, AreLinks}
use Rattle.exp_check.proofs.ShownLaws.{numbers_within, none_shown, some_shown}
use Rattle.exp_check.proofs.checking.cycle.Goals as goal

pub named-requires : goal.named-requires
named-requires c =
    let n = length c.as_slice-vars.result.now in
    let found = sym (ap (option_map (λ ns. ns.items)) c.in-Some.is) ∙ c.in_ok-numbers.ensures in
    subst (All (λ i. i < n)) (sym c.deref-in-Some.ensures.value) (numbers_within (has_link c.deref-2.result.now) n c.in-Some.numbers.items found)

pub returns-in-Some : goal.returns-in-Some
returns-in-Some c =
    let x = expansion_of c.args.exps.now in
    let es = c.in_ok-edges.edges.items in
    let ls = c.in_ok-links.links.items in
    let set_is = c.from_vec-vars.ensures ∙ ap set.of_list c.in_ok-strong_vars.ensures in
    let vars_are : c.as_slice-vars.result.now ≡ variables x = c.as_slice-vars.ensures ∙ ap set.listing set_is in
    let links : AreLinks (variables x) es ls = subst (λ vs. AreLinks vs es ls) (ap set.listing set_is) (subst (λ fs. AreLinks (set.listing c.from_vec-vars.result) fs ls) c.deref.ensures.value c.in_ok-links.ensures) in
    let found = sym (ap (option_map (λ ns. ns.items)) c.in-Some.is) ∙ c.in_ok-numbers.ensures
    ∙ (λ i. first_cycle (has_link (c.deref-2.ensures.value i)) (range_with_len 0 (length (vars_are i)))) in
    some_shown x es ls links c.in_ok-edges.ensures c.in-Some.numbers.items c.in_ok-named-in-Some.field-0 found
    (λ d. c.in_ok-named-in-Some.ensures d ∙ (λ i. map (λ k. get_or (vars_are i) k d) (c.deref-in-Some.ensures.value i)))

pub returns : goal.returns
returns c =
    let x = expansion_of c.args.exps.now in
    let es = c.in_ok-edges.edges.items in
    let ls = c.in_ok-links.links.items in
    let set_is = c.from_vec-vars.ensures ∙ ap set.of_list c.in_ok-strong_vars.ensures in
    let vars_are : c.as_slice-vars.result.now ≡ variables x = c.as_slice-vars.ensures ∙ ap set.listing set_is in
    let links : AreLinks (variables x) es ls = subst (λ vs. AreLinks vs es ls) (ap set.listing set_is) (subst (λ fs. AreLinks (set.listing c.from_vec-vars.result) fs ls) c.deref.ensures.value c.in_ok-links.ensures) in
    let found = sym (ap (option_map (λ ns. ns.items)) c.in-None.is) ∙ c.in_ok-numbers.ensures
    ∙ (λ i. first_cycle (has_link (c.deref-2.ensures.value i)) (range_with_len 0 (length (vars_are i)))) in
    none_shown x es ls links c.in_ok-edges.ensures found
