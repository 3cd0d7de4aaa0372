-- All others remain where the clause subsumes none of them.
use Rattle.std.proofs.Common.{◌≡◌, ◌++◌, ◌∷◌, [], Bool, false, sym, ap, ◌∙◌}
use Rattle.std.specs.List.{list_any}
use Rattle.clause_laws.specs.Searching.{subsumes}
use Rattle.res_prover.specs.declared.kept.Kept.{Kept}
use Rattle.res_prover.proofs.KeptLaws.{none_gone}
use Rattle.res_prover.proofs.keeping.put_last.Goals as goal

pub returns-then-not-branch : goal.returns-then-not-branch
returns-then-not-branch c = λ clause.
    let one = c.args.one in
    let ks = c.args.others.items in
    let p : Kept → Bool = λ k. subsumes one.clause k.clause in
    let same = c.as_slice.ensures.value in
    let none : list_any p ks ≡ false = ap (list_any p) (sym same) ∙ sym (c.in_ok-subsumes_some.ensures clause) ∙ c.if-not-branch.true in
    c.in_ok-push.ensures.items ∙ ap (λ js. js ++ one ∷ []) (sym (none_gone p ks none))
