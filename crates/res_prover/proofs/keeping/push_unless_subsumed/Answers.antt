-- The other clause alone is filtered.
use Rattle.std.proofs.Common.{◌∷◌, ◌++◌, [], not, sym, ap, ◌∙◌}
use Rattle.clause_laws.specs.Searching.{subsumes}
use Rattle.res_prover.specs.declared.kept.Kept.{Kept}
use Rattle.res_prover.proofs.KeptLaws.{kept_alone, gone}
use Rattle.res_prover.proofs.keeping.push_unless_subsumed.Goals as goal

pub returns-then-branch : goal.returns-then-branch
returns-then-branch c = λ clause.
    let k = c.args.other.now in
    gone (λ (j : Kept). not (subsumes c.args.one.now.clause j.clause)) c.args.kept.now.items k (ap not (sym (c.in_ok-subsumes.ensures clause) ∙ c.if-branch.true))

pub returns : goal.returns
returns c = λ clause.
    let k = c.args.other.now in
    c.in_ok-push.ensures.items ∙ ap (λ j. c.args.kept.now.items ++ j ∷ []) c.in_ok-copied.ensures
    ∙ kept_alone (λ (j : Kept). not (subsumes c.args.one.now.clause j.clause)) c.args.kept.now.items k (ap not (sym (c.in_ok-subsumes.ensures clause) ∙ c.if-branch.false))
