use Rattle.std.proofs.Common.{ℕ, ◌+◌, List, sym, ap, ◌∙◌, subst}
use Rattle.std.specs.List.{All, list_all}
use Rattle.std.proofs.lemmas.List.Sums.{list_all-from_AllPass}
use Rattle.std.proofs.lemmas.List.Elements.{All-push}
use Rattle.fol.specs.Syntax.{Term}
use Rattle.fol.specs.Formed.{is_formed_term, IsFormedTerm}
use Rattle.line_values.specs.View.{view}
use Rattle.job_lang.specs.Expansions.{instance_at}
use Rattle.job_lang.proofs.Each.{Reads, reads_more}
use Rattle.job_lang.proofs.expansions.instances_of.Goals as goal

pub loop-index-preserved : goal.loop-index-preserved
loop-index-preserved c =
    let i = c.loop-index.index in
    let read = instance_at c.args.node in
    subst (λ (items : List (Term × ℕ)). Reads view read c.args.values.now (i + 1) items × All (λ x. IsFormedTerm x.0) items) (sym c.in_ok-push.ensures.items) (
      reads_more view read c.args.values.now i c.index-values-index.result c.loop-index.items.items c.in_ok-instance.instance
          c.loop-index-test.true c.index-values-index.is c.in_ok-instance.ensures.value c.loop-index.invariant.0,
      All-push (λ (x : Term × ℕ). IsFormedTerm x.0) c.loop-index.items.items c.in_ok-instance.instance c.loop-index.invariant.1 c.in_ok-instance.ensures.formed,
    )

pub returns-clause-formed : goal.returns-clause-formed
returns-clause-formed c =
    ap (list_all (λ (x : Term × ℕ). is_formed_term x.0)) c.from_vec.ensures
    ∙ list_all-from_AllPass (λ (x : Term × ℕ). is_formed_term x.0) c.loop-index.items.items c.loop-index.invariant.1
