use Rattle.std.proofs.Common.{◌+◌, List, sym, subst}
use Rattle.std.specs.List.{All}
use Rattle.std.proofs.lemmas.List.Elements.{All-push}
use Rattle.fol.specs.Formed.{IsFormed}
use Rattle.fol.specs.Syntax.{Formula}
use Rattle.line_values.specs.View.{view}
use Rattle.job_lang.specs.Formulas.{formula_of}
use Rattle.job_lang.proofs.Each.{Reads, reads_more}
use Rattle.job_lang.proofs.formulas.each_formula.Goals as goal

pub loop-index-preserved : goal.loop-index-preserved
loop-index-preserved c =
    let i = c.loop-index.index in
    let read = formula_of c.args.place c.args.key.now in
    subst (λ (formulas : List Formula). Reads view read c.args.values.now (i + 1) formulas × All IsFormed formulas) (sym c.in_ok-push.ensures.items) (
      reads_more view read c.args.values.now i c.index-values-index.result c.loop-index.formulas.items c.in_ok-formula.formula
          c.loop-index-test.true c.index-values-index.is c.in_ok-formula.ensures.value c.loop-index.invariant.0,
      All-push IsFormed c.loop-index.formulas.items c.in_ok-formula.formula c.loop-index.invariant.1 c.in_ok-formula.ensures.formed,
    )
