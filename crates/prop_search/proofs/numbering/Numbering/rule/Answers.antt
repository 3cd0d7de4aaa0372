use Rattle.std.proofs.Common.{◌≡◌, sym, ap, ◌∙◌}
use Rattle.lk_rules.specs.declared.rule.Rule.{Rule}
use Rattle.lk_rules.specs.Rules.{needs}
use Rattle.search_laws.specs.Search.{premises_from}
use Rattle.prop_search.specs.Formulas.{formula_at}
use Rattle.prop_search.specs.Premises.{premises_of, rule_with}
use Rattle.prop_search.proofs.PartsOf.{premises_are}
use Rattle.prop_search.proofs.numbering.Numbering.rule.Goals as goal

pub returns-clause-premises : goal.returns-clause-premises
returns-clause-premises c =
    let fs = c.args.self.now in
    let main = c.args.main in
    let root = c.root-root.result in
    let f = formula_at fs main.number in
    let rule : c.rule.result ≡ rule_with main.side root f = c.rule.ensures ∙ ap (rule_with main.side root) (c.in_ok-formula.ensures ∙ c.formula.ensures.formula) in
    λ s. ap (λ (r : Rule). premises_from r s 0 (needs r)) rule ∙ premises_are fs main.side root f c.root-root.ensures s ∙ ap (premises_of fs s main) (sym c.parts.ensures)
