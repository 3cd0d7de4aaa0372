-- The list has the clauses that are kept, and a line can tell them.
use Rattle.std.proofs.Common.{◌≡◌, List, sym, ◌∙◌, subst}
use Rattle.std.specs.List.{All}
use Rattle.lk_rules.specs.declared.sequent.Sequent.{Sequent}
use Rattle.res_prover.specs.Clauses.{clauses_of as sequents_of_clauses}
use Rattle.reply_lines.specs.Shown.{IsShownClause}
use Rattle.operations.proofs.Saturated.{saturation_comes}
use Rattle.operations.proofs.saturating.keep_clauses.Goals as goal

pub returns : goal.returns
returns c = λ g cs n holds.
    let ks = c.from_vec.result in
    let same : ks ≡ sequents_of_clauses c.args.kept.now = c.from_vec.ensures ∙ c.in-Ok.ensures in
    let shown : All IsShownClause ks =
    subst (λ (ss : List Sequent). All IsShownClause ss) (c.deref.ensures.value ∙ sym c.from_vec.ensures) (c.are_shown_clauses.ensures c.if-not-are_shown_clauses.false) in
    saturation_comes g cs n ks (sequents_of_clauses c.args.kept.now) holds same shown
