-- The variable by the place among the names.
use Rattle.std.proofs.Common.{◌≡◌, ◌<◌, length, sym, ap, ◌∙◌, subst}
use Rattle.std.specs.Prelude.{nat_eq}
use Rattle.std.specs.List.{position_or_len}
use Rattle.fol.specs.Syntax.{free}
use Rattle.fol.specs.Formed.{is_formed_term}
use Rattle.extraction_laws.specs.States.{variable_at, nth_outside}
use Rattle.exp_extract.specs.Marked.{Marked, address_at}
use Rattle.extraction_laws.proofs.Variables.{nth_numbered}
use Rattle.exp_extract.proofs.MarkedSets.{place_at_numbers}
use Rattle.exp_extract.proofs.marks.Marks.variable_term.Goals as goal

pub returns-clause-value : goal.returns-clause-value
returns-clause-value c =
    let bs = c.self.inside.places in
    let n = c.args.place in
    let vs = c.self.inside.names.outside in
    let l : n < length bs = subst (λ (m : Marked). n < length m.addresses) (sym c.self.view_is) c.requires in
    subst (λ (m : Marked). c.variable.result.now ≡ free (variable_at m.outside m.state (address_at m n))) c.self.view_is
    (c.variable.ensures ∙ ap (λ k. free (nth_outside vs k)) (sym (place_at_numbers bs c.known.ensures n l c.self.inside.names.places c.self.invariant.names)))

pub returns-clause-formed : goal.returns-clause-formed
returns-clause-formed c = ap is_formed_term (c.variable.ensures ∙ ap free (nth_numbered c.self.inside.names.outside (position_or_len (nat_eq c.args.place) c.self.inside.names.places)))
