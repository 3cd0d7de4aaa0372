-- The key of the rule's formula tells the auxiliary formulas.
use Rattle.std.proofs.Common.{◌≡◌, sym, ap, subst, ◌∙◌, arith}
use Rattle.std.specs.Prelude.{Some, IfOk}
use Rattle.lk_rules.specs.declared.sequent.Sequent.{Sequent}
use Rattle.cut_laws.specs.Contraction.{with_aux}
use Rattle.arena_cells.specs.Items.{sequent}
use Rattle.arena_cells.specs.Standing.{HasSequent, sequent_at}
use Rattle.arena_cells.specs.Meaning.{rule_at}
use Rattle.arena_cells.proofs.Staying.{within}
use Rattle.arena_proofs.proofs.RuleParts.{named_formula}
use Rattle.arena_proofs.specs.AuxiliaryNumbers.{IsAuxiliaryAt, with_numbers}
use Rattle.arena_proofs.specs.declared.auxiliary.Auxiliary.{Auxiliary}
use Rattle.arena_proofs.proofs.AuxiliaryLaws.{first_there, second_there, first_is, second_is, none_is}
use Rattle.arena_proofs.proofs.auxiliary.with_aux.Goals as goal
use Rattle.arena_proofs.proofs.auxiliary.with_aux.Goals.{then-premise-eq0, else-premise-eq0}

pub key-key-requires : goal.key-key-requires
key-key-requires c = within c.args.arena.now c.in-Some.formula _ (named_formula c.args.arena.now c.args.rule c.in-Some.formula c.requires.rule (sym c.in-Some.ensures)).0

pub returns-in_default-clause-sequent : goal.returns-in_default-clause-sequent
returns-in_default-clause-sequent c =
    let a = c.args.arena.now in
    c.requires.end ∙ ap (λ (s : Sequent). Some (sequent s)) (none_is a (sequent_at a c.args.end) c.args.rule c.args.premise (sym c.rule_formula.ensures ∙ c.in_default.is))

pub with_formulas-requires-clause-formulas : goal.with_formulas-requires-clause-formulas
with_formulas-requires-clause-formulas c =
    let a = c.args.arena.now in
    let k = c.key-key.result.now in
    elim c.if-premise-eq0.branch [
      | then-premise-eq0 w ↦ subst (λ (x : Auxiliary). IsAuxiliaryAt a x) (sym (w.auxiliary-is ∙ w.first_auxiliary-auxiliary.ensures)) (first_there a c.args.rule k c.requires.rule c.key-key.ensures.parts)
      | else-premise-eq0 w ↦ subst (λ (x : Auxiliary). IsAuxiliaryAt a x) (sym (w.auxiliary-is ∙ w.second_auxiliary-auxiliary.ensures)) (second_there a c.args.rule k c.requires.rule c.key-key.ensures.parts)
    ]

pub returns-clause-sequent : goal.returns-clause-sequent
returns-clause-sequent c =
    let a = c.args.arena.now in
    let s = sequent_at a c.args.end in
    let k = c.key-key.result.now in
    let named = sym c.rule_formula.ensures ∙ c.in-Some.is in
    let shown = λ (t : Sequent) (e : with_numbers a s c.if-premise-eq0.auxiliary ≡ t).
    subst (λ (x : Sequent). IfOk c.with_formulas.result (λ n. HasSequent c.with_formulas.new.arena n x)) e c.with_formulas.ensures.sequent in
    elim c.if-premise-eq0.branch [
      | then-premise-eq0 w ↦
          let first : c.args.premise ≡ 0 = w.if-premise-eq0.true in
          shown _ (ap (with_numbers a s) (w.auxiliary-is ∙ w.first_auxiliary-auxiliary.ensures) ∙ first_is a s c.args.rule c.in-Some.formula k c.requires.rule c.key-key.ensures named ∙ ap (with_aux s (rule_at a c.args.rule)) (sym first))
      | else-premise-eq0 w ↦
          let second : c.args.premise ≡ 1 = omega (arith, w.if-premise-eq0.false) in
          shown _ (ap (with_numbers a s) (w.auxiliary-is ∙ w.second_auxiliary-auxiliary.ensures) ∙ second_is a s c.args.rule c.in-Some.formula k c.key-key.ensures named ∙ ap (with_aux s (rule_at a c.args.rule)) (sym second))
    ]
