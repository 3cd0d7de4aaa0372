-- A number is passed where its variable is in the set.
use Rattle.std.proofs.Common.{◌≡◌, ◌+◌, inl, inr, sym, ap, ◌∙◌, arith}
use Rattle.std.proofs.lemmas.Bool.{cases_lt}
use Rattle.fol.specs.declared.symbols.Var.TheVariants.{Num}
use Rattle.finite.specs.Finite as set
use Rattle.finite.proofs.Finite.{has-listing}
use Rattle.free_variables.specs.Fresh.{is_among}
use Rattle.exp_extract.proofs.names.next_number.Goals as goal

pub loop-last-preserved : goal.loop-last-preserved
loop-last-preserved c j over under =
    elim (cases_lt j (c.loop-last.last + 1)) [
      | inl before ↦ c.loop-last.invariant j over (omega arith)
      | inr after ↦
          let same : j ≡ c.loop-last.last + 1 = omega arith in
          ap (λ n. is_among (Num n) (set.listing c.args.outside.now)) same
          ∙ (sym (has-listing c.args.outside.now (Num (c.loop-last.last + 1))) ∙ (sym c.has.ensures ∙ c.if-not-has.false))
    ]

pub returns-then-not-has-clause-outside : goal.returns-then-not-has-clause-outside
returns-then-not-has-clause-outside c = sym (has-listing c.args.outside.now (Num (c.loop-last.last + 1))) ∙ (sym c.has.ensures ∙ c.if-not-has.true)

pub returns-then-not-has-clause-between : goal.returns-then-not-has-clause-between
returns-then-not-has-clause-between c = λ j over under. c.loop-last.invariant j over (omega arith)
