-- The bindings that are needed are put in one by one.
use Rattle.std.proofs.Common.{◌≡◌, ◌+◌, List, [], take, Some, sym, ap, ◌∙◌, subst, arith}
use Rattle.std.proofs.lemmas.Grind.{common_steps}
use Rattle.std.specs.FinMap as fin
use Rattle.fol.specs.declared.symbols.Var.{Var}
use Rattle.fol.specs.Syntax.{Term, free}
use Rattle.substitution.specs.Image.{image_term, IsFormedMap}
use Rattle.substitution.specs.Maps.{Map}
use Rattle.substitution.proofs.Restricting.{HasKept, none_kept, bound_at, is_kept, kept_test, one_kept, none_more, all_kept, restricted_agrees, restricted_none, restricted_formed}
use Rattle.substitution.proofs.maps.Subst.restrict.Goals as goal
use Rattle.substitution.proofs.maps.Subst.restrict.Goals.{then-is_needed+in_ok-copy+in_ok-copy-2+in_ok-set, else-is_needed}

pub loop-var-init : goal.loop-var-init
loop-var-init c = subst (λ n. HasKept c.args.self.now c.args.vars.now [] n) (sym c.new-needed.ensures) (none_kept c.args.self.now c.args.vars.now)

pub loop-var-preserved : goal.loop-var-preserved
loop-var-preserved c =
    let es : List (Var × Term) = c.as_slice-var-items.result.now in
    let bound : fin.get c.args.self.now c.loop-var-item.result.0 ≡ Some c.loop-var-item.result.1 =
    bound_at c.args.self.now es c.as_slice-var-items.ensures c.loop-var.var-index c.loop-var-item.result c.loop-var-test.true c.loop-var-item.is in
    let needed : is_kept c.args.self.now c.args.vars.now c.loop-var-item.result.0 ≡ c.is_needed.result = kept_test c.args.self.now c.args.vars.now c.loop-var-item.result bound c.is_needed.result c.is_needed.ensures in
    elim c.if-is_needed.branch [
      | then-is_needed+in_ok-copy+in_ok-copy-2+in_ok-set w ↦
          subst (λ n. HasKept c.args.self.now c.args.vars.now (take (c.loop-var.var-index + 1) es) n)
          (sym (w.needed-is ∙ w.in_ok-set.ensures.ok ∙ λ i. fin.insert c.loop-var.needed (w.in_ok-copy.ensures i) (w.in_ok-copy-2.ensures i)))
          (one_kept c.args.self.now c.args.vars.now es c.loop-var.var-index c.loop-var-item.result c.loop-var.needed c.loop-var-test.true c.loop-var-item.is c.loop-var.invariant bound (needed ∙ w.if-is_needed.true))
      | else-is_needed w ↦
          subst (λ n. HasKept c.args.self.now c.args.vars.now (take (c.loop-var.var-index + 1) es) n) (sym w.needed-is)
          (none_more c.args.self.now c.args.vars.now es c.loop-var.var-index c.loop-var-item.result c.loop-var.needed c.loop-var-test.true c.loop-var-item.is c.loop-var.invariant (needed ∙ w.if-is_needed.false))
    ]

pub returns-clause-value : goal.returns-clause-value
returns-clause-value c =
    let whole : take c.loop-var.var-index c.as_slice-var-items.result.now ≡ fin.entries c.args.self.now = grind (arith, common_steps, c.as_slice-var-items.ensures) in
    all_kept c.args.self.now c.args.vars.now c.loop-var.needed (subst (λ es. HasKept c.args.self.now c.args.vars.now es c.loop-var.needed) whole c.loop-var.invariant)

pub returns-clause-agrees : goal.returns-clause-agrees
returns-clause-agrees c v h = ap (λ n. image_term (fin.get n) (free v)) (returns-clause-value c) ∙ restricted_agrees c.args.self.now c.args.vars.now v h

pub returns-clause-needless : goal.returns-clause-needless
returns-clause-needless c same = returns-clause-value c ∙ restricted_none c.args.self.now c.args.vars.now same

pub returns-clause-formed : goal.returns-clause-formed
returns-clause-formed c formed = subst (λ (n : Map). IsFormedMap (fin.get n)) (sym (returns-clause-value c)) (restricted_formed c.args.self.now c.args.vars.now formed)
