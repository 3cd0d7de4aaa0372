-- The first fault.
use Rattle.std.proofs.Common.{sym, subst, ◌∙◌}
use Rattle.expansion_laws.specs.Dependency.{strongs_of}
use Rattle.exp_tree.specs.Reads.{expansion_of}
use Rattle.expansion_laws.specs.Eigenvariables.{is_repeated, is_free_eigenvariable, IsLeast}
use Rattle.expansion_laws.proofs.CheckLaws.{twice, free, cyclic, faultless}
use Rattle.exp_check.proofs.checking.check_vars.Goals as goal

pub returns-in-Some-clause-err : goal.returns-in-Some-clause-err
returns-in-Some-clause-err c =
    let x = expansion_of c.args.exps.now in
    twice x c.in-Some.var (subst (IsLeast (is_repeated (strongs_of x))) c.in-Some.is c.in_ok-var.ensures.least)

pub returns-in-Some-2-clause-err : goal.returns-in-Some-2-clause-err
returns-in-Some-2-clause-err c =
    let x = expansion_of c.args.exps.now in
    let s = c.in_ok-sequent.sequent in
    free x (subst (IsLeast (is_repeated (strongs_of x))) c.in_default.is c.in_ok-var.ensures.least) s c.in_ok-sequent.ensures c.in-Some-2.var
    (subst (IsLeast (is_free_eigenvariable s (strongs_of x))) c.in-Some-2.is c.in_ok-var-2.ensures.least)

pub returns-in-Some-3-clause-err : goal.returns-in-Some-3-clause-err
returns-in-Some-3-clause-err c =
    let x = expansion_of c.args.exps.now in
    let s = c.in_ok-sequent.sequent in
    cyclic x (subst (IsLeast (is_repeated (strongs_of x))) c.in_default.is c.in_ok-var.ensures.least) s c.in_ok-sequent.ensures
    (subst (IsLeast (is_free_eigenvariable s (strongs_of x))) c.in_default-2.is c.in_ok-var-2.ensures.least) c.in-Some-3.vars (sym c.in-Some-3.is ∙ c.in_ok-vars.ensures)

pub returns-clause-ok : goal.returns-clause-ok
returns-clause-ok c =
    let x = expansion_of c.args.exps.now in
    let s = c.in_ok-sequent.sequent in
    faultless x (subst (IsLeast (is_repeated (strongs_of x))) c.in_default.is c.in_ok-var.ensures.least) s c.in_ok-sequent.ensures
    (subst (IsLeast (is_free_eigenvariable s (strongs_of x))) c.in_default-2.is c.in_ok-var-2.ensures.least) (sym c.in-None.is ∙ c.in_ok-vars.ensures)
