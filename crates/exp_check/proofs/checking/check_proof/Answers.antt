-- By the laws.
use Rattle.std.proofs.Common.{arith, sym, ap, subst, ◌∙◌}
use Rattle.std.proofs.lemmas.Grind.{common_steps}
use Rattle.std.proofs.lemmas.List.Sums.{AllPass-from_list_all}
use Rattle.lk_rules.specs.declared.sequent.Side.TheVariants.{Left, Right}
use Rattle.expansion_laws.specs.Proofs.{stands}
use Rattle.exp_tree.specs.Reads.{expansion_of}
use Rattle.expansion_laws.specs.Checking.{searched, checking}
use Rattle.exp_check.specs.Checking.{Checks}
use Rattle.exp_check.proofs.ShortAnswers.{short}
use Rattle.exp_check.proofs.checking.check_proof.Goals as goal

pub returns-in_err-check_vars-clause-exact : goal.returns-in_err-check_vars-clause-exact
returns-in_err-check_vars-clause-exact c = grind (arith, common_steps)

pub returns-in_err-check_vars-clause-complete : goal.returns-in_err-check_vars-clause-complete
returns-in_err-check_vars-clause-complete c =
    let x = expansion_of c.args.exps in
    λ h. short x c.from_residual.result (checking x c.args.budget) (returns-in_err-check_vars-clause-exact c) (c.checks.ensures.complete x c.args.budget h)

pub returns-in_err-check_vars-clause-cycle : goal.returns-in_err-check_vars-clause-cycle
returns-in_err-check_vars-clause-cycle c =
    let x = expansion_of c.args.exps in
    λ vs e. c.checks.ensures.cyclic x c.args.budget vs (subst (λ r. Checks r (checking x c.args.budget)) e (returns-in_err-check_vars-clause-exact c))

pub returns-in_err-check_vars-clause-falsified : goal.returns-in_err-check_vars-clause-falsified
returns-in_err-check_vars-clause-falsified c =
    let x = expansion_of c.args.exps in
    λ a e. (c.checks.ensures.falsified x c.args.budget a c.known.ensures.left c.known.ensures.right (subst (λ r. Checks r (checking x c.args.budget)) e (returns-in_err-check_vars-clause-exact c))).0

pub returns-in_err-check_vars-clause-atoms : goal.returns-in_err-check_vars-clause-atoms
returns-in_err-check_vars-clause-atoms c =
    let x = expansion_of c.args.exps in
    λ a e. (c.checks.ensures.falsified x c.args.budget a c.known.ensures.left c.known.ensures.right (subst (λ r. Checks r (checking x c.args.budget)) e (returns-in_err-check_vars-clause-exact c))).1

pub returns-in_err-check_deep-clause-exact : goal.returns-in_err-check_deep-clause-exact
returns-in_err-check_deep-clause-exact c =
    subst (Checks c.from_residual-in_err-check_deep.result) (sym (c.in_ok-check_vars.ensures.ok c.args.budget)) (grind (arith, common_steps))

pub returns-in_err-check_deep-clause-complete : goal.returns-in_err-check_deep-clause-complete
returns-in_err-check_deep-clause-complete c =
    let x = expansion_of c.args.exps in
    λ h. short x c.from_residual-in_err-check_deep.result (checking x c.args.budget) (returns-in_err-check_deep-clause-exact c) (c.checks.ensures.complete x c.args.budget h)

pub returns-in_err-check_deep-clause-cycle : goal.returns-in_err-check_deep-clause-cycle
returns-in_err-check_deep-clause-cycle c =
    let x = expansion_of c.args.exps in
    λ vs e. c.checks.ensures.cyclic x c.args.budget vs (subst (λ r. Checks r (checking x c.args.budget)) e (returns-in_err-check_deep-clause-exact c))

pub returns-in_err-check_deep-clause-falsified : goal.returns-in_err-check_deep-clause-falsified
returns-in_err-check_deep-clause-falsified c =
    let x = expansion_of c.args.exps in
    λ a e. (c.checks.ensures.falsified x c.args.budget a c.known.ensures.left c.known.ensures.right (subst (λ r. Checks r (checking x c.args.budget)) e (returns-in_err-check_deep-clause-exact c))).0

pub returns-in_err-check_deep-clause-atoms : goal.returns-in_err-check_deep-clause-atoms
returns-in_err-check_deep-clause-atoms c =
    let x = expansion_of c.args.exps in
    λ a e. (c.checks.ensures.falsified x c.args.budget a c.known.ensures.left c.known.ensures.right (subst (λ r. Checks r (checking x c.args.budget)) e (returns-in_err-check_deep-clause-exact c))).1

pub new-requires : goal.new-requires
new-requires c =
    let x = expansion_of c.args.exps in
    (c.checks.ensures.proof x x c.args.budget c.known.ensures.left c.known.ensures.right
    (AllPass-from_list_all (stands Left) c.args.exps.left c.requires.stand.left) (AllPass-from_list_all (stands Right) c.args.exps.right c.requires.stand.right)
    (c.in_ok-check_vars.ensures.ok c.args.budget ∙ ap (searched x) c.in_ok-check_deep.ensures.ok.1)).1
