-- What the sorted list shows is so of the list.
use Rattle.std.proofs.Common.{◌≡◌, sym, ap, ◌∙◌, subst}
use Rattle.std.specs.Prelude.{Some, None, option_copied}
use Rattle.exp_check.specs.Eigenvariables.{first_pair}
use Rattle.expansion_laws.specs.Eigenvariables.{is_repeated, IsLeast}
use Rattle.expansion_laws.specs.Dependency.{strongs_of}
use Rattle.exp_tree.specs.Reads.{expansion_of}
use Rattle.expansion_laws.proofs.Conditions.{distinct_by}
use Rattle.exp_check.proofs.Repeats.{twice_found}
use Rattle.exp_check.proofs.eigenvariables.eigen_twice.Goals as goal

pub returns-in-Some-clause-least : goal.returns-in-Some-clause-least
returns-in-Some-clause-least c =
    let found : Some c.in_ok-copy-in-Some.field-0 ≡ first_pair c.sort_unstable.new.self.items =
    ap Some c.in_ok-copy-in-Some.ensures ∙ sym (ap option_copied c.in-Some.is) ∙ c.first_repeated.ensures ∙ ap first_pair c.deref.ensures.value in
    subst (λ vs. IsLeast (is_repeated vs) (Some c.in_ok-copy-in-Some.field-0)) c.in_ok-vars.ensures
    (twice_found c.in_ok-vars.vars.items c.sort_unstable.new.self.items (Some c.in_ok-copy-in-Some.field-0) c.sort_unstable.ensures.permutation c.sort_unstable.ensures.sorted found)

pub returns-clause-least : goal.returns-clause-least
returns-clause-least c =
    let found : None ≡ first_pair c.sort_unstable.new.self.items = sym (ap option_copied c.in-None.is) ∙ c.first_repeated.ensures ∙ ap first_pair c.deref.ensures.value in
    subst (λ vs. IsLeast (is_repeated vs) None) c.in_ok-vars.ensures
    (twice_found c.in_ok-vars.vars.items c.sort_unstable.new.self.items None c.sort_unstable.ensures.permutation c.sort_unstable.ensures.sorted found)

pub returns-in-Some-clause-distinct : goal.returns-in-Some-clause-distinct
returns-in-Some-clause-distinct c = distinct_by (strongs_of (expansion_of c.args.exps.now)) (Some c.in_ok-copy-in-Some.field-0) (returns-in-Some-clause-least c)

pub returns-clause-distinct : goal.returns-clause-distinct
returns-clause-distinct c = distinct_by (strongs_of (expansion_of c.args.exps.now)) None (returns-clause-least c)
