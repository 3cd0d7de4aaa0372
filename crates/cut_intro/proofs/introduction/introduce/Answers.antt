-- What is found so far decides.
use Rattle.std.proofs.Common.{Option, None, Err, sym, ap, subst, ◌∙◌, arith}
use Rattle.std.proofs.lemmas.Result.{err_from_is_err_and}
use Rattle.proof_trees.specs.Trees.{concl, quants}
use Rattle.introduction_laws.specs.declared.fault.IntroFault.TheVariants.{TooMany}
use Rattle.delta_table.specs.declared.candidates.Candidate.{Candidate}
use Rattle.cut_intro.specs.Introducing.{ChoosesBelow}
use Rattle.cut_intro.proofs.IntroductionOrder.{too_many, none_below, made_shorter, made_fault}
use Rattle.cut_intro.proofs.Readiness.{with_one_cut}
use Rattle.cut_intro.proofs.FormedInstances.{instances_formed}
use Rattle.cut_intro.proofs.introduction.introduce.Goals as goal

pub returns-then-tuples-gt-MAX_TUPLES-clause-exact : goal.returns-then-tuples-gt-MAX_TUPLES-clause-exact
returns-then-tuples-gt-MAX_TUPLES-clause-exact g c = too_many c.args.width c.args.proof.now.tree c.args.budget c.in_ok-instances.instances c.in_ok-instances.ensures.exact (omega (arith, c.count-tuples.ensures)) ∙ ap (λ k. Err (TooMany k)) (sym c.count-tuples.ensures)

pub returns-in_err-made-in-Some-clause-exact : goal.returns-in_err-made-in-Some-clause-exact
returns-in_err-made-in-Some-clause-exact g c =
    let picked = subst (λ (o : Option Candidate). ChoosesBelow o c.args.width (quants c.args.proof.now.tree) c.in_ok-instances.instances) c.in-Some.is c.in_ok-candidate.ensures in
    let p = err_from_is_err_and c.from_residual-in_err-made-in-Some.result c.from_residual-in_err-made-in-Some.ensures.1 in
    rw (p.1, p.2) (made_fault c.args.width c.args.proof.now.tree c.args.budget c.in_ok-instances.instances c.in_ok-instances.ensures.exact (omega (arith, c.count-tuples.ensures)) c.in-Some.candidate.values picked.0 picked.1 c.in_err-made-in-Some.field-0.0 (c.in_err-made-in-Some.ensures.made c.args.width picked.2))

pub returns-in-Some-clause-exact : goal.returns-in-Some-clause-exact
returns-in-Some-clause-exact g c =
    let picked = subst (λ (o : Option Candidate). ChoosesBelow o c.args.width (quants c.args.proof.now.tree) c.in_ok-instances.instances) c.in-Some.is c.in_ok-candidate.ensures in
    made_shorter c.args.width c.args.proof.now.tree c.args.budget c.in_ok-instances.instances c.in_ok-instances.ensures.exact (omega (arith, c.count-tuples.ensures)) c.in-Some.candidate.values picked.0 picked.1 c.in_ok-made-in-Some.made (c.in_ok-made-in-Some.ensures.made c.args.width picked.2)

pub returns-in-Some-clause-one_cut : goal.returns-in-Some-clause-one_cut
returns-in-Some-clause-one_cut g c =
    let picked = subst (λ (o : Option Candidate). ChoosesBelow o c.args.width (quants c.args.proof.now.tree) c.in_ok-instances.instances) c.in-Some.is c.in_ok-candidate.ensures in
    let made = c.in_ok-made-in-Some.ensures.made c.args.width picked.2 in
    let one = with_one_cut (concl c.args.proof.now.tree) c.in_ok-instances.instances c.in_ok-instances.ensures.proof c.args.width c.in-Some.candidate.values picked.2.occurs c.in_ok-made-in-Some.made.tree made.2 in
    one.one_cut

pub returns-in-Some-clause-fewer : goal.returns-in-Some-clause-fewer
returns-in-Some-clause-fewer g c =
    let picked = subst (λ (o : Option Candidate). ChoosesBelow o c.args.width (quants c.args.proof.now.tree) c.in_ok-instances.instances) c.in-Some.is c.in_ok-candidate.ensures in
    let made = c.in_ok-made-in-Some.ensures.made c.args.width picked.2 in
    let one = with_one_cut (concl c.args.proof.now.tree) c.in_ok-instances.instances c.in_ok-instances.ensures.proof c.args.width c.in-Some.candidate.values picked.2.occurs c.in_ok-made-in-Some.made.tree made.2 in
    omega (arith, one.inferences, picked.1)

pub returns-clause-exact : goal.returns-clause-exact
returns-clause-exact g c =
    let left = subst (λ (o : Option Candidate). ChoosesBelow o c.args.width (quants c.args.proof.now.tree) c.in_ok-instances.instances) c.in-None.is c.in_ok-candidate.ensures in
    none_below c.args.width c.args.proof.now.tree c.args.budget c.in_ok-instances.instances c.in_ok-instances.ensures.exact (omega (arith, c.count-tuples.ensures)) left

pub returns-in-Some-clause-instances : goal.returns-in-Some-clause-instances
returns-in-Some-clause-instances g c = instances_formed c.args.proof.now.tree c.args.budget c.in_ok-instances.instances c.in_ok-instances.ensures.exact c.in_ok-instances.ensures.proof

pub returns-clause-instances : goal.returns-clause-instances
returns-clause-instances g c = instances_formed c.args.proof.now.tree c.args.budget c.in_ok-instances.instances c.in_ok-instances.ensures.exact c.in_ok-instances.ensures.proof
