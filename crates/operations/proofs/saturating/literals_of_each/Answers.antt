-- One more clause is there.
use Rattle.std.proofs.Common.{◌≡◌, ◌+◌, List, [], ◌∷◌, ◌++◌, take, sym, ap, ◌∙◌}
use Rattle.std.proofs.lemmas.List.{take_more, map-append}
use Rattle.lk_rules.specs.declared.sequent.Sequent.{Sequent}
use Rattle.refutations.specs.declared.clause.Clause.{Clause}
use Rattle.refutations.specs.Clauses.{literals_of}
use Rattle.ground_laws.specs.Steps.{sequents_of}
use Rattle.res_prover.specs.Clauses.{clause_of, clauses_of}
use Rattle.operations.proofs.saturating.literals_of_each.Goals as goal

pub loop-clause-preserved : goal.loop-clause-preserved
loop-clause-preserved c =
    let cs = c.args.clauses.now in
    let i = c.loop-clause.clause-index in
    let d = c.clause-item.result in
    let ls = c.loop-clause.all.items in
    let more : take (i + 1) cs ≡ take i cs ++ d ∷ [] = take_more cs i d c.loop-clause-test.true ∙ ap (λ (e : Clause). take i cs ++ e ∷ []) (sym c.clause-item.is) in
    ap clauses_of c.in_ok-push.ensures.items ∙ (map-append clause_of ls (c.in_ok-literals_in.field-0 ∷ [])
    ∙ (ap (λ (s : Sequent). clauses_of ls ++ s ∷ []) c.in_ok-literals_in.ensures ∙ (ap (λ (ss : List Sequent). ss ++ literals_of d.matrix ∷ []) c.loop-clause.invariant
    ∙ sym (ap sequents_of more ∙ map-append (λ (e : Clause). literals_of e.matrix) (take i cs) (d ∷ [])))))
