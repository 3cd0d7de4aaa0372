-- An input clause that is covered changes nothing, and another one comes to what is kept.
use Rattle.std.proofs.Common.{◌≡◌, ◌∷◌, not, filter, sym, ap, subst, ◌∙◌}
use Rattle.std.specs.List.{All}
use Rattle.clause_laws.specs.Subsumption.{IsClause}
use Rattle.clause_laws.specs.Searching.{subsumes}
use Rattle.clause_laws.specs.Normal.{normal}
use Rattle.clause_laws.proofs.Atomic.{clause_variant}
use Rattle.clause_laws.proofs.Normalised.{normal_variant}
use Rattle.res_prover.specs.declared.kept.Kept.{Kept}
use Rattle.res_prover.specs.Kept.{kept_clauses, is_needless, IsNew}
use Rattle.res_prover.proofs.Adding.{needless-covered, left_out, put_in_front, front_each, front_clauses}
use Rattle.res_prover.proofs.starting.with_input.Goals as goal

pub returns-then-branch : goal.returns-then-branch
returns-then-branch c =
    let d = normal c.args.clause.now in
    let one = c.in_ok-one.one in
    let old = c.args.kept.items in
    let same : one.clause ≡ d = c.in_ok-one.ensures.clause ∙ c.in_ok-clause.ensures in
    let kept = c.as_slice.ensures.value in
    let covered = ap (is_needless old) (sym same) ∙ ap (λ js. is_needless js one.clause) (sym kept) ∙ sym (c.in_ok-is_covered.ensures (subst (λ js. All IsClause (kept_clauses js)) (sym kept) c.requires.kept)) ∙ c.if-branch.true in
    record {
      clauses = sym (left_out (kept_clauses old) d (sym (needless-covered old d) ∙ covered));
      still_new = λ h. h;
      of_atoms = c.requires.kept;
    }

pub returns : goal.returns
returns c =
    let d = normal c.args.clause.now in
    let one = c.in_ok-one.one in
    let old = c.args.kept.items in
    let same : one.clause ≡ d = c.in_ok-one.ensures.clause ∙ c.in_ok-clause.ensures in
    let clause = subst IsClause (sym same) (clause_variant c.args.clause.now d (normal_variant c.args.clause.now) c.requires.clause) in
    let kept = c.as_slice.ensures.value in
    let needed = ap (is_needless old) (sym same) ∙ ap (λ js. is_needless js one.clause) (sym kept) ∙ sym (c.in_ok-is_covered.ensures (subst (λ js. All IsClause (kept_clauses js)) (sym kept) c.requires.kept)) ∙ c.if-branch.false in
    let made = subst (λ js. c.in_ok-front.front.items ≡ one ∷ filter (λ (k : Kept). not (subsumes one.clause k.clause)) js) c.as_slice-2.ensures.value (c.in_ok-front.ensures clause) in
    record {
      clauses = put_in_front old c.in_ok-front.front.items one d same made needed;
      still_new = λ h. front_each IsNew old c.in_ok-front.front.items one made c.in_ok-one.ensures.is_new h;
      of_atoms = front_clauses IsClause old c.in_ok-front.front.items one made clause c.requires.kept;
    }
