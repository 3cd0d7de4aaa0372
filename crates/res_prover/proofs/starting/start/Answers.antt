-- One clause more.
use Rattle.std.proofs.Common.{◌≡◌, ◌+◌, ◌∷◌, suc, drop, map, sym, ap, subst, ◌∙◌, drop-cons, arith}
use Rattle.std.specs.List.{All}
use Rattle.std.proofs.lemmas.List.Elements.{All-nil}
use Rattle.clause_laws.specs.Subsumption.{IsClause}
use Rattle.clause_laws.specs.Normal.{normal}
use Rattle.clause_laws.specs.Keeping.{with_each}
use Rattle.res_prover.specs.Kept.{kept_clauses, IsNew}
use Rattle.res_prover.proofs.starting.start.Goals as goal

pub with_input-requires-clause-clause : goal.with_input-requires-clause-clause
with_input-requires-clause-clause c = subst IsClause (sym c.index-clauses-place.is) (c.requires c.loop-place.place c.index-clauses-place.result c.loop-place-test.true)

pub loop-place-init : goal.loop-place-init
loop-place-init c = record {
  clauses = ap (λ ks. with_each (kept_clauses ks) (map normal c.args.clauses.now)) c.new-kept.ensures.items;
  all_new = subst (All IsNew) (sym c.new-kept.ensures.items) (All-nil IsNew);
  of_atoms = subst (λ ks. All IsClause (kept_clauses ks)) (sym c.new-kept.ensures.items) (All-nil IsClause);
}

pub loop-place-preserved : goal.loop-place-preserved
loop-place-preserved c =
    let cs = c.args.clauses.now in
    let n = c.loop-place.place in
    let d = c.index-clauses-place.result in
    let front : drop n cs ≡ d ∷ drop (suc n) cs = drop-cons cs n d c.loop-place-test.true ∙ ap (λ e. e ∷ drop (suc n) cs) (sym c.index-clauses-place.is) in
    let next : n + 1 ≡ suc n = omega arith in
    let old = c.loop-place.kept.items in
    record {
      clauses =
          ap (λ m. with_each (kept_clauses c.in_ok-kept.kept.items) (map normal (drop m cs))) next
          ∙ ap (λ ks. with_each ks (map normal (drop (suc n) cs))) c.in_ok-kept.ensures.clauses
          ∙ sym (ap (λ ds. with_each (kept_clauses old) (map normal ds)) front)
          ∙ c.loop-place.invariant.clauses;
      all_new = c.in_ok-kept.ensures.still_new c.loop-place.invariant.all_new;
      of_atoms = c.in_ok-kept.ensures.of_atoms;
    }
