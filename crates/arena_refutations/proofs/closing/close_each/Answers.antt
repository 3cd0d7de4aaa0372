-- One clause more is closed.
use Rattle.std.proofs.Common.{◌≡◌, ◌+◌, ◌<◌, ℕ, List, [], ◌∷◌, ◌++◌, map, take, length, sym, ap, ◌∙◌, subst, arith}
use Rattle.std.specs.List.{All}
use Rattle.std.proofs.lemmas.List.{take_more, map-append}
use Rattle.std.proofs.lemmas.List.Elements.{All-push}
use Rattle.fol.specs.Syntax.{Formula}
use Rattle.fol.specs.Formed.{IsFormed}
use Rattle.arena_cells.specs.Standing.{formula_at, IsFormulaAt}
use Rattle.arena.proofs.SideLaws.{each_there, each_more}
use Rattle.refutations.specs.declared.clause.Clause.{Clause}
use Rattle.refutations.specs.Clauses.{closure_of}
use Rattle.arena_refutations.proofs.closing.close_each.Goals as goal

pub loop-clause-preserved : goal.loop-clause-preserved
loop-clause-preserved c =
    let a = c.loop-clause.arena in
    let b = c.close.new.arena in
    let i = c.loop-clause.clause-index in
    let h = c.loop-clause.invariant in
    let within : i < length c.args.clauses.now = omega arith in
    let done : List Clause = take i c.args.clauses.now in
    let more : take (i + 1) c.args.clauses.now ≡ done ++ c.clause-item.result ∷ [] =
    take_more c.args.clauses.now i c.clause-item.result within ∙ ap (λ (d : Clause). done ++ d ∷ []) (sym c.clause-item.is) in
    record {
      grown = λ n t s. c.close.ensures.grown n t (h.grown n t s);
      there =
          subst (λ (ns : List ℕ). All (IsFormulaAt b) ns) (sym c.in_ok-push.ensures.items)
          (each_there a b c.loop-clause.numbers.items c.in_ok-close.field-0 (closure_of c.clause-item.result) c.close.ensures.grown h.there c.in_ok-close.ensures.closure);
      closures =
          ap (map (formula_at b)) c.in_ok-push.ensures.items
          ∙ each_more a b c.loop-clause.numbers.items c.in_ok-close.field-0 (closure_of c.clause-item.result) c.close.ensures.grown h.there c.in_ok-close.ensures.closure
          ∙ ap (λ (fs : List Formula). fs ++ closure_of c.clause-item.result ∷ []) h.closures
          ∙ sym (ap (map closure_of) more ∙ map-append closure_of done (c.clause-item.result ∷ []));
      formed =
          subst (λ (ds : List Clause). All (λ d. IsFormed (closure_of d)) ds) (sym more)
          (All-push (λ (d : Clause). IsFormed (closure_of d)) done c.clause-item.result h.formed c.in_ok-close.ensures.formed);
    }
