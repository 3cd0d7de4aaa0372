-- What is known stays known in a larger arena.
use Rattle.arena_flat.proofs.Growth.{flat_stays, on_ok}
use Rattle.arena_flat.proofs.terms.+copy_term.Goals as goal

pub copy_new_term-returns-in-Free-clause-flattened : goal.copy_new_term-returns-in-Free-clause-flattened
copy_new_term-returns-in-Free-clause-flattened t c =
    on_ok c.import_variable.result (flat_stays c.args.from.now c.args.to.now c.import_variable.new.self c.args.flattened.now c.import_variable.ensures.grown c.requires.flattened)

pub copy_new_term-returns-in-Bound-clause-flattened : goal.copy_new_term-returns-in-Bound-clause-flattened
copy_new_term-returns-in-Bound-clause-flattened t c = on_ok c.put.result (flat_stays c.args.from.now c.args.to.now c.put.new.self c.args.flattened.now c.put.ensures.grown c.requires.flattened)

pub copy_new_term-returns-in_ok-terms-in-App-clause-flattened : goal.copy_new_term-returns-in_ok-terms-in-App-clause-flattened
copy_new_term-returns-in_ok-terms-in-App-clause-flattened t c =
    on_ok c.put-in-App.result (flat_stays c.args.from.now c.copy_terms.new.to c.put-in-App.new.self c.copy_terms.new.flattened c.put-in-App.ensures.grown c.in_ok-terms-in-App.ensures.flattened)

pub copy_new_terms-returns-in-Nil-clause-flattened : goal.copy_new_terms-returns-in-Nil-clause-flattened
copy_new_terms-returns-in-Nil-clause-flattened t c = on_ok c.put.result (flat_stays c.args.from.now c.args.to.now c.put.new.self c.args.flattened.now c.put.ensures.grown c.requires.flattened)

pub copy_new_terms-returns-in_ok-rest-in-Cons-clause-flattened : goal.copy_new_terms-returns-in_ok-rest-in-Cons-clause-flattened
copy_new_terms-returns-in_ok-rest-in-Cons-clause-flattened t c =
    on_ok c.put-in-Cons.result (flat_stays c.args.from.now c.copy_terms.new.to c.put-in-Cons.new.self c.copy_terms.new.flattened c.put-in-Cons.ensures.grown c.in_ok-rest-in-Cons.ensures.flattened)
