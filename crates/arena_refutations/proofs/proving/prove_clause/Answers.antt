-- The end of the proof is that of the image.
use Rattle.std.proofs.Common.{ℕ, map as each, ◌∙◌}
use Rattle.std.specs.Prelude.{Some}
use Rattle.std.specs.FinMap as fin
use Rattle.fol.specs.declared.symbols.Var.{Var}
use Rattle.fol.specs.Syntax.{free}
use Rattle.substitution.specs.Image.{image_term}
use Rattle.lk_rules.specs.Sequents.{union_sequent, image_sequent}
use Rattle.arena_cells.specs.Items.{tree}
use Rattle.arena_cells.specs.Standing.{Extends, HasTree, map_at, sequent_at, formula_at}
use Rattle.arena_cells.proofs.Staying.{is_sequent, formula_stays}
use Rattle.arena_cells.proofs.Reading.{if_ok}
use Rattle.arena.proofs.Results.{map_stays}
use Rattle.image_laws.specs.Terms.{over_terms}
use Rattle.arena_refutations.proofs.proving.prove_clause.Goals as goal

pub returns-clause-tree : goal.returns-clause-tree
returns-clause-tree c =
    let a = c.args.arena.now in
    let b = c.image_end.new.arena in
    let grown : Extends a b = c.image_end.ensures.grown in
    if_ok c.over_images.result _
    (λ (n : ℕ). HasTree c.over_images.new.arena n
    (over_terms (union_sequent (sequent_at a c.args.closures) (image_sequent (fin.get (map_at a c.args.map)) (sequent_at a c.args.literals))) (each (λ (x : Var). image_term (fin.get (map_at a c.args.map)) (free x)) c.args.vars.now) (formula_at a c.args.closure)))
    (λ n h. h ∙ (λ i. Some (tree (over_terms (is_sequent b _ _ c.in_ok-end.ensures.end i) (each (λ (x : Var). image_term (fin.get (map_stays a b grown c.args.map c.requires.map i)) (free x)) c.args.vars.now) (formula_stays a b grown c.args.closure c.requires.closure i)))))
    c.over_images.ensures.tree
