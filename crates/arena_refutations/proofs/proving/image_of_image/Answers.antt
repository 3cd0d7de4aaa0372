-- The second image is that of the first.
use Rattle.std.proofs.Common.{◌≡◌, ℕ, ap, ◌∙◌}
use Rattle.std.specs.Prelude.{Some}
use Rattle.std.specs.FinMap as fin
use Rattle.fol.specs.Syntax.{free}
use Rattle.substitution.specs.Image.{image_term}
use Rattle.arena_cells.specs.Items.{term}
use Rattle.arena_cells.specs.Standing.{Extends, HasTerm, map_at, term_at, variable_at}
use Rattle.arena_cells.proofs.Staying.{is_term}
use Rattle.arena_cells.proofs.Reading.{if_ok}
use Rattle.arena.proofs.Results.{map_stays}
use Rattle.arena_refutations.proofs.proving.image_of_image.Goals as goal

pub returns-clause-term : goal.returns-clause-term
returns-clause-term c =
    let a = c.args.arena.now in
    let b = c.image_of_term.new.self in
    let first : term_at b c.in_ok-term.term ≡ image_term (fin.get (map_at a c.args.first)) (free (variable_at a c.args.var)) =
    is_term b _ _ c.in_ok-term.ensures.term ∙ ap (image_term (fin.get (map_at a c.args.first))) (is_term a _ _ c.requires.var) in
    let grown : Extends a b = c.image_of_term.ensures.grown in
    if_ok c.image_of_term-2.result _ (λ (n : ℕ). HasTerm c.image_of_term-2.new.self n (image_term (fin.get (map_at a c.args.second)) (image_term (fin.get (map_at a c.args.first)) (free (variable_at a c.args.var)))))
    (λ n h. h ∙ (λ i. Some (term (image_term (fin.get (map_stays a b grown c.args.second c.requires.second i)) (first i))))) c.image_of_term-2.ensures.term
