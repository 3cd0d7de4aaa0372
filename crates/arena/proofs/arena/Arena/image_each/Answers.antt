-- One more image stands at its number.
use Rattle.std.proofs.Common.{◌≡◌, ◌+◌, ◌<◌, ℕ, List, [], ◌∷◌, ◌++◌, map, set, take, length, get_or, sym, ap, ◌∙◌, subst, arith}
use Rattle.std.specs.FinMap as fin
use Rattle.std.specs.List.{All}
use Rattle.std.proofs.lemmas.Grind.{drop_more_same}
use Rattle.std.proofs.lemmas.List.{map-append, drop-set-lt, length-set, take_more_set}
use Rattle.fol.specs.Syntax.{Formula}
use Rattle.substitution.specs.Image.{image}
use Rattle.arena_cells.specs.Standing.{formula_at, map_at, IsFormulaAt}
use Rattle.arena_cells.proofs.Staying.{formula_stays, formula_there}
use Rattle.arena.proofs.Results.{map_stays}
use Rattle.arena.proofs.SideLaws.{same_at, each_there, each_more, map_taken}
use Rattle.arena.proofs.arena.Arena.image_each.Goals as goal

pub image-requires-clause-formula : goal.image-requires-clause-formula
image-requires-clause-formula c =
    let xs = c.loop-place.images.items in
    let ns = c.args.numbers.items in
    let place = c.loop-place.place in
    let x = c.index.result.now in
    let within : place < length ns = omega (arith, c.loop-place.invariant.length) in
    subst (IsFormulaAt c.loop-place.self) (sym (c.index.ensures ∙ same_at xs ns place x c.loop-place.invariant.rest))
    (formula_there c.args.self.now c.loop-place.self c.loop-place.invariant.grown (get_or ns place x) (c.requires.formulas place x within))

pub loop-place-preserved : goal.loop-place-preserved
loop-place-preserved c =
    let a = c.args.self.now in
    let b = c.loop-place.self in
    let d = c.image.new.self in
    let xs = c.loop-place.images.items in
    let ns = c.args.numbers.items in
    let place = c.loop-place.place in
    let so_far = c.loop-place.invariant in
    let within : place < length ns = omega (arith, so_far.length) in
    let inside : place < length xs = omega (arith, so_far.length) in
    let further : place < place + 1 = omega arith in
    let v = c.in_ok-image.image in
    let x = c.index.result.now in
    let g : Formula → Formula = image (fin.get (map_at a c.args.map)) in
    let made : Formula = image (fin.get (map_at b c.args.map)) (formula_at b x) in
    let same : made ≡ g (formula_at a (get_or ns place x)) =
    (λ i. image (fin.get (map_stays a b so_far.grown c.args.map c.requires.map i)) (formula_at b ((c.index.ensures ∙ same_at xs ns place x so_far.rest) i)))
    ∙ ap g (formula_stays a b so_far.grown (get_or ns place x) (c.requires.formulas place x within)) in
    let stored : take (place + 1) (set xs place v) ≡ take place xs ++ v ∷ [] = take_more_set xs place v inside in
    record {
      grown = λ n t h. c.image.ensures.grown n t (so_far.grown n t h);
      there = subst (λ (ks : List ℕ). All (IsFormulaAt d) ks) (sym stored) (each_there b d (take place xs) v made c.image.ensures.grown so_far.there c.in_ok-image.ensures.formula);
      images =
          ap (map (formula_at d)) stored
          ∙ each_more b d (take place xs) v made c.image.ensures.grown so_far.there c.in_ok-image.ensures.formula
          ∙ (λ i. so_far.images i ++ same i ∷ [])
          ∙ sym (ap (map g) (map_taken (formula_at a) ns place x within) ∙ map-append g (map (formula_at a) (take place ns)) (formula_at a (get_or ns place x) ∷ []));
      rest = drop-set-lt (place + 1) xs place v further ∙ drop_more_same xs ns place so_far.rest;
      length = length-set xs place v ∙ so_far.length;
    }
