-- The map is composed for one variable more.
use Rattle.std.proofs.Common.{◌≡◌, ℕ, true, List, ◌∷◌, map as each, sym, ap, subst, ◌∙◌, arith}
use Rattle.std.specs.Prelude.{Option, Some, IfOk}
use Rattle.std.specs.List.{All, list_any}
use Rattle.std.specs.Ordering.{eq_by_cmp}
use Rattle.std.specs.FinMap as fin
use Rattle.std.proofs.lemmas.List.Elements.{All-head, All-tail}
use Rattle.fol.specs.declared.symbols.Var.{Var}
use Rattle.fol.specs.Syntax.{Term, free}
use Rattle.fol.specs.Order.{var_cmp}
use Rattle.substitution.specs.Image.{image_term, IsFormedMap}
use Rattle.substitution.specs.Maps.{Map}
use Rattle.substitution.proofs.ImageLaws.{formed_empty, formed_insert, image-empty_term}
use Rattle.arena_cells.specs.Items.{Item, term}
use Rattle.arena_cells.specs.Standing.{Extends, HasTerm, map_at, term_at, variable_at, IsVariableAt, IsMapAt}
use Rattle.arena_cells.proofs.Staying.{is_term, is_map, variable_stays, variable_there}
use Rattle.arena_cells.proofs.Reading.{if_ok}
use Rattle.arena.proofs.Results.{map_stays}
use Rattle.image_laws.proofs.Composed.{formed_moved, IsComposed, composed_same, composed_others, composed_from, stays_composed, bound_composed}
use Rattle.arena_refutations.proofs.proving.+composed.Goals as goal

-- the first variable
first_there : (a : List Item) (ns : List ℕ) (n : ℕ) (rest : List ℕ) → ns ≡ n ∷ rest → All (IsVariableAt a) ns → IsVariableAt a n
first_there a ns n rest is h = All-head (IsVariableAt a) n rest (subst (All (IsVariableAt a)) is h)

-- what stands in a larger arena

module _ (a b : List Item) (grown : Extends a b) where
  image_there : (d : List Item) (first second var n : ℕ) → IsMapAt a first → IsMapAt a second → IsVariableAt a var
      → HasTerm d n (image_term (fin.get (map_at b second)) (image_term (fin.get (map_at b first)) (free (variable_at b var))))
      → HasTerm d n (image_term (fin.get (map_at a second)) (image_term (fin.get (map_at a first)) (free (variable_at a var))))
  image_there d first second var n one two there h =
      h ∙ λ i. Some (term (image_term (fin.get (map_stays a b grown second two i)) (image_term (fin.get (map_stays a b grown first one i)) (free (variable_stays a b grown var there i)))))

  composed_there : (g h : Var → Option Term) (xs : List Var) (n : ℕ) → IsMapAt a n → IsComposed g h xs (map_at a n) → IsComposed g h xs (map_at b n)
  composed_there g h xs n there is = subst (λ (m : Map). IsComposed g h xs m) (sym (map_stays a b grown n there)) is

pub returns-in_default-clause-formed : goal.returns-in_default-clause-formed
returns-in_default-clause-formed t c =
    if_ok c.no_binding.result _ (λ (n : ℕ). IsFormedMap (fin.get (map_at c.no_binding.new.self n)))
    (λ n h. subst (λ (m : Map). IsFormedMap (fin.get m)) (sym (is_map c.no_binding.new.self n _ h)) formed_empty) c.no_binding.ensures.map

pub composed-requires : goal.composed-requires
composed-requires t c = (
  omega (arith, c.in-Some.ensures.cases.1),
  (
    c.requires.first,
    (
      c.requires.second,
      (
        c.requires.first_formed,
        (c.requires.second_formed, All-tail (IsVariableAt c.args.arena.now) c.in-Some.var.now c.in-Some.rest.now (subst (All (IsVariableAt c.args.arena.now)) c.in-Some.ensures.cases.0 c.requires.vars)),
      ),
    ),
  ),
)

pub returns-in_default-clause-others : goal.returns-in_default-clause-others
returns-in_default-clause-others t c =
    if_ok c.no_binding.result _ _
    (λ n h v e. subst (λ (m : Map). image_term (fin.get m) (free v) ≡ free v) (sym (is_map c.no_binding.new.self n _ h)) (image-empty_term (free v))) c.no_binding.ensures.map

pub returns-then-term-var-clause-same : goal.returns-then-term-var-clause-same
returns-then-term-var-clause-same t c =
    let a = c.args.arena.now in
    let b = c.composed.new.arena in
    let d = c.image_of_image.new.arena in
    let g = fin.get (map_at a c.args.first) in
    let h = fin.get (map_at a c.args.second) in
    let x = variable_at a c.in-Some.var.now in
    let xs = each (variable_at a) c.in-Some.rest.now in
    let grown : Extends a b = c.composed.ensures.grown in
    let further : Extends b d = c.image_of_image.ensures.grown in
    let there = first_there a c.args.vars.now c.in-Some.var.now c.in-Some.rest.now c.in-Some.ensures.cases.0 c.requires.vars in
    let image = image_there a b grown d c.args.first c.args.second c.in-Some.var.now c.in_ok-term.term c.requires.first c.requires.second there c.in_ok-term.ensures.term in
    let stays : image_term h (image_term g (free x)) ≡ free x = sym (is_term d _ _ image) ∙ ap (term_at d) c.if-term-var.true ∙ is_term d _ _ (further _ _ (grown _ _ there)) in
    let rest = composed_there b d further g h xs c.in_ok-others.others c.in_ok-others.ensures.map (composed_from g h xs _ c.in_ok-others.ensures.same c.in_ok-others.ensures.others) in
    subst (λ (ns : List ℕ). (v : Var) → list_any (eq_by_cmp var_cmp v) (each (variable_at a) ns) ≡ true → image_term h (image_term g (free v)) ≡ image_term (fin.get (map_at d c.in_ok-others.others)) (free v)) (sym c.in-Some.ensures.cases.0)
    (composed_same g h (x ∷ xs) _ (stays_composed g h xs x _ rest stays))

pub with_binding-requires-clause-variable : goal.with_binding-requires-clause-variable
with_binding-requires-clause-variable t c =
    variable_there c.args.arena.now c.image_of_image.new.arena (λ n x h. c.image_of_image.ensures.grown n x (c.composed.ensures.grown n x h)) c.in-Some.var.now
    (first_there c.args.arena.now c.args.vars.now c.in-Some.var.now c.in-Some.rest.now c.in-Some.ensures.cases.0 c.requires.vars)

-- the map with a binding more

bound : (t : ℕ) (c : goal.After-with_binding t) → IfOk c.with_binding.result (λ (n : ℕ). IsComposed (fin.get (map_at c.args.arena.now c.args.first)) (fin.get (map_at c.args.arena.now c.args.second)) (each (variable_at c.args.arena.now) c.args.vars.now) (map_at c.with_binding.new.self n)
    × IsFormedMap (fin.get (map_at c.with_binding.new.self n)))
bound t c =
    let a = c.args.arena.now in
    let b = c.composed.new.arena in
    let d = c.image_of_image.new.arena in
    let g = fin.get (map_at a c.args.first) in
    let h = fin.get (map_at a c.args.second) in
    let x = variable_at a c.in-Some.var.now in
    let xs = each (variable_at a) c.in-Some.rest.now in
    let m = map_at d c.in_ok-others.others in
    let u = image_term h (image_term g (free x)) in
    let grown : Extends a b = c.composed.ensures.grown in
    let further : Extends b d = c.image_of_image.ensures.grown in
    let whole : Extends a d = λ n i s. further n i (grown n i s) in
    let there = first_there a c.args.vars.now c.in-Some.var.now c.in-Some.rest.now c.in-Some.ensures.cases.0 c.requires.vars in
    let image : HasTerm d c.in_ok-term.term u = image_there a b grown d c.args.first c.args.second c.in-Some.var.now c.in_ok-term.term c.requires.first c.requires.second there c.in_ok-term.ensures.term in
    let moved : u ≡ free x → ⊥ = λ e. c.if-term-var.false (c.known.ensures _ _ _ (image ∙ ap (λ w. Some (term w)) e) (whole _ _ there)) in
    let rest = composed_there b d further g h xs c.in_ok-others.others c.in_ok-others.ensures.map (composed_from g h xs _ c.in_ok-others.ensures.same c.in_ok-others.ensures.others) in
    let formed = subst (λ (k : Map). IsFormedMap (fin.get k)) (sym (map_stays b d further c.in_ok-others.others c.in_ok-others.ensures.map)) c.in_ok-others.ensures.formed in
    let all : IsComposed g h (each (variable_at a) c.args.vars.now) (fin.insert m x u) = subst (λ (ns : List ℕ). IsComposed g h (each (variable_at a) ns) (fin.insert m x u)) (sym c.in-Some.ensures.cases.0) (bound_composed g h xs x m rest) in
    let made : fin.insert m (variable_at d c.in-Some.var.now) (term_at d c.in_ok-term.term) ≡ fin.insert m x u = λ i. fin.insert m (variable_stays a d whole c.in-Some.var.now there i) (is_term d _ u image i) in
    if_ok c.with_binding.result _ _
    (λ n s. subst (λ (k : Map). IsComposed g h (each (variable_at a) c.args.vars.now) k × IsFormedMap (fin.get k)) (sym (is_map c.with_binding.new.self n _ s ∙ made))
    (all, formed_insert m x u formed (formed_moved g h x c.requires.first_formed c.requires.second_formed moved)))
    c.with_binding.ensures.map

pub returns-clause-formed : goal.returns-clause-formed
returns-clause-formed t c = if_ok c.with_binding.result _ _ (λ n h. h.1) (bound t c)

pub returns-clause-same : goal.returns-clause-same
returns-clause-same t c =
    let a = c.args.arena.now in
    if_ok c.with_binding.result _ _ (λ n h. composed_same (fin.get (map_at a c.args.first)) (fin.get (map_at a c.args.second)) _ _ h.0) (bound t c)

pub returns-clause-others : goal.returns-clause-others
returns-clause-others t c =
    let a = c.args.arena.now in
    if_ok c.with_binding.result _ _ (λ n h. composed_others (fin.get (map_at a c.args.first)) (fin.get (map_at a c.args.second)) _ _ h.0) (bound t c)
