-- The terms of a numbered list, one after another.
use Rattle.std.proofs.Common.{◌≡◌, ℕ, List, [], ◌∷◌, ◌++◌, map, refl, sym, ap, ◌∙◌}
use Rattle.std.proofs.lemmas.List.{map-append}
use Rattle.fol.specs.Syntax.{Term, Terms, cons}
use Rattle.arena_cells.specs.declared.key.Key.TheVariants.{Cons}
use Rattle.arena_cells.specs.Items.{Item}
use Rattle.arena_cells.specs.Standing.{term_at, terms_at}
use Rattle.arena_cells.specs.Meaning.{IsKeyAt}
use Rattle.arena_cells.proofs.Staying.{is_terms}
use Rattle.numbered_terms.specs.Nodes.{followed}

pub followed-push : (ts : List Term) (t : Term) (us : Terms) → followed (ts ++ t ∷ []) us ≡ followed ts (cons t us)
followed-push [] t us = refl
followed-push (x ∷ ts) t us = ap (cons x) (followed-push ts t us)

-- the terms so far with one more
pub one_more : (a : List Item) (ns : List ℕ) (n t us : ℕ) → IsKeyAt a n (Cons t us)
    → followed (map (term_at a) (ns ++ t ∷ [])) (terms_at a us) ≡ followed (map (term_at a) ns) (terms_at a n)
one_more a ns n t us k =
    let last : terms_at a n ≡ cons (term_at a t) (terms_at a us) = is_terms a n _ k.stands in
    ap (λ ts. followed ts (terms_at a us)) (map-append (term_at a) ns (t ∷ []))
    ∙ (followed-push (map (term_at a) ns) (term_at a t) (terms_at a us) ∙ ap (followed (map (term_at a) ns)) (sym last))
