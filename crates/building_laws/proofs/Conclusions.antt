-- The conclusion of a list of trees: its formulas and its free variables.
use Rattle.std.proofs.Common.{◌≡◌, Bool, true, false, ◌&&◌, ◌||◌, List, [], ◌∷◌, map, refl, sym, ap, ◌∙◌}
use Rattle.std.specs.List.{list_any}
use Rattle.std.specs.Ordering.{eq_by_cmp}
use Rattle.fol.specs.declared.symbols.Var.{Var}
use Rattle.fol.specs.Syntax.{Formula}
use Rattle.fol.specs.Order.{formula_cmp}
use Rattle.fol.specs.OrderLaws.{formula_total}
use Rattle.finite.specs.Finite as set
use Rattle.finite.proofs.Finite.{has-listing, has-empty, has-adds_each, of_rising-empty, listing-of_rising}
use Rattle.free_variables.specs.Occurrence.{is_free_in}
use Rattle.lk_rules.specs.declared.sequent.Side.{Side}
use Rattle.lk_rules.specs.declared.sequent.Side.TheVariants.{Left, Right}
use Rattle.lk_rules.specs.Sequents.{side_of, is_free_in_sequent}
use Rattle.lk_rules.proofs.Subsequents.{and_right, and_both}
use Rattle.proof_trees.proofs.Booleans.{or_first, or_second, either}
use Rattle.proof_trees.proofs.Members.{from_some, some_passes}
use Rattle.proof_trees.proofs.FormulaSets.{equal, tied}
use Rattle.search_laws.proofs.Listed.{among}
use Rattle.expansion_laws.specs.Expansions.{Exp, shallow}
use Rattle.building_laws.specs.Lists.{Placed, with_tree, trees_on, conclusion}
use Rattle.building_laws.proofs.Inside.{any_in, from_any}

-- whether it is the same side
abbrev pub same_side : Side → Side → Bool
same_side Left Left = true
same_side Left Right = false
same_side Right Left = false
same_side Right Right = true

pub side_same : (s side : Side) → same_side s side ≡ true → s ≡ side
side_same Left Left e = refl
side_same Left Right e = cc
side_same Right Left e = cc
side_same Right Right e = refl

pub own_side : (s : Side) → same_side s s ≡ true
own_side Left = refl
own_side Right = refl

-- whether a tree is for the formula f on the side
abbrev pub is_formula : Side → Formula → Placed → Bool
is_formula side f p = same_side side p.side && eq_by_cmp formula_cmp f (shallow p.tree)

pub own_formula : (p : Placed) → is_formula p.side (shallow p.tree) p ≡ true
own_formula p = and_both _ _ (own_side p.side) (tied (shallow p.tree) (shallow p.tree) refl)

-- whether v is free in a tree's formula
abbrev pub is_free_at : Var → Placed → Bool
is_free_at v p = is_free_in v (shallow p.tree)

with_formula : (side s : Side) (f : Formula) (e : Exp) (es : List Exp) → among (map shallow (with_tree side s e es)) f ≡ ((same_side side s && eq_by_cmp formula_cmp f (shallow e)) || among (map shallow es) f)
with_formula Left Left f e es = refl
with_formula Left Right f e es = refl
with_formula Right Left f e es = refl
with_formula Right Right f e es = refl

pub among_trees : (side : Side) (f : Formula) (l : List Placed) → among (map shallow (trees_on side l)) f ≡ list_any (is_formula side f) l
among_trees side f [] = refl
among_trees side f (p ∷ l) = with_formula side p.side f p.tree (trees_on side l) ∙ ap (λ b. is_formula side f p || b) (among_trees side f l)

-- the set of no formula has none
pub none_listed : set.listing (set.empty {R = formula_cmp}) ≡ []
none_listed = ap set.listing (sym (of_rising-empty formula_cmp)) ∙ listing-of_rising formula_cmp [] tt

-- the set of a list of formulas has just these
pub set_of : (fs : List Formula) (f : Formula) → set.has (set.adds_each (set.empty {R = formula_cmp}) fs) f ≡ among fs f
set_of fs f = has-adds_each formula_total set.empty fs f ∙ ap (λ b. b || among fs f) (has-empty formula_cmp f)

-- a formula stands in the conclusion where some tree is for it
pub has-conclusion : (l : List Placed) (side : Side) (f : Formula) → set.has (side_of (conclusion l) side) f ≡ list_any (is_formula side f) l
has-conclusion l Left f = set_of (map shallow (trees_on Left l)) f ∙ among_trees Left f l
has-conclusion l Right f = set_of (map shallow (trees_on Right l)) f ∙ among_trees Right f l

-- a variable is free in the conclusion where it is free in some tree's formula

free_on : (v : Var) (l : List Placed) (side : Side) → list_any (is_free_in v) (set.listing (side_of (conclusion l) side)) ≡ true → list_any (is_free_at v) l ≡ true
free_on v l side =
    from_some (is_free_in v) (set.listing (side_of (conclusion l) side)) (λ f m free.
    from_any (is_formula side f) l
    (λ p inside is. any_in (is_free_at v) p l inside (sym (ap (is_free_in v) (equal f (shallow p.tree) (and_right (same_side side p.side) _ is))) ∙ free))
    (sym (has-conclusion l side f) ∙ (has-listing (side_of (conclusion l) side) f ∙ m)))

pub free_in_trees : (v : Var) (l : List Placed) → is_free_in_sequent v (conclusion l) ≡ true → list_any (is_free_at v) l ≡ true
free_in_trees v l = either (list_any (is_free_in v) (set.listing (conclusion l).left)) (list_any (is_free_in v) (set.listing (conclusion l).right)) (free_on v l Left) (free_on v l Right)

free_of : (v : Var) (l : List Placed) (side : Side) (f : Formula) → set.has (side_of (conclusion l) side) f ≡ true → is_free_in v f ≡ true → is_free_in_sequent v (conclusion l) ≡ true
free_of v l Left f m e =
    or_first (list_any (is_free_in v) (set.listing (conclusion l).left)) (list_any (is_free_in v) (set.listing (conclusion l).right))
    (some_passes (is_free_in v) (set.listing (conclusion l).left) f (sym (has-listing (conclusion l).left f) ∙ m) e)
free_of v l Right f m e =
    or_second (list_any (is_free_in v) (set.listing (conclusion l).left)) (list_any (is_free_in v) (set.listing (conclusion l).right))
    (some_passes (is_free_in v) (set.listing (conclusion l).right) f (sym (has-listing (conclusion l).right f) ∙ m) e)

pub free_in_conclusion : (v : Var) (l : List Placed) → list_any (is_free_at v) l ≡ true → is_free_in_sequent v (conclusion l) ≡ true
free_in_conclusion v l =
    from_any (is_free_at v) l (λ p inside free. free_of v l p.side (shallow p.tree) (has-conclusion l p.side (shallow p.tree) ∙ any_in (is_formula p.side (shallow p.tree)) p l inside (own_formula p)) free)
