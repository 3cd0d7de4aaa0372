-- Items that are alike to alike ones, and to the same in a larger arena.
use Rattle.std.proofs.Common.{◌≡◌, ℕ, ◌<◌, ⊎_elim, List, length, sym, ap, subst, ◌∙◌}
use Rattle.std.proofs.lemmas.Bool.{cases_eq}
use Rattle.fol.specs.Syntax.{free, bound, app, nil, cons}
use Rattle.arena_cells.specs.Items.{Item, symbol, term, terms, formula, variables, substitution, side, sequent, tree}
use Rattle.arena_cells.specs.Standing.{Extends, item_at, IsDistinct}
use Rattle.fol_unify.specs.Classes.{next, Leads, here, further}
use Rattle.fol_unify.specs.Solving.{AreTied, AreAlike}
use Rattle.fol_unify.proofs.Walks.{root_stays}

module _ (a : List Item) (n : ℕ) (f : ℕ → ℕ) (distinct : IsDistinct a) where
  tied_on : (i j k : Item) → AreTied a n f i j → AreTied a n f j k → AreTied a n f i k
  tied_on i j k t u = record {
    one = t.one;
    two = u.two;
    one_below = t.one_below;
    two_below = u.two_below;
    one_stands = t.one_stands;
    two_stands = u.two_stands;
    tied = t.tied ∙ ap f (distinct t.two u.one j t.two_stands u.one_stands) ∙ u.tied;
  }

  pub alike_on : (i j k : Item) → AreAlike a n f i j → AreAlike a n f j k → AreAlike a n f i k
  alike_on (term (free x)) j k p q = tt
  alike_on (term (bound b)) j k p q = subst (λ w. AreAlike a n f w k) p q
  alike_on (term (app s ts)) j k p q =
      let r = subst (λ w. AreAlike a n f w k) p.1.0 q in
      (r.0, (r.1.0, tied_on (terms ts) (terms p.0) (terms r.0) p.1.1 r.1.1))
  alike_on (terms nil) j k p q = subst (λ w. AreAlike a n f w k) p q
  alike_on (terms (cons t ts)) j k p q =
      let r = subst (λ w. AreAlike a n f w k) p.1.1.0 q in
      (r.0, (r.1.0, (r.1.1.0, (tied_on (term t) (term p.0) (term r.0) p.1.1.1.0 r.1.1.1.0, tied_on (terms ts) (terms p.1.0) (terms r.1.0) p.1.1.1.1 r.1.1.1.1))))
  alike_on (symbol s) j k p q = subst (λ w. AreAlike a n f w k) p q
  alike_on (formula s) j k p q = subst (λ w. AreAlike a n f w k) p q
  alike_on (variables s) j k p q = subst (λ w. AreAlike a n f w k) p q
  alike_on (substitution s) j k p q = subst (λ w. AreAlike a n f w k) p q
  alike_on (side s) j k p q = subst (λ w. AreAlike a n f w k) p q
  alike_on (sequent s) j k p q = subst (λ w. AreAlike a n f w k) p q
  alike_on (tree s) j k p q = subst (λ w. AreAlike a n f w k) p q

  -- each number but a root is alike to its root
  pub alike_root : (ls : List ℕ) → ((m : ℕ) → m < length ls → next ls m < length ls) → ((m : ℕ) → m < length ls → (next ls m ≡ m → ⊥) → AreAlike a n f (item_at a m) (item_at a (next ls m)))
      → (m r : ℕ) → m < length ls → Leads ls m r → (next ls m ≡ m → ⊥) → AreAlike a n f (item_at a m) (item_at a r)
  alike_root ls within alike m r below (here r' e) moved = absurd (moved e)
  alike_root ls within alike m r below (further m' r' h) moved =
      ⊎_elim {C = AreAlike a n f (item_at a m) (item_at a r)}
      (λ e. subst (λ k. AreAlike a n f (item_at a m) (item_at a k)) (sym (root_stays ls (next ls m') r' e h)) (alike m' below moved))
      (λ on. alike_on (item_at a m') (item_at a (next ls m')) (item_at a r') (alike m' below moved) (alike_root ls within alike (next ls m') r' (within m' below) h on))
      (cases_eq (next ls (next ls m')) (next ls m'))

-- the same in a larger arena

module _ (a b : List Item) (grown : Extends a b) (n : ℕ) (f : ℕ → ℕ) where
  pub tied_stays : (i j : Item) → AreTied a n f i j → AreTied b n f i j
  tied_stays i j t = record {
    one = t.one;
    two = t.two;
    one_below = t.one_below;
    two_below = t.two_below;
    one_stands = grown t.one i t.one_stands;
    two_stands = grown t.two j t.two_stands;
    tied = t.tied;
  }

  pub alike_stays : (i j : Item) → AreAlike a n f i j → AreAlike b n f i j
  alike_stays (term (free x)) j p = tt
  alike_stays (term (bound k)) j p = p
  alike_stays (term (app s ts)) j p = (p.0, (p.1.0, tied_stays (terms ts) (terms p.0) p.1.1))
  alike_stays (terms nil) j p = p
  alike_stays (terms (cons t ts)) j p = (p.0, (p.1.0, (p.1.1.0, (tied_stays (term t) (term p.0) p.1.1.1.0, tied_stays (terms ts) (terms p.1.0) p.1.1.1.1))))
  alike_stays (symbol s) j p = p
  alike_stays (formula s) j p = p
  alike_stays (variables s) j p = p
  alike_stays (substitution s) j p = p
  alike_stays (side s) j p = p
  alike_stays (sequent s) j p = p
  alike_stays (tree s) j p = p
