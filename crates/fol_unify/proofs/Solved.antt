-- Where no pair is left, the roots of the classes solve the equations; and what they say stays in a larger arena.
use Rattle.std.proofs.Common.{◌≡◌, ℕ, zero, suc, ◌<◌, ◌≤◌, List, [], length, sym, ap, subst, ◌∙◌, arith}
use Rattle.std.specs.Prelude.{Some}
use Rattle.std.specs.List.{All}
use Rattle.std.proofs.lemmas.List.Elements.{All-nil, All-weaker}
use Rattle.std.proofs.lemmas.Option.{slice_get-get_or, unwrap_or-slice_get, slice_get_within}
use Rattle.fol.specs.Syntax.{top}
use Rattle.unify_laws.specs.Equations.{Equation}
use Rattle.arena_cells.specs.Items.{Item, term, formula}
use Rattle.arena_cells.specs.Standing.{Extends, item_at, IsThere, IsDistinct}
use Rattle.arena_cells.proofs.Staying.{item_is}
use Rattle.fol_unify.specs.Classes.{next, Leads, further}
use Rattle.fol_unify.specs.Solving.{kind_of, image_item, image_at, Ties, Respects, AreTied, AreAlike, IsUnifying, AreSolved}
use Rattle.fol_unify.proofs.Walks.{at_root, root_below, same_at_root, same_root, root_stays}
use Rattle.fol_unify.proofs.Alike.{alike_root, alike_stays, tied_stays}

pub there_below : (a : List Item) (n : ℕ) → n < length a → IsThere a n
there_below a n below = slice_get-get_or a n (formula top) below ∙ ap Some (sym (unwrap_or-slice_get a n (formula top)))

module _ (a : List Item) (es : List Equation) (ls rs : List ℕ) (un : IsUnifying a es ls []) (distinct : IsDistinct a) (so_many : length rs ≡ length ls) (leads : (n : ℕ) → n < length ls → Leads ls n (next rs n)) where
  respects : Respects (next rs) ls []
  respects = record {
    links = λ n below. same_root ls n (next rs n) (next rs (next ls n)) (leads n below) (further n (next rs (next ls n)) (leads (next ls n) (un.within n below)));
    pairs = All-nil (Ties (next rs));
  }

  lengths : length a ≡ length rs
  lengths = sym un.so_many ∙ sym so_many

  pub solved : AreSolved a es rs
  solved = record {
    there = λ n below. there_below a n (omega (arith, lengths));
    within = λ n below. let under = root_below ls un.within n (next rs n) (omega (arith, so_many)) (leads n (omega (arith, so_many))) in omega (arith, under, so_many);
    roots = λ n below.
        let walk = leads n (omega (arith, so_many)) in
        let under = root_below ls un.within n (next rs n) (omega (arith, so_many)) walk in
        root_stays ls (next rs n) (next rs (next rs n)) (at_root ls n (next rs n) walk) (leads (next rs n) under);
    kinds = λ n below. same_at_root (λ k. kind_of (item_at a k)) ls un.within un.kinds n (next rs n) (omega (arith, so_many)) (leads n (omega (arith, so_many)));
    sound = λ h all n below. same_at_root (image_at a h) ls un.within (un.sound h all).links n (next rs n) (omega (arith, so_many)) (leads n (omega (arith, so_many)));
    alike = λ n below moved.
        let walk = leads n (omega (arith, so_many)) in
        subst (λ k. AreAlike a k (next rs) (item_at a n) (item_at a (next rs n))) lengths
        (alike_root a (length a) (next rs) distinct ls un.within (un.alike (next rs) respects) n (next rs n) (omega (arith, so_many)) walk (λ e. moved (root_stays ls n (next rs n) e walk)));
    equal = subst (λ k. All (λ (e : Equation). AreTied a k (next rs) (term e.0) (term e.1)) es) lengths (un.equal (next rs) respects);
  }

module _ (a b : List Item) (es : List Equation) (rs : List ℕ) (grown : Extends a b) (s : AreSolved a es rs) where
  pub item_stays : (n : ℕ) → n < length rs → item_at b n ≡ item_at a n
  item_stays n below = item_is b n (item_at a n) (grown n (item_at a n) (s.there n below))

  pub solved_stays : AreSolved b es rs
  solved_stays =
      let both = λ (n : ℕ) (below : n < length rs). item_stays (next rs n) (s.within n below) in
      record {
        there = λ n below. grown n (item_at a n) (s.there n below) ∙ ap Some (sym (item_stays n below));
        within = s.within;
        roots = s.roots;
        kinds = λ n below. ap kind_of (item_stays n below) ∙ s.kinds n below ∙ sym (ap kind_of (both n below));
        sound = λ h all n below. ap (image_item h) (item_stays n below) ∙ s.sound h all n below ∙ sym (ap (image_item h) (both n below));
        alike = λ n below moved.
            subst (λ i. AreAlike b (length rs) (next rs) i (item_at b (next rs n))) (sym (item_stays n below))
            (subst (AreAlike b (length rs) (next rs) (item_at a n)) (sym (both n below))
            (alike_stays a b grown (length rs) (next rs) (item_at a n) (item_at a (next rs n)) (s.alike n below moved)));
        equal = All-weaker (λ (e : Equation). AreTied a (length rs) (next rs) (term e.0) (term e.1)) (λ (e : Equation). AreTied b (length rs) (next rs) (term e.0) (term e.1)) (λ e. tied_stays a b grown (length rs) (next rs) (term e.0) (term e.1)) es s.equal;
      }

not_beyond : (m n : ℕ) → ((k : ℕ) → k < m → k < n) → m ≤ n
not_beyond zero n h = omega arith
not_beyond (suc m) n h = let last = h m (omega arith) in omega (arith, last)

-- the numbers of the roots stay inside
pub inside_stays : (a b : List Item) (es : List Equation) (rs : List ℕ) → Extends a b → AreSolved a es rs → length rs ≤ length b
inside_stays a b es rs grown s = not_beyond (length rs) (length b) (λ n below. slice_get_within b n (item_at a n) (grown n (item_at a n) (s.there n below)))
