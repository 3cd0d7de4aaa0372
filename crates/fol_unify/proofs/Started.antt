-- At first each number is in a class of its own, and the pairs are those of the equations.
use Rattle.std.proofs.Common.{◌≡◌, ℕ, ◌<◌, List, [], ◌∷◌, length, sym, ap, ◌∙◌, arith}
use Rattle.std.specs.Prelude.{Option}
use Rattle.std.specs.List.{AllByRecursion}
use Rattle.std.proofs.lemmas.List.Elements.{All-from_recursion, recursion_from_All}
use Rattle.std.proofs.lemmas.Option.{slice_get_within}
use Rattle.fol.specs.declared.symbols.Var.{Var}
use Rattle.fol.specs.Syntax.{Term}
use Rattle.substitution.specs.Image.{image_term}
use Rattle.unify_laws.specs.Equations.{Equation}
use Rattle.arena_cells.specs.Items.{Item, term}
use Rattle.arena_cells.specs.Standing.{item_at}
use Rattle.arena_cells.proofs.Staying.{item_is}
use Rattle.fol_unify.specs.Classes.{next}
use Rattle.fol_unify.specs.Solving.{a_term, other, kind_of, image_item, image_at, Ties, AreTied, IsPair, IsUnifying}
use Rattle.fol_unify.specs.Joining.{ArePairs}

module _ (a : List Item) where
  started_pairs : (ps : List (ℕ × ℕ)) (es : List Equation) → ArePairs a ps es → AllByRecursion (IsPair a (length a)) ps
  started_pairs [] [] h = tt
  started_pairs [] (e ∷ es) h = tt
  started_pairs (p ∷ ps) [] h = absurd h
  started_pairs (p ∷ ps) (e ∷ es) h = (
    record {
      one_below = slice_get_within a p.0 (term e.0) h.0.0;
      two_below = slice_get_within a p.1 (term e.1) h.0.1;
      kinds = ap kind_of (item_is a p.0 _ h.0.0) ∙ sym (ap kind_of (item_is a p.1 _ h.0.1));
      known = λ d. let same : a_term ≡ other = sym (ap kind_of (item_is a p.0 _ h.0.0)) ∙ d in cc;
    },
    started_pairs ps es h.1,
  )

  started_sound : (m : Var → Option Term) (ps : List (ℕ × ℕ)) (es : List Equation) → ArePairs a ps es → AllByRecursion (λ (e : Equation). image_term m e.0 ≡ image_term m e.1) es → AllByRecursion (Ties (image_at a m)) ps
  started_sound m [] [] h all = tt
  started_sound m [] (e ∷ es) h all = tt
  started_sound m (p ∷ ps) [] h all = absurd h
  started_sound m (p ∷ ps) (e ∷ es) h all = (
    ap (image_item m) (item_is a p.0 _ h.0.0) ∙ ap term all.0 ∙ sym (ap (image_item m) (item_is a p.1 _ h.0.1)),
    started_sound m ps es h.1 all.1,
  )

  started_equal : (f : ℕ → ℕ) (ps : List (ℕ × ℕ)) (es : List Equation) → ArePairs a ps es → AllByRecursion (Ties f) ps → AllByRecursion (λ (e : Equation). AreTied a (length a) f (term e.0) (term e.1)) es
  started_equal f [] [] h all = tt
  started_equal f [] (e ∷ es) h all = absurd h
  started_equal f (p ∷ ps) [] h all = tt
  started_equal f (p ∷ ps) (e ∷ es) h all = (
    record {
      one = p.0;
      two = p.1;
      one_below = slice_get_within a p.0 (term e.0) h.0.0;
      two_below = slice_get_within a p.1 (term e.1) h.0.1;
      one_stands = h.0.0;
      two_stands = h.0.1;
      tied = all.0;
    },
    started_equal f ps es h.1 all.1,
  )

  pub started : (es : List Equation) (ls : List ℕ) (ps : List (ℕ × ℕ)) → length ls ≡ length a → ((n : ℕ) → n < length a → next ls n ≡ n) → ArePairs a ps es → IsUnifying a es ls ps
  started es ls ps so_many own pairs = record {
    so_many = so_many;
    within = λ n below. let same = own n (omega (arith, so_many)) in omega (arith, same);
    kinds = λ n below. ap (λ k. kind_of (item_at a k)) (sym (own n (omega (arith, so_many))));
    pairs = All-from_recursion (IsPair a (length a)) ps (started_pairs ps es pairs);
    sound = λ h all. record {
      links = λ n below. ap (image_at a h) (sym (own n (omega (arith, so_many))));
      pairs = All-from_recursion (Ties (image_at a h)) ps (started_sound h ps es pairs (recursion_from_All (λ (e : Equation). image_term h e.0 ≡ image_term h e.1) es all));
    };
    alike = λ f given n below moved. absurd (moved (own n (omega (arith, so_many))));
    equal = λ f given. All-from_recursion (λ (e : Equation). AreTied a (length a) f (term e.0) (term e.1)) es (started_equal f ps es pairs (recursion_from_All (Ties f) ps given.pairs));
  }
