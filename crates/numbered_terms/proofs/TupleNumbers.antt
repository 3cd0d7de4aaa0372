-- Numbers of tuples, where more is numbered.
use Rattle.std.proofs.Common.{◌≡◌, ℕ, List, [], ◌∷◌, ◌++◌, ap, ◌∙◌}
use Rattle.std.proofs.lemmas.List.{map-append}
use Rattle.std.proofs.lemmas.List.Elements.{All-push, All-weaker}
use Rattle.fol.specs.Syntax.{Terms}
use Rattle.arena_cells.specs.Items.{Item}
use Rattle.arena_cells.specs.Standing.{Extends, IsTermAt}
use Rattle.arena_cells.proofs.Staying.{same_each, term_stays, term_there}
use Rattle.numbered_terms.specs.Numbered.{arguments_of, tuple_at, IsTuple, AreTuples}

module _ (a b : List Item) (grown : Extends a b) where
  -- numbers stay those of the same tuples
  pub tuples_stay : (ns : List ℕ) (uss : List Terms) → AreTuples a ns uss → AreTuples b ns uss
  tuples_stay ns uss h = record {
    terms = All-weaker (IsTermAt a) (IsTermAt b) (term_there a b grown) ns h.terms;
    tuples =
        same_each (tuple_at b) (tuple_at a) ns (All-weaker (IsTermAt a) (λ n. tuple_at b n ≡ tuple_at a n) (λ n t. ap arguments_of (term_stays a b grown n t)) ns h.terms)
        ∙ h.tuples;
  }

  -- and with one tuple more
  pub tuples_more : (ns : List ℕ) (uss : List Terms) (n : ℕ) (us : Terms) → AreTuples a ns uss → IsTuple b n us → AreTuples b (ns ++ n ∷ []) (uss ++ us ∷ [])
  tuples_more ns uss n us h t =
      let old = tuples_stay ns uss h in
      record {
        terms = All-push (IsTermAt b) ns n old.terms t.term;
        tuples = map-append (tuple_at b) ns (n ∷ []) ∙ λ i. old.tuples i ++ t.tuple i ∷ [];
      }
