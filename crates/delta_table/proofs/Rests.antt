-- An item with some of its tuples is an item.
use Rattle.std.proofs.Common.{◌≡◌, ℕ, ◌+◌, Bool, true, false, ◌==◌, if◌then◌else◌, List, [], ◌∷◌, refl}
use Rattle.std.specs.List.{list_all}
use Rattle.fol.specs.Syntax.{Terms}
use Rattle.fol.specs.Formed.{are_formed_terms_at, count_terms}
use Rattle.lk_rules.proofs.Subsequents.{and_left, and_right, and_both}
use Rattle.herbrand_laws.specs.Herbrand.{Item, quantifiers}
use Rattle.delta_table.specs.Places.{lacks_place, kept_at}
use Rattle.delta_table.specs.Items.{IsItem}
use Rattle.delta_table.specs.Chosen.{rest_outside}
use Rattle.delta_table.proofs.Shares.{rising_kept}

passes_kept : (q : Terms → Bool) (p : ℕ → Bool) (k : ℕ) (xs : List Terms) → list_all q xs ≡ true → list_all q (kept_at p k xs) ≡ true
passes_kept q p k [] h = refl
passes_kept q p k (x ∷ xs) h =
    let later = passes_kept q p (k + 1) xs (and_right (q x) (list_all q xs) h) in
    elim (p k) as (λ b. list_all q (if b then x ∷ kept_at p (k + 1) xs else kept_at p (k + 1) xs) ≡ true) [
      | true ↦ and_both (q x) (list_all q (kept_at p (k + 1) xs)) (and_left (q x) (list_all q xs) h) later
      | false ↦ later
    ]

pub rest_is_item : (i : Item) (places : ℕ) → IsItem i → IsItem (rest_outside places i)
rest_is_item i places h = elim (quantifiers i == 0) as (λ b. IsItem (record { side = i.side; formula = i.formula; tuples = if b then [] else kept_at (lacks_place places) 0 i.tuples })) [
  | true ↦ record { prenex = h.prenex; formula = h.formula; formed = refl; counted = refl; rises = tt }
  | false ↦
      record {
        prenex = h.prenex;
        formula = h.formula;
        formed = passes_kept (are_formed_terms_at 0) (lacks_place places) 0 i.tuples h.formed;
        counted = passes_kept (λ us. count_terms us == quantifiers i) (lacks_place places) 0 i.tuples h.counted;
        rises = rising_kept (lacks_place places) 0 i.tuples h.rises;
      }
]
