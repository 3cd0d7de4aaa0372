-- Entries as steps.
use Rattle.std.proofs.Common.{◌≡◌, ℕ, ◌+◌, Bool, List, [], ◌∷◌, map, cond, refl, sym, ap, ◌∙◌}
use Rattle.std.specs.Prelude.{Option, Some, None, nat_lt, not}
use Rattle.std.specs.List.{position, position_or_len}
use Rattle.std.proofs.lemmas.List.{length-map}
use Rattle.proof_trees.specs.Trees.{Tree, rule_of, is_cut}
use Rattle.step_laws.specs.Places.{step_in, is_cut_step}
use Rattle.proof_steps.specs.declared.listing.Entry.{Entry}
use Rattle.proof_steps.specs.Kept.{entry_step}

position_or_len-map : {X Y : Type 0} (p : Y → Bool) (f : X → Y) (xs : List X) → position_or_len p (map f xs) ≡ position_or_len (λ x. p (f x)) xs
position_or_len-map p f [] = refl
position_or_len-map p f (x ∷ xs) = ap (λ n. cond (not (p (f x))) (1 + n) 0) (position_or_len-map p f xs)

pub position-map : {X Y : Type 0} (p : Y → Bool) (f : X → Y) (xs : List X) → position p (map f xs) ≡ position (λ x. p (f x)) xs
position-map p f xs =
    λ i. cond (nat_lt (position_or_len-map p f xs i) (length-map xs f i)) (Some (position_or_len-map p f xs i)) None

-- the first cut of listed trees is that of their entries
pub first_cut_place : (xs : List Tree) (es : List Entry) (o : Option ℕ) → map entry_step es ≡ map (step_in xs) xs → o ≡ position (λ e. is_cut (rule_of e.proof.tree)) es
    → o ≡ position is_cut_step (map (step_in xs) xs)
first_cut_place xs es o same is = is ∙ sym (position-map is_cut_step entry_step es) ∙ ap (position is_cut_step) same
