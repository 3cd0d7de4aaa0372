-- Filtering a list by copying the runs between what is left out.
use Rattle.std.proofs.Common.{◌≡◌, ℕ, ◌+◌, ◌-◌, ◌<◌, ◌≤◌, Bool, true, false, cond, List, [], ◌∷◌, ◌++◌, take, drop, length, get_or, append-nil, append_assoc, sym, ap, ◌∙◌, arith}
use Rattle.std.specs.List.{filter, slice_range}
use Rattle.std.proofs.lemmas.List.{take_all, take_more, get_or-drop, length-drop}
use Rattle.std.proofs.lemmas.List.Elements.{filter_more}

module _ (xs : List ℕ) where
  run_more : (start place : ℕ) → start ≤ place → place < length xs → slice_range xs start (place + 1) ≡ slice_range xs start place ++ get_or xs place 0 ∷ []
  run_more start place before within =
      let more : place + 1 - start ≡ (place - start) + 1 = omega arith in
      let there : start + (place - start) ≡ place = omega arith in
      let inside : place - start < length (drop start xs) = omega (arith, length-drop start xs) in
      ap (λ (k : ℕ). take k (drop start xs)) more ∙ take_more (drop start xs) (place - start) 0 inside
      ∙ ap (λ (x : ℕ). take (place - start) (drop start xs) ++ x ∷ []) (get_or-drop start xs (place - start) 0 ∙ ap (λ (k : ℕ). get_or xs k 0) there)

  pub no_run : (place : ℕ) → slice_range xs place place ≡ []
  no_run place = let none : place - place ≡ 0 = omega arith in ap (λ (k : ℕ). take k (drop place xs)) none

  module _ (p : ℕ → Bool) (place : ℕ) where
    -- one more number is left out, kept, or not there
    pub left_out : place < length xs → p (get_or xs place 0) ≡ false → filter p (take (place + 1) xs) ≡ filter p (take place xs)
    left_out within fail =
        filter_more p xs place 0 within ∙ ap (λ b. filter p (take place xs) ++ cond b (get_or xs place 0 ∷ []) []) fail ∙ append-nil (filter p (take place xs))

    pub kept : place < length xs → p (get_or xs place 0) ≡ true → filter p (take (place + 1) xs) ≡ filter p (take place xs) ++ get_or xs place 0 ∷ []
    kept within pass = filter_more p xs place 0 within ∙ ap (λ b. filter p (take place xs) ++ cond b (get_or xs place 0 ∷ []) []) pass

    pub at_end : length xs ≤ place → filter p (take (place + 1) xs) ≡ filter p (take place xs)
    at_end over = let further : length xs ≤ place + 1 = omega (arith, over) in ap (filter p) (take_all (place + 1) xs further ∙ sym (take_all place xs over))

    -- the run from a place on goes on
    pub goes_on : (start : ℕ) → filter p (take place xs) ≡ filter p (take start xs) ++ slice_range xs start place → place < length xs → start ≤ place → p (get_or xs place 0) ≡ true
        → filter p (take (place + 1) xs) ≡ filter p (take start xs) ++ slice_range xs start (place + 1)
    goes_on start so_far within before pass =
        kept within pass ∙ ap (λ (ys : List ℕ). ys ++ get_or xs place 0 ∷ []) so_far
        ∙ append_assoc (filter p (take start xs)) (slice_range xs start place) (get_or xs place 0 ∷ [])
        ∙ ap (λ (ys : List ℕ). filter p (take start xs) ++ ys) (sym (run_more start place before within))
