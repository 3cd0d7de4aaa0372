-- What a word is, where clap reads a long name off it.
use Rattle.std.proofs.Common.{◌≡◌, ◌∙◌, ◌<◌, ◌==◌, ℕ, Bool, true, false, [], ◌∷◌, ◌++◌, Option, Some, None, refl, sym, ap, length, get_or, arith}
use Rattle.std.specs.Prelude.{option_and_then, unwrap_or}
use Rattle.std.specs.List.{after_first, before_first, position_or_len}
use Rattle.std.proofs.Math.Numerals.{one-add}
use Rattle.std.proofs.lemmas.Bool.Decides.{nat_tests}
use Rattle.std.proofs.lemmas.List.Sums.{passes_at_first, split_at_first}
use Rattle.clap.specs.Lexer.{has_byte, long_of, long_of_rest, name_and_value, short_of, short_of_rest, strip_byte}
use Rattle.clap.specs.Walk.{Text}

stripped : (c : ℕ) (word rest : Text) → strip_byte c word ≡ Some rest → word ≡ c ∷ rest
stripped c [] rest e = cc
stripped c (x ∷ xs) rest e = at (x == c) refl
  where
    at : (t : Bool) → (x == c) ≡ t → (x ∷ xs) ≡ c ∷ rest
    at true t =
        let same : Some xs ≡ Some rest = rw t at e in
        let tail : xs ≡ rest = ap (λ o. unwrap_or o []) same in
        let known : x ≡ c = grind (arith, nat_tests) in
        rw (known, tail) refl
    at false t = let bad : None ≡ Some rest = rw t at e in cc

some_first : (r : Text) → has_byte 61 r ≡ true → position_or_len (λ x. x == 61) r < length r
some_first [] e = cc
some_first (x ∷ xs) e = at (x == 61) refl (some_first xs)
  where
    at : (t : Bool) → (x == 61) ≡ t → (has_byte 61 xs ≡ true → position_or_len (λ y. y == 61) xs < length xs)
        → position_or_len (λ y. y == 61) (x ∷ xs) < length (x ∷ xs)
    at true t rest = rw t (omega arith)
    at false t rest = let low = rest (rw t at e) in rw t (omega arith)

none_first : (r : Text) → has_byte 61 r ≡ false → before_first (λ x. x == 61) r ≡ r
none_first [] e = refl
none_first (x ∷ xs) e = at (x == 61) refl (none_first xs)
  where
    at : (t : Bool) → (x == 61) ≡ t → (has_byte 61 xs ≡ false → before_first (λ y. y == 61) xs ≡ xs)
        → before_first (λ y. y == 61) (x ∷ xs) ≡ x ∷ xs
    at true t rest = let bad : true ≡ false = rw t at e in cc
    at false t rest = rw (t, one-add) (ap (λ l. x ∷ l) (rest (rw t at e)))

-- the text before the first `=`, that `=`, and the text behind it
parted : (r : Text) → has_byte 61 r ≡ true → r ≡ before_first (λ x. x == 61) r ++ 61 ∷ after_first (λ x. x == 61) r
parted r has =
    let low = some_first r has in
    let passes : (get_or r (position_or_len (λ x. x == 61) r) 0 == 61) ≡ true = passes_at_first (λ x. x == 61) r 0 low in
    let is : get_or r (position_or_len (λ x. x == 61) r) 0 ≡ 61 = grind (arith, nat_tests) in
    split_at_first (λ x. x == 61) r 0 low ∙ ap (λ x. before_first (λ y. y == 61) r ++ x ∷ after_first (λ y. y == 61) r) is

name_alone : (r name : Text) → name_and_value r ≡ (name, None) → r ≡ name
name_alone r name e = at (has_byte 61 r) refl
  where
    at : (t : Bool) → has_byte 61 r ≡ t → r ≡ name
    at true t = let bad : Some (after_first (λ x. x == 61) r) ≡ None = rw t at (ap (λ p. p.1) e) in cc
    at false t = sym (none_first r t) ∙ ap (λ p. p.0) e

name_joined : (r name value : Text) → name_and_value r ≡ (name, Some value) → r ≡ name ++ 61 ∷ value
name_joined r name value e = at (has_byte 61 r) refl
  where
    at : (t : Bool) → has_byte 61 r ≡ t → r ≡ name ++ 61 ∷ value
    at true t =
        let some : Some (after_first (λ x. x == 61) r) ≡ Some value = rw t at (ap (λ p. p.1) e) in
        let front : before_first (λ x. x == 61) r ≡ name = ap (λ p. p.0) e in
        let back : after_first (λ x. x == 61) r ≡ value = ap (λ o. unwrap_or o []) some in
        parted r t ∙ rw (front, back) refl
    at false t = let bad : None ≡ Some value = rw t at (ap (λ p. p.1) e) in cc

long_parts : (word : Text) (p : Text × Option Text) → long_of word ≡ Some p → (r : Text) × (word ≡ 45 ∷ 45 ∷ r) × (name_and_value r ≡ p)
long_parts word p e = first (strip_byte 45 word) refl e
  where
    third : (w r : Text) → w ≡ 45 ∷ r → word ≡ 45 ∷ w → long_of_rest r ≡ Some p → (t : Text) × (word ≡ 45 ∷ 45 ∷ t) × (name_and_value t ≡ p)
    third w [] s s' e' = cc
    third w (x ∷ xs) s s' e' = (x ∷ xs, s' ∙ ap (λ l. 45 ∷ l) s, ap (λ o. unwrap_or o p) e')

    second : (w : Text) (o : Option Text) → strip_byte 45 w ≡ o → word ≡ 45 ∷ w → option_and_then long_of_rest o ≡ Some p
        → (r : Text) × (word ≡ 45 ∷ 45 ∷ r) × (name_and_value r ≡ p)
    second w None s s' e' = cc
    second w (Some r) s s' e' = third w r (stripped 45 w r s) s' e'

    first : (o : Option Text) → strip_byte 45 word ≡ o → option_and_then long_of_rest (option_and_then (strip_byte 45) o) ≡ Some p
        → (r : Text) × (word ≡ 45 ∷ 45 ∷ r) × (name_and_value r ≡ p)
    first None s e' = cc
    first (Some w) s e' = second w (strip_byte 45 w) refl (stripped 45 word w s) e'

-- the word `--name`, and the word `--name=value`
pub long_alone : (word name : Text) → long_of word ≡ Some (name, None) → word ≡ 45 ∷ 45 ∷ name
long_alone word name e = let parts = long_parts word (name, None) e in parts.1 ∙ ap (λ l. 45 ∷ 45 ∷ l) (name_alone parts.0 name parts.2)

pub long_joined : (word name value : Text) → long_of word ≡ Some (name, Some value) → word ≡ 45 ∷ 45 ∷ (name ++ 61 ∷ value)
long_joined word name value e =
    let parts = long_parts word (name, Some value) e in parts.1 ∙ ap (λ l. 45 ∷ 45 ∷ l) (name_joined parts.0 name value parts.2)

pub short_parts : (word flags : Text) → short_of word ≡ Some flags → word ≡ 45 ∷ flags
short_parts word flags e = first (strip_byte 45 word) refl e
  where
    at : (x : ℕ) (xs : Text) (t : Bool) → (x == 45) ≡ t → short_of_rest (x ∷ xs) ≡ Some flags → (x ∷ xs) ≡ flags
    at x xs true t e' = let bad : None ≡ Some flags = rw t at e' in cc
    at x xs false t e' = let same : Some (x ∷ xs) ≡ Some flags = rw t at e' in ap (λ o. unwrap_or o []) same

    second : (w : Text) → short_of_rest w ≡ Some flags → w ≡ flags
    second [] e' = cc
    second (x ∷ xs) e' = at x xs (x == 45) refl e'

    first : (o : Option Text) → strip_byte 45 word ≡ o → option_and_then short_of_rest o ≡ Some flags → word ≡ 45 ∷ flags
    first None s e' = cc
    first (Some w) s e' = stripped 45 word w s ∙ ap (λ l. 45 ∷ l) (second w e')

pub short_some : (word : Text) → short_of word ≡ Some [] → ⊥
short_some word e = first (strip_byte 45 word) e
  where
    at : (x : ℕ) (xs : Text) (t : Bool) → (x == 45) ≡ t → short_of_rest (x ∷ xs) ≡ Some [] → ⊥
    at x xs true t e' = let bad : None ≡ Some [] = rw t at e' in cc
    at x xs false t e' = let bad : Some (x ∷ xs) ≡ Some [] = rw t at e' in let worse : (x ∷ xs) ≡ [] = ap (λ o. unwrap_or o []) bad in cc

    second : (w : Text) → short_of_rest w ≡ Some [] → ⊥
    second [] e' = cc
    second (x ∷ xs) e' = at x xs (x == 45) refl e'

    first : (o : Option Text) → option_and_then short_of_rest o ≡ Some [] → ⊥
    first None e' = cc
    first (Some w) e' = second w e'
