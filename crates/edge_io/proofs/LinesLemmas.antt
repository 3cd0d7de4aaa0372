-- Laws on bytes that end with a newline, stated as facts about every rest.
use Rattle.std.proofs.Common.{◌≡◌, ℕ, ◌-◌, ◌<◌, Bool, false, cond, eqb, List, [], ◌∷◌, ◌++◌, length, take, get_or, refl, sym, ap, ◌∙◌, append_assoc, append-nil, arith}
use Rattle.std.specs.List.{slice_split}
use Rattle.std.proofs.lemmas.List.{take_at, get_or_at, length_push}
use Rattle.std.proofs.lemmas.List.Splits.{slice_split_at, slice_split_none}
use Rattle.edge_io.specs.Lines.{is_newline, OneLine, AreLines, parts_of, whole_lines, last_part, lines_of}

pub lines_nil : AreLines [] []
lines_nil = λ _. refl

pub lines_more : (bytes line : List ℕ) (lines : List (List ℕ)) → OneLine line → AreLines bytes lines
    → AreLines (bytes ++ (line ++ 10 ∷ [])) (lines ++ line ∷ [])
lines_more bytes line lines one are rest =
    ap (slice_split is_newline) (append_assoc bytes (line ++ 10 ∷ []) rest)
    ∙ are ((line ++ 10 ∷ []) ++ rest)
    ∙ ap (λ (x : List ℕ). lines ++ slice_split is_newline x) (append_assoc line (10 ∷ []) rest)
    ∙ ap (λ (x : List (List ℕ)). lines ++ x) (slice_split_at is_newline line 10 rest one refl)
    ∙ sym (append_assoc lines (line ∷ []) (slice_split is_newline rest))

-- the parts of whole lines and a part of a line behind them
parts_at : (bytes part : List ℕ) (lines : List (List ℕ)) → AreLines bytes lines → OneLine part
    → parts_of (bytes ++ part) ≡ lines ++ part ∷ []
parts_at bytes part lines are one = are part ∙ ap (λ (x : List (List ℕ)). lines ++ x) (slice_split_none is_newline part one)

front_of_push : (lines : List (List ℕ)) (part : List ℕ) → take (length (lines ++ part ∷ []) - 1) (lines ++ part ∷ []) ≡ lines
front_of_push lines part = take_at lines (part ∷ []) _ (omega (arith, length_push lines part))

last_of_push : (lines : List (List ℕ)) (part : List ℕ) → get_or (lines ++ part ∷ []) (length (lines ++ part ∷ []) - 1) [] ≡ part
last_of_push lines part = get_or_at lines part [] [] _ (omega (arith, length_push lines part))

pub whole_lines_at : (bytes part : List ℕ) (lines : List (List ℕ)) → AreLines bytes lines → OneLine part
    → whole_lines (bytes ++ part) ≡ lines
whole_lines_at bytes part lines are one =
    ap (λ (x : List (List ℕ)). take (length x - 1) x) (parts_at bytes part lines are one) ∙ front_of_push lines part

last_part_at : (bytes part : List ℕ) (lines : List (List ℕ)) → AreLines bytes lines → OneLine part
    → last_part (bytes ++ part) ≡ part
last_part_at bytes part lines are one =
    ap (λ (x : List (List ℕ)). get_or x (length x - 1) []) (parts_at bytes part lines are one) ∙ last_of_push lines part

pub lines_of_last : (bytes part : List ℕ) (lines : List (List ℕ)) → AreLines bytes lines → OneLine part → 0 < length part
    → lines_of (bytes ++ part) ≡ lines ++ part ∷ []
lines_of_last bytes part lines are one some =
    let last = ap (λ (x : List ℕ). eqb (length x) 0) (last_part_at bytes part lines are one) in
    let test : eqb (length part) 0 ≡ false = grind arith in
    ap (λ (t : Bool). cond t (whole_lines (bytes ++ part)) (parts_of (bytes ++ part))) (last ∙ test)
    ∙ parts_at bytes part lines are one

pub lines_of_at : (bytes : List ℕ) (lines : List (List ℕ)) → AreLines bytes lines → lines_of bytes ≡ lines
lines_of_at bytes lines are =
    let none : OneLine [] = λ k d h. absurd (omega arith) in
    let last = ap (λ (x : List ℕ). eqb (length x) 0) (last_part_at bytes [] lines are none) in
    ap lines_of (sym (append-nil bytes))
    ∙ ap (λ (t : Bool). cond t (whole_lines (bytes ++ [])) (parts_of (bytes ++ []))) last
    ∙ whole_lines_at bytes [] lines are none

-- ---- worked examples: `a`, an empty line, and `b` with no newline

whole_lines_example : whole_lines (97 ∷ 10 ∷ 10 ∷ 98 ∷ []) ≡ (97 ∷ []) ∷ [] ∷ []
whole_lines_example = refl

lines_of_example : lines_of (97 ∷ 10 ∷ 10 ∷ 98 ∷ []) ≡ (97 ∷ []) ∷ [] ∷ (98 ∷ []) ∷ []
lines_of_example = refl

lines_of_ended : lines_of (97 ∷ 10 ∷ 10 ∷ []) ≡ (97 ∷ []) ∷ [] ∷ []
lines_of_ended = refl

lines_of_nothing : lines_of [] ≡ []
lines_of_nothing = refl
