-- The trees of a list by their sides.
use Rattle.std.proofs.Common.{◌≡◌, ◌+◌, Bool, true, false, ◌||◌, List, [], ◌∷◌, ◌++◌, map, refl, sym, ap, ◌∙◌, arith}
use Rattle.std.proofs.Math.Bool.{or_assoc}
use Rattle.std.specs.List.{AllByRecursion, list_all, list_any}
use Rattle.fol.specs.declared.symbols.Var.{Var}
use Rattle.lk_rules.specs.declared.sequent.Side.{Side}
use Rattle.lk_rules.specs.declared.sequent.Side.TheVariants.{Left, Right}
use Rattle.lk_rules.proofs.Subsequents.{and_left, and_right, and_both}
use Rattle.expansion_laws.specs.Expansions.{Exp}
use Rattle.expansion_laws.specs.Dependency.{Expansion, strongs, strongs_each, strongs_of}
use Rattle.building_laws.specs.Lists.{Placed, on, with_tree, trees_on, sides, start, strongs_in_list}
use Rattle.building_laws.proofs.Counting.{count, count-append}

-- the first list has the trees by their sides

none_left : (es : List Exp) → trees_on Left (map (on Right) es) ≡ []
none_left [] = refl
none_left (e ∷ es) = none_left es

all_right : (es : List Exp) → trees_on Right (map (on Right) es) ≡ es
all_right [] = refl
all_right (e ∷ es) = ap (λ fs. e ∷ fs) (all_right es)

start_left : (ds es : List Exp) → trees_on Left (map (on Left) ds ++ map (on Right) es) ≡ ds
start_left [] es = none_left es
start_left (d ∷ ds) es = ap (λ fs. d ∷ fs) (start_left ds es)

start_right : (ds es : List Exp) → trees_on Right (map (on Left) ds ++ map (on Right) es) ≡ es
start_right [] es = all_right es
start_right (d ∷ ds) es = start_right ds es

pub sides-start : (x : Expansion) → sides (start x) ≡ x
sides-start x = λ i. record { left = start_left x.left x.right i; right = start_right x.left x.right i }

-- tests

or_between : (a b c : Bool) → (a || (b || c)) ≡ (b || (a || c))
or_between true true c = refl
or_between true false c = refl
or_between false b c = refl

module _ (t : Side → Exp → Bool) where
  some_with : (s : Side) (e : Exp) (ds es : List Exp) → (t s e || (list_any (t Left) ds || list_any (t Right) es)) ≡ (list_any (t Left) (with_tree Left s e ds) || list_any (t Right) (with_tree Right s e es))
  some_with Left e ds es = sym (or_assoc (t Left e) (list_any (t Left) ds) (list_any (t Right) es))
  some_with Right e ds es = or_between (t Right e) (list_any (t Left) ds) (list_any (t Right) es)

  -- some tree passes where one does on the left or on the right
  pub any_sides : (l : List Placed) → list_any (λ p. t p.side p.tree) l ≡ (list_any (t Left) (trees_on Left l) || list_any (t Right) (trees_on Right l))
  any_sides [] = refl
  any_sides (p ∷ l) = ap (λ b. t p.side p.tree || b) (any_sides l) ∙ some_with p.side p.tree (trees_on Left l) (trees_on Right l)

  one_with : (s : Side) (e : Exp) (ds es : List Exp) → list_all (t Left) (with_tree Left s e ds) ≡ true → list_all (t Right) (with_tree Right s e es) ≡ true → t s e ≡ true
  one_with Left e ds es a b = and_left _ _ a
  one_with Right e ds es a b = and_left _ _ b

  others_with : (side s : Side) (e : Exp) (es : List Exp) → list_all (t side) (with_tree side s e es) ≡ true → list_all (t side) es ≡ true
  others_with Left Left e es a = and_right (t Left e) (list_all (t Left) es) a
  others_with Left Right e es a = a
  others_with Right Left e es a = a
  others_with Right Right e es a = and_right (t Right e) (list_all (t Right) es) a

  -- each tree passes where each does on the left and on the right
  pub all_sides : (l : List Placed) → list_all (t Left) (trees_on Left l) ≡ true → list_all (t Right) (trees_on Right l) ≡ true → AllByRecursion (λ p. t p.side p.tree ≡ true) l
  all_sides [] a b = tt
  all_sides (p ∷ l) a b = (
    one_with p.side p.tree (trees_on Left l) (trees_on Right l) a b,
    all_sides l (others_with Left p.side p.tree (trees_on Left l) a) (others_with Right p.side p.tree (trees_on Right l) b),
  )

  all_with : (side s : Side) (e : Exp) (es : List Exp) → t s e ≡ true → list_all (t side) es ≡ true → list_all (t side) (with_tree side s e es) ≡ true
  all_with Left Left e es a b = and_both _ _ a b
  all_with Left Right e es a b = b
  all_with Right Left e es a b = b
  all_with Right Right e es a b = and_both _ _ a b

  pub all_on : (side : Side) (l : List Placed) → AllByRecursion (λ p. t p.side p.tree ≡ true) l → list_all (t side) (trees_on side l) ≡ true
  all_on side [] h = refl
  all_on side (p ∷ l) h = all_with side p.side p.tree (trees_on side l) h.0 (all_on side l h.1)

-- variables

count_with : (v : Var) (s : Side) (e : Exp) (ds es : List Exp)
    → count v (strongs_each (with_tree Left s e ds)) + count v (strongs_each (with_tree Right s e es)) ≡ count v (strongs e) + (count v (strongs_each ds) + count v (strongs_each es))
count_with v Left e ds es = let sum = count-append v (strongs e) (strongs_each ds) in omega arith
count_with v Right e ds es = let sum = count-append v (strongs e) (strongs_each es) in omega arith

count_each : (v : Var) (l : List Placed) → count v (strongs_each (trees_on Left l)) + count v (strongs_each (trees_on Right l)) ≡ count v (strongs_in_list l)
count_each v [] = refl
count_each v (p ∷ l) =
    let rest = count_each v l in
    let first = count_with v p.side p.tree (trees_on Left l) (trees_on Right l) in
    let sum = count-append v (strongs p.tree) (strongs_in_list l) in
    omega arith

-- a variable stands as often in the trees by their sides
pub count-sides : (v : Var) (l : List Placed) → count v (strongs_of (sides l)) ≡ count v (strongs_in_list l)
count-sides v l = count-append v (strongs_each (trees_on Left l)) (strongs_each (trees_on Right l)) ∙ count_each v l
