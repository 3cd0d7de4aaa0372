-- A tree that helps has a tuple whose matrix instance helps.
use Rattle.std.proofs.Common.{◌≡◌, ℕ, suc, Bool, true, false, not, ◌&&◌, List, [], ◌∷◌, map, refl, sym, ap, ◌∙◌, arith}
use Rattle.std.specs.List.{list_any}
use Rattle.std.proofs.lemmas.List.Folds.{list_any-append}
use Rattle.fol.specs.Syntax.{Term, free, Terms, nil, cons, Formula, all, ex}
use Rattle.fol.specs.Facts.{has_body}
use Rattle.lk_rules.specs.declared.sequent.Side.{Side}
use Rattle.lk_rules.specs.declared.sequent.Side.TheVariants.{Left, Right}
use Rattle.lk_rules.proofs.Subsequents.{and_left, and_right, and_both}
use Rattle.proof_trees.proofs.Booleans.{or_first, or_second, either}
use Rattle.cut_laws.proofs.Sides.{neither_first, neither_second}
use Rattle.proof_trees.proofs.FormulaSets.{equal}
use Rattle.search_laws.specs.Truth.{Assignment, has_quantifier}
use Rattle.search_laws.proofs.Tests.{clash, not_true}
use Rattle.expansion_laws.specs.Expansions.{Exp, wk, leaf, neg, conj, disj, impl, weak, strong, Insts, none, more, shallow, turn}
use Rattle.expansion_laws.specs.Building.{is_flat, is_instance, is_quantified, is_below, is_built, are_built}
use Rattle.expansion_laws.specs.Helping.{helps, conjoined, disjoined, helped, some_helped}
use Rattle.expansion_laws.specs.Proofs.{is_weak_on, is_strong_on, stands, stand_in}
use Rattle.expansion_laws.proofs.Helping.{helps-not, helps-and, helps-or, helps-imp}
use Rattle.herbrand_laws.specs.Herbrand.{is_prenex, prefix, instance_of, matrix_instance, tuples, tuples_in, tuples_on}
use Rattle.herbrand_laws.proofs.Lists.{any-map}
use Rattle.herbrand_laws.proofs.Matrices.{next_prefix, next_prenex}

-- parts that help more

conjoined_more : (s : Side) (b c d e : Bool) → (b ≡ true → d ≡ true) → (c ≡ true → e ≡ true) → conjoined s b c ≡ true → conjoined s d e ≡ true
conjoined_more Left b c d e f g h = either b c (λ x. or_first d e (f x)) (λ x. or_second d e (g x)) h
conjoined_more Right b c d e f g h = and_both d e (f (and_left b c h)) (g (and_right b c h))

disjoined_more : (s : Side) (b c d e : Bool) → (b ≡ true → d ≡ true) → (c ≡ true → e ≡ true) → disjoined s b c ≡ true → disjoined s d e ≡ true
disjoined_more Left b c d e f g h = and_both d e (f (and_left b c h)) (g (and_right b c h))
disjoined_more Right b c d e f g h = either b c (λ x. or_first d e (f x)) (λ x. or_second d e (g x)) h

-- a quantified formula has a quantifier
quantified : (f : Formula) → is_quantified f ≡ true → has_quantifier f ≡ true
quantified (all f) e = refl
quantified (ex f) e = refl
quantified f e = cc

-- as has one that has an instance
has_instance : (f g : Formula) (t : Term) → is_instance f t g ≡ true → has_quantifier f ≡ true
has_instance (all f) g t e = refl
has_instance (ex f) g t e = refl
has_instance f g t e = cc

-- the formula of a child at a quantifier is the instance
the_instance : (f g : Formula) (t : Term) → is_instance f t g ≡ true → g ≡ instance_of f t
the_instance (all f) g t e = equal g _ e
the_instance (ex f) g t e = equal g _ e
the_instance f g t e = cc

-- no weak quantifier stands in front where a strong one does
no_strong : (s : Side) (f : Formula) → is_strong_on s f ≡ true → is_prenex s f ≡ false
no_strong Left (ex f) e = refl
no_strong Right (all f) e = refl
no_strong s f e = cc

-- a formula without a quantifier at its head

flat_front : (f : Formula) → is_flat f ≡ true → is_quantified f ≡ false
flat_front (all f) e = cc
flat_front (ex f) e = cc
flat_front f e = refl

no_prefix : (s : Side) (f : Formula) → is_quantified f ≡ false → prefix s f ≡ 0
no_prefix Left (all f) e = cc
no_prefix Right (ex f) e = cc
no_prefix s f e = refl

plain_front : (s : Side) (f : Formula) → is_quantified f ≡ false → is_prenex s f ≡ true → has_quantifier f ≡ false
plain_front Left (all f) e q = cc
plain_front Right (ex f) e q = cc
plain_front s f e q = not_true (has_quantifier f) (and_left (not (has_quantifier f)) (not (has_body f)) q)

-- a weakly quantified formula has one quantifier and more
counted_front : (s : Side) (f : Formula) → is_weak_on s f ≡ true → (n : ℕ) × (prefix s f ≡ suc n)
counted_front Left (all f) e = (prefix Left f, refl)
counted_front Right (ex f) e = (prefix Right f, refl)
counted_front s f e = cc

module _ (a : Assignment) where
  -- where a tree of a formula without quantifiers helps, its formula does
  plain_helps : (s : Side) (e : Exp) → is_built e ≡ true → has_quantifier (shallow e) ≡ false → helped a s e ≡ true → helps a s (shallow e) ≡ true
  plain_helps s (wk f) b q h = cc
  plain_helps s (leaf f) b q h = h
  plain_helps s (neg e) b q h = helps-not a s (shallow e) ∙ plain_helps (turn s) e b q h
  plain_helps s (conj d e) b q h =
      helps-and a s (shallow d) (shallow e)
      ∙ conjoined_more s (helped a s d) (helped a s e) _ _
      (plain_helps s d (and_left (is_built d) (is_built e) b) (neither_first (has_quantifier (shallow d)) _ q))
      (plain_helps s e (and_right (is_built d) (is_built e) b) (neither_second (has_quantifier (shallow d)) _ q))
      h
  plain_helps s (disj d e) b q h =
      helps-or a s (shallow d) (shallow e)
      ∙ disjoined_more s (helped a s d) (helped a s e) _ _
      (plain_helps s d (and_left (is_built d) (is_built e) b) (neither_first (has_quantifier (shallow d)) _ q))
      (plain_helps s e (and_right (is_built d) (is_built e) b) (neither_second (has_quantifier (shallow d)) _ q))
      h
  plain_helps s (impl d e) b q h =
      helps-imp a s (shallow d) (shallow e)
      ∙ disjoined_more s (helped a (turn s) d) (helped a s e) _ _
      (plain_helps (turn s) d (and_left (is_built d) (is_built e) b) (neither_first (has_quantifier (shallow d)) _ q))
      (plain_helps s e (and_right (is_built d) (is_built e) b) (neither_second (has_quantifier (shallow d)) _ q))
      h
  plain_helps s (weak f is) b q h = clash (has_quantifier f) (quantified f (and_left (is_quantified f) (are_built f is) b)) q
  plain_helps s (strong f y e) b q h = clash (has_quantifier f) (has_instance f (shallow e) (free y) (and_left (is_instance f (free y) (shallow e)) (is_built e) b)) q

  -- whether the matrix instance of a formula by some of the tuples helps
  abbrev pub some_tuple_helps : Side → Formula → List Terms → Bool
  some_tuple_helps s f uss = list_any (λ us. helps a s (matrix_instance us f)) uss

  -- a tree of a formula without quantifiers has the empty tuple
  one_tuple : (s : Side) (e : Exp) → is_built e ≡ true → is_prenex s (shallow e) ≡ true → tuples 0 e ≡ nil ∷ [] → is_quantified (shallow e) ≡ false → helped a s e ≡ true
      → some_tuple_helps s (shallow e) (tuples_on s e) ≡ true
  one_tuple s e b q one front h =
      ap (some_tuple_helps s (shallow e)) (ap (λ n. tuples n e) (no_prefix s (shallow e) front) ∙ one)
      ∙ or_first (helps a s (shallow e)) false (plain_helps s e b (plain_front s (shallow e) front q) h)

  -- a child at a weak quantifier has the tuples without their first term
  child_helps : (s : Side) (f : Formula) (n : ℕ) (t : Term) (e : Exp) → is_weak_on s f ≡ true → prefix s f ≡ suc n → is_prenex s f ≡ true → shallow e ≡ instance_of f t
      → (is_prenex s (shallow e) ≡ true → some_tuple_helps s (shallow e) (tuples_on s e) ≡ true) → some_tuple_helps s (instance_of f t) (tuples n e) ≡ true
  child_helps s f n t e w c q same below =
      let next = next_prefix s f t w in
      let there = ap (prefix s) same in
      let number : n ≡ prefix s (shallow e) = omega arith in
      (λ i. some_tuple_helps s (sym same i) (tuples (number i) e))
      ∙ below (ap (is_prenex s) same ∙ (next_prenex s f t w ∙ q))

  mutual
    -- where a tree helps, so does the matrix instance by one of its tuples
    pub tuple_helps : (s : Side) (e : Exp) → is_built e ≡ true → stands s e ≡ true → is_prenex s (shallow e) ≡ true → helped a s e ≡ true → some_tuple_helps s (shallow e) (tuples_on s e) ≡ true
    tuple_helps s (wk f) b p q h = cc
    tuple_helps s (leaf f) b p q h = one_tuple s (leaf f) b q refl (flat_front f b) h
    tuple_helps s (neg e) b p q h = one_tuple s (neg e) b q refl refl h
    tuple_helps s (conj d e) b p q h = one_tuple s (conj d e) b q refl refl h
    tuple_helps s (disj d e) b p q h = one_tuple s (disj d e) b q refl refl h
    tuple_helps s (impl d e) b p q h = one_tuple s (impl d e) b q refl refl h
    tuple_helps s (weak f is) b p q h =
        let w = and_left (is_weak_on s f) (stand_in s is) p in
        let c = counted_front s f w in
        ap (λ n. some_tuple_helps s f (tuples n (weak f is))) c.1
        ∙ instance_helps s f c.0 w c.1 q is (and_right (is_quantified f) (are_built f is) b) (and_right (is_weak_on s f) (stand_in s is) p) h
    tuple_helps s (strong f y e) b p q h = clash (is_prenex s f) q (no_strong s f (and_left (is_strong_on s f) (stands s e) p))

    instance_helps : (s : Side) (f : Formula) (n : ℕ) → is_weak_on s f ≡ true → prefix s f ≡ suc n → is_prenex s f ≡ true → (is : Insts) → are_built f is ≡ true → stand_in s is ≡ true
        → some_helped a s is ≡ true → some_tuple_helps s f (tuples_in n is) ≡ true
    instance_helps s f n w c q none b p h = cc
    instance_helps s f n w c q (more t e is) b p h =
        let child = and_left (is_instance f t (shallow e) && is_built e) (is_below t is && are_built f is) b in
        list_any-append _ (map (cons t) (tuples n e)) (tuples_in n is)
        ∙ either (helped a s e) (some_helped a s is)
        (λ here. or_first _ (some_tuple_helps s f (tuples_in n is))
        (any-map _ (cons t) (tuples n e)
        ∙ child_helps s f n t e w c q (the_instance f (shallow e) t (and_left (is_instance f t (shallow e)) (is_built e) child))
        (λ r. tuple_helps s e (and_right (is_instance f t (shallow e)) (is_built e) child) (and_left (stands s e) (stand_in s is) p) r here)))
        (λ later. or_second (some_tuple_helps s f (map (cons t) (tuples n e))) _
        (instance_helps s f n w c q is (and_right (is_below t is) (are_built f is) (and_right (is_instance f t (shallow e) && is_built e) _ b)) (and_right (stands s e) (stand_in s is) p) later))
        h
