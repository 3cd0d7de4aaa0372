-- The formula under the quantifier of a cut: what it says, and what it says of a term.
use Rattle.std.proofs.Common.{◌≡◌, ℕ, max, Bool, true, false, not as negated, ◌&&◌, ◌==◌, if◌then◌else◌, List, [], ◌∷◌, ◌++◌, map, get_or, unwrap_or, refl, sym, ap, ◌∙◌}
use Rattle.std.specs.List.{All, list_all, list_any}
use Rattle.std.specs.FinMap as fin
use Rattle.std.proofs.Math.Bool.{not-not}
use Rattle.std.proofs.lemmas.List.{map-append}
use Rattle.std.proofs.lemmas.List.Elements.{All-nil, All-head, All-tail, All-map, All-weaker, All-filter}
use Rattle.std.proofs.lemmas.List.Sums.{AllPass-from_list_all, list_all-from_AllPass}
use borrow.Author.Tests.{eqb-true}
use Rattle.fol.specs.declared.symbols.Sym.{Sym}
use Rattle.fol.specs.declared.symbols.Var.{Var}
use Rattle.fol.specs.Syntax.{Term, free, app, Terms, nil, cons, Formula, atom, top, bot, not, and, or, imp, all, ex}
use Rattle.fol.specs.Formed.{is_formed, is_formed_term, is_formed_term_at, are_formed_terms_at, is_formed_var, count_terms}
use Rattle.free_variables.specs.Occurrence.{is_free_in_terms}
use Rattle.substitution.specs.Instance.{inst_term_at, nesting}
use Rattle.substitution.specs.Image.{image, image_term, image_terms}
use Rattle.substitution.specs.Maps.{only}
use Rattle.substitution.specs.Closed.{IsClosedMap}
use Rattle.substitution.proofs.ClosedLaws.{closed_term_of}
use Rattle.substitution.proofs.ImageLaws.{image-inst_term_at, image-inst_at, own_binding, away_term, image-empty_term, closed_insert, closed_empty}
use Rattle.substitution.proofs.InstanceFormed.{formed-inst}
use Rattle.lk_rules.specs.declared.sequent.Sequent.{Sequent}
use Rattle.lk_rules.specs.declared.sequent.Side.{Side}
use Rattle.lk_rules.specs.declared.sequent.Side.TheVariants.{Left, Right}
use Rattle.lk_rules.specs.Sequents.{is_free_in_sequent}
use Rattle.lk_rules.proofs.Subsequents.{and_left, and_right, and_both}
use Rattle.cut_laws.proofs.Sides.{stays_in, neither_first, neither_second}
use Rattle.search_laws.specs.Truth.{Assignment, value, has_quantifier}
use Rattle.search_laws.proofs.Tests.{neither, not-or, not_true, not_false}
use Rattle.expansion_laws.specs.Helping.{helps}
use Rattle.herbrand_laws.specs.Herbrand.{is_prenex, instance_of, matrix_instance, Item, quantifiers}
use Rattle.herbrand_laws.specs.Patterns.{put, TermSet}
use Rattle.herbrand_laws.specs.Candidates.{patterns, uncovered, rest}
use Rattle.herbrand_laws.specs.Introduction.{Instance, by_tuple, instances_by, matrix_of, assumed, chained, conjunction, instances_at, matrix_at}
use Rattle.herbrand_laws.proofs.Lists.{all-flat_map}
use Rattle.herbrand_laws.proofs.Matrices.{matrix_plain}
use Rattle.herbrand_laws.proofs.Rows.{Fits, fits_pattern, patterns_fit, formed_other, count-put}
use Rattle.herbrand_laws.proofs.RulesOver.{Stands}
use Rattle.herbrand_laws.proofs.Instances.{IsInstance}

-- conjunctions

and-true : (b : Bool) → b ≡ (b && true)
and-true true = refl
and-true false = refl

and-regrouped : (b c d : Bool) → ((b && c) && d) ≡ (b && (c && d))
and-regrouped true c d = refl
and-regrouped false c d = refl

module _ (a : Assignment) where
  value-chained : (f : Formula) (gs : List Formula) → value a (chained f gs) ≡ (value a f && list_all (value a) gs)
  value-chained f [] = and-true (value a f)
  value-chained f (g ∷ gs) = value-chained (and f g) gs ∙ and-regrouped (value a f) (value a g) (list_all (value a) gs)

  value-conjunction : (fs : List Formula) → value a (conjunction fs) ≡ list_all (value a) fs
  value-conjunction [] = refl
  value-conjunction (f ∷ fs) = value-chained f fs

  -- what is assumed of a formula on a side is true just where it doesn't help there
  value-assumed : (side : Side) (f : Formula) → value a (assumed side f) ≡ negated (helps a side f)
  value-assumed Left f = sym (not-not (value a f))
  value-assumed Right f = refl

  abbrev pub instance_helps : Instance → Bool
  instance_helps j = helps a j.side (matrix_of j)

  none_helps : (js : List Instance) → list_all (value a) (map (λ j. assumed j.side (matrix_of j)) js) ≡ negated (list_any instance_helps js)
  none_helps [] = refl
  none_helps (j ∷ js) = (λ i. value-assumed j.side (matrix_of j) i && none_helps js i) ∙ sym (not-or (instance_helps j) (list_any instance_helps js))

  -- the matrix is true just where none of the instances helps
  pub value-matrix : (width : ℕ) (items : List Item) (w : TermSet) (t : Term) → value a (matrix_at width items w t) ≡ negated (list_any instance_helps (instances_at width items w t))
  value-matrix width items w t = value-conjunction (map (λ j. assumed j.side (matrix_of j)) (instances_at width items w t)) ∙ none_helps (instances_at width items w t)

plain_chained : (f : Formula) (gs : List Formula) → has_quantifier f ≡ false → list_all (λ g. negated (has_quantifier g)) gs ≡ true → has_quantifier (chained f gs) ≡ false
plain_chained f [] h k = h
plain_chained f (g ∷ gs) h k = plain_chained (and f g) gs (neither _ _ h (not_true _ (and_left _ _ k))) (and_right (negated (has_quantifier g)) _ k)

plain_conjunction : (fs : List Formula) → list_all (λ g. negated (has_quantifier g)) fs ≡ true → has_quantifier (conjunction fs) ≡ false
plain_conjunction [] k = refl
plain_conjunction (f ∷ fs) k = plain_chained f fs (not_true _ (and_left _ _ k)) (and_right (negated (has_quantifier f)) _ k)

formed_chained : (f : Formula) (gs : List Formula) → is_formed f ≡ true → list_all is_formed gs ≡ true → is_formed (chained f gs) ≡ true
formed_chained f [] h k = h
formed_chained f (g ∷ gs) h k = formed_chained (and f g) gs (and_both _ _ h (and_left _ _ k)) (and_right (is_formed g) _ k)

formed_conjunction : (fs : List Formula) → list_all is_formed fs ≡ true → is_formed (conjunction fs) ≡ true
formed_conjunction [] k = refl
formed_conjunction (f ∷ fs) k = formed_chained f fs (and_left _ _ k) (and_right (is_formed f) _ k)

image-chained : (m : Var → _) (f : Formula) (gs : List Formula) → image m (chained f gs) ≡ chained (image m f) (map (image m) gs)
image-chained m f [] = refl
image-chained m f (g ∷ gs) = image-chained m (and f g) gs

image-conjunction : (m : Var → _) (fs : List Formula) → image m (conjunction fs) ≡ conjunction (map (image m) fs)
image-conjunction m [] = refl
image-conjunction m (f ∷ fs) = image-chained m f fs

-- instances

formed_instance : (f : Formula) (t : Term) → is_formed f ≡ true → is_formed_term_at 0 t ≡ true → is_formed (instance_of f t) ≡ true
formed_instance (all b) t f g = formed-inst b t f g
formed_instance (ex b) t f g = formed-inst b t f g
formed_instance q t f g = f

pub formed_matrix : (us : Terms) (f : Formula) → is_formed f ≡ true → are_formed_terms_at 0 us ≡ true → is_formed (matrix_instance us f) ≡ true
formed_matrix nil f h g = h
formed_matrix (cons t us) f h g = formed_matrix us (instance_of f t) (formed_instance f t h (and_left _ _ g)) (and_right (is_formed_term_at 0 t) _ g)

plain_assumed : (side : Side) (f : Formula) → has_quantifier f ≡ false → has_quantifier (assumed side f) ≡ false
plain_assumed Left f h = h
plain_assumed Right f h = h

formed_assumed : (side : Side) (f : Formula) → is_formed f ≡ true → is_formed (assumed side f) ≡ true
formed_assumed Left f h = h
formed_assumed Right f h = h

-- an instance has no quantifier
pub instance_plain : (s : Sequent) (j : Instance) → IsInstance s j → has_quantifier (matrix_of j) ≡ false
instance_plain s j h = matrix_plain j.side j.tuple j.formula h.counted h.prenex

module _ (s : Sequent) (js : List Instance) (h : All (IsInstance s) js) where
  pub plain_instances : has_quantifier (conjunction (map (λ j. assumed j.side (matrix_of j)) js)) ≡ false
  plain_instances =
      plain_conjunction (map (λ j. assumed j.side (matrix_of j)) js) (list_all-from_AllPass (λ g. negated (has_quantifier g)) (map (λ j. assumed j.side (matrix_of j)) js)
      (All-map (λ g. negated (has_quantifier g) ≡ true) (λ j. assumed j.side (matrix_of j)) js
      (All-weaker (IsInstance s) (λ j. negated (has_quantifier (assumed j.side (matrix_of j))) ≡ true) (λ j i. not_false _ (plain_assumed j.side (matrix_of j) (instance_plain s j i))) js h)))

  pub formed_instances : is_formed (conjunction (map (λ j. assumed j.side (matrix_of j)) js)) ≡ true
  formed_instances =
      formed_conjunction (map (λ j. assumed j.side (matrix_of j)) js) (list_all-from_AllPass is_formed (map (λ j. assumed j.side (matrix_of j)) js)
      (All-map (λ g. is_formed g ≡ true) (λ j. assumed j.side (matrix_of j)) js
      (All-weaker (IsInstance s) (λ j. is_formed (assumed j.side (matrix_of j)) ≡ true) (λ j i. formed_assumed j.side (matrix_of j) (formed_matrix j.tuple j.formula i.formed i.terms)) js h)))

-- formulas without quantifiers have none inside one another
pub plain_nesting : (f : Formula) → has_quantifier f ≡ false → nesting f ≡ 0
plain_nesting (atom s ts) h = refl
plain_nesting top h = refl
plain_nesting bot h = refl
plain_nesting (not f) h = plain_nesting f h
plain_nesting (and f g) h = (λ i. max (plain_nesting f (neither_first (has_quantifier f) _ h) i) (plain_nesting g (neither_second (has_quantifier f) _ h) i))
plain_nesting (or f g) h = (λ i. max (plain_nesting f (neither_first (has_quantifier f) _ h) i) (plain_nesting g (neither_second (has_quantifier f) _ h) i))
plain_nesting (imp f g) h = (λ i. max (plain_nesting f (neither_first (has_quantifier f) _ h) i) (plain_nesting g (neither_second (has_quantifier f) _ h) i))
plain_nesting (all f) h = cc
plain_nesting (ex f) h = cc

-- images under a map

image-instance : (m : Var → _) → IsClosedMap m → (f : Formula) (t : Term) → image m (instance_of f t) ≡ instance_of (image m f) (image_term m t)
image-instance m c (all b) t = image-inst_at m c t b 0
image-instance m c (ex b) t = image-inst_at m c t b 0
image-instance m c f t = refl

image-matrix : (m : Var → _) → IsClosedMap m → (us : Terms) (f : Formula) → image m (matrix_instance us f) ≡ matrix_instance (image_terms m us) (image m f)
image-matrix m c nil f = refl
image-matrix m c (cons t us) f = image-matrix m c us (instance_of f t) ∙ ap (matrix_instance (image_terms m us)) (image-instance m c f t)

image-assumed : (m : Var → _) (side : Side) (f : Formula) → image m (assumed side f) ≡ assumed side (image m f)
image-assumed m Left f = refl
image-assumed m Right f = refl

-- a symbol that makes one term of several: its name doesn't matter
abbrev any_symbol : Sym
any_symbol = record { name = []; arity = 0 }

-- a term for a variable that a pattern doesn't have is as one for the variable of the pattern
image-put : (y : Var) (t : Term) (p : Terms) → is_formed_term_at 0 t ≡ true → is_free_in_terms y p ≡ false → image_terms (fin.get (only y t)) (put p (free y)) ≡ put p t
image-put y t p f out =
    let m = fin.get (only y t) in
    let c : IsClosedMap m = closed_insert fin.empty y t closed_empty (closed_term_of t 0 f) in
    let same : image_term m (app any_symbol p) ≡ app any_symbol p = away_term fin.empty y t (app any_symbol p) out ∙ image-empty_term (app any_symbol p) in
    let own : image_term m (free y) ≡ t = ap (λ o. unwrap_or o (free y)) (own_binding fin.empty y t) in
    let whole : app any_symbol (image_terms m (put p (free y))) ≡ app any_symbol (put p t) =
    image-inst_term_at m c (free y) (app any_symbol p) 0 ∙ (λ i. inst_term_at (own i) 0 (same i)) in
    cc

-- an item: a formula of the sequent, whose tuples don't have the variable
pub record IsItem (y : Var) (s : Sequent) (i : Item) : Type 0 where
  pub stands : Stands s i.side i.formula
  pub prenex : is_prenex i.side i.formula ≡ true
  pub formed : is_formed i.formula ≡ true
  pub fits : All (Fits y (quantifiers i)) i.tuples

-- the instances of items
pub all_instances : (y : Var) (s : Sequent) (pick : Item → List Terms) (items : List Item) → All (λ i. All (λ us. IsInstance s (by_tuple i us)) (pick i)) items → All (IsInstance s) (instances_by pick items)
all_instances y s pick items h =
    all-flat_map (IsInstance s) (λ i. map (by_tuple i) (pick i)) items (λ k d l. All-map (IsInstance s) (by_tuple (get_or items k d)) (pick (get_or items k d)) (h k d l))

module _ (y : Var) (s : Sequent) (formed_y : is_formed_var y ≡ true) where
  pattern_instance : (i : Item) → IsItem y s i → (p : Terms) → fits_pattern y (quantifiers i) p ≡ true → (t : Term) → is_formed_term t ≡ true → IsInstance s (by_tuple i (put p t))
  pattern_instance i h p f t g = record {
    stands = h.stands;
    prenex = h.prenex;
    counted = count-put t p ∙ eqb-true (count_terms p) (quantifiers i) (and_right (are_formed_terms_at 0 (put p (free y))) _ (and_left _ _ f));
    formed = h.formed;
    terms = formed_other (free y) t p g (and_left _ _ (and_left _ (negated (is_free_in_terms y p)) f));
  }

  -- those by patterns with a term
  pub instances_at_are : (width : ℕ) (items : List Item) → All (IsItem y s) items → (w : TermSet) (t : Term) → is_formed_term t ≡ true → All (IsInstance s) (instances_at width items w t)
  instances_at_are width items h w t g =
      all_instances y s (λ i. map (λ p. put p t) (patterns width w i)) items
      (All-weaker (IsItem y s) (λ i. All (λ us. IsInstance s (by_tuple i us)) (map (λ p. put p t) (patterns width w i)))
      (λ i item.
      All-map (λ us. IsInstance s (by_tuple i us)) (λ p. put p t) (patterns width w i)
      (All-weaker (λ p. fits_pattern y (quantifiers i) p ≡ true) (λ p. IsInstance s (by_tuple i (put p t))) (λ p f. pattern_instance i item p f t g) (patterns width w i)
      (AllPass-from_list_all (fits_pattern y (quantifiers i)) (patterns width w i) (patterns_fit y formed_y width (quantifiers i) w i item.fits))))
      items h)

  -- and those of the tuples that aren't covered

  uncovered_are : (width : ℕ) (w : TermSet) (i : Item) → IsItem y s i → All (λ us. IsInstance s (by_tuple i us)) (uncovered width w i)
  uncovered_are width w i item =
      All-filter _ (λ us. IsInstance s (by_tuple i us)) i.tuples
      (All-weaker (Fits y (quantifiers i)) (λ us. IsInstance s (by_tuple i us))
      (λ us f. record { stands = item.stands; prenex = item.prenex; counted = f.counted; formed = item.formed; terms = f.formed }) i.tuples item.fits)

  rest_of_item : (width : ℕ) (w : TermSet) (i : Item) → IsItem y s i → All (λ us. IsInstance s (by_tuple i us)) (rest width w i)
  rest_of_item width w i item = elim (quantifiers i == 0) as (λ b. All (λ us. IsInstance s (by_tuple i us)) (if b then [] else uncovered width w i)) [
    | true ↦ All-nil _
    | false ↦ uncovered_are width w i item
  ]

  pub rest_are : (width : ℕ) (items : List Item) → All (IsItem y s) items → (w : TermSet) → All (IsInstance s) (instances_by (rest width w) items)
  rest_are width items h w =
      all_instances y s (rest width w) items (All-weaker (IsItem y s) (λ i. All (λ us. IsInstance s (by_tuple i us)) (rest width w i)) (rest_of_item width w) items h)

  -- a term for the variable in the matrix is one for the variable of the patterns
  module _ (out : is_free_in_sequent y s ≡ false) (t : Term) (formed_t : is_formed_term t ≡ true) where
    abbrev says : Instance → Formula
    says j = assumed j.side (matrix_of j)

    image_says : (i : Item) → IsItem y s i → (p : Terms) → fits_pattern y (quantifiers i) p ≡ true → image (fin.get (only y t)) (says (by_tuple i (put p (free y)))) ≡ says (by_tuple i (put p t))
    image_says i h p f =
        let m = fin.get (only y t) in
        let c : IsClosedMap m = closed_insert fin.empty y t closed_empty (closed_term_of t 0 formed_t) in
        image-assumed m i.side (matrix_instance (put p (free y)) i.formula)
        ∙ ap (assumed i.side)
        (image-matrix m c (put p (free y)) i.formula
        ∙ (λ k. matrix_instance (image-put y t p formed_t (not_true _ (and_right (are_formed_terms_at 0 (put p (free y)) && count_terms p == quantifiers i) _ f)) k) (stays_in y t s i.side i.formula out h.stands k)))

    image_patterns : (i : Item) → IsItem y s i → (ps : List Terms) → list_all (fits_pattern y (quantifiers i)) ps ≡ true
        → map (image (fin.get (only y t))) (map says (map (by_tuple i) (map (λ p. put p (free y)) ps))) ≡ map says (map (by_tuple i) (map (λ p. put p t) ps))
    image_patterns i h [] f = refl
    image_patterns i h (p ∷ ps) f = λ k. image_says i h p (and_left _ _ f) k ∷ image_patterns i h ps (and_right (fits_pattern y (quantifiers i) p) _ f) k

    image_items : (width : ℕ) (w : TermSet) (items : List Item) → All (IsItem y s) items → map (image (fin.get (only y t))) (map says (instances_at width items w (free y))) ≡ map says (instances_at width items w t)
    image_items width w [] h = refl
    image_items width w (i ∷ items) h =
        let m = fin.get (only y t) in
        let here = All-head (IsItem y s) i items h in
        let one = map (by_tuple i) (map (λ p. put p (free y)) (patterns width w i)) in
        ap (map (image m)) (map-append says one (instances_at width items w (free y)))
        ∙ (map-append (image m) (map says one) (map says (instances_at width items w (free y)))
        ∙ ((λ k. image_patterns i here (patterns width w i) (patterns_fit y formed_y width (quantifiers i) w i here.fits) k ++ image_items width w items (All-tail (IsItem y s) i items h) k)
        ∙ sym (map-append says (map (by_tuple i) (map (λ p. put p t) (patterns width w i))) (instances_at width items w t))))

    pub image-matrix_at : (width : ℕ) (w : TermSet) (items : List Item) → All (IsItem y s) items → image (fin.get (only y t)) (matrix_at width items w (free y)) ≡ matrix_at width items w t
    image-matrix_at width w items h = image-conjunction (fin.get (only y t)) (map says (instances_at width items w (free y))) ∙ ap conjunction (image_items width w items h)
