-- The proofs of input clauses under maps: a map's terms come where the variables were, and a variable that is free in such a proof is free
-- in a literal.
use Rattle.std.proofs.Common.{◌≡◌, ℕ, Bool, true, false, ◌||◌, List, [], ◌∷◌, map, Option, refl, sym, ap, ◌∙◌}
use Rattle.std.specs.Prelude.{Some, slice_get}
use Rattle.std.specs.FinMap as fin
use Rattle.std.specs.List.{All, list_any}
use Rattle.std.specs.Ordering.{eq_by_cmp}
use Rattle.std.proofs.lemmas.Bool.{false≢true}
use Rattle.std.proofs.lemmas.List.Elements.{All-head, All-tail}
use Rattle.fol.specs.declared.symbols.Var.{Var}
use Rattle.fol.specs.Syntax.{Term, free, Formula, bot, not, or, all}
use Rattle.fol.specs.Order.{var_cmp, formula_cmp}
use Rattle.fol.specs.OrderLaws.{formula_total}
use Rattle.finite.specs.Finite as set
use Rattle.finite.proofs.Finite.{has-listing, has-empty, has-adds}
use Rattle.free_variables.specs.Union.{union_of}
use Rattle.free_variables.specs.Occurrence.{is_free_in, var_list}
use Rattle.free_variables.proofs.OccurrenceLaws.{is_free-var_list}
use Rattle.substitution.specs.Closed.{IsClosedMap}
use Rattle.substitution.specs.Instance.{inst}
use Rattle.substitution.specs.Image.{image, image_term}
use Rattle.substitution.specs.Maps.{Map}
use Rattle.substitution.proofs.FreeLaws.{free_from-inst_at}
use Rattle.substitution.proofs.ImageLaws.{image-inst_at, untouched}
use Rattle.lk_rules.specs.declared.sequent.Sequent.{Sequent}
use Rattle.lk_rules.specs.declared.sequent.Side.{Side}
use Rattle.lk_rules.specs.declared.sequent.Side.TheVariants.{Left, Right}
use Rattle.lk_rules.specs.declared.rule.Rule.TheVariants.{Ax, NegL, OrL, AllL}
use Rattle.lk_rules.specs.Formulas.{FormulaSet, image_set}
use Rattle.lk_rules.specs.Sequents.{empty, adds_to, is_free_in_sequent, union_sequent, image_sequent}
use Rattle.proof_trees.specs.Trees.{node, none, more}
use Rattle.proof_trees.specs.FreeVariables.{is_free_in_tree}
use Rattle.proof_trees.specs.Substitution.{sub}
use Rattle.proof_trees.proofs.Booleans.{or_first, or_second, either, or_more}
use Rattle.proof_trees.proofs.Members.{from_some, some_passes, image_member, image_within}
use Rattle.refutations.specs.declared.clause.Clause.{Clause}
use Rattle.refutations.specs.Clauses.{literals_of, IsClauseOf, closure_of, closures}
use Rattle.refutations.specs.Refutations.{over_literals, body_of, over_instances, of_input}
use Rattle.proof_trees.proofs.FormulaSets.{equal, same_sets, in_first, in_second, in_either, added, stays, image-union_sequent}
use Rattle.refutations.proofs.Closures.{among_first, none_free, has-closures, image-closures}
use Rattle.refutations.proofs.Derivations.{found_in}
use Rattle.image_laws.specs.Terms.{over_terms}

-- with the variables themselves as terms it is the proof of the input clause
pub over_terms-variables : (s : Sequent) (xs : List Var) (f : Formula) → over_terms s (map free xs) f ≡ over_instances s xs f
over_terms-variables s [] f = refl
over_terms-variables s (x ∷ xs) f =
    ap (λ t. node (AllL f (free x)) s (more t none)) (over_terms-variables (adds_to s Left (inst (body_of f) (free x))) xs (inst (body_of f) (free x)))

-- the image of a set with one formula more

module _ (m : Var → Option Term) (s : FormulaSet) (f : Formula) where
  added_in_image : (q : Formula) → set.has (set.adds (image_set m s) (image m f)) q ≡ true → set.has (image_set m (set.adds s f)) q ≡ true
  added_in_image q h =
      either (eq_by_cmp formula_cmp q (image m f)) (set.has (image_set m s) q)
      (λ tie. ap (set.has (image_set m (set.adds s f))) (equal q (image m f) tie) ∙ image_member m (set.adds s f) f (added s f))
      (image_within m s (set.adds s f) [] (stays s f) q)
      (sym (has-adds formula_total (image_set m s) (image m f) q) ∙ h)

  image-adds : image_set m (set.adds s f) ≡ set.adds (image_set m s) (image m f)
  image-adds = same_sets _ _ (image_within m (set.adds s f) s (f ∷ []) (λ q e. e)) added_in_image

pub image-adds_to : (m : Var → Option Term) (s : Sequent) (side : Side) (f : Formula) → image_sequent m (adds_to s side f) ≡ adds_to (image_sequent m s) side (image m f)
image-adds_to m s Left f = λ i. record { left = image-adds m s.left f i; right = image_set m s.right }
image-adds_to m s Right f = λ i. record { left = image_set m s.left; right = image-adds m s.right f i }

-- of a disjunction of literals

over_added : (m : Map) (s : Sequent) (h : Formula) → sub (over_literals (adds_to s Left h) h) m ≡ over_literals (image_sequent (fin.get m) (adds_to s Left h)) (image (fin.get m) h)
    → sub (over_literals (adds_to s Left h) h) m ≡ over_literals (adds_to (image_sequent (fin.get m) s) Left (image (fin.get m) h)) (image (fin.get m) h)
over_added m s h above = above ∙ ap (λ e. over_literals e (image (fin.get m) h)) (image-adds_to (fin.get m) s Left h)

pub over_literals-image : (m : Map) (s : Sequent) (f : Formula) → sub (over_literals s f) m ≡ over_literals (image_sequent (fin.get m) s) (image (fin.get m) f)
over_literals-image m s (or f g) =
    let first : sub (over_literals (adds_to s Left f) f) m ≡ over_literals (adds_to (image_sequent (fin.get m) s) Left (image (fin.get m) f)) (image (fin.get m) f) =
    over_added m s f (over_literals-image m (adds_to s Left f) f) in
    let second : sub (over_literals (adds_to s Left g) g) m ≡ over_literals (adds_to (image_sequent (fin.get m) s) Left (image (fin.get m) g)) (image (fin.get m) g) =
    over_added m s g (over_literals-image m (adds_to s Left g) g) in
    λ i. node (OrL (image (fin.get m) (or f g))) (image_sequent (fin.get m) s) (more (first i) (more (second i) none))
over_literals-image m s (not f) =
    ap (λ e. node (NegL (image (fin.get m) (not f))) (image_sequent (fin.get m) s) (more (node (Ax (image (fin.get m) f)) e none) none)) (image-adds_to (fin.get m) s Right f)
over_literals-image m s f = refl

-- of a universal closure with its terms

image-body_of : (m : Var → Option Term) (f : Formula) → image m (body_of f) ≡ body_of (image m f)
image-body_of m (all b) = refl
image-body_of m f = refl

image-opened : (m : Var → Option Term) → IsClosedMap m → (t : Term) (f : Formula) → image m (inst (body_of f) t) ≡ inst (body_of (image m f)) (image_term m t)
image-opened m closed t f = image-inst_at m closed t (body_of f) 0 ∙ ap (λ b. inst b (image_term m t)) (image-body_of m f)

-- the image of the proof is the proof by the images of its terms
pub over_terms-image : (m : Map) → IsClosedMap (fin.get m) → (s : Sequent) (ts : List Term) (f : Formula)
    → sub (over_terms s ts f) m ≡ over_terms (image_sequent (fin.get m) s) (map (image_term (fin.get m)) ts) (image (fin.get m) f)
over_terms-image m closed s [] f = over_literals-image m s f
over_terms-image m closed s (t ∷ ts) f =
    let g : Formula = inst (body_of f) t in
    let opened : image (fin.get m) g ≡ inst (body_of (image (fin.get m) f)) (image_term (fin.get m) t) = image-opened (fin.get m) closed t f in
    let us : List Term = map (image_term (fin.get m)) ts in
    let above : sub (over_terms (adds_to s Left g) ts g) m ≡ over_terms (adds_to (image_sequent (fin.get m) s) Left (image (fin.get m) g)) us (image (fin.get m) g) =
    over_terms-image m closed (adds_to s Left g) ts g ∙ ap (λ e. over_terms e us (image (fin.get m) g)) (image-adds_to (fin.get m) s Left g) in
    ap (λ d. node (AllL (image (fin.get m) f) (image_term (fin.get m) t)) (image_sequent (fin.get m) s) (more d none))
    (above ∙ ap (λ h. over_terms (adds_to (image_sequent (fin.get m) s) Left h) us h) opened)

-- of an input clause

map-free : (g : Term → Term) (xs : List Var) → map g (map free xs) ≡ map (λ (x : Var). g (free x)) xs
map-free g [] = refl
map-free g (x ∷ xs) = ap (λ ts. g (free x) ∷ ts) (map-free g xs)

image-closure : (m : Var → Option Term) (c : Clause) → IsClauseOf c → image m (closure_of c) ≡ closure_of c
image-closure m c h = untouched m (closure_of c) (λ w e. absurd (false≢true (sym (none_free c h w) ∙ e)))

image-start : (m : Var → Option Term) (cs : List Clause) → All IsClauseOf cs → (s : Sequent) → image_sequent m (union_sequent (closures cs) s) ≡ union_sequent (closures cs) (image_sequent m s)
image-start m cs clauses s = image-union_sequent m (closures cs) s ∙ ap (λ g. union_sequent g (image_sequent m s)) (image-closures m cs clauses)

-- each variable becomes its term, the closures stay, and the literals become their images
pub input-image : (cs : List Clause) → All IsClauseOf cs → (i : ℕ) (c : Clause) → slice_get cs i ≡ Some c → (m : Map) → IsClosedMap (fin.get m)
    → sub (of_input (closures cs) c).tree m
    ≡ over_terms (union_sequent (closures cs) (image_sequent (fin.get m) (literals_of c.matrix))) (map (λ (x : Var). image_term (fin.get m) (free x)) c.vars) (closure_of c)
input-image cs clauses i c at m closed =
    let start : Sequent = union_sequent (closures cs) (literals_of c.matrix) in
    let same : image (fin.get m) (closure_of c) ≡ closure_of c = image-closure (fin.get m) c (found_in IsClauseOf cs i c clauses at) in
    ap (λ t. sub t m) (sym (over_terms-variables start c.vars (closure_of c)))
    ∙ over_terms-image m closed start (map free c.vars) (closure_of c)
    ∙ λ k. over_terms (image-start (fin.get m) cs clauses (literals_of c.matrix) k) (map-free (image_term (fin.get m)) c.vars k) (same k)

-- variables that are free in a sequent with a formula more, and in a union

free_in_set : {P : Type 0} (v : Var) (s : FormulaSet) → ((f : Formula) → set.has s f ≡ true → is_free_in v f ≡ true → P) → list_any (is_free_in v) (set.listing s) ≡ true → P
free_in_set v s use_it = from_some (is_free_in v) (set.listing s) (λ f m. use_it f (has-listing s f ∙ m))

free_by_member : (v : Var) (s : FormulaSet) (f : Formula) → set.has s f ≡ true → is_free_in v f ≡ true → list_any (is_free_in v) (set.listing s) ≡ true
free_by_member v s f m = some_passes (is_free_in v) (set.listing s) f (sym (has-listing s f) ∙ m)

free_in_added : {P : Type 0} (v : Var) (s : FormulaSet) (f : Formula) → (list_any (is_free_in v) (set.listing s) ≡ true → P) → (is_free_in v f ≡ true → P)
    → list_any (is_free_in v) (set.listing (set.adds s f)) ≡ true → P
free_in_added v s f old new =
    free_in_set v (set.adds s f) (λ q m h.
    either (eq_by_cmp formula_cmp q f) (set.has s q)
    (λ tie. new (ap (is_free_in v) (sym (equal q f tie)) ∙ h))
    (λ there. old (free_by_member v s q there h))
    (sym (has-adds formula_total s f q) ∙ m))

free_in_union : {P : Type 0} (v : Var) (s t : FormulaSet) → (list_any (is_free_in v) (set.listing s) ≡ true → P) → (list_any (is_free_in v) (set.listing t) ≡ true → P)
    → list_any (is_free_in v) (set.listing (union_of s t)) ≡ true → P
free_in_union v s t first second =
    free_in_set v (union_of s t) (λ q m h. in_either s t q (λ there. first (free_by_member v s q there h)) (λ there. second (free_by_member v t q there h)) m)

pub free-adds_to : {P : Type 0} (v : Var) (s : Sequent) (side : Side) (f : Formula) → (is_free_in_sequent v s ≡ true → P) → (is_free_in v f ≡ true → P)
    → is_free_in_sequent v (adds_to s side f) ≡ true → P
free-adds_to v s Left f old new =
    either (list_any (is_free_in v) (set.listing (set.adds s.left f))) (list_any (is_free_in v) (set.listing s.right))
    (free_in_added v s.left f (λ h. old (or_first _ _ h)) new)
    (λ h. old (or_second (list_any (is_free_in v) (set.listing s.left)) _ h))
free-adds_to v s Right f old new =
    either (list_any (is_free_in v) (set.listing s.left)) (list_any (is_free_in v) (set.listing (set.adds s.right f)))
    (λ h. old (or_first _ _ h))
    (free_in_added v s.right f (λ h. old (or_second (list_any (is_free_in v) (set.listing s.left)) _ h)) new)

pub free-union_sequent : {P : Type 0} (v : Var) (s t : Sequent) → (is_free_in_sequent v s ≡ true → P) → (is_free_in_sequent v t ≡ true → P)
    → is_free_in_sequent v (union_sequent s t) ≡ true → P
free-union_sequent v s t first second =
    either (list_any (is_free_in v) (set.listing (union_of s.left t.left))) (list_any (is_free_in v) (set.listing (union_of s.right t.right)))
    (free_in_union v s.left t.left (λ h. first (or_first _ _ h)) (λ h. second (or_first _ _ h)))
    (free_in_union v s.right t.right (λ h. first (or_second (list_any (is_free_in v) (set.listing s.left)) _ h)) (λ h. second (or_second (list_any (is_free_in v) (set.listing t.left)) _ h)))

-- variables that are free in the proof of a disjunction of literals, and in that of a universal closure

-- in the conclusion, in what the rule names or in a premise
pub from_node : {P : Type 0} (s f t above : Bool) → (s ≡ true → P) → (f ≡ true → P) → (t ≡ true → P) → (above ≡ true → P) → ((s || (f || t)) || above) ≡ true → P
from_node s f t above a b c d = either (s || (f || t)) above (either s (f || t) a (either f t b c)) d

pub nothing : {P : Type 0} → false ≡ true → P
nothing h = absurd (false≢true h)

pub free-over_literals : {P : Type 0} (v : Var) (s : Sequent) (f : Formula) → (is_free_in_sequent v s ≡ true → P) → (is_free_in v f ≡ true → P) → is_free_in_tree v (over_literals s f) ≡ true → P
free-over_literals {P = P} v s (or f g) old own =
    from_node (is_free_in_sequent v s) (is_free_in v (or f g)) false _ old own nothing
    (either (is_free_in_tree v (over_literals (adds_to s Left f) f)) (is_free_in_tree v (over_literals (adds_to s Left g) g) || false)
    (free-over_literals v (adds_to s Left f) f (free-adds_to v s Left f old first) first)
    (either (is_free_in_tree v (over_literals (adds_to s Left g) g)) false (free-over_literals v (adds_to s Left g) g (free-adds_to v s Left g old second) second) nothing))
  where
    first : is_free_in v f ≡ true → P
    first h = own (or_first (is_free_in v f) (is_free_in v g) h)

    second : is_free_in v g ≡ true → P
    second h = own (or_second (is_free_in v f) (is_free_in v g) h)
free-over_literals v s (not f) old own =
    from_node (is_free_in_sequent v s) (is_free_in v f) false _ old own nothing
    (either (is_free_in_tree v (node (Ax f) (adds_to s Right f) none)) false
    (from_node (is_free_in_sequent v (adds_to s Right f)) (is_free_in v f) false false (free-adds_to v s Right f old own) own nothing nothing)
    nothing)
free-over_literals v s bot old own = from_node (is_free_in_sequent v s) false false false old nothing nothing nothing
free-over_literals v s f old own = from_node (is_free_in_sequent v s) (is_free_in v f) false false old own nothing nothing

free-body_of : (v : Var) (f : Formula) → is_free_in v (body_of f) ≡ is_free_in v f
free-body_of v (all b) = refl
free-body_of v f = refl

free_in_opened : {P : Type 0} (v x : Var) (f : Formula) → (is_free_in v f ≡ true → P) → (eq_by_cmp var_cmp v x ≡ true → P) → is_free_in v (inst (body_of f) (free x)) ≡ true → P
free_in_opened v x f own chosen h =
    either (is_free_in v (body_of f)) (eq_by_cmp var_cmp v x) (λ e. own (sym (free-body_of v f) ∙ e)) chosen (free_from-inst_at v (free x) (body_of f) 0 h)

pub free-over_instances : {P : Type 0} (v : Var) (s : Sequent) (xs : List Var) (f : Formula) → (is_free_in_sequent v s ≡ true → P) → (is_free_in v f ≡ true → P)
    → (list_any (eq_by_cmp var_cmp v) xs ≡ true → P) → is_free_in_tree v (over_instances s xs f) ≡ true → P
free-over_instances v s [] f old own chosen = free-over_literals v s f old own
free-over_instances {P = P} v s (x ∷ xs) f old own chosen =
    let g : Formula = inst (body_of f) (free x) in
    let one : eq_by_cmp var_cmp v x ≡ true → P = λ h. chosen (or_first (eq_by_cmp var_cmp v x) _ h) in
    let new : is_free_in v g ≡ true → P = free_in_opened v x f own one in
    from_node (is_free_in_sequent v s) (is_free_in v f) (eq_by_cmp var_cmp v x) _ old own one
    (either (is_free_in_tree v (over_instances (adds_to s Left g) xs g)) false
    (free-over_instances v (adds_to s Left g) xs g (free-adds_to v s Left g old new) new (λ h. chosen (or_second (eq_by_cmp var_cmp v x) _ h)))
    nothing)

-- a variable that is free in a disjunction of literals is free in one of them

free_in_first : (v : Var) (s t : FormulaSet) → list_any (is_free_in v) (set.listing s) ≡ true → list_any (is_free_in v) (set.listing (union_of s t)) ≡ true
free_in_first v s t = free_in_set v s (λ f m. free_by_member v (union_of s t) f (in_first s t f m))

free_in_second : (v : Var) (s t : FormulaSet) → list_any (is_free_in v) (set.listing t) ≡ true → list_any (is_free_in v) (set.listing (union_of s t)) ≡ true
free_in_second v s t = free_in_set v t (λ f m. free_by_member v (union_of s t) f (in_second s t f m))

on_the_left : (v : Var) (f : Formula) → is_free_in v f ≡ true → is_free_in_sequent v (adds_to empty Left f) ≡ true
on_the_left v f h = or_first _ _ (free_by_member v (set.adds set.empty f) f (added set.empty f) h)

on_the_right : (v : Var) (f : Formula) → is_free_in v f ≡ true → is_free_in_sequent v (adds_to empty Right f) ≡ true
on_the_right v f h = or_second (list_any (is_free_in v) (set.listing {R = formula_cmp} set.empty)) _ (free_by_member v (set.adds set.empty f) f (added set.empty f) h)

pub free-literals_of : (v : Var) (f : Formula) → is_free_in v f ≡ true → is_free_in_sequent v (literals_of f) ≡ true
free-literals_of v (or f g) h =
    let one : Sequent = literals_of f in
    let two : Sequent = literals_of g in
    either (is_free_in v f) (is_free_in v g)
    (λ e. or_more _ _ _ _ (free_in_first v one.left two.left) (free_in_first v one.right two.right) (free-literals_of v f e))
    (λ e. or_more _ _ _ _ (free_in_second v one.left two.left) (free_in_second v one.right two.right) (free-literals_of v g e))
    h
free-literals_of v (not f) h = on_the_left v f h
free-literals_of v bot h = nothing h
free-literals_of v f h = on_the_right v f h

-- variables that are free in the proof of an input clause

shut_member : (cs : List Clause) → All IsClauseOf cs → (v : Var) (f : Formula) → list_any (eq_by_cmp formula_cmp f) (map closure_of cs) ≡ true → is_free_in v f ≡ false
shut_member [] clauses v f m = nothing m
shut_member (c ∷ cs) clauses v f m =
    either (eq_by_cmp formula_cmp f (closure_of c)) (list_any (eq_by_cmp formula_cmp f) (map closure_of cs))
    (λ tie. ap (is_free_in v) (equal f (closure_of c) tie) ∙ none_free c (All-head IsClauseOf c cs clauses) v)
    (shut_member cs (All-tail IsClauseOf c cs clauses) v f)
    m

-- no variable is free in the closures
pub shut_closures : {P : Type 0} (cs : List Clause) → All IsClauseOf cs → (v : Var) → is_free_in_sequent v (closures cs) ≡ true → P
shut_closures cs clauses v =
    either (list_any (is_free_in v) (set.listing (closures cs).left)) (list_any (is_free_in v) (set.listing (closures cs).right))
    (free_in_set v (closures cs).left (λ f m h. nothing (sym (shut_member cs clauses v f (sym (has-closures cs f) ∙ m)) ∙ h)))
    (free_in_set v (closures cs).right (λ f m h. nothing (sym (has-empty formula_cmp f) ∙ m)))

-- the variables of a clause are those that are free in its matrix
of_matrix : (v : Var) (c : Clause) → IsClauseOf c → list_any (eq_by_cmp var_cmp v) c.vars ≡ true → is_free_in v c.matrix ≡ true
of_matrix v c is m = sym (is_free-var_list v c.matrix) ∙ sym (among_first v (var_list c.matrix)) ∙ ap (list_any (eq_by_cmp var_cmp v)) (sym is.vars) ∙ m

-- a variable that is free in the proof is free in a literal of the clause
pub input-free : (cs : List Clause) → All IsClauseOf cs → (i : ℕ) (c : Clause) → slice_get cs i ≡ Some c → (v : Var) → is_free_in_tree v (of_input (closures cs) c).tree ≡ true
    → is_free_in_sequent v (literals_of c.matrix) ≡ true
input-free cs clauses i c at v =
    let is : IsClauseOf c = found_in IsClauseOf cs i c clauses at in
    free-over_instances v (union_sequent (closures cs) (literals_of c.matrix)) c.vars (closure_of c)
    (free-union_sequent v (closures cs) (literals_of c.matrix) (shut_closures cs clauses v) (λ h. h))
    (λ h. nothing (sym (none_free c is v) ∙ h))
    (λ m. free-literals_of v c.matrix (of_matrix v c is m))
