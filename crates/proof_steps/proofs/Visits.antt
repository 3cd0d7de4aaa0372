-- What a walk over trees lists, and where.
use Rattle.std.proofs.Common.{◌≡◌, ℕ, ◌+◌, ◌<◌, List, [], ◌∷◌, ◌++◌, take, length, get_or, cond, Bool, true, false, refl, sym, ap, ◌∙◌, subst, append_assoc, append-nil}
use Rattle.std.specs.Prelude.{Some, slice_get}
use Rattle.std.specs.List.{list_any}
use Rattle.std.proofs.lemmas.List.{take_more}
use mathlib.Core.List.{IsPrefix}
use Rattle.proof_trees.specs.Trees.{Tree, Trees, none, more, below}
use Rattle.proof_graph.specs.References.{Reference, trees_of}
use Rattle.step_laws.specs.Subtrees.{same_tree, subtrees, subtrees_all, appended, appended_each}
use Rattle.proof_steps.specs.Listed.{ArePlaces}
use Rattle.proof_steps.proofs.Standing.{get_left}
use Rattle.proof_steps.proofs.Appending.{appended_known, each-append, subtrees_root}

pub found_known : (xs : List Tree) (t : Tree) (i : ℕ) → slice_get xs i ≡ Some t → xs ≡ appended xs t
found_known xs t i h = sym (appended_known xs t (i, h))

-- a list to which trees are appended begins with the list
appended_prefix : (xs : List Tree) (t : Tree) (b : Bool) → IsPrefix xs (cond b xs (xs ++ t ∷ []))
appended_prefix xs t true = ([], append-nil xs)
appended_prefix xs t false = (t ∷ [], refl)

pub each_prefix : (xs ts : List Tree) → IsPrefix xs (appended_each xs ts)
each_prefix xs [] = ([], append-nil xs)
each_prefix xs (t ∷ ts) =
    let first = appended_prefix xs t (list_any (same_tree t) xs) in
    let later = each_prefix (appended xs t) ts in
    (first.0 ++ later.0, sym (append_assoc xs first.0 later.0) ∙ (ap (λ ys. ys ++ later.0) first.1 ∙ later.1))

places_left : (xs ys : List Tree) (is : List ℕ) (ts : Trees) → ArePlaces xs is ts → ArePlaces (xs ++ ys) is ts
places_left xs ys [] none h = tt
places_left xs ys [] (more t ts) h = h
places_left xs ys (i ∷ is) none h = h
places_left xs ys (i ∷ is) (more t ts) h = (get_left xs ys i t h.0, places_left xs ys is ts h.1)

places_push : (xs : List Tree) (is : List ℕ) (rs : List Reference) (i : ℕ) (r : Reference) → ArePlaces xs is (trees_of rs) → slice_get xs i ≡ Some r.tree
    → ArePlaces xs (is ++ i ∷ []) (trees_of (rs ++ r ∷ []))
places_push xs [] [] i r h there = (there, tt)
places_push xs [] (s ∷ rs) i r h there = absurd h
places_push xs (j ∷ is) [] i r h there = absurd h
places_push xs (j ∷ is) (s ∷ rs) i r h there = (h.0, places_push xs is rs i r h.1 there)

subtrees_push : (rs : List Reference) (r : Reference) → subtrees_all (trees_of (rs ++ r ∷ [])) ≡ subtrees_all (trees_of rs) ++ subtrees r.tree
subtrees_push [] r = append-nil (subtrees r.tree)
subtrees_push (s ∷ rs) r = ap (λ ys. subtrees s.tree ++ ys) (subtrees_push rs r) ∙ sym (append_assoc (subtrees s.tree) (subtrees_all (trees_of rs)) (subtrees r.tree))

longer : (rs : List Reference) (i : ℕ) (r : Reference) → i < length rs → r ≡ get_or rs i r → take (i + 1) rs ≡ take i rs ++ r ∷ []
longer rs i r within is = take_more rs i r within ∙ ap (λ (s : Reference). take i rs ++ s ∷ []) (sym is)

-- one tree more is listed
pub trees_next : (rs : List Reference) (i : ℕ) (r : Reference) (first mid last : List Tree) → i < length rs → r ≡ get_or rs i r
    → mid ≡ appended_each first (subtrees_all (trees_of (take i rs))) → last ≡ appended_each mid (subtrees r.tree)
    → last ≡ appended_each first (subtrees_all (trees_of (take (i + 1) rs)))
trees_next rs i r first mid last within is so_far here =
    here ∙ ap (λ ys. appended_each ys (subtrees r.tree)) so_far
    ∙ sym (each-append first (subtrees_all (trees_of (take i rs))) (subtrees r.tree))
    ∙ ap (appended_each first) (sym (ap (λ (xs : List Reference). subtrees_all (trees_of xs)) (longer rs i r within is) ∙ subtrees_push (take i rs) r))

pub places_next : (rs : List Reference) (i : ℕ) (r : Reference) (mid last : List Tree) (ps : List ℕ) (p : ℕ) → i < length rs → r ≡ get_or rs i r
    → ArePlaces mid ps (trees_of (take i rs)) → last ≡ appended_each mid (subtrees r.tree) → slice_get last p ≡ Some r.tree
    → ArePlaces last (ps ++ p ∷ []) (trees_of (take (i + 1) rs))
places_next rs i r mid last ps p within is so_far here there =
    let grown = each_prefix mid (subtrees r.tree) in
    let kept : ArePlaces last ps (trees_of (take i rs)) = subst (λ (ys : List Tree). ArePlaces ys ps (trees_of (take i rs))) (grown.1 ∙ sym here) (places_left mid grown.0 ps (trees_of (take i rs)) so_far) in
    subst (λ (xs : List Reference). ArePlaces last (ps ++ p ∷ []) (trees_of xs)) (sym (longer rs i r within is)) (places_push last ps (take i rs) p r kept there)

-- the subtrees of a tree are listed after those of its premises
pub trees_root : (first mid : List Tree) (t : Tree) (ts : Trees) → mid ≡ appended_each first (subtrees_all ts) → ts ≡ below t
    → appended mid t ≡ appended_each first (subtrees t)
trees_root first mid t ts is same =
    ap (λ ys. appended ys t) (is ∙ ap (λ us. appended_each first (subtrees_all us)) same) ∙ sym (subtrees_root first t)
