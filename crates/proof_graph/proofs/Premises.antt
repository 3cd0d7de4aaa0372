-- The references of premises, against the trees below a node and the numbers of a node.
use Rattle.std.proofs.Common.{◌≡◌, ℕ, ◌<◌, zero, suc, List, [], ◌∷◌, length, get_or, refl, sym, ap, ◌∙◌, arith}
use Rattle.std.specs.Prelude.{Option, Some, Result, Ok, Err, IfOk}
use Rattle.std.proofs.lemmas.List.{get_or-map, length-map}
use Rattle.proof_trees.specs.Trees.{Tree, Trees, count}
use Rattle.proof_trees.specs.TreeLists.{tree_at}
use Rattle.proof_graph.specs.References.{Reference, trees_of, numbers_of}

at_trees : (rs : List Reference) (i : ℕ) (d : Reference) → i < length rs → Some (get_or rs i d).tree ≡ tree_at (trees_of rs) i
at_trees [] i d h = absurd (omega arith)
at_trees (r ∷ rs) zero d h = refl
at_trees (r ∷ rs) (suc i) d h = at_trees rs i d (omega arith)

pub count-trees_of : (rs : List Reference) → count (trees_of rs) ≡ length rs
count-trees_of [] = refl
count-trees_of (r ∷ rs) = ap suc (count-trees_of rs)

-- the tree and the number of the premise at a place
pub premise_tree : (rs : List Reference) (i : ℕ) (r : Reference) (ts : Trees) → i < length rs → r ≡ get_or rs i r → trees_of rs ≡ ts → Some r.tree ≡ tree_at ts i
premise_tree rs i r ts within is same = ap (λ (s : Reference). Some s.tree) is ∙ at_trees rs i r within ∙ ap (λ (us : Trees). tree_at us i) same

pub premise_number : (rs : List Reference) (i : ℕ) (r : Reference) (ns : List ℕ) → i < length rs → r ≡ get_or rs i r → numbers_of rs ≡ ns → r.number ≡ get_or ns i 0
premise_number rs i r ns within is same =
    ap (λ (s : Reference). s.number) is ∙ sym (get_or-map (λ (s : Reference). s.number) rs i r 0 within) ∙ ap (λ (xs : List ℕ). get_or xs i 0) same

pub as_many : (rs : List Reference) (ns : List ℕ) (ts : Trees) → numbers_of rs ≡ ns → trees_of rs ≡ ts → length ns ≡ count ts
as_many rs ns ts numbers trees =
    sym (ap length numbers) ∙ length-map rs (λ (s : Reference). s.number) ∙ sym (count-trees_of rs) ∙ ap count trees

pub within_premises : (rs : List Reference) (ns : List ℕ) (i : ℕ) → numbers_of rs ≡ ns → i < length ns → i < length rs
within_premises rs ns i same within = omega (arith, ap length same, length-map rs (λ (s : Reference). s.number))

-- what is so of a reference is so of its copy
pub kept_tree : {E : Type 0} (r : Result Reference E) (found : Reference) (o : Option Tree) → IfOk r (λ x. x ≡ found) → Some found.tree ≡ o → IfOk r (λ x. Some x.tree ≡ o)
kept_tree (Ok x) found o same is = ap (λ (y : Reference). Some y.tree) same ∙ is
kept_tree (Err e) found o same is = tt
