-- Counts of nodes, cut off at the largest number.
use Rattle.std.proofs.Common.{◌≡◌, ℕ, ◌+◌, ◌<◌, min, Bool, if◌then◌else◌, List, [], ◌∷◌, ◌++◌, take, length, get_or, sym, ap, ◌∙◌, arith}
use Rattle.std.proofs.lemmas.List.{take_more}
use Rattle.lk_rules.specs.declared.rule.Rule.{Rule}
use Rattle.proof_trees.specs.Trees.{Trees, count_rules, count_rules_all}
use Rattle.proof_graph.specs.References.{Reference, trees_of}

-- a sum of numbers that are cut off
capped_sum : (a b m : ℕ) → min (min a m + min b m) m ≡ min (a + b) m
capped_sum a b m = omega arith

counted-append : (p : Rule → Bool) (rs : List Reference) (r : Reference) → count_rules_all p (trees_of (rs ++ r ∷ [])) ≡ count_rules_all p (trees_of rs) + count_rules p r.tree
counted-append p [] r = omega arith
counted-append p (s ∷ rs) r = omega (arith, counted-append p rs r)

-- the nodes below one premise more
pub counted_more : (p : Rule → Bool) (rs : List Reference) (i : ℕ) (r : Reference) (count n sum m : ℕ) → i < length rs → r ≡ get_or rs i r
    → count ≡ min (count_rules_all p (trees_of (take i rs))) m → n ≡ min (count_rules p r.tree) m → sum ≡ min (count + n) m
    → sum ≡ min (count_rules_all p (trees_of (take (i + 1) rs))) m
counted_more p rs i r count n sum m within is so_far here total =
    let longer : take (i + 1) rs ≡ take i rs ++ r ∷ [] = take_more rs i r within ∙ ap (λ (s : Reference). take i rs ++ s ∷ []) (sym is) in
    let counted : count_rules_all p (trees_of (take (i + 1) rs)) ≡ count_rules_all p (trees_of (take i rs)) + count_rules p r.tree =
    ap (λ (xs : List Reference). count_rules_all p (trees_of xs)) longer ∙ counted-append p (take i rs) r in
    omega (arith, capped_sum (count_rules_all p (trees_of (take i rs))) (count_rules p r.tree) m)

-- the nodes of a tree, from those below its root
pub counted_root : (p : Rule → Bool) (r : Rule) (ts : Trees) (b : Bool) (own n sum m : ℕ) → b ≡ p r → own ≡ (if b then 1 else 0)
    → n ≡ min (count_rules_all p ts) m → sum ≡ min (n + own) m → sum ≡ min ((if p r then 1 else 0) + count_rules_all p ts) m
counted_root p r ts b own n sum m is one here total =
    let same : own ≡ (if p r then 1 else 0) = one ∙ ap (λ (x : Bool). if x then 1 else 0) is in
    omega arith
