-- The trees of the nodes of a table.
use Rattle.std.proofs.Common.{◌≡◌, ℕ, ◌+◌, ◌<◌, ◌≤◌, zero, suc, Bool, true, false, List, [], ◌∷◌, ◌++◌, map, take, drop, length, get_or, refl, sym, ap, ◌∙◌, subst, append_assoc, append-nil, zero-add, arith, inl, inr}
use Rattle.std.specs.Prelude.{Some, None, nat_lt, slice_get, option_and_then, if◌then◌else◌}
use Rattle.std.specs.List.{list_any, list_all}
use Rattle.std.specs.Cmp.Derive.{both_true}
use Rattle.std.proofs.lemmas.Bool.{and_parts, cases_lt}
use Rattle.std.proofs.lemmas.List.{get_or_append_left, get_or-map, length_push, length-map, length-take, same_lists, take-append-le, take-append-drop}
use Rattle.std.proofs.lemmas.List.Elements.{All-get_or, All-push}
use Rattle.std.proofs.lemmas.List.Folds.{list_all-append}
use Rattle.std.proofs.lemmas.Option.{slice_get_within, slice_get-get_or, get_or_from_slice_get}
use Rattle.indexmap.specs.IndexSet.{insert_key}
use Rattle.fol.specs.Syntax.{Term, top}
use Rattle.fol.specs.Order.{term_cmp}
use Rattle.finite.specs.Finite.{IsRising}
use Rattle.expansion_laws.specs.Expansions.{Exp as Tree, wk, neg, conj, disj, impl, weak, strong}
use Rattle.exp_tree.specs.Codes.{coded_exp}
use Rattle.number_hash.specs.Codes.{same_by_decides}
use Rattle.exp_tree.specs.Shown.{insts_of}
use Rattle.exp_tree.specs.Sorting.{sorted}
use Rattle.exp_tree.specs.FlatLists.{children, is_formed_node, tree_at, inst_at, tree_over, trees_after, trees_of, node_fault, fault_at, IsWithoutNodeFault, has_shape, tree_fault}
use Rattle.exp_tree.specs.Subtrees.{same_tree}
use Rattle.exp_tree.specs.Writing.{place, places_in, node_in, nodes_of}
use Rattle.exp_tree.specs.Tables.{coded_node, same_node, HasRisingTerms, AreDistinct, IsTable}
use Rattle.exp_tree.specs.declared.expansion.Inst.{Inst}
use Rattle.exp_tree.specs.declared.flat.ExpNode.{ExpNode}
use Rattle.exp_tree.specs.declared.flat.ExpNode.TheVariants.{Wk, Leaf, Not, And, Or, Imp, Weak, Strong}
use Rattle.exp_tree.specs.declared.flat.NodeCause.TheVariants.{Reference, Shape}
use Rattle.exp_tree.proofs.InstanceWalk.{below}
use Rattle.exp_tree.proofs.RootWalk.{below_test}
use Rattle.exp_tree.proofs.Listed.{some_same, get_left, get_last, get_cases, any_of, key_there, key_new, place_at}
use Rattle.exp_tree.proofs.RisingLists.{sorted_rising}

-- the places are among the first
abbrev pub are_below : ℕ → List ℕ → Bool
are_below n is = list_all (λ i. nat_lt i n) is

tree_longer : (ts us : List Tree) (i : ℕ) → nat_lt i (length ts) ≡ true → tree_at (ts ++ us) i ≡ tree_at ts i
tree_longer ts us i h = get_or_append_left ts us (wk top) i (below i (length ts) h)

pub trees_longer : (ts us : List Tree) (is : List ℕ) → are_below (length ts) is ≡ true → map (tree_at (ts ++ us)) is ≡ map (tree_at ts) is
trees_longer ts us [] h = refl
trees_longer ts us (i ∷ is) h =
    let both = and_parts (nat_lt i (length ts)) (are_below (length ts) is) h in
    λ k. tree_longer ts us i both.0 k ∷ trees_longer ts us is both.1 k

pub insts_longer : (ts us : List Tree) (is : List (Term × ℕ)) → list_all (λ i. nat_lt i.1 (length ts)) is ≡ true → map (inst_at (ts ++ us)) is ≡ map (inst_at ts) is
insts_longer ts us [] h = refl
insts_longer ts us (i ∷ is) h =
    let both = and_parts (nat_lt i.1 (length ts)) (list_all (λ j. nat_lt j.1 (length ts)) is) h in
    λ k. record { term = i.0; child = tree_longer ts us i.1 both.0 k } ∷ insts_longer ts us is both.1 k

own_places : (n : ℕ) (is : List (Term × ℕ)) → are_below n (map (λ i. i.1) is) ≡ true → list_all (λ i. nat_lt i.1 n) is ≡ true
own_places n [] h = refl
own_places n (i ∷ is) h =
    let both = and_parts (nat_lt i.1 n) (are_below n (map (λ j. j.1) is)) h in
    both_true both.0 (own_places n is both.1)

-- a node means the same over a longer list
pub over_longer : (ts us : List Tree) (n : ExpNode) → are_below (length ts) (children n) ≡ true → tree_over (ts ++ us) n ≡ tree_over ts n
over_longer ts us (Wk f) h = refl
over_longer ts us (Leaf f) h = refl
over_longer ts us (Not i) h = ap neg (tree_longer ts us i (and_parts _ _ h).0)
over_longer ts us (And i j) h = let both = and_parts _ _ h in λ k. conj (tree_longer ts us i both.0 k) (tree_longer ts us j (and_parts _ _ both.1).0 k)
over_longer ts us (Or i j) h = let both = and_parts _ _ h in λ k. disj (tree_longer ts us i both.0 k) (tree_longer ts us j (and_parts _ _ both.1).0 k)
over_longer ts us (Imp i j) h = let both = and_parts _ _ h in λ k. impl (tree_longer ts us i both.0 k) (tree_longer ts us j (and_parts _ _ both.1).0 k)
over_longer ts us (Weak f is) h = ap (λ js. weak f (insts_of (sorted term_cmp (λ (i : Inst). i.term) js))) (insts_longer ts us is (own_places (length ts) is h))
over_longer ts us (Strong f y i) h = ap (strong f y) (tree_longer ts us i (and_parts _ _ h).0)

-- and over trees that differ it is got back from its tree
module _ (ts : List Tree) (distinct : AreDistinct ts) where
  pub place_back : (i : ℕ) → nat_lt i (length ts) ≡ true → place ts (tree_at ts i) ≡ i
  place_back i h = place_at same_tree (same_by_decides coded_exp) ts (tree_at ts i) i distinct (slice_get-get_or ts i (wk top) (below i (length ts) h))

  terms_same : (is : List (Term × ℕ)) → map (λ (i : Inst). i.term) (map (inst_at ts) is) ≡ map (λ i. i.0) is
  terms_same [] = refl
  terms_same (i ∷ is) = ap (λ us. i.0 ∷ us) (terms_same is)

  insts_back : (is : List (Term × ℕ)) → list_all (λ i. nat_lt i.1 (length ts)) is ≡ true → places_in ts (insts_of (map (inst_at ts) is)) ≡ is
  insts_back [] h = refl
  insts_back (i ∷ is) h =
      let both = and_parts (nat_lt i.1 (length ts)) (list_all (λ j. nat_lt j.1 (length ts)) is) h in
      λ k. (i.0, place_back i.1 both.0 k) ∷ insts_back is both.1 k

  pub node_back : (n : ExpNode) → are_below (length ts) (children n) ≡ true → HasRisingTerms n → node_in ts (tree_over ts n) ≡ n
  node_back (Wk f) h up = refl
  node_back (Leaf f) h up = refl
  node_back (Not i) h up = ap Not (place_back i (and_parts _ _ h).0)
  node_back (And i j) h up = let both = and_parts _ _ h in λ k. And (place_back i both.0 k) (place_back j (and_parts _ _ both.1).0 k)
  node_back (Or i j) h up = let both = and_parts _ _ h in λ k. Or (place_back i both.0 k) (place_back j (and_parts _ _ both.1).0 k)
  node_back (Imp i j) h up = let both = and_parts _ _ h in λ k. Imp (place_back i both.0 k) (place_back j (and_parts _ _ both.1).0 k)
  node_back (Weak f is) h up =
      ap (λ js. Weak f (places_in ts (insts_of js))) (sorted_rising term_cmp (λ (i : Inst). i.term) (map (inst_at ts) is) (subst (IsRising term_cmp) (sym (terms_same is)) up))
      ∙ ap (Weak f) (insts_back is (own_places (length ts) is h))
  node_back (Strong f y i) h up = ap (Strong f y) (place_back i (and_parts _ _ h).0)

-- one node more
pub trees_push : (earlier : List Tree) (ns : List ExpNode) (n : ExpNode) → trees_after earlier (ns ++ n ∷ []) ≡ trees_after earlier ns ++ tree_over (trees_after earlier ns) n ∷ []
trees_push earlier [] n = refl
trees_push earlier (m ∷ ns) n = trees_push (earlier ++ tree_over earlier m ∷ []) ns n

length_trees : (earlier : List Tree) (ns : List ExpNode) → length (trees_after earlier ns) ≡ length earlier + length ns
length_trees earlier [] = omega arith
length_trees earlier (n ∷ ns) =
    let more = length_trees (earlier ++ tree_over earlier n ∷ []) ns in
    let one = length_push earlier (tree_over earlier n) in
    omega (arith, more, one)

pub as_many : (ns : List ExpNode) → length (trees_of ns) ≡ length ns
as_many ns = let many = length_trees [] ns in omega (arith, many)

fault_push : (ns : List ExpNode) (n : ExpNode) (i : ℕ) → i < length ns → fault_at (ns ++ n ∷ []) i ≡ fault_at ns i
fault_push ns n i within =
    let here = slice_get-get_or ns i n within in
    let few : i ≤ length (trees_of ns) = let many = as_many ns in omega (arith, many) in
    (λ k. option_and_then (node_fault (take i (trees_push [] ns n k))) (get_left ns (n ∷ []) i (get_or ns i n) here k))
    ∙ (λ k. option_and_then (node_fault (take-append-le i (trees_of ns) (tree_over (trees_of ns) n ∷ []) few k)) (sym here k))

fault_last : (ns : List ExpNode) (n : ExpNode) → fault_at (ns ++ n ∷ []) (length ns) ≡ node_fault (trees_of ns) n
fault_last ns n =
    let many = as_many ns in
    let whole : take (length ns) (trees_of ns ++ tree_over (trees_of ns) n ∷ []) ≡ trees_of ns =
    take-append-le (length ns) (trees_of ns) (tree_over (trees_of ns) n ∷ []) (omega (arith, many)) ∙ all_taken (length ns) (trees_of ns) many in
    λ k. option_and_then (node_fault ((ap (take (length ns)) (trees_push [] ns n) ∙ whole) k)) (get_last ns n k)
  where
    all_taken : (i : ℕ) (ts : List Tree) → length ts ≡ i → take i ts ≡ ts
    all_taken zero [] h = refl
    all_taken zero (t ∷ ts) h = absurd (omega arith)
    all_taken (suc i) [] h = refl
    all_taken (suc i) (t ∷ ts) h = ap (λ us. t ∷ us) (all_taken i ts (omega arith))

-- a node without fault names earlier nodes
pub named_earlier : (ts : List Tree) (n : ExpNode) → node_fault ts n ≡ None → are_below (length ts) (children n) ≡ true
named_earlier ts n h = by (are_below (length ts) (children n)) refl
  where
    by : (b : Bool) → are_below (length ts) (children n) ≡ b → are_below (length ts) (children n) ≡ true
    by true e = e
    by false e =
        let wrong : node_fault ts n ≡ Some Reference = ap (λ c. if c then (if has_shape n then tree_fault (tree_over ts n) else Some Shape) else Some Reference) e in
        cc

-- the trees go on after the first ones
goes_on : (earlier : List Tree) (ns : List ExpNode) → (more : List Tree) × (trees_after earlier ns ≡ earlier ++ more)
goes_on earlier [] = ([], sym (append-nil earlier))
goes_on earlier (n ∷ ns) =
    let rest = goes_on (earlier ++ tree_over earlier n ∷ []) ns in
    (tree_over earlier n ∷ rest.0, rest.1 ∙ append_assoc earlier (tree_over earlier n ∷ []) rest.0)

tree_there : (earlier : List Tree) (ns : List ExpNode) (i : ℕ) (n : ExpNode) → slice_get ns i ≡ Some n
    → slice_get (trees_after earlier ns) (length earlier + i) ≡ Some (tree_over (take (length earlier + i) (trees_after earlier ns)) n)
tree_there earlier [] i n h = cc
tree_there earlier (m ∷ ns) zero n h =
    let rest = goes_on (earlier ++ tree_over earlier m ∷ []) ns in
    let same : m ≡ n = some_same m n h in
    let at : length earlier + 0 ≡ length earlier = omega arith in
    let cut : take (length earlier) ((earlier ++ tree_over earlier m ∷ []) ++ rest.0) ≡ earlier = ap (take (length earlier)) (append_assoc earlier (tree_over earlier m ∷ []) rest.0) ∙ front earlier (tree_over earlier m ∷ rest.0) in
    (λ k. slice_get (rest.1 k) (at k)) ∙ get_left (earlier ++ tree_over earlier m ∷ []) rest.0 (length earlier) (tree_over earlier m) (get_last earlier (tree_over earlier m))
    ∙ (λ k. Some (tree_over (sym (ap (λ us. take (length earlier + 0) us) rest.1 ∙ ap (λ j. take j ((earlier ++ tree_over earlier m ∷ []) ++ rest.0)) at ∙ cut) k) (same k)))
  where
    front : (xs ys : List Tree) → take (length xs) (xs ++ ys) ≡ xs
    front [] ys = refl
    front (x ∷ xs) ys = ap (λ zs. x ∷ zs) (front xs ys)
tree_there earlier (m ∷ ns) (suc i) n h =
    let one = length_push earlier (tree_over earlier m) in
    let at : length (earlier ++ tree_over earlier m ∷ []) + i ≡ length earlier + suc i = omega (arith, one) in
    subst (λ j. slice_get (trees_after (earlier ++ tree_over earlier m ∷ []) ns) j ≡ Some (tree_over (take j (trees_after (earlier ++ tree_over earlier m ∷ []) ns)) n)) at
    (tree_there (earlier ++ tree_over earlier m ∷ []) ns i n h)

-- what a node of a table says
pub record IsRow (ns : List ExpNode) (n : ExpNode) (i : ℕ) : Type 0 where
  pub named : are_below (length (trees_of ns)) (children n) ≡ true
  pub there : slice_get (trees_of ns) i ≡ Some (tree_over (trees_of ns) n)

-- places among fewer are among more
pub longer : (m n : ℕ) (is : List ℕ) → m ≤ n → are_below m is ≡ true → are_below n is ≡ true
longer m n [] few h = refl
longer m n (i ∷ is) few h =
    let both = and_parts (nat_lt i m) (are_below m is) h in
    let low = below i m both.0 in
    both_true (below_test i n (omega arith)) (longer m n is few both.1)

pub row_at : (ns : List ExpNode) → IsWithoutNodeFault ns → (i : ℕ) (n : ExpNode) → slice_get ns i ≡ Some n → IsRow ns n i
row_at ns right i n h =
    let ts = trees_of ns in
    let within = slice_get_within ns i n h in
    let fault : node_fault (take i ts) n ≡ None = sym (ap (option_and_then (node_fault (take i ts))) h) ∙ right i within in
    let early = named_earlier (take i ts) n fault in
    let whole : take i ts ++ drop i ts ≡ ts = take-append-drop i ts in
    let few : length (take i ts) ≤ length ts = let cut = length-take i ts in omega (arith, cut) in
    record {
      named = longer (length (take i ts)) (length ts) (children n) few early;
      there =
          subst (λ j. slice_get ts j ≡ Some (tree_over (take j ts) n)) (zero-add i) (tree_there [] ns i n h)
          ∙ ap Some (sym (over_longer (take i ts) (drop i ts) n early) ∙ ap (λ us. tree_over us n) whole);
    }

-- one tree more, which stood nowhere
distinct_more : (ts : List Tree) (t : Tree) → AreDistinct ts → ((i : ℕ) → slice_get ts i ≡ Some t → ⊥) → AreDistinct (ts ++ t ∷ [])
distinct_more ts t distinct new i j e at_i at_j = elim (get_cases ts t i e at_i) [
  | inl old_i ↦ elim (get_cases ts t j e at_j) [
    | inl old_j ↦ distinct i j e old_i old_j
    | inr new_j ↦ absurd (new i (old_i ∙ ap Some (sym new_j.1)))
  ]
  | inr new_i ↦ elim (get_cases ts t j e at_j) [
    | inl old_j ↦ absurd (new j (old_j ∙ ap Some (sym new_i.1)))
    | inr new_j ↦ new_i.0 ∙ sym new_j.0
  ]
]

-- what is so after a node was put
pub record IsPut (ns new : List ExpNode) (n : ExpNode) (i : ℕ) : Type 0 where
  pub table : IsTable new
  pub trees : trees_of new ≡ insert_key same_tree (trees_of ns) (tree_over (trees_of ns) n)
  pub there : slice_get (trees_of new) i ≡ Some (tree_over (trees_of ns) n)

module _ (ns : List ExpNode) (table : IsTable ns) where
  rising_at : (i : ℕ) (n : ExpNode) → slice_get ns i ≡ Some n → HasRisingTerms n
  rising_at i n h = subst HasRisingTerms (get_or_from_slice_get ns i n n h) (All-get_or HasRisingTerms ns i n (slice_get_within ns i n h) table.rising)

  -- nodes with one tree are one
  same_row : (n m : ExpNode) (i : ℕ) → are_below (length (trees_of ns)) (children n) ≡ true → HasRisingTerms n → slice_get ns i ≡ Some m
      → tree_over (trees_of ns) m ≡ tree_over (trees_of ns) n → m ≡ n
  same_row n m i named up there same =
      sym (node_back (trees_of ns) table.distinct m (row_at ns table.right i m there).named (rising_at i m there)) ∙ ap (node_in (trees_of ns)) same
      ∙ node_back (trees_of ns) table.distinct n named up

  -- a tree whose node isn't there isn't either
  new_tree : (n : ExpNode) → are_below (length (trees_of ns)) (children n) ≡ true → HasRisingTerms n → list_any (same_node n) ns ≡ false
      → (i : ℕ) → slice_get (trees_of ns) i ≡ Some (tree_over (trees_of ns) n) → ⊥
  new_tree n named up absent i h =
      let many = as_many ns in
      let within = slice_get_within (trees_of ns) i (tree_over (trees_of ns) n) h in
      let m = get_or ns i n in
      let at : slice_get ns i ≡ Some m = slice_get-get_or ns i n (omega (arith, many, within)) in
      let same : m ≡ n = same_row n m i named up at (some_same _ _ (sym (row_at ns table.right i m at).there ∙ h)) in
      let known : list_any (same_node n) ns ≡ true = any_of same_node (same_by_decides coded_node) ns n i (at ∙ ap Some same) in
      cc

  put_known : (n : ExpNode) (i : ℕ) → slice_get ns i ≡ Some n → IsPut ns ns n i
  put_known n i h =
      let row = row_at ns table.right i n h in
      record { table = table; trees = sym (key_there same_tree (same_by_decides coded_exp) (trees_of ns) (tree_over (trees_of ns) n) i row.there); there = row.there }

  table_more : (n : ExpNode) → node_fault (trees_of ns) n ≡ None → is_formed_node n ≡ true → HasRisingTerms n → list_any (same_node n) ns ≡ false → IsTable (ns ++ n ∷ [])
  table_more n right formed up absent = record {
    right = λ j within. elim (cases_lt j (length ns)) [
      | inl low ↦ fault_push ns n j low ∙ table.right j low
      | inr high ↦
          let many = length_push ns n in
          let last : j ≡ length ns = omega (arith, many) in
          ap (fault_at (ns ++ n ∷ [])) last ∙ fault_last ns n ∙ right
    ];
    formed = list_all-append is_formed_node ns (n ∷ []) ∙ both_true table.formed (both_true formed refl);
    rising = All-push HasRisingTerms ns n table.rising up;
    distinct = subst AreDistinct (sym (trees_push [] ns n)) (distinct_more (trees_of ns) (tree_over (trees_of ns) n) table.distinct (new_tree n (named_earlier (trees_of ns) n right) up absent));
  }

  put_new : (n : ExpNode) (i : ℕ) → node_fault (trees_of ns) n ≡ None → is_formed_node n ≡ true → HasRisingTerms n → list_any (same_node n) ns ≡ false
      → slice_get (ns ++ n ∷ []) i ≡ Some n → IsPut ns (ns ++ n ∷ []) n i
  put_new n i right formed up absent h =
      let t = tree_over (trees_of ns) n in
      let named = named_earlier (trees_of ns) n right in
      let more = table_more n right formed up absent in
      record {
        table = more;
        trees = trees_push [] ns n ∙ sym (key_new same_tree (same_by_decides coded_exp) (trees_of ns) t (new_tree n named up absent));
        there = (row_at (ns ++ n ∷ []) more.right i n h).there ∙ ap Some (ap (λ us. tree_over us n) (trees_push [] ns n) ∙ over_longer (trees_of ns) (t ∷ []) n named);
      }

  -- a node was put into a table
  pub put : (new : List ExpNode) (n m : ExpNode) (i : ℕ) → new ≡ insert_key same_node ns n → slice_get new i ≡ Some m → same_node n m ≡ true
      → node_fault (trees_of ns) n ≡ None → is_formed_node n ≡ true → HasRisingTerms n → IsPut ns new n i
  put new n m i new_is at same right formed up =
      let there : slice_get (insert_key same_node ns n) i ≡ Some n = ap (λ ms. slice_get ms i) (sym new_is) ∙ at ∙ ap Some (sym ((same_by_decides coded_node n m).0 same)) in
      subst (λ ms. IsPut ns ms n i) (sym new_is) (by (list_any (same_node n) ns) refl there)
    where
      by : (b : Bool) → list_any (same_node n) ns ≡ b → slice_get (if b then ns else ns ++ n ∷ []) i ≡ Some n → IsPut ns (if b then ns else ns ++ n ∷ []) n i
      by true is there = put_known n i there
      by false is there = put_new n i right formed up is there

  -- the nodes are those of the trees
  pub nodes_are : ns ≡ nodes_of (trees_of ns)
  nodes_are =
      let ts = trees_of ns in
      let many = as_many ns in
      same_lists ns (nodes_of ts) (sym (length-map ts (node_in ts) ∙ many)) (λ k d within.
      let m = get_or ns k d in
      let at : slice_get ns k ≡ Some m = slice_get-get_or ns k d within in
      let row = row_at ns table.right k m at in
      sym (node_back ts table.distinct m row.named (rising_at k m at)) ∙ ap (node_in ts) (sym (get_or_from_slice_get ts k (tree_over ts m) (wk top) row.there))
      ∙ sym (get_or-map (node_in ts) ts k (wk top) d (slice_get_within ts k (tree_over ts m) row.there)))
