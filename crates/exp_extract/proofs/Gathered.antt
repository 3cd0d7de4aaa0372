-- Sets to which the variables of proofs are added.
use Rattle.std.proofs.Common.{◌≡◌, ℕ, ◌+◌, ◌<◌, Bool, true, false, cond, ◌||◌, List, [], ◌∷◌, ◌++◌, length, get_or, take, refl, sym, ap, ◌∙◌, subst, append_assoc, append-nil}
use Rattle.std.specs.Prelude.{nat_eq, Option, Some, IfSome}
use Rattle.std.specs.HashMap as hash
use Rattle.std.specs.HashMap.{HashMap, Updates}
use Rattle.std.proofs.lemmas.List.{take_more}
use Rattle.std.proofs.lemmas.Option.{IfSome_then}
use Rattle.fol.specs.declared.symbols.Var.{Var}
use Rattle.fol.specs.OrderLaws.{var_total}
use Rattle.fol.proofs.OrderTies.{var_ties}
use Rattle.finite.specs.Finite as set
use Rattle.finite.proofs.Finite.{same_members, has-adds_each}
use Rattle.free_variables.specs.Fresh.{is_among}
use Rattle.free_variables.specs.Sets.{VarSet}
use Rattle.proof_trees.specs.Trees.{Tree, node, Trees, below, rule_of, concl}
use Rattle.proof_graph.specs.declared.graph.Graph.{Graph}
use Rattle.proof_graph.specs.declared.node.Node.{Node}
use Rattle.proof_graph.specs.References.{Reference, trees_of}
use Rattle.extraction_laws.specs.Extraction.{vars_chosen, var_list_tree, var_list_trees}
use Rattle.lk_rules.specs.Sequents.{vars_sequent}
use Rattle.exp_extract.specs.Gathering.{HasVars, IsGathered}

pub adds_each-append : (s : VarSet) (us ws : List Var) → set.adds_each s (us ++ ws) ≡ set.adds_each (set.adds_each s us) ws
adds_each-append s [] ws = refl
adds_each-append s (u ∷ us) ws = adds_each-append (set.adds s u) us ws

or_known : (a b : Bool) → (b ≡ true → a ≡ true) → a ≡ (a || b)
or_known true b h = refl
or_known false true h = h refl
or_known false false h = refl

or_left : (a b : Bool) → a ≡ true → (a || b) ≡ true
or_left true b h = refl
or_left false b h = cc

or_right : (a b : Bool) → b ≡ true → (a || b) ≡ true
or_right true b h = refl
or_right false b h = h

-- variables that are there add nothing
pub known : (s : VarSet) (t : Tree) → HasVars s t → s ≡ set.adds_each s (var_list_tree t)
known s t h =
    same_members var_total var_ties s (set.adds_each s (var_list_tree t)) (λ v.
    or_known (set.has s v) (is_among v (var_list_tree t)) (h v) ∙ sym (has-adds_each var_total s (var_list_tree t) v))

-- variables that were added are there
pub added : (s u : VarSet) (t : Tree) → u ≡ set.adds_each s (var_list_tree t) → HasVars u t
added s u t is v h =
    ap (λ x. set.has x v) is ∙ has-adds_each var_total s (var_list_tree t) v ∙ or_right (set.has s v) (is_among v (var_list_tree t)) h

-- variables stay in a set to which others are added
pub grown : (s u : VarSet) (us : List Var) → u ≡ set.adds_each s us → set.IsSubset s u
grown s u us is v h = ap (λ x. set.has x v) is ∙ has-adds_each var_total s us v ∙ or_left (set.has s v) (is_among v us) h

-- and one more is added
pub next_var : (vs : List Var) (i : ℕ) (v w : Var) (first mid last : VarSet) → i < length vs → v ≡ get_or vs i v → w ≡ v → mid ≡ set.adds_each first (take i vs) → last ≡ set.adds mid w
    → last ≡ set.adds_each first (take (i + 1) vs)
next_var vs i v w first mid last within is same so_far here =
    let longer : take (i + 1) vs ≡ take i vs ++ v ∷ [] = take_more vs i v within ∙ ap (λ x. take i vs ++ x ∷ []) (sym is) in
    here ∙ (λ j. set.adds (so_far j) (same j)) ∙ sym (adds_each-append first (take i vs) (v ∷ [])) ∙ ap (set.adds_each first) (sym longer)

-- a table stays right where the set grows
pub gathering_stays : {S : Type 0} (g : Graph) (seen : HashMap ℕ Reference S) (s u : VarSet) → set.IsSubset s u → ((q : ℕ) → IfSome (hash.get nat_eq seen q) (IsGathered g s))
    → (q : ℕ) → IfSome (hash.get nat_eq seen q) (IsGathered g u)
gathering_stays g seen s u more h q = IfSome_then (hash.get nat_eq seen q) (h q) (λ r k. record { of = k.of; vars = λ v m. more v (k.vars v m) })

-- and where a proof is entered whose variables are there
pub gathered_more : {S : Type 0} (g : Graph) (vs : VarSet) (old new : HashMap ℕ Reference S) (n : ℕ) (r : Reference) → ((q : ℕ) → IfSome (hash.get nat_eq old q) (IsGathered g vs))
    → Updates nat_eq old new n (Some r) → IsGathered g vs r → (q : ℕ) → IfSome (hash.get nat_eq new q) (IsGathered g vs)
gathered_more g vs old new n r h updates here q =
    subst (λ (o : Option Reference). IfSome o (IsGathered g vs)) (sym (updates.0 q))
    (elim (nat_eq n q) as (λ b. IfSome (cond b (Some r) (hash.get nat_eq old q)) (IsGathered g vs)) [ true ↦ here | false ↦ h q ])

-- the variables of an inference and of the proofs over it
pub at_root : (s : VarSet) (t : Tree) (ts : Trees) → ts ≡ below t
    → set.adds_each (set.adds_each s (set.listing (vars_sequent (concl t)) ++ vars_chosen (rule_of t))) (var_list_trees ts) ≡ set.adds_each s (var_list_tree t)
at_root s (node r e us) ts same =
    ap (λ xs. set.adds_each (set.adds_each s (set.listing (vars_sequent e) ++ vars_chosen r)) (var_list_trees xs)) same
    ∙ sym (adds_each-append s (set.listing (vars_sequent e) ++ vars_chosen r) (var_list_trees us))
    ∙ ap (set.adds_each s) (append_assoc (set.listing (vars_sequent e)) (vars_chosen r) (var_list_trees us))

-- they are those of the proof
pub whole : (s mid last : VarSet) (t : Tree) (n : Node) (vs ws : List Var) (ts : Trees) → n.rule ≡ rule_of t → n.end ≡ concl t → vs ≡ set.listing (vars_sequent n.end) ++ vars_chosen n.rule → ws ≡ vs
    → mid ≡ set.adds_each s ws → last ≡ set.adds_each mid (var_list_trees ts) → ts ≡ below t → last ≡ set.adds_each s (var_list_tree t)
whole s mid last t n vs ws ts rule end are same now later below_is =
    later
    ∙ ap (λ m. set.adds_each m (var_list_trees ts)) (now ∙ ap (set.adds_each s) (same ∙ are ∙ (λ i. set.listing (vars_sequent (end i)) ++ vars_chosen (rule i))))
    ∙ at_root s t ts below_is

trees_push : (rs : List Reference) (r : Reference) → var_list_trees (trees_of (rs ++ r ∷ [])) ≡ var_list_trees (trees_of rs) ++ var_list_tree r.tree
trees_push [] r = append-nil (var_list_tree r.tree)
trees_push (q ∷ rs) r =
    ap (λ vs. var_list_tree q.tree ++ vs) (trees_push rs r) ∙ sym (append_assoc (var_list_tree q.tree) (var_list_trees (trees_of rs)) (var_list_tree r.tree))

-- those of one more proof
pub one_more : (rs : List Reference) (i : ℕ) (r : Reference) (first mid last : VarSet) → i < length rs → r ≡ get_or rs i r
    → mid ≡ set.adds_each first (var_list_trees (trees_of (take i rs))) → last ≡ set.adds_each mid (var_list_tree r.tree)
    → last ≡ set.adds_each first (var_list_trees (trees_of (take (i + 1) rs)))
one_more rs i r first mid last within is so_far here =
    let longer : take (i + 1) rs ≡ take i rs ++ r ∷ [] = take_more rs i r within ∙ ap (λ (q : Reference). take i rs ++ q ∷ []) (sym is) in
    here ∙ ap (λ s. set.adds_each s (var_list_tree r.tree)) so_far
    ∙ sym (adds_each-append first (var_list_trees (trees_of (take i rs))) (var_list_tree r.tree))
    ∙ ap (set.adds_each first) (sym (ap (λ (xs : List Reference). var_list_trees (trees_of xs)) longer ∙ trees_push (take i rs) r))
