-- What the reading of expansion trees gives is well formed.
use Rattle.std.proofs.Common.{◌≡◌, ℕ, true, List, codes, Some, None, Ok, refl, subst}
use Rattle.std.specs.List.{list_all}
use Rattle.std.proofs.lemmas.List.Sums.{list_all-from_AllPass}
use Rattle.fol.specs.Syntax.{Term, Formula}
use Rattle.fol.specs.Formed.{is_formed, is_formed_term, IsFormedTerm}
use Rattle.exp_tree.specs.declared.flat.ExpNode.{ExpNode}
use Rattle.exp_tree.specs.declared.flat.ExpNode.TheVariants as nodes
use Rattle.exp_tree.specs.declared.flat.FlatExp.{FlatExp}
use Rattle.exp_tree.specs.FlatLists.{is_formed_node}
use Rattle.serde_json.specs.Data.{Data}
use Rattle.serde_json.specs.Find.{as_object}
use Rattle.job_words.specs.declared.causes.JobCause.TheVariants.{Field}
use Rattle.job_words.specs.declared.node_kinds.NodeKind.{NodeKind}
use Rattle.job_words.specs.declared.node_kinds.NodeKind.TheVariants as kinds
use Rattle.job_words.specs.NodeKinds.{node_named}
use Rattle.job_lang.specs.declared.places.Place.{Place}
use Rattle.job_lang.specs.declared.places.Place.TheVariants.{Top, Node, Instance}
use Rattle.job_lang.specs.Places.{path}
use Rattle.job_lang.specs.Fields.{◌>>=◌, or_fault, text_at, list_at}
use Rattle.job_lang.specs.Formulas.{formula_at, term_at, variable_at}
use Rattle.job_lang.specs.Numbers.{number_at, numbers_at, pair_at}
use Rattle.job_lang.specs.Expansions.{members_of_instance, instance_at, instances_of, instances_at, weak_at, strong_at, node_of_kind, node_at, nodes_of, nodes_at, flat_at}
use Rattle.job_lang.proofs.FormedFields.{both_read, same_value, both_true, formula_formed, term_formed, variable_formed, each_formed}

abbrev IsFormedNode : ExpNode → Type 0
IsFormedNode n = is_formed_node n ≡ true

members_formed : (place : Place) (d : Data) (i : Term × ℕ) → members_of_instance place d ≡ Ok i → IsFormedTerm i.0
members_formed place d i is =
    let term = both_read (term_at place (codes "term") d) _ i is in
    let of = both_read (number_at place (codes "of") d) _ i term.1.1 in
    subst (λ (x : Term × ℕ). IsFormedTerm x.0) (same_value (term.0, of.0) i of.1.1) (term_formed place d (codes "term") term.0 term.1.0)

module _ (i : ℕ) where
  instance_formed : (k : ℕ) (d : Data) (x : Term × ℕ) → instance_at i k d ≡ Ok x → IsFormedTerm x.0
  instance_formed k d x is =
      let object = both_read (or_fault (Field (path (Node i) (codes "instances") (Some k))) (as_object d)) _ x is in
      members_formed (Instance i k) d x object.1.1

  instances_formed : (d : Data) (is : List (Term × ℕ)) → instances_at i d ≡ Ok is → list_all (λ i. is_formed_term i.0) is ≡ true
  instances_formed d is read =
      let list = both_read (list_at (Node i) (codes "instances") d) (instances_of i) is read in
      list_all-from_AllPass (λ (x : Term × ℕ). is_formed_term x.0) is
      (each_formed (λ (x : Term × ℕ). IsFormedTerm x.0) (instance_at i) instance_formed 0 list.0 is list.1.1)

  module _ (d : Data) (n : ExpNode) where
    -- a node that names a formula alone, and one that names children alone
    with_formula : (f : Formula → ExpNode) → ((a : Formula) → is_formed a ≡ true → IsFormedNode (f a))
        → (formula_at (Node i) (codes "formula") d >>= λ a. Ok (f a)) ≡ Ok n → IsFormedNode n
    with_formula f formed is =
        let formula = both_read (formula_at (Node i) (codes "formula") d) (λ a. Ok (f a)) n is in
        subst IsFormedNode (same_value (f formula.0) n formula.1.1) (formed formula.0 (formula_formed (Node i) d (codes "formula") formula.0 formula.1.0))

    with_children : (f : ℕ → ℕ → ExpNode) → ((l m : ℕ) → IsFormedNode (f l m)) → (pair_at (Node i) (codes "of") d >>= λ p. Ok (f p.0 p.1)) ≡ Ok n → IsFormedNode n
    with_children f formed is =
        let pair = both_read (pair_at (Node i) (codes "of") d) (λ p. Ok (f p.0 p.1)) n is in
        subst IsFormedNode (same_value (f pair.0.0 pair.0.1) n pair.1.1) (formed pair.0.0 pair.0.1)

    not_formed : node_of_kind i kinds.Not d ≡ Ok n → IsFormedNode n
    not_formed is =
        let of = both_read (number_at (Node i) (codes "of") d) (λ m. Ok (nodes.Not m)) n is in subst IsFormedNode (same_value (nodes.Not of.0) n of.1.1) refl

    weak_formed : weak_at i d ≡ Ok n → IsFormedNode n
    weak_formed is =
        let formula = both_read (formula_at (Node i) (codes "formula") d) _ n is in
        let instances = both_read (instances_at i d) _ n formula.1.1 in
        subst IsFormedNode (same_value (nodes.Weak formula.0 instances.0) n instances.1.1)
        (both_true _ _ (formula_formed (Node i) d (codes "formula") formula.0 formula.1.0) (instances_formed d instances.0 instances.1.0))

    strong_formed : strong_at i d ≡ Ok n → IsFormedNode n
    strong_formed is =
        let formula = both_read (formula_at (Node i) (codes "formula") d) _ n is in
        let var = both_read (variable_at (Node i) (codes "var") d) _ n formula.1.1 in
        let of = both_read (number_at (Node i) (codes "of") d) _ n var.1.1 in
        subst IsFormedNode (same_value (nodes.Strong formula.0 var.0 of.0) n of.1.1)
        (both_true _ _ (formula_formed (Node i) d (codes "formula") formula.0 formula.1.0) (variable_formed (Node i) d (codes "var") var.0 var.1.0))

    kind_formed : (k : NodeKind) → node_of_kind i k d ≡ Ok n → IsFormedNode n
    kind_formed kinds.Wk is = with_formula (λ a. nodes.Wk a) (λ a h. h) is
    kind_formed kinds.Leaf is = with_formula (λ a. nodes.Leaf a) (λ a h. h) is
    kind_formed kinds.Not is = not_formed is
    kind_formed kinds.And is = with_children (λ l m. nodes.And l m) (λ l m. refl) is
    kind_formed kinds.Or is = with_children (λ l m. nodes.Or l m) (λ l m. refl) is
    kind_formed kinds.Imp is = with_children (λ l m. nodes.Imp l m) (λ l m. refl) is
    kind_formed kinds.Weak is = weak_formed is
    kind_formed kinds.Strong is = strong_formed is

    node_formed : node_at i d ≡ Ok n → IsFormedNode n
    node_formed is =
        let object = both_read (or_fault (Field (path Top (codes "nodes") (Some i))) (as_object d)) _ n is in
        let name = both_read (text_at (Node i) (codes "kind") d) _ n object.1.1 in
        let kind = both_read (or_fault (Field (path (Node i) (codes "kind") None)) (node_named name.0)) _ n name.1.1 in
        kind_formed kind.0 kind.1.1

-- the nodes of a flat list that is read
pub flat_formed : (d : Data) (flat : FlatExp) → flat_at d ≡ Ok flat → list_all is_formed_node flat.nodes ≡ true
flat_formed d flat is =
    let ns = both_read (nodes_at d) _ flat is in
    let left = both_read (numbers_at Top (codes "left") d) _ flat ns.1.1 in
    let right = both_read (numbers_at Top (codes "right") d) _ flat left.1.1 in
    let list = both_read (list_at Top (codes "nodes") d) nodes_of ns.0 ns.1.0 in
    subst (λ (x : FlatExp). list_all is_formed_node x.nodes ≡ true) (same_value _ flat right.1.1)
    (list_all-from_AllPass is_formed_node ns.0 (each_formed IsFormedNode node_at node_formed 0 list.0 ns.0 list.1.1))
