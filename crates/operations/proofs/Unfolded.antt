-- What a proof comes to with all defined symbols unfolded.
use Rattle.std.proofs.Common.{◌≡◌, Bool, true, false, ◌&&◌, cond, refl, sym, ap, ◌∙◌}
use Rattle.std.specs.Cmp.Derive.{both_true}
use Rattle.proof_trees.specs.Trees.{Tree, node, Trees, none, more, concl, IsValid, AllValid}
use Rattle.proof_trees.specs.Conclusions.{IsFormedSequent}
use Rattle.def_laws.specs.Unfolded.{unfolded}
use Rattle.proof_graph.specs.declared.graph.Graph.{Graph}
use Rattle.proof_graph.specs.Graphs.{IsOf}
use Rattle.proof_graph.specs.References.{Reference}
use Rattle.operation_laws.specs.Answers.{Product, proof, lacking, product}
use Rattle.operation_laws.specs.Running.{has_formed_rules, have_formed_rules, is_formed_sequent, unfolds}
use Rattle.operations.specs.declared.answers.Made.TheVariants as made
use Rattle.operations.specs.declared.answers.Ran.TheVariants as ran
use Rattle.operations.specs.Means.{Comes}

-- each rule of a valid tree names what is well formed
mutual
  valid_rules : (t : Tree) → IsValid t → has_formed_rules t ≡ true
  valid_rules (node r s ts) valid = both_true valid.0.formed (all_valid_rules ts valid.1)

  all_valid_rules : (ts : Trees) → AllValid ts → have_formed_rules ts ≡ true
  all_valid_rules none valid = refl
  all_valid_rules (more t ts) valid = both_true (valid_rules t valid.0) (all_valid_rules ts valid.1)

pub unfolds_gives : (g : Graph) (t : Tree) (r : Reference) → r.tree ≡ unfolded t → IsFormedSequent (concl t) → IsValid r.tree → IsOf g r → Comes g (ran.Done (made.Proof r)) (unfolds t)
unfolds_gives g t r is end valid of =
    let rules : has_formed_rules (unfolded t) ≡ true = ap has_formed_rules (sym is) ∙ valid_rules r.tree valid in
    let formed : (is_formed_sequent (concl t) && has_formed_rules (unfolded t)) ≡ true = both_true (both_true end.left end.right) rules in
    (ap (λ b. cond b (product (proof (unfolded t))) lacking) formed ∙ ap (λ u. product (proof u)) (sym is), of)

lacks_if : (g : Graph) (b : Bool) (p : Product) → Comes g ran.Lacking (cond b (product p) lacking)
lacks_if g true p = tt
lacks_if g false p = tt

pub unfolds_lacks : (g : Graph) (t : Tree) → Comes g ran.Lacking (unfolds t)
unfolds_lacks g t = lacks_if g (is_formed_sequent (concl t) && has_formed_rules (unfolded t)) (proof (unfolded t))
