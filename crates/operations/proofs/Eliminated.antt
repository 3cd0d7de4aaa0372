-- What an elimination answers decides what the operation comes to.
use Rattle.std.proofs.Common.{◌≡◌, ℕ, ◌-◌, ◌^◌, [], Option, Some, None, refl, sym, ap, ◌∙◌, subst, inl, inr, append-nil}
use Rattle.std.specs.Prelude.{min}
use mathlib.Core.List.{IsPrefix}
use Rattle.proof_trees.specs.Trees.{Tree}
use Rattle.cut_laws.specs.Elimination.{Reaches}
use Rattle.proof_graph.specs.declared.graph.Graph.{Graph}
use Rattle.proof_graph.specs.Graphs.{IsOf}
use Rattle.proof_graph.specs.References.{Reference}
use Rattle.proof_subst.specs.Benches.{graph_of, images_in}
use Rattle.cut_elim.specs.declared.desk.Desk.{Desk}
use Rattle.cut_elim.specs.declared.desk.DeskPass.{DeskPass}
use Rattle.cut_elim.specs.Desks.{bench_of, pass_in as bench_pass_in, eliminations_in, Extends as ExtendsDesk}
use Rattle.operation_laws.specs.declared.refusals.Failure.TheVariants.{Budget}
use Rattle.operations.specs.declared.answers.Ran.{Ran}
use Rattle.operations.specs.declared.answers.Ran.TheVariants as ran
use Rattle.operations.specs.declared.answers.Made.TheVariants as made
use Rattle.operation_laws.specs.Answers.{reduced, lacking, product, Asked, elimination as reached_from, IsReached}
use Rattle.operation_laws.specs.Given.{Found, found}
use Rattle.operation_laws.specs.Running.{eliminates, to_eliminate}
use Rattle.operations.specs.Means.{Comes, ComesTo}
use Rattle.operations.specs.Runs.{RunsAtDesk}

pub elimination_gives : (g : Graph) (r : Ran) (t : Tree) (n : ℕ) (wanted : Option (Tree × ℕ)) → wanted ≡ Some (t, n)
    → Comes g r (product (reduced t n)) → Comes g r (eliminates wanted)
elimination_gives g r t n wanted is comes = subst (λ (w : Option (Tree × ℕ)). Comes g r (eliminates w)) (sym is) comes

pub elimination_fails : (g : Graph) (wanted : Option (Tree × ℕ)) → wanted ≡ None → Comes g (ran.Failed Budget) (eliminates wanted)
elimination_fails g wanted is = ap eliminates is

pub elimination_lacks : (g : Graph) (wanted : Option (Tree × ℕ)) → Comes g ran.Lacking (eliminates wanted)
elimination_lacks g None = tt
elimination_lacks g (Some p) = tt

-- where no budget ends it
pub whole_gives : (g : Graph) (t : Tree) (r : Reference) (n : ℕ) → (k : ℕ) × Reaches t k r.tree × (n ≡ min k (2 ^ 64 - 1)) → IsOf g r
    → ComesTo g (ran.Done (made.Reduced r n)) (reached_from t)
whole_gives g t r n reached of =
    let met : IsReached t (product (reduced r.tree n)) = record { tree = r.tree; steps = reached.0; reached = reached.1; is = ap (λ m. product (reduced r.tree m)) reached.2 } in
    (product (reduced r.tree n), inl met, (refl, of))

pub whole_lacks : (g : Graph) (f : Found Tree) (t : Tree) → f ≡ found t → ComesTo g ran.Lacking (to_eliminate f)
whole_lacks g f t is = subst (λ h. ComesTo g ran.Lacking (to_eliminate h)) (sym is) (lacking, inr refl, tt)

-- want of memory at a desk, which leaves the images as they were
pub lacks_at_desk : (desk : Desk) (old new : DeskPass) (asked : Asked) → ComesTo (graph_of (bench_of desk)) ran.Lacking asked
    → images_in (bench_pass_in new) ≡ images_in (bench_pass_in old) → IsPrefix (eliminations_in old) (eliminations_in new) → ExtendsDesk desk old new
    → RunsAtDesk desk old new ran.Lacking asked
lacks_at_desk desk old new asked comes stay grown extends = record {
  runs = record {
    comes = comes;
    unchanged = λ refused. cc;
    images_unchanged = λ refused. stay;
    images_grown = ([], append-nil (images_in (bench_pass_in old)) ∙ sym stay);
    extends = (extends.0.bench, extends.1);
  };
  eliminations_unchanged = λ refused other. cc;
  eliminations_grown = grown;
  extends = extends;
}
