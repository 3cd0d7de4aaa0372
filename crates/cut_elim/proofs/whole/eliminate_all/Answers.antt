-- What is said of an elimination without a budget says all of it.
use Rattle.std.proofs.Common.{◌≡◌, ℕ, ◌<◌, ◌-◌, ◌^◌, min, Some}
use Rattle.proof_trees.specs.Trees.{concl, IsCutFree, IsValid}
use Rattle.proof_subst.specs.Benches.{graph_of}
use Rattle.cut_laws.specs.Elimination.{elimination, Reaches}
use Rattle.arena_cuts.proofs.WholeSteps.{made_then}
use Rattle.cut_elim.specs.declared.known.Reduced.{Reduced}
use Rattle.cut_elim.specs.Desks.{bench_of}
use Rattle.cut_elim.specs.Whole.{IsWhole}
use Rattle.cut_elim.proofs.WholeEliminations.{whole_reached, whole_exact, whole_free, whole_end, whole_valid}
use Rattle.cut_elim.proofs.whole.eliminate_all.Goals as goal

pub returns-in-Some-clause-reached : goal.returns-in-Some-clause-reached
returns-in-Some-clause-reached g c =
    whole_reached (graph_of (bench_of c.args.desk.now)) c.args.proof.now c.answer_known.result c.answer_known.ensures.whole

pub returns-in-None-clause-reached : goal.returns-in-None-clause-reached
returns-in-None-clause-reached g c =
    let graph = graph_of (bench_of c.args.desk.now) in
    let p = c.args.proof.now in
    made_then c.eliminate_unknown.result (IsWhole graph p) (λ (made : Reduced). (k : ℕ) × Reaches p.tree k made.proof.tree × (made.reductions ≡ min k (2 ^ 64 - 1)))
    (λ made h. whole_reached graph p made h) c.eliminate_unknown.ensures.whole

pub returns-in-Some-clause-exact : goal.returns-in-Some-clause-exact
returns-in-Some-clause-exact g c =
    whole_exact (graph_of (bench_of c.args.desk.now)) c.args.proof.now c.answer_known.result c.answer_known.ensures.whole

pub returns-in-None-clause-exact : goal.returns-in-None-clause-exact
returns-in-None-clause-exact g c =
    let graph = graph_of (bench_of c.args.desk.now) in
    let p = c.args.proof.now in
    made_then c.eliminate_unknown.result (IsWhole graph p) (λ (made : Reduced). made.reductions < 2 ^ 64 - 1 → elimination p.tree made.reductions ≡ Some (made.proof.tree, made.reductions))
    (λ made h. whole_exact graph p made h) c.eliminate_unknown.ensures.whole

pub returns-in-Some-clause-cut_free : goal.returns-in-Some-clause-cut_free
returns-in-Some-clause-cut_free g c =
    whole_free (graph_of (bench_of c.args.desk.now)) c.args.proof.now c.answer_known.result c.answer_known.ensures.whole

pub returns-in-None-clause-cut_free : goal.returns-in-None-clause-cut_free
returns-in-None-clause-cut_free g c =
    let graph = graph_of (bench_of c.args.desk.now) in
    let p = c.args.proof.now in
    made_then c.eliminate_unknown.result (IsWhole graph p) (λ (made : Reduced). IsCutFree made.proof.tree)
    (λ made h. whole_free graph p made h) c.eliminate_unknown.ensures.whole

pub returns-in-Some-clause-valid : goal.returns-in-Some-clause-valid
returns-in-Some-clause-valid g c =
    whole_valid (graph_of (bench_of c.args.desk.now)) c.args.proof.now c.answer_known.result c.answer_known.ensures.whole c.known.ensures.valid

pub returns-in-None-clause-valid : goal.returns-in-None-clause-valid
returns-in-None-clause-valid g c =
    let graph = graph_of (bench_of c.args.desk.now) in
    let p = c.args.proof.now in
    made_then c.eliminate_unknown.result (IsWhole graph p) (λ (made : Reduced). IsValid made.proof.tree)
    (λ made h. whole_valid graph p made h c.known.ensures.valid) c.eliminate_unknown.ensures.whole

pub returns-in-Some-clause-end : goal.returns-in-Some-clause-end
returns-in-Some-clause-end g c =
    whole_end (graph_of (bench_of c.args.desk.now)) c.args.proof.now c.answer_known.result c.answer_known.ensures.whole

pub returns-in-None-clause-end : goal.returns-in-None-clause-end
returns-in-None-clause-end g c =
    let graph = graph_of (bench_of c.args.desk.now) in
    let p = c.args.proof.now in
    made_then c.eliminate_unknown.result (IsWhole graph p) (λ (made : Reduced). concl made.proof.tree ≡ concl p.tree)
    (λ made h. whole_end graph p made h) c.eliminate_unknown.ensures.whole
