-- The unfolded tree is valid, with well-formed formulas, and has the number of the proof where no symbol has a body.
use Rattle.std.proofs.Common.{◌≡◌, ℕ}
use Rattle.proof_graph.specs.declared.reference.ProofRef.{ProofRef}
use Rattle.arena_cells.specs.Standing.{HasTree, tree_at}
use Rattle.def_laws.specs.Unfolded.{unfolded}
use Rattle.proof_flat.proofs.Unfoldings.{flat_valid, flat_formed, flat_same, plain_unfolded, at_some, on_some, at_none, kept_is}
use Rattle.proof_flat.proofs.flattening.flatten_known.Goals as goal

pub proof_at-requires-clause-valid : goal.proof_at-requires-clause-valid
proof_at-requires-clause-valid g c =
    let a = c.number_of.new.pass.arena in
    let b = c.flat_number.new.pass.arena in
    let m = c.in_ok-number.number in
    flat_valid a b m c.in-Some.flat c.args.proof.now.tree c.flat_number.ensures.arena c.in_ok-number.ensures.tree
    (at_some (λ (n : ℕ). HasTree b n (unfolded (tree_at a m))) c.in_ok-flat.field-0 c.in-Some.flat c.in-Some.is c.in_ok-flat.ensures.tree)
    c.known.ensures.valid c.in_ok-number.ensures.formed (on_some c.in_ok-flat.field-0 c.in-Some.flat c.in-Some.is c.in_ok-flat.ensures.short)

pub proof_at-requires-clause-formed : goal.proof_at-requires-clause-formed
proof_at-requires-clause-formed g c =
    let a = c.number_of.new.pass.arena in
    let b = c.flat_number.new.pass.arena in
    let m = c.in_ok-number.number in
    flat_formed a b m c.in-Some.flat c.args.proof.now.tree c.flat_number.ensures.arena c.in_ok-number.ensures.tree
    (at_some (λ (n : ℕ). HasTree b n (unfolded (tree_at a m))) c.in_ok-flat.field-0 c.in-Some.flat c.in-Some.is c.in_ok-flat.ensures.tree)
    c.in_ok-number.ensures.formed c.in_ok-flat.ensures.end

pub returns-clause-unchanged : goal.returns-clause-unchanged
returns-clause-unchanged g c plain =
    let a = c.number_of.new.pass.arena in
    let b = c.flat_number.new.pass.arena in
    let m = c.in_ok-number.number in
    absurd (c.if-flat-number.false (flat_same a b m c.in-Some.flat c.args.proof.now.tree c.flat_number.ensures.arena c.in_ok-number.ensures.tree
    (at_some (λ (n : ℕ). HasTree b n (unfolded (tree_at a m))) c.in_ok-flat.field-0 c.in-Some.flat c.in-Some.is c.in_ok-flat.ensures.tree)
    (on_some c.in_ok-flat.field-0 c.in-Some.flat c.in-Some.is c.in_ok-flat.ensures.distinct) plain))

pub returns-in_default-clause-tree : goal.returns-in_default-clause-tree
returns-in_default-clause-tree g c =
    kept_is (λ (p : ProofRef). p.tree ≡ unfolded c.args.proof.now.tree) c.keep.result c.args.proof.now c.keep.ensures
    (plain_unfolded c.number_of.new.pass.arena c.in_ok-number.number c.args.proof.now.tree c.in_ok-number.ensures.tree (at_none c.in_ok-flat.field-0 c.in_default.is c.in_ok-flat.ensures.plain))
