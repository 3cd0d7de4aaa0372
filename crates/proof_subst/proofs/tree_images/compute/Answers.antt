-- The image is valid, with well-formed formulas, and has the number of the proof where the map changes none of its free variables.
use Rattle.proof_subst.proofs.UnderMaps.{same_number, image_valid, image_formed}
use Rattle.proof_subst.proofs.tree_images.compute.Goals as goal

pub proof_at-requires-clause-valid : goal.proof_at-requires-clause-valid
proof_at-requires-clause-valid g c =
    image_valid c.number_of.new.pass.arena c.image_of.new.pass.arena c.in_ok-number.number c.in_ok-image.image c.args.proof.now.tree c.args.map.now c.image_of.ensures.arena c.in_ok-number.ensures.tree c.in_ok-image.ensures.tree
    c.requires.map c.known.ensures.valid

pub proof_at-requires-clause-formed : goal.proof_at-requires-clause-formed
proof_at-requires-clause-formed g c =
    image_formed c.number_of.new.pass.arena c.image_of.new.pass.arena c.in_ok-number.number c.in_ok-image.image c.args.proof.now.tree c.args.map.now c.image_of.ensures.arena c.in_ok-number.ensures.tree c.in_ok-image.ensures.tree
    c.requires.map c.known.ensures.valid c.in_ok-number.ensures.formed

pub returns-clause-kept : goal.returns-clause-kept
returns-clause-kept g c kept =
    absurd (c.if-image-number.false (same_number c.number_of.new.pass.arena c.image_of.new.pass.arena c.in_ok-number.number c.in_ok-image.image c.args.proof.now.tree c.args.map.now c.image_of.ensures.arena c.in_ok-number.ensures.tree c.in_ok-image.ensures.tree
    c.known-2.ensures c.known.ensures.valid kept))
