-- What the table has under the key is the image of the proof under the map, of which the key has a copy.
use Rattle.std.proofs.Common.{◌≡◌, ℕ, List, refl, ap, subst, ◌∙◌}
use Rattle.std.specs.FinMap as fin
use Rattle.substitution.specs.Maps.{Map}
use Rattle.lk_rules.specs.Sequents.{image_sequent}
use Rattle.proof_trees.specs.Trees.{concl}
use Rattle.proof_trees.proofs.Substituted.{concl-sub}
use Rattle.proof_subst.specs.declared.bench.BenchPass.{BenchPass}
use mathlib.Core.List.{IsPrefix}
use Rattle.turn_log.proofs.Prefixes.{prefix_trans}
use Rattle.memo_table.specs.declared.rows.Pair.{Pair}
use Rattle.proof_subst.specs.declared.known.ImageKey.{ImageKey}
use Rattle.proof_subst.specs.declared.known.Image.{Image}
use Rattle.proof_subst.specs.Benches.{images_in, HasImage}
use Rattle.proof_subst.proofs.tree_images.substitute.Goals as goal

at_key : (p : BenchPass) (n k : ℕ) (m copy : Map) → n ≡ k → copy ≡ m → HasImage p n copy → HasImage p k m
at_key p n k m copy number map h = subst (λ (key : ℕ × Map). HasImage p key.0 key.1) (λ i. (number i, map i)) h

pub returns-in-Some-clause-end : goal.returns-in-Some-clause-end
returns-in-Some-clause-end g c =
    let image = rw c.in-Some.is at c.in_ok-known.ensures.image in
    ap concl image.tree
    ∙ concl-sub c.args.proof.now.tree c.in_ok-copy.field-0
    ∙ ap (λ (m : Map). image_sequent (fin.get m) (concl c.args.proof.now.tree)) c.in_ok-copy.ensures

pub returns-in-Some-clause-noted : goal.returns-in-Some-clause-noted
returns-in-Some-clause-noted g c =
    let stands = rw c.in-Some.is at c.in_ok-known.ensures.stands in
    at_key c.look_up.new.pass c.number.result c.args.proof.now.number c.args.map.now c.in_ok-copy.field-0 c.number.ensures c.in_ok-copy.ensures (stands refl)

pub returns-clause-end : goal.returns-clause-end
returns-clause-end g c = ap concl c.in_ok-image.ensures.made.1 ∙ concl-sub c.args.proof.now.tree c.args.map.now

pub returns-clause-noted : goal.returns-clause-noted
returns-clause-noted g c =
    at_key c.note.new.pass c.number.result c.args.proof.now.number c.args.map.now c.in_ok-copy.field-0 c.number.ensures c.in_ok-copy.ensures c.in_ok-note.ensures.stands

-- the table has grown over a look-up and a note, between which it stayed
grown : (old looked made new : BenchPass) → IsPrefix (images_in old) (images_in looked) → images_in made ≡ images_in looked → IsPrefix (images_in made) (images_in new)
    → IsPrefix (images_in old) (images_in new)
grown old looked made new first same second =
    prefix_trans (images_in old) (images_in looked) (images_in new) first
    (subst (λ (l : List (Pair ImageKey Image)). IsPrefix l (images_in new)) same second)

pub returns-clause-images_grown : goal.returns-clause-images_grown
returns-clause-images_grown g c =
    grown c.args.pass.now c.look_up.new.pass c.compute.new.pass c.note.new.pass c.look_up.ensures.images_grown c.compute.ensures.images_stay c.note.ensures.images_grown

pub returns-in_err-note-clause-images_grown : goal.returns-in_err-note-clause-images_grown
returns-in_err-note-clause-images_grown g c =
    grown c.args.pass.now c.look_up.new.pass c.compute.new.pass c.note.new.pass c.look_up.ensures.images_grown c.compute.ensures.images_stay c.note.ensures.images_grown
