-- With one more entry, whose parent finds it.
use Rattle.std.proofs.Common.{◌≡◌, List, ◌∷◌, ◌++◌, [], length, get_or, set, ap, ◌∙◌, arith}
use Rattle.exp_extract.specs.declared.places.Entry.{Entry}
use Rattle.exp_extract.specs.Entries.{with_part}
use Rattle.exp_extract.proofs.MoreEntries.{length_of}
use Rattle.exp_extract.proofs.Entered.{part_entered}
use Rattle.exp_extract.proofs.places.Places.push_part.Goals as goal

pub index_mut-parent-requires : goal.index_mut-parent-requires
index_mut-parent-requires c = omega (arith, c.requires.place, ap length c.self.view_is, length_of c.self.inside.entries.items, c.self.inside.entries.ok.0, c.reserve.ensures.len)

pub invariant_of-self-2 : goal.invariant_of-self-2
invariant_of-self-2 c =
    let es = c.self.inside.entries.items in
    let p = c.args.place in
    let old = c.index_mut-parent.result.now in
    let at : old ≡ get_or es p old = c.index_mut-parent.ensures.value ∙ ap (λ (xs : List Entry). get_or xs p old) c.reserve.ensures.items in
    let items : c.push_reserved.new.self.items ≡ set es p (with_part old c.args.number c.in_ok-child.child) ++ c.new.result ∷ [] =
    c.push_reserved.ensures.items ∙ (λ j. set (c.reserve.ensures.items j) p (c.set_part.ensures j) ++ c.new.result ∷ []) in
    (part_entered es c.args.self.now c.self.view_is c.self.invariant c.args.formula c.args.side c.new.result c.requires.formed c.new.ensures.empty p old c.requires.place at c.in_ok-child.child c.in_ok-child.ensures
    c.args.number c.push_reserved.new.self.items c.requires.number c.new.ensures.fields items c.requires.absent c.requires.formula c.requires.side).entries

pub returns-clause-ok : goal.returns-clause-ok
returns-clause-ok c =
    let es = c.self.inside.entries.items in
    let p = c.args.place in
    let old = c.index_mut-parent.result.now in
    let at : old ≡ get_or es p old = c.index_mut-parent.ensures.value ∙ ap (λ (xs : List Entry). get_or xs p old) c.reserve.ensures.items in
    let items : c.push_reserved.new.self.items ≡ set es p (with_part old c.args.number c.in_ok-child.child) ++ c.new.result ∷ [] =
    c.push_reserved.ensures.items ∙ (λ j. set (c.reserve.ensures.items j) p (c.set_part.ensures j) ++ c.new.result ∷ []) in
    (part_entered es c.args.self.now c.self.view_is c.self.invariant c.args.formula c.args.side c.new.result c.requires.formed c.new.ensures.empty p old c.requires.place at c.in_ok-child.child c.in_ok-child.ensures
    c.args.number c.push_reserved.new.self.items c.requires.number c.new.ensures.fields items c.requires.absent c.requires.formula c.requires.side).addresses
