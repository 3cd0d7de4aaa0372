-- With one more entry, whose parent finds it.
use Rattle.std.proofs.Common.{◌≡◌, List, ◌∷◌, ◌++◌, [], length, get_or, set, ap, ◌∙◌, cond, Some, arith}
use Rattle.std.specs.BTreeMap.{get}
use Rattle.std.specs.Ordering.{eq_by_cmp}
use Rattle.fol.specs.Order.{term_cmp}
use Rattle.exp_extract.specs.declared.places.Origin.TheVariants.{Via}
use Rattle.exp_extract.specs.declared.places.Entry.{Entry}
use Rattle.exp_extract.proofs.MoreEntries.{length_of, HasNew}
use Rattle.exp_extract.proofs.Entered.{fresh_entry, via_entered, same_entered, on_err}
use Rattle.exp_extract.proofs.places.Places.push_via.Goals as goal

pub index_mut-parent-requires : goal.index_mut-parent-requires
index_mut-parent-requires c = omega (arith, c.requires.place, ap length c.self.view_is, length_of c.self.inside.entries.items, c.self.inside.entries.ok.0, c.reserve.ensures.len)

pub invariant_of-self-2 : goal.invariant_of-self-2
invariant_of-self-2 c =
    let es = c.self.inside.entries.items in
    let p = c.args.place in
    let t = c.args.term.now in
    let old = c.index_mut-parent.result.now in
    let at : old ≡ get_or es p old = c.index_mut-parent.ensures.value ∙ ap (λ (xs : List Entry). get_or xs p old) c.reserve.ensures.items in
    let new : HasNew old.vias c.insert.new.self t c.in_ok-child.child = λ u. c.in_ok-insert.ensures.updates.0 u ∙ (λ j. cond (eq_by_cmp term_cmp (c.in_ok-term.ensures j) u) (Some c.in_ok-child.child) (get term_cmp old.vias u)) in
    let made = c.new.ensures.fields ∙ (λ j. fresh_entry (Via p (c.in_ok-copy.ensures j)) c.args.formula c.args.side c.new.result.vias) in
    let items : c.push_reserved.new.self.items ≡ set es p (record old { vias = c.insert.new.self }) ++ c.new.result ∷ [] =
    c.push_reserved.ensures.items ∙ ap (λ (xs : List Entry). set xs p (record old { vias = c.insert.new.self }) ++ c.new.result ∷ []) c.reserve.ensures.items in
    (via_entered es c.args.self.now c.self.view_is c.self.invariant c.args.formula c.args.side c.new.result c.requires.formed c.new.ensures.empty p old c.requires.place at c.in_ok-child.child c.in_ok-child.ensures
    t c.insert.new.self c.push_reserved.new.self.items new c.requires.term made items c.requires.absent c.requires.formula c.requires.side).entries

pub returns-clause-ok : goal.returns-clause-ok
returns-clause-ok c =
    let es = c.self.inside.entries.items in
    let p = c.args.place in
    let t = c.args.term.now in
    let old = c.index_mut-parent.result.now in
    let at : old ≡ get_or es p old = c.index_mut-parent.ensures.value ∙ ap (λ (xs : List Entry). get_or xs p old) c.reserve.ensures.items in
    let new : HasNew old.vias c.insert.new.self t c.in_ok-child.child = λ u. c.in_ok-insert.ensures.updates.0 u ∙ (λ j. cond (eq_by_cmp term_cmp (c.in_ok-term.ensures j) u) (Some c.in_ok-child.child) (get term_cmp old.vias u)) in
    let made = c.new.ensures.fields ∙ (λ j. fresh_entry (Via p (c.in_ok-copy.ensures j)) c.args.formula c.args.side c.new.result.vias) in
    let items : c.push_reserved.new.self.items ≡ set es p (record old { vias = c.insert.new.self }) ++ c.new.result ∷ [] =
    c.push_reserved.ensures.items ∙ ap (λ (xs : List Entry). set xs p (record old { vias = c.insert.new.self }) ++ c.new.result ∷ []) c.reserve.ensures.items in
    (via_entered es c.args.self.now c.self.view_is c.self.invariant c.args.formula c.args.side c.new.result c.requires.formed c.new.ensures.empty p old c.requires.place at c.in_ok-child.child c.in_ok-child.ensures
    t c.insert.new.self c.push_reserved.new.self.items new c.requires.term made items c.requires.absent c.requires.formula c.requires.side).addresses

pub invariant_of-self-in_err-insert : goal.invariant_of-self-in_err-insert
invariant_of-self-in_err-insert c =
    let es = c.self.inside.entries.items in
    let p = c.args.place in
    let old = c.index_mut-parent.result.now in
    let at : old ≡ get_or es p old = c.index_mut-parent.ensures.value ∙ ap (λ (xs : List Entry). get_or xs p old) c.reserve.ensures.items in
    (same_entered es _ c.args.self.now p old c.insert.new.self c.self.view_is c.self.invariant c.requires.place at c.in_err-insert.ensures.err (ap (λ (xs : List Entry). set xs p (record old { vias = c.insert.new.self })) c.reserve.ensures.items)).0

pub returns-in_err-insert-clause-err : goal.returns-in_err-insert-clause-err
returns-in_err-insert-clause-err c =
    let es = c.self.inside.entries.items in
    let p = c.args.place in
    let old = c.index_mut-parent.result.now in
    let at : old ≡ get_or es p old = c.index_mut-parent.ensures.value ∙ ap (λ (xs : List Entry). get_or xs p old) c.reserve.ensures.items in
    on_err c.from_residual-in_err-insert.result
    (same_entered es _ c.args.self.now p old c.insert.new.self c.self.view_is c.self.invariant c.requires.place at c.in_err-insert.ensures.err (ap (λ (xs : List Entry). set xs p (record old { vias = c.insert.new.self })) c.reserve.ensures.items)).1
