-- What was added first is there in the end.
use Rattle.std.proofs.Common.{◌≡◌, true, List, sym, ap, ◌∙◌}
use Rattle.std.specs.List.{list_all}
use Rattle.fol.specs.Syntax.{Formula}
use Rattle.prop_search.specs.Formulas.{is_listed}
use Rattle.prop_search.specs.Parts.{Keeps}
use Rattle.prop_search.proofs.PartsListed.{keeps_through, keeps_each}
use Rattle.prop_search.proofs.parts.parts_of.Goals as goal

there : (a b items fs gs : List Formula) → Keeps a b → items ≡ b → fs ≡ gs → list_all (is_listed a) fs ≡ true → list_all (is_listed items) gs ≡ true
there a b items fs gs k e h all = ap (λ xs. list_all (is_listed xs) gs) e ∙ ap (list_all (is_listed b)) (sym h) ∙ keeps_each a b fs k all

pub returns-clause-left : goal.returns-clause-left
returns-clause-left c =
    there c.add_each.new.seen.keys c.add_parts-2.new.seen.keys c.in_ok-formulas.formulas.items c.left.result.now _
    (keeps_through _ c.add_each-2.new.seen.keys _ c.in_ok-add_each-2.ensures.kept (keeps_through _ c.add_parts.new.seen.keys _ c.in_ok-add_parts.ensures.kept c.in_ok-add_parts-2.ensures.kept))
    c.in_ok-formulas.ensures.same c.left.ensures.listing c.in_ok-add_each.ensures.added

pub returns-clause-right : goal.returns-clause-right
returns-clause-right c =
    there c.add_each-2.new.seen.keys c.add_parts-2.new.seen.keys c.in_ok-formulas.formulas.items c.right.result.now _
    (keeps_through _ c.add_parts.new.seen.keys _ c.in_ok-add_parts.ensures.kept c.in_ok-add_parts-2.ensures.kept)
    c.in_ok-formulas.ensures.same c.right.ensures.listing c.in_ok-add_each-2.ensures.added
