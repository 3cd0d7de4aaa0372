-- Room for one more reference changes nothing, and one more of another key and another number keeps the index.
use Rattle.std.proofs.Common.{◌≢◌, [], ◌∷◌, ◌++◌, refl, sym, ap, ◌∙◌, subst, arith}
use Rattle.std.specs.List.{All}
use Rattle.proof_graph.specs.History.{Recorded, IsAbsent}
use Rattle.proof_graph.proofs.Growth.{indexed_same, indexed_more}
use Rattle.proof_graph.proofs.index.Index.put.Goals as goal

pub invariant_of-self : goal.invariant_of-self
invariant_of-self c = indexed_same c.self.inside _ c.self.invariant refl c.reserve.ensures.items (λ n. refl, λ n. refl) refl

pub invariant_of-self-in_err-note : goal.invariant_of-self-in_err-note
invariant_of-self-in_err-note c = indexed_same c.self.inside _ c.self.invariant refl c.reserve.ensures.items c.in_err-note.ensures.err refl

pub invariant_of-self-2 : goal.invariant_of-self-2
invariant_of-self-2 c =
    indexed_more c.self.inside _ c.args.made c.args.key c.len-place.result c.self.invariant refl
    (c.push_reserved.ensures.items ∙ ap (λ xs. xs ++ c.args.made ∷ []) c.reserve.ensures.items)
    (c.len-place.ensures ∙ c.reserve.ensures.len ∙ c.self.inside.refs.ok.0)
    c.in_ok-note.ensures.ok
    (omega arith)
    (omega arith)
    (c.requires.of ∙ sym (ap (λ (v : Recorded). v.home) c.self.view_is))
    c.known.ensures.valid
    c.requires.key
    (subst (λ (v : Recorded). IsAbsent v.history c.args.key) (sym c.self.view_is) c.requires.absent)
    (subst (λ (v : Recorded). All (λ r. r.number ≢ c.args.made.number) v.history) (sym c.self.view_is) c.requires.number)
