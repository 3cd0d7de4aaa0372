use Rattle.std.proofs.Common.{ℕ, List, sym, ap, ◌∙◌, subst}
use Rattle.std.specs.List.{All}
use Rattle.session_laws.specs.Answers.{Past, AsksOne}
use Rattle.proof_server.specs.Counting.{counts_of}
use Rattle.proof_server.proofs.GeneratedOps.{lines_single}
use Rattle.proof_server.proofs.laws.generated_counts.Goals as goal

pub returns : goal.returns
returns c n a b first second =
    first.counted
    ∙ ap (λ (done : List Past). counts_of done) (c.replies.ensures.one_ample first.replies.done second.replies.done first.replies.allowed second.replies.allowed (first.replies.each ∙ sym second.replies.each)
    (subst (λ (lines : List (List ℕ)). All AsksOne lines) (sym first.replies.each) (lines_single n)) first.ample second.ample)
    ∙ sym second.counted
