-- What an index keeps, as facts on its history.
use Rattle.std.proofs.Common.{◌≡◌, ◌≢◌, ℕ, ◌<◌, arith}
use Rattle.std.specs.Prelude.{Some}
use Rattle.std.specs.List.{All}
use Rattle.proof_graph.specs.declared.index.Index.TheInside.{Inside}
use Rattle.proof_graph.specs.History.{IsLegal}
use Rattle.proof_graph.specs.Indexed.{IsIndexed}

pub some_same : {X : Type 0} (x y : X) → Some x ≡ Some y → x ≡ y
some_same x y h = cc

pub legal : (i : Inside) → IsIndexed i → IsLegal i.refs.items
legal i h = record { keys = h.keys; numbers = h.numbers; trees = h.valid }

-- a number above the top is that of no entry
pub above_top : (i : Inside) → IsIndexed i → (n : ℕ) → i.top < n → All (λ r. r.number ≢ n) i.refs.items
above_top i h n above = λ k d within same. let low = h.top k d within in absurd (omega arith)
