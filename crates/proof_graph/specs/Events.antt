-- Events on a history: references that are interned, by whomever.
use Rattle.std.specs.Prelude.{◌≢◌, List, [], ◌∷◌, ◌++◌}
use Rattle.std.specs.List.{All}
use Rattle.proof_trees.specs.Trees.{IsValid}
use Rattle.proof_graph.specs.References.{Reference, key_of}
use Rattle.proof_graph.specs.History.{IsAbsent}

-- a reference may be interned where its key and its number are those of no entry, and its tree is valid, with the rule and the end
-- sequent of its key at the root
pub record MayFollow (history : List Reference) (r : Reference) : Type 0 where
  pub key : IsAbsent history (key_of r)
  pub number : All (λ s. s.number ≢ r.number) history
  pub tree : IsValid r.tree

-- it is then added at the end
abbrev pub interned : List Reference → Reference → List Reference
interned history r = history ++ r ∷ []

-- each event of a list may follow on those before it
abbrev pub AreAllowed : List Reference → List Reference → Type 0
AreAllowed history [] = Unit {0}
AreAllowed history (r ∷ rs) = MayFollow history r × AreAllowed (interned history r) rs

-- the history after a list of events
abbrev pub after_all : List Reference → List Reference → List Reference
after_all history [] = history
after_all history (r ∷ rs) = after_all (interned history r) rs
