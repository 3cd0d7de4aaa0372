-- What the fields of a listing keep.
use Rattle.std.specs.Prelude.{◌≡◌, ℕ, nat_eq, List, map}
use Rattle.std.specs.List.{All}
use Rattle.std.specs.HashMap.{HashMap}
use Rattle.boxcar.specs.Table.{Shelves}
use Rattle.lk_rules.specs.declared.rule.Step.{Step}
use Rattle.proof_trees.specs.Trees.{Tree, rule_of, concl}
use Rattle.proof_graph.specs.declared.node.Node.{Node}
use Rattle.proof_graph.specs.Keys.{same_node}
use Rattle.step_laws.specs.Places.{step_in}
use Rattle.proof_steps.specs.Listed.{Listed, AreDistinct, IsClosed, key_in, GivesPlaces}
use Rattle.proof_steps.specs.declared.listing.Entry.{Entry}
use Rattle.proof_steps.specs.declared.listing.Listing.TheInside.{Inside}

-- the trees that the references mean, and their numbers
abbrev pub trees_in : List Entry → List Tree
trees_in es = map (λ e. e.proof.tree) es

abbrev pub numbers_in : List Entry → List ℕ
numbers_in es = map (λ e. e.proof.number) es

-- the last inference, with the places of the premises
abbrev pub entry_step : Entry → Step
entry_step e = record { rule = rule_of e.proof.tree; premises = e.premises; end = concl e.proof.tree }

abbrev pub listed_of : Inside → Listed
listed_of i = record { home = i.graph.value.nodes; trees = trees_in i.entries.items; numbers = numbers_in i.entries.items }

-- the references are of the graph; their trees differ, and stand there with those of their premises; the entries have the places of the
-- premises, and the two maps give places
pub record IsListingOf {S T : Type 0} (graph : Shelves) (entries : List Entry) (keys : HashMap Node ℕ S) (seen : HashMap ℕ ℕ T) : Type 0 where
  pub home : All (λ e. e.proof.home ≡ graph) entries
  pub distinct : AreDistinct (trees_in entries)
  pub closed : IsClosed (trees_in entries)
  pub steps : map entry_step entries ≡ map (step_in (trees_in entries)) (trees_in entries)
  pub keyed : GivesPlaces same_node keys (map (key_in (trees_in entries) (numbers_in entries)) (trees_in entries))
  pub noted : GivesPlaces nat_eq seen (numbers_in entries)

abbrev pub IsListing : Inside → Type 0
IsListing i = IsListingOf i.graph.value.nodes i.entries.items i.keys i.seen
