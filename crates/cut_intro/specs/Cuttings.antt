-- The parts of the proof with a cut by a candidate.
--     IsCandidateFor, HasCandidate      the values are a candidate, with its patterns and its rest
--     IsCuttingFor      the parts are those for the candidate
use Rattle.std.specs.Prelude.{◌≡◌, ℕ, List, map}
use Rattle.std.specs.List.{Contains}
use Rattle.lk_rules.specs.declared.sequent.Sequent.{Sequent}
use Rattle.lk_rules.specs.declared.sequent.Side.TheVariants.{Left, Right}
use Rattle.lk_rules.specs.Sequents.{adds_to}
use Rattle.herbrand_laws.specs.Herbrand.{Item}
use Rattle.herbrand_laws.specs.Patterns.{TermSet}
use Rattle.herbrand_laws.specs.Candidates.{occurring, patterns}
use Rattle.herbrand_laws.specs.Introduction.{cut_formula, left_rules, right_rules, left_search, right_search}
use Rattle.delta_table.specs.declared.candidates.Candidate.{Candidate}
use Rattle.delta_table.specs.Chosen.{rest_item}
use Rattle.cut_intro.specs.declared.performing.Cutting.{Cutting}
use Rattle.cut_intro.specs.Branches.{inferences}

-- the values are those of rows, and the patterns and the rest of each item are those for them
pub record IsCandidateFor (width : ℕ) (items : List Item) (c : Candidate) : Type 0 where
  pub occurs : Contains (occurring width items) c.values
  pub of_patterns : c.patterns ≡ map (patterns width c.values) items
  pub of_rest : c.rest ≡ map (rest_item width c.values) items

abbrev pub HasCandidate : List Item → Candidate → Type 0
HasCandidate items c = (width : ℕ) × IsCandidateFor width items c

-- the cut formula, the inferences of both premises, and what is searched, are those for the candidate
pub record IsCuttingFor (width : ℕ) (s : Sequent) (items : List Item) (w : TermSet) (c : Cutting) : Type 0 where
  pub formula : c.formula ≡ cut_formula width s items w
  pub left : c.left.inferences.items ≡ inferences (left_rules width s items w) (adds_to s Right (cut_formula width s items w))
  pub right : c.right.inferences.items ≡ inferences (right_rules width s items w) (adds_to s Left (cut_formula width s items w))
  pub left_searched : c.left.searched ≡ left_search width s items w
  pub right_searched : c.right.searched ≡ right_search width s items w
