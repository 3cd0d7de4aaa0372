-- Clauses with the marks of their atoms, and with their links.
--     IsMarked      the marks are those of the atoms, and the links, if there are any, those of the clause
use Rattle.std.specs.Prelude.{◌≡◌, IfSome}
use Rattle.finite.specs.Finite as set
use Rattle.res_prover.specs.declared.marked.MarkedClause.TheInside.{Inside}
use Rattle.res_prover.specs.Marks.{side_marks}
use Rattle.res_prover.specs.Links.{AreLinksOf}

pub record IsMarked (m : Inside) : Type 0 where
  pub left_marks : m.left_marks ≡ side_marks (set.listing m.cell.value.clause.left)
  pub right_marks : m.right_marks ≡ side_marks (set.listing m.cell.value.clause.right)
  pub left : m.cell.value.left.items ≡ set.listing m.cell.value.clause.left
  pub right : m.cell.value.right.items ≡ set.listing m.cell.value.clause.right
  pub links : IfSome m.links (AreLinksOf m.cell.value.clause)
