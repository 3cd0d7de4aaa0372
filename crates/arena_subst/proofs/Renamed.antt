-- A rule and the trees above it under a new conclusion.
use Rattle.std.proofs.Common.{◌≡◌, true, false, if◌then◌else◌, ap, ◌∙◌}
use Rattle.fol.specs.declared.symbols.Var.{Var}
use Rattle.fol.specs.Syntax.{free}
use Rattle.finite.specs.Finite as set
use Rattle.free_variables.specs.Fresh.{least_outside}
use Rattle.substitution.specs.Maps.{Map, only}
use Rattle.lk_rules.specs.declared.sequent.Sequent.{Sequent}
use Rattle.lk_rules.specs.Sequents.{is_free_in_sequent, vars_sequent}
use Rattle.proof_trees.specs.Trees.{Trees}
use Rattle.proof_trees.specs.Substitution.{renamed, sub_all}
use Rattle.cut_laws.specs.Contraction.{renamed_trees}

pub renamed_kept : (y : Var) (s : Sequent) → false ≡ is_free_in_sequent y s → y ≡ renamed y s
unfolding renamed
renamed_kept y s h = ap (λ b. if b then least_outside (set.listing (vars_sequent s)) else y) h

pub renamed_fresh : (y : Var) (s : Sequent) → true ≡ is_free_in_sequent y s → least_outside (set.listing (vars_sequent s)) ≡ renamed y s
unfolding renamed
renamed_fresh y s h = ap (λ b. if b then least_outside (set.listing (vars_sequent s)) else y) h

-- the trees above a variable that has a new name
pub trees_renamed : (s : Sequent) (y z : Var) (ts us : Trees) (m : Map) → true ≡ is_free_in_sequent y s → z ≡ renamed y s → m ≡ only y (free z) → us ≡ sub_all ts m → us ≡ renamed_trees s y ts
trees_renamed s y z ts us m h name map is =
    is ∙ ap (λ n. sub_all ts n) (map ∙ ap (λ v. only y (free v)) name) ∙ ap (λ b. if b then sub_all ts (only y (free (renamed y s))) else ts) h
