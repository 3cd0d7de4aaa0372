-- How many nodes an expansion tree has.
--     exp_nodes, insts_nodes      the nodes of the unfolded tree
--     capped      a number cut off at 2^64 - 1
use Rattle.std.specs.Prelude.{ℕ, ◌+◌, ◌-◌, ◌^◌, min}
use Rattle.expansion_laws.specs.Expansions.{Exp, wk, leaf, neg, conj, disj, impl, weak, strong, Insts, none, more}

-- how many nodes a tree has, where a part that stands at several places counts at each
abbrev mutual
  pub exp_nodes : Exp → ℕ
  exp_nodes (wk f) = 1
  exp_nodes (leaf f) = 1
  exp_nodes (neg e) = exp_nodes e + 1
  exp_nodes (conj d e) = exp_nodes d + exp_nodes e + 1
  exp_nodes (disj d e) = exp_nodes d + exp_nodes e + 1
  exp_nodes (impl d e) = exp_nodes d + exp_nodes e + 1
  exp_nodes (weak f is) = insts_nodes is + 1
  exp_nodes (strong f y e) = exp_nodes e + 1

  -- those of the trees of instances together
  pub insts_nodes : Insts → ℕ
  insts_nodes none = 0
  insts_nodes (more t e is) = exp_nodes e + insts_nodes is

-- the number, or the largest of 64 bits where it is larger
abbrev pub capped : ℕ → ℕ
capped n = min n (2 ^ 64 - 1)
