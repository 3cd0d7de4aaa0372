-- When a tree makes a sequent true.
--     helps      a formula on a side makes the sequent true
--     helped      a tree does, by its parts
use Rattle.std.specs.Prelude.{Bool, false, ◌&&◌, ◌||◌, not as negated}
use Rattle.fol.specs.Syntax.{Formula}
use Rattle.lk_rules.specs.declared.sequent.Side.{Side}
use Rattle.lk_rules.specs.declared.sequent.Side.TheVariants.{Left, Right}
use Rattle.search_laws.specs.Truth.{Assignment, value}
use Rattle.expansion_laws.specs.Expansions.{Exp, wk, leaf, neg, conj, disj, impl, weak, strong, Insts, none, more, turn}

-- whether the formula makes a sequent true: false on the left, or true on the right
abbrev pub helps : Assignment → Side → Formula → Bool
helps a Left f = negated (value a f)
helps a Right f = value a f

-- both parts of a conjunction have to be true; one false part is enough on the left
abbrev pub conjoined : Side → Bool → Bool → Bool
conjoined Left b c = b || c
conjoined Right b c = b && c

abbrev pub disjoined : Side → Bool → Bool → Bool
disjoined Left b c = b && c
disjoined Right b c = b || c

-- whether a tree makes a sequent true on a side: what is never used doesn't, of instances one has to, and a negation turns the side
abbrev mutual
  pub helped : Assignment → Side → Exp → Bool
  helped a s (wk f) = false
  helped a s (leaf f) = helps a s f
  helped a s (neg e) = helped a (turn s) e
  helped a s (conj d e) = conjoined s (helped a s d) (helped a s e)
  helped a s (disj d e) = disjoined s (helped a s d) (helped a s e)
  helped a s (impl d e) = disjoined s (helped a (turn s) d) (helped a s e)
  helped a s (weak f is) = some_helped a s is
  helped a s (strong f y e) = helped a s e

  pub some_helped : Assignment → Side → Insts → Bool
  some_helped a s none = false
  some_helped a s (more t e is) = helped a s e || some_helped a s is
