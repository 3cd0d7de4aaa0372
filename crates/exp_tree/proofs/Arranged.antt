-- Each of the trees of a sequent is rightly built.
use Rattle.std.proofs.Common.{◌≡◌, Bool, true, List}
use Rattle.std.specs.List.{All, list_all}
use Rattle.std.proofs.lemmas.List.Sums.{AllPass-from_list_all}

pub each_passes : {X : Type 0} (p : X → Bool) (xs : List X) → list_all p xs ≡ true → All (λ x. p x ≡ true) xs
each_passes p xs h = AllPass-from_list_all p xs h
