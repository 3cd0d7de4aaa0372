-- The path of a field: names and places from 0, joined by `/`.
use Rattle.std.specs.Prelude.{ℕ, List, [], ◌++◌, codes, Option, Some, None}
use Rattle.std.specs.Fmt.{decimal}
use Rattle.job_lang.specs.declared.places.Place.{Place}
use Rattle.job_lang.specs.declared.places.Place.TheVariants.{Top, Step, Node, Instance, First, Second}

-- what stands before the names of an object's members
abbrev pub prefix : Place → List ℕ
prefix Top = []
prefix (Step i) = codes "steps/" ++ decimal i ++ codes "/"
prefix (Node i) = codes "nodes/" ++ decimal i ++ codes "/"
prefix (Instance i k) = codes "nodes/" ++ decimal i ++ codes "/instances/" ++ decimal k ++ codes "/"
prefix First = codes "first/"
prefix Second = codes "second/"

-- the place of an element of a list
abbrev pub suffix : Option ℕ → List ℕ
suffix None = []
suffix (Some i) = codes "/" ++ decimal i

abbrev pub path : Place → List ℕ → Option ℕ → List ℕ
path place key index = prefix place ++ key ++ suffix index
