-- What stands in generated jobs: numbers, lists, names of jobs, terms and atoms.
use Rattle.std.specs.Prelude.{ℕ, zero, suc, List, ◌++◌, map, codes, decimal}
use Rattle.serde_json.specs.Data.{Data, number, unsigned, string, array}
use Rattle.serde_json.specs.View.{items_of}

abbrev pub list_data : List Data → Data
list_data ds = array (items_of ds)

abbrev pub count_data : ℕ → Data
count_data n = number (unsigned n)

abbrev pub numbers_data : List ℕ → Data
numbers_data ns = list_data (map count_data ns)

abbrev pub texts_data : List (List ℕ) → Data
texts_data texts = list_data (map string texts)

-- the name of the job of line i: g and the number of the line
abbrev pub name_text : ℕ → List ℕ
name_text i = codes "g" ++ decimal i

-- the k-th f of a: a, f(a), f(f(a)) ..
abbrev pub iterate_text : ℕ → List ℕ
iterate_text zero = codes "a"
iterate_text (suc k) = codes "f(" ++ (iterate_text k ++ codes ")")

-- the atom p of the k-th f of a
abbrev pub atom_text : ℕ → List ℕ
atom_text k = codes "p(" ++ (iterate_text k ++ codes ")")
