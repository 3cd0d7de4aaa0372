-- What replies are made of.
use Rattle.std.specs.Prelude.{ℕ, List, codes, Result, Ok, Err}
use Rattle.serde_json.specs.Data.{Data, string, object, member, no_members}
use Rattle.reply_lines.specs.Replies.{count_data}

-- what an answer says, be it the object of an Ok reply or of an error
abbrev pub said : Result Data Data → Data
said (Ok d) = d
said (Err d) = d

-- the fault of a step, of a proof or of a refutation
abbrev pub fault_data : List ℕ → List ℕ → ℕ → Data
fault_data cause kind step = object (member (codes "cause") (string cause) (member (codes "kind") (string kind)
    (member (codes "step") (count_data step) no_members)))
