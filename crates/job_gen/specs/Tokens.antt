-- The tokens of several values.
use Rattle.std.specs.Prelude.{List}
use Rattle.std.specs.List.{flat_map}
use Rattle.json.specs.Token.{Token}
use Rattle.json_text.specs.Tokens.{data_tokens}
use Rattle.serde_json.specs.Data.{Data}

-- the tokens of several values, one after another
abbrev pub all_tokens : List Data → List Token
all_tokens ds = flat_map data_tokens ds
