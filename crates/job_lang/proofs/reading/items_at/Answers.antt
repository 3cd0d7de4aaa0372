use Rattle.std.proofs.Common.{sym, ap, ◌∙◌, map, Some}
use Rattle.std.specs.Prelude.{option_and_then, option_map}
use Rattle.serde_json.specs.Find.{as_array}
use Rattle.line_values.specs.View.{view}
use Rattle.job_lang.specs.Fields.{elements}
use Rattle.job_lang.proofs.Each.{elements-items_of}
use Rattle.job_lang.proofs.reading.items_at.Goals as goal

pub returns-in-Some-as_array : goal.returns-in-Some-as_array
returns-in-Some-as_array c =
    ap (λ vs. Some (map view vs)) c.as_slice.ensures.value
    ∙ ap Some (sym (elements-items_of _))
    ∙ ap (option_map elements) c.in-Some-as_array.ensures
    ∙ ap (λ o. option_map elements (option_and_then as_array o)) c.in-Some.ensures
