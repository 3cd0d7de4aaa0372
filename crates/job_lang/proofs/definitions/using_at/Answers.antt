-- The names are those of the list that the member is.
use Rattle.std.proofs.Common.{◌≡◌, ℕ, List, codes, None, sym, ap, ◌∙◌, map, subst}
use Rattle.std.specs.Prelude.{Option, Some, option_map}
use Rattle.serde_json.specs.Data.{Data}
use Rattle.serde_json.specs.Find.{as_array}
use Rattle.line_values.specs.View.{view}
use Rattle.job_lang.specs.declared.places.Place.TheVariants.{Top}
use Rattle.job_words.specs.declared.causes.JobCause.TheVariants.{Field}
use Rattle.job_lang.specs.Places.{path}
use Rattle.job_lang.specs.Fields.{Reading, Gives, elements, each, ◌>>=◌, or_fault}
use Rattle.job_lang.specs.Definitions.{used_name, using_of}
use Rattle.job_lang.proofs.Each.{elements-items_of}
use Rattle.job_lang.proofs.definitions.using_at.Goals as goal

pub returns-in-Some-as_array : goal.returns-in-Some-as_array
returns-in-Some-as_array c =
    let reads : List Data → Reading (List (List ℕ)) = each used_name 0 in
    let list : option_map elements (as_array (view c.in-Some.member.now)) ≡ Some (map view c.as_slice.result.now) =
    sym (ap (λ vs. Some (map view vs)) c.as_slice.ensures.value ∙ (ap Some (sym (elements-items_of _)) ∙ ap (option_map elements) c.in-Some-as_array.ensures)) in
    subst (λ r. Gives (λ t. t) c.used_names.result r)
    (sym (ap using_of (sym c.in-Some.ensures) ∙ ap (λ (o : Option (List Data)). or_fault (Field (path Top (codes "using") None)) o >>= reads) list))
    c.used_names.ensures
