use Rattle.std.proofs.Common.{List, map, sym, subst}
use Rattle.std.proofs.lemmas.Simd.{map-map}
use Rattle.serde_json.specs.Data.{Data, string, array}
use Rattle.serde_json.specs.View.{items_of}
use Rattle.json_text.specs.Tokens.{data_tokens, Adds}
use Rattle.json_text.proofs.Adding.{adds_then}
use Rattle.job_gen.proofs.Adding.{adds_array, adds_elements}
use Rattle.job_gen.proofs.members.put_texts.Goals as goal

pub returns : goal.returns
returns c =
    let l = c.loop-text in
    let texts = c.args.texts.now in
    let elements = adds_elements (λ text. string text.now) texts l.text-index c.loop-text-test.false l.invariant in
    adds_then c.key.ensures
    (subst (λ (ds : List Data). Adds c.key.new.self c.end_array.new.self (data_tokens (array (items_of ds)))) (sym (map-map string (λ text. text.now) texts))
    (adds_array (map (λ text. string text.now) texts) c.begin_array.ensures elements c.end_array.ensures))
