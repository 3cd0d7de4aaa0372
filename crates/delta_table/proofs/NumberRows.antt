-- Items and rows by numbers, one by one.
use Rattle.std.proofs.Common.{◌≡◌, ℕ, ◌+◌, ◌<◌, ◌≤◌, Bool, true, false, ◌||◌, if◌then◌else◌, List, [], ◌∷◌, ◌++◌, map, length, take, get_or, refl, sym, ap, ◌∙◌, arith}
use Rattle.std.specs.List.{All, list_any}
use Rattle.std.proofs.Math.Bool.{or_assoc}
use Rattle.std.proofs.lemmas.List.{map-append, take_more, length-map}
use Rattle.std.proofs.lemmas.List.Folds.{list_any-append}
use Rattle.std.proofs.lemmas.List.Elements.{All-nil, All-cons, All-push, All-head, All-tail, All-weaker}
use Rattle.arena_cells.specs.Items.{Item as Thing}
use Rattle.indexmap.specs.IndexSet.{insert_key}
use Rattle.proof_trees.proofs.Booleans.{or_first}
use Rattle.search_laws.proofs.Tests.{split, same_truth}
use Rattle.herbrand_laws.specs.Herbrand.{Item}
use Rattle.herbrand_laws.proofs.Lists.{any_more}
use Rattle.number_hash.specs.Codes.{same_by_decides}
use Rattle.arena_cells.specs.Standing.{Extends, IsTermAt}
use Rattle.arena_cells.proofs.Staying.{term_there}
use Rattle.numbered_terms.specs.NumberSets.{coded_numbers, same_numbers}
use Rattle.numbered_terms.specs.Numbered.{tuple_at, tuples_at, AreTuples}
use Rattle.numbered_terms.proofs.TupleNumbers.{tuples_stay}
use Rattle.delta_table.specs.declared.founds.Found.{Found}
use Rattle.delta_table.specs.FoundRows.{founds, tables_of, numbers_in}
use Rattle.delta_table.specs.Numbering.{AreItemNumbers}
use Rattle.delta_table.proofs.Entries.{map_twice}

-- sets that are put one by one

any_put_by : (p : List ℕ → Bool) (keys : List (List ℕ)) (k : List ℕ) (b : Bool) → list_any (same_numbers k) keys ≡ b → list_any p (if b then keys else keys ++ k ∷ []) ≡ (list_any p keys || p k)
any_put_by p keys k true e =
    same_truth (list_any p keys) (list_any p keys || p k)
    (λ h. or_first (list_any p keys) (p k) h)
    (λ h. split (list_any p keys) (λ g. g) (λ g.
    any_more (same_numbers k) p keys (λ v same. ap p (sym ((same_by_decides coded_numbers k v).0 same)) ∙ (sym (ap (λ b. b || p k) g) ∙ h)) e))
any_put_by p keys k false e = list_any-append p keys (k ∷ []) ∙ ap (λ b. list_any p keys || b) (or_false (p k))
  where
    or_false : (b : Bool) → (b || false) ≡ b
    or_false true = refl
    or_false false = refl

any_put : (p : List ℕ → Bool) (keys : List (List ℕ)) (k : List ℕ) → list_any p (insert_key same_numbers keys k) ≡ (list_any p keys || p k)
any_put p keys k = any_put_by p keys k (list_any (same_numbers k) keys) refl

any_numbers : (p : List ℕ → Bool) (rows : List Found) (k : ℕ) (f : Found) → k < length rows → f ≡ get_or rows k f → list_any p (numbers_in (take (k + 1) rows)) ≡ (list_any p (numbers_in (take k rows)) || p f.values)
any_numbers p rows k f l e =
    ap (λ rs. list_any p (numbers_in rs)) (take_more rows k f l ∙ ap (λ g. take k rows ++ g ∷ []) (sym e))
    ∙ (ap (list_any p) (map-append (λ (g : Found). g.values) (take k rows) (f ∷ []))
    ∙ (list_any-append p (numbers_in (take k rows)) (f.values ∷ []) ∙ ap (λ b. list_any p (numbers_in (take k rows)) || b) (or_false (p f.values))))
  where
    or_false : (b : Bool) → (b || false) ≡ b
    or_false true = refl
    or_false false = refl

-- with the sets of one row more
pub any_more_rows : (p : List ℕ → Bool) (first before after : List (List ℕ)) (rows : List Found) (k : ℕ) (f : Found) → k < length rows → f ≡ get_or rows k f
    → list_any p before ≡ (list_any p first || list_any p (numbers_in (take k rows))) → after ≡ insert_key same_numbers before f.values
    → list_any p after ≡ (list_any p first || list_any p (numbers_in (take (k + 1) rows)))
any_more_rows p first before after rows k f l e h put =
    ap (list_any p) put
    ∙ (any_put p before f.values
    ∙ (ap (λ b. b || p f.values) h
    ∙ (or_assoc (list_any p first) (list_any p (numbers_in (take k rows))) (p f.values)
    ∙ ap (λ b. list_any p first || b) (sym (any_numbers p rows k f l e)))))

-- the numbers of the tuples of one item more
module _ (a b : List Thing) (grown : Extends a b) where
  lists_stay : (nss : List (List ℕ)) → All (All (IsTermAt a)) nss → map (tuples_at b) nss ≡ map (tuples_at a) nss
  lists_stay [] h = refl
  lists_stay (ns ∷ nss) h =
      let same = tuples_stay a b grown ns (tuples_at a ns) (record { terms = All-head (All (IsTermAt a)) ns nss h; tuples = refl }) in
      λ i. same.tuples i ∷ lists_stay nss (All-tail (All (IsTermAt a)) ns nss h) i

  pub item_more : (nss : List (List ℕ)) (items : List Item) (ns : List ℕ) (i : Item) → AreItemNumbers a nss items → AreTuples b ns i.tuples → AreItemNumbers b (nss ++ ns ∷ []) (items ++ i ∷ [])
  item_more nss items ns i h t = record {
    terms = All-push (All (IsTermAt b)) nss ns (All-weaker (All (IsTermAt a)) (All (IsTermAt b)) (λ ms. All-weaker (IsTermAt a) (IsTermAt b) (term_there a b grown) ms) nss h.terms) t.terms;
    tuples =
        map-append (tuples_at b) nss (ns ∷ [])
        ∙ ((λ k. (lists_stay nss h.terms ∙ h.tuples) k ++ t.tuples k ∷ [])
        ∙ sym (map-append (λ (j : Item). j.tuples) items (i ∷ [])));
  }

-- items by numbers

few_by : (a : List Thing) (nss : List (List ℕ)) (items : List Item) → map (tuples_at a) nss ≡ map (λ i. i.tuples) items → All (λ (i : Item). length i.tuples ≤ 64) items → All (λ (ns : List ℕ). length ns ≤ 64) nss
few_by a [] items e h = All-nil _
few_by a (ns ∷ nss) [] e h = cc
few_by a (ns ∷ nss) (i ∷ items) e h =
    let here : tuples_at a ns ≡ i.tuples = cc in
    let later : map (tuples_at a) nss ≡ map (λ j. j.tuples) items = cc in
    let long = length-map ns (tuple_at a) in
    let same = ap length here in
    let few = All-head (λ (j : Item). length j.tuples ≤ 64) i items h in
    All-cons (λ (ms : List ℕ). length ms ≤ 64) ns nss (omega arith) (few_by a nss items later (All-tail (λ (j : Item). length j.tuples ≤ 64) i items h))

pub few_numbers : (a : List Thing) (nss : List (List ℕ)) (items : List Item) → AreItemNumbers a nss items → All (λ (i : Item). length i.tuples ≤ 64) items → All (λ (ns : List ℕ). length ns ≤ 64) nss
few_numbers a nss items h = few_by a nss items h.tuples

-- the rows of the numbered tuples are those of the items
pub tables_numbered : (width : ℕ) (a : List Thing) (nss : List (List ℕ)) (items : List Item) → AreItemNumbers a nss items → map (λ ns. founds width (tuples_at a ns)) nss ≡ tables_of width items
tables_numbered width a nss items h =
    sym (map_twice (founds width) (tuples_at a) nss)
    ∙ (ap (map (founds width)) h.tuples ∙ map_twice (founds width) (λ (i : Item). i.tuples) items)
