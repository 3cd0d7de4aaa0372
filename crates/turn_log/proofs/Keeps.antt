-- Each step of a log keeps its rule.
use Rattle.std.proofs.Common.{◌≡◌, ℕ, ◌+◌, ◌*◌, ◌<◌, Bool, true, false, List, [], ◌∷◌, length, set, slice_index, bit_or, nat_lt, if◌then◌else◌, Option, Some, None, IfSome, refl, sym, ap, subst, ◌∙◌, ⊎_elim, arith}
use Rattle.std.proofs.lemmas.Nat.{or_shifted, or_block}
use Rattle.std.specs.Int.Bits.{or_zero_r}
use Rattle.std.proofs.lemmas.Bool.{true≢false}
use Rattle.std.proofs.lemmas.Bool.Decides.{nat_tests}
use mathlib.Core.Option.{none, some, some-ne-none}
use mathlib.Core.List.{IsPrefix}
use lib.ListN.{get_elem?}
use Rattle.atomic_table.specs.Table.{State, Me, Step, step, Act, keeps, takes, gives, rest, Valid, carried_after, stepped, Allows, Splits, Joins, opening}
use Rattle.atomic_table.proofs.Lists.{at_set, set_here, set_again, set_else, at_snoc}
use Rattle.turn_log.specs.declared.rule.View.{View}
use Rattle.turn_log.specs.Rules.{word_of, longer, view, joint_view, spent_view, Looks, Settles, Claims, Knows, Logged}
use Rattle.turn_log.proofs.Prefixes.{prefix_self, prefix_trans, prefix_shorter}

-- the first bit of an even word is set
or_even : (n : ℕ) → bit_or (2 * n) 1 ≡ 2 * n + 1
or_even n = let e : 2 * n ≡ n * 2 = omega arith in ap (λ k. bit_or k 1) e ∙ or_shifted n 1 1 (omega arith) ∙ omega arith

-- the first bit of an odd word stays
or_odd : (n : ℕ) → bit_or (2 * n + 1) 1 ≡ 2 * n + 1
or_odd n =
    let e : 2 * n + 1 ≡ n * 2 + 1 = omega arith in
    let z : bit_or n 0 ≡ n = or_zero_r n in
    ap (λ k. bit_or k 1) e ∙ or_block 1 n 0 1 1 (omega arith) (omega arith) ∙ omega arith

-- the one word, written
word_set : (ws : List ℕ) (w n : ℕ) → ws ≡ w ∷ [] → set ws 0 n ≡ n ∷ []
word_set ws w n e = ap (λ (x : List ℕ). set x 0 n) e

-- two beginnings of one list begin the longer of them, and so does the list that they begin end it
longer_at : {E : Type 0} (xs ys zs : List E) → IsPrefix xs zs → IsPrefix ys zs → (b : Bool) → nat_lt (length xs) (length ys) ≡ b
    → IsPrefix xs (if b then ys else xs) × IsPrefix ys (if b then ys else xs) × IsPrefix (if b then ys else xs) zs
longer_at xs ys zs p q true e = (prefix_shorter xs ys zs p q (grind (arith, nat_tests)), prefix_self ys, q)
longer_at xs ys zs p q false e = (prefix_self xs, prefix_shorter ys xs zs q p (grind (arith, nat_tests)), p)

longer_of : {E : Type 0} (xs ys zs : List E) → IsPrefix xs zs → IsPrefix ys zs → IsPrefix xs (longer xs ys) × IsPrefix ys (longer xs ys) × IsPrefix (longer xs ys) zs
longer_of xs ys zs p q = longer_at xs ys zs p q (nat_lt (length xs) (length ys)) refl

-- what a fact about an option's value gives
some_weaker : {O : Type 0} (P Q : O → Type 0) → ((o : O) → P o → Q o) → (o : Option O) → IfSome o P → IfSome o Q
some_weaker P Q f None h = h
some_weaker P Q f (Some o) h = f o h

module _ {E O T H : Type 0} (entries : T → List E) (home : T → H) (home_at : O → H) (at : H) where
  abbrev Rule : State (Option T) (View E O) → Type 0
  Rule s = Logged entries home home_at at s

  -- what a claim owes in a state
  abbrev Goes : Step (Option T) → ℕ → Me (Option T) (View E O) → State (Option T) (View E O) → Type 0
  Goes st id m s =
      (w : View E O) × (a : Act (Option T)) × Valid s.homes m.1 a
      × Rule (stepped s 0 (bit_or (slice_index s.words 0) 1) id m.1 w a)
      × Claims entries home home_at st m (slice_index s.words 0) (w, carried_after m.1 a)

  claims_at : (st : Step (Option T)) (id : ℕ) (m : Me (Option T) (View E O)) (s : State (Option T) (View E O)) (o : Rule s)
      → get_elem? s.views id ≡ some m.0 → (b : Bool) → o.held ≡ b → Goes st id m s
  claims_at st id m s o here false e =
      let t = o.free e in
      let k = o.known id m.0 here in
      let word : slice_index s.words 0 ≡ 2 * length o.log = ap (λ (ws : List ℕ). slice_index ws 0) o.words ∙ (ap (λ (b : Bool). word_of (length o.log) b) e ∙ omega arith) in
      let whole : length o.log ≡ length (entries t.0) = ap length (sym t.3) in
      let written : bit_or (slice_index s.words 0) 1 ≡ 2 * length (entries t.0) + 1 = ap (λ (n : ℕ). bit_or n 1) word ∙ (or_even (length o.log) ∙ omega arith) in
      let begins : IsPrefix m.0.seen (entries t.0) = subst (λ (l : List E). IsPrefix m.0.seen l) (sym t.3) k.seen in
      let w : View E O = view true (entries t.0) [] m.0.opening in (
        w,
        takes 0 (Some t.0),
        t.1,
        record {
          log = entries t.0;
          held = true;
          owner = id;
          words = word_set s.words _ _ o.words ∙ ap (λ (n : ℕ). n ∷ []) written;
          free = λ h. absurd (true≢false h);
          known = λ seat v u. ⊎_elim
              (λ x. subst (λ (v' : View E O). Knows entries home home_at at (entries t.0) true id seat v') x.1 (record { seen = prefix_self (entries t.0); other = (entries t.0, refl); at_home = k.at_home; out = λ _. (refl, x.0, refl) }))
              (λ x. let q = o.known seat v x.1 in record {
                seen = subst (λ (l : List E). IsPrefix v.seen l) (sym t.3) q.seen;
                other = subst (λ (l : List E). IsPrefix v.other l) (sym t.3) q.other;
                at_home = q.at_home;
                out = λ h. absurd (true≢false (sym (q.out h).0 ∙ e));
              })
              (at_set s.views id seat w v u);
        },
        ((λ _. (t.0, refl, begins, some_weaker _ _ (λ p h. t.2 ∙ sym h) m.0.opening k.at_home)), (λ odd. absurd (odd (omega arith)))),
      )
  claims_at st id m s o here true e =
      let word : slice_index s.words 0 ≡ 2 * length o.log + 1 = ap (λ (ws : List ℕ). slice_index ws 0) o.words ∙ ap (λ (b : Bool). word_of (length o.log) b) e in
      let written : bit_or (slice_index s.words 0) 1 ≡ word_of (length o.log) o.held = ap (λ (n : ℕ). bit_or n 1) word ∙ (or_odd (length o.log) ∙ sym (ap (λ (b : Bool). word_of (length o.log) b) e)) in (
        m.0,
        keeps,
        tt,
        record {
          log = o.log;
          held = o.held;
          owner = o.owner;
          words = word_set s.words _ _ o.words ∙ ap (λ (n : ℕ). n ∷ []) written;
          free = o.free;
          known = λ seat v u. o.known seat v (subst (λ (l : List (View E O)). get_elem? l seat ≡ some v) (set_again s.views id m.0 here) u);
        },
        ((λ even. absurd (omega arith)), (λ _. refl)),
      )

  -- a claim takes the turn where no other is out
  pub claims : (slots id : ℕ) (m : Me (Option T) (View E O))
      → Allows Rule slots id m 0 (λ n. bit_or n 1) (Claims entries home home_at (step slots 0 1 0 none) m)
  claims slots id m s o wide here small = claims_at (step slots 0 1 0 none) id m s o here o.held refl

  -- the end of a turn puts the value in its place, with the entries that it has
  pub settles : (slots id : ℕ) (m k : Me (Option T) (View E O)) (value : T) (n : ℕ) → slots ≡ 1
      → k ≡ (m.0, (0, Some value) ∷ rest m.1) → m.0.is_out ≡ true → home value ≡ at → IsPrefix m.0.seen (entries value) → n ≡ length (entries value)
      → Allows Rule slots id k 0 (λ _. 2 * n) (λ _. Settles entries (step slots 0 (2 * n) 0 none) k (2 * n))
  settles slots id m k value n one same out at_home grown counts =
      subst (λ (x : Me (Option T) (View E O)). Allows Rule slots id x 0 (λ _. 2 * n) (λ _. Settles entries (step slots 0 (2 * n) 0 none) x (2 * n))) (sym same)
      (λ s o wide here small.
      let mine = o.known id m.0 here in
      let turn = mine.out out in
      let w : View E O = view false (entries value) [] m.0.opening in
      let room : 0 < length s.homes = omega arith in (
        w,
        gives,
        tt,
        record {
          log = entries value;
          held = false;
          owner = id;
          words = word_set s.words _ _ o.words ∙ ap (λ (k : ℕ). k ∷ []) (omega arith);
          free = λ _. (value, set_here s.homes 0 (some (Some value)) room, at_home, refl);
          known = λ seat v u. ⊎_elim
              (λ x. subst (λ (v' : View E O). Knows entries home home_at at (entries value) false id seat v') x.1 (record { seen = prefix_self (entries value); other = (entries value, refl); at_home = mine.at_home; out = λ h. absurd (true≢false (sym h)) }))
              (λ x. let q = o.known seat v x.1 in record {
                seen = prefix_trans v.seen o.log (entries value) q.seen (subst (λ (l : List E). IsPrefix l (entries value)) turn.2 grown);
                other = prefix_trans v.other o.log (entries value) q.other (subst (λ (l : List E). IsPrefix l (entries value)) turn.2 grown);
                at_home = q.at_home;
                out = λ h. absurd (x.0 ((q.out h).1 ∙ sym turn.1));
              })
              (at_set s.views id seat w v u);
        },
        (λ v h.
            let firsts : (0, Some value) ≡ (0, Some v) = cc in
            let options : Some value ≡ Some v = ap (λ (x : ℕ × Option T). x.1) firsts in
            let e : value ≡ v = cc in ap (λ (x : T). (view false (entries x) [] m.0.opening, rest m.1)) e),
      ))

  -- a look changes no more than what the pass keeps
  pub looks : (slots id : ℕ) (m : Me (Option T) (View E O)) → m.0.is_out ≡ false
      → Allows Rule slots id m 0 (λ n. n) (Looks (step slots 0 0 0 none) m)
  looks slots id m rests s o wide here small =
      let mine = o.known id m.0 here in
      let both = longer_of m.0.seen m.0.other o.log mine.seen mine.other in
      let w : View E O = view m.0.is_out (longer m.0.seen m.0.other) [] m.0.opening in
      let word : slice_index s.words 0 ≡ word_of (length o.log) o.held = ap (λ (ws : List ℕ). slice_index ws 0) o.words in (
        w,
        keeps,
        tt,
        record {
          log = o.log;
          held = o.held;
          owner = o.owner;
          words = word_set s.words _ _ o.words ∙ ap (λ (n : ℕ). n ∷ []) word;
          free = o.free;
          known = λ seat v u. ⊎_elim
              (λ x. subst (λ (v' : View E O). Knows entries home home_at at o.log o.held o.owner seat v') x.1 (record { seen = both.2; other = (o.log, refl); at_home = mine.at_home; out = λ h. absurd (true≢false (sym h ∙ rests)) }))
              (λ x. o.known seat v x.1)
              (at_set s.views id seat w v u);
        },
        (refl, both.0, both.1),
      )

  -- a pass that is cut in two
  pub splits : (id : ℕ) (v : View E O) → v.is_out ≡ false → Splits Rule id v v v
  splits id v rests s o here =
      let mine = o.known id v here in
      let stays : set s.views id v ≡ s.views = set_again s.views id v here in
      record {
        log = o.log;
        held = o.held;
        owner = o.owner;
        words = o.words;
        free = o.free;
        known = λ seat u at_seat. ⊎_elim
            (λ x. o.known seat u (subst (λ (l : List (View E O)). get_elem? l seat ≡ some u) stays x))
            (λ x. subst (λ (v' : View E O). Knows entries home home_at at o.log o.held o.owner seat v') x (record { seen = mine.seen; other = mine.other; at_home = mine.at_home; out = λ h. absurd (true≢false (sym h ∙ rests)) }))
            (at_snoc (set s.views id v) v u seat at_seat);
      }

  -- a pass that takes another in
  pub joins : (id : ℕ) (v : View E O) (other : ℕ) (w : View E O) → v.is_out ≡ false → Joins Rule id v other w (joint_view v w) spent_view
  joins id v other w rests s o here apart there =
      let mine = o.known id v here in
      let theirs = o.known other w (sym (set_else s.views id other (joint_view v w) apart) ∙ there) in
      record {
        log = o.log;
        held = o.held;
        owner = o.owner;
        words = o.words;
        free = o.free;
        known = λ seat u at_seat. ⊎_elim
            (λ x. subst (λ (v' : View E O). Knows entries home home_at at o.log o.held o.owner seat v') x.1 (record { seen = (o.log, refl); other = (o.log, refl); at_home = tt; out = λ h. absurd (true≢false (sym h)) }))
            (λ x. ⊎_elim
            (λ y. subst (λ (v' : View E O). Knows entries home home_at at o.log o.held o.owner seat v') y.1 (record { seen = mine.seen; other = theirs.seen; at_home = mine.at_home; out = λ h. absurd (true≢false (sym h ∙ rests)) }))
            (λ y. o.known seat u y.1)
            (at_set s.views id seat (joint_view v w) u x.1))
            (at_set (set s.views id (joint_view v w)) other seat spent_view u at_seat);
      }

  -- the log at its start
  pub opens : (value : T) (key : O) (n : ℕ) (slots : List (Option T)) → n ≡ length (entries value) → slots ≡ Some value ∷ [] → home value ≡ at → home_at key ≡ at
      → Rule (opening (2 * n ∷ []) slots (view false (entries value) [] (Some key)))
  opens value key n slots counts only at_home keyed =
      subst (λ (xs : List (Option T)). Rule (opening (2 * n ∷ []) xs (view false (entries value) [] (Some key)))) (sym only)
      (record {
        log = entries value;
        held = false;
        owner = 0;
        words = ap (λ (k : ℕ). k ∷ []) (omega arith);
        free = λ _. (value, refl, at_home, refl);
        known = λ seat v u. ⊎_elim
            (λ x. absurd (some-ne-none v (sym x)))
            (λ x. subst (λ (v' : View E O). Knows entries home home_at at (entries value) false 0 seat v') x (record { seen = prefix_self (entries value); other = (entries value, refl); at_home = keyed; out = λ h. absurd (true≢false (sym h)) }))
            (at_snoc [] (view false (entries value) [] (Some key)) v seat u);
      })
