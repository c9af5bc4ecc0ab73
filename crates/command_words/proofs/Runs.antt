-- Clap's walk over a command's words takes them exactly where they spell items, each at most once, and gets those items.
use Rattle.std.proofs.Common.{◌≡◌, Bool, true, false, not, List, [], ◌∷◌, Option, Some, None, is_some, refl, ap, ap₂, ◌∙◌, sym, subst}
use Rattle.std.specs.Prelude.{◌&&◌, if◌then◌else◌, option_map, option_and_then}
use Rattle.std.specs.Str.{bytes_eq}
use Rattle.std.proofs.lemmas.Slice.Eq.{bytes_eq-Decides}
use Rattle.clap.specs.Walk.{Row, Walk, idle, option, arg_by_id, has_row, settled, used, walked}
use Rattle.clap.specs.Faults.{settle_fault, turn_fault}
use Rattle.command_words.specs.Words.{Text, Item, begins_with_hyphen}
use Rattle.command_words.specs.Reader.{Choice, value, flag, name_of, choice_of, dashed, name_in, value_after, and_then, read, read_item}
use Rattle.command_words.proofs.Rules.{value_rule, flag_rule, rule_for, rules_for, by_id, by_long}
use Rattle.command_words.proofs.Dashes.{IsDashed, dashed_word, plain_word_read, not_stray}
use Rattle.command_words.proofs.Turns.{shape_for, holding, at, none, value_use, dashed_turn, plain_turn, missing_turn, value_turn, walked_value, walked_option, walked_flag, walked_given}

-- no word is stray
abbrev pub NoStray : List Text → Type 0
NoStray [] = Unit {0}
NoStray (word ∷ words) = ((begins_with_hyphen word && not (is_some (dashed word))) ≡ false) × NoStray words

-- the rows at the end of clap's walk, if no step of it fails
unfoldable pub run : Text → List Choice → Walk → List Text → Option (List Row)
run name cs w [] = if none (settle_fault (rules_for cs) false w.held) then Some (settled (rules_for cs) w.held).rows else None
run name cs w (word ∷ words) = if none (turn_fault (shape_for name cs) [] w word) then run name cs (walked (rules_for cs) [] w word) words else None

abbrev pub with_item : Item → List Row → List Row
with_item (m, Some v) rows = used (value_rule m) (v ∷ []) rows
with_item (m, None) rows = used (flag_rule m) [] rows

-- the rows with each of the items, if each is new
abbrev pub adds : List Row → List Item → Option (List Row)
adds rows [] = Some rows
adds rows (item ∷ items) = if has_row item.0 rows then None else adds (with_item item rows) items

-- the item whose value clap holds, if there is one
abbrev pending_of : Option (Text × Text) → Option (Text × List Text)
pending_of None = None
pending_of (Some q) = Some (q.0, q.1 ∷ [])

abbrev first_item : Option (Text × Text) → List Item → List Item
first_item None items = items
first_item (Some q) items = (q.0, Some q.1) ∷ items

abbrev IsHeld : List Choice → Option (Text × Text) → Type 0
IsHeld cs None = Unit {0}
IsHeld cs (Some q) = arg_by_id (rules_for cs) q.0 ≡ Some (value_rule q.0)

abbrev settles : Option (Text × Text) → List Row → Bool
settles None rows = true
settles (Some q) rows = not (has_row q.0 rows)

abbrev rows_with : Option (Text × Text) → List Row → List Row
rows_with None rows = rows
rows_with (Some q) rows = used (value_rule q.0) (q.1 ∷ []) rows

settle_none : (cs : List Choice) (rows : List Row) (p : Option (Text × Text)) → IsHeld cs p
    → none (settle_fault (rules_for cs) false (holding rows (pending_of p))) ≡ settles p rows
settle_none cs rows None held = refl
settle_none cs rows (Some q) held = rw held (value_use q.0 q.1 rows)

settled_rows_are : (cs : List Choice) (rows : List Row) (p : Option (Text × Text)) → IsHeld cs p
    → (settled (rules_for cs) (holding rows (pending_of p))).rows ≡ rows_with p rows
settled_rows_are cs rows None held = refl
settled_rows_are cs rows (Some q) held = rw held refl

-- one more item, after what is held
adds_more : (p : Option (Text × Text)) (rows : List Row) (item : Item) (items : List Item)
    → adds rows (first_item p (item ∷ items)) ≡ (if settles p rows && not (has_row item.0 (rows_with p rows)) then adds (with_item item (rows_with p rows)) items else None)
adds_more None rows item items = flip (has_row item.0 rows) (adds (with_item item rows) items)
  where
    flip : (b : Bool) (o : Option (List Row)) → (if b then None else o) ≡ (if true && not b then o else None)
    flip true o = refl
    flip false o = refl
adds_more (Some q) rows item items = flip (has_row q.0 rows) (has_row item.0 (rows_with (Some q) rows)) (adds (with_item item (rows_with (Some q) rows)) items)
  where
    flip : (a b : Bool) (o : Option (List Row)) → (if a then None else (if b then None else o)) ≡ (if not a && not b then o else None)
    flip true b o = refl
    flip false true o = refl
    flip false false o = refl

adds_last : (p : Option (Text × Text)) (rows : List Row) (items : List Item)
    → adds rows (first_item p items) ≡ (if settles p rows then adds (rows_with p rows) items else None)
adds_last None rows items = refl
adds_last (Some q) rows items = flip (has_row q.0 rows) (adds (rows_with (Some q) rows) items)
  where
    flip : (a : Bool) (o : Option (List Row)) → (if a then None else o) ≡ (if not a then o else None)
    flip true o = refl
    flip false o = refl

no_rows : (b : Bool) (f : List Item → Option (List Row)) (o : Option (List Item)) → o ≡ None → b ≡ false → (r : Option (List Row)) → (if b then r else None) ≡ option_and_then f o
no_rows b f o e h r = rw (e, h) refl

join : (b : Bool) (f g : List Item → Option (List Row)) (o : Option (List Item)) → ((items : List Item) → g items ≡ (if b then f items else None))
    → (if b then option_and_then f o else None) ≡ option_and_then g o
join true f g None e = refl
join false f g None e = refl
join b f g (Some items) e = sym (e items)

join_item : (b : Bool) (f g : List Item → Option (List Row)) (item : Item) (o : Option (List Item)) → ((items : List Item) → g (item ∷ items) ≡ (if b then f items else None))
    → (if b then option_and_then f o else None) ≡ option_and_then g (and_then item o)
join_item true f g item None e = refl
join_item false f g item None e = refl
join_item b f g item (Some items) e = sym (e items)

same_bytes : (xs : Text) → bytes_eq xs xs ≡ true
same_bytes xs = (bytes_eq-Decides xs xs).1 refl

-- a choice that is found has the name that was looked for
pub found_name : (cs : List Choice) (n : Text) (c : Choice) → choice_of cs n ≡ Some c → name_of c ≡ n
found_name cs n c found = (bytes_eq-Decides (name_of c) n).0 (passed cs found)
  where
    step : (x : Choice) (xs : List Choice) (b : Bool) → bytes_eq (name_of x) n ≡ b → (choice_of xs n ≡ Some c → bytes_eq (name_of c) n ≡ true)
        → (if b then Some x else choice_of xs n) ≡ Some c → bytes_eq (name_of c) n ≡ true
    step x xs true e more h = let same : x ≡ c = cc in subst (λ (y : Choice). bytes_eq (name_of y) n ≡ true) same e
    step x xs false e more h = more h

    passed : (xs : List Choice) → choice_of xs n ≡ Some c → bytes_eq (name_of c) n ≡ true
    passed [] h = absurd (cc)
    passed (x ∷ xs) h = step x xs (bytes_eq (name_of x) n) refl (passed xs) h

-- it is found by its own name
pub own_name : (cs : List Choice) (n : Text) (c : Choice) → choice_of cs n ≡ Some c → choice_of cs (name_of c) ≡ Some c
own_name cs n c found =
    let P : Text → Type 0 = λ t. choice_of cs t ≡ Some c in
    subst P (sym (found_name cs n c found)) found

known_id : (cs : List Choice) (n m : Text) → choice_of cs n ≡ Some (value m) → arg_by_id (rules_for cs) m ≡ Some (value_rule m)
known_id cs n m found = by_id cs m ∙ ap (option_map rule_for) (own_name cs n (value m) found)

-- ---- one word more

-- what stands between two words: what clap holds, or the option whose value is still to come
pub data State : Type 0 where
  ready : Option (Text × Text) → State
  wants : Text → State

abbrev pub walk_at : State → List Row → Walk
walk_at (ready p) rows = at rows (pending_of p) idle
walk_at (wants m) rows = at rows (Some (m, [])) (option m)

abbrev pub IsHeldAt : List Choice → State → Type 0
IsHeldAt cs (ready p) = IsHeld cs p
IsHeldAt cs (wants m) = arg_by_id (rules_for cs) m ≡ Some (value_rule m)

abbrev pub rows_by : List Choice → State → List Row → List Text → Option (List Row)
rows_by cs (ready p) rows words = option_and_then (λ items. adds rows (first_item p items)) (read cs None words)
rows_by cs (wants m) rows words = option_and_then (adds rows) (read cs (Some m) words)

-- the walk over these words is right from each state
abbrev IsRight : Text → List Choice → List Text → Type 0
IsRight name cs words = (state : State) (rows : List Row) → IsHeldAt cs state → run name cs (walk_at state rows) words ≡ rows_by cs state rows words

run_step : (name : Text) (cs : List Choice) (w next : Walk) (word : Text) (words : List Text) (b : Bool) (r : Option (List Row))
    → none (turn_fault (shape_for name cs) [] w word) ≡ b → walked (rules_for cs) [] w word ≡ next → run name cs next words ≡ r
    → run name cs w (word ∷ words) ≡ (if b then r else None)
unfolding run
run_step name cs w next word words b r h1 h2 h3 = rw (h1, h2, h3) refl

run_stops : (name : Text) (cs : List Choice) (w : Walk) (word : Text) (words : List Text)
    → none (turn_fault (shape_for name cs) [] w word) ≡ false → run name cs w (word ∷ words) ≡ None
unfolding run
run_stops name cs w word words h = rw h refl

read_plain : (cs : List Choice) (word : Text) (words : List Text) → dashed word ≡ None → read cs None (word ∷ words) ≡ None
unfolding read
read_plain cs word words e = rw e refl

pub read_dashed : (cs : List Choice) (word text : Text) (words : List Text) (found : Option Choice) (v : Option Text)
    → dashed word ≡ Some text → choice_of cs (name_in text) ≡ found → value_after text ≡ v
    → read cs None (word ∷ words) ≡ read_item found v (λ waiting. read cs waiting words)
unfolding read
read_dashed cs word text words found v e ef ev = rw (e, ef, ev) refl

pub read_given : (cs : List Choice) (m word : Text) (words : List Text) → begins_with_hyphen word ≡ false
    → read cs (Some m) (word ∷ words) ≡ and_then (m, Some word) (read cs None words)
unfolding read
read_given cs m word words e = rw e refl

read_missing : (cs : List Choice) (m word : Text) (words : List Text) → begins_with_hyphen word ≡ true → read cs (Some m) (word ∷ words) ≡ None
unfolding read
read_missing cs m word words e = rw e refl

by_fact : (o p : Option (List Item)) (f : List Item → Option (List Row)) (r : Option (List Row)) → o ≡ p → r ≡ option_and_then f p → r ≡ option_and_then f o
by_fact o p f r e h = rw e h

module _ (name : Text) (cs : List Choice) (word : Text) (words : List Text) (right : IsRight name cs words) where
  one_item : (rows : List Row) (p : Option (Text × Text)) (text : Text) → IsHeld cs p → dashed word ≡ Some text → IsDashed word text
      → (found : Option Choice) (v : Option Text) → choice_of cs (name_in text) ≡ found → value_after text ≡ v
      → run name cs (at rows (pending_of p) idle) (word ∷ words) ≡ option_and_then (λ items. adds rows (first_item p items)) (read_item found v (λ waiting. read cs waiting words))
  one_item rows p text held e d None v ef ev =
      let long = d.long ∙ ap (λ v'. Some (name_in text, v')) ev in
      let rule = by_long cs (name_in text) ∙ ap (option_map rule_for) ef in
      run_stops name cs _ word words (dashed_turn name cs rows (pending_of p) word (name_in text) v None d.no_end long rule)
  one_item rows p text held e d (Some (value m)) (Some v) ef ev =
      let long = d.long ∙ ap (λ v'. Some (name_in text, v')) ev in
      let rule = by_long cs (name_in text) ∙ ap (option_map rule_for) ef in
      let turn = dashed_turn name cs rows (pending_of p) word (name_in text) (Some v) (Some (value m)) d.no_end long rule in
      let next = walked_value cs rows (pending_of p) word (name_in text) m v d.no_end long rule in
      let item : Item = (m, Some v) in
      run_step name cs _ (at (with_item item (rows_with p rows)) None idle) word words (settles p rows && not (has_row m (rows_with p rows))) _
      (turn ∙ ap₂ (λ a b. a && not b) (settle_none cs rows p held) (ap (has_row m) (settled_rows_are cs rows p held)))
      (next ∙ ap (λ rs. at (with_item item rs) None idle) (settled_rows_are cs rows p held))
      (right (ready None) (with_item item (rows_with p rows)) tt)
      ∙ join_item _ (adds (with_item item (rows_with p rows))) (λ items. adds rows (first_item p items)) item (read cs None words) (adds_more p rows item)
  one_item rows p text held e d (Some (value m)) None ef ev =
      let long = d.long ∙ ap (λ v'. Some (name_in text, v')) ev in
      let rule = by_long cs (name_in text) ∙ ap (option_map rule_for) ef in
      let turn = dashed_turn name cs rows (pending_of p) word (name_in text) None (Some (value m)) d.no_end long rule in
      let next = walked_option cs rows (pending_of p) word (name_in text) m d.no_end long rule in
      run_step name cs _ (at (rows_with p rows) (Some (m, [])) (option m)) word words (settles p rows) _
      (turn ∙ settle_none cs rows p held)
      (next ∙ ap (λ rs. at rs (Some (m, [])) (option m)) (settled_rows_are cs rows p held))
      (right (wants m) (rows_with p rows) (known_id cs (name_in text) m ef))
      ∙ join _ (adds (rows_with p rows)) (λ items. adds rows (first_item p items)) (read cs (Some m) words) (adds_last p rows)
  one_item rows p text held e d (Some (flag m)) None ef ev =
      let long = d.long ∙ ap (λ v'. Some (name_in text, v')) ev in
      let rule = by_long cs (name_in text) ∙ ap (option_map rule_for) ef in
      let turn = dashed_turn name cs rows (pending_of p) word (name_in text) None (Some (flag m)) d.no_end long rule in
      let next = walked_flag cs rows (pending_of p) word (name_in text) m d.no_end long rule in
      let item : Item = (m, None) in
      run_step name cs _ (at (with_item item (rows_with p rows)) None idle) word words (settles p rows && not (has_row m (rows_with p rows))) _
      (turn ∙ ap₂ (λ a b. a && not b) (settle_none cs rows p held) (ap (has_row m) (settled_rows_are cs rows p held)))
      (next ∙ ap (λ rs. at (with_item item rs) None idle) (settled_rows_are cs rows p held))
      (right (ready None) (with_item item (rows_with p rows)) tt)
      ∙ join_item _ (adds (with_item item (rows_with p rows))) (λ items. adds rows (first_item p items)) item (read cs None words) (adds_more p rows item)
  one_item rows p text held e d (Some (flag m)) (Some v) ef ev =
      let long = d.long ∙ ap (λ v'. Some (name_in text, v')) ev in
      let rule = by_long cs (name_in text) ∙ ap (option_map rule_for) ef in
      run_stops name cs _ word words (dashed_turn name cs rows (pending_of p) word (name_in text) (Some v) (Some (flag m)) d.no_end long rule)

  step : (begins_with_hyphen word && not (is_some (dashed word))) ≡ false → IsRight name cs (word ∷ words)
  step clean (ready p) rows held = go (dashed word) refl
    where
      go : (o : Option Text) → dashed word ≡ o → run name cs (at rows (pending_of p) idle) (word ∷ words) ≡ option_and_then (λ items. adds rows (first_item p items)) (read cs None (word ∷ words))
      go None e =
          let plain = plain_word_read word (not_stray word clean e) in
          by_fact _ None _ _ (read_plain cs word words e) (run_stops name cs _ word words (plain_turn name cs rows (pending_of p) word plain))
      go (Some text) e =
          by_fact _ _ _ _ (read_dashed cs word text words _ _ e refl refl)
          (one_item rows p text held e (dashed_word word text e) (choice_of cs (name_in text)) (value_after text) refl refl)
  step clean (wants m) rows held = go (dashed word) refl
    where
      go : (o : Option Text) → dashed word ≡ o → run name cs (at rows (Some (m, [])) (option m)) (word ∷ words) ≡ option_and_then (adds rows) (read cs (Some m) (word ∷ words))
      go None e =
          let free = not_stray word clean e in
          let plain = plain_word_read word free in
          by_fact _ _ _ _ (read_given cs m word words free)
          (run_step name cs _ (at rows (Some (m, word ∷ [])) idle) word words true _
          (value_turn name cs rows m word plain)
          (walked_given cs rows m word plain held (same_bytes m))
          (right (ready (Some (m, word))) rows held)
          ∙ join_item true (λ items. adds rows ((m, Some word) ∷ items)) (adds rows) (m, Some word) (read cs None words) (λ items. refl))
      go (Some text) e =
          let d = dashed_word word text e in
          by_fact _ None _ _ (read_missing cs m word words d.hyphen)
          (run_stops name cs _ word words (missing_turn name cs rows m word (name_in text) (value_after text) (choice_of cs (name_in text)) d.no_end d.long (by_long cs (name_in text)) held))

run_ends : (name : Text) (cs : List Choice) → IsRight name cs []
unfolding run read
run_ends name cs (ready p) rows held =
    rw (settle_none cs rows p held, settled_rows_are cs rows p held) (last p)
  where
    last : (q : Option (Text × Text)) → (if settles q rows then Some (rows_with q rows) else None) ≡ adds rows (first_item q [])
    last None = refl
    last (Some q) = flip (has_row q.0 rows)
      where
        flip : (b : Bool) → (if not b then Some (rows_with (Some q) rows) else None) ≡ (if b then None else Some (rows_with (Some q) rows))
        flip true = refl
        flip false = refl
run_ends name cs (wants m) rows held = rw held refl

-- clap's walk and the definition agree
pub run_is_read : (name : Text) (cs : List Choice) (words : List Text) → NoStray words → IsRight name cs words
run_is_read name cs [] clean = run_ends name cs
run_is_read name cs (word ∷ words) clean = step name cs word words (run_is_read name cs words clean.1) clean.0
