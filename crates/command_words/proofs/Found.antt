-- What clap's rows say of each option, by the items.
use Rattle.std.proofs.Common.{◌≡◌, Bool, true, false, not, List, [], ◌∷◌, ◌++◌, map, Option, Some, None, refl, ap, ◌∙◌, sym, codes, append-nil, append_assoc, subst}
use Rattle.std.specs.Prelude.{◌&&◌, ◌||◌, if◌then◌else◌, option_and_then, find, fold, slice_get}
use Rattle.std.specs.Str.{bytes_eq}
use Rattle.std.proofs.lemmas.Slice.Eq.{bytes_eq-Decides}
use Rattle.clap.specs.Walk.{Row, at_row, first_of, has_row, more_values, one_of, reading_by, row_text, with_default, without}
use Rattle.clap.specs.declared.parser.matches.ValueSource.TheVariants.{CommandLine, DefaultValue}
use Rattle.command_words.specs.Words.{Text, Item, begins_with_hyphen, has_name, text_of}
use Rattle.command_words.specs.Reader.{Choice, value, flag, dashed, name_in, value_after, choice_of, read_word, once_after, read, read_item, and_then}
use Rattle.command_words.proofs.Rules.{value_rule, flag_rule, rules_for}
use Rattle.command_words.proofs.Runs.{adds, own_name, with_item}

abbrev pub row_of_item : Item → Row
row_of_item (m, Some v) = record { id = m; values = v ∷ []; count = None; source = Some CommandLine; reading = reading_by (value_rule m) }
row_of_item (m, None) = record { id = m; values = codes "true" ∷ []; count = None; source = Some CommandLine; reading = reading_by (flag_rule m) }

abbrev pub rows_for : List Item → List Row
rows_for = map row_of_item

-- a new row goes last
pub at_row_new : (m : Text) (change : Row → List Row) (missing rows : List Row) → has_row m rows ≡ false → at_row m change missing rows ≡ rows ++ missing
at_row_new m change missing [] h = refl
at_row_new m change missing (r ∷ rs) h = go (bytes_eq r.id m) h (at_row_new m change missing rs)
  where
    go : (b : Bool) → (b || has_row m rs) ≡ false → (has_row m rs ≡ false → at_row m change missing rs ≡ rs ++ missing)
        → (if b then change r ++ rs else r ∷ at_row m change missing rs) ≡ r ∷ (rs ++ missing)
    go true e ih = absurd (cc)
    go false e ih = ap (λ l. r ∷ l) (ih e)

without_new : (m : Text) (rows : List Row) → has_row m rows ≡ false → without m rows ≡ rows
without_new m rows h = at_row_new m (λ _. []) [] rows h ∙ append-nil rows

item_goes_last : (item : Item) (rows : List Row) → has_row item.0 rows ≡ false → with_item item rows ≡ rows ++ row_of_item item ∷ []
item_goes_last (m, Some v) rows h = rw (without_new m rows h) (at_row_new m (more_values CommandLine (v ∷ [])) _ rows h)
item_goes_last (m, None) rows h = rw (without_new m rows h) (at_row_new m (more_values CommandLine (codes "true" ∷ [])) _ rows h)

pub has_row_for : (m : Text) (items : List Item) → has_row m (rows_for items) ≡ has_name m items
has_row_for m [] = refl
has_row_for m ((k, Some v) ∷ items) = ap (λ b. bytes_eq k m || b) (has_row_for m items)
has_row_for m ((k, None) ∷ items) = ap (λ b. bytes_eq k m || b) (has_row_for m items)

rows_push : (before : List Item) (item : Item) → rows_for (before ++ item ∷ []) ≡ rows_for before ++ row_of_item item ∷ []
rows_push [] item = refl
rows_push (x ∷ xs) item = ap (λ l. row_of_item x ∷ l) (rows_push xs item)

pub adds_are_rows : (before items : List Item) → adds (rows_for before) items ≡ (if once_after before items then Some (rows_for (before ++ items)) else None)
adds_are_rows before [] = ap (λ l. Some (rows_for l)) (sym (append-nil before))
adds_are_rows before (item ∷ items) = go (has_row item.0 (rows_for before)) refl (adds_are_rows (before ++ item ∷ []) items)
  where
    go : (b : Bool) → has_row item.0 (rows_for before) ≡ b
        → (adds (rows_for (before ++ item ∷ [])) items ≡ (if once_after (before ++ item ∷ []) items then Some (rows_for ((before ++ item ∷ []) ++ items)) else None))
        → (if has_row item.0 (rows_for before) then None else adds (with_item item (rows_for before)) items)
        ≡ (if not (has_name item.0 before) && once_after (before ++ item ∷ []) items then Some (rows_for (before ++ item ∷ items)) else None)
    go true e ih = rw (← has_row_for item.0 before, e) refl
    go false e ih = rw (← has_row_for item.0 before, e, item_goes_last item (rows_for before) e, ← rows_push before item, ih, append_assoc before (item ∷ []) items) refl

-- ---- each item is of a choice of its kind

abbrev pub IsOfChoice : List Choice → Item → Type 0
IsOfChoice cs (m, Some v) = choice_of cs m ≡ Some (value m)
IsOfChoice cs (m, None) = choice_of cs m ≡ Some (flag m)

abbrev pub AllOfChoices : List Choice → List Item → Type 0
AllOfChoices cs [] = Unit {0}
AllOfChoices cs (item ∷ items) = IsOfChoice cs item × AllOfChoices cs items

-- the default rows of flags say nothing of an option
abbrev pub NoFlag : Text → List Choice → Type 0
NoFlag n [] = Unit {0}
NoFlag n (value m ∷ cs) = NoFlag n cs
NoFlag n (flag m ∷ cs) = (bytes_eq m n ≡ false) × NoFlag n cs

abbrev pub held_at : List Choice → Option Text → Type 0
held_at cs None = Unit {0}
held_at cs (Some m) = choice_of cs m ≡ Some (value m)

push_item : (cs : List Choice) (item : Item) (o : Option (List Item)) (items : List Item) → IsOfChoice cs item
    → ((rest : List Item) → o ≡ Some rest → AllOfChoices cs rest) → and_then item o ≡ Some items → AllOfChoices cs items
push_item cs item None items this rest e = absurd (cc)
push_item cs item (Some is) items this rest e =
    let same : item ∷ is ≡ items = cc in
    subst (AllOfChoices cs) same (this, rest is refl)

-- what reading the rest keeps
abbrev KeepsChoices : List Choice → (Option Text → Option (List Item)) → Type 0
KeepsChoices cs rest = (waiting : Option Text) → held_at cs waiting → (items : List Item) → rest waiting ≡ Some items → AllOfChoices cs items

item_of_choice : (cs : List Choice) (n : Text) (found : Option Choice) (v : Option Text) (rest : Option Text → Option (List Item)) (items : List Item)
    → choice_of cs n ≡ found → KeepsChoices cs rest → read_item found v rest ≡ Some items → AllOfChoices cs items
item_of_choice cs n None v rest items e keeps h = absurd (cc)
item_of_choice cs n (Some (value m)) None rest items e keeps h = keeps (Some m) (own_name cs n (value m) e) items h
item_of_choice cs n (Some (value m)) (Some v) rest items e keeps h = push_item cs (m, Some v) (rest None) items (own_name cs n (value m) e) (λ is. keeps None tt is) h
item_of_choice cs n (Some (flag m)) None rest items e keeps h = push_item cs (m, None) (rest None) items (own_name cs n (flag m) e) (λ is. keeps None tt is) h
item_of_choice cs n (Some (flag m)) (Some v) rest items e keeps h = absurd (cc)

word_of_choice : (cs : List Choice) (o : Option Text) (rest : Option Text → Option (List Item)) (items : List Item)
    → KeepsChoices cs rest → read_word cs o rest ≡ Some items → AllOfChoices cs items
word_of_choice cs None rest items keeps h = absurd (cc)
word_of_choice cs (Some text) rest items keeps h = item_of_choice cs (name_in text) (choice_of cs (name_in text)) (value_after text) rest items refl keeps h

given_of_choice : (cs : List Choice) (m word : Text) (b : Bool) (o : Option (List Item)) (items : List Item) → choice_of cs m ≡ Some (value m)
    → ((rest : List Item) → o ≡ Some rest → AllOfChoices cs rest) → (if b then None else and_then (m, Some word) o) ≡ Some items → AllOfChoices cs items
given_of_choice cs m word true o items held rest h = absurd (cc)
given_of_choice cs m word false o items held rest h = push_item cs (m, Some word) o items held rest h

pub read_of_choices : (cs : List Choice) (words : List Text) → KeepsChoices cs (λ waiting. read cs waiting words)
unfolding read
read_of_choices cs [] None held items h = let same : [] ≡ items = cc in subst (AllOfChoices cs) same tt
read_of_choices cs [] (Some m) held items h = absurd (cc)
read_of_choices cs (word ∷ words) None held items h = word_of_choice cs (dashed word) (λ waiting. read cs waiting words) items (read_of_choices cs words) h
read_of_choices cs (word ∷ words) (Some m) held items h =
    given_of_choice cs m word (begins_with_hyphen word) (read cs None words) items held (λ rest. read_of_choices cs words None tt rest) h

-- ---- the values

bytes_same : (xs ys : Text) → bytes_eq xs ys ≡ true → xs ≡ ys
bytes_same xs ys h = (bytes_eq-Decides xs ys).0 h

-- an option's row has its value
pub first_of_items : (cs : List Choice) (n : Text) (items : List Item) → choice_of cs n ≡ Some (value n) → AllOfChoices cs items
    → first_of n (rows_for items) ≡ text_of n items
first_of_items cs n [] known all = refl
first_of_items cs n ((m, Some v) ∷ items) known all = go (bytes_eq m n) (first_of_items cs n items known all.1)
  where
    go : (b : Bool) → first_of n (rows_for items) ≡ text_of n items
        → option_and_then (λ (r : Row). slice_get r.values 0) (if b then Some (row_of_item (m, Some v)) else find (λ r. bytes_eq r.id n) (rows_for items))
        ≡ option_and_then (λ (item : Item). item.1) (if b then Some (m, Some v) else find (λ item. bytes_eq item.0 n) items)
    go true ih = refl
    go false ih = ih
first_of_items cs n ((m, None) ∷ items) known all = go (bytes_eq m n) (bytes_same m n) (first_of_items cs n items known all.1)
  where
    go : (b : Bool) → (b ≡ true → m ≡ n) → first_of n (rows_for items) ≡ text_of n items
        → option_and_then (λ (r : Row). slice_get r.values 0) (if b then Some (row_of_item (m, None)) else find (λ r. bytes_eq r.id n) (rows_for items))
        ≡ option_and_then (λ (item : Item). item.1) (if b then Some (m, None) else find (λ item. bytes_eq item.0 n) items)
    go true same ih =
        let moved : choice_of cs n ≡ Some (flag n) = subst (λ t. choice_of cs t ≡ Some (flag t)) (same refl) all.0 in
        let clash : Some (flag n) ≡ Some (value n) = sym moved ∙ known in
        absurd (cc)
    go false same ih = ih

-- a flag's row reads as set
pub one_of_items : (cs : List Choice) (n : Text) (items : List Item) → choice_of cs n ≡ Some (flag n) → AllOfChoices cs items
    → one_of n (rows_for items) ≡ (if has_name n items then Some (codes "true") else None)
one_of_items cs n [] known all = refl
one_of_items cs n ((m, None) ∷ items) known all = go (bytes_eq m n) (one_of_items cs n items known all.1)
  where
    go : (b : Bool) → one_of n (rows_for items) ≡ (if has_name n items then Some (codes "true") else None)
        → option_and_then row_text (if b then Some (row_of_item (m, None)) else find (λ r. bytes_eq r.id n) (rows_for items))
        ≡ (if b || has_name n items then Some (codes "true") else None)
    go true ih = refl
    go false ih = ih
one_of_items cs n ((m, Some v) ∷ items) known all = go (bytes_eq m n) (bytes_same m n) (one_of_items cs n items known all.1)
  where
    go : (b : Bool) → (b ≡ true → m ≡ n) → one_of n (rows_for items) ≡ (if has_name n items then Some (codes "true") else None)
        → option_and_then row_text (if b then Some (row_of_item (m, Some v)) else find (λ r. bytes_eq r.id n) (rows_for items))
        ≡ (if b || has_name n items then Some (codes "true") else None)
    go true same ih =
        let moved : choice_of cs n ≡ Some (value n) = subst (λ t. choice_of cs t ≡ Some (value t)) (same refl) all.0 in
        let clash : Some (flag n) ≡ Some (value n) = sym known ∙ moved in
        absurd (cc)
    go false same ih = ih

-- ---- with the default rows of flags

find_push : (n : Text) (rows : List Row) (r : Row) → bytes_eq r.id n ≡ false → find (λ x. bytes_eq x.id n) (rows ++ r ∷ []) ≡ find (λ x. bytes_eq x.id n) rows
find_push n [] r h = rw h refl
find_push n (x ∷ xs) r h = ap (λ o. if bytes_eq x.id n then Some x else o) (find_push n xs r h)

-- what the rows say of n stays where the other flags get their defaults
find_with_default : (cs : List Choice) (n : Text) (rows : List Row) → NoFlag n cs → find (λ r. bytes_eq r.id n) (fold with_default rows (rules_for cs)) ≡ find (λ r. bytes_eq r.id n) rows
find_with_default [] n rows free = refl
find_with_default (value m ∷ cs) n rows free = find_with_default cs n _ free ∙ ap (find (λ r. bytes_eq r.id n)) (same (has_row m rows))
  where
    same : (b : Bool) → (if b then rows else rows) ≡ rows
    same true = refl
    same false = refl
find_with_default (flag m ∷ cs) n rows free = find_with_default cs n _ free.1 ∙ go (has_row m rows) refl
  where
    go : (b : Bool) → has_row m rows ≡ b → find (λ r. bytes_eq r.id n) (with_default rows (flag_rule m)) ≡ find (λ r. bytes_eq r.id n) rows
    go true e = rw e refl
    go false e = rw (e, at_row_new m (more_values DefaultValue (codes "false" ∷ [])) (record { id = m; values = codes "false" ∷ []; count = None; source = Some DefaultValue; reading = reading_by (flag_rule m) } ∷ []) rows e) (find_push n rows _ free.0)

pub first_of_finished : (cs : List Choice) (n : Text) (rows : List Row) → NoFlag n cs → first_of n (fold with_default rows (rules_for cs)) ≡ first_of n rows
first_of_finished cs n rows free = ap (option_and_then (λ (r : Row). slice_get r.values 0)) (find_with_default cs n rows free)
