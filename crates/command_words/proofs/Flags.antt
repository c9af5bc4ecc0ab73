-- What clap's rows say of a flag, where the flags that weren't given have got their defaults.
use Rattle.std.proofs.Common.{◌≡◌, Bool, true, false, List, [], ◌∷◌, ◌++◌, Option, Some, None, refl, ap, ◌∙◌, sym, codes, subst}
use Rattle.std.specs.Prelude.{◌||◌, if◌then◌else◌, option_and_then, find, fold}
use Rattle.std.specs.Str.{bytes_eq}
use Rattle.std.proofs.lemmas.Slice.Eq.{bytes_eq-Decides}
use Rattle.clap.specs.Walk.{Row, has_row, more_values, one_of, reading_by, row_text, with_default}
use Rattle.clap.specs.declared.parser.matches.ValueSource.TheVariants.{DefaultValue}
use Rattle.command_words.specs.Words.{Text, Item, has_name}
use Rattle.command_words.specs.Reader.{Choice, value, flag, choice_of}
use Rattle.command_words.proofs.Rules.{value_rule, flag_rule, rules_for}
use Rattle.command_words.proofs.Found.{AllOfChoices, at_row_new, has_row_for, one_of_items, rows_for}

abbrev unset : Text → Row
unset m = record { id = m; values = codes "false" ∷ []; count = None; source = Some DefaultValue; reading = reading_by (flag_rule m) }

same_rows : (b : Bool) (rows : List Row) → (if b then rows else rows) ≡ rows
same_rows true rows = refl
same_rows false rows = refl

value_stays : (m : Text) (rows : List Row) → with_default rows (value_rule m) ≡ rows
value_stays m rows = same_rows (has_row m rows) rows

flag_stays : (m : Text) (rows : List Row) → has_row m rows ≡ true → with_default rows (flag_rule m) ≡ rows
flag_stays m rows e = rw e refl

flag_added : (m : Text) (rows : List Row) → has_row m rows ≡ false → with_default rows (flag_rule m) ≡ rows ++ unset m ∷ []
flag_added m rows e = rw e (at_row_new m (more_values DefaultValue (codes "false" ∷ [])) (unset m ∷ []) rows e)

has_pushed : (n : Text) (rows : List Row) (r : Row) → has_row n (rows ++ r ∷ []) ≡ (has_row n rows || bytes_eq r.id n)
has_pushed n [] r = last (bytes_eq r.id n)
  where
    last : (b : Bool) → (b || false) ≡ b
    last true = refl
    last false = refl
has_pushed n (x ∷ xs) r = step (bytes_eq x.id n) (has_pushed n xs r)
  where
    step : (b : Bool) → has_row n (xs ++ r ∷ []) ≡ (has_row n xs || bytes_eq r.id n) → (b || has_row n (xs ++ r ∷ [])) ≡ ((b || has_row n xs) || bytes_eq r.id n)
    step true ih = refl
    step false ih = ih

found_pushed : (n : Text) (rows : List Row) (r : Row) → has_row n rows ≡ true → find (λ x. bytes_eq x.id n) (rows ++ r ∷ []) ≡ find (λ x. bytes_eq x.id n) rows
found_pushed n [] r h = absurd (let x : ⊥ = cc in x)
found_pushed n (x ∷ xs) r h = step (bytes_eq x.id n) h (found_pushed n xs r)
  where
    step : (b : Bool) → (b || has_row n xs) ≡ true → (has_row n xs ≡ true → find (λ y. bytes_eq y.id n) (xs ++ r ∷ []) ≡ find (λ y. bytes_eq y.id n) xs)
        → (if b then Some x else find (λ y. bytes_eq y.id n) (xs ++ r ∷ [])) ≡ (if b then Some x else find (λ y. bytes_eq y.id n) xs)
    step true e ih = refl
    step false e ih = ih e

found_last : (n : Text) (rows : List Row) (r : Row) → has_row n rows ≡ false → bytes_eq r.id n ≡ true → find (λ x. bytes_eq x.id n) (rows ++ r ∷ []) ≡ Some r
found_last n [] r h e = rw e refl
found_last n (x ∷ xs) r h e = step (bytes_eq x.id n) h (λ k. found_last n xs r k e)
  where
    step : (b : Bool) → (b || has_row n xs) ≡ false → (has_row n xs ≡ false → find (λ y. bytes_eq y.id n) (xs ++ r ∷ []) ≡ Some r)
        → (if b then Some x else find (λ y. bytes_eq y.id n) (xs ++ r ∷ [])) ≡ Some r
    step true k ih = absurd (let y : ⊥ = cc in y)
    step false k ih = ih k

still_has : (n : Text) (rows : List Row) (r : Row) → has_row n rows ≡ true → has_row n (rows ++ r ∷ []) ≡ true
still_has n rows r h = has_pushed n rows r ∙ ap (λ b. b || bytes_eq r.id n) h

still_lacks : (n : Text) (rows : List Row) (r : Row) → has_row n rows ≡ false → bytes_eq r.id n ≡ false → has_row n (rows ++ r ∷ []) ≡ false
still_lacks n rows r h e = has_pushed n rows r ∙ ap (λ b. b || bytes_eq r.id n) h ∙ e

now_has : (n : Text) (rows : List Row) (r : Row) → has_row n rows ≡ false → bytes_eq r.id n ≡ true → has_row n (rows ++ r ∷ []) ≡ true
now_has n rows r h e = has_pushed n rows r ∙ ap (λ b. b || bytes_eq r.id n) h ∙ e

abbrev found_after : List Choice → Text → List Row → Option Row
found_after cs n rows = find (λ r. bytes_eq r.id n) (fold with_default rows (rules_for cs))

-- the first row of a name stays it
found_stays : (cs : List Choice) (n : Text) (rows : List Row) → has_row n rows ≡ true → found_after cs n rows ≡ find (λ r. bytes_eq r.id n) rows
found_stays [] n rows h = refl
found_stays (value m ∷ cs) n rows h = ap (found_after cs n) (value_stays m rows) ∙ found_stays cs n rows h
found_stays (flag m ∷ cs) n rows h = step (has_row m rows) refl (λ rs. found_stays cs n rs)
  where
    step : (b : Bool) → has_row m rows ≡ b → ((rs : List Row) → has_row n rs ≡ true → found_after cs n rs ≡ find (λ r. bytes_eq r.id n) rs)
        → found_after cs n (with_default rows (flag_rule m)) ≡ find (λ r. bytes_eq r.id n) rows
    step true e ih = ap (found_after cs n) (flag_stays m rows e) ∙ ih rows h
    step false e ih = ap (found_after cs n) (flag_added m rows e) ∙ ih (rows ++ unset m ∷ []) (still_has n rows (unset m) h) ∙ found_pushed n rows (unset m) h

abbrev text_after : List Choice → Text → List Row → Option Text
text_after cs n rows = one_of n (fold with_default rows (rules_for cs))

-- a flag that has no row gets its default
unset_text : (cs : List Choice) (n : Text) (rows : List Row) → choice_of cs n ≡ Some (flag n) → has_row n rows ≡ false → text_after cs n rows ≡ Some (codes "false")
unset_text [] n rows known h = absurd (let x : ⊥ = cc in x)
unset_text (value m ∷ cs) n rows known h = step (bytes_eq m n) known (λ k. unset_text cs n rows k h)
  where
    step : (b : Bool) → (if b then Some (value m) else choice_of cs n) ≡ Some (flag n) → (choice_of cs n ≡ Some (flag n) → text_after cs n rows ≡ Some (codes "false"))
        → text_after cs n (with_default rows (value_rule m)) ≡ Some (codes "false")
    step true e ih = absurd (let x : ⊥ = cc in x)
    step false e ih = ap (text_after cs n) (value_stays m rows) ∙ ih e
unset_text (flag m ∷ cs) n rows known h = by_name (bytes_eq m n) refl known (λ rs k. unset_text cs n rs k)
  where
    this_one : bytes_eq m n ≡ true → text_after cs n (with_default rows (flag_rule m)) ≡ Some (codes "false")
    this_one e =
        let free : has_row m rows ≡ false = subst (λ t. has_row t rows ≡ false) (sym ((bytes_eq-Decides m n).0 e)) h in
        ap (text_after cs n) (flag_added m rows free)
        ∙ ap (option_and_then row_text) (found_stays cs n (rows ++ unset m ∷ []) (now_has n rows (unset m) h e) ∙ found_last n rows (unset m) h e)

    other : bytes_eq m n ≡ false → (b : Bool) → has_row m rows ≡ b → ((rs : List Row) → has_row n rs ≡ false → text_after cs n rs ≡ Some (codes "false"))
        → text_after cs n (with_default rows (flag_rule m)) ≡ Some (codes "false")
    other e true k ih = ap (text_after cs n) (flag_stays m rows k) ∙ ih rows h
    other e false k ih = ap (text_after cs n) (flag_added m rows k) ∙ ih (rows ++ unset m ∷ []) (still_lacks n rows (unset m) h e)

    by_name : (b : Bool) → bytes_eq m n ≡ b → (if b then Some (flag m) else choice_of cs n) ≡ Some (flag n)
        → ((rs : List Row) → choice_of cs n ≡ Some (flag n) → has_row n rs ≡ false → text_after cs n rs ≡ Some (codes "false"))
        → text_after cs n (with_default rows (flag_rule m)) ≡ Some (codes "false")
    by_name true e k ih = this_one e
    by_name false e k ih = other e (has_row m rows) refl (λ rs. ih rs k)

-- the flag's text tells whether it is given
pub flag_text : (cs : List Choice) (n : Text) (items : List Item) → choice_of cs n ≡ Some (flag n) → AllOfChoices cs items
    → text_after cs n (rows_for items) ≡ Some (if has_name n items then codes "true" else codes "false")
flag_text cs n items known all = by_given (has_name n items) refl
  where
    by_given : (b : Bool) → has_name n items ≡ b → text_after cs n (rows_for items) ≡ Some (if b then codes "true" else codes "false")
    by_given true e =
        ap (option_and_then row_text) (found_stays cs n (rows_for items) (has_row_for n items ∙ e))
        ∙ one_of_items cs n items known all ∙ ap (λ b. if b then Some (codes "true") else None) e
    by_given false e = unset_text cs n (rows_for items) known (has_row_for n items ∙ e)
