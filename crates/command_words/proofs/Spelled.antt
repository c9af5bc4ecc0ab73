-- The reader and the words of items agree: what it reads spells the words, and it reads what spells them.
use Rattle.std.proofs.Common.{◌≡◌, ◌≢◌, inl, inr, ℕ, zero, suc, ◌<◌, Bool, true, false, not, List, [], ◌∷◌, ◌++◌, Option, Some, None, refl, sym, ap, ◌∙◌, subst, length, get_or, arith}
use Rattle.std.specs.Prelude.{◌&&◌, ◌||◌, ◌==◌, if◌then◌else◌}
use Rattle.std.specs.List.{list_all, list_any}
use Rattle.std.proofs.lemmas.Bool.Decides.{nat_tests}
use Rattle.std.proofs.lemmas.Grind.{common_steps}
use Rattle.clap.proofs.CutLemmas.{Lacks, list_any-at, before_first-Lacks, before_first-at, after_first-at}
use Rattle.command_words.specs.Words.{Text, Item, begins_with_hyphen, name_word, joined_word, IsWritten, Spells}
use Rattle.command_words.specs.Options.{is_name}
use Rattle.command_words.specs.Reader.{Choice, value, flag, name_of, dashed, name_in, value_after, choice_of, and_then, read, read_item, read_word}
use Rattle.command_words.proofs.Runs.{found_name, read_dashed, read_given}
use Rattle.command_words.proofs.Found.{IsOfChoice, AllOfChoices}

true_no : {P : Type 0} → true ≡ false → P
true_no h = absurd (let x : ⊥ = cc in x)

no_true : {P : Type 0} → false ≡ true → P
no_true h = absurd (let x : ⊥ = cc in x)

-- ---- A text with or without `=`

abbrev has_equals : Text → Bool
has_equals text = list_any (λ b. b == 61) text

lacks_equals : (text : Text) → has_equals text ≡ false → Lacks 61 text
lacks_equals [] h i l = λ same. absurd (omega arith)
lacks_equals (x ∷ xs) h i l = at (x == 61) refl h (lacks_equals xs) i l
  where
    at : (b : Bool) → (x == 61) ≡ b → (b || has_equals xs) ≡ false → (has_equals xs ≡ false → Lacks 61 xs) → (j : ℕ) → j < length (x ∷ xs) → get_or (x ∷ xs) j 0 ≢ 61
    at true e k ih j less same = true_no k
    at false e k ih zero less same = true_no (sym (let t : (x == 61) ≡ true = grind (arith, nat_tests) in t) ∙ e)
    at false e k ih (suc j) less same = ih k j (grind (arith, common_steps)) same

pub plain_name : (text : Text) → has_equals text ≡ false → name_in text ≡ text
plain_name text h = before_first-Lacks 61 text (lacks_equals text h)

pub plain_value : (text : Text) → has_equals text ≡ false → value_after text ≡ None
plain_value text h = rw h refl

pub joined_name : (name text : Text) → has_equals name ≡ false → name_in (name ++ 61 ∷ text) ≡ name
joined_name name text h = before_first-at 61 name text (lacks_equals name h)

pub joined_value : (name text : Text) → has_equals name ≡ false → value_after (name ++ 61 ∷ text) ≡ Some text
joined_value name text h = rw (list_any-at 61 name text) (ap Some (after_first-at 61 name text (lacks_equals name h)))

record Cut (text : Text) : Type 0 where
  front : Text
  behind : Text
  is : text ≡ front ++ 61 ∷ behind
  clear : has_equals front ≡ false

cut : (text : Text) → has_equals text ≡ true → Cut text
cut [] h = no_true h
cut (x ∷ xs) h = step (x == 61) refl h (cut xs)
  where
    step : (b : Bool) → (x == 61) ≡ b → (b || has_equals xs) ≡ true → (has_equals xs ≡ true → Cut xs) → Cut (x ∷ xs)
    step true e k ih = let same : x ≡ 61 = grind (arith, nat_tests) in record { front = []; behind = xs; is = ap (λ b. b ∷ xs) same; clear = refl }
    step false e k ih = let c = ih k in record { front = x ∷ c.front; behind = c.behind; is = ap (λ l. x ∷ l) c.is; clear = ap (λ b. b || has_equals c.front) e ∙ c.clear }

-- what a text is, by what stands behind its `=`
abbrev pub IsCut : Text → Option Text → Type 0
IsCut text None = text ≡ name_in text
IsCut text (Some behind) = text ≡ name_in text ++ 61 ∷ behind

pub cut_as : (text : Text) (v : Option Text) → value_after text ≡ v → IsCut text v
cut_as text v e = step (has_equals text) refl v e
  where
    whole : has_equals text ≡ true → (w : Option Text) → value_after text ≡ w → IsCut text w
    whole h =
        let c = cut text h in
        let named : name_in text ≡ c.front = ap name_in c.is ∙ joined_name c.front c.behind c.clear in
        let valued : value_after text ≡ Some c.behind = ap value_after c.is ∙ joined_value c.front c.behind c.clear in
        by_value c.front c.behind c.is named valued
      where
        some_is : (a b : Text) → Some a ≡ Some b → a ≡ b
        some_is a b p = cc

        by_value : (front behind : Text) → text ≡ front ++ 61 ∷ behind → name_in text ≡ front → value_after text ≡ Some behind → (w : Option Text) → value_after text ≡ w → IsCut text w
        by_value front behind is named valued None p = absurd (let clash : Some behind ≡ None = sym valued ∙ p in let x : ⊥ = cc in x)
        by_value front behind is named valued (Some w) p = is ∙ ap (λ f. f ++ 61 ∷ behind) (sym named) ∙ ap (λ r. name_in text ++ 61 ∷ r) (some_is behind w (sym valued ∙ p))

    step : (b : Bool) → has_equals text ≡ b → (w : Option Text) → value_after text ≡ w → IsCut text w
    step true h w p = whole h w p
    step false h None p = sym (plain_name text h)
    step false h (Some w) p = absurd (let clash : None ≡ Some w = sym (plain_value text h) ∙ p in let x : ⊥ = cc in x)

-- ---- What is read spells the words

dashed_is : (word text : Text) → dashed word ≡ Some text → word ≡ 45 ∷ 45 ∷ text
dashed_is [] text h = absurd (let x : ⊥ = cc in x)
dashed_is (a ∷ []) text h = absurd (let x : ⊥ = cc in x)
dashed_is (a ∷ b ∷ []) text h = absurd (let x : ⊥ = cc in x)
dashed_is (a ∷ b ∷ c ∷ rest) text h = first (a == 45) refl (b == 45) refl h
  where
    first : (p : Bool) → (a == 45) ≡ p → (q : Bool) → (b == 45) ≡ q → (if p && q then Some (c ∷ rest) else None) ≡ Some text → a ∷ b ∷ c ∷ rest ≡ 45 ∷ 45 ∷ text
    first true e true f k =
        let one : a ≡ 45 = grind (arith, nat_tests) in
        let two : b ≡ 45 = grind (arith, nat_tests) in
        let same : c ∷ rest ≡ text = cc in
        ap (λ x. x ∷ b ∷ c ∷ rest) one ∙ ap (λ x. 45 ∷ x ∷ c ∷ rest) two ∙ ap (λ l. 45 ∷ 45 ∷ l) same
    first true e false f k = absurd (let x : ⊥ = cc in x)
    first false e q f k = absurd (let x : ⊥ = cc in x)

-- what the words spell behind an option whose text is still to come, or behind none
abbrev pub SpellsBehind : Option Text → List Item → List Text → Type 0
SpellsBehind None items words = Spells items words
SpellsBehind (Some name) items words =
    (text : Text) × ((rest : List Text) × ((more : List Item) × ((words ≡ text ∷ rest) × ((items ≡ (name, Some text) ∷ more) × ((begins_with_hyphen text ≡ false) × Spells more rest)))))

abbrev AllSpelled : (Option Text → Option (List Item)) → List Text → Type 0
AllSpelled rest words = (waiting : Option Text) (items : List Item) → rest waiting ≡ Some items → SpellsBehind waiting items words

pushed : (item : Item) (o : Option (List Item)) (items : List Item) → and_then item o ≡ Some items → (more : List Item) × ((o ≡ Some more) × (items ≡ item ∷ more))
pushed item None items h = absurd (let x : ⊥ = cc in x)
pushed item (Some more) items h = let same : items ≡ item ∷ more = cc in (more, (refl, same))

one_more : (item : Item) (front words : List Text) (o : Option (List Item)) (items : List Item) → IsWritten item front → and_then item o ≡ Some items
    → ((more : List Item) → o ≡ Some more → Spells more words) → Spells items (front ++ words)
one_more item front words o items written h rest =
    let p = pushed item o items h in
    subst (λ l. Spells l (front ++ words)) (sym p.1.1) (front, (words, (refl, (written, rest p.0 p.1.0))))

item_spells : (cs : List Choice) (word text : Text) (words : List Text) (found : Option Choice) (v : Option Text) (rest : Option Text → Option (List Item)) (items : List Item)
    → word ≡ 45 ∷ 45 ∷ text → choice_of cs (name_in text) ≡ found → IsCut text v → AllSpelled rest words → read_item found v rest ≡ Some items → Spells items (word ∷ words)
item_spells cs word text words None v rest items w f c all h = absurd (let x : ⊥ = cc in x)
item_spells cs word text words (Some (value m)) None rest items w f c all h =
    let s = all (Some m) items h in
    let named : m ≡ text = found_name cs (name_in text) (value m) f ∙ sym c in
    let lone : word ≡ name_word m = w ∙ ap (λ t. 45 ∷ 45 ∷ t) (sym named) in
    subst (λ l. Spells l (word ∷ words)) (sym s.1.1.1.1.0)
    (name_word m ∷ s.0 ∷ [], (s.1.0, (ap (λ l. word ∷ l) s.1.1.1.0 ∙ ap (λ t. t ∷ s.0 ∷ s.1.0) lone, (inr (s.1.1.1.1.1.0, refl), s.1.1.1.1.1.1))))
item_spells cs word text words (Some (value m)) (Some v) rest items w f c all h =
    let named : m ≡ name_in text = found_name cs (name_in text) (value m) f in
    let whole : word ≡ joined_word m v = w ∙ ap (λ t. 45 ∷ 45 ∷ t) (c ∙ ap (λ t. t ++ 61 ∷ v) (sym named)) in
    one_more (m, Some v) (word ∷ []) words (rest None) items (inl (ap (λ t. t ∷ []) whole)) h (all None)
item_spells cs word text words (Some (flag m)) None rest items w f c all h =
    let named : m ≡ text = found_name cs (name_in text) (flag m) f ∙ sym c in
    let lone : word ≡ name_word m = w ∙ ap (λ t. 45 ∷ 45 ∷ t) (sym named) in
    one_more (m, None) (word ∷ []) words (rest None) items (ap (λ t. t ∷ []) lone) h (all None)
item_spells cs word text words (Some (flag m)) (Some v) rest items w f c all h = absurd (let x : ⊥ = cc in x)

word_spells : (cs : List Choice) (word : Text) (words : List Text) (o : Option Text) (rest : Option Text → Option (List Item)) (items : List Item)
    → dashed word ≡ o → AllSpelled rest words → read_word cs o rest ≡ Some items → Spells items (word ∷ words)
word_spells cs word words None rest items d all h = absurd (let x : ⊥ = cc in x)
word_spells cs word words (Some text) rest items d all h =
    item_spells cs word text words (choice_of cs (name_in text)) (value_after text) rest items (dashed_is word text d) refl (cut_as text (value_after text) refl) all h

given_spells : (cs : List Choice) (m word : Text) (words : List Text) (b : Bool) (o : Option (List Item)) (items : List Item) → begins_with_hyphen word ≡ b
    → ((more : List Item) → o ≡ Some more → Spells more words) → (if b then None else and_then (m, Some word) o) ≡ Some items → SpellsBehind (Some m) items (word ∷ words)
given_spells cs m word words true o items e all h = absurd (let x : ⊥ = cc in x)
given_spells cs m word words false o items e all h =
    let p = pushed (m, Some word) o items h in
    (word, (words, (p.0, (refl, (p.1.1, (e, all p.0 p.1.0))))))

pub read_spells : (cs : List Choice) (words : List Text) → AllSpelled (λ waiting. read cs waiting words) words
unfolding read
read_spells cs [] None items h = let same : items ≡ [] = cc in subst (λ l. Spells l []) (sym same) refl
read_spells cs [] (Some m) items h = absurd (let x : ⊥ = cc in x)
read_spells cs (word ∷ words) None items h = word_spells cs word words (dashed word) (λ waiting. read cs waiting words) items refl (read_spells cs words) h
read_spells cs (word ∷ words) (Some m) items h =
    given_spells cs m word words (begins_with_hyphen word) (read cs None words) items refl (λ more. read_spells cs words None more) h

-- ---- What spells the words is read

abbrev pub AllNames : List Choice → Type 0
AllNames cs = list_all (λ c. is_name (name_of c)) cs ≡ true

-- a choice that is found has a name
found_is_name : (cs : List Choice) (n : Text) (c : Choice) → AllNames cs → choice_of cs n ≡ Some c → is_name n ≡ true
found_is_name cs n c names found = subst (λ t. is_name t ≡ true) (found_name cs n c found) (passed cs names found)
  where
    step : (x : Choice) (xs : List Choice) (p b : Bool) → is_name (name_of x) ≡ p → (p && list_all (λ y. is_name (name_of y)) xs) ≡ true
        → (AllNames xs → choice_of xs n ≡ Some c → is_name (name_of c) ≡ true) → (if b then Some x else choice_of xs n) ≡ Some c → is_name (name_of c) ≡ true
    step x xs false b e k more h = no_true k
    step x xs true true e k more h = let same : x ≡ c = cc in subst (λ (y : Choice). is_name (name_of y) ≡ true) same e
    step x xs true false e k more h = more k h

    passed : (xs : List Choice) → AllNames xs → choice_of xs n ≡ Some c → is_name (name_of c) ≡ true
    passed [] k h = absurd (let x : ⊥ = cc in x)
    passed (x ∷ xs) k h = step x xs (is_name (name_of x)) _ refl k (passed xs) h

name_is_clear : (name : Text) → is_name name ≡ true → has_equals name ≡ false
name_is_clear [] h = no_true h
name_is_clear (b ∷ bs) h = flip (has_equals (b ∷ bs)) h
  where
    flip : (p : Bool) → not p ≡ true → p ≡ false
    flip true k = no_true k
    flip false k = refl

dashed_name : (name : Text) → is_name name ≡ true → dashed (name_word name) ≡ Some name
dashed_name [] h = no_true h
dashed_name (b ∷ bs) h = refl

dashed_joined : (name text : Text) → dashed (joined_word name text) ≡ Some (name ++ 61 ∷ text)
dashed_joined [] text = refl
dashed_joined (b ∷ bs) text = refl

-- an option and its text in one word
read_joined : (cs : List Choice) (m v : Text) (words : List Text) (items : List Item) → AllNames cs → choice_of cs m ≡ Some (value m) → read cs None words ≡ Some items
    → read cs None (joined_word m v ∷ words) ≡ Some ((m, Some v) ∷ items)
read_joined cs m v words items names known ih =
    let clear = name_is_clear m (found_is_name cs m (value m) names known) in
    read_dashed cs (joined_word m v) (m ++ 61 ∷ v) words (Some (value m)) (Some v) (dashed_joined m v) (ap (choice_of cs) (joined_name m v clear) ∙ known) (joined_value m v clear)
    ∙ ap (and_then (m, Some v)) ih

-- an option and its text in two words
read_apart : (cs : List Choice) (m v : Text) (words : List Text) (items : List Item) → AllNames cs → choice_of cs m ≡ Some (value m) → begins_with_hyphen v ≡ false
    → read cs None words ≡ Some items → read cs None (name_word m ∷ v ∷ words) ≡ Some ((m, Some v) ∷ items)
read_apart cs m v words items names known free ih =
    let is = found_is_name cs m (value m) names known in
    let clear = name_is_clear m is in
    read_dashed cs (name_word m) m (v ∷ words) (Some (value m)) None (dashed_name m is) (ap (choice_of cs) (plain_name m clear) ∙ known) (plain_value m clear)
    ∙ read_given cs m v words free ∙ ap (and_then (m, Some v)) ih

read_flag : (cs : List Choice) (m : Text) (words : List Text) (items : List Item) → AllNames cs → choice_of cs m ≡ Some (flag m) → read cs None words ≡ Some items
    → read cs None (name_word m ∷ words) ≡ Some ((m, None) ∷ items)
read_flag cs m words items names known ih =
    let is = found_is_name cs m (flag m) names known in
    let clear = name_is_clear m is in
    read_dashed cs (name_word m) m words (Some (flag m)) None (dashed_name m is) (ap (choice_of cs) (plain_name m clear) ∙ known) (plain_value m clear)
    ∙ ap (and_then (m, None)) ih

read_written : (cs : List Choice) (item : Item) (front words : List Text) (items : List Item) → AllNames cs → IsOfChoice cs item → IsWritten item front
    → read cs None words ≡ Some items → read cs None (front ++ words) ≡ Some (item ∷ items)
read_written cs (m, Some v) front words items names known (inl w) ih =
    subst (λ f. read cs None (f ++ words) ≡ Some ((m, Some v) ∷ items)) (sym w) (read_joined cs m v words items names known ih)
read_written cs (m, Some v) front words items names known (inr w) ih =
    subst (λ f. read cs None (f ++ words) ≡ Some ((m, Some v) ∷ items)) (sym w.1) (read_apart cs m v words items names known w.0 ih)
read_written cs (m, None) front words items names known w ih =
    subst (λ f. read cs None (f ++ words) ≡ Some ((m, None) ∷ items)) (sym w) (read_flag cs m words items names known ih)

read_nothing : (cs : List Choice) → read cs None [] ≡ Some []
unfolding read
read_nothing cs = refl

pub spells_read : (cs : List Choice) (items : List Item) (words : List Text) → AllNames cs → AllOfChoices cs items → Spells items words → read cs None words ≡ Some items
spells_read cs [] words names known s = ap (read cs None) s ∙ read_nothing cs
spells_read cs (item ∷ items) words names known s =
    ap (read cs None) s.1.1.0 ∙ read_written cs item s.0 s.1.0 items names known.0 s.1.1.1.0 (spells_read cs items s.1.0 names known.1 s.1.1.1.1)
