-- The options of a command, and what clap is told of them.
use Rattle.std.proofs.Common.{◌≡◌, Bool, true, false, not, List, [], ◌∷◌, ◌++◌, Option, Some, None, refl, sym, ap, ◌∙◌, subst}
use Rattle.std.specs.Prelude.{◌&&◌, ◌||◌, if◌then◌else◌, option_map}
use Rattle.std.specs.List.{list_all}
use Rattle.std.specs.Option.{option_map_or}
use Rattle.std.specs.Str.{bytes_eq}
use Rattle.std.proofs.lemmas.Slice.Eq.{bytes_eq-Decides}
use Rattle.command_words.specs.declared.options.Takes.{Takes}
use Rattle.command_words.specs.declared.options.Takes.TheVariants as takes
use Rattle.command_words.specs.Words.{Text, Item, has_name, are_once}
use Rattle.command_words.specs.Options.{OptionRule, is_built, is_name, has_option, are_named, accepts, option_of, is_known, is_need_known, has_default, is_table}
use Rattle.command_words.specs.Reader.{Choice, value, flag, name_of, choice_of, choice_by, choice_for, choices_of, once_after}
use Rattle.command_words.proofs.Runs.{found_name}
use Rattle.command_words.proofs.Found.{IsOfChoice, AllOfChoices, NoFlag}
use Rattle.command_words.proofs.Spelled.{AllNames}

no_true : {P : Type 0} → false ≡ true → P
no_true h = absurd (let x : ⊥ = cc in x)

true_no : {P : Type 0} → true ≡ false → P
true_no h = absurd (let x : ⊥ = cc in x)

pub and_both : (a b : Bool) → (a && b) ≡ true → (a ≡ true) × (b ≡ true)
and_both true b h = (refl, h)
and_both false b h = no_true h

not_true : (a : Bool) → not a ≡ true → a ≡ false
not_true true h = no_true h
not_true false h = refl

or_false : (a b : Bool) → (a || b) ≡ false → (a ≡ false) × (b ≡ false)
or_false true b h = true_no h
or_false false b h = (refl, h)

-- ---- Names

name_by : (t : Takes) (n : Text) → name_of (choice_by t n) ≡ n
name_by takes.Flag n = refl
name_by (takes.Number least most default) n = refl

pub all_names : (options : List OptionRule) → are_named options ≡ true → AllNames (choices_of options)
all_names [] h = refl
all_names (o ∷ os) h =
    let parts = and_both (is_name o.name) _ h in
    step (is_built o) parts.0 (all_names os (and_both (not (has_option o.name os)) _ parts.1).1)
  where
    step : (b : Bool) → is_name o.name ≡ true → AllNames (choices_of os) → AllNames (if b then choice_for o ∷ choices_of os else choices_of os)
    step true n rest = ap (λ t. is_name t && list_all (λ c. is_name (name_of c)) (choices_of os)) (name_by o.takes o.name) ∙ ap (λ p. p && list_all (λ c. is_name (name_of c)) (choices_of os)) n ∙ rest
    step false n rest = rest

-- ---- The choice of each option

-- no other choice has a flag's name, where this one has a value
abbrev pub IsClear : List Choice → Takes → Text → Type 0
IsClear cs takes.Flag name = Unit {0}
IsClear cs (takes.Number least most default) name = NoFlag name cs

abbrev pub IsChosen : List Choice → OptionRule → Type 0
IsChosen cs o = is_built o ≡ true → (choice_of cs o.name ≡ Some (choice_for o)) × IsClear cs o.takes o.name

abbrev pub AllChosen : List Choice → List OptionRule → Type 0
AllChosen cs [] = Unit {0}
AllChosen cs (o ∷ os) = IsChosen cs o × AllChosen cs os

clear_behind : (c : Choice) (cs : List Choice) (t : Takes) (n : Text) → bytes_eq (name_of c) n ≡ false → IsClear cs t n → IsClear (c ∷ cs) t n
clear_behind c cs takes.Flag n h k = tt
clear_behind (value m) cs (takes.Number least most default) n h k = k
clear_behind (flag m) cs (takes.Number least most default) n h k = (h, k)

chosen_behind : (c : Choice) (cs : List Choice) (options : List OptionRule) → has_option (name_of c) options ≡ false → AllChosen cs options → AllChosen (c ∷ cs) options
chosen_behind c cs [] h all = tt
chosen_behind c cs (o ∷ os) h all =
    let parts = or_false (bytes_eq (name_of c) o.name) _ h in
    (λ b. (ap (λ p. if p then Some c else choice_of cs o.name) parts.0 ∙ (all.0 b).0, clear_behind c cs o.takes o.name parts.0 (all.0 b).1), chosen_behind c cs os parts.1 all.1)

no_flag : (n : Text) (options : List OptionRule) → has_option n options ≡ false → NoFlag n (choices_of options)
no_flag n [] h = tt
no_flag n (o ∷ os) h =
    let parts = or_false (bytes_eq n o.name) _ h in
    step (is_built o) (no_flag n os parts.1) (other parts.0)
  where
    same_bytes : (b : Bool) → bytes_eq o.name n ≡ b → bytes_eq n o.name ≡ false → bytes_eq o.name n ≡ false
    same_bytes true e k =
        let same = (bytes_eq-Decides o.name n).0 e in
        true_no (sym (subst (λ t. bytes_eq n t ≡ true) (sym same) ((bytes_eq-Decides n n).1 refl)) ∙ k)
    same_bytes false e k = e

    other : bytes_eq n o.name ≡ false → bytes_eq o.name n ≡ false
    other k = same_bytes (bytes_eq o.name n) refl k

    by_kind : (t : Takes) → bytes_eq o.name n ≡ false → NoFlag n (choices_of os) → NoFlag n (choice_by t o.name ∷ choices_of os)
    by_kind takes.Flag e rest = (e, rest)
    by_kind (takes.Number least most default) e rest = rest

    step : (b : Bool) → NoFlag n (choices_of os) → bytes_eq o.name n ≡ false → NoFlag n (if b then choice_for o ∷ choices_of os else choices_of os)
    step true rest e = by_kind o.takes e rest
    step false rest e = rest

here : (t : Takes) (n : Text) (cs : List Choice) → NoFlag n cs → (choice_of (choice_by t n ∷ cs) n ≡ Some (choice_by t n)) × IsClear (choice_by t n ∷ cs) t n
here takes.Flag n cs free = (ap (λ b. if b then Some (flag n) else choice_of cs n) ((bytes_eq-Decides n n).1 refl), tt)
here (takes.Number least most default) n cs free = (ap (λ b. if b then Some (value n) else choice_of cs n) ((bytes_eq-Decides n n).1 refl), free)

-- each option is found by its name
pub all_chosen : (options : List OptionRule) → are_named options ≡ true → AllChosen (choices_of options) options
all_chosen [] h = tt
all_chosen (o ∷ os) h =
    let parts = and_both (is_name o.name) _ h in
    let more = and_both (not (has_option o.name os)) _ parts.1 in
    step (is_built o) refl (not_true _ more.0) (all_chosen os more.1)
  where
    step : (b : Bool) → is_built o ≡ b → has_option o.name os ≡ false → AllChosen (choices_of os) os
        → AllChosen (if b then choice_for o ∷ choices_of os else choices_of os) (o ∷ os)
    step true e free rest = (
      λ b. here o.takes o.name (choices_of os) (no_flag o.name os free),
      chosen_behind (choice_for o) (choices_of os) os (subst (λ t. has_option t os ≡ false) (sym (name_by o.takes o.name)) free) rest,
    )
    step false e free rest = (λ b. true_no (sym b ∙ e), rest)

-- ---- Items

chosen_of : (options : List OptionRule) (n : Text) → choice_of (choices_of options) n ≡ option_map choice_for (option_of options n)
chosen_of [] n = refl
chosen_of (o ∷ os) n = step (is_built o) (bytes_eq o.name n) (ap (λ t. bytes_eq t n) (name_by o.takes o.name)) (chosen_of os n)
  where
    step : (b same : Bool) → bytes_eq (name_of (choice_for o)) n ≡ same → choice_of (choices_of os) n ≡ option_map choice_for (option_of os n)
        → choice_of (if b then choice_for o ∷ choices_of os else choices_of os) n ≡ option_map choice_for (if b && same then Some o else option_of os n)
    step true true e ih = rw e refl
    step true false e ih = rw e ih
    step false same e ih = ih

kind_value : (t : Takes) (n v : Text) → accepts t (Some v) ≡ true → choice_by t n ≡ value n
kind_value takes.Flag n v h = no_true h
kind_value (takes.Number least most default) n v h = refl

kind_flag : (t : Takes) (n : Text) → accepts t None ≡ true → choice_by t n ≡ flag n
kind_flag takes.Flag n h = refl
kind_flag (takes.Number least most default) n h = no_true h

value_named : (cs : List Choice) (m n : Text) → choice_of cs m ≡ Some (value n) → choice_of cs m ≡ Some (value m)
value_named cs m n h = h ∙ ap (λ t. Some (value t)) (found_name cs m (value n) h)

flag_named : (cs : List Choice) (m n : Text) → choice_of cs m ≡ Some (flag n) → choice_of cs m ≡ Some (flag m)
flag_named cs m n h = h ∙ ap (λ t. Some (flag t)) (found_name cs m (flag n) h)

pub known_choice : (options : List OptionRule) (item : Item) → is_known options item ≡ true → IsOfChoice (choices_of options) item
known_choice options (m, Some v) h = step (option_of options m) (chosen_of options m) h
  where
    step : (found : Option OptionRule) → choice_of (choices_of options) m ≡ option_map choice_for found → option_map_or (λ o. accepts o.takes (Some v)) found false ≡ true → choice_of (choices_of options) m ≡ Some (value m)
    step None e k = no_true k
    step (Some o) e k = value_named (choices_of options) m o.name (e ∙ ap Some (kind_value o.takes o.name v k))
known_choice options (m, None) h = step (option_of options m) (chosen_of options m) h
  where
    step : (found : Option OptionRule) → choice_of (choices_of options) m ≡ option_map choice_for found → option_map_or (λ o. accepts o.takes None) found false ≡ true → choice_of (choices_of options) m ≡ Some (flag m)
    step None e k = no_true k
    step (Some o) e k = flag_named (choices_of options) m o.name (e ∙ ap Some (kind_flag o.takes o.name k))

pub known_choices : (options : List OptionRule) (items : List Item) → list_all (is_known options) items ≡ true → AllOfChoices (choices_of options) items
known_choices options [] h = tt
known_choices options (item ∷ items) h =
    let parts = and_both (is_known options item) _ h in
    (known_choice options item parts.0, known_choices options items parts.1)

accepts_value : (t : Takes) (n m v : Text) → choice_by t n ≡ value m → accepts t (Some v) ≡ true
accepts_value takes.Flag n m v h = absurd (let x : ⊥ = cc in x)
accepts_value (takes.Number least most default) n m v h = refl

accepts_flag : (t : Takes) (n m : Text) → choice_by t n ≡ flag m → accepts t None ≡ true
accepts_flag takes.Flag n m h = refl
accepts_flag (takes.Number least most default) n m h = absurd (let x : ⊥ = cc in x)

choice_known : (options : List OptionRule) (item : Item) → IsOfChoice (choices_of options) item → is_known options item ≡ true
choice_known options (m, Some v) h = step (option_of options m) (sym (chosen_of options m) ∙ h)
  where
    step : (found : Option OptionRule) → option_map choice_for found ≡ Some (value m) → option_map_or (λ o. accepts o.takes (Some v)) found false ≡ true
    step None e = absurd (let x : ⊥ = cc in x)
    step (Some o) e = accepts_value o.takes o.name m v (let same : choice_for o ≡ value m = cc in same)
choice_known options (m, None) h = step (option_of options m) (sym (chosen_of options m) ∙ h)
  where
    step : (found : Option OptionRule) → option_map choice_for found ≡ Some (flag m) → option_map_or (λ o. accepts o.takes None) found false ≡ true
    step None e = absurd (let x : ⊥ = cc in x)
    step (Some o) e = accepts_flag o.takes o.name m (let same : choice_for o ≡ flag m = cc in same)

pub choices_known : (options : List OptionRule) (items : List Item) → AllOfChoices (choices_of options) items → list_all (is_known options) items ≡ true
choices_known options [] all = refl
choices_known options (item ∷ items) all = ap (λ b. b && list_all (is_known options) items) (choice_known options item all.0) ∙ choices_known options items all.1

-- ---- No name twice

abbrev lack : List Item → List Item → Bool
lack before items = list_all (λ item. not (has_name item.0 before)) items

has_more : (n : Text) (before : List Item) (item : Item) → has_name n (before ++ item ∷ []) ≡ (has_name n before || bytes_eq item.0 n)
has_more n [] item = last (bytes_eq item.0 n)
  where
    last : (b : Bool) → (b || false) ≡ b
    last true = refl
    last false = refl
has_more n (x ∷ xs) item = step (bytes_eq x.0 n) (has_more n xs item)
  where
    step : (b : Bool) → has_name n (xs ++ item ∷ []) ≡ (has_name n xs || bytes_eq item.0 n) → (b || has_name n (xs ++ item ∷ [])) ≡ ((b || has_name n xs) || bytes_eq item.0 n)
    step true ih = refl
    step false ih = ih

same_either : (a b : Text) → bytes_eq a b ≡ bytes_eq b a
same_either a b = step (bytes_eq a b) refl (bytes_eq b a) refl
  where
    step : (p : Bool) → bytes_eq a b ≡ p → (q : Bool) → bytes_eq b a ≡ q → p ≡ q
    step true e true f = refl
    step false e false f = refl
    step true e false f = true_no (sym ((bytes_eq-Decides b a).1 (sym ((bytes_eq-Decides a b).0 e))) ∙ f)
    step false e true f = true_no (sym ((bytes_eq-Decides a b).1 (sym ((bytes_eq-Decides b a).0 f))) ∙ e)

lack_more : (before items : List Item) (item : Item) → lack (before ++ item ∷ []) items ≡ (lack before items && not (has_name item.0 items))
lack_more before [] item = refl
lack_more before (x ∷ xs) item =
    ap (λ b. not b && lack (before ++ item ∷ []) xs) (has_more x.0 before item ∙ ap (λ b. has_name x.0 before || b) (same_either item.0 x.0))
    ∙ ap (λ b. not (has_name x.0 before || bytes_eq x.0 item.0) && b) (lack_more before xs item)
    ∙ mix (has_name x.0 before) (bytes_eq x.0 item.0) (lack before xs) (has_name item.0 xs)
  where
    mix : (a b c d : Bool) → (not (a || b) && (c && not d)) ≡ ((not a && c) && not (b || d))
    mix true b c d = refl
    mix false true true d = refl
    mix false true false d = refl
    mix false false c d = refl

once_behind : (before items : List Item) → once_after before items ≡ (are_once items && lack before items)
once_behind before [] = refl
once_behind before (item ∷ items) =
    ap (λ b. not (has_name item.0 before) && b) (once_behind (before ++ item ∷ []) items ∙ ap (λ b. are_once items && b) (lack_more before items item))
    ∙ mix (has_name item.0 before) (are_once items) (lack before items) (has_name item.0 items)
  where
    mix : (a b c d : Bool) → (not a && (b && (c && not d))) ≡ ((not d && b) && (not a && c))
    mix true true c true = refl
    mix true true c false = refl
    mix true false c true = refl
    mix true false c false = refl
    mix false true true true = refl
    mix false true true false = refl
    mix false true false true = refl
    mix false true false false = refl
    mix false false c true = refl
    mix false false c false = refl

pub once_is : (items : List Item) → once_after [] items ≡ are_once items
once_is items = once_behind [] items ∙ ap (λ b. are_once items && b) (all_lack items) ∙ last (are_once items)
  where
    all_lack : (xs : List Item) → lack [] xs ≡ true
    all_lack [] = refl
    all_lack (x ∷ xs) = all_lack xs

    last : (b : Bool) → (b && true) ≡ b
    last true = refl
    last false = refl

-- ---- A table

pub is_table_parts : (options : List OptionRule) → is_table options ≡ true → (are_named options ≡ true) × (list_all (is_need_known options) options ≡ true)
is_table_parts options h =
    let parts = and_both (are_named options) _ h in
    (parts.0, (and_both (list_all (is_need_known options) options) _ parts.1).0)

pub defaults_fit : (options : List OptionRule) → is_table options ≡ true → list_all (λ o. has_default o.takes) options ≡ true
defaults_fit options h = (and_both (list_all (is_need_known options) options) _ (and_both (are_named options) _ h).1).1
