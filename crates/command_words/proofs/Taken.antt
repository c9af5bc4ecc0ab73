-- What clap makes of the words of a command is what they spell.
use Rattle.std.proofs.Common.{◌≡◌, ◌⊎◌, inl, inr, ◌↔◌, Bool, true, false, not, List, [], ◌∷◌, map, Option, Some, None, is_some, refl, ap, ◌∙◌, sym, subst}
use Rattle.std.specs.Prelude.{◌&&◌, ◌||◌, if◌then◌else◌, option_map, option_and_then, fold}
use Rattle.std.specs.Prelude.{Result, Ok, Err, IfOk}
use Rattle.std.specs.List.{list_all, list_any}
use Rattle.std.specs.Option.{option_map_or}
use Rattle.std.specs.Borrow.{Bor}
use Rattle.clap.specs.Matches.{found_of}
use Rattle.clap.specs.declared.parser.matches.ArgMatches.{ArgMatches}
use Rattle.clap.proofs.WalkLemmas.{first_value-rows, one_text-rows}
use Rattle.clap.specs.Kinds.{IsAmong, Kinds}
use Rattle.clap.specs.declared.error.kind.ErrorKind.{ErrorKind}
use Rattle.clap.specs.declared.error.kind.ErrorKind.TheVariants.{OutOfMemory}
use Rattle.clap.specs.Walk.{Row, first_of, nothing_held, one_of, rows_after, rows_of, settled, with_default}
use Rattle.clap.specs.Faults.{built_fault}
use Rattle.command_words.specs.declared.options.Takes.{Takes}
use Rattle.command_words.specs.declared.options.Takes.TheVariants as takes
use Rattle.command_words.specs.declared.options.Value.{Value}
use Rattle.command_words.specs.Words.{Text, Item, begins_with_hyphen}
use Rattle.command_words.specs.Options.{OptionRule, are_named, is_known, is_need_known, meets_need, values_in, Gives}
use Rattle.command_words.specs.Reader.{Choice, value, flag, choice_of, choice_by, choices_of, dashed, is_stray, name_in, value_after, and_then, read, read_item, read_word, once_after, if_once, items_of, AgreesBy, AgreesOn, AllAgree}
use Rattle.command_words.proofs.Rules.{rules_for}
use Rattle.command_words.proofs.Turns.{none}
use Rattle.command_words.proofs.Runs.{NoStray, ready, adds, run, run_is_read}
use Rattle.command_words.proofs.Faults.{app_for, end_of, fault_is_run, run_is_walk, start}
use Rattle.command_words.proofs.Found.{AllOfChoices, adds_are_rows, first_of_finished, first_of_items, read_of_choices, rows_for}
use Rattle.command_words.proofs.Flags.{flag_text}
use Rattle.command_words.proofs.Spelled.{read_spells, spells_read}
use Rattle.command_words.proofs.Known.{IsClear, AllChosen, all_names, and_both, known_choice, known_choices, choices_known, once_is}

clash : {P : Type 0} (b : Bool) → b ≡ true → b ≡ false → P
clash true p q = absurd (let x : ⊥ = cc in x)
clash false p q = absurd (let x : ⊥ = cc in x)

if_some : {X : Type 0} (b : Bool) (x y : X) → (if b then Some x else None) ≡ Some y → x ≡ y
if_some true x y e = cc
if_some false x y e = absurd (let z : ⊥ = cc in z)

pub if_ok : {X E : Type 0} (r : Result X E) (P Q : X → Type 0) → ((x : X) → P x → Q x) → IfOk r P → IfOk r Q
if_ok (Ok x) P Q f h = f x h
if_ok (Err e) P Q f h = tt

-- ---- Words that are refused before clap sees them

pub clean_words : (words : List Text) → list_any is_stray words ≡ false → NoStray words
clean_words [] h = tt
clean_words (word ∷ words) h = (first (is_stray word) _ h, clean_words words (second (is_stray word) _ h))
  where
    first : (a b : Bool) → (a || b) ≡ false → a ≡ false
    first false b e = refl
    first true b e = absurd (let x : ⊥ = cc in x)

    second : (a b : Bool) → (a || b) ≡ false → b ≡ false
    second false b e = e
    second true b e = absurd (let x : ⊥ = cc in x)

pub any_stray : (ws : List (Bor Text)) → list_any (λ w. is_stray w.now) ws ≡ list_any is_stray (map (λ w. w.now) ws)
any_stray [] = refl
any_stray (w ∷ ws) = ap (λ b. is_stray w.now || b) (any_stray ws)

in_word : (cs : List Choice) (o : Option Text) (b : Bool) (rest : Option Text → Option (List Item)) → (b && not (is_some o)) ≡ true → read_word cs o rest ≡ None
in_word cs None b rest e = refl
in_word cs (Some t) true rest e = absurd (let x : ⊥ = cc in x)
in_word cs (Some t) false rest e = absurd (let x : ⊥ = cc in x)

in_value : (b c : Bool) (o : Option (List Item)) → (b && c) ≡ true → (if b then None else o) ≡ None
in_value true c o e = refl
in_value false c o e = absurd (let x : ⊥ = cc in x)

later : (o : Option Choice) (v : Option Text) (rest : Option Text → Option (List Item)) → ((w : Option Text) → rest w ≡ None) → read_item o v rest ≡ None
later None v rest e = refl
later (Some (value m)) None rest e = e (Some m)
later (Some (value m)) (Some v) rest e = ap (option_map (λ items. (m, Some v) ∷ items)) (e None)
later (Some (flag m)) None rest e = ap (option_map (λ items. (m, None) ∷ items)) (e None)
later (Some (flag m)) (Some v) rest e = refl

later_word : (cs : List Choice) (o : Option Text) (rest : Option Text → Option (List Item)) → ((w : Option Text) → rest w ≡ None) → read_word cs o rest ≡ None
later_word cs None rest e = refl
later_word cs (Some t) rest e = later (choice_of cs (name_in t)) (value_after t) rest e

later_value : (b : Bool) (m w : Text) (o : Option (List Item)) → o ≡ None → (if b then None else option_map (λ items. (m, Some w) ∷ items) o) ≡ None
later_value true m w o e = refl
later_value false m w o e = rw e refl

here_or : {P : Type 0} (a b : Bool) → (a || b) ≡ true → (a ≡ true → P) → (b ≡ true → P) → P
here_or true b e f g = f refl
here_or false b e f g = g e

stray_read : (cs : List Choice) (words : List Text) → list_any is_stray words ≡ true → (waiting : Option Text) → read cs waiting words ≡ None
unfolding read
stray_read cs [] h waiting = absurd (let x : ⊥ = cc in x)
stray_read cs (word ∷ words) h None = here_or (is_stray word) _ h (λ e. in_word cs (dashed word) (begins_with_hyphen word) (λ w. read cs w words) e)
    (λ e. later_word cs (dashed word) (λ w. read cs w words) (stray_read cs words e))
stray_read cs (word ∷ words) h (Some m) = here_or (is_stray word) _ h (λ e. in_value (begins_with_hyphen word) (not (is_some (dashed word))) (and_then (m, Some word) (read cs None words)) e)
    (λ e. later_value (begins_with_hyphen word) m word (read cs None words) (stray_read cs words e None))

pub stray_items : (cs : List Choice) (words : List Text) → list_any is_stray words ≡ true → items_of cs words ≡ None
stray_items cs words h = ap (option_and_then if_once) (stray_read cs words h None)

-- ---- Clap takes the words exactly where they are items

abbrev rows_of_read : Option (List Item) → Option (List Row)
rows_of_read o = option_and_then (adds []) o

run_of_read : (name : Text) (cs : List Choice) (words : List Text) → NoStray words → run name cs start words ≡ rows_of_read (read cs None words)
run_of_read name cs words clean = run_is_read name cs words clean (ready None) [] tt

fault_of_read : (name : Text) (cs : List Choice) (words : List Text) → NoStray words → none (built_fault (app_for name cs) nothing_held words) ≡ is_some (rows_of_read (read cs None words))
fault_of_read name cs words clean = fault_is_run name cs words ∙ ap is_some (run_of_read name cs words clean)

same_none : (o : Option (List Item)) → is_some (rows_of_read o) ≡ is_some (option_and_then if_once o)
same_none None = refl
same_none (Some items) = ap is_some (adds_are_rows [] items) ∙ go (once_after [] items)
  where
    go : (b : Bool) → is_some (if b then Some (rows_for items) else None) ≡ is_some (if b then Some items else None)
    go true = refl
    go false = refl

refuses : (name : Text) (cs : List Choice) (words : List Text) → NoStray words → none (built_fault (app_for name cs) nothing_held words) ≡ is_some (items_of cs words)
refuses name cs words clean = fault_of_read name cs words clean ∙ same_none (read cs None words)

-- what clap has where it takes the words
pub record IsTaken (cs : List Choice) (words : List Text) : Type 0 where
  pub items : List Item
  pub read_as : items_of cs words ≡ Some items
  pub rows : rows_after (rules_for cs) [] words ≡ fold with_default (rows_for items) (rules_for cs)
  pub choices : AllOfChoices cs items

pub takes_them : (name : Text) (cs : List Choice) (words : List Text) → NoStray words → built_fault (app_for name cs) nothing_held words ≡ [] → IsTaken cs words
takes_them name cs words clean free = by_read (read cs None words) refl
  where
    passed : is_some (rows_of_read (read cs None words)) ≡ true
    passed = sym (fault_of_read name cs words clean) ∙ ap none free

    walked_rows : (rows : List Row) → run name cs start words ≡ Some rows → (settled (rules_for cs) (end_of cs start words)).rows ≡ rows
    walked_rows rows e = if_some _ _ _ (sym (run_is_walk name cs start words) ∙ e)

    by_once : (items : List Item) → read cs None words ≡ Some items → (b : Bool) → once_after [] items ≡ b → IsTaken cs words
    by_once items e true once = record {
      items = items;
      read_as = ap (option_and_then if_once) e ∙ ap (λ b. if b then Some items else None) once;
      rows = ap (λ rs. fold with_default rs (rules_for cs))
          (walked_rows (rows_for items) (run_of_read name cs words clean ∙ ap rows_of_read e ∙ adds_are_rows [] items ∙ ap (λ b. if b then Some (rows_for items) else None) once));
      choices = read_of_choices cs words None tt items e;
    }
    by_once items e false once =
        clash _ passed (ap (λ o. is_some (rows_of_read o)) e ∙ ap is_some (adds_are_rows [] items ∙ ap (λ b. if b then Some (rows_for items) else None) once))

    by_read : (o : Option (List Item)) → read cs None words ≡ o → IsTaken cs words
    by_read None e = clash _ passed (ap (λ o. is_some (rows_of_read o)) e)
    by_read (Some items) e = by_once items e (once_after [] items) refl

-- a refusal of clap's for another cause than memory
refused_items : (name : Text) (cs : List Choice) (words : List Text) → NoStray words → none (built_fault (app_for name cs) nothing_held words) ≡ false → items_of cs words ≡ None
refused_items name cs words clean h = go (items_of cs words) (sym (refuses name cs words clean) ∙ h)
  where
    go : (o : Option (List Item)) → is_some o ≡ false → o ≡ None
    go None e = refl
    go (Some items) e = absurd (let x : ⊥ = cc in x)

among_is_some : (k : ErrorKind) (ks : Kinds) → IsAmong k ks → none ks ≡ false
among_is_some k [] h = absurd h
among_is_some k (x ∷ xs) h = refl

pub refused_by_kind : (name : Text) (cs : List Choice) (words : List Text) → NoStray words → (k : ErrorKind)
    → (k ≡ OutOfMemory) ⊎ IsAmong k (built_fault (app_for name cs) nothing_held words) → (k ≡ OutOfMemory → ⊥) → items_of cs words ≡ None
refused_by_kind name cs words clean k (inl e) other = absurd (other e)
refused_by_kind name cs words clean k (inr h) other = refused_items name cs words clean (among_is_some k _ h)

-- ---- Clap's matches have what the items have

agrees_by : (cs : List Choice) (m : ArgMatches) (items : List Item) (t : Takes) (n : Text) → choice_of cs n ≡ Some (choice_by t n) → IsClear cs t n
    → AllOfChoices cs items → rows_of (found_of m) ≡ fold with_default (rows_for items) (rules_for cs) → AgreesBy t n m items
agrees_by cs m items takes.Flag n known clear all rows = one_text-rows (found_of m) n ∙ ap (one_of n) rows ∙ flag_text cs n items known all
agrees_by cs m items (takes.Number least most default) n known clear all rows =
    first_value-rows (found_of m) n ∙ ap (first_of n) rows ∙ first_of_finished cs n (rows_for items) clear ∙ first_of_items cs n items known all

agrees_on : (options : List OptionRule) (m : ArgMatches) (items : List Item) (needs : Option Text) → option_map_or (λ name. is_known options (name, None)) needs true ≡ true
    → AllOfChoices (choices_of options) items → rows_of (found_of m) ≡ fold with_default (rows_for items) (rules_for (choices_of options)) → AgreesOn needs m items
agrees_on options m items None known all rows = tt
agrees_on options m items (Some name) known all rows =
    agrees_by (choices_of options) m items takes.Flag name (known_choice options (name, None) known) tt all rows

module _ (options : List OptionRule) (m : ArgMatches) (items : List Item) (all : AllOfChoices (choices_of options) items)
    (rows : rows_of (found_of m) ≡ fold with_default (rows_for items) (rules_for (choices_of options))) where
  pub all_agree : (os : List OptionRule) → AllChosen (choices_of options) os → list_all (is_need_known options) os ≡ true → AllAgree m items os
  all_agree [] chosen needs = tt
  all_agree (o ∷ os) chosen needs =
      let parts = and_both (is_need_known options o) _ needs in (
        λ b. (
          agrees_by (choices_of options) m items o.takes o.name (chosen.0 b).0 (chosen.0 b).1 all rows,
          agrees_on options m items o.needs (sym (ap (λ p. if p then option_map_or (λ name. is_known options (name, None)) o.needs true else true) b) ∙ parts.0) all rows,
        ),
        all_agree os chosen.1 parts.1,
      )

-- ---- The answer

-- the words are those of items that are read
given_items : (options : List OptionRule) (words : List Text) (values : List Value) → are_named options ≡ true → (g : Gives options words values) → items_of (choices_of options) words ≡ Some g.items
given_items options words values named g =
    ap (option_and_then if_once) (spells_read (choices_of options) g.items words (all_names options named) (known_choices options g.items g.known) g.spelled)
    ∙ ap (λ b. if b then Some g.items else None) (once_is g.items ∙ g.once)

no_some : {X P : Type 0} (x : X) → None ≡ Some x → P
no_some x h = absurd (let y : ⊥ = cc in y)

some_is : {X : Type 0} (x y : X) → Some x ≡ Some y → x ≡ y
some_is x y h = cc

pub nothing_given : (options : List OptionRule) (words : List Text) → are_named options ≡ true → items_of (choices_of options) words ≡ None
    → (values : List Value) → (None ≡ Some values) ↔ Gives options words values
nothing_given options words named e values = (λ h. no_some values h, λ g. no_some g.items (sym e ∙ given_items options words values named g))

items_read : (cs : List Choice) (words : List Text) (items : List Item) → items_of cs words ≡ Some items → (read cs None words ≡ Some items) × (once_after [] items ≡ true)
items_read cs words items e = by_read (read cs None words) refl e
  where
    by_once : (o : List Item) → read cs None words ≡ Some o → (b : Bool) → once_after [] o ≡ b → (if b then Some o else None) ≡ Some items → (read cs None words ≡ Some items) × (once_after [] items ≡ true)
    by_once o r true once h = let same : o ≡ items = some_is o items h in (r ∙ ap Some same, subst (λ l. once_after [] l ≡ true) same once)
    by_once o r false once h = no_some items h

    by_read : (o : Option (List Item)) → read cs None words ≡ o → option_and_then if_once o ≡ Some items → (read cs None words ≡ Some items) × (once_after [] items ≡ true)
    by_read None r h = no_some items h
    by_read (Some o) r h = by_once o r (once_after [] o) refl h

module _ (options : List OptionRule) (words : List Text) (items : List Item) (named : are_named options ≡ true) (e : items_of (choices_of options) words ≡ Some items) where
  facts : (read (choices_of options) None words ≡ Some items) × (once_after [] items ≡ true)
  facts = items_read (choices_of options) words items e

  same_items : (values : List Value) → (g : Gives options words values) → g.items ≡ items
  same_items values g = some_is g.items items (sym (given_items options words values named g) ∙ e)

  -- where a need isn't met, nothing is given
  pub unmet_given : (r : Bool) → r ≡ list_all (meets_need items) options → r ≡ false → (values : List Value) → (None ≡ Some values) ↔ Gives options words values
  unmet_given r is h values = (
    λ n. no_some values n,
    λ g. clash (list_all (meets_need items) options) (ap (λ l. list_all (meets_need l) options) (sym (same_items values g)) ∙ g.needed) (sym is ∙ h),
  )

  pub values_given : (found : Option (List Value)) (r : Bool) → r ≡ list_all (meets_need items) options → r ≡ true → found ≡ values_in items options
      → (values : List Value) → (found ≡ Some values) ↔ Gives options words values
  values_given found r is h valued values = (forth, back)
    where
      forth : found ≡ Some values → Gives options words values
      forth k = record {
        items = items;
        spelled = read_spells (choices_of options) words None items facts.0;
        known = choices_known options items (read_of_choices (choices_of options) words None tt items facts.0);
        once = sym (once_is items) ∙ facts.1;
        needed = sym is ∙ h;
        valued = sym valued ∙ k;
      }

      back : Gives options words values → found ≡ Some values
      back g = valued ∙ ap (λ l. values_in l options) (sym (same_items values g)) ∙ g.valued
