-- The rules that clap builds of a command's choices, and how it finds one.
use Rattle.std.proofs.Common.{◌≡◌, ℕ, Bool, true, false, List, [], ◌∷◌, map, Option, Some, None, refl, codes}
use Rattle.std.specs.Prelude.{◌||◌, if◌then◌else◌, option_map}
use Rattle.std.specs.Str.{bytes_eq}
use Rattle.clap.specs.Walk.{Rule, arg_by_id, arg_by_index, arg_by_long}
use Rattle.clap.specs.Simple.{new_rule}
use Rattle.clap.specs.declared.builder.action.ArgAction.TheVariants.{Set, SetTrue}
use Rattle.clap.specs.declared.builder.value_parser.ValueParser.TheVariants as vp
use Rattle.command_words.specs.Words.{Text}
use Rattle.command_words.specs.Reader.{Choice, value, flag, choice_of}

abbrev pub value_rule : Text → Rule
value_rule name = record (new_rule name) {
  long = Some name;
  action = Some Set;
  range = Some (record { start_inclusive = 1; end_inclusive = 1 });
  parser = Some vp.String;
}

abbrev pub flag_rule : Text → Rule
flag_rule name = record (new_rule name) {
  long = Some name;
  action = Some SetTrue;
  range = Some (record { start_inclusive = 0; end_inclusive = 0 });
  defaults = codes "false" ∷ [];
  missing = codes "true" ∷ [];
  parser = Some vp.Bool;
}

abbrev pub rule_for : Choice → Rule
rule_for (value name) = value_rule name
rule_for (flag name) = flag_rule name

abbrev pub rules_for : List Choice → List Rule
rules_for = map rule_for

found_or : (b : Bool) (c : Choice) (o : Option Choice) (p : Option Rule) → p ≡ option_map rule_for o
    → (if b || false then Some (rule_for c) else p) ≡ option_map rule_for (if b then Some c else o)
found_or true c o p e = refl
found_or false c o p e = e

found : (b : Bool) (c : Choice) (o : Option Choice) (p : Option Rule) → p ≡ option_map rule_for o
    → (if b then Some (rule_for c) else p) ≡ option_map rule_for (if b then Some c else o)
found true c o p e = refl
found false c o p e = e

pub by_long : (cs : List Choice) (n : Text) → arg_by_long (rules_for cs) n ≡ option_map rule_for (choice_of cs n)
by_long [] n = refl
by_long (value m ∷ cs) n = found_or (bytes_eq m n) (value m) (choice_of cs n) _ (by_long cs n)
by_long (flag m ∷ cs) n = found_or (bytes_eq m n) (flag m) (choice_of cs n) _ (by_long cs n)

pub by_id : (cs : List Choice) (n : Text) → arg_by_id (rules_for cs) n ≡ option_map rule_for (choice_of cs n)
by_id [] n = refl
by_id (value m ∷ cs) n = found (bytes_eq m n) (value m) (choice_of cs n) _ (by_id cs n)
by_id (flag m ∷ cs) n = found (bytes_eq m n) (flag m) (choice_of cs n) _ (by_id cs n)

pub by_index : (cs : List Choice) (i : ℕ) → arg_by_index (rules_for cs) i ≡ None
by_index [] i = refl
by_index (value m ∷ cs) i = by_index cs i
by_index (flag m ∷ cs) i = by_index cs i
