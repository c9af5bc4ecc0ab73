-- What clap builds of a command that has only options and flags.
use Rattle.std.proofs.Common.{◌≡◌, ℕ, Bool, true, false, List, [], ◌∷◌, map, refl, ap}
use Rattle.std.specs.Prelude.{◌&&◌, not}
use Rattle.std.specs.List.{list_all, list_any}
use Rattle.clap.specs.Walk.{Rule, is_early_multiple, nothing_held, rows_after}
use Rattle.clap.specs.Simple.{App, new_shape, built, filled_from, is_simple, matches_of, names_of}
use Rattle.clap.specs.Faults.{built_fault, fault_of, is_simple_and_free}
use Rattle.command_words.specs.Words.{Text}
use Rattle.command_words.specs.Reader.{Choice, value, flag, app_with, rule_of_choice}
use Rattle.command_words.proofs.Rules.{value_rule, flag_rule, rules_for}
use Rattle.command_words.proofs.Faults.{app_for}

filled_rules : (cs : List Choice) (i : ℕ) → filled_from i (map rule_of_choice cs) ≡ rules_for cs
filled_rules [] i = refl
filled_rules (value m ∷ cs) i = ap (λ l. value_rule m ∷ l) (filled_rules cs i)
filled_rules (flag m ∷ cs) i = ap (λ l. flag_rule m ∷ l) (filled_rules cs i)

abbrev app_of_rules : Text → List Rule → App
app_of_rules name rules = record {
  top = record (new_shape name) {
    rules = rules;
    no_binary_name = true;
    disable_help_flag = true;
    disable_version_flag = true;
    disable_help_subcommand = true;
    is_built = true;
  };
  subs = [];
}

pub built_app : (name : Text) (cs : List Choice) → built (app_with name cs) ≡ app_for name cs
built_app name cs = ap (app_of_rules name) (filled_rules cs 1)

simple_told : (cs : List Choice) → list_all (λ (a : Rule). a.is_simple) (map rule_of_choice cs) ≡ true
simple_told [] = refl
simple_told (value m ∷ cs) = simple_told cs
simple_told (flag m ∷ cs) = simple_told cs

simple_rules : (cs : List Choice) → list_all (λ (a : Rule). a.is_simple) (rules_for cs) ≡ true
simple_rules [] = refl
simple_rules (value m ∷ cs) = simple_rules cs
simple_rules (flag m ∷ cs) = simple_rules cs

free_rules : (cs : List Choice) → list_all (λ (a : Rule). a.is_free) (rules_for cs) ≡ true
free_rules [] = refl
free_rules (value m ∷ cs) = free_rules cs
free_rules (flag m ∷ cs) = free_rules cs

none_early : (n : ℕ) (cs : List Choice) → list_any (is_early_multiple n) (rules_for cs) ≡ false
none_early n [] = refl
none_early n (value m ∷ cs) = none_early n cs
none_early n (flag m ∷ cs) = none_early n cs

all_pass : (a b c d : Bool) → a ≡ true → b ≡ true → c ≡ false → d ≡ true → (((a && true) && ((b && not c) && true)) && (d && true)) ≡ true
all_pass a b c d e f g h = rw (e, f, g, h) refl

three_pass : (a b c : Bool) → a ≡ true → b ≡ true → c ≡ false → ((a && true) && ((b && not c) && true)) ≡ true
three_pass a b c e f g = rw (e, f, g) refl

pub app_is_free : (name : Text) (cs : List Choice) → is_simple_and_free (app_with name cs) ≡ true
app_is_free name cs = rw (filled_rules cs 1) (all_pass _ _ _ _ (simple_told cs) (simple_rules cs) (none_early _ cs) (free_rules cs))

pub app_is_simple : (name : Text) (cs : List Choice) → is_simple (app_with name cs) ≡ true
app_is_simple name cs = rw (filled_rules cs 1) (three_pass _ _ _ (simple_told cs) (simple_rules cs) (none_early _ cs))

pub matches_built : (name : Text) (cs : List Choice) (words : List Text) → matches_of (app_with name cs) words ≡ rows_after (rules_for cs) [] words
matches_built name cs words = ap (λ (a : App). rows_after a.top.rules (names_of a) words) (built_app name cs)

pub fault_built : (name : Text) (cs : List Choice) (words : List Text) → fault_of (app_with name cs) words ≡ built_fault (app_for name cs) nothing_held words
fault_built name cs words = ap (λ (a : App). built_fault a nothing_held words) (built_app name cs)
