-- One turn of clap's walk over the words of a command that has only options and flags with long names.
use Rattle.std.proofs.Common.{◌≡◌, Bool, true, false, not, List, [], ◌∷◌, Option, Some, None, refl}
use Rattle.std.specs.Prelude.{◌&&◌, if◌then◌else◌, option_map}
use Rattle.std.specs.Str.{bytes_eq}
use Rattle.clap.specs.Lexer.{long_of}
use Rattle.clap.specs.Kinds.{Kinds, or_else}
use Rattle.clap.specs.Walk.{Held, Row, Waiting, Walk, idle, option, arg_by_id, arg_by_long, has_row, settled, used, walked}
use Rattle.clap.specs.Simple.{Shape, new_shape}
use Rattle.clap.specs.Faults.{settle_fault, turn_fault, use_fault}
use Rattle.clap.specs.declared.error.kind.ErrorKind.TheVariants as kind
use Rattle.command_words.specs.Words.{Text}
use Rattle.command_words.specs.Reader.{Choice, value, flag}
use Rattle.command_words.proofs.Rules.{value_rule, flag_rule, rule_for, rules_for, by_index}
use Rattle.command_words.proofs.Dashes.{IsPlainWord}

abbrev pub shape_for : Text → List Choice → Shape
shape_for name cs = record (new_shape name) {
  rules = rules_for cs;
  no_binary_name = true;
  disable_help_flag = true;
  disable_version_flag = true;
  disable_help_subcommand = true;
  is_built = true;
}

abbrev pub holding : List Row → Option (Text × List Text) → Held
holding rows p = record { rows = rows; pending = p; skip = 0 }

abbrev pub at : List Row → Option (Text × List Text) → Waiting → Walk
at rows p waiting = record { held = holding rows p; waiting = waiting; position = 1; is_trailing = false; stopped = None }

abbrev pub none : Kinds → Bool
none [] = true
none (k ∷ ks) = false

both : (a b : Kinds) (x : Bool) → none b ≡ x → none (or_else (or_else a b) []) ≡ (none a && x)
both [] [] x e = e
both [] (k ∷ ks) x e = e
both (k ∷ ks) b x e = refl

alone : (a : Kinds) → none (or_else a []) ≡ none a
alone [] = refl
alone (k ∷ ks) = refl

repeated : (b : Bool) → none (or_else (if b && not false then kind.ArgumentConflict ∷ [] else []) []) ≡ not b
repeated true = refl
repeated false = refl

pub value_use : (m v : Text) (rows : List Row) → none (use_fault false (value_rule m) (v ∷ []) rows) ≡ not (has_row m rows)
value_use m v rows = repeated (has_row m rows)

pub flag_use : (m : Text) (rows : List Row) → none (use_fault false (flag_rule m) [] rows) ≡ not (has_row m rows)
flag_use m rows = repeated (has_row m rows)

-- what a word that begins an item comes to, from what was held before it
abbrev pub passes : List Choice → Held → Option Choice → Option Text → Bool
passes cs h None v = false
passes cs h (Some (value m)) None = none (settle_fault (rules_for cs) false h)
passes cs h (Some (value m)) (Some v) = none (settle_fault (rules_for cs) false h) && not (has_row m (settled (rules_for cs) h).rows)
passes cs h (Some (flag m)) None = none (settle_fault (rules_for cs) false h) && not (has_row m (settled (rules_for cs) h).rows)
passes cs h (Some (flag m)) (Some v) = false

pub dashed_turn : (name : Text) (cs : List Choice) (rows : List Row) (p : Option (Text × List Text)) (word n : Text) (v : Option Text) (found : Option Choice)
    → bytes_eq word (45 ∷ 45 ∷ []) ≡ false → long_of word ≡ Some (n, v) → arg_by_long (rules_for cs) n ≡ option_map rule_for found
    → none (turn_fault (shape_for name cs) [] (at rows p idle) word) ≡ passes cs (holding rows p) found v
dashed_turn name cs rows p word n v None e1 e2 e3 = rw (e1, e2, e3) refl
dashed_turn name cs rows p word n None (Some (value m)) e1 e2 e3 = rw (e1, e2, e3) (alone _)
dashed_turn name cs rows p word n (Some v) (Some (value m)) e1 e2 e3 = rw (e1, e2, e3) (both _ _ _ (value_use m v _))
dashed_turn name cs rows p word n None (Some (flag m)) e1 e2 e3 = rw (e1, e2, e3) (both _ _ _ (flag_use m _))
dashed_turn name cs rows p word n (Some v) (Some (flag m)) e1 e2 e3 = rw (e1, e2, e3) refl

pub plain_turn : (name : Text) (cs : List Choice) (rows : List Row) (p : Option (Text × List Text)) (word : Text)
    → IsPlainWord word → none (turn_fault (shape_for name cs) [] (at rows p idle) word) ≡ false
plain_turn name cs rows p word plain = rw (plain.no_end, plain.long, plain.short, by_index cs 1) refl

-- an option that waits for its value gets none
pub missing_turn : (name : Text) (cs : List Choice) (rows : List Row) (m word n : Text) (v : Option Text) (found : Option Choice)
    → bytes_eq word (45 ∷ 45 ∷ []) ≡ false → long_of word ≡ Some (n, v) → arg_by_long (rules_for cs) n ≡ option_map rule_for found
    → arg_by_id (rules_for cs) m ≡ Some (value_rule m)
    → none (turn_fault (shape_for name cs) [] (at rows (Some (m, [])) (option m)) word) ≡ false
missing_turn name cs rows m word n v None e1 e2 e3 known = rw (e1, e2, e3) refl
missing_turn name cs rows m word n None (Some (value k)) e1 e2 e3 known = rw (e1, e2, e3, known) refl
missing_turn name cs rows m word n (Some v) (Some (value k)) e1 e2 e3 known = rw (e1, e2, e3, known) refl
missing_turn name cs rows m word n None (Some (flag k)) e1 e2 e3 known = rw (e1, e2, e3, known) refl
missing_turn name cs rows m word n (Some v) (Some (flag k)) e1 e2 e3 known = rw (e1, e2, e3) refl

pub value_turn : (name : Text) (cs : List Choice) (rows : List Row) (m word : Text)
    → IsPlainWord word → none (turn_fault (shape_for name cs) [] (at rows (Some (m, [])) (option m)) word) ≡ true
value_turn name cs rows m word plain = rw (plain.no_end, plain.long, plain.short) refl

-- ---- the walk after the word

pub walked_value : (cs : List Choice) (rows : List Row) (p : Option (Text × List Text)) (word n m v : Text)
    → bytes_eq word (45 ∷ 45 ∷ []) ≡ false → long_of word ≡ Some (n, Some v) → arg_by_long (rules_for cs) n ≡ Some (value_rule m)
    → walked (rules_for cs) [] (at rows p idle) word ≡ at (used (value_rule m) (v ∷ []) (settled (rules_for cs) (holding rows p)).rows) None idle
unfolding walked
walked_value cs rows p word n m v e1 e2 e3 = rw (e1, e2, e3) refl

pub walked_option : (cs : List Choice) (rows : List Row) (p : Option (Text × List Text)) (word n m : Text)
    → bytes_eq word (45 ∷ 45 ∷ []) ≡ false → long_of word ≡ Some (n, None) → arg_by_long (rules_for cs) n ≡ Some (value_rule m)
    → walked (rules_for cs) [] (at rows p idle) word ≡ at (settled (rules_for cs) (holding rows p)).rows (Some (m, [])) (option m)
unfolding walked
walked_option cs rows p word n m e1 e2 e3 = rw (e1, e2, e3) refl

pub walked_flag : (cs : List Choice) (rows : List Row) (p : Option (Text × List Text)) (word n m : Text)
    → bytes_eq word (45 ∷ 45 ∷ []) ≡ false → long_of word ≡ Some (n, None) → arg_by_long (rules_for cs) n ≡ Some (flag_rule m)
    → walked (rules_for cs) [] (at rows p idle) word ≡ at (used (flag_rule m) [] (settled (rules_for cs) (holding rows p)).rows) None idle
unfolding walked
walked_flag cs rows p word n m e1 e2 e3 = rw (e1, e2, e3) refl

pub walked_given : (cs : List Choice) (rows : List Row) (m word : Text)
    → IsPlainWord word → arg_by_id (rules_for cs) m ≡ Some (value_rule m) → bytes_eq m m ≡ true
    → walked (rules_for cs) [] (at rows (Some (m, [])) (option m)) word ≡ at rows (Some (m, word ∷ [])) idle
unfolding walked
walked_given cs rows m word plain known same = rw (plain.no_end, plain.long, plain.short, known, same) refl
