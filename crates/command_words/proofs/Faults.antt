-- What clap answers for a command that has only options and flags, by its walk.
use Rattle.std.proofs.Common.{◌≡◌, Bool, true, false, not, List, [], ◌∷◌, Option, Some, None, is_some, refl, ap, ◌∙◌, sym}
use Rattle.std.specs.Prelude.{◌&&◌, ◌||◌, if◌then◌else◌, fold}
use Rattle.std.specs.List.{list_any}
use Rattle.clap.specs.Kinds.{Kinds, or_else}
use Rattle.clap.specs.Walk.{Held, Row, Walk, has_row, idle, nothing_held, settled, walk, walked, with_default}
use Rattle.clap.specs.Simple.{App, entered}
use Rattle.clap.specs.Takes.{is_given}
use Rattle.clap.specs.Faults.{built_fault, check_fault, defaults_fault, entered_fault, settle_fault, turn_fault, walk_fault}
use Rattle.command_words.specs.Words.{Text}
use Rattle.command_words.specs.Reader.{Choice, value, flag}
use Rattle.command_words.proofs.Rules.{flag_rule, rules_for}
use Rattle.command_words.proofs.Turns.{shape_for, at, none}
use Rattle.command_words.proofs.Runs.{run}

abbrev pub app_for : Text → List Choice → App
app_for name cs = record { top = shape_for name cs; subs = [] }

abbrev pub end_of : List Choice → Walk → List Text → Held
end_of cs w words = (fold (walked (rules_for cs) []) w words).held

none_or_else : (a b : Kinds) → none (or_else a b) ≡ (none a && none b)
none_or_else [] b = refl
none_or_else (k ∷ ks) b = refl

-- the run is the walk, where no turn and no last step fails
pub run_is_walk : (name : Text) (cs : List Choice) (w : Walk) (words : List Text)
    → run name cs w words ≡ (if none (or_else (walk_fault (shape_for name cs) [] w words) (settle_fault (rules_for cs) false (end_of cs w words)))
    then Some (settled (rules_for cs) (end_of cs w words)).rows else None)
unfolding run walk_fault
run_is_walk name cs w [] = refl
run_is_walk name cs w (word ∷ words) = go (turn_fault (shape_for name cs) [] w word) (run_is_walk name cs (walked (rules_for cs) [] w word) words)
  where
    go : (t : Kinds)
        → (run name cs (walked (rules_for cs) [] w word) words
        ≡ (if none (or_else (walk_fault (shape_for name cs) [] (walked (rules_for cs) [] w word) words) (settle_fault (rules_for cs) false (end_of cs (walked (rules_for cs) [] w word) words)))
        then Some (settled (rules_for cs) (end_of cs (walked (rules_for cs) [] w word) words)).rows else None))
        → (if none t then run name cs (walked (rules_for cs) [] w word) words else None)
        ≡ (if none (or_else (or_else t (walk_fault (shape_for name cs) [] (walked (rules_for cs) [] w word) words)) (settle_fault (rules_for cs) false (end_of cs (walked (rules_for cs) [] w word) words)))
        then Some (settled (rules_for cs) (end_of cs (walked (rules_for cs) [] w word) words)).rows else None)
    go [] ih = ih
    go (k ∷ ks) ih = refl

defaults_pass : (cs : List Choice) (rows : List Row) → defaults_fault rows (rules_for cs) ≡ []
unfolding defaults_fault
defaults_pass [] rows = refl
defaults_pass (value m ∷ cs) rows = rw (no_default (has_row m rows)) (defaults_pass cs _)
  where
    no_default : (b : Bool) → (b || true) ≡ true
    no_default true = refl
    no_default false = refl
defaults_pass (flag m ∷ cs) rows = go (has_row m rows) (defaults_pass cs _)
  where
    go : (b : Bool) → defaults_fault (with_default rows (flag_rule m)) (rules_for cs) ≡ []
        → or_else (if b || false then [] else []) (defaults_fault (with_default rows (flag_rule m)) (rules_for cs)) ≡ []
    go true ih = ih
    go false ih = ih

none_required : (cs : List Choice) (rows : List Row) → list_any (λ a. a.required && not (is_given a.id rows)) (rules_for cs) ≡ false
none_required [] rows = refl
none_required (value m ∷ cs) rows = none_required cs rows
none_required (flag m ∷ cs) rows = none_required cs rows

check_passes : (name : Text) (cs : List Choice) (rows : List Row) → check_fault (shape_for name cs) rows false ≡ []
check_passes name cs rows = rw (none_required cs rows) refl

no_sub : (name : Text) (cs : List Choice) (stop : Option (Text × List Text)) → entered (app_for name cs) stop ≡ None
no_sub name cs None = refl
no_sub name cs (Some p) = refl

no_sub_fault : (name : Text) (cs : List Choice) (stop : Option (Text × List Text)) → entered_fault (app_for name cs) stop ≡ []
no_sub_fault name cs None = refl
no_sub_fault name cs (Some p) = refl

tail_none : (a b : Kinds) (d c : Kinds) → d ≡ [] → c ≡ [] → none (or_else a (or_else [] (or_else b (or_else d c)))) ≡ none (or_else a b)
tail_none a b d c e f = rw (e, f) (go a b)
  where
    go : (x y : Kinds) → none (or_else x (or_else y [])) ≡ none (or_else x y)
    go [] [] = refl
    go [] (k ∷ ks) = refl
    go (k ∷ ks) y = refl

abbrev pub start : Walk
start = at [] None idle

pub fault_is_run : (name : Text) (cs : List Choice) (words : List Text) → none (built_fault (app_for name cs) nothing_held words) ≡ is_some (run name cs start words)
fault_is_run name cs words =
    rw (no_sub name cs (walk (rules_for cs) [] nothing_held words).stopped, no_sub_fault name cs (walk (rules_for cs) [] nothing_held words).stopped)
    (tail_none _ _ _ _ (defaults_pass cs _) (check_passes name cs _))
    ∙ some_if _ _ ∙ ap is_some (sym (run_is_walk name cs start words))
  where
    some_if : (b : Bool) (rows : List Row) → b ≡ is_some (if b then Some rows else None)
    some_if true rows = refl
    some_if false rows = refl
