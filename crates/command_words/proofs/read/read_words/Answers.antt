use Rattle.std.proofs.Common.{◌≡◌, ◌∙◌, List, [], sym, ap, subst, map, option_map}
use Rattle.std.specs.Prelude.{◌↔◌, Some}
use Rattle.clap.specs.Words.{HasKind, found_of, kind_of, rows_of, matches_of}
use Rattle.clap.specs.Walk.{rows_after, nothing_held}
use Rattle.clap.specs.Faults.{built_fault, fault_of, is_simple_and_free}
use Rattle.clap.specs.Simple.{is_simple}
use Rattle.command_words.specs.declared.options.Value.{Value}
use Rattle.command_words.specs.Words.{Text, Item}
use Rattle.command_words.specs.Options.{rules_of, values_in, Gives}
use Rattle.command_words.specs.Reader.{choices_of, AllAgree}
use Rattle.command_words.proofs.Rules.{rules_for}
use Rattle.command_words.proofs.Runs.{NoStray}
use Rattle.command_words.proofs.Faults.{app_for}
use Rattle.command_words.proofs.Built.{app_is_free, app_is_simple, matches_built, fault_built}
use Rattle.command_words.proofs.Known.{all_chosen, is_table_parts}
use Rattle.command_words.proofs.Taken.{if_ok, IsTaken, any_stray, clean_words, stray_items, takes_them, refused_by_kind, all_agree, nothing_given, unmet_given, values_given}
use Rattle.command_words.proofs.read.read_words.Goals as goal

pub returns-then-has_stray : goal.returns-then-has_stray
returns-then-has_stray c =
    let words : List Text = map (λ w. w.now) c.args.words.now in
    nothing_given (rules_of c.args.options.now) words (is_table_parts (rules_of c.args.options.now) c.requires).0
    (stray_items (choices_of (rules_of c.args.options.now)) words (sym (any_stray c.args.words.now) ∙ sym c.has_stray.ensures ∙ c.if-has_stray.true))

pub returns-then-not-all_meet_needs : goal.returns-then-not-all_meet_needs
returns-then-not-all_meet_needs c =
    let words : List Text = map (λ w. w.now) c.args.words.now in
    let options = rules_of c.args.options.now in
    let name = c.args.name.now in
    let cs = choices_of options in
    let table = is_table_parts options c.requires in
    let clean : NoStray words = clean_words words (sym (any_stray c.args.words.now) ∙ sym c.has_stray.ensures ∙ c.if-has_stray.false) in
    let app = c.in_ok-command.ensures in
    let free : built_fault (app_for name cs) nothing_held words ≡ [] = sym (fault_built name cs words) ∙ sym (ap (λ a. fault_of a words) app) ∙ c.in-Ok.ensures.kinds (ap is_simple_and_free app ∙ app_is_free name cs) in
    let t : IsTaken cs words = takes_them name cs words clean free in
    let rows : rows_of (found_of c.in-Ok.matches) ≡ rows_after (rules_for cs) [] words = (c.in-Ok.ensures.matches (ap is_simple app ∙ app_is_simple name cs)).0 ∙ ap (λ a. matches_of a words) app ∙ matches_built name cs words in
    let agree = all_agree options c.in-Ok.matches t.items t.choices (rows ∙ t.rows) options (all_chosen options table.0) table.1 in
    unmet_given options words t.items table.0 t.read_as c.all_meet_needs.result (c.all_meet_needs.ensures t.items agree) c.if-not-all_meet_needs.true

pub returns-in-Ok : goal.returns-in-Ok
returns-in-Ok c =
    let words : List Text = map (λ w. w.now) c.args.words.now in
    let options = rules_of c.args.options.now in
    let name = c.args.name.now in
    let cs = choices_of options in
    let table = is_table_parts options c.requires in
    let clean : NoStray words = clean_words words (sym (any_stray c.args.words.now) ∙ sym c.has_stray.ensures ∙ c.if-has_stray.false) in
    let app = c.in_ok-command.ensures in
    let free : built_fault (app_for name cs) nothing_held words ≡ [] = sym (fault_built name cs words) ∙ sym (ap (λ a. fault_of a words) app) ∙ c.in-Ok.ensures.kinds (ap is_simple_and_free app ∙ app_is_free name cs) in
    let t : IsTaken cs words = takes_them name cs words clean free in
    let rows : rows_of (found_of c.in-Ok.matches) ≡ rows_after (rules_for cs) [] words = (c.in-Ok.ensures.matches (ap is_simple app ∙ app_is_simple name cs)).0 ∙ ap (λ a. matches_of a words) app ∙ matches_built name cs words in
    let agree = all_agree options c.in-Ok.matches t.items t.choices (rows ∙ t.rows) options (all_chosen options table.0) table.1 in
    if_ok c.values_of.result
    (λ found. (items : List Item) → AllAgree c.in-Ok.matches items options → option_map (λ values. values.items) found ≡ values_in items options)
    (λ found. (values : List Value) → (option_map (λ given. given.items) found ≡ Some values) ↔ Gives options words values)
    (λ found tell. values_given options words t.items table.0 t.read_as (option_map (λ given. given.items) found)
    c.all_meet_needs.result (c.all_meet_needs.ensures t.items agree) c.if-not-all_meet_needs.false (tell t.items agree))
    c.values_of.ensures

pub returns : goal.returns
returns c =
    let words : List Text = map (λ w. w.now) c.args.words.now in
    let cs = choices_of (rules_of c.args.options.now) in
    let clean : NoStray words = clean_words words (sym (any_stray c.args.words.now) ∙ sym c.has_stray.ensures ∙ c.if-has_stray.false) in
    let app = c.in_ok-command.ensures in
    let kinds = c.in-Err.ensures.kinds (ap is_simple_and_free app ∙ app_is_free c.args.name.now cs) in
    nothing_given (rules_of c.args.options.now) words (is_table_parts (rules_of c.args.options.now) c.requires).0
    (refused_by_kind c.args.name.now cs words clean (kind_of c.in-Err.error)
    (subst (λ ks. HasKind ks c.in-Err.error) (ap (λ a. fault_of a words) app ∙ fault_built c.args.name.now cs words) kinds) (λ h. c.in_default.not-OutOfMemory (c.kind.ensures ∙ h)))
