-- What clap is told of options, and their values, one option more.
use Rattle.std.proofs.Common.{◌≡◌, ℕ, ◌+◌, ◌<◌, suc, zero, Bool, true, false, List, [], ◌∷◌, ◌++◌, map, Option, Some, None, refl, ap, ◌∙◌, sym, append-nil, length, take, get_or, arith}
use Rattle.std.specs.List.{list_all}
use Rattle.std.specs.Prelude.{◌&&◌, if◌then◌else◌, option_map, option_and_then}
use Rattle.std.proofs.lemmas.List.{take_more}
use Rattle.std.proofs.lemmas.Grind.{common_steps}
use Rattle.clap.specs.Words.{App, Rule, with_rule}
use Rattle.clap.specs.declared.parser.matches.ArgMatches.{ArgMatches}
use Rattle.command_words.specs.declared.options.CommandOption.{CommandOption}
use Rattle.command_words.specs.declared.options.Value.{Value}
use Rattle.command_words.specs.Words.{Text, Item}
use Rattle.command_words.specs.Options.{OptionRule, as_rule, rules_of, is_built, meets_need, value_in, values_in}
use Rattle.command_words.specs.Reader.{Choice, choice_for, choices_of, app_with, rule_of_choice, Agrees, AllAgree}

told_push : (os : List CommandOption) (o : CommandOption) → rules_of (os ++ o ∷ []) ≡ rules_of os ++ as_rule o ∷ []
told_push [] o = refl
told_push (x ∷ xs) o = ap (λ l. as_rule x ∷ l) (told_push xs o)

one_more : (os : List CommandOption) (i : ℕ) (d : CommandOption) → i < length os → rules_of (take (i + 1) os) ≡ rules_of (take i os) ++ as_rule (get_or os i d) ∷ []
one_more os i d h = ap rules_of (take_more os i d h) ∙ told_push (take i os) (get_or os i d)

-- ---- Clap's command

choices_push : (os : List OptionRule) (o : OptionRule) → choices_of (os ++ o ∷ []) ≡ choices_of os ++ choices_of (o ∷ [])
choices_push [] o = refl
choices_push (x ∷ xs) o = step (is_built x) (choices_push xs o)
  where
    step : (b : Bool) → choices_of (xs ++ o ∷ []) ≡ choices_of xs ++ choices_of (o ∷ [])
        → (if b then choice_for x ∷ choices_of (xs ++ o ∷ []) else choices_of (xs ++ o ∷ [])) ≡ (if b then choice_for x ∷ choices_of xs else choices_of xs) ++ choices_of (o ∷ [])
    step true e = ap (λ l. choice_for x ∷ l) e
    step false e = e

rules_push : (cs : List Choice) (c : Choice) → map rule_of_choice (cs ++ c ∷ []) ≡ map rule_of_choice cs ++ rule_of_choice c ∷ []
rules_push [] c = refl
rules_push (x ∷ xs) c = ap (λ l. rule_of_choice x ∷ l) (rules_push xs c)

app_push : (name : Text) (cs : List Choice) (c : Choice) → app_with name (cs ++ c ∷ []) ≡ with_rule (app_with name cs) (rule_of_choice c)
app_push name cs c = ap (λ rules. record (app_with name cs) { top = record (app_with name cs).top { rules = rules } }) (rules_push cs c)

-- an option that is there is told
pub told_more : (name : Text) (os : List CommandOption) (i : ℕ) (d : CommandOption) (before after : App) (rule : Rule) → i < length os
    → is_built (as_rule (get_or os i d)) ≡ true → before ≡ app_with name (choices_of (rules_of (take i os))) → rule ≡ rule_of_choice (choice_for (as_rule (get_or os i d))) → after ≡ with_rule before rule
    → after ≡ app_with name (choices_of (rules_of (take (i + 1) os)))
told_more name os i d before after rule h b known ruled added =
    let o : OptionRule = as_rule (get_or os i d) in
    added ∙ ap (λ a. with_rule a rule) known ∙ ap (with_rule (app_with name (choices_of (rules_of (take i os))))) ruled
    ∙ sym (app_push name (choices_of (rules_of (take i os))) (choice_for o))
    ∙ ap (λ more. app_with name (choices_of (rules_of (take i os)) ++ more)) (sym (ap (λ p. if p then choice_for o ∷ [] else []) b))
    ∙ ap (app_with name) (sym (choices_push (rules_of (take i os)) o)) ∙ ap (λ l. app_with name (choices_of l)) (sym (one_more os i d h))

-- one that isn't there isn't
pub told_same : (name : Text) (os : List CommandOption) (i : ℕ) (d : CommandOption) (before : App) → i < length os
    → is_built (as_rule (get_or os i d)) ≡ false → before ≡ app_with name (choices_of (rules_of (take i os))) → before ≡ app_with name (choices_of (rules_of (take (i + 1) os)))
told_same name os i d before h b known =
    let o : OptionRule = as_rule (get_or os i d) in
    known ∙ ap (app_with name) (sym (append-nil (choices_of (rules_of (take i os)))))
    ∙ ap (λ more. app_with name (choices_of (rules_of (take i os)) ++ more)) (sym (ap (λ p. if p then choice_for o ∷ [] else []) b))
    ∙ ap (app_with name) (sym (choices_push (rules_of (take i os)) o)) ∙ ap (λ l. app_with name (choices_of l)) (sym (one_more os i d h))

-- ---- Values

values_push : (items : List Item) (os : List OptionRule) (o : OptionRule) (before : List Value) (v : Value) → values_in items os ≡ Some before → Some v ≡ value_in items o
    → values_in items (os ++ o ∷ []) ≡ Some (before ++ v ∷ [])
values_push items [] o before v h e =
    let none : [] ≡ before = cc in
    rw (← e) (ap (λ l. Some (l ++ v ∷ [])) none)
values_push items (x ∷ xs) o before v h e = step (value_in items x) (values_in items xs) refl h (λ more k. values_push items xs o more v k e)
  where
    step : (first : Option Value) (rest : Option (List Value)) → values_in items xs ≡ rest
        → option_and_then (λ a. option_map (λ l. a ∷ l) rest) first ≡ Some before
        → ((more : List Value) → values_in items xs ≡ Some more → values_in items (xs ++ o ∷ []) ≡ Some (more ++ v ∷ []))
        → option_and_then (λ a. option_map (λ l. a ∷ l) (values_in items (xs ++ o ∷ []))) first ≡ Some (before ++ v ∷ [])
    step None rest r k ih = absurd (let y : ⊥ = cc in y)
    step (Some a) None r k ih = absurd (let y : ⊥ = cc in y)
    step (Some a) (Some more) r k ih = let same : a ∷ more ≡ before = cc in ap (option_map (λ l. a ∷ l)) (ih more r) ∙ ap (λ l. Some (l ++ v ∷ [])) same

agrees_at : (m : ArgMatches) (items : List Item) (os : List CommandOption) (i : ℕ) (d : CommandOption) → i < length os → AllAgree m items (rules_of os) → Agrees m items (as_rule (get_or os i d))
agrees_at m items [] i d h all = absurd (omega arith)
agrees_at m items (x ∷ xs) zero d h all = all.0
agrees_at m items (x ∷ xs) (suc i) d h all = agrees_at m items xs i d (grind (arith, common_steps)) all.1

-- the value of one option more
pub value_more : (m : ArgMatches) (items : List Item) (os : List CommandOption) (i : ℕ) (d : CommandOption) (before after : List Value) (r : Option Value) (v : Value) → i < length os
    → ((given : List Item) → Agrees m given (as_rule (get_or os i d)) → r ≡ value_in given (as_rule (get_or os i d))) → r ≡ Some v → AllAgree m items (rules_of os)
    → values_in items (rules_of (take i os)) ≡ Some before → after ≡ before ++ v ∷ [] → values_in items (rules_of (take (i + 1) os)) ≡ Some after
value_more m items os i d before after r v h tell is all known pushed =
    ap (values_in items) (one_more os i d h)
    ∙ values_push items (rules_of (take i os)) (as_rule (get_or os i d)) before v known (sym is ∙ tell items (agrees_at m items os i d h all)) ∙ ap Some (sym pushed)

after_none : {X Y : Type 0} (o : Option X) → option_and_then (λ (x : X). let none : Option Y = None in none) o ≡ None
after_none None = refl
after_none (Some x) = refl

without : (items : List Item) (os : List CommandOption) (i : ℕ) (d : CommandOption) → i < length os → None ≡ value_in items (as_rule (get_or os i d)) → None ≡ values_in items (rules_of os)
without items [] i d h n = absurd (omega arith)
without items (x ∷ xs) zero d h n = ap (option_and_then (λ a. option_map (λ l. a ∷ l) (values_in items (rules_of xs)))) n
without items (x ∷ xs) (suc i) d h n =
    let rest = without items xs i d (grind (arith, common_steps)) n in
    sym (ap (λ o. option_and_then (λ (a : Value). option_map (λ l. a ∷ l) o) (value_in items (as_rule x))) (sym rest) ∙ after_none (value_in items (as_rule x)))

-- where an option has no value, there are none
pub no_value : (m : ArgMatches) (items : List Item) (os : List CommandOption) (i : ℕ) (d : CommandOption) (r : Option Value) → i < length os
    → ((given : List Item) → Agrees m given (as_rule (get_or os i d)) → r ≡ value_in given (as_rule (get_or os i d))) → r ≡ None → AllAgree m items (rules_of os) → None ≡ values_in items (rules_of os)
no_value m items os i d r h tell is all = without items os i d h (sym is ∙ tell items (agrees_at m items os i d h all))

-- ---- Needs

flag_after : (f : OptionRule → Bool) (os : List CommandOption) (i : ℕ) (d : CommandOption) → i < length os → list_all f (rules_of (take (i + 1) os)) ≡ (list_all f (rules_of (take i os)) && f (as_rule (get_or os i d)))
flag_after f os i d h = ap (list_all f) (one_more os i d h) ∙ all_push (rules_of (take i os)) (as_rule (get_or os i d))
  where
    all_push : (xs : List OptionRule) (o : OptionRule) → list_all f (xs ++ o ∷ []) ≡ (list_all f xs && f o)
    all_push [] o = last (f o)
      where
        last : (b : Bool) → (b && true) ≡ b
        last true = refl
        last false = refl
    all_push (x ∷ xs) o = step (f x) (all_push xs o)
      where
        step : (b : Bool) → list_all f (xs ++ o ∷ []) ≡ (list_all f xs && f o) → (b && list_all f (xs ++ o ∷ [])) ≡ ((b && list_all f xs) && f o)
        step true e = e
        step false e = refl

-- one option more meets its need
pub need_more : (m : ArgMatches) (items : List Item) (os : List CommandOption) (i : ℕ) (d : CommandOption) (r : Bool) → i < length os
    → ((given : List Item) → Agrees m given (as_rule (get_or os i d)) → r ≡ meets_need given (as_rule (get_or os i d))) → r ≡ true → AllAgree m items (rules_of os)
    → list_all (meets_need items) (rules_of (take i os)) ≡ true → list_all (meets_need items) (rules_of (take (i + 1) os)) ≡ true
need_more m items os i d r h tell is all known =
    flag_after (meets_need items) os i d h ∙ ap (λ b. b && meets_need items (as_rule (get_or os i d))) known ∙ sym (tell items (agrees_at m items os i d h all)) ∙ is

not_all : (f : OptionRule → Bool) (os : List CommandOption) (i : ℕ) (d : CommandOption) → i < length os → f (as_rule (get_or os i d)) ≡ false → false ≡ list_all f (rules_of os)
not_all f [] i d h n = absurd (omega arith)
not_all f (x ∷ xs) zero d h n = sym (ap (λ b. b && list_all f (rules_of xs)) n)
not_all f (x ∷ xs) (suc i) d h n = step (f (as_rule x)) (not_all f xs i d (grind (arith, common_steps)) n)
  where
    step : (b : Bool) → false ≡ list_all f (rules_of xs) → false ≡ (b && list_all f (rules_of xs))
    step true e = e
    step false e = refl

-- where an option's need isn't met, not all are
pub need_unmet : (m : ArgMatches) (items : List Item) (os : List CommandOption) (i : ℕ) (d : CommandOption) (r : Bool) → i < length os
    → ((given : List Item) → Agrees m given (as_rule (get_or os i d)) → r ≡ meets_need given (as_rule (get_or os i d))) → r ≡ false → AllAgree m items (rules_of os) → false ≡ list_all (meets_need items) (rules_of os)
need_unmet m items os i d r h tell is all = not_all (meets_need items) os i d h (sym (tell items (agrees_at m items os i d h all)) ∙ is)
