-- The values that words give fit their options.
use Rattle.std.proofs.Common.{◌≡◌, Bool, true, false, List, [], ◌∷◌, ℤ, Option, Some, None, refl, subst}
use Rattle.std.specs.Prelude.{◌&&◌, if◌then◌else◌, option_map, option_and_then}
use Rattle.std.specs.List.{list_all}
use Rattle.num_row.specs.Decimals.{decimal_value}
use Rattle.command_words.specs.declared.options.Takes.{Takes}
use Rattle.command_words.specs.declared.options.Takes.TheVariants as takes
use Rattle.command_words.specs.declared.options.Value.{Value}
use Rattle.command_words.specs.declared.options.Value.TheVariants as value
use Rattle.command_words.specs.Words.{Text, Item, text_of}
use Rattle.command_words.specs.Options.{OptionRule, is_built, is_number, is_between, number_in, number_or, default_of, given_to, value_in, values_in, has_default, is_table, Gives}
use Rattle.command_words.specs.Values.{Fits, AllFit}
use Rattle.command_words.proofs.Known.{and_both, defaults_fit}

no_some : {X P : Type 0} (x : X) → None ≡ Some x → P
no_some x h = absurd (let y : ⊥ = cc in y)

some_is : {X : Type 0} (x y : X) → Some x ≡ Some y → x ≡ y
some_is x y h = cc

default_fits : (t : Takes) → has_default t ≡ true → Fits t (default_of t)
default_fits takes.Flag h = tt
default_fits (takes.Number least most default) h = h

number_between : (least most : ℤ) (text : Text) (n : ℤ) → number_in least most text ≡ Some n → is_between least most n ≡ true
number_between least most text n h = step (is_number text) (is_between least most (decimal_value text)) refl h
  where
    step : (a b : Bool) → is_between least most (decimal_value text) ≡ b → (if a && b then Some (decimal_value text) else None) ≡ Some n → is_between least most n ≡ true
    step true true e k = subst (λ z. is_between least most z ≡ true) (some_is (decimal_value text) n k) e
    step true false e k = no_some n k
    step false b e k = no_some n k

number_fits : (least most default : ℤ) (text : Option Text) (v : Value) → is_between least most default ≡ true → option_map value.Number (number_or least most default text) ≡ Some v
    → Fits (takes.Number least most default) v
number_fits least most default None v d h = subst (Fits (takes.Number least most default)) (some_is (value.Number default) v h) d
number_fits least most default (Some text) v d h = step (number_in least most text) refl h
  where
    step : (o : Option ℤ) → number_in least most text ≡ o → option_map value.Number o ≡ Some v → Fits (takes.Number least most default) v
    step None e k = no_some v k
    step (Some n) e k = subst (Fits (takes.Number least most default)) (some_is (value.Number n) v k) (number_between least most text n e)

given_fits : (t : Takes) (name : Text) (items : List Item) (v : Value) → has_default t ≡ true → given_to t name items ≡ Some v → Fits t v
given_fits takes.Flag name items v d h = subst (Fits takes.Flag) (some_is _ v h) tt
given_fits (takes.Number least most default) name items v d h = number_fits least most default (text_of name items) v d h

value_fits : (items : List Item) (o : OptionRule) (v : Value) → has_default o.takes ≡ true → value_in items o ≡ Some v → Fits o.takes v
value_fits items o v d h = step (is_built o) h
  where
    step : (b : Bool) → (if b then given_to o.takes o.name items else Some (default_of o.takes)) ≡ Some v → Fits o.takes v
    step true k = given_fits o.takes o.name items v d k
    step false k = subst (Fits o.takes) (some_is (default_of o.takes) v k) (default_fits o.takes d)

values_fit : (items : List Item) (options : List OptionRule) (values : List Value) → list_all (λ o. has_default o.takes) options ≡ true → values_in items options ≡ Some values → AllFit options values
values_fit items [] values d h = subst (AllFit []) (some_is [] values h) tt
values_fit items (o ∷ os) values d h = step (value_in items o) refl (values_in items os) refl h (λ rest. values_fit items os rest parts.1)
  where
    parts : (has_default o.takes ≡ true) × (list_all (λ p. has_default p.takes) os ≡ true)
    parts = and_both (has_default o.takes) _ d

    step : (first : Option Value) → value_in items o ≡ first → (rest : Option (List Value)) → values_in items os ≡ rest
        → option_and_then (λ a. option_map (λ l. a ∷ l) rest) first ≡ Some values → ((l : List Value) → values_in items os ≡ Some l → AllFit os l) → AllFit (o ∷ os) values
    step None e rest f k ih = no_some values k
    step (Some v) e None f k ih = no_some values k
    step (Some v) e (Some l) f k ih = subst (AllFit (o ∷ os)) (some_is (v ∷ l) values k) (value_fits items o v parts.0 e, ih l f)

-- what words give fits the options
pub gives_fit : (options : List OptionRule) (words : List Text) (values : List Value) → is_table options ≡ true → Gives options words values → AllFit options values
gives_fit options words values t g = values_fit g.items options values (defaults_fit options t) g.valued
