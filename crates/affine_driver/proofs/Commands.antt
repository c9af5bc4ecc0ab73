-- Words ask for one command, by its first word and the values of its options.
use mathlib.Core.Bool.{beq}
use Rattle.std.proofs.Common.{◌≡◌, ℕ, ◌<◌, ◌≤◌, Bool, true, false, List, [], ◌∷◌, Option, Some, None, ℤ, pos, negsuc, refl, sym, ap, ◌∙◌, subst, arith, lit<, length, map, take, drop, get_or, ◌-◌, Result}
use Rattle.std.specs.Prelude.{◌↔◌, int_le, nat_lt, if◌then◌else◌, codes, option_map, option_and_then}
use Rattle.std.specs.Prelude.{IfOk}
use Rattle.std.specs.Borrow.{Bor}
use Rattle.std.specs.Str.{bytes_eq}
use Rattle.std.proofs.lemmas.Int.{ints}
use Rattle.std.proofs.lemmas.List.{take_all}
use Rattle.std.proofs.lemmas.Grind.{common_steps}
use Rattle.std.proofs.lemmas.Bool.Decides.{nat_tests}
use Rattle.std.proofs.lemmas.Slice.Eq.{bytes_eq-Decides}
use Rattle.command_words.specs.declared.options.Takes.TheVariants as takes
use Rattle.command_words.specs.declared.options.Value.{Value}
use Rattle.command_words.specs.declared.options.Value.TheVariants as value
use Rattle.command_words.specs.Options.{OptionRule, is_between, is_there, is_table, value_in, values_in, Gives}
use Rattle.command_words.specs.Words.{Item}
use Rattle.command_words.specs.Values.{flag_of, natural_of, Fits, AllFit}
use Rattle.command_words.proofs.Fit.{gives_fit}
use Rattle.command_words.proofs.Known.{and_both}
use Rattle.command_words.proofs.Taken.{if_ok}
use Rattle.affine_driver.specs.declared.command.Command.{Command}
use Rattle.affine_driver.specs.declared.command.Command.TheVariants as command
use Rattle.affine_driver.specs.declared.command.FirstWord.{FirstWord}
use Rattle.affine_driver.specs.declared.command.FirstWord.TheVariants as first
use Rattle.affine_driver.specs.declared.table.TheConstants.{REGIONS_DEPTH, STAGE_DEPTH, STAGE_DMA, STAGE_DOUBLE, STAGE_BUFFERS, STAGE_CAPACITY, RUN_CAPACITY, RUN_FILLER, RUN_ENGINES, ORDER_CAPACITY, ORDER_FILLER, ORDER_ENGINES, ORDER_PICK, BOTH_DEPTH, BOTH_DMA, BOTH_DOUBLE, BOTH_BUFFERS, BOTH_CAPACITY, BOTH_FILLER, BOTH_ENGINES, SAMPLE_NUMBER}
use Rattle.affine_driver.specs.declared.table.TheConstants.{DEPTH, BUFFERS, CAPACITY, FILLER, ENGINES, PICK, NUMBER}
use Rattle.affine_driver.specs.Table.{alone, behind, word_of, name_of, standing_of, options_of}
use Rattle.affine_driver.specs.Command.{stage_values, run_values, values_of, stage_options, run_options, AsksFor, IsAllowed, AsksBehind, first_word, command_by, runs_threads, asks_doubled}

some_is : {X : Type 0} (x y : X) → Some x ≡ Some y → x ≡ y
some_is x y h = cc

no_some : {X P : Type 0} (x : X) → None ≡ Some x → P
no_some x h = absurd (let y : ⊥ = cc in y)

-- ---- The table

-- each entry of the table is one that words can be read by
pub tables : (w : FirstWord) → is_table (options_of w) ≡ true
tables first.Check = refl
tables first.Regions = refl
tables first.Stage = refl
tables first.Plain = refl
tables first.Run = refl
tables first.Order = refl
tables first.Both = refl
tables first.Sample = refl

-- ---- First words

named : (w : FirstWord) → first_word (name_of w) ≡ Some w
named first.Check = refl
named first.Regions = refl
named first.Stage = refl
named first.Plain = refl
named first.Run = refl
named first.Order = refl
named first.Both = refl
named first.Sample = refl

-- a command's first word is its name
name_is : (text : List ℕ) (w : FirstWord) → first_word text ≡ Some w → text ≡ name_of w
name_is text w h =
    step (codes "check") first.Check _ refl (λ h1.
    step (codes "regions") first.Regions _ refl (λ h2.
    step (codes "stage") first.Stage _ refl (λ h3.
    step (codes "plain") first.Plain _ refl (λ h4.
    step (codes "run") first.Run _ refl (λ h5.
    step (codes "order") first.Order _ refl (λ h6.
    step (codes "both") first.Both _ refl (λ h7.
    step (codes "sample") first.Sample _ refl (λ h8. no_some w h8) h7) h6) h5) h4) h3) h2) h1) h
  where
    step : (name : List ℕ) (v : FirstWord) (rest : Option FirstWord) → name ≡ name_of v → (rest ≡ Some w → text ≡ name_of w)
        → (if bytes_eq text name then Some v else rest) ≡ Some w → text ≡ name_of w
    step name v rest e more h = by (bytes_eq text name) refl h
      where
        by : (b : Bool) → bytes_eq text name ≡ b → (if b then Some v else rest) ≡ Some w → text ≡ name_of w
        by true same k = (bytes_eq-Decides text name).0 same ∙ e ∙ ap name_of (some_is v w k)
        by false same k = more k

-- ---- Values

natural : (n most : ℕ) (z : ℤ) → is_between (pos n) (pos most) z ≡ true → pos (natural_of z) ≡ z
natural n most (pos m) h = refl
natural n most (negsuc m) h = absurd (let x : ⊥ = cc in x)

most_of : (n most m : ℕ) → is_between (pos n) (pos most) (pos m) ≡ true → m ≤ most
most_of n most m h = let parts = and_both (int_le (pos n) (pos m)) _ h in let e = parts.1 in grind (arith, ints)

abbrev byte_of : ℕ → ℕ
byte_of n = if nat_lt n 256 then n else 0

byte : (n most m : ℕ) → most < 256 → is_between (pos n) (pos most) (pos m) ≡ true → byte_of m ≡ m
byte n most m small h = step (nat_lt m 256) refl
  where
    below : m < 256
    below = let e = most_of n most m h in omega (arith, small, e)

    step : (b : Bool) → nat_lt m 256 ≡ b → (if b then m else 0) ≡ m
    step true e = refl
    step false e = absurd (let lt = below in grind (arith, nat_tests))

byte_value : (n most : ℕ) (z : ℤ) → most < 256 → is_between (pos n) (pos most) z ≡ true → pos (byte_of (natural_of z)) ≡ z
byte_value n most (pos m) small h = ap pos (byte n most m small h)
byte_value n most (negsuc m) small h = absurd (let x : ⊥ = cc in x)

-- ---- Commands and values

abbrev Forth : FirstWord → Type 0
Forth w = (values : List Value) → AllFit (options_of w) values → (word_of (command_by w values) ≡ w) × (values_of (command_by w values) ≡ values)

abbrev Back : Command → Type 0
Back c = AllFit (options_of (word_of c)) (values_of c) → command_by (word_of c) (values_of c) ≡ c

-- ---- The values of a list that fits, one by one

record FirstNumber (least most : ℤ) (os : List OptionRule) (values : List Value) : Type 0 where
  number : ℤ
  rest : List Value
  is : values ≡ value.Number number ∷ rest
  between : is_between least most number ≡ true
  more : AllFit os rest

record FirstFlag (os : List OptionRule) (values : List Value) : Type 0 where
  given : Bool
  rest : List Value
  is : values ≡ value.Flag given ∷ rest
  more : AllFit os rest

first_number : (least most default : ℤ) (o : OptionRule) (os : List OptionRule) (values : List Value) → o.takes ≡ takes.Number least most default → AllFit (o ∷ os) values → FirstNumber least most os values
first_number least most default o os [] e fit = absurd fit
first_number least most default o os (value.Flag b ∷ vs) e fit = absurd (subst (λ t. Fits t (value.Flag b)) e fit.0)
first_number least most default o os (value.Number n ∷ vs) e fit = record { number = n; rest = vs; is = refl; between = subst (λ t. Fits t (value.Number n)) e fit.0; more = fit.1 }

first_flag : (o : OptionRule) (os : List OptionRule) (values : List Value) → o.takes ≡ takes.Flag → AllFit (o ∷ os) values → FirstFlag os values
first_flag o os [] e fit = absurd fit
first_flag o os (value.Flag b ∷ vs) e fit = record { given = b; rest = vs; is = refl; more = fit.1 }
first_flag o os (value.Number n ∷ vs) e fit = absurd (subst (λ t. Fits t (value.Number n)) e fit.0)

none_left : (values : List Value) → AllFit [] values → values ≡ []
none_left [] fit = refl
none_left (v ∷ vs) fit = absurd fit

-- ---- The options of `stage` and of `run`, with what may follow

record StageFit (more : List OptionRule) (values : List Value) : Type 0 where
  depth : ℤ
  dma : Bool
  double : Bool
  buffers : ℤ
  capacity : ℤ
  rest : List Value
  is : values ≡ value.Number depth ∷ value.Flag dma ∷ value.Flag double ∷ value.Number buffers ∷ value.Number capacity ∷ rest
  depth_fits : is_between (pos 0) (pos 7) depth ≡ true
  buffers_fit : is_between (pos 2) (pos 8) buffers ≡ true
  capacity_fits : is_between (pos 1) (pos 67108864) capacity ≡ true
  after : AllFit more rest

stage_fit : (depth dma double buffers capacity : OptionRule) (more : List OptionRule) (values : List Value) → depth.takes ≡ takes.Number (pos 0) (pos 7) (pos 0) → dma.takes ≡ takes.Flag → double.takes ≡ takes.Flag
    → buffers.takes ≡ takes.Number (pos 2) (pos 8) (pos 2) → capacity.takes ≡ takes.Number (pos 1) (pos 67108864) (pos 1048576)
    → AllFit (depth ∷ dma ∷ double ∷ buffers ∷ capacity ∷ more) values → StageFit more values
stage_fit depth dma double buffers capacity more values e1 e2 e3 e4 e5 fit =
    let a = first_number (pos 0) (pos 7) (pos 0) depth (dma ∷ double ∷ buffers ∷ capacity ∷ more) values e1 fit in
    let b = first_flag dma (double ∷ buffers ∷ capacity ∷ more) a.rest e2 a.more in
    let c = first_flag double (buffers ∷ capacity ∷ more) b.rest e3 b.more in
    let d = first_number (pos 2) (pos 8) (pos 2) buffers (capacity ∷ more) c.rest e4 c.more in
    let e = first_number (pos 1) (pos 67108864) (pos 1048576) capacity more d.rest e5 d.more in
    record {
      depth = a.number;
      dma = b.given;
      double = c.given;
      buffers = d.number;
      capacity = e.number;
      rest = e.rest;
      is = a.is ∙ ap (λ l. value.Number a.number ∷ l) (b.is ∙ ap (λ l. value.Flag b.given ∷ l) (c.is ∙ ap (λ l. value.Flag c.given ∷ l) (d.is ∙ ap (λ l. value.Number d.number ∷ l) e.is)));
      depth_fits = a.between;
      buffers_fit = d.between;
      capacity_fits = e.between;
      after = e.more;
    }

record RunFit (more : List OptionRule) (values : List Value) : Type 0 where
  capacity : ℤ
  filler : ℤ
  engines : ℤ
  rest : List Value
  is : values ≡ value.Number capacity ∷ value.Number filler ∷ value.Number engines ∷ rest
  capacity_fits : is_between (pos 1) (pos 67108864) capacity ≡ true
  engines_fit : is_between (pos 1) (pos 16) engines ≡ true
  after : AllFit more rest

run_fit : (low high : ℤ) (capacity filler engines : OptionRule) (more : List OptionRule) (values : List Value) → capacity.takes ≡ takes.Number (pos 1) (pos 67108864) (pos 1048576) → filler.takes ≡ takes.Number low high (pos 0)
    → engines.takes ≡ takes.Number (pos 1) (pos 16) (pos 2) → AllFit (capacity ∷ filler ∷ engines ∷ more) values → RunFit more values
run_fit low high capacity filler engines more values e1 e2 e3 fit =
    let a = first_number (pos 1) (pos 67108864) (pos 1048576) capacity (filler ∷ engines ∷ more) values e1 fit in
    let b = first_number low high (pos 0) filler (engines ∷ more) a.rest e2 a.more in
    let c = first_number (pos 1) (pos 16) (pos 2) engines more b.rest e3 b.more in
    record {
      capacity = a.number;
      filler = b.number;
      engines = c.number;
      rest = c.rest;
      is = a.is ∙ ap (λ l. value.Number a.number ∷ l) (b.is ∙ ap (λ l. value.Number b.number ∷ l) c.is);
      capacity_fits = a.between;
      engines_fit = c.between;
      after = c.more;
    }

-- reading values and telling them again gives them
stage_same : (d b c : ℤ) (dma double : Bool) (more : List Value) → is_between (pos 0) (pos 7) d ≡ true → is_between (pos 2) (pos 8) b ≡ true → is_between (pos 1) (pos 67108864) c ≡ true
    → stage_values (stage_options (value.Number d ∷ value.Flag dma ∷ value.Flag double ∷ value.Number b ∷ value.Number c ∷ more)) more
    ≡ value.Number d ∷ value.Flag dma ∷ value.Flag double ∷ value.Number b ∷ value.Number c ∷ more
stage_same d b c dma double more h k l =
    ap (λ x. value.Number x ∷ value.Flag dma ∷ value.Flag double ∷ value.Number (pos (byte_of (natural_of b))) ∷ value.Number (pos (natural_of c)) ∷ more) (byte_value 0 7 d (lit< tt) h)
    ∙ ap (λ x. value.Number d ∷ value.Flag dma ∷ value.Flag double ∷ value.Number x ∷ value.Number (pos (natural_of c)) ∷ more) (byte_value 2 8 b (lit< tt) k)
    ∙ ap (λ x. value.Number d ∷ value.Flag dma ∷ value.Flag double ∷ value.Number b ∷ value.Number x ∷ more) (natural 1 67108864 c l)

run_same : (c f e : ℤ) (more : List Value) → is_between (pos 1) (pos 67108864) c ≡ true → is_between (pos 1) (pos 16) e ≡ true
    → run_values (run_options (value.Number c ∷ value.Number f ∷ value.Number e ∷ more)) more ≡ value.Number c ∷ value.Number f ∷ value.Number e ∷ more
run_same c f e more h k =
    ap (λ x. value.Number x ∷ value.Number f ∷ value.Number (pos (byte_of (natural_of e))) ∷ more) (natural 1 67108864 c h)
    ∙ ap (λ x. value.Number c ∷ value.Number f ∷ value.Number x ∷ more) (byte_value 1 16 e (lit< tt) k)

abbrev Told : FirstWord → List Value → Type 0
Told w values = (word_of (command_by w values) ≡ w) × (values_of (command_by w values) ≡ values)

forth : (w : FirstWord) → Forth w
forth first.Check values fit = (refl, sym (none_left values fit))
forth first.Plain values fit = (refl, sym (none_left values fit))
forth first.Regions values fit =
    let a = first_number (pos 0) (pos 7) (pos 0) (alone (codes "depth") DEPTH REGIONS_DEPTH) [] values refl fit in
    let whole : values ≡ value.Number a.number ∷ [] = a.is ∙ ap (λ l. value.Number a.number ∷ l) (none_left a.rest a.more) in
    subst (Told first.Regions) (sym whole) (refl, ap (λ x. value.Number x ∷ []) (byte_value 0 7 a.number (lit< tt) a.between))
forth first.Sample values fit =
    let a = first_number (pos 0) (pos 999999) (pos 0) (alone (codes "number") NUMBER SAMPLE_NUMBER) [] values refl fit in
    let whole : values ≡ value.Number a.number ∷ [] = a.is ∙ ap (λ l. value.Number a.number ∷ l) (none_left a.rest a.more) in
    subst (Told first.Sample) (sym whole) (refl, ap (λ x. value.Number x ∷ []) (natural 0 999999 a.number a.between))
forth first.Stage values fit =
    let s = stage_fit (alone (codes "depth") DEPTH STAGE_DEPTH) (alone (codes "dma") takes.Flag STAGE_DMA) (behind (codes "dma") (codes "double") takes.Flag STAGE_DOUBLE) (behind (codes "double") (codes "buffers") BUFFERS STAGE_BUFFERS) (alone (codes "capacity") CAPACITY STAGE_CAPACITY) [] values refl refl refl refl refl fit in
    let whole = s.is ∙ ap (λ l. value.Number s.depth ∷ value.Flag s.dma ∷ value.Flag s.double ∷ value.Number s.buffers ∷ value.Number s.capacity ∷ l) (none_left s.rest s.after) in
    subst (Told first.Stage) (sym whole) (refl, stage_same s.depth s.buffers s.capacity s.dma s.double [] s.depth_fits s.buffers_fit s.capacity_fits)
forth first.Run values fit =
    let s = run_fit (negsuc 9223372036854775807) (pos 9223372036854775807) (alone (codes "capacity") CAPACITY RUN_CAPACITY) (alone (codes "filler") FILLER RUN_FILLER) (alone (codes "engines") ENGINES RUN_ENGINES) [] values refl refl refl fit in
    let whole = s.is ∙ ap (λ l. value.Number s.capacity ∷ value.Number s.filler ∷ value.Number s.engines ∷ l) (none_left s.rest s.after) in
    subst (Told first.Run) (sym whole) (refl, run_same s.capacity s.filler s.engines [] s.capacity_fits s.engines_fit)
forth first.Order values fit =
    let s = run_fit (negsuc 9223372036854775807) (pos 9223372036854775807) (alone (codes "capacity") CAPACITY ORDER_CAPACITY) (alone (codes "filler") FILLER ORDER_FILLER) (alone (codes "engines") ENGINES ORDER_ENGINES) ((alone (codes "pick") PICK ORDER_PICK) ∷ []) values refl refl refl fit in
    let p = first_number (pos 0) (pos 9223372036854775807) (pos 0) (alone (codes "pick") PICK ORDER_PICK) [] s.rest refl s.after in
    let whole = s.is ∙ ap (λ l. value.Number s.capacity ∷ value.Number s.filler ∷ value.Number s.engines ∷ l) (p.is ∙ ap (λ l. value.Number p.number ∷ l) (none_left p.rest p.more)) in
    subst (Told first.Order) (sym whole) (
      refl,
      run_same s.capacity s.filler s.engines (value.Number (pos (natural_of p.number)) ∷ []) s.capacity_fits s.engines_fit
          ∙ ap (λ x. value.Number s.capacity ∷ value.Number s.filler ∷ value.Number s.engines ∷ value.Number x ∷ []) (natural 0 9223372036854775807 p.number p.between),
    )
forth first.Both values fit =
    let s = stage_fit (alone (codes "depth") DEPTH BOTH_DEPTH) (alone (codes "dma") takes.Flag BOTH_DMA) (behind (codes "dma") (codes "double") takes.Flag BOTH_DOUBLE) (behind (codes "double") (codes "buffers") BUFFERS BOTH_BUFFERS) (alone (codes "capacity") CAPACITY BOTH_CAPACITY) ((alone (codes "filler") FILLER BOTH_FILLER) ∷ (alone (codes "engines") ENGINES BOTH_ENGINES) ∷ []) values refl refl refl refl refl fit in
    let f = first_number (negsuc 9223372036854775807) (pos 9223372036854775807) (pos 0) (alone (codes "filler") FILLER BOTH_FILLER) ((alone (codes "engines") ENGINES BOTH_ENGINES) ∷ []) s.rest refl s.after in
    let e = first_number (pos 1) (pos 16) (pos 2) (alone (codes "engines") ENGINES BOTH_ENGINES) [] f.rest refl f.more in
    let whole = s.is ∙ ap (λ l. value.Number s.depth ∷ value.Flag s.dma ∷ value.Flag s.double ∷ value.Number s.buffers ∷ value.Number s.capacity ∷ l)
    (f.is ∙ ap (λ l. value.Number f.number ∷ l) (e.is ∙ ap (λ l. value.Number e.number ∷ l) (none_left e.rest e.more))) in
    subst (Told first.Both) (sym whole) (
      refl,
      stage_same s.depth s.buffers s.capacity s.dma s.double (value.Number f.number ∷ value.Number (pos (byte_of (natural_of e.number))) ∷ []) s.depth_fits s.buffers_fit s.capacity_fits
          ∙ ap (λ x. value.Number s.depth ∷ value.Flag s.dma ∷ value.Flag s.double ∷ value.Number s.buffers ∷ value.Number s.capacity ∷ value.Number f.number ∷ value.Number x ∷ []) (byte_value 1 16 e.number (lit< tt) e.between),
    )

-- telling options that fit and reading them again gives them
back : (c : Command) → Back c
back command.Check fit = refl
back command.Plain fit = refl
back (command.Regions o) fit = ap (λ n. command.Regions (record { depth = n })) (byte 0 7 o.depth (lit< tt) fit.0)
back (command.Sample o) fit = refl
back (command.Stage o) fit =
    ap (λ n. command.Stage (record o { depth = n; buffers = byte_of o.buffers })) (byte 0 7 o.depth (lit< tt) fit.0)
    ∙ ap (λ n. command.Stage (record o { buffers = n })) (byte 2 8 o.buffers (lit< tt) fit.1.1.1.0)
back (command.Run o) fit = ap (λ n. command.Run (record o { engines = n })) (byte 1 16 o.engines (lit< tt) fit.1.1.0)
back (command.Order o) fit = ap (λ n. command.Order (record o { run = record o.run { engines = n } })) (byte 1 16 o.run.engines (lit< tt) fit.1.1.0)
back (command.Both o) fit =
    ap (λ n. command.Both (record o { stage = record o.stage { depth = n; buffers = byte_of o.stage.buffers }; engines = byte_of o.engines })) (byte 0 7 o.stage.depth (lit< tt) fit.0)
    ∙ ap (λ n. command.Both (record o { stage = record o.stage { buffers = n }; engines = byte_of o.engines })) (byte 2 8 o.stage.buffers (lit< tt) fit.1.1.1.0)
    ∙ ap (λ n. command.Both (record o { engines = n })) (byte 1 16 o.engines (lit< tt) fit.1.1.1.1.1.1.0)

-- ---- Words

pub behind_some : (w : FirstWord) (rules : List OptionRule) (words : List (List ℕ)) (vs : List Value) (found : Option (List Value)) (c : Command) → rules ≡ options_of w → is_there (standing_of w) ≡ true
    → ((values : List Value) → (found ≡ Some values) ↔ Gives rules words values) → found ≡ Some vs → c ≡ command_by w vs → (command : Command) → (Some c ≡ Some command) ↔ AsksBehind w words command
behind_some w rules words vs found c e built tell is made command = (to, from)
  where
    given : Gives (options_of w) words vs
    given = subst (λ r. Gives r words vs) e ((tell vs).0 is)

    told : Told w vs
    told = forth w vs (gives_fit (options_of w) words vs (tables w) given)

    to : Some c ≡ Some command → AsksBehind w words command
    to h =
        let same : command_by w vs ≡ command = sym made ∙ some_is c command h in
        let asked : AsksBehind w words (command_by w vs) = record { is = told.0; built = built; given = subst (Gives (options_of w) words) (sym told.1) given } in
        subst (AsksBehind w words) same asked

    from : AsksBehind w words command → Some c ≡ Some command
    from a =
        let found_there : found ≡ Some (values_of command) = (tell (values_of command)).1 (subst (λ r. Gives r words (values_of command)) (sym e) a.given) in
        let same : vs ≡ values_of command = some_is vs (values_of command) (sym is ∙ found_there) in
        let fit : AllFit (options_of (word_of command)) (values_of command) = subst (λ x. AllFit (options_of x) (values_of command)) (sym a.is) (gives_fit (options_of w) words (values_of command) (tables w) a.given) in
        ap Some (made ∙ ap (command_by w) same ∙ ap (λ x. command_by x (values_of command)) (sym a.is) ∙ back command fit)

pub behind_none : (w : FirstWord) (rules : List OptionRule) (words : List (List ℕ)) (found : Option (List Value)) → rules ≡ options_of w
    → ((values : List Value) → (found ≡ Some values) ↔ Gives rules words values) → found ≡ None → (command : Command) → (None ≡ Some command) ↔ AsksBehind w words command
behind_none w rules words found e tell is command = (
  λ h. no_some command h,
  λ a. no_some (values_of command) (sym is ∙ (tell (values_of command)).1 (subst (λ r. Gives r words (values_of command)) (sym e) a.given)),
)

pub asks_both : (text : List ℕ) (rest : List (List ℕ)) (w : FirstWord) (command : Command) → first_word text ≡ Some w → AsksBehind w rest command ↔ AsksFor (text ∷ rest) command
asks_both text rest w command e = (to, from)
  where
    to : AsksBehind w rest command → AsksFor (text ∷ rest) command
    to a = record {
      built = subst (λ x. is_there (standing_of x) ≡ true) (sym a.is) a.built;
      behind = rest;
      begins = ap (λ t. t ∷ rest) (name_is text w e ∙ ap name_of (sym a.is));
      given = subst (λ x. Gives (options_of x) rest (values_of command)) (sym a.is) a.given;
    }

    from : AsksFor (text ∷ rest) command → AsksBehind w rest command
    from a =
        let text_is : text ≡ name_of (word_of command) = heads text (name_of (word_of command)) rest a.behind a.begins in
        let rest_is : rest ≡ a.behind = tails text (name_of (word_of command)) rest a.behind a.begins in
        let word : word_of command ≡ w = some_is (word_of command) w (sym (named (word_of command)) ∙ ap first_word (sym text_is) ∙ e) in
        record {
          is = word;
          built = subst (λ x. is_there (standing_of x) ≡ true) word a.built;
          given = subst (λ x. Gives (options_of x) rest (values_of command)) word (subst (λ l. Gives (options_of (word_of command)) l (values_of command)) (sym rest_is) a.given);
        }
      where
        heads : (x y : List ℕ) (xs ys : List (List ℕ)) → x ∷ xs ≡ y ∷ ys → x ≡ y
        heads x y xs ys h = cc

        tails : (x y : List ℕ) (xs ys : List (List ℕ)) → x ∷ xs ≡ y ∷ ys → xs ≡ ys
        tails x y xs ys h = cc

first_rest : (ws : List (Bor (List ℕ))) (d : Bor (List ℕ)) → 1 ≤ length ws → map (λ w. w.now) ws ≡ (get_or ws 0 d).now ∷ map (λ w. w.now) (drop 1 ws)
first_rest [] d h = absurd (omega arith)
first_rest (w ∷ ws) d h = refl

-- all words but the first
all_behind : (ws : List (Bor (List ℕ))) → take (length ws - 1) (drop 1 ws) ≡ drop 1 ws
all_behind ws = take_all (length ws - 1) (drop 1 ws) (grind (arith, common_steps))

pub words_ask : {E : Type 0} (ws : List (Bor (List ℕ))) (d : Bor (List ℕ)) (w : FirstWord) (r : Result (Option Command) E) → 1 ≤ length ws → first_word (get_or ws 0 d).now ≡ Some w
    → IfOk r (λ found. (command : Command) → (found ≡ Some command) ↔ AsksBehind w (map (λ x. x.now) (take (length ws - 1) (drop 1 ws))) command)
    → IfOk r (λ found. (command : Command) → (found ≡ Some command) ↔ AsksFor (map (λ x. x.now) ws) command)
words_ask ws d w r h e told = if_ok r
    (λ found. (command : Command) → (found ≡ Some command) ↔ AsksBehind w (map (λ x. x.now) (take (length ws - 1) (drop 1 ws))) command)
    (λ found. (command : Command) → (found ≡ Some command) ↔ AsksFor (map (λ x. x.now) ws) command)
    (λ found tell command.
    let both = asks_both (get_or ws 0 d).now (map (λ x. x.now) (drop 1 ws)) w command e in
    let all = all_behind ws in (
      λ k. subst (λ l. AsksFor l command) (sym (first_rest ws d h)) (both.0 (subst (λ l. AsksBehind w (map (λ x. x.now) l) command) all ((tell command).0 k))),
      λ a. (tell command).1 (subst (λ l. AsksBehind w (map (λ x. x.now) l) command) (sym all) (both.1 (subst (λ l. AsksFor l command) (first_rest ws d h) a))),
    ))
    told

-- the values of a list, one by one
values_behind : (items : List Item) (o : OptionRule) (os : List OptionRule) (v : Value) (vs : List Value) → values_in items (o ∷ os) ≡ Some (v ∷ vs) → (value_in items o ≡ Some v) × (values_in items os ≡ Some vs)
values_behind items o os v vs e = by (value_in items o) (values_in items os) refl refl e
  where
    by : (x : Option Value) (xs : Option (List Value)) → value_in items o ≡ x → values_in items os ≡ xs → option_and_then (λ first. option_map (λ rest. first ∷ rest) xs) x ≡ Some (v ∷ vs)
        → (value_in items o ≡ Some v) × (values_in items os ≡ Some vs)
    by None xs p q h = no_some (v ∷ vs) h
    by (Some x) None p q h = no_some (v ∷ vs) h
    by (Some x) (Some xs) p q h = let l : x ∷ xs ≡ v ∷ vs = some_is (x ∷ xs) (v ∷ vs) h in (p ∙ ap Some (let z : x ≡ v = cc in z), q ∙ ap Some (let z : xs ≡ vs = cc in z))

-- an option that the program hasn't has its default
third_flag : (items : List Item) (a b c : OptionRule) (more : List OptionRule) (u v : Value) (given : Bool) (vs : List Value) → value_in items c ≡ Some (value.Flag false)
    → values_in items (a ∷ b ∷ c ∷ more) ≡ Some (u ∷ v ∷ value.Flag given ∷ vs) → given ≡ false
third_flag items a b c more u v given vs default e =
    let one = values_behind items a (b ∷ c ∷ more) u (v ∷ value.Flag given ∷ vs) e in
    let two = values_behind items b (c ∷ more) v (value.Flag given ∷ vs) one.1 in
    let three = values_behind items c more (value.Flag given) vs two.1 in
    ap flag_of (sym three.0 ∙ default)

-- doubled loops aren't built, so nobody asks for them
single : (command : Command) (items : List Item) → values_in items (options_of (word_of command)) ≡ Some (values_of command) → asks_doubled command ≡ false
single command.Check items h = refl
single (command.Regions o) items h = refl
single (command.Stage o) items h = third_flag items (alone (codes "depth") DEPTH STAGE_DEPTH) (alone (codes "dma") takes.Flag STAGE_DMA) (behind (codes "dma") (codes "double") takes.Flag STAGE_DOUBLE) (behind (codes "double") (codes "buffers") BUFFERS STAGE_BUFFERS ∷ alone (codes "capacity") CAPACITY STAGE_CAPACITY ∷ []) _ _ o.double _ refl h
single command.Plain items h = refl
single (command.Run o) items h = refl
single (command.Order o) items h = refl
single (command.Both o) items h = third_flag items (alone (codes "depth") DEPTH BOTH_DEPTH) (alone (codes "dma") takes.Flag BOTH_DMA) (behind (codes "dma") (codes "double") takes.Flag BOTH_DOUBLE) (behind (codes "double") (codes "buffers") BUFFERS BOTH_BUFFERS ∷ alone (codes "capacity") CAPACITY BOTH_CAPACITY ∷ alone (codes "filler") FILLER BOTH_FILLER ∷ alone (codes "engines") ENGINES BOTH_ENGINES ∷ []) _ _ o.stage.double _ refl h
single (command.Sample o) items h = refl

-- a command that words ask for is one that the program has, with options in their ranges
pub allowed : (words : List (List ℕ)) (command : Command) → AsksFor words command → IsAllowed command
allowed words command a = record {
  built = a.built;
  fit = gives_fit (options_of (word_of command)) a.behind (values_of command) (tables (word_of command)) a.given;
  single = single command a.given.items a.given.valued;
}

pub one_command : (found : Option Command) (a b : Command) → found ≡ Some a → found ≡ Some b → a ≡ b
one_command found a b h k = some_is a b (sym h ∙ k)

pub no_command : (found : Option Command) (a : Command) → found ≡ None → found ≡ Some a → ⊥
no_command found a h k = no_some a (sym h ∙ k)

-- ---- Commands that run threads

same_bool : (a b : Bool) → beq a b ≡ true → a ≡ b
same_bool true true h = refl
same_bool false false h = refl
same_bool true false h = absurd (grind arith)
same_bool false true h = absurd (grind arith)

other_bool : (a b : Bool) → beq a b ≡ false → a ≡ b → ⊥
other_bool true true h = λ e. grind arith
other_bool false false h = λ e. grind arith
other_bool true false h = λ e. grind arith
other_bool false true h = λ e. grind arith

-- a command that is found among all is found among those that run threads, or among the others
pub among_some : (words : List (List ℕ)) (found : Option Command) (c : Command) (runs threads : Bool) → found ≡ Some c → runs ≡ runs_threads c → beq runs threads ≡ true
    → ((command : Command) → (found ≡ Some command) ↔ AsksFor words command) → (command : Command) → (Some c ≡ Some command) ↔ (AsksFor words command × (runs_threads command ≡ threads))
among_some words found c runs threads is own same tell command = (
  λ h. ((tell command).0 (is ∙ h), subst (λ x. runs_threads x ≡ threads) (some_is c command h) (sym own ∙ same_bool runs threads same)),
  λ a. sym is ∙ (tell command).1 a.0,
)

pub among_others : (words : List (List ℕ)) (found : Option Command) (c : Command) (runs threads : Bool) → found ≡ Some c → runs ≡ runs_threads c → beq runs threads ≡ false
    → ((command : Command) → (found ≡ Some command) ↔ AsksFor words command) → (command : Command) → (None ≡ Some command) ↔ (AsksFor words command × (runs_threads command ≡ threads))
among_others words found c runs threads is own other tell command = (
  λ h. absurd (no_some command h),
  λ a. absurd (other_bool runs threads other (own ∙ subst (λ x. runs_threads x ≡ threads) (some_is command c (sym ((tell command).1 a.0) ∙ is)) a.1)),
)

pub among_none : (words : List (List ℕ)) (found : Option Command) (threads : Bool) → found ≡ None
    → ((command : Command) → (found ≡ Some command) ↔ AsksFor words command) → (command : Command) → (None ≡ Some command) ↔ (AsksFor words command × (runs_threads command ≡ threads))
among_none words found threads is tell command = (
  λ h. absurd (no_some command h),
  λ a. absurd (no_some command (sym is ∙ (tell command).1 a.0)),
)
