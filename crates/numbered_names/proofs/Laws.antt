-- A valid module with numbered names is valid, none of its names is made, and it runs as the module.
use Rattle.std.proofs.Common.{◌≡◌, ◌≢◌, ℕ, suc, ◌+◌, ◌^◌, ◌<◌, ◌≤◌, ℤ, List, [], ◌∷◌, ◌++◌, length, length-append, refl, sym, ap, ◌∙◌, subst, arith, Bool, true, false, map}
use Rattle.std.specs.Prelude.{◌||◌, Option, Some, None, if◌then◌else◌}
use Rattle.std.proofs.lemmas.List.{length-map, map-append}
use Rattle.affine_ast.specs.declared.image.Image.{Image}
use Rattle.affine_ast.specs.declared.module.Arg.{Arg}
use Rattle.affine_ast.specs.declared.module.Module.{Module}
use Rattle.affine_ast.specs.declared.name.Name.{Name}
use Rattle.affine_ast.specs.Names.{same_name}
use Rattle.affine_ast.specs.Nest.{Plain, Nest, Nothing, Loop, Branch, Does, Value, Load, Store, RawLoad, RawStore, Constant, Binary, Cast, Alloc, Dealloc, Start, Wait, Return, nest}
use Rattle.affine_ast.specs.Parts.{results_of}
use Rattle.affine_ast.specs.Rules.{is_in}
use Rattle.affine_ast.specs.Scope.{Totals, Around}
use Rattle.affine_ast.specs.Validity.{Told, Passed, told, outside, told_arguments, told_module, broken_of, first_broken, IsValid}
use Rattle.affine_ast.proofs.Names.{same_name-refl}
use Rattle.valid_laws.proofs.Passing.{passed_of}
use Rattle.bus_model.specs.declared.step.Verdict.TheVariants as verdict
use Rattle.direct_meaning.specs.Direct.{Outcome, End, Fault, folded, verdict_of, state_of}
use Rattle.direct_meaning.specs.Actions.{actions}
use Rattle.direct_meaning.specs.Memory.{Fits, FitsArgs, start_env, module_actions}
use Rattle.prompt_semantics.specs.Device.{Device}
use Rattle.prompt_semantics.specs.Prompt.{prompt_step, first_device, prompt, prompt_verdict, prompt_slow, prompt_numbers}
use Rattle.placement_texts.specs.Own.{OwnNames, OwnNest}
use Rattle.placement_texts.specs.Renamed.{named, plain_named, KeepsApart, RenamesScope}
use Rattle.rename_laws.specs.Law.{SameOutcome, SameUnder}
use Rattle.rename_laws.proofs.Told.{told_are}
use Rattle.rename_laws.proofs.Runs.{runs_are}
use Rattle.numbered_names.specs.Numbers.{defined, value_names, made_of, number_of, numbered_name, numbered_arg, IsNumbered}
use Rattle.numbered_names.specs.Law.{NumberedIsValid, NoneIsMade, NumberedRuns, NumberedFits}
use Rattle.numbered_names.proofs.Owned.{own_append, OwnScope, text_own}
use Rattle.numbered_names.proofs.Counts.{counts}
use Rattle.numbered_names.proofs.Apart.{is_one_of, keeps_apart}
use Rattle.numbered_names.proofs.Arguments.{names_of, Behind, behind_arguments, arguments_same, start_same, fits_same}

-- ---- the names of a valid module

-- each name of a list is one of it
ones_of : (xs names : List Name) → ((n : Name) → is_one_of xs n ≡ true → is_one_of names n ≡ true) → OwnNames (is_one_of names) xs
ones_of [] names h = tt
ones_of (x ∷ xs) names h = (
  h x (ap (λ t. t || is_one_of xs x) (same_name-refl x)),
  ones_of xs names (λ n k. h n (ap (λ t. same_name x n || t) k ∙ right (same_name x n))),
)
  where
    right : (t : Bool) → (t || true) ≡ true
    right true = refl
    right false = refl

module _ (m : Module) (valid : IsValid m) where
  abbrev own : Name → Bool
  own = is_one_of (value_names m)

  names_own : OwnNames own (names_of m.args) × OwnNames own (defined (nest m.body))
  names_own = own_append own (names_of m.args) (defined (nest m.body)) (ones_of (value_names m) (value_names m) (λ n k. k))

  none_in : OwnScope own outside.scope
  unfolding is_in
  none_in x h = absurd (let e : false ≡ true = h in cc)

  passed : (t : Totals) × (told_module m ≡ Passed t)
  unfolding first_broken
  passed = passed_of (told_module m) valid

  behind : Behind own (told (nest m.body)) m.args outside passed.0
  unfolding told_module
  behind = behind_arguments own m.args (told (nest m.body)) outside passed.0 names_own.0 none_in passed.1

  own_nest : OwnNest own (nest m.body)
  own_nest = text_own own (nest m.body) behind.around passed.0 behind.told behind.scope names_own.1

  few : length (value_names m) < 2 ^ 64
  few =
      let s = behind.statements in
      let k = counts (nest m.body) behind.around passed.0 behind.told (omega (arith, s)) in
      let long = length-append (names_of m.args) (defined (nest m.body)) in
      let args = length-map m.args (λ (arg : Arg). arg.name) in
      let c = k.count in
      let d = k.few in
      let g = behind.count in
      let b = behind.few (omega arith) in
      omega (arith, long, args, c, d, g, b)

module _ (m q : Module) (is : IsNumbered m q) where
  abbrev renamed : Name → Name
  renamed = numbered_name is.underscore_count (value_names m)

  module _ (valid : IsValid m) where
    apart : KeepsApart renamed (is_one_of (value_names m))
    apart = keeps_apart is.underscore_count (value_names m) is.prefix_is (few m valid)

    first_scope : RenamesScope renamed (is_one_of (value_names m)) outside outside
    first_scope = record { scope = λ n o. refl; released = λ n o. refl; loops = refl; ifs = refl; totals = refl }

    told_same : told_module q ≡ told_module m
    unfolding told_module
    told_same =
        (λ i. told_arguments (is.args i) (told (is.body i)) outside)
        ∙ arguments_same renamed (is_one_of (value_names m)) apart m.args (told (nest m.body)) (told (named renamed (nest m.body))) outside outside (names_own m valid).0 first_scope
        (λ c d r. told_are renamed (is_one_of (value_names m)) (nest m.body) c d apart (own_nest m valid) r)

    is_valid : IsValid q
    unfolding first_broken
    is_valid = ap broken_of told_same ∙ valid

    runs : (memory : Image) (filler : ℤ) (capacity : ℕ) → SameOutcome renamed (is_one_of (value_names m)) (prompt m memory filler capacity) (prompt q memory filler capacity)
    unfolding prompt module_actions
    runs memory filler capacity =
        subst (λ xs. SameOutcome renamed (is_one_of (value_names m)) (prompt m memory filler capacity) (folded (prompt_step filler capacity) xs (first_device memory)))
        (λ i. actions (sym is.body i) (start_env (sym is.args i) memory.symbols))
        (runs_are renamed (is_one_of (value_names m)) (nest m.body) (start_env m.args memory.symbols) (start_env (map (numbered_arg renamed) m.args) memory.symbols) apart (own_nest m valid)
        (start_same renamed (is_one_of (value_names m)) apart m.args memory.symbols (names_own m valid).0) filler capacity (first_device memory) (first_device memory)
        (record { registers = λ n o. refl; slow = refl; halves = refl; live = refl; outstanding = refl; actions = refl; engine_steps = refl; peak = refl }))

-- what two such outcomes have in common
module _ (f : Name → Name) (own : Name → Bool) where
  same_verdict : (o p : Outcome Device) → SameOutcome f own o p → verdict_of p ≡ verdict_of o
  same_verdict (End x) (End y) h = refl
  same_verdict (Fault k x) (Fault j y) h = ap verdict.Fault (sym h.0)
  same_verdict (End x) (Fault j y) h = absurd h
  same_verdict (Fault k x) (End y) h = absurd h

  same_state : (o p : Outcome Device) → SameOutcome f own o p → SameUnder f own (state_of o) (state_of p)
  same_state (End x) (End y) h = h
  same_state (Fault k x) (Fault j y) h = h.1
  same_state (End x) (Fault j y) h = absurd h
  same_state (Fault k x) (End y) h = absurd h

pub numbered_valid : NumberedIsValid
numbered_valid m q is valid = is_valid m q is valid

pub numbered_runs : NumberedRuns
numbered_runs m q is valid memory fits filler capacity =
    let same = runs m q is valid memory filler capacity in
    let f = renamed m q is in
    let own = is_one_of (value_names m) in
    let s = same_state f own (prompt m memory filler capacity) (prompt q memory filler capacity) same in (
      same_verdict f own (prompt m memory filler capacity) (prompt q memory filler capacity) same,
      s.slow,
      λ i. record { actions = s.actions i; engine_steps = s.engine_steps i; peak = s.peak i },
    )

pub numbered_fits : NumberedFits
numbered_fits m q is memory fits = record { fits = subst (λ args. FitsArgs args memory.memrefs memory.symbols) (sym is.args) (fits_same (renamed m q is) m.args memory.memrefs memory.symbols fits.fits) }

-- ---- none of its names is made
module _ (f : Name → Name) where
  results_named : (q : Plain) → results_of (plain_named f q) ≡ map f (results_of q)
  results_named (Value r pick at) = refl
  results_named (Load r m at ty) = refl
  results_named (Store x m at ty) = refl
  results_named (RawLoad r m at ty) = refl
  results_named (RawStore x m at ty) = refl
  results_named (Constant r z ty) = refl
  results_named (Binary r op x y ty) = refl
  results_named (Cast r kind x from to) = refl
  results_named (Alloc r ty) = refl
  results_named (Dealloc m ty) = refl
  results_named (Start x x_at y y_at t t_at n stride types) = refl
  results_named (Wait t at n ty) = refl
  results_named Return = refl

  defined_named : (n : Nest) → defined (named f n) ≡ map f (defined n)
  unfolding defined
  defined_named Nothing = refl
  defined_named (Loop line v l u s body rest) = ap (λ l. f v ∷ l) ((λ i. defined_named body i ++ defined_named rest i) ∙ sym (map-append f (defined body) (defined rest)))
  defined_named (Branch line set names first has other rest) =
      (λ i. defined_named first i ++ (defined_named other i ++ defined_named rest i))
      ∙ ap (λ l. map f (defined first) ++ l) (sym (map-append f (defined other) (defined rest)))
      ∙ sym (map-append f (defined first) (defined other ++ defined rest))
  defined_named (Does line p rest) = (λ i. results_named p i ++ defined_named rest i) ∙ sym (map-append f (results_of p) (defined rest))

  args_named : (args : List Arg) → names_of (map (numbered_arg f) args) ≡ map f (names_of args)
  args_named [] = refl
  args_named (arg ∷ args) = ap (λ l. f arg.name ∷ l) (args_named args)

none_made : (k : ℕ) (names xs : List Name) → made_of (map (numbered_name k names) xs) ≡ []
none_made k names [] = refl
none_made k names (x ∷ xs) = by x.made refl (none_made k names xs)
  where
    unmade : (t : Bool) → x.made ≡ t → (numbered_name k names x).made ≡ false
    unmade true e = ap (λ t. (if t then number_of k names x else x).made) e
    unmade false e = ap (λ t. (if t then number_of k names x else x).made) e ∙ e

    by : (t : Bool) → x.made ≡ t → made_of (map (numbered_name k names) xs) ≡ [] → made_of (map (numbered_name k names) (x ∷ xs)) ≡ []
    by t e more = ap (λ u. if u then numbered_name k names x ∷ made_of (map (numbered_name k names) xs) else made_of (map (numbered_name k names) xs)) (unmade t e) ∙ more

pub none_is_made : NoneIsMade
none_is_made m q is =
    let k = is.underscore_count in
    let f = renamed m q is in
    ap made_of ((λ i. names_of (is.args i) ++ defined (is.body i)) ∙ (λ i. args_named f m.args i ++ defined_named f (nest m.body) i) ∙ sym (map-append f (names_of m.args) (defined (nest m.body))))
    ∙ none_made k (value_names m) (value_names m)
