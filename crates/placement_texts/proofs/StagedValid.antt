-- A module in which one more memref is staged is valid, where the tests pass.
use Rattle.std.proofs.Common.{◌≡◌, inl, inr, ℕ, List, [], ◌∷◌, refl, sym, ap, ◌∙◌, subst, Bool, true, false}
use Rattle.std.specs.Prelude.{Option, Some, None}
use Rattle.affine_ast.specs.declared.module.Arg.{Arg}
use Rattle.affine_ast.specs.declared.module.ArgKind.{ArgKind}
use Rattle.affine_ast.specs.declared.module.ArgKind.TheVariants as kind
use Rattle.affine_ast.specs.declared.name.Name.{Name}
use Rattle.affine_ast.proofs.Names.{put-same, put-other, same_name-is}
use Rattle.affine_ast.specs.Nest.{Nest, nest}
use Rattle.affine_ast.specs.Scope.{Totals, Around}
use Rattle.affine_ast.specs.Validity.{Told, Broken, Passed, judged, told, rule_of_argument, binding_of_kind, behind_argument, told_arguments, told_module, outside, broken_of, first_broken}
use Rattle.valid_laws.proofs.Passing.{judged_passed, passed_of}
use Rattle.valid_laws.proofs.SafeStart.{behind_arguments, ArgumentsHold, arguments_hold}
use Rattle.placement_texts.specs.Template.{Placement, slow_type}
use Rattle.placement_texts.specs.Spots.{staged_at}
use Rattle.placement_texts.specs.Tests.{is_tested, BreaksOnlyTested, Fresh, Argued, DimsStand, scope_at}
use Rattle.placement_texts.specs.Valid.{HasArgument, OwnArguments, scope_behind_arguments, StagedIsValid}
use Rattle.placement_texts.proofs.Follows.{apart_own}
use Rattle.placement_texts.proofs.ScopedTexts.{new_apart}
use Rattle.placement_texts.proofs.Block.{text_valid}

-- arguments that pass before one text pass before another
pub arguments_told : (args : List Arg) (n n' : Nest) (a : Around) (t : Totals) → told_arguments args (told n) a ≡ Passed t
    → (told n (behind_arguments args a) ≡ Passed t) × (told_arguments args (told n') a ≡ told n' (behind_arguments args a))
unfolding told_arguments
arguments_told [] n n' a t h = (h, refl)
arguments_told (arg ∷ args) n n' a t h =
    let j = judged_passed arg.line (rule_of_argument a arg.name arg.kind) _ t h in
    let r = arguments_told args n n' (behind_argument arg.name arg.kind a) t j.1 in
    (r.0, ap (λ o. judged arg.line o (told_arguments args (told n') (behind_argument arg.name arg.kind a))) j.0 ∙ r.1)

pub scope_is : (args : List Arg) (a : Around) → (behind_arguments args a).scope ≡ scope_behind_arguments args a.scope
scope_is [] a = refl
scope_is (arg ∷ args) a = scope_is args (behind_argument arg.name arg.kind a)

released_is : (args : List Arg) (a : Around) → (behind_arguments args a).released ≡ a.released
released_is [] a = refl
released_is (arg ∷ args) a = released_is args (behind_argument arg.name arg.kind a)

pub arguments_fresh : (own : Name → Bool) (args : List Arg) (a : Around) → OwnArguments own args → Fresh own a → Fresh own (behind_arguments args a)
arguments_fresh own [] a o f = f
arguments_fresh own (arg ∷ args) a o f =
    arguments_fresh own args (behind_argument arg.name arg.kind a) o.1 (λ n h. (put-other a.scope arg.name _ n (apart_own own arg.name n o.0 h) ∙ (f n h).0, (f n h).1))

module _ (p : Placement) where
  still_argued : (args : List Arg) (a : Around) → ArgumentsHold args a → Argued p a → Argued p (behind_arguments args a)
  still_argued [] a h k = k
  still_argued (arg ∷ args) a h k =
      still_argued args (behind_argument arg.name arg.kind a) h.1
      (record { scope = put-other a.scope arg.name _ p.memref (new_apart a arg.name p.memref _ h.0.new_name k.scope) ∙ k.scope; live = k.live })

  pub arguments_argued : (args : List Arg) (a : Around) → ArgumentsHold args a → a.released p.memref ≡ false → HasArgument args p.memref (kind.Memref (slow_type p)) → Argued p (behind_arguments args a)
  arguments_argued [] a h l k = absurd k
  arguments_argued (arg ∷ args) a h l (inl k) =
      still_argued args (behind_argument arg.name arg.kind a) h.1
      (record { scope = put-same a.scope arg.name _ p.memref (same_name-is arg.name p.memref k.0) ∙ ap (λ x. Some (binding_of_kind x)) k.1; live = l })
  arguments_argued (arg ∷ args) a h l (inr k) = arguments_argued args (behind_argument arg.name arg.kind a) h.1 l k

own_memref : (own : Name → Bool) (args : List Arg) (n : Name) (k : ArgKind) → OwnArguments own args → HasArgument args n k → own n ≡ true
own_memref own [] n k o h = absurd h
own_memref own (arg ∷ args) n k o (inl h) = ap own (sym h.0) ∙ o.0
own_memref own (arg ∷ args) n k o (inr h) = own_memref own args n k o.1 h

-- what breaks no rule but tested ones, and no tested one, breaks none
none_broken : (x : Told) (o : Option (ℕ × ℕ)) → broken_of x ≡ o → BreaksOnlyTested x → ((line n : ℕ) → o ≡ Some (line, n) → is_tested n ≡ false) → o ≡ None
none_broken (Passed t) o is h k = sym is
none_broken (Broken line n) o is h k = let z : true ≡ false = sym h ∙ k line n (sym is) in absurd (cc)

pub staged_valid : StagedIsValid
unfolding first_broken told_module
staged_valid own p s m m' valid fits is tests =
    let passed = passed_of (told_arguments m.args (told (nest m.body)) outside) valid in
    let next = staged_at p s (nest m.body) in
    let r = arguments_told m.args (nest m.body) next outside passed.0 passed.1 in
    let hold = arguments_hold m.args (nest m.body) outside passed.0 passed.1 in
    let a = behind_arguments m.args outside in
    let told_is : told_arguments m'.args (told (nest m'.body)) outside ≡ told next a =
    (λ i. told_arguments (is.arguments i) (told (is.body i)) outside) ∙ r.1 in
    let only : BreaksOnlyTested (told next a) =
    text_valid own p fits.names (own_memref own m.args p.memref _ fits.own_arguments fits.memref) fits.own_dims fits.numbers s (nest m.body) a a passed.0 fits.loop r.0 fits.own_text
    (record { scope = λ n h. refl; released = λ n h. refl })
    (arguments_fresh own m.args outside fits.own_arguments (λ n h. (refl, refl)))
    (arguments_argued p m.args outside hold refl fits.memref)
    (subst (λ x. DimsStand (scope_at s (nest m.body) x) p.dims) (sym (scope_is m.args outside)) fits.dims) in
    none_broken (told next a) (broken_of (told_arguments m'.args (told (nest m'.body)) outside)) (ap broken_of (sym told_is)) only tests
