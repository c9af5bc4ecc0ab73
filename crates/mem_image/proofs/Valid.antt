-- What validity says of the arguments of a module.
use Rattle.std.proofs.Common.{◌≡◌, ℕ, zero, suc, ◌*◌, ◌^◌, ◌<◌, ◌≤◌, List, [], ◌∷◌, ◌&&◌, ◌||◌, length, Bool, true, false, Option, Some, None, ℤ, pos, negsuc, neg_ℤ, ◌≤ℤ◌, FitsSigned, refl, sym, arith}
use Rattle.std.specs.Prelude.{not, nat_le, int_lt}
use Rattle.std.specs.Int.{w128}
use Rattle.std.specs.List.{list_all}
use Rattle.std.proofs.lemmas.Bool.Decides.{nat_tests}
use Rattle.std.proofs.lemmas.Int.{ints}
use Rattle.affine_expr.specs.declared.map.Interval.{Interval}
use Rattle.affine_ast.specs.declared.module.Arg.{Arg}
use Rattle.affine_ast.specs.declared.module.ArgKind.{ArgKind}
use Rattle.affine_ast.specs.declared.module.ArgKind.TheVariants as kind
use Rattle.affine_ast.specs.declared.module.Module.{Module}
use Rattle.affine_ast.specs.declared.name.Name.{Name}
use Rattle.affine_ast.specs.declared.types.Element.{Element}
use Rattle.affine_ast.specs.declared.types.Element.TheVariants.{I8, I16, I32, I64}
use Rattle.affine_ast.specs.Intervals.{range_or}
use Rattle.affine_ast.specs.Nest.{nest}
use Rattle.affine_ast.specs.Rules.{is_small, is_new, shape_within, sizes_positive, rank_within, arguments_within}
use Rattle.affine_ast.specs.Scope.{Around}
use Rattle.affine_ast.specs.Sizes.{element_bits, product}
use Rattle.affine_ast.specs.Validity.{rule, Told, judged, rule_of_argument, range_ordered, range_small, argument_is_slow, argument_shape, with_argument, behind_argument, told, told_arguments, outside, told_module, broken_of, first_broken, IsValid}
use Rattle.int_ops.specs.Wrapped.{InRange}
use Rattle.mem_image.specs.Forms.{count_of, range_of_kind, is_between}
use Rattle.mem_image.proofs.Numbers.{and_left, and_right, true_no}
use Rattle.mem_image.proofs.Ranges.{in_range, in_interval}
use Rattle.mem_image.proofs.Rules.{some_none}

-- ---- The rules of the arguments

pub record ArgValid (k : ArgKind) : Type 0 where
  pub small : range_small k ≡ true
  pub shape : argument_shape k ≡ true

abbrev pub ArgsValid : List Arg → Type 0
ArgsValid [] = Unit {0}
ArgsValid (arg ∷ args) = ArgValid arg.kind × ArgsValid args

holds : (number : ℕ) (b : Bool) (higher : Option ℕ) → rule number b higher ≡ None → (b ≡ true) × (higher ≡ None)
holds number true higher h = (refl, h)
holds number false higher h = absurd (some_none number h)

arg_valid : (a : Around) (n : Name) (k : ArgKind) → rule_of_argument a n k ≡ None → ArgValid k
unfolding rule_of_argument
arg_valid a n k h =
    let second = holds 2 (is_new a.scope n) _ h in
    let third = holds 3 (range_ordered k) _ second.1 in
    let ninth = holds 9 (range_small k) _ third.1 in
    let tenth = holds 10 (argument_is_slow k) _ ninth.1 in
    let last = holds 11 (argument_shape k && arguments_within (with_argument k a.totals)) None tenth.1 in
    record { small = ninth.0; shape = and_left (argument_shape k) (arguments_within (with_argument k a.totals)) last.0 }

judged_none : (line : ℕ) (o : Option ℕ) (more : Told) → broken_of (judged line o more) ≡ None → (o ≡ None) × (broken_of more ≡ None)
judged_none line None more h = (refl, h)
judged_none line (Some n) more h = absurd (let x : ⊥ = cc in x)

args_valid : (args : List Arg) (body : Around → Told) (a : Around) → broken_of (told_arguments args body a) ≡ None → ArgsValid args
unfolding told_arguments
args_valid [] body a h = tt
args_valid (arg ∷ args) body a h =
    let j = judged_none arg.line (rule_of_argument a arg.name arg.kind) (told_arguments args body (behind_argument arg.name arg.kind a)) h in
    (arg_valid a arg.name arg.kind j.0, args_valid args body (behind_argument arg.name arg.kind a) j.1)

pub valid_args : (m : Module) → IsValid m → ArgsValid m.args
unfolding first_broken told_module
valid_args m h = args_valid m.args (told (nest m.body)) outside h

-- ---- What they say of the numbers of an argument

pub record KindWell (k : ArgKind) : Type 0 where
  pub some : 0 < count_of k
  pub wide : (z : ℤ) → is_between (range_of_kind k) z ≡ true → FitsSigned w128 z

some_product : (sizes : List ℕ) → list_all (nat_le 1) sizes ≡ true → 0 < product sizes
some_product [] h = omega arith
some_product (n ∷ ns) h =
    let p = positive n (and_left (nat_le 1 n) (list_all (nat_le 1) ns) h) in
    times n (product ns) p (some_product ns (and_right (nat_le 1 n) (list_all (nat_le 1) ns) h))
  where
    positive : (n : ℕ) → nat_le 1 n ≡ true → 0 < n
    positive n h = grind (arith, nat_tests)

    times : (a b : ℕ) → 0 < a → 0 < b → 0 < a * b
    times zero b p q = absurd (omega arith)
    times (suc a) zero p q = absurd (omega arith)
    times (suc a) (suc b) p q = grind arith

some_elements : (sizes : List ℕ) → sizes_positive sizes ≡ true → 0 < product sizes
unfolding sizes_positive
some_elements sizes h = some_product sizes h

shape_some : (k : ArgKind) → argument_shape k ≡ true → 0 < count_of k
unfolding shape_within
shape_some (kind.Memref ty) h = some_elements ty.sizes (and_left (sizes_positive ty.sizes) (rank_within ty.space (length ty.sizes)) h)
shape_some (kind.Index range) h = omega arith

narrow : (z : ℤ) → neg_ℤ (pos (2 ^ 63)) ≤ℤ z → z ≤ℤ pos (2 ^ 63) → FitsSigned w128 z
narrow (pos n) l g = record { sfits = (let p : n ≤ 2 ^ 63 = omega (arith, ints) in omega arith) }
narrow (negsuc n) l g = record { sfits = (let p : n < 2 ^ 63 = omega (arith, ints) in omega arith) }

element_narrow : (e : Element) (z : ℤ) → InRange (element_bits e) z → FitsSigned w128 z
element_narrow I8 z r = let l = r.least in let m = r.most in narrow z (omega (arith, ints)) (omega (arith, ints))
element_narrow I16 z r = let l = r.least in let m = r.most in narrow z (omega (arith, ints)) (omega (arith, ints))
element_narrow I32 z r = let l = r.least in let m = r.most in narrow z (omega (arith, ints)) (omega (arith, ints))
element_narrow I64 z r = let l = r.least in let m = r.most in narrow z (omega (arith, ints)) (omega (arith, ints))

neither : (a b : Bool) → not (a || b) ≡ true → (a ≡ false) × (b ≡ false)
neither false false h = (refl, refl)
neither true b h = absurd (true_no (sym h))
neither false true h = absurd (true_no (sym h))

at_least : (a b : ℤ) → int_lt a b ≡ false → b ≤ℤ a
at_least a b h = grind (arith, ints)

small_low : (z : ℤ) → is_small z ≡ true → neg_ℤ (pos (2 ^ 62)) ≤ℤ z
small_low z h = at_least z (neg_ℤ (pos (2 ^ 62))) (neither (int_lt z (neg_ℤ (pos (2 ^ 62)))) (int_lt (pos (2 ^ 62)) z) h).0

small_high : (z : ℤ) → is_small z ≡ true → z ≤ℤ pos (2 ^ 62)
small_high z h = at_least (pos (2 ^ 62)) z (neither (int_lt z (neg_ℤ (pos (2 ^ 62)))) (int_lt (pos (2 ^ 62)) z) h).1

interval_narrow : (range : Interval) (z : ℤ) → is_small range.least ≡ true → is_small range.greatest ≡ true → is_between range z ≡ true → FitsSigned w128 z
interval_narrow range z l g b =
    let i = in_interval range z b in
    let a = i.low in
    let c = i.high in
    let d = small_low range.least l in
    let e = small_high range.greatest g in
    narrow z (omega (arith, ints)) (omega (arith, ints))

pub kind_well : (k : ArgKind) → ArgValid k → KindWell k
kind_well (kind.Memref ty) v = record {
  some = shape_some (kind.Memref ty) v.shape;
  wide = λ z b. element_narrow ty.element z (in_range (element_bits ty.element) z b);
}
kind_well (kind.Index range) v = record {
  some = omega arith;
  wide = λ z b. interval_narrow (range_or range) z (and_left (is_small (range_or range).least) (is_small (range_or range).greatest) v.small) (and_right (is_small (range_or range).least) (is_small (range_or range).greatest) v.small) b;
}
