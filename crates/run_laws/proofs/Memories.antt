-- The slow memory of an image that fits a module: its cells are in the ranges of their widths, the memref arguments lie in it one
-- behind the other, and a list of such cells makes an image that fits.
use Rattle.std.proofs.Common.{◌≡◌, ℕ, ◌+◌, ◌-◌, ◌≤◌, ◌<◌, ℤ, pos, Bool, true, false, List, [], ◌∷◌, ◌++◌, length, take, drop, refl, sym, ap, ◌∙◌, subst, arith, length-append, append_assoc}
use Rattle.std.specs.Prelude.{fold, Option, Some, replicate, nat_lt, slice_index_or, All}
use Rattle.std.proofs.lemmas.List.{get_or_append_left, get_or-append_right, get_or-append-add, get_or-replicate, length-replicate, take-append-drop, get_or-take, get_or-drop, length-take-le, length-drop, get_or_default}
use Rattle.int_ops.specs.Wrapped.{InRange}
use Rattle.affine_ast.specs.declared.image.Cells.{Cells}
use Rattle.affine_ast.specs.declared.module.Arg.{Arg}
use Rattle.affine_ast.specs.declared.module.ArgKind.{ArgKind}
use Rattle.affine_ast.specs.declared.module.ArgKind.TheVariants.{Memref, Index}
use Rattle.affine_ast.specs.declared.name.Name.{Name}
use Rattle.affine_ast.specs.declared.types.MemrefType.{MemrefType}
use Rattle.affine_ast.specs.Names.{same_name, put}
use Rattle.affine_ast.proofs.Names.{put-same, put-other}
use Rattle.affine_ast.specs.Scope.{MemrefArgument, Scope, Around}
use Rattle.affine_ast.specs.Sizes.{element_bits, product}
use Rattle.affine_ast.specs.Validity.{behind_argument}
use Rattle.direct_meaning.specs.Action.{Home, SlowMemref}
use Rattle.direct_meaning.specs.Memory.{slow_list, FitsArg, FitsArgs, Placed, place_arg}
use Rattle.valid_laws.proofs.SafeStart.{behind_arguments}
use Rattle.run_laws.specs.FitsTypes.{widths_of, slow_widths}
use Rattle.run_laws.specs.StaysFitting.{refilled}
use Rattle.run_laws.proofs.Cells.{CellsFit, LiesAt}
use Rattle.run_laws.proofs.Typed.{Lies, MemrefsLie, lies_put}

-- ---- cells in parts

by_length : {A : Type 0} (k n : ℕ) → (k < n → A) → (n ≤ k → A) → A
by_length {A = A} k n f g = by (nat_lt k n) refl
  where
    by : (t : Bool) → nat_lt k n ≡ t → A
    by true t = f (grind (arith, t))
    by false t = g (grind (arith, t))

pub cells_append : (ws vs : List ℕ) (xs ys : List ℤ) → CellsFit ws xs → CellsFit vs ys → CellsFit (ws ++ vs) (xs ++ ys)
cells_append ws vs xs ys h k = record {
  long = length-append xs ys ∙ (λ i. h.long i + k.long i) ∙ sym (length-append ws vs);
  fit = λ i less. by_length i (length ws)
      (λ below. subst (λ x. x) (λ j. InRange (sym (get_or_append_left ws vs 0 i below) j) (sym (get_or_append_left xs ys (pos 0) i (omega (arith, h.long, below))) j)) (h.fit i below))
      (λ above. subst (λ x. x) (λ j. InRange (sym (get_or-append_right ws vs (length ws) i 0 refl above) j) (sym (get_or-append_right xs ys (length ws) i (pos 0) h.long above) j))
      (k.fit (i - length ws) (omega (arith, length-append ws vs, less, above))));
}

-- one memref's cells
pub cells_of : (n bits : ℕ) (xs : List ℤ) → length xs ≡ n → All (InRange bits) xs → CellsFit (replicate n bits) xs
cells_of n bits xs e h = record {
  long = e ∙ sym (length-replicate n bits);
  fit = λ k less. let below : k < n = omega (arith, length-replicate n bits, less) in
      subst (λ w. InRange w (slice_index_or xs k (pos 0))) (sym (get_or-replicate n k bits 0 below)) (h k (pos 0) (omega (arith, e, below)));
}

-- ---- from an image that fits

kind_cells : (kind : ArgKind) (args : List Arg) (cells : List Cells) (symbols : List ℤ)
    → ((cells : List Cells) (symbols : List ℤ) → FitsArgs args cells symbols → CellsFit (slow_widths args) (slow_list cells))
    → FitsArg kind (FitsArgs args) cells symbols → CellsFit (widths_of kind ++ slow_widths args) (slow_list cells)
kind_cells (Memref ty) args [] symbols more h = absurd h
kind_cells (Memref ty) args (c ∷ cells) symbols more h = cells_append _ (slow_widths args) c.values (slow_list cells) (cells_of (product ty.sizes) (element_bits ty.element) c.values h.0 h.1) (more cells symbols h.2)
kind_cells (Index range) args cells [] more h = absurd h
kind_cells (Index range) args cells (z ∷ symbols) more h = more cells symbols h.1

pub memory_cells : (args : List Arg) (cells : List Cells) (symbols : List ℤ) → FitsArgs args cells symbols → CellsFit (slow_widths args) (slow_list cells)
memory_cells [] cells symbols h = subst (λ cs. CellsFit [] (slow_list cs)) (sym h.0) (record { long = refl; fit = λ k less. absurd (omega (arith, less)) })
memory_cells (arg ∷ args) cells symbols h = kind_cells arg.kind args cells symbols (λ cells symbols h. memory_cells args cells symbols h) h

-- ---- where the arguments lie

-- a memref more, behind those that lie before it
lies_argument : (widths : List ℕ) (s : Scope) (home : Name → Option Home) (name : Name) (ty : MemrefType) (number first : ℕ) → LiesAt widths first ty → MemrefsLie widths s home
    → MemrefsLie widths (put s name (Some (MemrefArgument ty))) (put home name (Some (SlowMemref number first)))
lies_argument widths s home name ty number first k h n = by (same_name name n) refl
  where
    by : (t : Bool) → same_name name n ≡ t → Lies widths (put s name (Some (MemrefArgument ty)) n) (put home name (Some (SlowMemref number first)) n)
    by true t = subst (λ x. x) (λ i. Lies widths (sym (put-same s name (Some (MemrefArgument ty)) n t) i) (sym (put-same home name (Some (SlowMemref number first)) n t) i)) k
    by false t = subst (λ x. x) (λ i. Lies widths (sym (put-other s name (Some (MemrefArgument ty)) n t) i) (sym (put-other home name (Some (SlowMemref number first)) n t) i)) (h n)

lies_at : (ws vs : List ℕ) (ty : MemrefType) (first : ℕ) → length ws ≡ first → LiesAt (ws ++ (replicate (product ty.sizes) (element_bits ty.element) ++ vs)) first ty
lies_at ws vs ty first e = record {
  places = omega (arith, e, length-append ws (replicate (product ty.sizes) (element_bits ty.element) ++ vs), length-append (replicate (product ty.sizes) (element_bits ty.element)) vs, length-replicate (product ty.sizes) (element_bits ty.element));
  cells = λ c less. let long = length-replicate (product ty.sizes) (element_bits ty.element) in
      ap (λ n. slice_index_or (ws ++ (replicate (product ty.sizes) (element_bits ty.element) ++ vs)) (n + c) 0) (sym e)
      ∙ get_or-append-add ws (replicate (product ty.sizes) (element_bits ty.element) ++ vs) c 0
      ∙ get_or_append_left (replicate (product ty.sizes) (element_bits ty.element)) vs 0 c (omega (arith, less, long))
      ∙ get_or-replicate (product ty.sizes) c (element_bits ty.element) 0 less;
}

kind_lies : (kind : ArgKind) (name : Name) (line : ℕ) (args : List Arg) (a : Around) (p : Placed) (ws : List ℕ)
    → ((a : Around) (p : Placed) (ws : List ℕ) → length ws ≡ p.elements → MemrefsLie (ws ++ slow_widths args) a.scope p.env.home → MemrefsLie (ws ++ slow_widths args) (behind_arguments args a).scope (fold place_arg p args).env.home)
    → length ws ≡ p.elements → MemrefsLie (ws ++ (widths_of kind ++ slow_widths args)) a.scope p.env.home
    → MemrefsLie (ws ++ (widths_of kind ++ slow_widths args)) (behind_arguments args (behind_argument name kind a)).scope (fold place_arg (place_arg p (record { name = name; kind = kind; line = line })) args).env.home
kind_lies (Memref ty) name line args a p ws more e h =
    let w = replicate (product ty.sizes) (element_bits ty.element) in
    subst (λ widths. MemrefsLie widths (behind_arguments args (behind_argument name (Memref ty) a)).scope (fold place_arg (place_arg p (record { name = name; kind = Memref ty; line = line })) args).env.home) (append_assoc ws w (slow_widths args))
    (more (behind_argument name (Memref ty) a) (place_arg p (record { name = name; kind = Memref ty; line = line })) (ws ++ w) (length-append ws w ∙ (λ i. e i + length-replicate (product ty.sizes) (element_bits ty.element) i))
    (subst (λ widths. MemrefsLie widths (put a.scope name (Some (MemrefArgument ty))) (put p.env.home name (Some (SlowMemref p.memrefs p.elements)))) (sym (append_assoc ws w (slow_widths args)))
    (lies_argument (ws ++ (w ++ slow_widths args)) a.scope p.env.home name ty p.memrefs p.elements (lies_at ws (slow_widths args) ty p.elements e) h)))
kind_lies (Index range) name line args a p ws more e h =
    more (behind_argument name (Index range) a) (place_arg p (record { name = name; kind = Index range; line = line })) ws e (lies_put (ws ++ slow_widths args) a.scope p.env.home name _ (λ w m. tt) h)

pub arguments_lie : (args : List Arg) (a : Around) (p : Placed) (ws : List ℕ) → length ws ≡ p.elements → MemrefsLie (ws ++ slow_widths args) a.scope p.env.home
    → MemrefsLie (ws ++ slow_widths args) (behind_arguments args a).scope (fold place_arg p args).env.home
arguments_lie [] a p ws e h = h
arguments_lie (arg ∷ args) a p ws e h = kind_lies arg.kind arg.name arg.line args a p ws (λ a p ws e h. arguments_lie args a p ws e h) e h

-- ---- an image of such cells

front : (ws vs : List ℕ) (xs : List ℤ) (n : ℕ) → length ws ≡ n → CellsFit (ws ++ vs) xs → CellsFit ws (take n xs)
front ws vs xs n e h = record {
  long = let k = h.long in let l = length-append ws vs in length-take-le n xs (omega (arith, k, l, e)) ∙ sym e;
  fit = λ k less. subst (λ x. x) (λ j. InRange (get_or_append_left ws vs 0 k less j) (sym (get_or-take n xs k (pos 0) (omega (arith, less, e))) j)) (h.fit k (omega (arith, length-append ws vs, less)));
}

back : (ws vs : List ℕ) (xs : List ℤ) (n : ℕ) → length ws ≡ n → CellsFit (ws ++ vs) xs → CellsFit vs (drop n xs)
back ws vs xs n e h = record {
  long = let k = h.long in let l = length-append ws vs in length-drop n xs ∙ omega (arith, k, l, e);
  fit = λ k less. subst (λ x. x) (λ j. InRange ((ap (λ m. slice_index_or (ws ++ vs) (m + k) 0) (sym e) ∙ get_or-append-add ws vs k 0) j) (sym (get_or-drop n xs k (pos 0)) j)) (h.fit (n + k) (omega (arith, length-append ws vs, less, e)));
}

values_in : (n bits : ℕ) (xs : List ℤ) → CellsFit (replicate n bits) xs → (length xs ≡ n) × All (InRange bits) xs
values_in n bits xs h = (
  h.long ∙ length-replicate n bits,
  λ k d less. let below : k < n = omega (arith, h.long, length-replicate n bits, less) in
      subst (λ x. x) (λ j. InRange (get_or-replicate n k bits 0 below j) (get_or_default xs k (pos 0) d less j)) (h.fit k (omega (arith, h.long, less))),
)

-- one argument, and those behind it
kind_refills : (kind : ArgKind) (args : List Arg) (cells : List Cells) (symbols : List ℤ) (slow : List ℤ)
    → ((cells : List Cells) (symbols : List ℤ) (slow : List ℤ) → FitsArgs args cells symbols → CellsFit (slow_widths args) slow → FitsArgs args (refilled cells slow) symbols × (slow_list (refilled cells slow) ≡ slow))
    → FitsArg kind (FitsArgs args) cells symbols → CellsFit (widths_of kind ++ slow_widths args) slow → FitsArg kind (FitsArgs args) (refilled cells slow) symbols × (slow_list (refilled cells slow) ≡ slow)
kind_refills (Memref ty) args [] symbols slow more h k = absurd h
kind_refills (Memref ty) args (c ∷ cells) symbols slow more h k =
    let n = length c.values in
    let w = replicate (product ty.sizes) (element_bits ty.element) in
    let e : length w ≡ n = length-replicate (product ty.sizes) (element_bits ty.element) ∙ sym h.0 in
    let v = values_in (product ty.sizes) (element_bits ty.element) (take n slow) (front w (slow_widths args) slow n e k) in
    let r = more cells symbols (drop n slow) h.2 (back w (slow_widths args) slow n e k) in
    ((v.0, v.1, r.0), ap (λ l. take n slow ++ l) r.1 ∙ take-append-drop n slow)
kind_refills (Index range) args cells [] slow more h k = absurd h
kind_refills (Index range) args cells (z ∷ symbols) slow more h k = let r = more cells symbols slow h.1 k in ((h.0, r.0), r.1)

none_left : (slow : List ℤ) → length slow ≡ 0 → slow ≡ []
none_left [] h = refl
none_left (z ∷ slow) h = absurd (omega (arith, h))

pub arguments_refill : (args : List Arg) (cells : List Cells) (symbols : List ℤ) (slow : List ℤ) → FitsArgs args cells symbols → CellsFit (slow_widths args) slow → FitsArgs args (refilled cells slow) symbols × (slow_list (refilled cells slow) ≡ slow)
arguments_refill [] cells symbols slow h k =
    ((ap (λ cs. refilled cs slow) h.0, h.1), ap (λ cs. slow_list (refilled cs slow)) h.0 ∙ sym (none_left slow k.long))
arguments_refill (arg ∷ args) cells symbols slow h k = kind_refills arg.kind args cells symbols slow (λ cells symbols slow h k. arguments_refill args cells symbols slow h k) h k
