-- Names of a plan: the memref and the outer variables are the module's; and where its memrefs lie.
use Rattle.std.proofs.Common.{◌≡◌, ◌⊎◌, inl, inr, ℕ, zero, suc, ◌+◌, ◌*◌, ◌≤◌, ℤ, pos, List, [], ◌∷◌, ◌++◌, length, drop, Bool, true, false, Option, Some, None, refl, sym, ap, ◌∙◌, subst, arith, length-append}
use Rattle.std.specs.Prelude.{fold, slice_index_or, flat_map, if◌then◌else◌, nat_eq}
use Rattle.std.specs.Ordering.{int_eq}
use Rattle.affine_ast.specs.declared.image.Cells.{Cells}
use Rattle.affine_ast.specs.declared.image.Image.{Image}
use Rattle.affine_ast.specs.declared.module.Arg.{Arg}
use Rattle.affine_ast.specs.declared.module.ArgKind.{ArgKind}
use Rattle.affine_ast.specs.declared.module.ArgKind.TheVariants as kind
use Rattle.affine_ast.specs.declared.module.Module.{Module}
use Rattle.affine_ast.specs.declared.name.Name.{Name}
use Rattle.affine_ast.specs.declared.types.MemrefType.{MemrefType}
use Rattle.affine_ast.specs.Names.{same_name, put}
use Rattle.affine_ast.proofs.Names.{put-same, same_name-is}
use Rattle.affine_ast.specs.Nest.{Nest, Nothing, Loop, Branch, Does, nest}
use Rattle.affine_ast.specs.Scope.{MemrefArgument, Scope, Around}
use Rattle.affine_ast.specs.Sizes.{product}
use Rattle.affine_ast.specs.Validity.{IsValid, outside, behind_argument}
use Rattle.direct_meaning.specs.Action.{Home, SlowMemref}
use Rattle.direct_meaning.specs.Memory.{FitsArg, FitsArgs, Fits, Placed, place_kind, place_arg, slow_list, empty_env, start_env}
use Rattle.valid_laws.proofs.SafeStart.{ArgumentHolds, behind_arguments, ArgumentsHold}
use Rattle.nest_domain.specs.Boxes as region
use Rattle.nest_domain.specs.Ways.{loop_names}
use Rattle.nest_domain.specs.Domains.{names_of, symbol_names}
use Rattle.placement_texts.specs.Own.{OwnNames, OwnNest}
use Rattle.placement_texts.specs.Regions.{OwnDims}
use Rattle.placement_texts.specs.Spots.{Spot, Here, Behind, Inside, Other}
use Rattle.placement_texts.specs.Template.{Dimension, dim_extents, term_names}
use Rattle.placement_texts.specs.Valid.{HasArgument, OwnArguments}
use Rattle.placement_texts.proofs.ApartValid.{Beside, Laid, Begun, begun_all, argument_there}
use Rattle.placement_regions.specs.Sites.{way_to, terms_over, dims_over, ExtentsFit}
use Rattle.placement_regions.proofs.Known.{Begins, begins}

-- ---- names
module _ (own : Name → Bool) where
  pub own_memref : (args : List Arg) (n : Name) (k : ArgKind) → OwnArguments own args → HasArgument args n k → own n ≡ true
  own_memref [] n k o h = absurd h
  own_memref (arg ∷ args) n k o (inl h) = ap own (sym h.0) ∙ o.0
  own_memref (arg ∷ args) n k o (inr h) = own_memref args n k o.1 h

  own_append : (ns ms : List Name) → OwnNames own ns → OwnNames own ms → OwnNames own (ns ++ ms)
  own_append [] ms h k = k
  own_append (n ∷ ns) ms h k = (h.0, own_append ns ms h.1 k)

  own_kind : (k : ArgKind) (n : Name) → own n ≡ true → OwnNames own (names_of k n)
  own_kind (kind.Memref ty) n h = tt
  own_kind (kind.Index range) n h = (h, tt)

  own_symbols : (args : List Arg) → OwnArguments own args → OwnNames own (symbol_names args)
  own_symbols [] o = tt
  own_symbols (arg ∷ args) o = own_append (names_of arg.kind arg.name) (symbol_names args) (own_kind arg.kind arg.name o.0) (own_symbols args o.1)

  own_loops : (s : Spot) (n : Nest) → OwnNest own n → OwnNames own (loop_names (way_to s n))
  own_loops s Nothing h = nothing s
    where
      nothing : (s : Spot) → OwnNames own (loop_names (way_to s Nothing))
      nothing Here = tt
      nothing (Behind s) = tt
      nothing (Inside s) = tt
      nothing (Other s) = tt
  own_loops Here (Loop line v l u step body rest) h = tt
  own_loops (Behind s) (Loop line v l u step body rest) h = own_loops s rest h.4
  own_loops (Inside s) (Loop line v l u step body rest) h = (h.0, own_loops s body h.3)
  own_loops (Other s) (Loop line v l u step body rest) h = tt
  own_loops Here (Branch line set ns first has other rest) h = tt
  own_loops (Behind s) (Branch line set ns first has other rest) h = own_loops s rest h.3
  own_loops (Inside s) (Branch line set ns first has other rest) h = own_loops s first h.1
  own_loops (Other s) (Branch line set ns first has other rest) h = own_loops s other h.2
  own_loops Here (Does line q rest) h = tt
  own_loops (Behind s) (Does line q rest) h = own_loops s rest h.1
  own_loops (Inside s) (Does line q rest) h = tt
  own_loops (Other s) (Does line q rest) h = tt

  own_terms : (ns : List Name) (cs : List ℤ) → OwnNames own ns → OwnNames own (term_names (terms_over ns cs))
  own_terms [] cs h = tt
  own_terms (n ∷ ns) [] h = tt
  own_terms (n ∷ ns) (c ∷ cs) h = by (int_eq c (pos 0)) (own_terms ns cs h.1)
    where
      by : (t : Bool) → OwnNames own (term_names (terms_over ns cs)) → OwnNames own (term_names (if t then terms_over ns cs else (n, c) ∷ terms_over ns cs))
      by true k = k
      by false k = (h.0, k)

  own_dims : (ns : List Name) (ds : List region.Dimension) (sizes : List ℕ) → OwnNames own ns → OwnDims own (dims_over ns ds sizes)
  own_dims ns [] sizes h = tt
  own_dims ns (d ∷ ds) [] h = tt
  own_dims ns (d ∷ ds) (n ∷ sizes) h = (own_terms ns d.coefs h, own_dims ns ds sizes h)

  pub placement_dims : (args : List Arg) (s : Spot) (n : Nest) (ds : List region.Dimension) (sizes : List ℕ) → OwnArguments own args → OwnNest own n → OwnDims own (dims_over (symbol_names args ++ loop_names (way_to s n)) ds sizes)
  placement_dims args s n ds sizes o h = own_dims (symbol_names args ++ loop_names (way_to s n)) ds sizes (own_append (symbol_names args) (loop_names (way_to s n)) (own_symbols args o) (own_loops s n h))

-- ---- the box has an element
pub some_elements : (ds : List Dimension) → ExtentsFit ds → 1 ≤ product (dim_extents ds)
some_elements [] h = omega arith
some_elements (d ∷ ds) h = positive d.extent (product (dim_extents ds)) h.0 (some_elements ds h.2)
  where
    positive : (a b : ℕ) → 1 ≤ a → 1 ≤ b → 1 ≤ a * b
    positive a b p q = grind (arith, p, q)

-- ---- where memrefs lie
abbrev first_in : Option Home → ℕ
first_in (Some (SlowMemref k f)) = f
first_in h = 0

-- an argument ends within the slow list
pub argument_fits : (args : List Arg) (a : Around) (p : Placed) (cells : List Cells) → ArgumentsHold args a → FitsArgs args cells p.symbols → (n : Name) (ty : MemrefType) → HasArgument args n (kind.Memref ty)
    → (order first : ℕ) → (fold place_arg p args).env.home n ≡ Some (SlowMemref order first) → first + product ty.sizes ≤ p.elements + length (slow_list cells)
argument_fits [] a p cells h fits n ty there order first home = absurd there
argument_fits (arg ∷ args) a p cells h fits n ty there order first home =
    by_kind arg.kind arg.name cells (λ a p cells h fits there home. argument_fits args a p cells h fits n ty there order first home) (λ a p cells h fits. begins args a p cells h fits) h.0 h.1 fits there home
  where
    by_kind : (k : ArgKind) (name : Name) (cells : List Cells)
        → ((a : Around) (p : Placed) (cells : List Cells) → ArgumentsHold args a → FitsArgs args cells p.symbols → HasArgument args n (kind.Memref ty) → (fold place_arg p args).env.home n ≡ Some (SlowMemref order first) → first + product ty.sizes ≤ p.elements + length (slow_list cells))
        → ((a : Around) (p : Placed) (cells : List Cells) → ArgumentsHold args a → FitsArgs args cells p.symbols → Begins (symbol_names args) p.symbols a p.env (behind_arguments args a) (fold place_arg p args).env)
        → ArgumentHolds a name k → ArgumentsHold args (behind_argument name k a) → FitsArg k (FitsArgs args) cells p.symbols
        → ((name ≡ n) × (k ≡ kind.Memref ty)) ⊎ HasArgument args n (kind.Memref ty) → (fold place_arg (place_kind k name p) args).env.home n ≡ Some (SlowMemref order first) → first + product ty.sizes ≤ p.elements + length (slow_list cells)
    by_kind (kind.Memref of) name [] later begun holds others fits there home = absurd fits
    by_kind (kind.Memref of) name (c ∷ cells) later begun holds others fits (inr there) home =
        let k = later (behind_argument name (kind.Memref of) a) (place_kind (kind.Memref of) name p) cells others fits.2 there home in
        let long = fits.0 in
        omega (arith, k, long, length-append c.values (slow_list cells))
    by_kind (kind.Memref of) name (c ∷ cells) later begun holds others fits (inl same) home =
        let q = place_kind (kind.Memref of) name p in
        let b = begun (behind_argument name (kind.Memref of) a) q cells others fits.2 in
        let is = same_name-is name n same.0 in
        let kept = b.kept.home n _ (put-same a.scope name _ n is) in
        let at : p.elements ≡ first = ap first_in (sym (put-same p.env.home name (Some (SlowMemref p.memrefs p.elements)) n is) ∙ sym kept ∙ home) in
        let sizes : product of.sizes ≡ product ty.sizes = ap size_of same.1 in
        let long = fits.0 in
        omega (arith, at, sizes, long, length-append c.values (slow_list cells))
      where
        size_of : ArgKind → ℕ
        size_of (kind.Memref t) = product t.sizes
        size_of (kind.Index range) = 0
    by_kind (kind.Index range) name cells later begun holds others fits (inl same) home = absurd (let e = same.1 in let z : ⊥ = cc in z)
    by_kind (kind.Index range) name cells later begun holds others fits (inr there) home = symbols p.symbols refl fits
      where
        symbols : (zs : List ℤ) → p.symbols ≡ zs → FitsArg (kind.Index range) (FitsArgs args) cells zs → first + product ty.sizes ≤ p.elements + length (slow_list cells)
        symbols [] is f = absurd f
        symbols (z ∷ zs) is f = later (behind_argument name (kind.Index range) a) (place_kind (kind.Index range) name p) cells others (subst (FitsArgs args cells) (sym (ap (drop 1) is)) f.1) there home

-- a memref argument stands in space 0
pub argument_space : (args : List Arg) (a : Around) (n : Name) (ty : MemrefType) → ArgumentsHold args a → HasArgument args n (kind.Memref ty) → ty.space ≡ 0
argument_space [] a n ty h k = absurd k
argument_space (arg ∷ args) a n ty h (inl k) = by arg.kind k.1 h.0
  where
    by : (x : ArgKind) → x ≡ kind.Memref ty → ArgumentHolds a arg.name x → ty.space ≡ 0
    by x e holds = let t = (subst (ArgumentHolds a arg.name) e holds).slow in grind (arith, t)
argument_space (arg ∷ args) a n ty h (inr k) = argument_space args (behind_argument arg.name arg.kind a) n ty h.1 k

-- two memref arguments lie beside one another
pub arguments_beside : (args : List Arg) (symbols : List ℤ) → ArgumentsHold args outside → (n n' : Name) (ty ty' : MemrefType) (o f o' f' : ℕ) → HasArgument args n (kind.Memref ty) → HasArgument args n' (kind.Memref ty')
    → (start_env args symbols).home n ≡ Some (SlowMemref o f) → (start_env args symbols).home n' ≡ Some (SlowMemref o' f') → same_name n n' ≡ false → Beside f ty.sizes f' ty'.sizes
unfolding start_env
arguments_beside args symbols hold n n' ty ty' o f o' f' h h' k k' differ =
    let begun = begun_all args outside (record { env = empty_env; memrefs = 0; elements = 0; symbols = symbols }) hold (record {
      laid = record { below = λ n ty h. absurd (let z : ⊥ = cc in z); apart = λ n n' ty ty' o f o' f' h h' k k' differ. absurd (let z : ⊥ = cc in z) };
      pure = λ n. tt;
    }) in
    begun.laid.apart n n' ty ty' o f o' f' (argument_there args outside n ty hold h) (argument_there args outside n' ty' hold h') k k' differ
