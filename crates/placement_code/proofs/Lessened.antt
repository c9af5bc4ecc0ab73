-- An expression less a number, and subscripts less the places of a box.
use Rattle.std.proofs.Common.{◌≡◌, ℕ, suc, ◌+◌, ◌≤◌, ◌<◌, ℤ, pos, ◌-ℤ◌, ◌≤ℤ◌, Bool, true, false, List, [], ◌∷◌, ◌++◌, drop, length, get_or, refl, sym, ap, ◌∙◌, subst, arith}
use Rattle.std.specs.Prelude.{Option, Some, None, if◌then◌else◌}
use Rattle.std.specs.Ordering.{int_eq}
use Rattle.std.proofs.lemmas.Int.{ints, clamps}
use Rattle.std.proofs.lemmas.List.{drop_more, drop_all, append_assoc, append-nil}
use Rattle.affine_expr.specs.declared.expr.Expr.{Expr, Dim, Const, Sub, roll-Expr, out-Expr, roll-out-Expr, fold-roll-Expr, fold-Expr}
use Rattle.affine_expr.specs.declared.expr.Expr.TheOpen.{Expr-F}
use Rattle.affine_expr.specs.declared.expr.Expr.TheVariants.{rolls-Const}
use Rattle.affine_ast.specs.declared.name.Name.{Name}
use Rattle.placement_texts.specs.Template.{Dimension, number_step, number_of, less_by, less, clamp, begin, begins_from, less_places}
use Rattle.placement_code.specs.Beginnings.{has_none, fixed_place, behind_one}
use Rattle.valid_laws.specs.Safe.{IsSmall}
use Rattle.placement_code.specs.Small.{IsPlace, IsWell}
use Rattle.placement_code.specs.Redirects.{less_one, less_dims, SmallWhere, HasSmall}

pub number_const : (z : ℤ) → number_of (Const z) ≡ Some z
unfolding number_of
number_const z = ap (fold-Expr (Option ℤ) number_step) (sym (rolls-Const z)) ∙ fold-roll-Expr (Option ℤ) number_step (Expr-F.Const z)

pub number_other : (e : Expr) → ((z : ℤ) → e ≡ Const z → ⊥) → number_of e ≡ None
unfolding number_of
number_other e other = by (out-Expr e) (roll-out-Expr e)
  where
    by : (x : Expr-F Expr) → roll-Expr x ≡ e → fold-Expr (Option ℤ) number_step e ≡ None
    by (Expr-F.Const z) is = absurd (other z (sym is ∙ rolls-Const z))
    by x is = ap (fold-Expr (Option ℤ) number_step) (sym is) ∙ fold-roll-Expr (Option ℤ) number_step x

pub less_const : (e : Expr) (k z : ℤ) → e ≡ Const k → less e z ≡ Const (k -ℤ z)
less_const e k z is = ap (λ e. less e z) is ∙ ap (λ o. less_by o (Const k) z) (number_const k)

pub less_other : (e : Expr) (z : ℤ) → ((k : ℤ) → e ≡ Const k → ⊥) → less e z ≡ (if int_eq z (pos 0) then e else Sub e (Const z))
less_other e z other = ap (λ o. less_by o e z) (number_other e other)

pub small_const : (e : Expr) (k : ℤ) → e ≡ Const k → HasSmall e → IsSmall k
small_const e k is small = subst SmallWhere (ap number_of is ∙ number_const k) small

-- a place that is a number
clamped_place : (d : Dimension) → IsSmall d.offset → IsPlace (clamp d d.offset)
clamped_place d s = let l = s.least in let m = s.most in record { least = omega (arith, ints, clamps); most = omega (arith, ints, clamps) }

pub fixed_is_place : (d : Dimension) → IsWell d → has_none d.terms ≡ true → IsPlace (fixed_place d)
fixed_is_place d w none = by d.clamped (w.begins none)
  where
    by : (c : Bool) → (c ≡ false → pos 0 ≤ℤ d.offset) → IsPlace (if c then clamp d d.offset else d.offset)
    by true h = clamped_place d w.offset
    by false h = record { least = h refl; most = w.offset.most }

-- the names of a placement don't count
module _ (name : ℕ → Name) where
  less_cons : (m k : ℕ) (e : Expr) (es : List Expr) (d : Dimension) (ds : List Dimension) → less_places m (e ∷ es) (begins_from name k (d ∷ ds)) ≡ less_one m e d ∷ less_places (behind_one m d) es (begins_from name (suc k) ds)
  less_cons m k e es d ds = by d.terms
    where
      by : (ts : List (Name × ℤ)) → less_places m (e ∷ es) (begin name k d ts ∷ begins_from name (suc k) ds)
          ≡ (if has_none ts then less e (fixed_place d) else Sub e (Dim m)) ∷ less_places (if has_none ts then m else suc m) es (begins_from name (suc k) ds)
      by [] = refl
      by (t ∷ ts) = refl

  pub less_dims_is : (m k : ℕ) (es : List Expr) (ds : List Dimension) → less_dims m es ds ≡ less_places m es (begins_from name k ds)
  less_dims_is m k [] [] = refl
  less_dims_is m k [] (d ∷ ds) = refl
  less_dims_is m k (e ∷ es) [] = refl
  less_dims_is m k (e ∷ es) (d ∷ ds) = ap (λ xs. less_one m e d ∷ xs) (less_dims_is (behind_one m d) (suc k) es ds) ∙ sym (less_cons m k e es d ds)

-- ---- one step over the subscripts
pub less_turn : (es : List Expr) (i m next : ℕ) (e made : Expr) (d : Dimension) (ds rest : List Dimension) (out new total : List Expr) → i < length es → e ≡ get_or es i e → rest ≡ d ∷ ds
    → made ≡ less_one m e d → new ≡ out ++ made ∷ [] → next ≡ behind_one m d → total ≡ out ++ less_dims m (drop i es) rest → total ≡ new ++ less_dims next (drop (i + 1) es) ds
less_turn es i m next e made d ds rest out new total h is first made_is pushed next_is so =
    so ∙ ap (λ ds. out ++ less_dims m (drop i es) ds) first
    ∙ ap (λ es. out ++ less_dims m es (d ∷ ds)) (drop_more es i e h)
    ∙ ap (λ e. out ++ less_dims m (e ∷ drop (i + 1) es) (d ∷ ds)) (sym is)
    ∙ sym (append_assoc out (less_one m e d ∷ []) (less_dims (behind_one m d) (drop (i + 1) es) ds))
    ∙ ap (λ x. (out ++ x ∷ []) ++ less_dims (behind_one m d) (drop (i + 1) es) ds) (sym made_is)
    ∙ ap (λ out. out ++ less_dims (behind_one m d) (drop (i + 1) es) ds) (sym pushed)
    ∙ ap (λ k. new ++ less_dims k (drop (i + 1) es) ds) (sym next_is)

-- behind the last dimension
no_dims : (m : ℕ) (es : List Expr) (ds : List Dimension) → length ds ≡ 0 → less_dims m es ds ≡ es
no_dims m [] ds e = refl
no_dims m (x ∷ es) [] e = refl
no_dims m (x ∷ es) (d ∷ ds) e = absurd (let z : ⊥ = omega (arith, e) in z)

pub less_over : (es : List Expr) (i m : ℕ) (e made : Expr) (rest : List Dimension) (out new total : List Expr) → i < length es → e ≡ get_or es i e → length rest ≡ 0
    → made ≡ e → new ≡ out ++ made ∷ [] → total ≡ out ++ less_dims m (drop i es) rest → total ≡ new ++ less_dims m (drop (i + 1) es) rest
less_over es i m e made rest out new total h is none made_is pushed so =
    so
    ∙ ap (λ xs. out ++ xs) (no_dims m (drop i es) rest none)
    ∙ ap (λ xs. out ++ xs) (drop_more es i e h)
    ∙ ap (λ e. out ++ (e ∷ drop (i + 1) es)) (sym is ∙ sym made_is)
    ∙ sym (append_assoc out (made ∷ []) (drop (i + 1) es))
    ∙ ap (λ out. out ++ drop (i + 1) es) (sym pushed)
    ∙ ap (λ xs. new ++ xs) (sym (no_dims m (drop (i + 1) es) rest none))

pub less_end : (es : List Expr) (i m : ℕ) (rest : List Dimension) (out total : List Expr) → length es ≤ i → total ≡ out ++ less_dims m (drop i es) rest → out ≡ total
less_end es i m rest out total h so = sym (so ∙ ap (λ es. out ++ less_dims m es rest) (drop_all i es h) ∙ by rest)
  where
    by : (ds : List Dimension) → out ++ less_dims m [] ds ≡ out
    by ds = append-nil out

-- a dimension of the map more, and a dimension of the box less
pub behind_few : (k : ℕ) (d : Dimension) (rest more : List Dimension) → rest ≡ d ∷ more → behind_one k d + length more ≤ k + length rest
behind_few k d rest more e = let l = ap length e in by (has_none d.terms) l
  where
    by : (b : Bool) → length rest ≡ suc (length more) → (if b then k else suc k) + length more ≤ k + length rest
    by true l = omega (arith, l)
    by false l = omega (arith, l)
