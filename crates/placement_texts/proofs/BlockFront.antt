-- The statements before the loop, up to the allocations, break no rule but tested ones.
use Rattle.std.proofs.Common.{◌≡◌, ℕ, suc, ◌+◌, ◌*◌, ◌<◌, ◌^◌, ℤ, pos, List, [], ◌∷◌, length, refl, sym, ap, ◌∙◌, arith, Bool, true, false}
use Rattle.std.specs.Prelude.{◌&&◌, Option, Some, None, nat_eq, if◌then◌else◌}
use Rattle.std.specs.List.{list_all}
use Rattle.affine_expr.specs.declared.expr.Expr.{Dim, Const}
use Rattle.affine_expr.specs.Spread.{Range}
use Rattle.affine_ast.specs.declared.name.Name.{Name}
use Rattle.affine_ast.specs.declared.types.Pick.TheVariants.{Apply, Min, Max}
use Rattle.affine_ast.specs.declared.types.Scalar.TheVariants.{Index}
use Rattle.affine_ast.specs.Names.{same_name, put}
use Rattle.affine_ast.proofs.Names.{put-same, put-other, same_name-eq, same_name-refl, same_name-sym}
use Rattle.affine_ast.specs.Nest.{Plain, Nest, Does, Value, Constant, Alloc}
use Rattle.affine_ast.specs.Scope.{Binding, Variable, IndexConstant, Allocation, Scope, Around, counted, behind_plain}
use Rattle.affine_ast.specs.Sizes.{product}
use Rattle.affine_ast.specs.Rules.{is_dimension, may_be_dimension, deallocs, own_deallocs, is_released_once}
use Rattle.affine_ast.specs.Validity.{rule_of_plain, told}
use Rattle.placement_texts.specs.Own.{OwnNames, MadeNames}
use Rattle.placement_texts.specs.Regions.{OwnDims}
use Rattle.placement_texts.specs.Template.{Dimension, How, Copies, Transfers, Placement, dim_extents, fast_name, tag_name, count_name, stride_name, chunk_name, place_name, least_name, fast_type, tag_type, form, term_names, over_terms, last_place, value_or_zero, Begin, Fixed, Named, begin, begins_from, place_statement, places_from, constants, allocs}
use Rattle.placement_texts.specs.Tests.{OnlyTested, BreaksOnlyTested, TermsStand, DimsStand, ChunksWell}
use Rattle.placement_texts.proofs.Follows.{apart_own}
use Rattle.placement_texts.proofs.ScopedTexts.{judged_only}
use Rattle.placement_texts.proofs.ScopedAccess.{AreVariables}
use Rattle.placement_texts.proofs.BlockForms.{sound_form, sound_one, sound_number, length_terms, access_holds}
use Rattle.placement_texts.proofs.BlockStatements.{value_only, constant_only, alloc_only}

-- a made statement, before what follows
pub does_only : (q : Plain) (rest : Nest) (b : Around) → OnlyTested (rule_of_plain (counted b) q rest) → BreaksOnlyTested (told rest (behind_plain q (counted b))) → BreaksOnlyTested (told (Does 0 q rest) b)
unfolding told
does_only q rest b h k = judged_only 0 (rule_of_plain (counted b) q rest) _ h k

-- names in scope stay what they are
abbrev pub Keeps : Scope → Scope → Type 0
Keeps s t = (n : Name) (x : Binding) → s n ≡ Some x → t n ≡ Some x

pub put_keeps : (s : Scope) (r : Name) (y : Option Binding) → s r ≡ None → Keeps s (put s r y)
put_keeps s r y h n x k = by (same_name r n) refl
  where
    by : (t : Bool) → same_name r n ≡ t → put s r y n ≡ Some x
    by true e = let z : None ≡ Some x = sym h ∙ ap s (same_name-eq r n e) ∙ k in absurd (cc)
    by false e = put-other s r y n e ∙ k

pub variables_kept : (s t : Scope) (bs : List Begin) → Keeps s t → AreVariables s bs → AreVariables t bs
variables_kept s t [] k h = tt
variables_kept s t (Fixed z ∷ bs) k h = variables_kept s t bs k h
variables_kept s t (Named n ∷ bs) k h = (h.0, k n _ h.1, variables_kept s t bs k h.2)

module _ (own : Name → Bool) (p : Placement) (names : MadeNames own p.name) where
  pub slots_apart : (i j : ℕ) → (i ≡ j → ⊥) → same_name (p.name i) (p.name j) ≡ false
  slots_apart i j h = by (same_name (p.name i) (p.name j)) refl
    where
      by : (t : Bool) → same_name (p.name i) (p.name j) ≡ t → same_name (p.name i) (p.name j) ≡ false
      by true e = absurd (h (names.apart i j e))
      by false e = e

  pub made_apart : (i : ℕ) (n : Name) → own n ≡ true → same_name (p.name i) n ≡ false
  made_apart i n h = same_name-sym (p.name i) n ∙ apart_own own n (p.name i) h (names.made i)

  -- on the way: the text's names are as before, the made names with these numbers aren't in scope yet, and none is released
  pub record Laying (F : ℕ → Type 0) (a : Around) (s : Scope) (r : Name → Bool) : Type 0 where
    pub same : (n : Name) → own n ≡ true → s n ≡ a.scope n
    pub same_released : (n : Name) → own n ≡ true → r n ≡ a.released n
    pub free : (i : ℕ) → F i → s (p.name i) ≡ None
    pub live : (i : ℕ) → r (p.name i) ≡ false

  pub lay_fewer : (F G : ℕ → Type 0) (a : Around) (s : Scope) (r : Name → Bool) → ((i : ℕ) → G i → F i) → Laying F a s r → Laying G a s r
  lay_fewer F G a s r h l = record { same = l.same; same_released = l.same_released; free = λ i g. l.free i (h i g); live = l.live }

  -- a made name comes into scope
  pub lay_name : (F G : ℕ → Type 0) (a : Around) (s : Scope) (r : Name → Bool) (j : ℕ) (x : Option Binding) → ((i : ℕ) → G i → F i × (j ≡ i → ⊥)) → Laying F a s r → Laying G a (put s (p.name j) x) r
  lay_name F G a s r j x h l = record {
    same = λ n o. put-other s (p.name j) x n (made_apart j n o) ∙ l.same n o;
    same_released = l.same_released;
    free = λ i g. put-other s (p.name j) x (p.name i) (slots_apart j i (h i g).1) ∙ l.free i (h i g).0;
    live = l.live;
  }

  put_own : (s : Scope) (j : ℕ) (x : Option Binding) → put s (p.name j) x (p.name j) ≡ x
  put_own s j x = put-same s (p.name j) x (p.name j) (same_name-refl (p.name j))

  -- ---- places
  -- none of the numbers of names for places of the first so many dimensions
  abbrev pub Before : ℕ → ℕ → Type 0
  Before k i = (d : ℕ) → d < k → (7 + 4 * d ≡ i → ⊥) × (8 + 4 * d ≡ i → ⊥)

  terms_stand : (a : Around) (s : Scope) (ts : List (Name × ℤ)) → ((n : Name) → own n ≡ true → s n ≡ a.scope n) → OwnNames own (term_names ts) → TermsStand a.scope ts → list_all (is_dimension s) (term_names ts) ≡ true
  unfolding is_dimension
  terms_stand a s [] same o h = refl
  terms_stand a s (t ∷ ts) same o h = λ i. (ap may_be_dimension (same t.0 o.0) ∙ h.0) i && terms_stand a s ts same o.1 h.1 i

  one_stands : (s : Scope) (n : Name) (r : Range) → s n ≡ Some (Variable r) → list_all (is_dimension s) (n ∷ []) ≡ true
  unfolding is_dimension
  one_stands s n r h = λ i. may_be_dimension (h i) && true

  place_by : (c : Bool) (k : ℕ) (d : Dimension) (ts : List (Name × ℤ)) (rest : Nest) (a b : Around) → Laying (Before k) a b.scope b.released → OwnNames own (term_names ts) → TermsStand a.scope ts
      → ((b' : Around) (r : Range) → Laying (Before (suc k)) a b'.scope b'.released → Keeps b.scope b'.scope → b'.scope (place_name p.name k) ≡ Some (Variable r) → BreaksOnlyTested (told rest b'))
      → BreaksOnlyTested (told (if c
      then Does 0 (Value (least_name p.name k) Min (over_terms ts (form ts d.offset ∷ Const (last_place d) ∷ []))) (Does 0 (Value (place_name p.name k) Max (value_or_zero (least_name p.name k))) rest)
      else Does 0 (Value (place_name p.name k) Apply (over_terms ts (form ts d.offset ∷ []))) rest) b)
  place_by true k d ts rest a b l o t f =
      let at = over_terms ts (form ts d.offset ∷ Const (last_place d) ∷ []) in
      let q1 = Value (least_name p.name k) Min at in
      let q2 = Value (place_name p.name k) Max (value_or_zero (least_name p.name k)) in
      let b1 = behind_plain q1 (counted b) in
      let free1 : b.scope (least_name p.name k) ≡ None = l.free (8 + 4 * k) (λ d less. (λ e. omega (arith, e), λ e. omega (arith, e, less))) in
      let free2 : b.scope (place_name p.name k) ≡ None = l.free (7 + 4 * k) (λ d less. (λ e. omega (arith, e, less), λ e. omega (arith, e))) in
      let free2' : b1.scope (place_name p.name k) ≡ None = put-other b.scope (least_name p.name k) _ (place_name p.name k) (slots_apart (8 + 4 * k) (7 + 4 * k) (λ e. omega (arith, e))) ∙ free2 in
      let l1 = lay_name (Before k) (λ i. Before k i × (8 + 4 * k ≡ i → ⊥)) a b.scope b.released (8 + 4 * k) _ (λ i h. h) l in
      let l2 = lay_name (λ i. Before k i × (8 + 4 * k ≡ i → ⊥)) (Before (suc k)) a b1.scope b1.released (7 + 4 * k) _ (λ i h. ((λ d less. h d (omega (arith, less)), (h k (omega arith)).1), (h k (omega arith)).0)) l1 in
      does_only q1 (Does 0 q2 rest) b
      (value_only (counted b) (least_name p.name k) Min at _ (access_holds b.scope (length ts) (form ts d.offset ∷ Const (last_place d) ∷ []) (term_names ts) (length_terms ts) (sound_form ts d.offset, (sound_number (length ts) (last_place d), tt)) (terms_stand a b.scope ts l.same o t)) refl free1)
      (does_only q2 rest b1
      (value_only (counted b1) (place_name p.name k) Max (value_or_zero (least_name p.name k)) rest
      (access_holds b1.scope 1 (Dim 0 ∷ Const (pos 0) ∷ []) (least_name p.name k ∷ []) refl (sound_one, (sound_number 1 (pos 0), tt)) (one_stands b1.scope (least_name p.name k) _ (put_own b.scope (8 + 4 * k) _)))
      refl free2')
      (f (behind_plain q2 (counted b1)) _ l2 (λ n x h. put_keeps b1.scope (place_name p.name k) _ free2' n x (put_keeps b.scope (least_name p.name k) _ free1 n x h)) (put_own b1.scope (7 + 4 * k) _)))
  place_by false k d ts rest a b l o t f =
      let at = over_terms ts (form ts d.offset ∷ []) in
      let q = Value (place_name p.name k) Apply at in
      let free : b.scope (place_name p.name k) ≡ None = l.free (7 + 4 * k) (λ d less. (λ e. omega (arith, e, less), λ e. omega (arith, e))) in
      let l1 = lay_name (Before k) (Before (suc k)) a b.scope b.released (7 + 4 * k) _ (λ i h. (λ d less. h d (omega (arith, less)), (h k (omega arith)).0)) l in
      does_only q rest b
      (value_only (counted b) (place_name p.name k) Apply at rest (access_holds b.scope (length ts) (form ts d.offset ∷ []) (term_names ts) (length_terms ts) (sound_form ts d.offset, tt) (terms_stand a b.scope ts l.same o t)) refl free)
      (f (behind_plain q (counted b)) _ l1 (put_keeps b.scope (place_name p.name k) _ free) (put_own b.scope (7 + 4 * k) _))

  place_only : (k : ℕ) (d : Dimension) (ts : List (Name × ℤ)) (rest : Nest) (a b : Around) → Laying (Before k) a b.scope b.released → OwnNames own (term_names ts) → TermsStand a.scope ts
      → ((b' : Around) → Laying (Before (suc k)) a b'.scope b'.released → Keeps b.scope b'.scope → AreVariables b'.scope (begin p.name k d ts ∷ []) → BreaksOnlyTested (told rest b'))
      → BreaksOnlyTested (told (place_statement p.name k d ts rest) b)
  place_only k d [] rest a b l o t f = f b (lay_fewer (Before k) (Before (suc k)) a b.scope b.released (λ i h d less. h d (omega (arith, less))) l) (λ n x h. h) tt
  place_only k d (u ∷ ts) rest a b l o t f = place_by d.clamped k d (u ∷ ts) rest a b l o t (λ b' r l' kept is. f b' l' kept (r, is, tt))

  both_variables : (s1 s2 : Scope) (k : ℕ) (d : Dimension) (ts : List (Name × ℤ)) (bs : List Begin) → AreVariables s1 (begin p.name k d ts ∷ []) → Keeps s1 s2 → AreVariables s2 bs → AreVariables s2 (begin p.name k d ts ∷ bs)
  both_variables s1 s2 k d [] bs h kept v = v
  both_variables s1 s2 k d (t ∷ ts) bs h kept v = (h.0, kept _ _ h.1, v)

  pub places_only : (k : ℕ) (ds : List Dimension) (rest : Nest) (a b : Around) → Laying (Before k) a b.scope b.released → OwnDims own ds → DimsStand a.scope ds
      → ((n : ℕ) (b' : Around) → Laying (Before n) a b'.scope b'.released → AreVariables b'.scope (begins_from p.name k ds) → Keeps b.scope b'.scope → BreaksOnlyTested (told rest b'))
      → BreaksOnlyTested (told (places_from p.name k ds rest) b)
  places_only k [] rest a b l o t f = f k b l tt (λ n x h. h)
  places_only k (d ∷ ds) rest a b l o t f =
      place_only k d d.terms (places_from p.name (suc k) ds rest) a b l o.0 t.0
      (λ b1 l1 kept1 v1. places_only (suc k) ds rest a b1 l1 o.1 t.1 (λ n b2 l2 v2 kept2. f n b2 l2 (both_variables b1.scope b2.scope k d d.terms (begins_from p.name (suc k) ds) v1 kept2 v2) (λ n x h. kept2 n x (kept1 n x h))))

  -- ---- constants and allocations
  abbrev pub Differs : List ℕ → ℕ → Type 0
  Differs [] i = Unit {0}
  Differs (j ∷ js) i = (j ≡ i → ⊥) × Differs js i

  -- no number of a name for a place, and none of these
  abbrev pub Left : List ℕ → ℕ → Type 0
  Left js i = ((d : ℕ) → (7 + 4 * d ≡ i → ⊥) × (8 + 4 * d ≡ i → ⊥)) × Differs js i

  low : (i : ℕ) → i < 7 → (d : ℕ) → (7 + 4 * d ≡ i → ⊥) × (8 + 4 * d ≡ i → ⊥)
  low i less d = (λ e. omega (arith, e, less), λ e. omega (arith, e, less))

  pub lay_one : (js : List ℕ) (a : Around) (s : Scope) (r : Name → Bool) (j : ℕ) (x : Option Binding) → Laying (Left js) a s r → Laying (Left (j ∷ js)) a (put s (p.name j) x) r
  lay_one js a s r j x l = lay_name (Left js) (Left (j ∷ js)) a s r j x (λ i h. ((h.0, h.1.1), h.1.0)) l

  abbrev pub ChunksKnown : Option (ℕ × ℕ) → Scope → Type 0
  ChunksKnown None s = Unit {0}
  ChunksKnown (Some two) s = (s (stride_name p.name) ≡ Some (IndexConstant (pos two.0))) × (s (chunk_name p.name) ≡ Some (IndexConstant (pos two.1)))

  abbrev pub NumbersKnown : How → Scope → Type 0
  NumbersKnown Copies s = Unit {0}
  NumbersKnown (Transfers chunks) s = (s (count_name p.name) ≡ Some (IndexConstant (pos (product (dim_extents p.dims))))) × ChunksKnown chunks s

  pub numbers_kept : (how : How) (s t : Scope) → Keeps s t → NumbersKnown how s → NumbersKnown how t
  numbers_kept Copies s t k h = tt
  numbers_kept (Transfers None) s t k h = (k _ _ h.0, tt)
  numbers_kept (Transfers (Some two)) s t k h = (k _ _ h.0, (k _ _ h.1.0, k _ _ h.1.1))

  pub constants_only : (how : How) (rest : Nest) (a b : Around) → Laying (Left []) a b.scope b.released → product (dim_extents p.dims) < 2 ^ 63 → ChunksWell how
      → ((b' : Around) → Laying (Left (4 ∷ 3 ∷ 2 ∷ [])) a b'.scope b'.released → NumbersKnown how b'.scope → Keeps b.scope b'.scope → BreaksOnlyTested (told rest b'))
      → BreaksOnlyTested (told (constants p how rest) b)
  constants_only Copies rest a b l m c f = f b (lay_fewer (Left []) (Left (4 ∷ 3 ∷ 2 ∷ [])) a b.scope b.released (λ i h. (h.0, tt)) l) tt (λ n x h. h)
  constants_only (Transfers None) rest a b l m c f =
      let q = Constant (count_name p.name) (pos (product (dim_extents p.dims))) Index in
      let free : b.scope (count_name p.name) ≡ None = l.free 2 (low 2 (omega arith), tt) in
      let b1 = behind_plain q (counted b) in
      let l1 = lay_one [] a b.scope b.released 2 (Some (IndexConstant (pos (product (dim_extents p.dims))))) l in
      does_only q rest b (constant_only (counted b) (count_name p.name) (product (dim_extents p.dims)) rest m free)
      (f b1 (lay_fewer (Left (2 ∷ [])) (Left (4 ∷ 3 ∷ 2 ∷ [])) a b1.scope b1.released (λ i h. (h.0, h.1.1.1)) l1) (put_own b.scope 2 _, tt) (put_keeps b.scope (count_name p.name) _ free))
  constants_only (Transfers (Some two)) rest a b l m c f =
      let q1 = Constant (count_name p.name) (pos (product (dim_extents p.dims))) Index in
      let q2 = Constant (stride_name p.name) (pos two.0) Index in
      let q3 = Constant (chunk_name p.name) (pos two.1) Index in
      let b1 = behind_plain q1 (counted b) in
      let b2 = behind_plain q2 (counted b1) in
      let b3 = behind_plain q3 (counted b2) in
      let l1 = lay_one [] a b.scope b.released 2 (Some (IndexConstant (pos (product (dim_extents p.dims))))) l in
      let l2 = lay_one (2 ∷ []) a b1.scope b1.released 3 (Some (IndexConstant (pos two.0))) l1 in
      let l3 = lay_one (3 ∷ 2 ∷ []) a b2.scope b2.released 4 (Some (IndexConstant (pos two.1))) l2 in
      let free1 : b.scope (count_name p.name) ≡ None = l.free 2 (low 2 (omega arith), tt) in
      let free2 : b1.scope (stride_name p.name) ≡ None = l1.free 3 (low 3 (omega arith), (λ e. omega (arith, e), tt)) in
      let free3 : b2.scope (chunk_name p.name) ≡ None = l2.free 4 (low 4 (omega arith), (λ e. omega (arith, e), (λ e. omega (arith, e), tt))) in
      let kept1 : Keeps b.scope b1.scope = put_keeps b.scope (count_name p.name) _ free1 in
      let kept2 : Keeps b1.scope b2.scope = put_keeps b1.scope (stride_name p.name) _ free2 in
      let kept3 : Keeps b2.scope b3.scope = put_keeps b2.scope (chunk_name p.name) _ free3 in
      let c0 = c.0 in
      let c1 = c.1 in
      let c2 = c.2 in
      does_only q1 _ b (constant_only (counted b) (count_name p.name) (product (dim_extents p.dims)) _ m free1)
      (does_only q2 _ b1 (constant_only (counted b1) (stride_name p.name) two.0 _ (omega (arith, c2)) free2)
      (does_only q3 rest b2 (constant_only (counted b2) (chunk_name p.name) two.1 rest (omega (arith, c1, c2)) free3)
      (f b3 l3
      (kept3 _ _ (kept2 _ _ (put_own b.scope 2 _)), (kept3 _ _ (put_own b1.scope 3 _), put_own b2.scope 4 _))
      (λ n x h. kept3 n x (kept2 n x (kept1 n x h))))))

  abbrev pub TagKnown : How → Scope → Type 0
  TagKnown Copies s = Unit {0}
  TagKnown (Transfers chunks) s = s (tag_name p.name) ≡ Some (Allocation tag_type)

  pub tag_kept : (how : How) (s t : Scope) → Keeps s t → TagKnown how s → TagKnown how t
  tag_kept Copies s t k h = tt
  tag_kept (Transfers chunks) s t k h = k _ _ h

  abbrev pub OnceWhere : How → Nest → Type 0
  OnceWhere Copies rest = Unit {0}
  OnceWhere (Transfers chunks) rest = is_released_once (tag_name p.name) rest ≡ true

  through : (m n : Name) (rest : Nest) → is_released_once m rest ≡ true → is_released_once m (Does 0 (Alloc n tag_type) rest) ≡ true
  unfolding is_released_once deallocs own_deallocs
  through m n rest h =
      let e : 0 + deallocs m rest ≡ deallocs m rest = omega arith in
      let f : 0 + own_deallocs m rest ≡ own_deallocs m rest = omega arith in
      (λ i. nat_eq (e i) 1 && nat_eq (f i) 1) ∙ h

  pub allocs_only : (how : How) (rest : Nest) (a b : Around) → Laying (Left (4 ∷ 3 ∷ 2 ∷ [])) a b.scope b.released → is_released_once (fast_name p.name) rest ≡ true → OnceWhere how rest
      → ((b' : Around) → Laying (Left (1 ∷ 0 ∷ 4 ∷ 3 ∷ 2 ∷ [])) a b'.scope b'.released → b'.scope (fast_name p.name) ≡ Some (Allocation (fast_type p)) → TagKnown how b'.scope → Keeps b.scope b'.scope → BreaksOnlyTested (told rest b'))
      → BreaksOnlyTested (told (allocs p how rest) b)
  allocs_only Copies rest a b l once tag f =
      let q = Alloc (fast_name p.name) (fast_type p) in
      let b1 = behind_plain q (counted b) in
      let free : b.scope (fast_name p.name) ≡ None = l.free 0 (low 0 (omega arith), (λ e. omega (arith, e), (λ e. omega (arith, e), (λ e. omega (arith, e), tt)))) in
      let l1 = lay_one (4 ∷ 3 ∷ 2 ∷ []) a b.scope b.released 0 (Some (Allocation (fast_type p))) l in
      does_only q rest b (alloc_only (counted b) (fast_name p.name) (fast_type p) rest refl once free)
      (f b1 (lay_fewer (Left (0 ∷ 4 ∷ 3 ∷ 2 ∷ [])) (Left (1 ∷ 0 ∷ 4 ∷ 3 ∷ 2 ∷ [])) a b1.scope b1.released (λ i h. (h.0, h.1.1)) l1) (put_own b.scope 0 _) tt (put_keeps b.scope (fast_name p.name) _ free))
  allocs_only (Transfers chunks) rest a b l once tag f =
      let q1 = Alloc (fast_name p.name) (fast_type p) in
      let q2 = Alloc (tag_name p.name) tag_type in
      let b1 = behind_plain q1 (counted b) in
      let b2 = behind_plain q2 (counted b1) in
      let l1 = lay_one (4 ∷ 3 ∷ 2 ∷ []) a b.scope b.released 0 (Some (Allocation (fast_type p))) l in
      let l2 = lay_one (0 ∷ 4 ∷ 3 ∷ 2 ∷ []) a b1.scope b1.released 1 (Some (Allocation tag_type)) l1 in
      let free1 : b.scope (fast_name p.name) ≡ None = l.free 0 (low 0 (omega arith), (λ e. omega (arith, e), (λ e. omega (arith, e), (λ e. omega (arith, e), tt)))) in
      let free2 : b1.scope (tag_name p.name) ≡ None = l1.free 1 (low 1 (omega arith), (λ e. omega (arith, e), (λ e. omega (arith, e), (λ e. omega (arith, e), (λ e. omega (arith, e), tt))))) in
      let kept1 : Keeps b.scope b1.scope = put_keeps b.scope (fast_name p.name) _ free1 in
      let kept2 : Keeps b1.scope b2.scope = put_keeps b1.scope (tag_name p.name) _ free2 in
      does_only q1 (Does 0 q2 rest) b (alloc_only (counted b) (fast_name p.name) (fast_type p) _ refl (through (fast_name p.name) (tag_name p.name) rest once) free1)
      (does_only q2 rest b1 (alloc_only (counted b1) (tag_name p.name) tag_type rest refl tag free2)
      (f b2 l2 (kept2 _ _ (put_own b.scope 0 _)) (put_own b1.scope 1 _) (λ n x h. kept2 n x (kept1 n x h))))
