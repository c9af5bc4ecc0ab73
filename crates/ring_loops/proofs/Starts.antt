-- Starts ahead are well-formed.
use Rattle.std.proofs.Common.{◌≡◌, ℕ, zero, suc, ◌+◌, ◌*◌, ◌≤◌, ◌<◌, ℤ, pos, ◌<ℤ◌, List, [], ◌∷◌, ◌++◌, length, refl, sym, ap, ◌∙◌, subst, arith, Bool, true, false}
use Rattle.std.specs.Prelude.{not, ◌&&◌, Option, Some, None, is_some, if◌then◌else◌}
use Rattle.std.specs.List.{list_all}
use Rattle.std.proofs.lemmas.Bool.{and_parts, eq-eqb}
use Rattle.affine_expr.specs.declared.expr.Expr.{Expr, Dim, Const}
use Rattle.affine_ast.specs.declared.name.Name.{Name}
use Rattle.affine_ast.specs.declared.types.Access.{Access}
use Rattle.affine_ast.specs.declared.types.Bound.{Bound}
use Rattle.affine_ast.specs.declared.types.MemrefType.{MemrefType}
use Rattle.affine_ast.specs.declared.types.Pick.{Pick}
use Rattle.affine_ast.specs.declared.types.Pick.TheVariants.{Apply, Min, Max}
use Rattle.affine_ast.specs.Names.{same_name, put}
use Rattle.affine_ast.proofs.Names.{put-same, put-other, same_name-refl}
use Rattle.affine_ast.specs.Nest.{Plain, Nest, Does, Value, Start}
use Rattle.affine_ast.specs.Parts.{stride_names as listed}
use Rattle.affine_ast.specs.Sizes.{element_bits}
use Rattle.affine_ast.specs.Scope.{Binding, Variable, IndexConstant, MemrefArgument, Allocation, Scope}
use Rattle.affine_ast.specs.Rules.{is_in, are_in, may_be_dimension, is_dimension, are_values, is_memref_of, binding_is_memref_of, results_fit, is_count, constant_of, are_stride_and_chunk, stride_well, subscripts_fit}
use Rattle.placement_texts.specs.Template.{Dimension, How, Transfers, Placement, Begin, Fixed, Named, dim_sizes, dim_extents, slow_type, fast_type, tag_type, fast_name, tag_name, count_name, stride_name, chunk_name, place_name, least_name, last_place, form, over_terms, term_names, value_or_zero, begin, begins_from, place_statement, places_from, named, slow_at_places, place_exprs, zeros, fast_at_zeros, tag_at_zero, stride_of}
use Rattle.placement_texts.specs.Tests.{TermsStand, DimsStand}
use Rattle.placement_texts.proofs.BlockForms.{AccessHolds, access_holds, sound_form, sound_number, sound_one, sound_zero, sound_zeros, sound_places, length_terms, length_places, length_zeros}
use Rattle.placement_texts.proofs.BlockFront.{Keeps, put_keeps}
use Rattle.placement_texts.proofs.BlockStatements.{new_here, NumberHolds, number_holds, subscripts_hold}
use Rattle.placement_texts.proofs.ScopedAccess.{type_itself}
use Rattle.ring_plans.specs.Rings.{at_place, dims_later, ring_tags, ring_type, stride_names, start_later, started}
use Rattle.ring_validity.specs.Wells.{a_number, PlainWell, WellFormed}
use Rattle.ring_validity.proofs.Places.{place_pure, place_uses, place_stands, place_subscripts}
use Rattle.ring_loops.specs.Starts.{place_scope, places_scope, ChunksKnown, ahead_name, start_scope, started_scope, CanStart, NoPlaceOf, CanStarts, IsNoPlace}
use Rattle.ring_loops.specs.Law.{StartsWell, StartsStayWell}

-- ---- names stay what they are
kept_on : (s t u : Scope) → Keeps s t → Keeps t u → Keeps s u
kept_on s t u h k n x e = k n x (h n x e)

kept_itself : (s : Scope) → Keeps s s
kept_itself s n x e = e

dimension_kept : (s t : Scope) (n : Name) → Keeps s t → may_be_dimension (s n) ≡ true → may_be_dimension (t n) ≡ true
dimension_kept s t n k h = by (s n) refl h
  where
    by : (o : Option Binding) → s n ≡ o → may_be_dimension o ≡ true → may_be_dimension (t n) ≡ true
    by (Some b) e j = ap may_be_dimension (k n b e) ∙ j
    by None e j = absurd (cc)

terms_kept : (s t : Scope) (ts : List (Name × ℤ)) → Keeps s t → TermsStand s ts → TermsStand t ts
terms_kept s t [] k h = tt
terms_kept s t (x ∷ xs) k h = (dimension_kept s t x.0 k h.0, terms_kept s t xs k h.1)

dims_kept : (s t : Scope) (ds : List Dimension) → Keeps s t → DimsStand s ds → DimsStand t ds
dims_kept s t [] k h = tt
dims_kept s t (d ∷ ds) k h = (terms_kept s t d.terms k h.0, dims_kept s t ds k h.1)

terms_stand : (s : Scope) (ts : List (Name × ℤ)) → TermsStand s ts → list_all (is_dimension s) (term_names ts) ≡ true
unfolding is_dimension
terms_stand s [] h = refl
terms_stand s (t ∷ ts) h = λ i. h.0 i && terms_stand s ts h.1 i

number_stands : (s : Scope) (n : Name) → s n ≡ a_number → is_dimension s n ≡ true
unfolding is_dimension
number_stands s n h = ap may_be_dimension h

value_well : (s : Scope) (d : Name → Bool) (r : Name) (pick : Pick) (at : Access) (rest : Nest) → AccessHolds s at → results_fit pick at ≡ true → s r ≡ None → PlainWell s d (Value r pick at) rest
value_well s d r pick at rest a fit new = record {
  uses = a.uses;
  new_name = new_here s r new;
  stand = a.stand;
  types = refl;
  constants = refl;
  counts = λ i. a.fits i && fit i;
  pure = a.pure;
  spaces = refl;
}

-- ---- the values that say where a box begins
module _ (name : ℕ → Name) (apart : (i j : ℕ) → same_name (name i) (name j) ≡ true → i ≡ j) where
  slots : (i j : ℕ) → (i ≡ j → ⊥) → same_name (name i) (name j) ≡ false
  slots i j h = by (same_name (name i) (name j)) refl
    where
      by : (t : Bool) → same_name (name i) (name j) ≡ t → same_name (name i) (name j) ≡ false
      by true e = absurd (h (apart i j e))
      by false e = e

  -- the names from this dimension on are new
  abbrev Free : ℕ → Scope → Type 0
  Free k s = (d : ℕ) → k ≤ d → (s (place_name name d) ≡ None) × (s (least_name name d) ≡ None)

  free_place : (k : ℕ) (s : Scope) (x : Option Binding) → Free k s → Free (suc k) (put s (place_name name k) x)
  free_place k s x h d l =
      let free = h d (omega (arith, l)) in (
        put-other s (place_name name k) x (place_name name d) (slots (7 + 4 * k) (7 + 4 * d) (λ e. omega (arith, e, l))) ∙ free.0,
        put-other s (place_name name k) x (least_name name d) (slots (7 + 4 * k) (8 + 4 * d) (λ e. omega (arith, e))) ∙ free.1,
      )

  free_least : (k : ℕ) (s : Scope) (x : Option Binding) → Free k s → Free (suc k) (put (put s (least_name name k) x) (place_name name k) x)
  free_least k s x h d l =
      let free = h d (omega (arith, l)) in
      let s1 = put s (least_name name k) x in (
        put-other s1 (place_name name k) x (place_name name d) (slots (7 + 4 * k) (7 + 4 * d) (λ e. omega (arith, e, l))) ∙ put-other s (least_name name k) x (place_name name d) (slots (8 + 4 * k) (7 + 4 * d) (λ e. omega (arith, e))) ∙ free.0,
        put-other s1 (place_name name k) x (least_name name d) (slots (7 + 4 * k) (8 + 4 * d) (λ e. omega (arith, e))) ∙ put-other s (least_name name k) x (least_name name d) (slots (8 + 4 * k) (8 + 4 * d) (λ e. omega (arith, e, l))) ∙ free.1,
      )

  place_free : (k : ℕ) (s : Scope) (x : Option Binding) → Free k s → put s (least_name name k) x (place_name name k) ≡ None
  place_free k s x h = put-other s (least_name name k) x (place_name name k) (slots (8 + 4 * k) (7 + 4 * k) (λ e. omega (arith, e))) ∙ (h k (omega arith)).0

  abbrev by_clamp : Bool → ℕ → Scope → Scope
  by_clamp c k s = if c then put (put s (least_name name k) a_number) (place_name name k) a_number else put s (place_name name k) a_number

  free_by : (c : Bool) (k : ℕ) (s : Scope) → Free k s → Free (suc k) (by_clamp c k s)
  free_by true k s h = free_least k s a_number h
  free_by false k s h = free_place k s a_number h

  keeps_by : (c : Bool) (k : ℕ) (s : Scope) → Free k s → Keeps s (by_clamp c k s)
  keeps_by true k s h =
      let s1 = put s (least_name name k) a_number in
      kept_on s s1 (put s1 (place_name name k) a_number) (put_keeps s (least_name name k) a_number (h k (omega arith)).1) (put_keeps s1 (place_name name k) a_number (place_free k s a_number h))
  keeps_by false k s h = put_keeps s (place_name name k) a_number (h k (omega arith)).0

  place_by : (c : Bool) (k : ℕ) (s : Scope) → by_clamp c k s (place_name name k) ≡ a_number
  place_by true k s = put-same (put s (least_name name k) a_number) (place_name name k) a_number (place_name name k) (same_name-refl (place_name name k))
  place_by false k s = put-same s (place_name name k) a_number (place_name name k) (same_name-refl (place_name name k))

  other_by : (c : Bool) (k : ℕ) (s : Scope) (n : Name) → ((d : ℕ) → (same_name (place_name name d) n ≡ false) × (same_name (least_name name d) n ≡ false)) → by_clamp c k s n ≡ s n
  other_by true k s n h = put-other (put s (least_name name k) a_number) (place_name name k) a_number n (h k).0 ∙ put-other s (least_name name k) a_number n (h k).1
  other_by false k s n h = put-other s (place_name name k) a_number n (h k).0

  text_by : (c : Bool) (k : ℕ) (d : Dimension) (ts : List (Name × ℤ)) (rest : Nest) (s : Scope) (e : Name → Bool) → Free k s → TermsStand s ts → WellFormed rest (by_clamp c k s) e
      → WellFormed (if c
      then Does 0 (Value (least_name name k) Min (over_terms ts (form ts d.offset ∷ Const (last_place d) ∷ []))) (Does 0 (Value (place_name name k) Max (value_or_zero (least_name name k))) rest)
      else Does 0 (Value (place_name name k) Apply (over_terms ts (form ts d.offset ∷ []))) rest) s e
  text_by true k d ts rest s e free t w =
      let s1 = put s (least_name name k) a_number in
      let least = put-same s (least_name name k) a_number (least_name name k) (same_name-refl (least_name name k)) in (
        value_well s e (least_name name k) Min (over_terms ts (form ts d.offset ∷ Const (last_place d) ∷ [])) _
            (access_holds s (length ts) (form ts d.offset ∷ Const (last_place d) ∷ []) (term_names ts) (length_terms ts) (sound_form ts d.offset, (sound_number (length ts) (last_place d), tt)) (terms_stand s ts t)) refl (free k (omega arith)).1,
        (
          value_well s1 e (place_name name k) Max (value_or_zero (least_name name k)) rest
              (access_holds s1 1 (Dim 0 ∷ Const (pos 0) ∷ []) (least_name name k ∷ []) refl (sound_one, (sound_number 1 (pos 0), tt)) (λ i. number_stands s1 (least_name name k) least i && true)) refl (place_free k s a_number free),
          w,
        ),
      )
  text_by false k d ts rest s e free t w = (
    value_well s e (place_name name k) Apply (over_terms ts (form ts d.offset ∷ [])) rest (access_holds s (length ts) (form ts d.offset ∷ []) (term_names ts) (length_terms ts) (sound_form ts d.offset, tt) (terms_stand s ts t)) refl (free k (omega arith)).0,
    w,
  )

  -- ---- one dimension, with terms or without
  free_behind : (k : ℕ) (d : Dimension) (ts : List (Name × ℤ)) (s : Scope) → Free k s → Free (suc k) (place_scope name k d ts s)
  free_behind k d [] s h = λ j l. h j (omega (arith, l))
  free_behind k d (t ∷ ts) s h = free_by d.clamped k s h

  keeps_one : (k : ℕ) (d : Dimension) (ts : List (Name × ℤ)) (s : Scope) → Free k s → Keeps s (place_scope name k d ts s)
  keeps_one k d [] s h = kept_itself s
  keeps_one k d (t ∷ ts) s h = keeps_by d.clamped k s h

  other_one : (k : ℕ) (d : Dimension) (ts : List (Name × ℤ)) (s : Scope) (n : Name) → ((d : ℕ) → (same_name (place_name name d) n ≡ false) × (same_name (least_name name d) n ≡ false)) → place_scope name k d ts s n ≡ s n
  other_one k d [] s n h = refl
  other_one k d (t ∷ ts) s n h = other_by d.clamped k s n h

  text_one : (k : ℕ) (d : Dimension) (ts : List (Name × ℤ)) (rest : Nest) (s : Scope) (e : Name → Bool) → Free k s → TermsStand s ts → WellFormed rest (place_scope name k d ts s) e → WellFormed (place_statement name k d ts rest) s e
  text_one k d [] rest s e free t w = w
  text_one k d (u ∷ ts) rest s e free t w = text_by d.clamped k d (u ∷ ts) rest s e free t w

  -- ---- all of them
  keeps_places : (k : ℕ) (ds : List Dimension) (s : Scope) → Free k s → Keeps s (places_scope name k ds s)
  keeps_places k [] s h = kept_itself s
  keeps_places k (d ∷ ds) s h =
      let t = place_scope name k d d.terms s in
      kept_on s t (places_scope name (suc k) ds t) (keeps_one k d d.terms s h) (keeps_places (suc k) ds t (free_behind k d d.terms s h))

  other_places : (k : ℕ) (ds : List Dimension) (s : Scope) (n : Name) → ((d : ℕ) → (same_name (place_name name d) n ≡ false) × (same_name (least_name name d) n ≡ false)) → places_scope name k ds s n ≡ s n
  other_places k [] s n h = refl
  other_places k (d ∷ ds) s n h = other_places (suc k) ds (place_scope name k d d.terms s) n h ∙ other_one k d d.terms s n h

  places_well : (k : ℕ) (ds : List Dimension) (rest : Nest) (s : Scope) (e : Name → Bool) → Free k s → DimsStand s ds → WellFormed rest (places_scope name k ds s) e → WellFormed (places_from name k ds rest) s e
  places_well k [] rest s e free t w = w
  places_well k (d ∷ ds) rest s e free t w =
      let u = place_scope name k d d.terms s in
      text_one k d d.terms (places_from name (suc k) ds rest) s e free t.0
      (places_well (suc k) ds rest u e (free_behind k d d.terms s free) (dims_kept s u ds (keeps_one k d d.terms s free) t.1) w)

  begins_by : (k : ℕ) (d : Dimension) (ts : List (Name × ℤ)) (ds : List Dimension) (s : Scope) → Free k s → ((u : Scope) → Free (suc k) u → list_all (is_dimension (places_scope name (suc k) ds u)) (named (begins_from name (suc k) ds)) ≡ true)
      → list_all (is_dimension (places_scope name (suc k) ds (place_scope name k d ts s))) (named (begin name k d ts ∷ begins_from name (suc k) ds)) ≡ true
  begins_by k d [] ds s h more = more s (free_behind k d [] s h)
  begins_by k d (t ∷ ts) ds s h more =
      let u = by_clamp d.clamped k s in
      let free = free_by d.clamped k s h in
      λ i. number_stands (places_scope name (suc k) ds u) (place_name name k) (keeps_places (suc k) ds u free (place_name name k) (Variable _) (place_by d.clamped k s)) i && more u free i

  begins_stand : (k : ℕ) (ds : List Dimension) (s : Scope) → Free k s → list_all (is_dimension (places_scope name k ds s)) (named (begins_from name k ds)) ≡ true
  begins_stand k [] s h = refl
  begins_stand k (d ∷ ds) s h = begins_by k d d.terms ds s h (λ u free. begins_stand (suc k) ds u free)

  length_begins : (k : ℕ) (ds : List Dimension) → length (begins_from name k ds) ≡ length ds
  length_begins k [] = refl
  length_begins k (d ∷ ds) = ap suc (length_begins (suc k) ds)

-- ---- the start
later_stand : (s : Scope) (v : Name) (z : ℤ) (ds : List Dimension) → DimsStand s ds → DimsStand s (dims_later v z ds)
later_stand s v z [] h = tt
later_stand s v z (d ∷ ds) h = (h.0, later_stand s v z ds h.1)

length_later : (v : Name) (z : ℤ) (ds : List Dimension) → length (dims_later v z ds) ≡ length ds
length_later v z [] = refl
length_later v z (d ∷ ds) = ap suc (length_later v z ds)

length_sizes : (ds : List Dimension) → length (dim_sizes ds) ≡ length ds
length_sizes [] = refl
length_sizes (d ∷ ds) = ap suc (length_sizes ds)

length_extents : (ds : List Dimension) → length (dim_extents ds) ≡ length ds
length_extents [] = refl
length_extents (d ∷ ds) = ap suc (length_extents ds)

-- a memref in scope, of this type
memref_there : (t : Scope) (m : Name) (ty : MemrefType) → t m ≡ Some (MemrefArgument ty) → (is_in t m ≡ true) × (is_memref_of t m ty ≡ true)
unfolding is_in is_memref_of
memref_there t m ty h = (ap is_some h, ap (λ b. binding_is_memref_of b ty) h ∙ type_itself ty)

allocated_there : (t : Scope) (m : Name) (ty : MemrefType) → t m ≡ Some (Allocation ty) → (is_in t m ≡ true) × (is_memref_of t m ty ≡ true)
unfolding is_in is_memref_of
allocated_there t m ty h = (ap is_some h, ap (λ b. binding_is_memref_of b ty) h ∙ type_itself ty)

turn_there : (t : Scope) (v : Name) → t v ≡ a_number → is_in t v ≡ true
unfolding is_in
turn_there t v h = ap is_some h

-- stride and chunk
chunks_kept : (p : Placement) (chunks : Option (ℕ × ℕ)) (s t : Scope) → Keeps s t → ChunksKnown p chunks s → ChunksKnown p chunks t
chunks_kept p None s t k h = tt
chunks_kept p (Some two) s t k h = (k (stride_name p.name) _ h.0, k (chunk_name p.name) _ h.1, h.2)

strides_hold : (p : Placement) (chunks : Option (ℕ × ℕ)) (t : Scope) → ChunksKnown p chunks t → (are_in t (listed (stride_of p chunks)) ≡ true) × (are_values t (listed (stride_of p chunks)) ≡ true) × (stride_well t (stride_of p chunks) ≡ true)
unfolding are_in are_values
strides_hold p None t h = (refl, refl, refl)
strides_hold p (Some two) t h =
    let a = number_holds t (stride_name p.name) (pos two.0) h.0 in
    let b = number_holds t (chunk_name p.name) (pos two.1) h.1 in
    ((λ i. a.here i && (b.here i && true)), (λ i. a.value i && (b.value i && true)), (λ i. are_stride_and_chunk (a.number i) (b.number i)) ∙ h.2)

module _ (buffers : ℕ) (v : Name) (lower upper : Bound) (step : ℤ) (f : Name → Name) (z : ℤ) (some : 1 ≤ buffers) (positive : pos 0 <ℤ step) where
  abbrev half : Placement → MemrefType
  half p = ring_type buffers v lower upper step p

  abbrev all_tags : MemrefType
  all_tags = ring_tags buffers v lower upper step

  abbrev at_turn : Access → Access
  at_turn at = at_place buffers v lower upper step z at

  abbrev name_of : Placement → ℕ → Name
  name_of p = ahead_name buffers v lower upper step f z p

  abbrev Can : Scope → (Name → Bool) → Placement → Type 0
  Can s d p = CanStart buffers v lower upper step f z s d p

  abbrev boxes : Placement → List Dimension
  boxes p = dims_later v z p.dims

  abbrev froms : Placement → List Begin
  froms p = begins_from (name_of p) 0 (boxes p)

  free_first : (s : Scope) (d : Name → Bool) (p : Placement) (can : Can s d p) → Free (name_of p) can.apart 0 s
  free_first s d p can = λ k l. can.new_names k

  start_stands : (s : Scope) (d : Name → Bool) (p : Placement) (can : Can s d p) (rest : Nest)
      → PlainWell (places_scope (name_of p) 0 (boxes p) s) d
      (Start p.memref (slow_at_places (froms p)) (fast_name p.name) (at_turn (fast_at_zeros (froms p))) (tag_name p.name) (at_turn tag_at_zero) (count_name p.name) (stride_of p can.chunks) (slow_type p ∷ half p ∷ all_tags ∷ [])) rest
  start_stands s d p can rest =
      let t = places_scope (name_of p) 0 (boxes p) s in
      let bs = froms p in
      let kept = keeps_places (name_of p) can.apart 0 (boxes p) s (free_first s d p can) in
      let m = memref_there t p.memref (slow_type p) (kept p.memref _ can.memref) in
      let a = allocated_there t (fast_name p.name) (half p) (kept (fast_name p.name) _ can.fast) in
      let b = allocated_there t (tag_name p.name) all_tags (kept (tag_name p.name) _ can.tags) in
      let c = number_holds t (count_name p.name) can.count (kept (count_name p.name) _ can.counted) in
      let k = strides_hold p can.chunks t (chunks_kept p can.chunks s t kept can.strides) in
      let turn = kept v _ can.turn in
      let vin : is_in t v ≡ true = turn_there t v turn in
      let vdim = number_stands t v turn in
      let long : length bs ≡ length p.dims = length_begins (name_of p) can.apart 0 (boxes p) ∙ length_later v z p.dims in
      let slow_holds = access_holds t (length (named bs)) (place_exprs 0 bs) (named bs) refl (sound_places (length (named bs)) 0 bs (omega arith)) (begins_stand (name_of p) can.apart 0 (boxes p) s (free_first s d p can)) in
      let slow = subscripts_hold t (slow_at_places bs) (slow_type p) slow_holds (length_places 0 bs ∙ long ∙ sym (length_sizes p.dims)) in
      let fast_holds = access_holds t 0 (Const (pos 0) ∷ zeros bs) [] refl (sound_zero 0, sound_zeros 0 bs) refl in
      let fast = subscripts_hold t (fast_at_zeros bs) (fast_type p) fast_holds (ap suc (length_zeros bs ∙ long ∙ sym (length_extents p.dims))) in
      let tag_holds = access_holds t 0 (Const (pos 0) ∷ []) [] refl (sound_zero 0, tt) refl in
      let tag = subscripts_hold t tag_at_zero tag_type tag_holds refl in
      record {
        uses = λ i. (m.0 i && slow_holds.uses i) && ((a.0 i && place_uses buffers v lower upper step some positive t z (fast_at_zeros bs) vin fast_holds.uses i)
            && ((b.0 i && place_uses buffers v lower upper step some positive t z tag_at_zero vin tag_holds.uses i) && (c.here i && k.0 i)));
        new_name = refl;
        stand = λ i. slow_holds.stand i && (place_stands buffers v lower upper step some positive t z (fast_at_zeros bs) fast_holds.fits vdim fast_holds.stand i
            && (place_stands buffers v lower upper step some positive t z tag_at_zero tag_holds.fits vdim tag_holds.stand i && (c.value i && k.1 i)));
        types = λ i. m.1 i && (a.1 i && (b.1 i && eq-eqb (element_bits p.element) (element_bits p.element) refl i));
        constants = refl;
        counts = λ i. slow.fits i && (place_subscripts buffers v lower upper step some positive z (fast_at_zeros bs) (fast_type p) (half p) 1 buffers (dim_extents p.dims) refl refl fast.fits i
            && place_subscripts buffers v lower upper step some positive z tag_at_zero tag_type all_tags 1 buffers [] refl refl tag.fits i);
        pure = λ i. slow_holds.pure i && (place_pure buffers v lower upper step some positive z (fast_at_zeros bs) fast_holds.pure i && place_pure buffers v lower upper step some positive z tag_at_zero tag_holds.pure i);
        spaces = λ i. (ap is_count c.number ∙ can.least) i && (k.2 i && (not (can.memref_live i) && (not (can.fast_live i) && not (can.tags_live i))));
      }

  -- ---- one start ahead, with its places
  one_well : (s : Scope) (d : Name → Bool) (p : Placement) (can : Can s d p) (rest : Nest) → WellFormed rest (places_scope (name_of p) 0 (boxes p) s) d → WellFormed (start_later buffers v lower upper step (name_of p) z p rest) s d
  one_well s d p can rest w =
      places_well (name_of p) can.apart 0 (boxes p) _ s d (free_first s d p can) (later_stand s v z p.dims can.dims) (
        subst (λ h. PlainWell (places_scope (name_of p) 0 (boxes p) s) d
            (Start p.memref (slow_at_places (froms p)) (fast_name p.name) (at_turn (fast_at_zeros (froms p))) (tag_name p.name) (at_turn tag_at_zero) (count_name p.name) (stride_names buffers v lower upper step p h) (slow_type p ∷ half p ∷ all_tags ∷ [])) rest)
            (sym can.transfers) (start_stands s d p can rest),
        w,
      )

  -- ---- several
  can_behind : (s t : Scope) (d : Name → Bool) (q : Placement) → Keeps s t → ((i : ℕ) → t (name_of q i) ≡ s (name_of q i)) → Can s d q → Can t d q
  can_behind s t d q kept same can = record {
    memref = kept q.memref _ can.memref;
    memref_live = can.memref_live;
    fast = kept (fast_name q.name) _ can.fast;
    fast_live = can.fast_live;
    tags = kept (tag_name q.name) _ can.tags;
    tags_live = can.tags_live;
    count = can.count;
    counted = kept (count_name q.name) _ can.counted;
    least = can.least;
    chunks = can.chunks;
    transfers = can.transfers;
    strides = chunks_kept q can.chunks s t kept can.strides;
    turn = kept v _ can.turn;
    dims = dims_kept s t q.dims kept can.dims;
    apart = can.apart;
    new_names = λ k. (same (7 + 4 * k) ∙ (can.new_names k).0, same (8 + 4 * k) ∙ (can.new_names k).1);
  }

  abbrev NoPlace : Placement → List Placement → Type 0
  NoPlace p qs = NoPlaceOf buffers v lower upper step f z p qs

  abbrev Cans : Scope → (Name → Bool) → List Placement → Type 0
  Cans s d ps = CanStarts buffers v lower upper step f z s d ps

  cans_behind : (s : Scope) (d : Name → Bool) (p : Placement) (can : Can s d p) (qs : List Placement) → NoPlace p qs → Cans s d qs → Cans (places_scope (name_of p) 0 (boxes p) s) d qs
  cans_behind s d p can [] none h = tt
  cans_behind s d p can (q ∷ qs) none h =
      let t = places_scope (name_of p) 0 (boxes p) s in (
        λ reads. can_behind s t d q (keeps_places (name_of p) can.apart 0 (boxes p) s (free_first s d p can)) (λ i. other_places (name_of p) can.apart 0 (boxes p) s (name_of q i) (λ k. (none.0 (7 + 4 * k) i, none.0 (8 + 4 * k) i))) (h.0 reads),
        h.1,
        cans_behind s d p can qs none.1 h.2,
      )

  abbrev scope_by : Bool → Placement → Scope → Scope
  scope_by c p s = if c then places_scope (name_of p) 0 (boxes p) s else s

  abbrev scopes : List Placement → Scope → Scope
  scopes ps s = started_scope buffers v lower upper step f z ps s

  abbrev text : List Placement → Nest → Nest
  text ps rest = started buffers v lower upper step f z ps rest

  starts_text : (ps : List Placement) (s : Scope) (d : Name → Bool) → Cans s d ps → (rest : Nest) → WellFormed rest (scopes ps s) d → WellFormed (text ps rest) s d
  starts_text [] s d can rest w = w
  starts_text (p ∷ ps) s d can rest w = by p.reads can.0 (λ t h. starts_text ps t d h rest) w
    where
      by : (c : Bool) → (c ≡ true → Can s d p) → ((t : Scope) → Cans t d ps → WellFormed rest (scopes ps t) d → WellFormed (text ps rest) t d) → WellFormed rest (scopes ps (scope_by c p s)) d
          → WellFormed (if c then start_later buffers v lower upper step (name_of p) z p (text ps rest) else text ps rest) s d
      by true h more w = let one = h refl in one_well s d p one (text ps rest) (more (places_scope (name_of p) 0 (boxes p) s) (cans_behind s d p one ps can.1 can.2) w)
      by false h more w = more s can.2 w

  starts_others : (ps : List Placement) (s : Scope) (d : Name → Bool) → Cans s d ps → (n : Name) → IsNoPlace buffers v lower upper step f z n ps → scopes ps s n ≡ s n
  starts_others [] s d can n none = refl
  starts_others (p ∷ ps) s d can n none = by p.reads can.0 (λ t h. starts_others ps t d h n none.1)
    where
      by : (c : Bool) → (c ≡ true → Can s d p) → ((t : Scope) → Cans t d ps → scopes ps t n ≡ t n) → scopes ps (scope_by c p s) n ≡ s n
      by true h more = let one = h refl in more (places_scope (name_of p) 0 (boxes p) s) (cans_behind s d p one ps can.1 can.2) ∙ other_places (name_of p) one.apart 0 (boxes p) s n none.0
      by false h more = more s can.2

pub starts_well : StartsStayWell
starts_well buffers v lower upper step f z ps s d some positive can = record {
  text = λ rest w. starts_text buffers v lower upper step f z some positive ps s d can rest w;
  others = λ n none. starts_others buffers v lower upper step f z some positive ps s d can n none;
}
