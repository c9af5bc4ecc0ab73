-- Each kind of statement that the template makes breaks no rule but tested ones.
use Rattle.std.proofs.Common.{◌≡◌, ℕ, ◌<◌, ◌^◌, ℤ, pos, [], ◌∷◌, length, refl, ap, ◌∙◌, arith, true, false}
use Rattle.std.specs.Prelude.{not, ◌&&◌, Option, Some, None, is_some, nat_eq}
use Rattle.std.proofs.lemmas.Bool.{eq-eqb}
use Rattle.std.proofs.lemmas.Int.{ints}
use Rattle.affine_ast.specs.declared.name.Name.{Name}
use Rattle.affine_ast.specs.declared.types.Access.{Access}
use Rattle.affine_ast.specs.declared.types.MemrefType.{MemrefType}
use Rattle.affine_ast.specs.declared.types.Pick.{Pick}
use Rattle.affine_ast.specs.declared.types.Scalar.TheVariants.{Int, Index}
use Rattle.affine_ast.specs.Nest.{Nest, Value, Load, Store, Constant, Alloc, Dealloc, Start, Wait}
use Rattle.affine_ast.specs.Scope.{IndexConstant, Data, MemrefArgument, Allocation, Scope, Around}
use Rattle.affine_ast.specs.Sizes.{element_bits}
use Rattle.affine_ast.specs.Rules.{stride_names, is_in, are_in, is_new, is_memref, is_value, are_values, same_element, binding_is_memref_of, binding_is_scalar, is_memref_of, is_of, in_signed_range, subscripts_fit, results_fit, access_bounded, is_released_once, allocates_well, is_loadable, is_allocation, is_allocated, number_of_binding, constant_of, is_count, stride_well, ends_in_spaces, is_live, text_within}
use Rattle.affine_ast.specs.Validity.{rule_of_plain, elements_within}
use Rattle.placement_texts.specs.Tests.{OnlyTested}
use Rattle.placement_texts.proofs.Scoped.{rules_of_plain}
use Rattle.placement_texts.proofs.ScopedAccess.{type_itself}
use Rattle.placement_texts.proofs.BlockForms.{AccessHolds}

pub new_here : (s : Scope) (r : Name) → s r ≡ None → is_new s r ≡ true
unfolding is_in
new_here s r h = ap (λ x. not (is_some x)) h

-- a memref of this type that may be used
pub record MemrefHolds (b : Around) (m : Name) (ty : MemrefType) : Type 0 where
  pub here : is_in b.scope m ≡ true
  pub typed : is_memref_of b.scope m ty ≡ true
  pub live : is_live b m ≡ true

pub allocation_holds : (b : Around) (m : Name) (ty : MemrefType) → b.scope m ≡ Some (Allocation ty) → b.released m ≡ false → MemrefHolds b m ty
unfolding is_in is_memref_of
allocation_holds b m ty h k = record { here = ap is_some h; typed = ap (λ x. binding_is_memref_of x ty) h ∙ type_itself ty; live = ap not k }

pub argument_holds : (b : Around) (m : Name) (ty : MemrefType) → b.scope m ≡ Some (MemrefArgument ty) → b.released m ≡ false → MemrefHolds b m ty
unfolding is_in is_memref_of
argument_holds b m ty h k = record { here = ap is_some h; typed = ap (λ x. binding_is_memref_of x ty) h ∙ type_itself ty; live = ap not k }

-- an index constant of this number
pub record NumberHolds (s : Scope) (n : Name) (z : ℤ) : Type 0 where
  pub here : is_in s n ≡ true
  pub value : is_value s n ≡ true
  pub number : constant_of s n ≡ Some z

pub number_holds : (s : Scope) (n : Name) (z : ℤ) → s n ≡ Some (IndexConstant z) → NumberHolds s n z
unfolding is_in is_value constant_of
number_holds s n z h = record { here = ap is_some h; value = ap (λ x. not (is_memref x)) h; number = ap number_of_binding h }

-- an access of a memref of this type
pub record SubscriptsHold (s : Scope) (at : Access) (ty : MemrefType) : Type 0 where
  pub access : AccessHolds s at
  pub fits : subscripts_fit at ty ≡ true

pub subscripts_hold : (s : Scope) (at : Access) (ty : MemrefType) → AccessHolds s at → length at.map.results ≡ length ty.sizes → SubscriptsHold s at ty
unfolding subscripts_fit
subscripts_hold s at ty h l = record { access = h; fits = λ i. h.fits i && eq-eqb (length at.map.results) (length ty.sizes) l i }

in_range : (k : ℕ) → k < 2 ^ 63 → in_signed_range 64 (pos k) ≡ true
unfolding in_signed_range
in_range k l = grind (arith, ints, l)

module _ (b : Around) where
  pub value_only : (r : Name) (pick : Pick) (at : Access) (rest : Nest) → AccessHolds b.scope at → results_fit pick at ≡ true → b.scope r ≡ None → OnlyTested (rule_of_plain b (Value r pick at) rest)
  unfolding rule_of_plain
  value_only r pick at rest h f n =
      rules_of_plain _ _ _ _ _ _ _ (access_bounded b.scope at) _ true (text_within b) h.uses (new_here b.scope r n) h.stand refl refl (λ i. h.fits i && f i) h.pure refl

  pub load_made : (r m : Name) (at : Access) (ty : MemrefType) (rest : Nest) → SubscriptsHold b.scope at ty → MemrefHolds b m ty → is_loadable ty ≡ true → b.scope r ≡ None → OnlyTested (rule_of_plain b (Load r m at ty) rest)
  unfolding rule_of_plain
  load_made r m at ty rest h k l n =
      rules_of_plain _ _ _ _ _ _ _ (access_bounded b.scope at) _ true (text_within b)
      (λ i. k.here i && h.access.uses i) (new_here b.scope r n) h.access.stand k.typed refl h.fits h.access.pure (λ i. l i && k.live i)

  pub store_made : (x m : Name) (at : Access) (ty : MemrefType) (rest : Nest) → SubscriptsHold b.scope at ty → MemrefHolds b m ty → is_loadable ty ≡ true → b.scope x ≡ Some (Data (Int ty.element)) → OnlyTested (rule_of_plain b (Store x m at ty) rest)
  unfolding rule_of_plain is_in is_value is_of
  store_made x m at ty rest h k l n =
      let bits : same_element ty.element ty.element ≡ true = eq-eqb (element_bits ty.element) (element_bits ty.element) refl in
      rules_of_plain _ _ _ _ _ _ _ (access_bounded b.scope at) _ true (text_within b)
      (λ i. is_some (n i) && (k.here i && h.access.uses i)) refl (λ i. not (is_memref (n i)) && h.access.stand i)
      (λ i. (ap (λ y. binding_is_scalar y (Int ty.element)) n ∙ bits) i && k.typed i) refl h.fits h.access.pure (λ i. l i && k.live i)

  pub constant_only : (r : Name) (k : ℕ) (rest : Nest) → k < 2 ^ 63 → b.scope r ≡ None → OnlyTested (rule_of_plain b (Constant r (pos k) Index) rest)
  unfolding rule_of_plain
  constant_only r k rest l n =
      rules_of_plain _ _ _ _ _ _ _ true _ true (text_within b) refl (new_here b.scope r n) refl refl (in_range k l) refl refl refl

  pub alloc_only : (r : Name) (ty : MemrefType) (rest : Nest) → allocates_well ty ≡ true → is_released_once r rest ≡ true → b.scope r ≡ None → OnlyTested (rule_of_plain b (Alloc r ty) rest)
  unfolding rule_of_plain
  alloc_only r ty rest w o n =
      rules_of_plain _ _ _ _ _ _ _ true _ (elements_within b.totals (Alloc r ty)) (text_within b) refl (new_here b.scope r n) refl refl refl refl refl (λ i. w i && o i)

  pub dealloc_only : (m : Name) (ty : MemrefType) (rest : Nest) → b.scope m ≡ Some (Allocation ty) → b.released m ≡ false → OnlyTested (rule_of_plain b (Dealloc m ty) rest)
  unfolding rule_of_plain is_allocated
  dealloc_only m ty rest h k =
      let j = allocation_holds b m ty h k in
      rules_of_plain _ _ _ _ _ _ _ true _ true (text_within b) j.here refl refl j.typed refl refl refl (λ i. is_allocation (h i) && j.live i)

  -- the ends of a transfer, the tag and the count
  pub record EndsHold (x y t n : Name) (x_at y_at t_at : Access) (x_ty y_ty t_ty : MemrefType) (count : ℤ) : Type 0 where
    pub from : MemrefHolds b x x_ty
    pub to : MemrefHolds b y y_ty
    pub tag : MemrefHolds b t t_ty
    pub from_at : SubscriptsHold b.scope x_at x_ty
    pub to_at : SubscriptsHold b.scope y_at y_ty
    pub tag_at : SubscriptsHold b.scope t_at t_ty
    pub elements : same_element x_ty.element y_ty.element ≡ true
    pub spaces : ends_in_spaces (x_ty ∷ y_ty ∷ t_ty ∷ []) ≡ true
    pub number : NumberHolds b.scope n count
    pub least : is_count (Some count) ≡ true

  pub record StrideHolds (two : Option (Name × Name)) : Type 0 where
    pub here : are_in b.scope (stride_names two) ≡ true
    pub values : are_values b.scope (stride_names two) ≡ true
    pub well : stride_well b.scope two ≡ true

  pub start_only : (x y t n : Name) (x_at y_at t_at : Access) (x_ty y_ty t_ty : MemrefType) (count : ℤ) (two : Option (Name × Name)) (rest : Nest) → EndsHold x y t n x_at y_at t_at x_ty y_ty t_ty count → StrideHolds two
      → OnlyTested (rule_of_plain b (Start x x_at y y_at t t_at n two (x_ty ∷ y_ty ∷ t_ty ∷ [])) rest)
  unfolding rule_of_plain
  start_only x y t n x_at y_at t_at x_ty y_ty t_ty count two rest h s =
      rules_of_plain _ _ _ _ _ _ _ (access_bounded b.scope x_at && (access_bounded b.scope y_at && access_bounded b.scope t_at)) _ true (text_within b)
      (λ i. (h.from.here i && h.from_at.access.uses i) && ((h.to.here i && h.to_at.access.uses i) && ((h.tag.here i && h.tag_at.access.uses i) && (h.number.here i && s.here i))))
      refl
      (λ i. h.from_at.access.stand i && (h.to_at.access.stand i && (h.tag_at.access.stand i && (h.number.value i && s.values i))))
      (λ i. h.from.typed i && (h.to.typed i && (h.tag.typed i && h.elements i)))
      refl
      (λ i. h.from_at.fits i && (h.to_at.fits i && h.tag_at.fits i))
      (λ i. h.from_at.access.pure i && (h.to_at.access.pure i && h.tag_at.access.pure i))
      (λ i. h.spaces i && ((ap is_count h.number.number ∙ h.least) i && (s.well i && (h.from.live i && (h.to.live i && h.tag.live i)))))

  pub wait_only : (t n : Name) (at : Access) (ty : MemrefType) (count : ℤ) (rest : Nest) → MemrefHolds b t ty → SubscriptsHold b.scope at ty → nat_eq ty.space 2 ≡ true → NumberHolds b.scope n count → is_count (Some count) ≡ true
      → OnlyTested (rule_of_plain b (Wait t at n ty) rest)
  unfolding rule_of_plain
  wait_only t n at ty count rest h k s j c =
      rules_of_plain _ _ _ _ _ _ _ (access_bounded b.scope at) _ true (text_within b)
      (λ i. (h.here i && k.access.uses i) && j.here i) refl (λ i. k.access.stand i && j.value i) h.typed refl k.fits k.access.pure
      (λ i. s i && ((ap is_count j.number ∙ c) i && h.live i))
