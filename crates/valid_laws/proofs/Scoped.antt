-- What the names in scope stand for where the list of actions is made.
use Rattle.std.proofs.Common.{◌≡◌, ℕ, zero, suc, ◌+◌, ◌≤◌, ℤ, pos, negsuc, ◌≤ℤ◌, Bool, true, false, List, [], ◌∷◌, take, drop, length, refl, sym, ◌∙◌, subst, arith}
use Rattle.std.specs.Prelude.{◌&&◌, not, nat_eq, int_le, Option, Some, None, is_some}
use Rattle.std.specs.Cmp.Lexicographic.{pointwise}
use Rattle.std.specs.List.{All, list_all}
use Rattle.std.proofs.lemmas.Bool.{and_parts}
use Rattle.std.proofs.lemmas.Int.{ints}
use Rattle.std.proofs.lemmas.List.Elements.{All-nil, All-cons}
use Rattle.int_ops.specs.Wrapped.{InRange}
use Rattle.affine_ast.specs.declared.name.Name.{Name}
use Rattle.affine_ast.specs.declared.types.MemrefType.{MemrefType}
use Rattle.affine_ast.specs.declared.types.Scalar.{Scalar}
use Rattle.affine_ast.specs.declared.types.Scalar.TheVariants as scalar
use Rattle.affine_ast.specs.Names.{same_name, put}
use Rattle.affine_ast.proofs.Names.{put-same, put-other}
use Rattle.affine_ast.specs.Rules.{may_be_dimension, may_be_symbol, is_dimension, is_symbol, is_in, operands_stand, same_element, same_scalar, same_type, binding_is_memref_of, binding_is_scalar, is_memref_of, is_of, are_indexes, is_small_dimension, binding_is_small, is_allocation, is_allocated, number_of_binding, constant_of, is_count, are_stride_and_chunk, stride_well}
use Rattle.affine_ast.specs.Scope.{Binding, Variable, Symbol, IndexConstant, Data, MemrefArgument, Allocation, Scope}
use Rattle.affine_ast.specs.Sizes.{element_bits, scalar_bits, product}
use Rattle.direct_meaning.specs.Action.{Home, SlowMemref, FastMemref, TagMemref}
use Rattle.direct_meaning.specs.Static.{Env, number}
use Rattle.valid_laws.specs.Safe.{IsSmall, IsNumber, AreNumbers, FitsOperand, StandsFor, IsMemref, IsCount, AreStrideAndChunk, SafeChunks}
use Rattle.valid_laws.proofs.Small.{small_fits, small_of_test}

-- ---- what one name stands for

pub record IsSmallNumber (known : Option ℤ) : Type 0 where
  pub value : ℤ
  pub is : known ≡ Some value
  pub small : IsSmall value

-- a name's number and memref, by what it stands for in its scope
abbrev pub Stands : Option Binding → Option ℤ → Option Home → Type 0
Stands None known home = (known ≡ None) × (home ≡ None)
Stands (Some (Variable r)) known home = IsSmallNumber known × (home ≡ None)
Stands (Some (Symbol r)) known home = IsSmallNumber known × (home ≡ None)
Stands (Some (IndexConstant z)) known home = (known ≡ Some z) × InRange 64 z × (home ≡ None)
Stands (Some (Data ty)) known home = (known ≡ None) × (home ≡ None)
Stands (Some (MemrefArgument ty)) known home = (known ≡ None) × IsMemref home ty
Stands (Some (Allocation ty)) known home = (known ≡ None) × IsMemref home ty × (1 ≤ ty.space)

abbrev pub ScopeStands : Scope → Env → Type 0
ScopeStands s e = (n : Name) → Stands (s n) (e.known n) (e.home n)

-- ---- numbers

small_number : (known : Option ℤ) → IsSmallNumber known → IsNumber known
small_number known h = record { value = h.value; is = h.is; fits = small_fits h.value h.small }

dimension_number : (b : Option Binding) (known : Option ℤ) (home : Option Home) → Stands b known home → may_be_dimension b ≡ true → IsNumber known
dimension_number None known home h t = absurd (let z : ⊥ = cc in z)
dimension_number (Some (Variable r)) known home h t = small_number known h.0
dimension_number (Some (Symbol r)) known home h t = small_number known h.0
dimension_number (Some (IndexConstant z)) known home h t = record { value = z; is = h.0; fits = h.1 }
dimension_number (Some (Data ty)) known home h t = absurd (let z : ⊥ = cc in z)
dimension_number (Some (MemrefArgument ty)) known home h t = absurd (let z : ⊥ = cc in z)
dimension_number (Some (Allocation ty)) known home h t = absurd (let z : ⊥ = cc in z)

symbol_dimension : (b : Option Binding) → may_be_symbol b ≡ true → may_be_dimension b ≡ true
symbol_dimension None t = absurd (let z : ⊥ = cc in z)
symbol_dimension (Some (Variable r)) t = refl
symbol_dimension (Some (Symbol r)) t = refl
symbol_dimension (Some (IndexConstant z)) t = refl
symbol_dimension (Some (Data ty)) t = absurd (let z : ⊥ = cc in z)
symbol_dimension (Some (MemrefArgument ty)) t = absurd (let z : ⊥ = cc in z)
symbol_dimension (Some (Allocation ty)) t = absurd (let z : ⊥ = cc in z)

number_at : (o : Option ℤ) (z : ℤ) → o ≡ Some z → IsSmall z → IsSmall (number o)
number_at o z e h = subst (λ p. IsSmall (number p)) (sym e) h

dimension_small : (b : Option Binding) (known : Option ℤ) (home : Option Home) → Stands b known home → may_be_dimension b ≡ true → binding_is_small b ≡ true → IsSmall (number known)
dimension_small None known home h t k = absurd (let z : ⊥ = cc in z)
dimension_small (Some (Variable r)) known home h t k = number_at known h.0.value h.0.is h.0.small
dimension_small (Some (Symbol r)) known home h t k = number_at known h.0.value h.0.is h.0.small
dimension_small (Some (IndexConstant z)) known home h t k = number_at known z h.0 (small_of_test z k)
dimension_small (Some (Data ty)) known home h t k = absurd (let z : ⊥ = cc in z)
dimension_small (Some (MemrefArgument ty)) known home h t k = absurd (let z : ⊥ = cc in z)
dimension_small (Some (Allocation ty)) known home h t k = absurd (let z : ⊥ = cc in z)

-- ---- operands at a width

operand_at : (bits : ℕ) (o : Option ℤ) (z : ℤ) → o ≡ Some z → InRange bits z → FitsOperand bits o
operand_at bits o z e h = subst (FitsOperand bits) (sym e) h

operand_none : (bits : ℕ) (o : Option ℤ) → o ≡ None → FitsOperand bits o
operand_none bits o e = subst (FitsOperand bits) (sym e) tt

index_fits : (ty : Scalar) (o : Option ℤ) (z : ℤ) → same_scalar scalar.Index ty ≡ true → o ≡ Some z → InRange 64 z → FitsOperand (scalar_bits ty) o
index_fits (scalar.Int element) o z t e h = absurd (let y : ⊥ = cc in y)
index_fits scalar.Index o z t e h = operand_at 64 o z e h

scalar_fits : (b : Option Binding) (known : Option ℤ) (home : Option Home) (ty : Scalar) → Stands b known home → binding_is_scalar b ty ≡ true → FitsOperand (scalar_bits ty) known
scalar_fits None known home ty h t = absurd (let z : ⊥ = cc in z)
scalar_fits (Some (Variable r)) known home ty h t = index_fits ty known h.0.value t h.0.is (small_fits h.0.value h.0.small)
scalar_fits (Some (Symbol r)) known home ty h t = index_fits ty known h.0.value t h.0.is (small_fits h.0.value h.0.small)
scalar_fits (Some (IndexConstant z)) known home ty h t = index_fits ty known z t h.0 h.1
scalar_fits (Some (Data of)) known home ty h t = operand_none (scalar_bits ty) known h.0
scalar_fits (Some (MemrefArgument of)) known home ty h t = absurd (let z : ⊥ = cc in z)
scalar_fits (Some (Allocation of)) known home ty h t = absurd (let z : ⊥ = cc in z)

-- ---- memrefs

pub sizes_same : (xs ys : List ℕ) → pointwise nat_eq xs ys ≡ true → xs ≡ ys
sizes_same [] [] h = refl
sizes_same [] (y ∷ ys) h = absurd (let z : ⊥ = cc in z)
sizes_same (x ∷ xs) [] h = absurd (let z : ⊥ = cc in z)
sizes_same (x ∷ xs) (y ∷ ys) h =
    let two = and_parts (nat_eq x y) (pointwise nat_eq xs ys) h in
    let e : x ≡ y = grind (arith, two.0) in
    (λ i. e i ∷ sizes_same xs ys two.1 i)

pub record SameType (a b : MemrefType) : Type 0 where
  pub sizes : a.sizes ≡ b.sizes
  pub bits : element_bits a.element ≡ element_bits b.element
  pub space : a.space ≡ b.space

pub type_same : (a b : MemrefType) → same_type a b ≡ true → SameType a b
unfolding same_type
type_same a b h =
    let one = and_parts (pointwise nat_eq a.sizes b.sizes) (same_element a.element b.element && nat_eq a.space b.space) h in
    let two = and_parts (same_element a.element b.element) (nat_eq a.space b.space) one.1 in
    record { sizes = sizes_same a.sizes b.sizes one.0; bits = grind (arith, two.0); space = grind (arith, two.1) }

stands_along : (home : Option Home) (a b : MemrefType) → a.sizes ≡ b.sizes → a.space ≡ b.space → StandsFor home a → StandsFor home b
stands_along None a b p q h = absurd h
stands_along (Some (SlowMemref number first)) a b p q h = record {
  space = sym q ∙ h.space;
  rank = subst (λ ns. length ns ≤ 6) p h.rank;
  number_fits = h.number_fits;
  places_fit = subst (λ ns. first + product ns ≤ 1048576) p h.places_fit;
}
stands_along (Some (FastMemref number)) a b p q h = record {
  space = sym q ∙ h.space;
  has_halves = subst (λ ns. 1 ≤ length ns) p h.has_halves;
  rank = subst (λ ns. length ns ≤ 7) p h.rank;
  number_fits = h.number_fits;
  cells_fit = subst (λ ns. product ns ≤ 16777216) p h.cells_fit;
}
stands_along (Some (TagMemref first)) a b p q h = record {
  space = sym q ∙ h.space;
  rank = subst (λ ns. length ns ≡ 1) p h.rank;
  numbers_fit = subst (λ ns. first + product ns ≤ 65536) p h.numbers_fit;
}

memref_along : (home : Option Home) (a b : MemrefType) → SameType a b → IsMemref home a → IsMemref home b
memref_along home a b same h = record {
  stands = stands_along home a b same.sizes same.space h.stands;
  sizes = subst (All (λ n. 1 ≤ n)) same.sizes h.sizes;
}

binding_memref : (b : Option Binding) (known : Option ℤ) (home : Option Home) (ty : MemrefType) → Stands b known home → binding_is_memref_of b ty ≡ true → IsMemref home ty
binding_memref None known home ty h t = absurd (let z : ⊥ = cc in z)
binding_memref (Some (Variable r)) known home ty h t = absurd (let z : ⊥ = cc in z)
binding_memref (Some (Symbol r)) known home ty h t = absurd (let z : ⊥ = cc in z)
binding_memref (Some (IndexConstant z)) known home ty h t = absurd (let y : ⊥ = cc in y)
binding_memref (Some (Data of)) known home ty h t = absurd (let z : ⊥ = cc in z)
binding_memref (Some (MemrefArgument of)) known home ty h t = memref_along home of ty (type_same of ty t) h.1
binding_memref (Some (Allocation of)) known home ty h t = memref_along home of ty (type_same of ty t) h.1

allocation_space : (b : Option Binding) (known : Option ℤ) (home : Option Home) (ty : MemrefType) → Stands b known home → is_allocation b ≡ true → binding_is_memref_of b ty ≡ true → 1 ≤ ty.space
allocation_space None known home ty h k t = absurd (let z : ⊥ = cc in z)
allocation_space (Some (Variable r)) known home ty h k t = absurd (let z : ⊥ = cc in z)
allocation_space (Some (Symbol r)) known home ty h k t = absurd (let z : ⊥ = cc in z)
allocation_space (Some (IndexConstant z)) known home ty h k t = absurd (let y : ⊥ = cc in y)
allocation_space (Some (Data of)) known home ty h k t = absurd (let z : ⊥ = cc in z)
allocation_space (Some (MemrefArgument of)) known home ty h k t = absurd (let z : ⊥ = cc in z)
allocation_space (Some (Allocation of)) known home ty h k t = subst (λ n. 1 ≤ n) (type_same of ty t).space h.2

-- ---- counts, strides and chunks

count_is : (c : ℤ) (known : Option ℤ) → known ≡ Some c → InRange 64 c → int_le (pos 1) c ≡ true → IsCount known
count_is (pos n) known e r t = record { value = n; is = e; least = (let k : pos 1 ≤ℤ pos n = grind (arith, ints, t) in omega (arith, ints, k)); fits = omega (arith, ints, r.most) }
count_is (negsuc n) known e r t = absurd (let k : pos 1 ≤ℤ negsuc n = grind (arith, ints, t) in omega (arith, ints, k))

binding_count : (b : Option Binding) (known : Option ℤ) (home : Option Home) → Stands b known home → is_count (number_of_binding b) ≡ true → IsCount known
binding_count None known home h t = absurd (let z : ⊥ = cc in z)
binding_count (Some (Variable r)) known home h t = absurd (let z : ⊥ = cc in z)
binding_count (Some (Symbol r)) known home h t = absurd (let z : ⊥ = cc in z)
binding_count (Some (IndexConstant c)) known home h t = count_is c known h.0 h.1 t
binding_count (Some (Data ty)) known home h t = absurd (let z : ⊥ = cc in z)
binding_count (Some (MemrefArgument ty)) known home h t = absurd (let z : ⊥ = cc in z)
binding_count (Some (Allocation ty)) known home h t = absurd (let z : ⊥ = cc in z)

-- the number of an index constant is known
constant_known : (b : Option Binding) (known : Option ℤ) (home : Option Home) (z : ℤ) → Stands b known home → number_of_binding b ≡ Some z → known ≡ Some z
constant_known None known home z h t = absurd (let y : ⊥ = cc in y)
constant_known (Some (Variable r)) known home z h t = absurd (let y : ⊥ = cc in y)
constant_known (Some (Symbol r)) known home z h t = absurd (let y : ⊥ = cc in y)
constant_known (Some (IndexConstant c)) known home z h t = h.0 ∙ t
constant_known (Some (Data ty)) known home z h t = absurd (let y : ⊥ = cc in y)
constant_known (Some (MemrefArgument ty)) known home z h t = absurd (let y : ⊥ = cc in y)
constant_known (Some (Allocation ty)) known home z h t = absurd (let y : ⊥ = cc in y)

chunks_at : (s c : ℤ) (ks kc : Option ℤ) → ks ≡ Some s → kc ≡ Some c → int_le s (pos 1048576) ≡ true → int_le c s ≡ true → int_le (pos 1) c ≡ true → AreStrideAndChunk ks kc
chunks_at (pos s) (pos c) ks kc p q t u v =
    let a : pos s ≤ℤ pos 1048576 = grind (arith, ints, t) in
    let b : pos c ≤ℤ pos s = grind (arith, ints, u) in
    let d : pos 1 ≤ℤ pos c = grind (arith, ints, v) in
    record { stride = s; chunk = c; stride_is = p; chunk_is = q; least = omega (arith, ints, d); within = omega (arith, ints, b); most = omega (arith, ints, a) }
chunks_at s (negsuc c) ks kc p q t u v = absurd (let k : pos 1 ≤ℤ negsuc c = grind (arith, ints, v) in omega (arith, ints, k))
chunks_at (negsuc s) (pos c) ks kc p q t u v = absurd (let k : pos c ≤ℤ negsuc s = grind (arith, ints, u) in omega (arith, ints, k))

chunks_by : (os oc ks kc : Option ℤ) → ((z : ℤ) → os ≡ Some z → ks ≡ Some z) → ((z : ℤ) → oc ≡ Some z → kc ≡ Some z) → are_stride_and_chunk os oc ≡ true → AreStrideAndChunk ks kc
chunks_by None oc ks kc p q t = absurd (let z : ⊥ = cc in z)
chunks_by (Some s) None ks kc p q t = absurd (let z : ⊥ = cc in z)
chunks_by (Some s) (Some c) ks kc p q t =
    let one = and_parts (int_le s (pos 1048576)) (int_le c s && int_le (pos 1) c) t in
    let two = and_parts (int_le c s) (int_le (pos 1) c) one.1 in
    chunks_at s c ks kc (p s refl) (q c refl) one.0 two.0 two.1

-- ---- in a scope

module _ (s : Scope) (e : Env) (h : ScopeStands s e) where
  pub number_of_dimension : (n : Name) → is_dimension s n ≡ true → IsNumber (e.known n)
  unfolding is_dimension
  number_of_dimension n t = dimension_number (s n) (e.known n) (e.home n) (h n) t

  number_of_symbol : (n : Name) → is_symbol s n ≡ true → IsNumber (e.known n)
  unfolding is_symbol
  number_of_symbol n t = dimension_number (s n) (e.known n) (e.home n) (h n) (symbol_dimension (s n) t)

  pub small_of_dimension : (n : Name) → is_dimension s n ≡ true → is_small_dimension s n ≡ true → IsSmall (number (e.known n))
  unfolding is_dimension is_small_dimension
  small_of_dimension n t k = dimension_small (s n) (e.known n) (e.home n) (h n) t k

  symbols_known : (names : List Name) → list_all (is_symbol s) names ≡ true → AreNumbers e names
  symbols_known [] t = All-nil (λ n. IsNumber (e.known n))
  symbols_known (n ∷ names) t =
      let two = and_parts (is_symbol s n) (list_all (is_symbol s) names) t in
      All-cons (λ n. IsNumber (e.known n)) n names (number_of_symbol n two.0) (symbols_known names two.1)

  names_known : (dims : ℕ) (names : List Name) → list_all (is_dimension s) (take dims names) ≡ true → list_all (is_symbol s) (drop dims names) ≡ true → AreNumbers e names
  names_known zero names t u = symbols_known names u
  names_known (suc dims) [] t u = All-nil (λ n. IsNumber (e.known n))
  names_known (suc dims) (n ∷ names) t u =
      let two = and_parts (is_dimension s n) (list_all (is_dimension s) (take dims names)) t in
      All-cons (λ n. IsNumber (e.known n)) n names (number_of_dimension n two.0) (names_known dims names two.1 u)

  pub operands_known : (dims : ℕ) (names : List Name) → operands_stand s dims names ≡ true → AreNumbers e names
  unfolding operands_stand
  operands_known dims names t =
      let two = and_parts (list_all (is_dimension s) (take dims names)) (list_all (is_symbol s) (drop dims names)) t in
      names_known dims names two.0 two.1

  pub operand_fits : (n : Name) (ty : Scalar) → is_of s n ty ≡ true → FitsOperand (scalar_bits ty) (e.known n)
  unfolding is_of
  operand_fits n ty t = scalar_fits (s n) (e.known n) (e.home n) ty (h n) t

  pub indexes_fit : (names : List Name) → are_indexes s names ≡ true → All (λ n. FitsOperand 64 (e.known n)) names
  unfolding are_indexes
  indexes_fit [] t = All-nil (λ n. FitsOperand 64 (e.known n))
  indexes_fit (n ∷ names) t =
      let two = and_parts (is_of s n scalar.Index) (list_all (λ n. is_of s n scalar.Index) names) t in
      All-cons (λ n. FitsOperand 64 (e.known n)) n names (operand_fits n scalar.Index two.0) (indexes_fit names two.1)

  pub memref_of : (m : Name) (ty : MemrefType) → is_memref_of s m ty ≡ true → IsMemref (e.home m) ty
  unfolding is_memref_of
  memref_of m ty t = binding_memref (s m) (e.known m) (e.home m) ty (h m) t

  pub space_of_allocation : (m : Name) (ty : MemrefType) → is_allocated s m ≡ true → is_memref_of s m ty ≡ true → 1 ≤ ty.space
  unfolding is_allocated is_memref_of
  space_of_allocation m ty k t = allocation_space (s m) (e.known m) (e.home m) ty (h m) k t

  pub count_of : (n : Name) → is_count (constant_of s n) ≡ true → IsCount (e.known n)
  unfolding constant_of
  count_of n t = binding_count (s n) (e.known n) (e.home n) (h n) t

  pub chunks_of : (stride : Option (Name × Name)) → stride_well s stride ≡ true → SafeChunks e stride
  unfolding constant_of
  chunks_of None t = tt
  chunks_of (Some two) t = chunks_by (constant_of s two.0) (constant_of s two.1) (e.known two.0) (e.known two.1)
      (λ z. constant_known (s two.0) (e.known two.0) (e.home two.0) z (h two.0)) (λ z. constant_known (s two.1) (e.known two.1) (e.home two.1) z (h two.1)) t

-- ---- a name more

new_stands : (b : Option Binding) (known : Option ℤ) (home : Option Home) → Stands b known home → not (is_some b) ≡ true → (known ≡ None) × (home ≡ None)
new_stands None known home h t = h
new_stands (Some b) known home h t = absurd (let z : ⊥ = cc in z)

pub new_name : (s : Scope) (e : Env) (n : Name) → ScopeStands s e → not (is_in s n) ≡ true → (e.known n ≡ None) × (e.home n ≡ None)
unfolding is_in
new_name s e n h t = new_stands (s n) (e.known n) (e.home n) (h n) t

-- the names in scope stand for the same behind a change of one name's number and memref
pub stands_put : (s : Scope) (known : Name → Option ℤ) (home : Name → Option Home) (r : Name) (b : Binding) (o : Option ℤ) (m : Option Home)
    → ((n : Name) → Stands (s n) (known n) (home n)) → Stands (Some b) o m → (n : Name) → Stands (put s r (Some b) n) (put known r o n) (put home r m n)
stands_put s known home r b o m h k n = by (same_name r n) refl
  where
    by : (t : Bool) → same_name r n ≡ t → Stands (put s r (Some b) n) (put known r o n) (put home r m n)
    by true t = subst (λ x. x) (λ i. Stands (sym (put-same s r (Some b) n t) i) (sym (put-same known r o n t) i) (sym (put-same home r m n t) i)) k
    by false t = subst (λ x. x) (λ i. Stands (sym (put-other s r (Some b) n t) i) (sym (put-other known r o n t) i) (sym (put-other home r m n t) i)) (h n)
