-- The subscripts of a text that may be written can be put in order, and so can those of the texts on the way of a plan.
use Rattle.std.proofs.Common.{◌≡◌, ℕ, zero, suc, inl, Bool, true, false, List, [], ◌∷◌, Some, slice_get, refl, ap, arith}
use Rattle.std.specs.Prelude.{◌||◌, nat_le}
use Rattle.affine_ast.specs.declared.name.Name.{Name}
use Rattle.affine_ast.specs.declared.types.Access.{Access}
use Rattle.affine_ast.specs.declared.types.Bound.{Bound}
use Rattle.affine_ast.specs.declared.types.Bound.TheVariants as bound
use Rattle.affine_ast.specs.Names.{same_name}
use Rattle.affine_ast.specs.Nest.{Plain, Nest, Nothing, Loop, Branch, Does, Value, Load, Store, RawLoad, RawStore, Constant, Binary, Cast, Alloc, Dealloc, Start, Wait, Return, followed_by}
use Rattle.affine_ast.proofs.Names.{same_name-eq}
use Rattle.numbered_names.proofs.Apart.{is_one_of}
use Rattle.placement_texts.specs.Fold.{Step, staged_all, there, AllFit}
use Rattle.placement_texts.specs.Own.{OwnNest}
use Rattle.placement_texts.specs.Spots.{found, stage_one}
use Rattle.placement_texts.proofs.Folded.{dims_later, later}
use Rattle.placement_texts.proofs.OwnStaged.{nest_more, staged_own}
use Rattle.plan_laws.specs.Sites.{lined}
use Rattle.printed_texts.specs.Writable.{AreApart, SubscriptsFit, BoundFits, PlainFits, StatementsFit}
use Rattle.writable_modules.specs.Formed.{FewInBound}
use Rattle.stage_texts.specs.Distinct.{AreDistinct}
use Rattle.stage_texts.specs.Shape.{Each}
use Rattle.stage_texts.proofs.Staged.{each_staged}
use Rattle.stage_numbers.proofs.Symbols.{appear_symbols}
use Rattle.stage_numbers.proofs.Ready.{ReadyAt, ReadyPlain, ReadyLoop, ReadyBranch, Both, both_ready, template_ready}

-- ---- names
absent : (n : Name) (ns : List Name) → ((j : ℕ) (b : Name) → slice_get ns j ≡ Some b → b.text ≡ n.text → ⊥) → is_one_of ns n ≡ false
absent n [] h = refl
absent n (x ∷ ns) h = by (same_name x n) refl (absent n ns (λ j b e t. h (suc j) b e t))
  where
    by : (t : Bool) → same_name x n ≡ t → is_one_of ns n ≡ false → (t || is_one_of ns n) ≡ false
    by true e r = absurd (h 0 x refl (ap (λ (n : Name). n.text) (same_name-eq x n e)))
    by false e r = r

apart_distinct : (ns : List Name) → AreApart ns → AreDistinct ns
apart_distinct [] h = tt
apart_distinct (n ∷ ns) h = (
  absent n ns (λ j b e t. let z : suc j ≡ 0 = h (suc j) 0 b n e refl t in omega (arith, z)),
  apart_distinct ns (λ i j a b p q t. let z = h (suc i) (suc j) a b p q t in omega (arith, z)),
)

-- ---- a text
subscripts_ready : (at : Access) → SubscriptsFit at → ReadyAt at
subscripts_ready at h = let c = h.count in record { symbols = appear_symbols 0 0 at.map.dims at.map.syms _ h.order; enough = omega (arith, c); dims = apart_distinct _ h.dims; syms = apart_distinct _ h.syms }

plain_ready : (p : Plain) → PlainFits p → ReadyPlain p
plain_ready (Value r pick at) h = (h.1.operands.few_syms, inl h.1.operands.few_dims)
plain_ready (Load r m at ty) h = subscripts_ready at h.2
plain_ready (Store x m at ty) h = subscripts_ready at h.2
plain_ready (RawLoad r m at ty) h = tt
plain_ready (RawStore x m at ty) h = tt
plain_ready (Constant r z ty) h = tt
plain_ready (Binary r op a b ty) h = tt
plain_ready (Cast r kind x from to) h = tt
plain_ready (Alloc r ty) h = tt
plain_ready (Dealloc m ty) h = tt
plain_ready (Start a aa b bb t ta n stride types) h = (subscripts_ready aa h.0.1, subscripts_ready bb h.1.1, subscripts_ready ta h.2.1)
plain_ready (Wait t at n ty) h = subscripts_ready at h.1
plain_ready Return h = absurd h

bound_ready : (b : Bound) → BoundFits b → FewInBound b
bound_ready (bound.Int z) h = tt
bound_ready (bound.Value n) h = tt
bound_ready (bound.Map at) h = (h.operands.few_dims, h.operands.few_syms)

abbrev pub Ready : Nest → Type 0
Ready = Each ReadyPlain ReadyLoop ReadyBranch

inside : (left : ℕ) (n : Nest) → StatementsFit left n → Ready n
inside left Nothing h = tt
inside zero (Loop line v l u s body rest) h = absurd h
inside (suc left) (Loop line v l u s body rest) h = ((bound_ready l h.1, bound_ready u h.2), inside left body h.4, inside (suc left) rest h.5)
inside zero (Branch line set names first has other rest) h = absurd h
inside (suc left) (Branch line set names first has other rest) h = ((h.0.operands.few_dims, h.0.operands.few_syms), inside left first h.1, inside left other h.2, inside (suc left) rest h.3)
inside left (Does line p rest) h = (plain_ready p h.0, inside left rest h.1)

ready_end : (line : ℕ) (n : Nest) → Ready n → Ready (followed_by n (Does line Return Nothing))
ready_end line Nothing h = (tt, tt)
ready_end line (Loop last v l u s body rest) h = (h.0, h.1, ready_end line rest h.2)
ready_end line (Branch last set names first has other rest) h = (h.0, h.1, h.2, ready_end line rest h.3)
ready_end line (Does last p rest) h = (h.0, ready_end line rest h.1)

pub statements_ready : (left line : ℕ) (n : Nest) → StatementsFit left n → Ready (followed_by n (Does line Return Nothing))
statements_ready left line n h = ready_end line n (inside left n h)

pub lined_ready : (n : Nest) → Ready n → Ready (lined n)
lined_ready Nothing h = tt
lined_ready (Loop line v l u s body rest) h = (h.0, lined_ready body h.1, lined_ready rest h.2)
lined_ready (Branch line set names first has other rest) h = (h.0, lined_ready first h.1, lined_ready other h.2, lined_ready rest h.3)
lined_ready (Does line p rest) h = (h.0, lined_ready rest h.1)

-- ---- with placements
with_names : (own : Name → Bool) (n : Nest) → Ready n → OwnNest own n → Each (Both own) ReadyLoop ReadyBranch n
with_names own Nothing h o = tt
with_names own (Loop line v l u s body rest) h o = (h.0, with_names own body h.1 o.3, with_names own rest h.2 o.4)
with_names own (Branch line set names first has other rest) h o = (h.0, with_names own first h.1 o.1, with_names own other h.2 o.2, with_names own rest h.3 o.3)
with_names own (Does line p rest) h o = ((h.0, o.0), with_names own rest h.1 o.1)

module _ (made_by : Name → ℕ) where
  pub all_ready : (k : ℕ) (xs : List Step) (n : Nest) → AllFit made_by k xs → OwnNest (there made_by k) n → Ready n → Ready (staged_all xs n)
  all_ready k [] n f o h = h
  all_ready k (x ∷ xs) n f o h =
      let own = there made_by k in
      let next = there made_by (suc k) in
      let more = λ (a : Name) (h : own a ≡ true). later made_by k (suc k) a (omega arith) h in
      let made = λ (i : ℕ). (let e = f.0.made i in let t : nat_le (made_by (x.placement.name i)) k ≡ false = grind (arith, e) in t) in
      let made_next = λ (i : ℕ). (let e = f.0.made i in let t : nat_le (made_by (x.placement.name i)) (suc k) ≡ true = grind (arith, e) in t) in
      let memref = later made_by 0 k x.placement.memref (omega arith) f.0.memref_own in
      let dims = dims_later made_by 0 k x.placement.dims (omega arith) f.0.dims_own in
      all_ready (suc k) xs (stage_one x.placement x.spot n) f.1
      (staged_own own next more x.placement made_next memref dims f.0.elements (found x.spot n) n (nest_more own next more n o))
      (each_staged (Both own) ReadyPlain (both_ready own) ReadyLoop ReadyBranch x.placement (template_ready x.placement own f.0.apart made) (found x.spot n) n (with_names own n h o))
