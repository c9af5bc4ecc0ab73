-- What a template allocates it releases once, in the same region.
use Rattle.std.proofs.Common.{◌≡◌, ℕ, ℤ, refl, sym, ap, ◌∙◌, arith, Bool, true, false}
use Rattle.std.specs.Prelude.{◌&&◌, if◌then◌else◌}
use Rattle.std.proofs.lemmas.Bool.{eq-eqb}
use Rattle.affine_ast.specs.declared.name.Name.{Name}
use Rattle.affine_ast.specs.declared.types.Bound.{Bound}
use Rattle.affine_ast.specs.Names.{same_name}
use Rattle.affine_ast.proofs.Names.{same_name-refl}
use Rattle.affine_ast.specs.Nest.{Plain, Nest, Nothing, Loop, Branch, Does, Value, Load, Store, RawLoad, RawStore, Constant, Binary, Cast, Alloc, Dealloc, Start, Wait, Return}
use Rattle.affine_ast.specs.Rules.{is_dealloc_of, deallocs, own_deallocs, is_released_once}
use Rattle.placement_texts.specs.Own.{OwnPlain, OwnNest}
use Rattle.placement_texts.specs.Mapped.{mapped}
use Rattle.placement_texts.specs.Template.{How, Copies, Transfers, Placement, fast_name, tag_name, tag_type, read_in, write_out, deallocs as deallocs_of, where_so, behind_loop, redirect}
use Rattle.placement_texts.proofs.Follows.{apart_own}
use Rattle.placement_texts.proofs.Deallocs.{all_mapped, all_read, all_write, all_so, here_read, here_write, here_so}

module _ (own : Name → Bool) (r : Name) (made : own r ≡ false) where
  none_plain : (q : Plain) → OwnPlain own q → is_dealloc_of r q ≡ 0
  none_plain (Dealloc m ty) h = ap (λ t. if t then 1 else 0) (apart_own own m r h made)
  none_plain (Value x pick at) h = refl
  none_plain (Load x m at ty) h = refl
  none_plain (Store x m at ty) h = refl
  none_plain (RawLoad x m at ty) h = refl
  none_plain (RawStore x m at ty) h = refl
  none_plain (Constant x z ty) h = refl
  none_plain (Binary x op a b ty) h = refl
  none_plain (Cast x kind y from to) h = refl
  none_plain (Alloc x ty) h = refl
  none_plain (Start a a_at b b_at t t_at n stride types) h = refl
  none_plain (Wait t at n ty) h = refl
  none_plain Return h = refl

  -- a text releases no made name
  all_none : (n : Nest) → OwnNest own n → deallocs r n ≡ 0
  unfolding deallocs
  all_none Nothing h = refl
  all_none (Loop line v l u s body rest) h = let e = all_none body h.3 in let f = all_none rest h.4 in omega (arith, e, f)
  all_none (Branch line set ns first has other rest) h = let e = all_none first h.1 in let f = all_none other h.2 in let g = all_none rest h.3 in omega (arith, e, f, g)
  all_none (Does line q rest) h = let e = none_plain q h.0 in let f = all_none rest h.1 in omega (arith, e, f)

  here_none : (n : Nest) → OwnNest own n → own_deallocs r n ≡ 0
  unfolding own_deallocs
  here_none Nothing h = refl
  here_none (Loop line v l u s body rest) h = here_none rest h.4
  here_none (Branch line set ns first has other rest) h = here_none rest h.3
  here_none (Does line q rest) h = let e = none_plain q h.0 in let f = here_none rest h.1 in omega (arith, e, f)

  module _ (p : Placement) where
    -- the text from the loop on
    abbrev pub from_loop : ℕ → Name → Bound → Bound → ℤ → Nest → Nest → Nest
    from_loop line v l u step body rest = where_so p p.reads (read_in p p.how) (Loop line v l u step (mapped (redirect p) body) (behind_loop p rest))

    -- where the statements behind release it once
    pub once : (line : ℕ) (v : Name) (l u : Bound) (step : ℤ) (body rest : Nest) → OwnNest own body → deallocs r (deallocs_of p p.how rest) ≡ 1 → own_deallocs r (deallocs_of p p.how rest) ≡ 1 → is_released_once r (from_loop line v l u step body rest) ≡ true
    unfolding deallocs own_deallocs is_released_once
    once line v l u step body rest o h k =
        let inner = Loop line v l u step (mapped (redirect p) body) (behind_loop p rest) in
        let a = all_so p r p.reads (read_in p p.how) inner (all_read p r p.how) in
        let b = all_mapped p r body in
        let c = all_none body o in
        let d = all_so p r p.writes (write_out p p.how) (deallocs_of p p.how rest) (all_write p r p.how) in
        let e = here_so p r p.reads (read_in p p.how) inner (here_read p r p.how) in
        let f = here_so p r p.writes (write_out p p.how) (deallocs_of p p.how rest) (here_write p r p.how) in
        let x : deallocs r (from_loop line v l u step body rest) ≡ 1 = omega (arith, a, b, c, d, h) in
        let y : own_deallocs r (from_loop line v l u step body rest) ≡ 1 = omega (arith, e, f, k) in
        λ i. eq-eqb (deallocs r (from_loop line v l u step body rest)) 1 x i && eq-eqb (own_deallocs r (from_loop line v l u step body rest)) 1 y i

    one : (n m : Name) → same_name n m ≡ true → is_dealloc_of m (Dealloc n tag_type) ≡ 1
    one n m h = ap (λ t. if t then 1 else 0) h

    zero_of : (n m : Name) → same_name n m ≡ false → is_dealloc_of m (Dealloc n tag_type) ≡ 0
    zero_of n m h = ap (λ t. if t then 1 else 0) h

    -- the fast memref
    pub fast_all : (how : How) (rest : Nest) → fast_name p.name ≡ r → same_name (tag_name p.name) r ≡ false → OwnNest own rest → deallocs r (deallocs_of p how rest) ≡ 1
    unfolding deallocs
    fast_all Copies rest is other o = let a = one (fast_name p.name) r (ap (same_name (fast_name p.name)) (sym is) ∙ same_name-refl (fast_name p.name)) in let b = all_none rest o in omega (arith, a, b)
    fast_all (Transfers chunks) rest is other o =
        let a = one (fast_name p.name) r (ap (same_name (fast_name p.name)) (sym is) ∙ same_name-refl (fast_name p.name)) in
        let b = all_none rest o in
        let c = zero_of (tag_name p.name) r other in
        omega (arith, a, b, c)

    pub fast_here : (how : How) (rest : Nest) → fast_name p.name ≡ r → same_name (tag_name p.name) r ≡ false → OwnNest own rest → own_deallocs r (deallocs_of p how rest) ≡ 1
    unfolding own_deallocs
    fast_here Copies rest is other o = let a = one (fast_name p.name) r (ap (same_name (fast_name p.name)) (sym is) ∙ same_name-refl (fast_name p.name)) in let b = here_none rest o in omega (arith, a, b)
    fast_here (Transfers chunks) rest is other o =
        let a = one (fast_name p.name) r (ap (same_name (fast_name p.name)) (sym is) ∙ same_name-refl (fast_name p.name)) in
        let b = here_none rest o in
        let c = zero_of (tag_name p.name) r other in
        omega (arith, a, b, c)

    -- the tags, where there are some
    abbrev pub OnceTag : How → Nest → Type 0
    OnceTag Copies rest = Unit {0}
    OnceTag (Transfers chunks) rest = (deallocs r (deallocs_of p (Transfers chunks) rest) ≡ 1) × (own_deallocs r (deallocs_of p (Transfers chunks) rest) ≡ 1)

    pub tag_once : (how : How) (rest : Nest) → tag_name p.name ≡ r → same_name (fast_name p.name) r ≡ false → OwnNest own rest → OnceTag how rest
    unfolding deallocs own_deallocs
    tag_once Copies rest is other o = tt
    tag_once (Transfers chunks) rest is other o =
        let a = one (tag_name p.name) r (ap (same_name (tag_name p.name)) (sym is) ∙ same_name-refl (tag_name p.name)) in
        let b = all_none rest o in
        let b' = here_none rest o in
        let c = zero_of (fast_name p.name) r other in
        (omega (arith, a, b, c), omega (arith, a, b', c))
