-- What is known along two texts that differ in made statements: names of the text alike, memrefs up to numbers.
use Rattle.std.proofs.Common.{◌≡◌, ℕ, suc, ◌+◌, ◌<◌, ◌≤◌, ℤ, List, [], ◌∷◌, refl, sym, ap, ◌∙◌, arith, Bool, true, false, map}
use Rattle.std.specs.Prelude.{Option, Some, None, take, drop, if◌then◌else◌}
use Rattle.affine_expr.specs.declared.map.Set.{Set}
use Rattle.affine_expr.specs.Value.{value}
use Rattle.affine_expr.specs.Truth.{holds}
use Rattle.affine_ast.specs.declared.name.Name.{Name}
use Rattle.affine_ast.specs.declared.types.Access.{Access}
use Rattle.affine_ast.specs.declared.types.Bound.{Bound}
use Rattle.affine_ast.specs.declared.types.Bound.TheVariants as bound
use Rattle.affine_ast.specs.declared.types.Scalar.{Scalar}
use Rattle.affine_ast.specs.declared.types.Scalar.TheVariants.{Int, Index}
use Rattle.affine_ast.specs.Names.{same_name, put}
use Rattle.affine_ast.specs.Nest.{Plain, Nest, Value, Load, Store, RawLoad, RawStore, Constant, Binary, Cast, Alloc, Dealloc, Start, Wait, Return}
use Rattle.affine_ast.proofs.Names.{same_name-eq, put-other, put-both}
use Rattle.direct_meaning.specs.Action.{FastMemref, TagMemref}
use Rattle.direct_meaning.specs.Static.{Env, number, operand_of, operand, numbers, results_of, picked, greatest, least, lower_of, upper_of, holds_at, product}
use Rattle.direct_meaning.specs.Actions.{is_fast, after_constant, after_plain, fasts_of_plain, tags_of_plain, fasts_in, tags_in, behind}
use Rattle.placement_texts.specs.Labels.{Numbers, fast_up, tag_up, home_up}
use Rattle.placement_texts.specs.Own.{OwnNames, OwnBound, OwnPlain}

-- a name of the text is none of the template's
pub apart_own : (own : Name → Bool) (a b : Name) → own a ≡ true → own b ≡ false → same_name a b ≡ false
apart_own own a b p q = by_case (same_name a b) refl
  where
    by_case : (t : Bool) → same_name a b ≡ t → same_name a b ≡ false
    by_case true e = let k : true ≡ false = sym p ∙ ap own (same_name-eq a b e) ∙ q in cc
    by_case false e = e

-- a table under a function, with one entry changed
put_under : {A B : Type 0} (h : A → B) (f : Name → A) (r : Name) (x : A) (n : Name) → h (put f r x n) ≡ put (λ n. h (f n)) r (h x) n
unfolding put
put_under h f r x n = at (same_name r n)
  where
    at : (t : Bool) → h (if t then x else f n) ≡ (if t then h x else h (f n))
    at true = refl
    at false = refl

module _ (own : Name → Bool) (new : Numbers) where
  -- the numbers that so many allocations and so many tags take become greater ones, by so much
  pub record Shifts (a k : ℕ) (fasts fast_count tags tag_count : ℕ) : Type 0 where
    pub fast : (i : ℕ) → fasts ≤ i → i < fasts + fast_count → fast_up new i ≡ i + a
    pub tag : (i : ℕ) → tags ≤ i → i < tags + tag_count → tag_up new i ≡ i + k

  -- fewer of them
  pub shifts_part : (a k : ℕ) (f m f' m' t n t' n' : ℕ) → f ≤ f' → f' + m' ≤ f + m → t ≤ t' → t' + n' ≤ t + n → Shifts a k f m t n → Shifts a k f' m' t' n'
  shifts_part a k f m f' m' t n t' n' p q r s h = record {
    fast = λ i low high. h.fast i (omega (arith, p, low)) (omega (arith, q, high));
    tag = λ i low high. h.tag i (omega (arith, r, low)) (omega (arith, s, high));
  }

  -- `made` is what the made names stand for
  module _ (a k : ℕ) (made : Env) where
    pub record Follows (e g : Env) : Type 0 where
      pub known : (n : Name) → own n ≡ true → g.known n ≡ e.known n
      pub home : (n : Name) → own n ≡ true → g.home n ≡ home_up new (e.home n)
      pub fasts : g.fasts ≡ e.fasts + a
      pub tags : g.tags ≡ e.tags + k
      pub made_known : (n : Name) → own n ≡ false → g.known n ≡ made.known n
      pub made_home : (n : Name) → own n ≡ false → g.home n ≡ made.home n

    pub numbers_same : (e g : Env) (ns : List Name) → Follows e g → OwnNames own ns → numbers g ns ≡ numbers e ns
    numbers_same e g [] s h = refl
    numbers_same e g (n ∷ ns) s h = λ i. number (s.known n h.0 i) ∷ numbers_same e g ns s h.1 i

    pub results_same : (e g : Env) (at : Access) → Follows e g → OwnNames own at.operands → results_of g at ≡ results_of e at
    unfolding results_of
    results_same e g at s h = ap (λ zs. map (value (take at.map.dims zs) (drop at.map.dims zs)) at.map.results) (numbers_same e g at.operands s h)

    pub lower_same : (e g : Env) (l : Bound) → Follows e g → OwnBound own l → lower_of g l ≡ lower_of e l
    unfolding lower_of
    lower_same e g (bound.Int z) s h = refl
    lower_same e g (bound.Value n) s h = ap number (s.known n h)
    lower_same e g (bound.Map at) s h = ap greatest (results_same e g at s h)

    pub upper_same : (e g : Env) (u : Bound) → Follows e g → OwnBound own u → upper_of g u ≡ upper_of e u
    unfolding upper_of
    upper_same e g (bound.Int z) s h = refl
    upper_same e g (bound.Value n) s h = ap number (s.known n h)
    upper_same e g (bound.Map at) s h = ap least (results_same e g at s h)

    pub holds_same : (e g : Env) (set : Set) (ns : List Name) → Follows e g → OwnNames own ns → holds_at g set ns ≡ holds_at e set ns
    unfolding holds_at
    holds_same e g set ns s h = ap (λ zs. holds (take set.dims zs) (drop set.dims zs) set) (numbers_same e g ns s h)

    pub operand_same : (e g : Env) (n : Name) → Follows e g → own n ≡ true → operand g n ≡ operand e n
    operand_same e g n s h = ap (operand_of n) (s.known n h)

    pub operands_same : (e g : Env) (ns : List Name) → Follows e g → OwnNames own ns → map (operand g) ns ≡ map (operand e) ns
    operands_same e g [] s h = refl
    operands_same e g (n ∷ ns) s h = λ i. operand_same e g n s h.0 i ∷ operands_same e g ns s h.1 i

    -- what a name of the text comes to stand for
    pub known_follows : (e g : Env) (r : Name) (x y : Option ℤ) → own r ≡ true → y ≡ x → Follows e g → Follows (record e { known = put e.known r x }) (record g { known = put g.known r y })
    known_follows e g r x y r_own is s = record {
      known = λ n h. put-both g.known e.known r y x n is (s.known n h);
      home = s.home;
      fasts = s.fasts;
      tags = s.tags;
      made_known = λ n h. put-other g.known r y n (apart_own own r n r_own h) ∙ s.made_known n h;
      made_home = s.made_home;
    }

    pub behind_follows : (n n' : Nest) (e g : Env) → fasts_in n' ≡ fasts_in n → tags_in n' ≡ tags_in n → Follows e g → Follows (behind n e) (behind n' g)
    behind_follows n n' e g p q s =
        let g_fasts = s.fasts in
        let g_tags = s.tags in
        record {
          known = s.known;
          home = s.home;
          fasts = omega (arith, p, g_fasts);
          tags = omega (arith, q, g_tags);
          made_known = s.made_known;
          made_home = s.made_home;
        }

    alloc_follows : (b : Bool) (r : Name) (size : ℕ) (e g : Env) → own r ≡ true → 1 ≤ size → Shifts a k e.fasts (if b then 1 else 0) e.tags (if b then 0 else size) → Follows e g
        → Follows (if b then record e { home = put e.home r (Some (FastMemref e.fasts)); fasts = suc e.fasts } else record e { home = put e.home r (Some (TagMemref e.tags)); tags = e.tags + size })
        (if b then record g { home = put g.home r (Some (FastMemref g.fasts)); fasts = suc g.fasts } else record g { home = put g.home r (Some (TagMemref g.tags)); tags = g.tags + size })
    alloc_follows true r size e g r_own h m s =
        let g_fasts = s.fasts in
        let number : g.fasts ≡ fast_up new e.fasts = s.fasts ∙ sym (m.fast e.fasts (omega arith) (omega arith)) in
        record {
          known = s.known;
          home = λ n h. put-both g.home (λ n. home_up new (e.home n)) r _ _ n (ap (λ n. Some (FastMemref n)) number) (s.home n h) ∙ sym (put_under (home_up new) e.home r (Some (FastMemref e.fasts)) n);
          fasts = omega (arith, g_fasts);
          tags = s.tags;
          made_known = s.made_known;
          made_home = λ n h. put-other g.home r _ n (apart_own own r n r_own h) ∙ s.made_home n h;
        }
    alloc_follows false r size e g r_own h m s =
        let g_tags = s.tags in
        let number : g.tags ≡ tag_up new e.tags = s.tags ∙ sym (m.tag e.tags (omega arith) (omega (arith, h))) in
        record {
          known = s.known;
          home = λ n h. put-both g.home (λ n. home_up new (e.home n)) r _ _ n (ap (λ n. Some (TagMemref n)) number) (s.home n h) ∙ sym (put_under (home_up new) e.home r (Some (TagMemref e.tags)) n);
          fasts = s.fasts;
          tags = omega (arith, g_tags);
          made_known = s.made_known;
          made_home = λ n h. put-other g.home r _ n (apart_own own r n r_own h) ∙ s.made_home n h;
        }

    constant_follows : (r : Name) (z : ℤ) (ty : Scalar) (e g : Env) → own r ≡ true → Follows e g → Follows (after_constant r z ty e) (after_constant r z ty g)
    constant_follows r z (Int element) e g h s = known_follows e g r None None h refl s
    constant_follows r z Index e g h s = known_follows e g r (Some z) (Some z) h refl s

    pub after_follows : (p : Plain) (e g : Env) → OwnPlain own p → Shifts a k e.fasts (fasts_of_plain p) e.tags (tags_of_plain p) → Follows e g → Follows (after_plain p e) (after_plain p g)
    unfolding after_plain
    after_follows (Value r pick at) e g h m s = known_follows e g r _ _ h.0 (ap (λ zs. Some (picked pick zs)) (results_same e g at s h.1)) s
    after_follows (Load r m_ at ty) e g h m s = known_follows e g r None None h.0 refl s
    after_follows (Store x m_ at ty) e g h m s = s
    after_follows (RawLoad r m_ at ty) e g h m s = known_follows e g r None None h.0 refl s
    after_follows (RawStore x m_ at ty) e g h m s = s
    after_follows (Constant r z ty) e g h m s = constant_follows r z ty e g h s
    after_follows (Binary r op x y ty) e g h m s = known_follows e g r None None h.0 refl s
    after_follows (Cast r kind x from to) e g h m s = known_follows e g r None None h.0 refl s
    after_follows (Alloc r ty) e g h m s = alloc_follows (is_fast ty) r (product ty.sizes) e g h.0 h.1 m s
    after_follows (Dealloc m_ ty) e g h m s = s
    after_follows (Start x x_at y y_at t t_at n stride types) e g h m s = s
    after_follows (Wait t at n ty) e g h m s = s
    after_follows Return e g h m s = s
