-- The limits tell of each statement under what stands before it; the sums of a text tell the same, since each part that it begins with
-- has no greater ones.
use Rattle.std.proofs.Common.{◌≡◌, ℕ, suc, ◌+◌, ◌≤◌, ℤ, List, [], ◌∷◌, Bool, true, false, refl, sym, ap, ◌∙◌, subst, arith}
use Rattle.std.specs.Prelude.{◌&&◌, Option, Some, None, nat_le}
use Rattle.std.specs.List.{list_all}
use Rattle.std.proofs.lemmas.Bool.{and_parts, leb-true, le-leb}
use Rattle.affine_ast.specs.declared.module.Arg.{Arg}
use Rattle.affine_ast.specs.declared.module.ArgKind.{ArgKind}
use Rattle.affine_ast.specs.declared.module.ArgKind.TheVariants as kind
use Rattle.affine_expr.specs.declared.map.Set.{Set}
use Rattle.affine_ast.specs.declared.name.Name.{Name}
use Rattle.affine_ast.specs.declared.types.Bound.{Bound}
use Rattle.affine_ast.specs.Nest.{Plain, Nest, Nothing, Loop, Branch, Does, Value, Load, Store, RawLoad, RawStore, Constant, Binary, Cast, Alloc, Dealloc, Start, Wait, Return}
use Rattle.affine_ast.specs.Parts.{maps_of}
use Rattle.affine_ast.specs.Rules.{text_within, shape_within, allocations_within}
use Rattle.affine_ast.specs.Scope.{Totals, Around, with_totals, totals_with, counted, in_loop, in_condition, behind_plain}
use Rattle.affine_ast.specs.Validity.{elements_within, behind_argument, outside}
use Rattle.plan_laws.specs.Limits.{access_fits, bound_fits, rows_fit, operands_in, while_kept, and_then, kept, is_there, behind_arguments, keeps_limits}
use Rattle.text_limits.specs.Sums.{statements_in, elements_of, elements_in, tag_elements_of, tags_in, shape_fits, is_shallow, plain_fits, each_fits, sums_in, are_within, LimitsAreSums}

both : {a b : Bool} → a ≡ true → b ≡ true → (a && b) ≡ true
both p q = λ i. p i && q i

same_bool : (a b : Bool) → (a ≡ true → b ≡ true) → (b ≡ true → a ≡ true) → a ≡ b
same_bool true b f g = sym (f refl)
same_bool false true f g = g refl
same_bool false false f g = refl

record Within (t : Totals) : Type 0 where
  statements : t.statements ≤ 65536
  elements : t.allocated ≤ 16777216
  tags : t.tags ≤ 65536

-- the totals behind a text
record Grows (t : Totals) (n : Nest) (u : Totals) : Type 0 where
  statements : u.statements ≡ t.statements + statements_in n
  elements : u.allocated ≡ t.allocated + elements_in n
  tags : u.tags ≡ t.tags + tags_in n

-- ---- a plain statement
record Passed (p : Plain) (a b : Around) : Type 0 where
  loops : b.loops ≡ a.loops
  ifs : b.ifs ≡ a.ifs
  statements : b.totals.statements ≡ a.totals.statements
  elements : b.totals.allocated ≡ a.totals.allocated + elements_of p
  tags : b.totals.tags ≡ a.totals.tags + tag_elements_of p

passed : (p : Plain) (a : Around) → Passed p a (behind_plain p a)
passed (Value r pick at) a = record { loops = refl; ifs = refl; statements = refl; elements = omega arith; tags = omega arith }
passed (Load r m at ty) a = record { loops = refl; ifs = refl; statements = refl; elements = omega arith; tags = omega arith }
passed (Store x m at ty) a = record { loops = refl; ifs = refl; statements = refl; elements = omega arith; tags = omega arith }
passed (RawLoad r m at ty) a = record { loops = refl; ifs = refl; statements = refl; elements = omega arith; tags = omega arith }
passed (RawStore x m at ty) a = record { loops = refl; ifs = refl; statements = refl; elements = omega arith; tags = omega arith }
passed (Constant r z ty) a = record { loops = refl; ifs = refl; statements = refl; elements = omega arith; tags = omega arith }
passed (Binary r op x y ty) a = record { loops = refl; ifs = refl; statements = refl; elements = omega arith; tags = omega arith }
passed (Cast r kind x from to) a = record { loops = refl; ifs = refl; statements = refl; elements = omega arith; tags = omega arith }
passed (Alloc r ty) a = record { loops = refl; ifs = refl; statements = refl; elements = refl; tags = refl }
passed (Dealloc m ty) a = record { loops = refl; ifs = refl; statements = refl; elements = omega arith; tags = omega arith }
passed (Start x x_at y y_at t t_at n stride types) a = record { loops = refl; ifs = refl; statements = refl; elements = omega arith; tags = omega arith }
passed (Wait t at n ty) a = record { loops = refl; ifs = refl; statements = refl; elements = omega arith; tags = omega arith }
passed Return a = record { loops = refl; ifs = refl; statements = refl; elements = omega arith; tags = omega arith }

-- its elements are within, from totals that are
record Allocates (t : Totals) (p : Plain) : Type 0 where
  shape : shape_fits p ≡ true
  elements : t.allocated + elements_of p ≤ 16777216
  tags : t.tags + tag_elements_of p ≤ 65536

allocates : (t : Totals) (p : Plain) → Within t → elements_within t p ≡ true → Allocates t p
allocates t (Alloc r ty) w h =
    let k = and_parts (shape_within ty) (allocations_within (totals_with ty t)) h in
    let e = and_parts (nat_le (totals_with ty t).allocated 16777216) (nat_le (totals_with ty t).tags 65536) k.1 in
    record { shape = k.0; elements = leb-true _ _ e.0; tags = leb-true _ _ e.1 }
allocates t (Value r pick at) w h = let e = w.elements in let s = w.tags in record { shape = refl; elements = omega (arith, e); tags = omega (arith, s) }
allocates t (Load r m at ty) w h = let e = w.elements in let s = w.tags in record { shape = refl; elements = omega (arith, e); tags = omega (arith, s) }
allocates t (Store x m at ty) w h = let e = w.elements in let s = w.tags in record { shape = refl; elements = omega (arith, e); tags = omega (arith, s) }
allocates t (RawLoad r m at ty) w h = let e = w.elements in let s = w.tags in record { shape = refl; elements = omega (arith, e); tags = omega (arith, s) }
allocates t (RawStore x m at ty) w h = let e = w.elements in let s = w.tags in record { shape = refl; elements = omega (arith, e); tags = omega (arith, s) }
allocates t (Constant r z ty) w h = let e = w.elements in let s = w.tags in record { shape = refl; elements = omega (arith, e); tags = omega (arith, s) }
allocates t (Binary r op x y ty) w h = let e = w.elements in let s = w.tags in record { shape = refl; elements = omega (arith, e); tags = omega (arith, s) }
allocates t (Cast r kind x from to) w h = let e = w.elements in let s = w.tags in record { shape = refl; elements = omega (arith, e); tags = omega (arith, s) }
allocates t (Dealloc m ty) w h = let e = w.elements in let s = w.tags in record { shape = refl; elements = omega (arith, e); tags = omega (arith, s) }
allocates t (Start x x_at y y_at t' t_at n stride types) w h = let e = w.elements in let s = w.tags in record { shape = refl; elements = omega (arith, e); tags = omega (arith, s) }
allocates t (Wait t' at n ty) w h = let e = w.elements in let s = w.tags in record { shape = refl; elements = omega (arith, e); tags = omega (arith, s) }
allocates t Return w h = let e = w.elements in let s = w.tags in record { shape = refl; elements = omega (arith, e); tags = omega (arith, s) }

-- and the other way round
allocated : (t : Totals) (p : Plain) → Allocates t p → elements_within t p ≡ true
allocated t (Alloc r ty) h = both h.shape (both (le-leb _ _ h.elements) (le-leb _ _ h.tags))
allocated t p h = refl

-- ---- what is kept is within
some_kept : (b : Bool) (o : Option Around) (c : Around) → while_kept b o ≡ Some c → (b ≡ true) × (o ≡ Some c)
some_kept true o c h = (refl, h)
some_kept false o c h = absurd (let z : ⊥ = cc in z)

some_then : (o : Option Around) (more : Around → Option Around) (c : Around) → and_then o more ≡ Some c → (b : Around) × (o ≡ Some b) × (more b ≡ Some c)
some_then (Some b) more c h = (b, refl, h)
some_then None more c h = absurd (let z : ⊥ = cc in z)

record Keeps (n : Nest) (a c : Around) : Type 0 where
  fits : each_fits a.loops a.ifs n ≡ true
  grows : Grows a.totals n c.totals
  within : Within c.totals

shallow : (a : Around) → text_within (counted a) ≡ true → (suc a.totals.statements ≤ 65536) × (is_shallow a.loops a.ifs ≡ true)
shallow a h = let k = and_parts (nat_le (suc a.totals.statements) 65536) (nat_le a.loops 16 && nat_le a.ifs 16) h in (leb-true _ _ k.0, k.1)

one_more : (a : Around) → Within a.totals → suc a.totals.statements ≤ 65536 → Within (counted a).totals
one_more a w s = record { statements = s; elements = w.elements; tags = w.tags }

all_kept : (n : Nest) (a c : Around) → kept n a ≡ Some c → Within a.totals → Keeps n a c
all_kept Nothing a c h w =
    let same : a ≡ c = cc in
    record {
      fits = refl;
      grows = subst (λ (x : Around). Grows a.totals Nothing x.totals) same (record { statements = omega arith; elements = omega arith; tags = omega arith });
      within = subst (λ (x : Around). Within x.totals) same w;
    }
all_kept (Loop line v l u s body rest) a c h w =
    let k = some_kept (text_within (counted a) && (bound_fits l && bound_fits u)) _ c h in
    let t = and_parts (text_within (counted a)) (bound_fits l && bound_fits u) k.0 in
    let d = shallow a t.0 in
    let b = some_then (kept body (in_loop v l u (counted a))) (λ b. kept rest (with_totals b.totals a)) c k.1 in
    let x = all_kept body (in_loop v l u (counted a)) b.0 b.1 (one_more a w d.0) in
    let y = all_kept rest (with_totals b.0.totals a) c b.2 x.within in
    let xs = x.grows.statements in let ys = y.grows.statements in
    let xe = x.grows.elements in let ye = y.grows.elements in
    let xt = x.grows.tags in let yt = y.grows.tags in
    record {
      fits = both (both d.1 t.1) (both x.fits y.fits);
      grows = record { statements = omega (arith, xs, ys); elements = omega (arith, xe, ye); tags = omega (arith, xt, yt) };
      within = y.within;
    }
all_kept (Branch line set names first has other rest) a c h w =
    let k = some_kept (text_within (counted a) && rows_fit set.rows) _ c h in
    let t = and_parts (text_within (counted a)) (rows_fit set.rows) k.0 in
    let d = shallow a t.0 in
    let b = some_then (kept first (in_condition (counted a))) (λ b. and_then (kept other (in_condition (with_totals b.totals a))) (λ c. kept rest (with_totals c.totals a))) c k.1 in
    let e = some_then (kept other (in_condition (with_totals b.0.totals a))) (λ c. kept rest (with_totals c.totals a)) c b.2 in
    let x = all_kept first (in_condition (counted a)) b.0 b.1 (one_more a w d.0) in
    let y = all_kept other (in_condition (with_totals b.0.totals a)) e.0 e.1 x.within in
    let z = all_kept rest (with_totals e.0.totals a) c e.2 y.within in
    let xs = x.grows.statements in let ys = y.grows.statements in let zs = z.grows.statements in
    let xe = x.grows.elements in let ye = y.grows.elements in let ze = z.grows.elements in
    let xt = x.grows.tags in let yt = y.grows.tags in let zt = z.grows.tags in
    record {
      fits = both (both d.1 t.1) (both x.fits (both y.fits z.fits));
      grows = record { statements = omega (arith, xs, ys, zs); elements = omega (arith, xe, ye, ze); tags = omega (arith, xt, yt, zt) };
      within = z.within;
    }
all_kept (Does line p rest) a c h w =
    let k = some_kept (text_within (counted a) && (elements_within (counted a).totals p && list_all access_fits (maps_of p))) _ c h in
    let t = and_parts (text_within (counted a)) (elements_within (counted a).totals p && list_all access_fits (maps_of p)) k.0 in
    let e = and_parts (elements_within (counted a).totals p) (list_all access_fits (maps_of p)) t.1 in
    let d = shallow a t.0 in
    let o = allocates (counted a).totals p (one_more a w d.0) e.0 in
    let g = passed p (counted a) in
    let gs = g.statements in let ge = g.elements in let gt = g.tags in
    let s = d.0 in let oe = o.elements in let ot = o.tags in
    let y = all_kept rest (behind_plain p (counted a)) c k.1 (record { statements = omega (arith, gs, s); elements = omega (arith, ge, oe); tags = omega (arith, gt, ot) }) in
    let ys = y.grows.statements in let ye = y.grows.elements in let yt = y.grows.tags in
    record {
      fits = both (both d.1 (both o.shape e.1)) (subst (λ i. each_fits a.loops i rest ≡ true) g.ifs (subst (λ l. each_fits l (behind_plain p (counted a)).ifs rest ≡ true) g.loops y.fits));
      grows = record { statements = omega (arith, gs, ys); elements = omega (arith, ge, ye); tags = omega (arith, gt, yt) };
      within = y.within;
    }

-- ---- what is within is kept
-- the totals with those of a text are within
record Fits (t : Totals) (n : Nest) : Type 0 where
  statements : t.statements + statements_in n ≤ 65536
  elements : t.allocated + elements_in n ≤ 16777216
  tags : t.tags + tags_in n ≤ 65536

record Kept (n : Nest) (a : Around) : Type 0 where
  behind : Around
  is : kept n a ≡ Some behind
  grows : Grows a.totals n behind.totals

kept_loop : (line : ℕ) (v : Name) (l u : Bound) (s : ℤ) (body rest : Nest) (a b : Around) (c : Option Around) → (text_within (counted a) && (bound_fits l && bound_fits u)) ≡ true
    → kept body (in_loop v l u (counted a)) ≡ Some b → kept rest (with_totals b.totals a) ≡ c → kept (Loop line v l u s body rest) a ≡ c
kept_loop line v l u s body rest a b c own inner more = (λ i. while_kept (own i) (and_then (inner i) (λ b. kept rest (with_totals b.totals a)))) ∙ more

kept_condition : (line : ℕ) (set : Set) (names : List Name) (first : Nest) (has : Bool) (other rest : Nest) (a b d : Around) (c : Option Around) → (text_within (counted a) && rows_fit set.rows) ≡ true
    → kept first (in_condition (counted a)) ≡ Some b → kept other (in_condition (with_totals b.totals a)) ≡ Some d → kept rest (with_totals d.totals a) ≡ c → kept (Branch line set names first has other rest) a ≡ c
kept_condition line set names first has other rest a b d c own one two more =
    (λ i. while_kept (own i) (and_then (one i) (λ b. and_then (kept other (in_condition (with_totals b.totals a))) (λ c. kept rest (with_totals c.totals a)))))
    ∙ (λ i. and_then (two i) (λ c. kept rest (with_totals c.totals a)))
    ∙ more

kept_plain : (line : ℕ) (p : Plain) (rest : Nest) (a : Around) (c : Option Around) → (text_within (counted a) && (elements_within (counted a).totals p && list_all access_fits (maps_of p))) ≡ true
    → kept rest (behind_plain p (counted a)) ≡ c → kept (Does line p rest) a ≡ c
kept_plain line p rest a c own more = (λ i. while_kept (own i) (kept rest (behind_plain p (counted a)))) ∙ more

all_within : (n : Nest) (a : Around) → each_fits a.loops a.ifs n ≡ true → Fits a.totals n → Kept n a
all_within Nothing a h w = record { behind = a; is = refl; grows = record { statements = omega arith; elements = omega arith; tags = omega arith } }
all_within (Loop line v l u s body rest) a h w =
    let k = and_parts (is_shallow a.loops a.ifs && (bound_fits l && bound_fits u)) (each_fits (suc a.loops) a.ifs body && each_fits a.loops a.ifs rest) h in
    let d = and_parts (is_shallow a.loops a.ifs) (bound_fits l && bound_fits u) k.0 in
    let f = and_parts (each_fits (suc a.loops) a.ifs body) (each_fits a.loops a.ifs rest) k.1 in
    let ws = w.statements in let we = w.elements in let wt = w.tags in
    let x = all_within body (in_loop v l u (counted a)) f.0 (record { statements = omega (arith, ws); elements = omega (arith, we); tags = omega (arith, wt) }) in
    let xs = x.grows.statements in let xe = x.grows.elements in let xt = x.grows.tags in
    let y = all_within rest (with_totals x.behind.totals a) f.1 (record { statements = omega (arith, ws, xs); elements = omega (arith, we, xe); tags = omega (arith, wt, xt) }) in
    let ys = y.grows.statements in let ye = y.grows.elements in let yt = y.grows.tags in
    record {
      behind = y.behind;
      is = kept_loop line v l u s body rest a x.behind (Some y.behind) (both (both (le-leb (suc a.totals.statements) 65536 (omega (arith, ws))) d.0) d.1) x.is y.is;
      grows = record { statements = omega (arith, xs, ys); elements = omega (arith, xe, ye); tags = omega (arith, xt, yt) };
    }
all_within (Branch line set names first has other rest) a h w =
    let k = and_parts (is_shallow a.loops a.ifs && rows_fit set.rows) (each_fits a.loops (suc a.ifs) first && (each_fits a.loops (suc a.ifs) other && each_fits a.loops a.ifs rest)) h in
    let d = and_parts (is_shallow a.loops a.ifs) (rows_fit set.rows) k.0 in
    let f = and_parts (each_fits a.loops (suc a.ifs) first) (each_fits a.loops (suc a.ifs) other && each_fits a.loops a.ifs rest) k.1 in
    let g = and_parts (each_fits a.loops (suc a.ifs) other) (each_fits a.loops a.ifs rest) f.1 in
    let ws = w.statements in let we = w.elements in let wt = w.tags in
    let x = all_within first (in_condition (counted a)) f.0 (record { statements = omega (arith, ws); elements = omega (arith, we); tags = omega (arith, wt) }) in
    let xs = x.grows.statements in let xe = x.grows.elements in let xt = x.grows.tags in
    let y = all_within other (in_condition (with_totals x.behind.totals a)) g.0 (record { statements = omega (arith, ws, xs); elements = omega (arith, we, xe); tags = omega (arith, wt, xt) }) in
    let ys = y.grows.statements in let ye = y.grows.elements in let yt = y.grows.tags in
    let z = all_within rest (with_totals y.behind.totals a) g.1 (record { statements = omega (arith, ws, xs, ys); elements = omega (arith, we, xe, ye); tags = omega (arith, wt, xt, yt) }) in
    let zs = z.grows.statements in let ze = z.grows.elements in let zt = z.grows.tags in
    record {
      behind = z.behind;
      is = kept_condition line set names first has other rest a x.behind y.behind (Some z.behind) (both (both (le-leb (suc a.totals.statements) 65536 (omega (arith, ws))) d.0) d.1) x.is y.is z.is;
      grows = record { statements = omega (arith, xs, ys, zs); elements = omega (arith, xe, ye, ze); tags = omega (arith, xt, yt, zt) };
    }
all_within (Does line p rest) a h w =
    let k = and_parts (is_shallow a.loops a.ifs && plain_fits p) (each_fits a.loops a.ifs rest) h in
    let d = and_parts (is_shallow a.loops a.ifs) (plain_fits p) k.0 in
    let f = and_parts (shape_fits p) (list_all access_fits (maps_of p)) d.1 in
    let ws = w.statements in let we = w.elements in let wt = w.tags in
    let g = passed p (counted a) in
    let gs = g.statements in let ge = g.elements in let gt = g.tags in
    let o = allocated (counted a).totals p (record { shape = f.0; elements = omega (arith, we); tags = omega (arith, wt) }) in
    let y = all_within rest (behind_plain p (counted a))
    (subst (λ i. each_fits (behind_plain p (counted a)).loops i rest ≡ true) (sym g.ifs) (subst (λ l. each_fits l a.ifs rest ≡ true) (sym g.loops) k.1))
    (record { statements = omega (arith, ws, gs); elements = omega (arith, we, ge); tags = omega (arith, wt, gt) }) in
    let ys = y.grows.statements in let ye = y.grows.elements in let yt = y.grows.tags in
    record {
      behind = y.behind;
      is = kept_plain line p rest a (Some y.behind) (both (both (le-leb (suc a.totals.statements) 65536 (omega (arith, ws))) d.0) (both o f.1)) y.is;
      grows = record { statements = omega (arith, gs, ys); elements = omega (arith, ge, ye); tags = omega (arith, gt, yt) };
    }

-- ---- behind the arguments nothing is counted yet
record Begins (a : Around) : Type 0 where
  loops : a.loops ≡ 0
  ifs : a.ifs ≡ 0
  statements : a.totals.statements ≡ 0
  elements : a.totals.allocated ≡ 0
  tags : a.totals.tags ≡ 0

begins : (args : List Arg) (a : Around) → Begins a → Begins (behind_arguments args a)
begins [] a h = h
begins (arg ∷ args) a h = begins args (behind_argument arg.name arg.kind a) (by arg.kind)
  where
    by : (k : ArgKind) → Begins (behind_argument arg.name k a)
    by (kind.Memref ty) = record { loops = h.loops; ifs = h.ifs; statements = h.statements; elements = h.elements; tags = h.tags }
    by (kind.Index r) = record { loops = h.loops; ifs = h.ifs; statements = h.statements; elements = h.elements; tags = h.tags }

some_there : (o : Option Around) → is_there o ≡ true → (c : Around) × (o ≡ Some c)
some_there (Some c) h = (c, refl)
some_there None h = absurd (let z : ⊥ = cc in z)

rounds_at : (n : Nest) (a : Around) → Begins a → each_fits a.loops a.ifs n ≡ each_fits 0 0 n
rounds_at n a h = ap (λ l. each_fits l a.ifs n) h.loops ∙ ap (λ i. each_fits 0 i n) h.ifs

nothing_yet : (a : Around) → Begins a → Within a.totals
nothing_yet a h =
    let s = h.statements in let e = h.elements in let t = h.tags in
    record { statements = omega (arith, s); elements = omega (arith, e); tags = omega (arith, t) }

at_first : (args : List Arg) → Begins (behind_arguments args outside)
at_first args = begins args outside (record { loops = refl; ifs = refl; statements = refl; elements = refl; tags = refl })

sums_of : (args : List Arg) (n : Nest) → keeps_limits args n ≡ true → are_within (sums_in 0 0 n) ≡ true
unfolding keeps_limits
sums_of args n h =
    let first = behind_arguments args outside in
    let g = at_first args in
    let two = and_parts (nat_le (operands_in n) 1048576) (is_there (kept n first)) h in
    let c = some_there (kept n first) two.1 in
    let k = all_kept n first c.0 c.1 (nothing_yet first g) in
    let gs = g.statements in let ge = g.elements in let gt = g.tags in
    let ks = k.grows.statements in let ke = k.grows.elements in let kt = k.grows.tags in
    let ws = k.within.statements in let we = k.within.elements in let wt = k.within.tags in
    both (sym (rounds_at n first g) ∙ k.fits)
    (both two.0
    (both (le-leb (statements_in n) 65536 (omega (arith, gs, ks, ws)))
    (both (le-leb (elements_in n) 16777216 (omega (arith, ge, ke, we))) (le-leb (tags_in n) 65536 (omega (arith, gt, kt, wt))))))

limits_of : (args : List Arg) (n : Nest) → are_within (sums_in 0 0 n) ≡ true → keeps_limits args n ≡ true
unfolding keeps_limits
limits_of args n h =
    let first = behind_arguments args outside in
    let g = at_first args in
    let f = and_parts (each_fits 0 0 n) (nat_le (operands_in n) 1048576 && (nat_le (statements_in n) 65536 && (nat_le (elements_in n) 16777216 && nat_le (tags_in n) 65536))) h in
    let o = and_parts (nat_le (operands_in n) 1048576) (nat_le (statements_in n) 65536 && (nat_le (elements_in n) 16777216 && nat_le (tags_in n) 65536)) f.1 in
    let s = and_parts (nat_le (statements_in n) 65536) (nat_le (elements_in n) 16777216 && nat_le (tags_in n) 65536) o.1 in
    let e = and_parts (nat_le (elements_in n) 16777216) (nat_le (tags_in n) 65536) s.1 in
    let gs = g.statements in let ge = g.elements in let gt = g.tags in
    let ws = leb-true (statements_in n) 65536 s.0 in
    let we = leb-true (elements_in n) 16777216 e.0 in
    let wt = leb-true (tags_in n) 65536 e.1 in
    let k = all_within n first (rounds_at n first g ∙ f.0) (record { statements = omega (arith, gs, ws); elements = omega (arith, ge, we); tags = omega (arith, gt, wt) }) in
    both o.0 (ap is_there k.is)

pub limits_are_sums : LimitsAreSums
limits_are_sums args n = same_bool (keeps_limits args n) (are_within (sums_in 0 0 n)) (sums_of args n) (limits_of args n)
