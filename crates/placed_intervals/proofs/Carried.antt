-- What a placement asks of the intervals at its loop stays where another placement is staged: one of another memref, or at a loop apart.
use Rattle.std.proofs.Common.{◌≡◌, ◌⊎◌, inl, inr, ℕ, zero, suc, ℤ, List, sym, ap, ◌∙◌, subst, Bool, true, false, cond}
use Rattle.affine_expr.specs.Spread.{Range}
use Rattle.affine_ast.specs.declared.name.Name.{Name}
use Rattle.affine_ast.specs.declared.types.Access.{Access}
use Rattle.affine_ast.specs.declared.types.Bound.{Bound}
use Rattle.affine_ast.specs.declared.types.MemrefType.{MemrefType}
use Rattle.affine_ast.specs.Names.{same_name}
use Rattle.affine_ast.proofs.Names.{same_name-sym}
use Rattle.affine_ast.specs.Nest.{Plain, Nest, Nothing, Loop, Branch, Does, Value, Load, Store, RawLoad, RawStore, Constant, Binary, Cast, Alloc, Dealloc, Start, Wait, Return}
use Rattle.affine_ast.specs.Scope.{Scope}
use Rattle.placement_texts.specs.Mapped.{mapped}
use Rattle.placement_texts.specs.Own.{OwnPlain, OwnNest, OwnNames, MadeNames}
use Rattle.placement_texts.specs.Regions.{OwnDims}
use Rattle.placement_texts.specs.Spots.{Spot, Here, Behind, Inside, Other, IsLoop, HasLine, Disjoint, found, staged_at}
use Rattle.placement_texts.specs.Template.{Placement, fast_name, tag_name, fast_type, in_fast, begins, behind_loop, redirect}
use Rattle.placement_texts.specs.Tests.{behind_scope, loop_scope}
use Rattle.placement_texts.proofs.Follows.{apart_own}
use Rattle.placement_texts.proofs.Scoped.{at_same}
use Rattle.placement_texts.proofs.Skipped.{Spares, SparesIn}
use Rattle.placed_intervals.specs.Fits.{LessFit, SubscriptsFit, AccessFits, Under, LoopFits, FitsAt}
use Rattle.placed_intervals.proofs.Scopes.{Agree, loop_agrees, behind_agrees}
use Rattle.placed_intervals.proofs.Front.{places_along, made_apart}
use Rattle.placed_intervals.proofs.Redirects.{behind_redirected}
use Rattle.placed_intervals.proofs.Skips.{Skips, before_skips, behind_skips}

module _ (own : Name → Bool) (p : Placement) (names : MadeNames own p.name) (rs : List Range) (memref_own : own p.memref ≡ true)
    (o : Placement) (qs : List Range) (o_own : own o.memref ≡ true) (o_dims : OwnDims own o.dims) where
  -- ---- under other scopes
  subscripts_along : (s t : Scope) (at : Access) (ty : MemrefType) → Agree own s t → OwnNames own at.operands → SubscriptsFit o qs s at ty → SubscriptsFit o qs t at ty
  subscripts_along s t at ty same k h = record { fits = h.fits; element = h.element; less = subst (λ es. LessFit es qs) (sym (at_same own s t same at k)) h.less }

  access_along : (q : Plain) (s t : Scope) → Agree own s t → OwnPlain own q → AccessFits o qs q s → AccessFits o qs q t
  access_along (Load r m at ty) s t same k h = λ e. subscripts_along s t at ty same k.1.1 (h e)
  access_along (Store x m at ty) s t same k h = λ e. subscripts_along s t at ty same k.1.1 (h e)
  access_along (Value r pick at) s t same k h = tt
  access_along (RawLoad r m at ty) s t same k h = tt
  access_along (RawStore x m at ty) s t same k h = tt
  access_along (Constant r z ty) s t same k h = tt
  access_along (Binary r op x y ty) s t same k h = tt
  access_along (Cast r c x from to) s t same k h = tt
  access_along (Alloc r ty) s t same k h = tt
  access_along (Dealloc m ty) s t same k h = tt
  access_along (Start x x_at y y_at z z_at n stride types) s t same k h = tt
  access_along (Wait z at n ty) s t same k h = tt
  access_along Return s t same k h = tt

  abbrev Each : Nest → Scope → Type 0
  Each n s = Under (AccessFits o qs) n s

  under_along : (n : Nest) (s t : Scope) → Agree own s t → OwnNest own n → Each n s → Each n t
  under_along Nothing s t same k h = tt
  under_along (Loop line v l u step body rest) s t same k h = (under_along body (loop_scope v l u s) (loop_scope v l u t) (loop_agrees own s t same v l u k.1 k.2) k.3 h.0, under_along rest s t same k.4 h.1)
  under_along (Branch line set ns first has other rest) s t same k h = (under_along first s t same k.1 h.0, under_along other s t same k.2 h.1, under_along rest s t same k.3 h.2)
  under_along (Does line q rest) s t same k h = (access_along q s t same k.0 h.0, under_along rest (behind_scope q s) (behind_scope q t) (behind_agrees own s t same q k.0) k.1 h.1)

  loop_along : (line : ℕ) (v : Name) (l u : Bound) (step : ℤ) (body rest : Nest) (s t : Scope) → Agree own s t → OwnNest own (Loop line v l u step body rest) → LoopFits o qs (Loop line v l u step body rest) s → LoopFits o qs (Loop line v l u step body rest) t
  loop_along line v l u step body rest s t same k h =
      (places_along own p.name names o.dims qs s t same o_dims h.0, h.1, h.2, under_along body (loop_scope v l u s) (loop_scope v l u t) (loop_agrees own s t same v l u k.1 k.2) k.3 h.3)

  -- at the loop of the other placement
  abbrev OK : Spot → Nest → Scope → Type 0
  OK t n s = FitsAt o qs (found t n) n s

  fits_along : (t : Spot) (n : Nest) (s s' : Scope) → Agree own s s' → OwnNest own n → OK t n s → OK t n s'
  fits_along Here Nothing s s' same k h = tt
  fits_along (Behind t) Nothing s s' same k h = tt
  fits_along (Inside t) Nothing s s' same k h = tt
  fits_along (Other t) Nothing s s' same k h = tt
  fits_along t (Loop zero v l u step body rest) s s' same k h = fits_along t rest s s' same k.4 h
  fits_along t (Branch zero set ns first has other rest) s s' same k h = fits_along t rest s s' same k.3 h
  fits_along t (Does zero q rest) s s' same k h = fits_along t rest (behind_scope q s) (behind_scope q s') (behind_agrees own s s' same q k.0) k.1 h
  fits_along Here (Loop (suc line) v l u step body rest) s s' same k h = loop_along (suc line) v l u step body rest s s' same k h
  fits_along (Behind t) (Loop (suc line) v l u step body rest) s s' same k h = fits_along t rest s s' same k.4 h
  fits_along (Inside t) (Loop (suc line) v l u step body rest) s s' same k h = fits_along t body (loop_scope v l u s) (loop_scope v l u s') (loop_agrees own s s' same v l u k.1 k.2) k.3 h
  fits_along (Other t) (Loop (suc line) v l u step body rest) s s' same k h = tt
  fits_along Here (Branch (suc line) set ns first has other rest) s s' same k h = tt
  fits_along (Behind t) (Branch (suc line) set ns first has other rest) s s' same k h = fits_along t rest s s' same k.3 h
  fits_along (Inside t) (Branch (suc line) set ns first has other rest) s s' same k h = fits_along t first s s' same k.1 h
  fits_along (Other t) (Branch (suc line) set ns first has other rest) s s' same k h = fits_along t other s s' same k.2 h
  fits_along Here (Does (suc line) q rest) s s' same k h = tt
  fits_along (Behind t) (Does (suc line) q rest) s s' same k h = fits_along t rest (behind_scope q s) (behind_scope q s') (behind_agrees own s s' same q k.0) k.1 h
  fits_along (Inside t) (Does (suc line) q rest) s s' same k h = tt
  fits_along (Other t) (Does (suc line) q rest) s s' same k h = tt

  -- ---- where another memref is redirected
  fast_apart : same_name o.memref (fast_name p.name) ≡ false
  fast_apart = apart_own own o.memref (fast_name p.name) o_own (names.made 0)

  not_both : {A : Type 0} (b : Bool) → b ≡ false → b ≡ true → A
  not_both b f t = absurd (let e : true ≡ false = sym t ∙ f in let z : ⊥ = cc in z)

  access_redirected : (q : Plain) (s t : Scope) → Agree own s t → OwnPlain own q → AccessFits o qs q s → AccessFits o qs (redirect p q) t
  access_redirected (Load r m at ty) s t same k h = by (same_name p.memref m)
    where
      by : (b : Bool) → AccessFits o qs (cond b (Load r (fast_name p.name) (in_fast (begins p) at) (fast_type p)) (Load r m at ty)) t
      by true = λ e. not_both (same_name o.memref (fast_name p.name)) fast_apart e
      by false = access_along (Load r m at ty) s t same k h
  access_redirected (Store x m at ty) s t same k h = by (same_name p.memref m)
    where
      by : (b : Bool) → AccessFits o qs (cond b (Store x (fast_name p.name) (in_fast (begins p) at) (fast_type p)) (Store x m at ty)) t
      by true = λ e. not_both (same_name o.memref (fast_name p.name)) fast_apart e
      by false = access_along (Store x m at ty) s t same k h
  access_redirected (Value r pick at) s t same k h = tt
  access_redirected (RawLoad r m at ty) s t same k h = tt
  access_redirected (RawStore x m at ty) s t same k h = tt
  access_redirected (Constant r z ty) s t same k h = tt
  access_redirected (Binary r op x y ty) s t same k h = tt
  access_redirected (Cast r c x from to) s t same k h = tt
  access_redirected (Alloc r ty) s t same k h = tt
  access_redirected (Dealloc m ty) s t same k h = tt
  access_redirected (Start x x_at y y_at z z_at n stride types) s t same k h = tt
  access_redirected (Wait z at n ty) s t same k h = tt
  access_redirected Return s t same k h = tt

  -- behind a redirected statement
  redirected_agrees : (q : Plain) (s t : Scope) → Agree own s t → OwnPlain own q → AccessFits p rs q s → Agree own (behind_scope q s) (behind_scope (redirect p q) t)
  redirected_agrees q s t same k f n h = ap (λ (x : Scope). x n) (behind_redirected own p names rs q s t f) ∙ behind_agrees own s t same q k n h

  under_mapped : (n : Nest) (s t : Scope) → Agree own s t → OwnNest own n → Under (AccessFits p rs) n s → Each n s → Each (mapped (redirect p) n) t
  under_mapped Nothing s t same k f h = tt
  under_mapped (Loop line v l u step body rest) s t same k f h = (under_mapped body (loop_scope v l u s) (loop_scope v l u t) (loop_agrees own s t same v l u k.1 k.2) k.3 f.0 h.0, under_mapped rest s t same k.4 f.1 h.1)
  under_mapped (Branch line set ns first has other rest) s t same k f h = (under_mapped first s t same k.1 f.0 h.0, under_mapped other s t same k.2 f.1 h.1, under_mapped rest s t same k.3 f.2 h.2)
  under_mapped (Does line q rest) s t same k f h = (access_redirected q s t same k.0 h.0, under_mapped rest (behind_scope q s) (behind_scope (redirect p q) t) (redirected_agrees q s t same k.0 f.0) k.1 f.1 h.1)

  loop_mapped : (line : ℕ) (v : Name) (l u : Bound) (step : ℤ) (body rest rest' : Nest) (s t : Scope) → Agree own s t → OwnNest own (Loop line v l u step body rest) → Under (AccessFits p rs) body (loop_scope v l u s)
      → LoopFits o qs (Loop line v l u step body rest) s → LoopFits o qs (Loop line v l u step (mapped (redirect p) body) rest') t
  loop_mapped line v l u step body rest rest' s t same k f h =
      (places_along own p.name names o.dims qs s t same o_dims h.0, h.1, h.2, under_mapped body (loop_scope v l u s) (loop_scope v l u t) (loop_agrees own s t same v l u k.1 k.2) k.3 f h.3)

  fits_mapped : (t : Spot) (n : Nest) (s s' : Scope) → Agree own s s' → OwnNest own n → Under (AccessFits p rs) n s → OK t n s → OK t (mapped (redirect p) n) s'
  fits_mapped Here Nothing s s' same k f h = tt
  fits_mapped (Behind t) Nothing s s' same k f h = tt
  fits_mapped (Inside t) Nothing s s' same k f h = tt
  fits_mapped (Other t) Nothing s s' same k f h = tt
  fits_mapped t (Loop zero v l u step body rest) s s' same k f h = fits_mapped t rest s s' same k.4 f.1 h
  fits_mapped t (Branch zero set ns first has other rest) s s' same k f h = fits_mapped t rest s s' same k.3 f.2 h
  fits_mapped t (Does zero q rest) s s' same k f h = fits_mapped t rest (behind_scope q s) (behind_scope (redirect p q) s') (redirected_agrees q s s' same k.0 f.0) k.1 f.1 h
  fits_mapped Here (Loop (suc line) v l u step body rest) s s' same k f h = loop_mapped (suc line) v l u step body rest (mapped (redirect p) rest) s s' same k f.0 h
  fits_mapped (Behind t) (Loop (suc line) v l u step body rest) s s' same k f h = fits_mapped t rest s s' same k.4 f.1 h
  fits_mapped (Inside t) (Loop (suc line) v l u step body rest) s s' same k f h = fits_mapped t body (loop_scope v l u s) (loop_scope v l u s') (loop_agrees own s s' same v l u k.1 k.2) k.3 f.0 h
  fits_mapped (Other t) (Loop (suc line) v l u step body rest) s s' same k f h = tt
  fits_mapped Here (Branch (suc line) set ns first has other rest) s s' same k f h = tt
  fits_mapped (Behind t) (Branch (suc line) set ns first has other rest) s s' same k f h = fits_mapped t rest s s' same k.3 f.2 h
  fits_mapped (Inside t) (Branch (suc line) set ns first has other rest) s s' same k f h = fits_mapped t first s s' same k.1 f.0 h
  fits_mapped (Other t) (Branch (suc line) set ns first has other rest) s s' same k f h = fits_mapped t other s s' same k.2 f.1 h
  fits_mapped Here (Does (suc line) q rest) s s' same k f h = tt
  fits_mapped (Behind t) (Does (suc line) q rest) s s' same k f h = fits_mapped t rest (behind_scope q s) (behind_scope (redirect p q) s') (redirected_agrees q s s' same k.0 f.0) k.1 f.1 h
  fits_mapped (Inside t) (Does (suc line) q rest) s s' same k f h = tt
  fits_mapped (Other t) (Does (suc line) q rest) s s' same k f h = tt

  -- ---- where another memref is staged in the loop
  access_spares : (q : Plain) (s : Scope) → Spares o.memref q → AccessFits o qs q s
  access_spares (Load r m at ty) s h = λ e. not_both (same_name o.memref m) h e
  access_spares (Store x m at ty) s h = λ e. not_both (same_name o.memref m) h e
  access_spares (Value r pick at) s h = tt
  access_spares (RawLoad r m at ty) s h = tt
  access_spares (RawStore x m at ty) s h = tt
  access_spares (Constant r z ty) s h = tt
  access_spares (Binary r op x y ty) s h = tt
  access_spares (Cast r c x from to) s h = tt
  access_spares (Alloc r ty) s h = tt
  access_spares (Dealloc m ty) s h = tt
  access_spares (Start x x_at y y_at z z_at n stride types) s h = tt
  access_spares (Wait z at n ty) s h = tt
  access_spares Return s h = tt

  under_spares : (n : Nest) (s : Scope) → SparesIn o.memref n → Each n s
  under_spares Nothing s h = tt
  under_spares (Loop line v l u step body rest) s h = (under_spares body (loop_scope v l u s) h.0, under_spares rest s h.1)
  under_spares (Branch line set ns first has other rest) s h = (under_spares first s h.0, under_spares other s h.1, under_spares rest s h.2)
  under_spares (Does line q rest) s h = (access_spares q s h.0, under_spares rest (behind_scope q s) h.1)

  under_skips : Skips o.memref Each
  under_skips = record { does = λ q rest s h k. (access_spares q s h, k); loop = λ v l u step body rest s h k. (under_spares body (loop_scope v l u s) h, k) }

  agrees : (x y z : Scope) → Agree own x y → Agree own y z → Agree own x z
  agrees x y z a b n k = b n k ∙ a n k

  under_staged : same_name o.memref p.memref ≡ false → (x : Spot) (n : Nest) (s t : Scope) → Agree own s t → OwnNest own n → FitsAt p rs x n s → Each n s → Each (staged_at p x n) t
  under_staged d x Nothing s t same k f h = tt
  under_staged d Here (Loop line v l u step body rest) s t same k f h =
      before_skips own p names o.memref Each under_skips d fast_apart _ t (λ t1 a1. (
        under_mapped body (loop_scope v l u s) (loop_scope v l u t1) (loop_agrees own s t1 (agrees s t t1 same a1) v l u k.1 k.2) k.3 f.3 h.0,
        behind_skips own p names o.memref Each under_skips d fast_apart rest t1 (λ t2 a2. under_along rest s t2 (agrees s t1 t2 (agrees s t t1 same a1) a2) k.4 h.1),
      ))
  under_staged d (Behind x) (Loop line v l u step body rest) s t same k f h = (under_along body (loop_scope v l u s) (loop_scope v l u t) (loop_agrees own s t same v l u k.1 k.2) k.3 h.0, under_staged d x rest s t same k.4 f h.1)
  under_staged d (Inside x) (Loop line v l u step body rest) s t same k f h = (under_staged d x body (loop_scope v l u s) (loop_scope v l u t) (loop_agrees own s t same v l u k.1 k.2) k.3 f h.0, under_along rest s t same k.4 h.1)
  under_staged d (Other x) (Loop line v l u step body rest) s t same k f h = under_along (Loop line v l u step body rest) s t same k h
  under_staged d Here (Branch line set ns first has other rest) s t same k f h = under_along (Branch line set ns first has other rest) s t same k h
  under_staged d (Behind x) (Branch line set ns first has other rest) s t same k f h = (under_along first s t same k.1 h.0, under_along other s t same k.2 h.1, under_staged d x rest s t same k.3 f h.2)
  under_staged d (Inside x) (Branch line set ns first has other rest) s t same k f h = (under_staged d x first s t same k.1 f h.0, under_along other s t same k.2 h.1, under_along rest s t same k.3 h.2)
  under_staged d (Other x) (Branch line set ns first has other rest) s t same k f h = (under_along first s t same k.1 h.0, under_staged d x other s t same k.2 f h.1, under_along rest s t same k.3 h.2)
  under_staged d Here (Does line q rest) s t same k f h = under_along (Does line q rest) s t same k h
  under_staged d (Behind x) (Does line q rest) s t same k f h = (access_along q s t same k.0 h.0, under_staged d x rest (behind_scope q s) (behind_scope q t) (behind_agrees own s t same q k.0) k.1 f h.1)
  under_staged d (Inside x) (Does line q rest) s t same k f h = under_along (Does line q rest) s t same k h
  under_staged d (Other x) (Does line q rest) s t same k f h = under_along (Does line q rest) s t same k h

  -- ---- the text with the placement
  ok_skips : (t : Spot) → Skips (tag_name p.name) (OK t)
  ok_skips t = record { does = λ q rest s h k. k; loop = λ v l u step body rest s h k. k }

  tag_memref : same_name (tag_name p.name) p.memref ≡ false
  tag_memref = same_name-sym (tag_name p.name) p.memref ∙ apart_own own p.memref (tag_name p.name) memref_own (names.made 1)

  tag_fast : same_name (tag_name p.name) (fast_name p.name) ≡ false
  tag_fast = made_apart p.name own names 1 0 (λ e. let z : ⊥ = cc in z)

  abbrev Either : Spot → Spot → Nest → Type 0
  Either t x n = (same_name o.memref p.memref ≡ false) ⊎ Disjoint (found t n) x

  at_loop : (t : Spot) (line : ℕ) (v : Name) (l u : Bound) (step : ℤ) (body rest : Nest) (s t4 : Scope) → Either t Here (Loop (suc line) v l u step body rest) → OwnNest own (Loop (suc line) v l u step body rest) → LoopFits p rs (Loop (suc line) v l u step body rest) s → Agree own s t4
      → OK t (Loop (suc line) v l u step body rest) s → OK t (Loop (suc line) v l u step (mapped (redirect p) body) (behind_loop p rest)) t4
  at_loop Here line v l u step body rest s t4 (inl d) k f same j = loop_mapped (suc line) v l u step body rest (behind_loop p rest) s t4 same k f.3 j
  at_loop Here line v l u step body rest s t4 (inr d) k f same j = absurd d
  at_loop (Behind t) line v l u step body rest s t4 e k f same j = behind_skips own p names (tag_name p.name) (OK t) (ok_skips t) tag_memref tag_fast rest t4 (λ t5 a. fits_along t rest s t5 (agrees s t4 t5 same a) k.4 j)
  at_loop (Inside t) line v l u step body rest s t4 (inl d) k f same j = fits_mapped t body (loop_scope v l u s) (loop_scope v l u t4) (loop_agrees own s t4 same v l u k.1 k.2) k.3 f.3 j
  at_loop (Inside t) line v l u step body rest s t4 (inr d) k f same j = absurd d
  at_loop (Other t) line v l u step body rest s t4 e k f same j = tt

  round_it : (x : Spot) (line : ℕ) (v : Name) (l u : Bound) (step : ℤ) (body rest : Nest) (s s' : Scope) → Either Here (Inside x) (Loop (suc line) v l u step body rest) → OwnNest own (Loop (suc line) v l u step body rest) → FitsAt p rs x body (loop_scope v l u s) → Agree own s s'
      → LoopFits o qs (Loop (suc line) v l u step body rest) s → LoopFits o qs (Loop (suc line) v l u step (staged_at p x body) rest) s'
  round_it x line v l u step body rest s s' (inr d) k f same j = absurd d
  round_it x line v l u step body rest s s' (inl d) k f same j =
      (places_along own p.name names o.dims qs s s' same o_dims j.0, j.1, j.2, under_staged d x body (loop_scope v l u s) (loop_scope v l u s') (loop_agrees own s s' same v l u k.1 k.2) k.3 f j.3)

  pub carried : (t x : Spot) (n : Nest) (s s' : Scope) → Either t x n → IsLoop x n → HasLine x n → OwnNest own n → FitsAt p rs x n s → Agree own s s' → OK t n s → OK t (staged_at p x n) s'
  carried t x Nothing s s' e is line_ k f same j = absurd is
  carried t Here (Loop zero v l u step body rest) s s' e is line_ k f same j = absurd line_
  carried t Here (Loop (suc line) v l u step body rest) s s' e is line_ k f same j =
      before_skips own p names (tag_name p.name) (OK t) (ok_skips t) tag_memref tag_fast (Loop (suc line) v l u step (mapped (redirect p) body) (behind_loop p rest)) s' (λ t4 a. at_loop t line v l u step body rest s t4 e k f (agrees s s' t4 same a) j)
  carried t (Behind x) (Loop zero v l u step body rest) s s' e is line_ k f same j = carried t x rest s s' e is line_ k.4 f same j
  carried Here (Behind x) (Loop (suc line) v l u step body rest) s s' e is line_ k f same j = loop_along (suc line) v l u step body rest s s' same k j
  carried (Behind t) (Behind x) (Loop (suc line) v l u step body rest) s s' e is line_ k f same j = carried t x rest s s' e is line_ k.4 f same j
  carried (Inside t) (Behind x) (Loop (suc line) v l u step body rest) s s' e is line_ k f same j = fits_along t body (loop_scope v l u s) (loop_scope v l u s') (loop_agrees own s s' same v l u k.1 k.2) k.3 j
  carried (Other t) (Behind x) (Loop (suc line) v l u step body rest) s s' e is line_ k f same j = tt
  carried t (Inside x) (Loop zero v l u step body rest) s s' e is line_ k f same j = fits_along t rest s s' same k.4 j
  carried Here (Inside x) (Loop (suc line) v l u step body rest) s s' e is line_ k f same j = round_it x line v l u step body rest s s' e k f same j
  carried (Behind t) (Inside x) (Loop (suc line) v l u step body rest) s s' e is line_ k f same j = fits_along t rest s s' same k.4 j
  carried (Inside t) (Inside x) (Loop (suc line) v l u step body rest) s s' e is line_ k f same j = carried t x body (loop_scope v l u s) (loop_scope v l u s') e is line_ k.3 f (loop_agrees own s s' same v l u k.1 k.2) j
  carried (Other t) (Inside x) (Loop (suc line) v l u step body rest) s s' e is line_ k f same j = tt
  carried t (Other x) (Loop line v l u step body rest) s s' e is line_ k f same j = absurd is
  carried t Here (Branch line set ns first has other rest) s s' e is line_ k f same j = absurd is
  carried t (Behind x) (Branch zero set ns first has other rest) s s' e is line_ k f same j = carried t x rest s s' e is line_ k.3 f same j
  carried Here (Behind x) (Branch (suc line) set ns first has other rest) s s' e is line_ k f same j = tt
  carried (Behind t) (Behind x) (Branch (suc line) set ns first has other rest) s s' e is line_ k f same j = carried t x rest s s' e is line_ k.3 f same j
  carried (Inside t) (Behind x) (Branch (suc line) set ns first has other rest) s s' e is line_ k f same j = fits_along t first s s' same k.1 j
  carried (Other t) (Behind x) (Branch (suc line) set ns first has other rest) s s' e is line_ k f same j = fits_along t other s s' same k.2 j
  carried t (Inside x) (Branch zero set ns first has other rest) s s' e is line_ k f same j = fits_along t rest s s' same k.3 j
  carried Here (Inside x) (Branch (suc line) set ns first has other rest) s s' e is line_ k f same j = tt
  carried (Behind t) (Inside x) (Branch (suc line) set ns first has other rest) s s' e is line_ k f same j = fits_along t rest s s' same k.3 j
  carried (Inside t) (Inside x) (Branch (suc line) set ns first has other rest) s s' e is line_ k f same j = carried t x first s s' e is line_ k.1 f same j
  carried (Other t) (Inside x) (Branch (suc line) set ns first has other rest) s s' e is line_ k f same j = fits_along t other s s' same k.2 j
  carried t (Other x) (Branch zero set ns first has other rest) s s' e is line_ k f same j = fits_along t rest s s' same k.3 j
  carried Here (Other x) (Branch (suc line) set ns first has other rest) s s' e is line_ k f same j = tt
  carried (Behind t) (Other x) (Branch (suc line) set ns first has other rest) s s' e is line_ k f same j = fits_along t rest s s' same k.3 j
  carried (Inside t) (Other x) (Branch (suc line) set ns first has other rest) s s' e is line_ k f same j = fits_along t first s s' same k.1 j
  carried (Other t) (Other x) (Branch (suc line) set ns first has other rest) s s' e is line_ k f same j = carried t x other s s' e is line_ k.2 f same j
  carried t Here (Does line q rest) s s' e is line_ k f same j = absurd is
  carried t (Behind x) (Does zero q rest) s s' e is line_ k f same j = carried t x rest (behind_scope q s) (behind_scope q s') e is line_ k.1 f (behind_agrees own s s' same q k.0) j
  carried Here (Behind x) (Does (suc line) q rest) s s' e is line_ k f same j = tt
  carried (Behind t) (Behind x) (Does (suc line) q rest) s s' e is line_ k f same j = carried t x rest (behind_scope q s) (behind_scope q s') e is line_ k.1 f (behind_agrees own s s' same q k.0) j
  carried (Inside t) (Behind x) (Does (suc line) q rest) s s' e is line_ k f same j = tt
  carried (Other t) (Behind x) (Does (suc line) q rest) s s' e is line_ k f same j = tt
  carried t (Inside x) (Does line q rest) s s' e is line_ k f same j = absurd is
  carried t (Other x) (Does line q rest) s s' e is line_ k f same j = absurd is
