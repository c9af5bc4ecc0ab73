-- The actions of a text with other names.
use Rattle.std.proofs.Common.{◌≡◌, ℕ, suc, ◌+◌, ℤ, List, [], ◌∷◌, ◌++◌, map, refl, sym, ap, ◌∙◌, Bool, true, false}
use Rattle.std.specs.Prelude.{flat_map, Option, Some, None, if◌then◌else◌}
use Rattle.affine_ast.specs.declared.name.Name.{Name}
use Rattle.affine_ast.specs.declared.types.Access.{Access}
use Rattle.affine_ast.specs.declared.types.MemrefType.{MemrefType}
use Rattle.affine_ast.specs.declared.types.Scalar.{Scalar}
use Rattle.affine_ast.specs.declared.types.Scalar.TheVariants as scalar
use Rattle.affine_ast.specs.Names.{put}
use Rattle.affine_ast.specs.Nest.{Plain, Nest, Nothing, Loop, Branch, Does, Value, Load, Store, RawLoad, RawStore, Constant, Binary, Cast, Alloc, Dealloc, Start, Wait, Return}
use Rattle.direct_meaning.specs.Turns.{turns, gap}
use Rattle.direct_meaning.specs.Action.{FastMemref, TagMemref, Action, Loads, Stores, RawLoads, RawStores, Operates, Converts, Allocates, AllocatesTags}
use Rattle.direct_meaning.specs.Static.{Env, knows, number, product, tag_of, lower_of, upper_of, holds_at, picked, scalar_bits}
use Rattle.direct_meaning.specs.Actions.{is_fast, alloc_of, dealloc_of, constant_of, layout_of, start_between, start_of, wait_of, action_of, after_plain, behind, fasts_of_plain, tags_of_plain, fasts_in, tags_in, actions}
use Rattle.placement_texts.specs.Own.{OwnPair, OwnPlain, OwnNest}
use Rattle.placement_texts.specs.Renamed.{access_named, pair_named, plain_named, named, action_named, KeepsApart, RenamesEnv, ActionsNamed}
use Rattle.rename_laws.proofs.Mute.{mute_named, mute_alloc, mute_dealloc, mute_start, mute_wait}
use Rattle.rename_laws.proofs.Values.{put_named, results_named, lower_named, upper_named, holds_named, place_named, tag_named, operand_is, operands_are}

-- ---- lists
map_append : (h : Action → Action) (xs ys : List Action) → map h (xs ++ ys) ≡ map h xs ++ map h ys
map_append h [] ys = refl
map_append h (x ∷ xs) ys = ap (λ zs. h x ∷ zs) (map_append h xs ys)

map_turns : (h : Action → Action) (a b : ℤ → List Action) → ((z : ℤ) → b z ≡ map h (a z)) → (ts : List ℤ) → flat_map b ts ≡ map h (flat_map a ts)
map_turns h a b is [] = refl
map_turns h a b is (t ∷ ts) = (λ i. is t i ++ map_turns h a b is ts i) ∙ sym (map_append h (a t) (flat_map a ts))

module _ (f : Name → Name) where
  -- ---- counts
  plain_fasts : (p : Plain) → fasts_of_plain (plain_named f p) ≡ fasts_of_plain p
  plain_fasts (Value r pick at) = refl
  plain_fasts (Load r m at ty) = refl
  plain_fasts (Store x m at ty) = refl
  plain_fasts (RawLoad r m at ty) = refl
  plain_fasts (RawStore x m at ty) = refl
  plain_fasts (Constant r z ty) = refl
  plain_fasts (Binary r op a b ty) = refl
  plain_fasts (Cast r kind x from to) = refl
  plain_fasts (Alloc r ty) = refl
  plain_fasts (Dealloc m ty) = refl
  plain_fasts (Start a a_at b b_at t t_at n stride types) = refl
  plain_fasts (Wait t at n ty) = refl
  plain_fasts Return = refl

  plain_tags : (p : Plain) → tags_of_plain (plain_named f p) ≡ tags_of_plain p
  plain_tags (Value r pick at) = refl
  plain_tags (Load r m at ty) = refl
  plain_tags (Store x m at ty) = refl
  plain_tags (RawLoad r m at ty) = refl
  plain_tags (RawStore x m at ty) = refl
  plain_tags (Constant r z ty) = refl
  plain_tags (Binary r op a b ty) = refl
  plain_tags (Cast r kind x from to) = refl
  plain_tags (Alloc r ty) = refl
  plain_tags (Dealloc m ty) = refl
  plain_tags (Start a a_at b b_at t t_at n stride types) = refl
  plain_tags (Wait t at n ty) = refl
  plain_tags Return = refl

  fasts_same : (n : Nest) → fasts_in (named f n) ≡ fasts_in n
  fasts_same Nothing = refl
  fasts_same (Loop line v l u s body rest) = λ i. fasts_same body i + fasts_same rest i
  fasts_same (Branch line set names first has other rest) = λ i. fasts_same first i + fasts_same other i + fasts_same rest i
  fasts_same (Does line p rest) = λ i. plain_fasts p i + fasts_same rest i

  tags_same : (n : Nest) → tags_in (named f n) ≡ tags_in n
  tags_same Nothing = refl
  tags_same (Loop line v l u s body rest) = λ i. tags_same body i + tags_same rest i
  tags_same (Branch line set names first has other rest) = λ i. tags_same first i + tags_same other i + tags_same rest i
  tags_same (Does line p rest) = λ i. plain_tags p i + tags_same rest i

  named_constant : (r : Name) (z : ℤ) (s : Scalar) → constant_of (f r) z s ≡ action_named f (constant_of r z s)
  named_constant r z (scalar.Int e) = refl
  named_constant r z scalar.Index = refl

module _ (f : Name → Name) (own : Name → Bool) (apart : KeepsApart f own) where
  map_either : (t : Bool) (xs ys : List Action) → (if t then map (action_named f) xs else map (action_named f) ys) ≡ map (action_named f) (if t then xs else ys)
  map_either true xs ys = refl
  map_either false xs ys = refl

  module _ (e g : Env) (r : RenamesEnv f own e g) where
    layout_same : (n : Name) (stride : Option (Name × Name)) → own n ≡ true → OwnPair own stride → layout_of g (f n) (pair_named f stride) ≡ layout_of e n stride
    layout_same n None o h = λ i. record { count = gap (number (r.known n o i)); stride = gap (number (r.known n o i)); chunk = gap (number (r.known n o i)) }
    layout_same n (Some two) o h = λ i. record { count = gap (number (r.known n o i)); stride = gap (number (r.known two.0 h.0 i)); chunk = gap (number (r.known two.1 h.1 i)) }

    start_same : (a : Name) (a_at : Access) (b : Name) (b_at : Access) (t : Name) (t_at : Access) (n : Name) (stride : Option (Name × Name)) (types : List MemrefType)
        → OwnPlain own (Start a a_at b b_at t t_at n stride types)
        → start_of g (f a) (access_named f a_at) (f b) (access_named f b_at) (f t) (access_named f t_at) (layout_of g (f n) (pair_named f stride)) types
        ≡ action_named f (start_of e a a_at b b_at t t_at (layout_of e n stride) types)
    start_same a a_at b b_at t t_at n stride (p ∷ q ∷ z ∷ []) o =
        (λ i. start_between (r.home a o.0.0 i) (r.home b o.1.0 i) (place_named f own e g r a a_at p o.0.0 o.0.1 i) (place_named f own e g r b b_at q o.1.0 o.1.1 i) p q (layout_same n stride o.3 o.4 i) (tag_named f own e g r t t_at z o.2.0 o.2.1 i))
        ∙ sym (mute_named f (start_of e a a_at b b_at t t_at (layout_of e n stride) (p ∷ q ∷ z ∷ [])) (mute_start e a a_at b b_at t t_at (layout_of e n stride) (p ∷ q ∷ z ∷ [])))
    start_same a a_at b b_at t t_at n stride [] o = refl
    start_same a a_at b b_at t t_at n stride (p ∷ []) o = refl
    start_same a a_at b b_at t t_at n stride (p ∷ q ∷ []) o = refl
    start_same a a_at b b_at t t_at n stride (p ∷ q ∷ z ∷ x ∷ more) o = refl

    alloc_same : (ty : MemrefType) → alloc_of g ty ≡ alloc_of e ty
    alloc_same ty = λ i. if is_fast ty then Allocates (r.fasts i) ty.element ty.sizes else AllocatesTags (r.tags i) (product ty.sizes)

    action_same : (p : Plain) → OwnPlain own p → action_of (plain_named f p) g ≡ action_named f (action_of p e)
    unfolding action_of
    action_same (Value x pick at) o = refl
    action_same (Load x m at ty) o = ap (Loads (f x)) (place_named f own e g r m at ty o.1.0 o.1.1)
    action_same (Store x m at ty) o = λ i. Stores (operand_is f own e g r x o.0 i) (place_named f own e g r m at ty o.1.0 o.1.1 i)
    action_same (RawLoad x m at ty) o = λ i. RawLoads (f x) (r.home m o.1 i) ty.sizes (operands_are f own e g r at o.2 i)
    action_same (RawStore x m at ty) o = λ i. RawStores (operand_is f own e g r x o.0 i) (r.home m o.1 i) ty.sizes (operands_are f own e g r at o.2 i)
    action_same (Constant x z ty) o = named_constant f x z ty
    action_same (Binary x op a b ty) o = λ i. Operates (f x) op (scalar_bits ty) (operand_is f own e g r a o.1 i) (operand_is f own e g r b o.2 i)
    action_same (Cast x kind y from to) o = λ i. Converts (f x) kind (scalar_bits from) (scalar_bits to) (operand_is f own e g r y o.1 i)
    action_same (Alloc x ty) o = alloc_same ty ∙ sym (mute_named f (alloc_of e ty) (mute_alloc e ty))
    action_same (Dealloc m ty) o = ap (λ h. dealloc_of h ty) (r.home m o) ∙ sym (mute_named f (dealloc_of (e.home m) ty) (mute_dealloc (e.home m) ty))
    action_same (Start a a_at b b_at t t_at n stride types) o = start_same a a_at b b_at t t_at n stride types o
    action_same (Wait t at n ty) o =
        (λ i. wait_of (tag_named f own e g r t at ty o.0.0 o.0.1 i) (gap (number (r.known n o.1 i))))
        ∙ sym (mute_named f (wait_of (tag_of e t at ty) (gap (number (e.known n)))) (mute_wait (tag_of e t at ty) (gap (number (e.known n)))))
    action_same Return o = refl

    -- ---- behind a statement
    known_more : (x : Name) (a b : Option ℤ) → own x ≡ true → a ≡ b → RenamesEnv f own (record e { known = put e.known x a }) (record g { known = put g.known (f x) b })
    known_more x a b o is = record { known = put_named f own e.known g.known x a b apart o is r.known; home = r.home; fasts = r.fasts; tags = r.tags }

    fast_more : (x : Name) → own x ≡ true → RenamesEnv f own (record e { home = put e.home x (Some (FastMemref e.fasts)); fasts = suc e.fasts }) (record g { home = put g.home (f x) (Some (FastMemref g.fasts)); fasts = suc g.fasts })
    fast_more x o = record {
      known = r.known;
      home = put_named f own e.home g.home x (Some (FastMemref e.fasts)) (Some (FastMemref g.fasts)) apart o (λ i. Some (FastMemref (sym r.fasts i))) r.home;
      fasts = ap suc r.fasts;
      tags = r.tags;
    }

    tags_more : (x : Name) (n : ℕ) → own x ≡ true → RenamesEnv f own (record e { home = put e.home x (Some (TagMemref e.tags)); tags = e.tags + n }) (record g { home = put g.home (f x) (Some (TagMemref g.tags)); tags = g.tags + n })
    tags_more x n o = record {
      known = r.known;
      home = put_named f own e.home g.home x (Some (TagMemref e.tags)) (Some (TagMemref g.tags)) apart o (λ i. Some (TagMemref (sym r.tags i))) r.home;
      fasts = r.fasts;
      tags = ap (λ k. k + n) r.tags;
    }

    alloc_behind : (x : Name) (ty : MemrefType) → own x ≡ true → RenamesEnv f own (after_plain (Alloc x ty) e) (after_plain (Alloc (f x) ty) g)
    unfolding after_plain
    alloc_behind x ty o = by (is_fast ty)
      where
        by : (t : Bool) → RenamesEnv f own
            (if t then record e { home = put e.home x (Some (FastMemref e.fasts)); fasts = suc e.fasts } else record e { home = put e.home x (Some (TagMemref e.tags)); tags = e.tags + product ty.sizes })
            (if t then record g { home = put g.home (f x) (Some (FastMemref g.fasts)); fasts = suc g.fasts } else record g { home = put g.home (f x) (Some (TagMemref g.tags)); tags = g.tags + product ty.sizes })
        by true = fast_more x o
        by false = tags_more x (product ty.sizes) o

    plain_behind : (p : Plain) → OwnPlain own p → RenamesEnv f own (after_plain p e) (after_plain (plain_named f p) g)
    unfolding after_plain
    plain_behind (Value x pick at) o = known_more x _ _ o.0 (λ i. Some (picked pick (sym (results_named f own e g r at o.1) i)))
    plain_behind (Load x m at ty) o = known_more x None None o.0 refl
    plain_behind (Store x m at ty) o = r
    plain_behind (RawLoad x m at ty) o = known_more x None None o.0 refl
    plain_behind (RawStore x m at ty) o = r
    plain_behind (Constant x z (scalar.Int element)) o = known_more x None None o refl
    plain_behind (Constant x z scalar.Index) o = known_more x (Some z) (Some z) o refl
    plain_behind (Binary x op a b ty) o = known_more x None None o.0 refl
    plain_behind (Cast x kind y from to) o = known_more x None None o.0 refl
    plain_behind (Alloc x ty) o = alloc_behind x ty o.0
    plain_behind (Dealloc m ty) o = r
    plain_behind (Start a a_at b b_at t t_at n stride types) o = r
    plain_behind (Wait t at n ty) o = r
    plain_behind Return o = r

    region_behind : (n : Nest) → RenamesEnv f own (behind n e) (behind (named f n) g)
    region_behind n = record { known = r.known; home = r.home; fasts = λ i. r.fasts i + fasts_same f n i; tags = λ i. r.tags i + tags_same f n i }

  -- ---- a text
  text_same : (n : Nest) (e g : Env) → RenamesEnv f own e g → OwnNest own n → actions (named f n) g ≡ map (action_named f) (actions n e)
  unfolding actions
  text_same Nothing e g r o = refl
  text_same (Loop line v l u s body rest) e g r o =
      (λ i. flat_map (λ t. actions (named f body) (knows g (f v) t)) (turns (lower_named f own e g r l o.1 i) (upper_named f own e g r u o.2 i) s) ++ actions (named f rest) (behind (named f body) g))
      ∙ (λ i. map_turns (action_named f) (λ t. actions body (knows e v t)) (λ t. actions (named f body) (knows g (f v) t))
      (λ t. text_same body (knows e v t) (knows g (f v) t) (known_more e g r v (Some t) (Some t) o.0 refl) o.3) (turns (lower_of e l) (upper_of e u) s) i
      ++ text_same rest (behind body e) (behind (named f body) g) (region_behind e g r body) o.4 i)
      ∙ sym (map_append (action_named f) (flat_map (λ t. actions body (knows e v t)) (turns (lower_of e l) (upper_of e u) s)) (actions rest (behind body e)))
  text_same (Branch line set names first has other rest) e g r o =
      let one = text_same first e g r o.1 in
      let two = text_same other (behind first e) (behind (named f first) g) (region_behind e g r first) o.2 in
      let three = text_same rest (behind other (behind first e)) (behind (named f other) (behind (named f first) g)) (region_behind (behind first e) (behind (named f first) g) (region_behind e g r first) other) o.3 in
      (λ i. (if holds_named f own e g r set names o.0 i then actions (named f first) g else actions (named f other) (behind (named f first) g)) ++ actions (named f rest) (behind (named f other) (behind (named f first) g)))
      ∙ (λ i. (if holds_at e set names then one i else two i) ++ three i)
      ∙ ap (λ xs. xs ++ map (action_named f) (actions rest (behind other (behind first e)))) (map_either (holds_at e set names) (actions first e) (actions other (behind first e)))
      ∙ sym (map_append (action_named f) (if holds_at e set names then actions first e else actions other (behind first e)) (actions rest (behind other (behind first e))))
  text_same (Does line p rest) e g r o = λ i. action_same e g r p o.0 i ∷ text_same rest (after_plain p e) (after_plain (plain_named f p) g) (plain_behind e g r p o.0) o.1 i

pub actions_are : ActionsNamed
actions_are f own n e g apart o r = text_same f own apart n e g r o
