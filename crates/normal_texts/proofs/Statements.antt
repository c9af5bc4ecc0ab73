-- A statement with its subscripts numbered by first appearance.
use Rattle.std.proofs.Common.{◌≡◌, List, [], ◌∷◌, length, map, true, None, refl, ap, ◌∙◌}
use Rattle.std.specs.Prelude.{◌&&◌, nat_eq}
use Rattle.std.proofs.lemmas.Bool.{and_parts}
use Rattle.std.proofs.lemmas.List.{length-map}
use Rattle.affine_ast.specs.declared.name.Name.{Name}
use Rattle.affine_ast.specs.declared.types.Access.{Access}
use Rattle.affine_ast.specs.declared.types.MemrefType.{MemrefType}
use Rattle.affine_ast.specs.Nest.{Plain, Nest, Value, Load, Store, RawLoad, RawStore, Constant, Binary, Cast, Alloc, Dealloc, Start, Wait, Return}
use Rattle.affine_ast.specs.Rules.{is_in, are_in, place_in, is_value, access_stands, map_fits, subscripts_fit, ends_fit, access_pure, access_bounded, counts_fit, spaces_agree}
use Rattle.affine_ast.specs.Scope.{Scope, Around, behind_plain}
use Rattle.affine_ast.specs.Validity.{rule_of_plain}
use Rattle.valid_laws.proofs.Passing.{Holds}
use Rattle.direct_meaning.specs.Actions.{Layout, layout_of, start_between, start_of, wait_of, action_of, after_plain, fasts_of_plain, tags_of_plain}
use Rattle.direct_meaning.specs.Static.{Env, cell_in, place_at, place_of, tag_at, tag_of, number, operand}
use Rattle.direct_meaning.specs.Turns.{gap}
use Rattle.direct_meaning.specs.Action as action
use Rattle.placement_texts.specs.Normal.{renumbered, index_of, first_order, normal}
use Rattle.placement_texts.proofs.Normal.{normal_same, normal_fits, normal_valid}
use Rattle.normal_texts.specs.Texts.{normal_plain}

-- ---- one access
-- it fits its memref's rank
fits_of : (at : Access) (ty : MemrefType) → subscripts_fit at ty ≡ true → map_fits at ≡ true
unfolding subscripts_fit
fits_of at ty h = (and_parts (map_fits at) (nat_eq (length at.map.results) (length ty.sizes)) h).0

subscripts_same : (at : Access) (ty : MemrefType) → subscripts_fit at ty ≡ true → subscripts_fit (normal at) ty ≡ true
unfolding subscripts_fit
subscripts_same at ty h =
    let p = and_parts (map_fits at) (nat_eq (length at.map.results) (length ty.sizes)) h in
    λ i. normal_fits at p.0 i && (ap (λ n. nat_eq n (length ty.sizes)) (length-map at.map.results (renumbered (λ n. index_of n (first_order at)))) ∙ p.1) i

place_same : (s : Scope) (m : Name) (at : Access) → map_fits at ≡ true → place_in s m at ≡ true → place_in s m (normal at) ≡ true
place_same s m at fits h = let p = and_parts (is_in s m) (are_in s at.operands) h in λ i. p.0 i && (normal_valid s at fits).uses p.1 i

-- those of a start
record EndsFit (x y t : Access) (types : List MemrefType) : Type 0 where
  from : map_fits x ≡ true
  to : map_fits y ≡ true
  tags : map_fits t ≡ true
  after : ends_fit (normal x) (normal y) (normal t) types ≡ true

ends_same : (x y t : Access) (types : List MemrefType) → ends_fit x y t types ≡ true → EndsFit x y t types
ends_same x y t (a ∷ b ∷ c ∷ []) h =
    let p = and_parts (subscripts_fit x a) (subscripts_fit y b && subscripts_fit t c) h in
    let q = and_parts (subscripts_fit y b) (subscripts_fit t c) p.1 in
    record { from = fits_of x a p.0; to = fits_of y b q.0; tags = fits_of t c q.1; after = λ i. subscripts_same x a p.0 i && (subscripts_same y b q.0 i && subscripts_same t c q.1 i) }
ends_same x y t [] h = absurd (let z : ⊥ = cc in z)
ends_same x y t (a ∷ []) h = absurd (let z : ⊥ = cc in z)
ends_same x y t (a ∷ b ∷ []) h = absurd (let z : ⊥ = cc in z)
ends_same x y t (a ∷ b ∷ c ∷ d ∷ more) h = absurd (let z : ⊥ = cc in z)

-- ---- the action
place_of_same : (e : Env) (m : Name) (at : Access) (ty : MemrefType) → map_fits at ≡ true → place_of e m (normal at) ty ≡ place_of e m at ty
unfolding place_of
place_of_same e m at ty fits = ap (place_at (e.home m) ty.sizes) (normal_same e at fits)

tag_of_same : (e : Env) (t : Name) (at : Access) (ty : MemrefType) → map_fits at ≡ true → tag_of e t (normal at) ty ≡ tag_of e t at ty
unfolding tag_of
tag_of_same e t at ty fits = ap (λ zs. tag_at (e.home t) (cell_in ty.sizes zs)) (normal_same e at fits)

start_same : (e : Env) (x : Name) (x_at : Access) (y : Name) (y_at : Access) (t : Name) (t_at : Access) (l : Layout) (types : List MemrefType) → EndsFit x_at y_at t_at types
    → start_of e x (normal x_at) y (normal y_at) t (normal t_at) l types ≡ start_of e x x_at y y_at t t_at l types
start_same e x x_at y y_at t t_at l (a ∷ b ∷ c ∷ []) f = λ i. start_between (e.home x) (e.home y) (place_of_same e x x_at a f.from i) (place_of_same e y y_at b f.to i) a b l (tag_of_same e t t_at c f.tags i)
start_same e x x_at y y_at t t_at l [] f = refl
start_same e x x_at y y_at t t_at l (a ∷ []) f = refl
start_same e x x_at y y_at t t_at l (a ∷ b ∷ []) f = refl
start_same e x x_at y y_at t t_at l (a ∷ b ∷ c ∷ d ∷ more) f = refl

pub action_same : (p : Plain) (e : Env) → counts_fit p ≡ true → action_of (normal_plain p) e ≡ action_of p e
unfolding action_of
action_same (Load r m at ty) e h = ap (λ x. action.Loads r x) (place_of_same e m at ty (fits_of at ty h))
action_same (Store x m at ty) e h = ap (λ y. action.Stores (operand e x) y) (place_of_same e m at ty (fits_of at ty h))
action_same (Start x x_at y y_at t t_at n stride types) e h = start_same e x x_at y y_at t t_at (layout_of e n stride) types (ends_same x_at y_at t_at types h)
action_same (Wait t at n ty) e h = ap (λ o. wait_of o (gap (number (e.known n)))) (tag_of_same e t at ty (fits_of at ty h))
action_same (Value r pick at) e h = refl
action_same (RawLoad r m at ty) e h = refl
action_same (RawStore x m at ty) e h = refl
action_same (Constant r z ty) e h = refl
action_same (Binary r op x y ty) e h = refl
action_same (Cast r kind x from to) e h = refl
action_same (Alloc r ty) e h = refl
action_same (Dealloc m ty) e h = refl
action_same Return e h = refl

pub after_same : (p : Plain) (e : Env) → after_plain (normal_plain p) e ≡ after_plain p e
unfolding after_plain
after_same (Load r m at ty) e = refl
after_same (Store x m at ty) e = refl
after_same (Start x x_at y y_at t t_at n stride types) e = refl
after_same (Wait t at n ty) e = refl
after_same (Value r pick at) e = refl
after_same (RawLoad r m at ty) e = refl
after_same (RawStore x m at ty) e = refl
after_same (Constant r z ty) e = refl
after_same (Binary r op x y ty) e = refl
after_same (Cast r kind x from to) e = refl
after_same (Alloc r ty) e = refl
after_same (Dealloc m ty) e = refl
after_same Return e = refl

pub fasts_same : (p : Plain) → fasts_of_plain (normal_plain p) ≡ fasts_of_plain p
fasts_same (Load r m at ty) = refl
fasts_same (Store x m at ty) = refl
fasts_same (Start x x_at y y_at t t_at n stride types) = refl
fasts_same (Wait t at n ty) = refl
fasts_same (Value r pick at) = refl
fasts_same (RawLoad r m at ty) = refl
fasts_same (RawStore x m at ty) = refl
fasts_same (Constant r z ty) = refl
fasts_same (Binary r op x y ty) = refl
fasts_same (Cast r kind x from to) = refl
fasts_same (Alloc r ty) = refl
fasts_same (Dealloc m ty) = refl
fasts_same Return = refl

pub tags_same : (p : Plain) → tags_of_plain (normal_plain p) ≡ tags_of_plain p
tags_same (Load r m at ty) = refl
tags_same (Store x m at ty) = refl
tags_same (Start x x_at y y_at t t_at n stride types) = refl
tags_same (Wait t at n ty) = refl
tags_same (Value r pick at) = refl
tags_same (RawLoad r m at ty) = refl
tags_same (RawStore x m at ty) = refl
tags_same (Constant r z ty) = refl
tags_same (Binary r op x y ty) = refl
tags_same (Cast r kind x from to) = refl
tags_same (Alloc r ty) = refl
tags_same (Dealloc m ty) = refl
tags_same Return = refl

pub around_same : (p : Plain) (a : Around) → behind_plain (normal_plain p) a ≡ behind_plain p a
around_same (Load r m at ty) a = refl
around_same (Store x m at ty) a = refl
around_same (Start x x_at y y_at t t_at n stride types) a = refl
around_same (Wait t at n ty) a = refl
around_same (Value r pick at) a = refl
around_same (RawLoad r m at ty) a = refl
around_same (RawStore x m at ty) a = refl
around_same (Constant r z ty) a = refl
around_same (Binary r op x y ty) a = refl
around_same (Cast r kind x from to) a = refl
around_same (Alloc r ty) a = refl
around_same (Dealloc m ty) a = refl
around_same Return a = refl

-- ---- the rules
pub rules_hold : (a : Around) (p : Plain) (rest : Nest) → Holds a p rest → rule_of_plain a p rest ≡ None
unfolding rule_of_plain
rules_hold a p rest h = rw (h.uses, h.new_name, h.stand, h.types, h.constants, h.counts, h.pure, h.bounded, h.spaces, h.elements, h.text) refl

module _ (a : Around) (rest rest' : Nest) (spaces : (p : Plain) → spaces_agree a p rest' ≡ spaces_agree a p rest) where
  -- before another rest
  still : (p : Plain) → Holds a p rest → Holds a p rest'
  still p h = record {
    uses = h.uses;
    new_name = h.new_name;
    stand = h.stand;
    types = h.types;
    constants = h.constants;
    counts = h.counts;
    pure = h.pure;
    bounded = h.bounded;
    spaces = spaces p ∙ h.spaces;
    elements = h.elements;
    text = h.text;
  }

  pub normal_holds : (p : Plain) → Holds a p rest → Holds a (normal_plain p) rest'
  normal_holds (Load r m at ty) h =
      let fits = fits_of at ty h.counts in
      let s = normal_valid a.scope at fits in
      record {
        uses = place_same a.scope m at fits h.uses;
        new_name = h.new_name;
        stand = s.stands h.stand;
        types = h.types;
        constants = h.constants;
        counts = subscripts_same at ty h.counts;
        pure = s.pure h.pure;
        bounded = s.bounded h.bounded;
        spaces = h.spaces;
        elements = h.elements;
        text = h.text;
      }
  normal_holds (Store x m at ty) h =
      let fits = fits_of at ty h.counts in
      let s = normal_valid a.scope at fits in
      let u = and_parts (is_in a.scope x) (place_in a.scope m at) h.uses in
      let d = and_parts (is_value a.scope x) (access_stands a.scope at) h.stand in
      record {
        uses = λ i. u.0 i && place_same a.scope m at fits u.1 i;
        new_name = h.new_name;
        stand = λ i. d.0 i && s.stands d.1 i;
        types = h.types;
        constants = h.constants;
        counts = subscripts_same at ty h.counts;
        pure = s.pure h.pure;
        bounded = s.bounded h.bounded;
        spaces = h.spaces;
        elements = h.elements;
        text = h.text;
      }
  normal_holds (Wait t at n ty) h =
      let fits = fits_of at ty h.counts in
      let s = normal_valid a.scope at fits in
      let u = and_parts (place_in a.scope t at) (is_in a.scope n) h.uses in
      let d = and_parts (access_stands a.scope at) (is_value a.scope n) h.stand in
      record {
        uses = λ i. place_same a.scope t at fits u.0 i && u.1 i;
        new_name = h.new_name;
        stand = λ i. s.stands d.0 i && d.1 i;
        types = h.types;
        constants = h.constants;
        counts = subscripts_same at ty h.counts;
        pure = s.pure h.pure;
        bounded = s.bounded h.bounded;
        spaces = h.spaces;
        elements = h.elements;
        text = h.text;
      }
  normal_holds (Start x x_at y y_at t t_at n stride types) h =
      let f = ends_same x_at y_at t_at types h.counts in
      let sx = normal_valid a.scope x_at f.from in
      let sy = normal_valid a.scope y_at f.to in
      let st = normal_valid a.scope t_at f.tags in
      let u0 = and_parts (place_in a.scope x x_at) _ h.uses in
      let u1 = and_parts (place_in a.scope y y_at) _ u0.1 in
      let u2 = and_parts (place_in a.scope t t_at) _ u1.1 in
      let d0 = and_parts (access_stands a.scope x_at) _ h.stand in
      let d1 = and_parts (access_stands a.scope y_at) _ d0.1 in
      let d2 = and_parts (access_stands a.scope t_at) _ d1.1 in
      let p0 = and_parts (access_pure x_at) _ h.pure in
      let p1 = and_parts (access_pure y_at) _ p0.1 in
      let b0 = and_parts (access_bounded a.scope x_at) _ h.bounded in
      let b1 = and_parts (access_bounded a.scope y_at) _ b0.1 in
      record {
        uses = λ i. place_same a.scope x x_at f.from u0.0 i && (place_same a.scope y y_at f.to u1.0 i && (place_same a.scope t t_at f.tags u2.0 i && u2.1 i));
        new_name = h.new_name;
        stand = λ i. sx.stands d0.0 i && (sy.stands d1.0 i && (st.stands d2.0 i && d2.1 i));
        types = h.types;
        constants = h.constants;
        counts = f.after;
        pure = λ i. sx.pure p0.0 i && (sy.pure p1.0 i && st.pure p1.1 i);
        bounded = λ i. sx.bounded b0.0 i && (sy.bounded b1.0 i && st.bounded b1.1 i);
        spaces = h.spaces;
        elements = h.elements;
        text = h.text;
      }
  normal_holds (Value r pick at) h = still (Value r pick at) h
  normal_holds (RawLoad r m at ty) h = still (RawLoad r m at ty) h
  normal_holds (RawStore x m at ty) h = still (RawStore x m at ty) h
  normal_holds (Constant r z ty) h = still (Constant r z ty) h
  normal_holds (Binary r op x y ty) h = still (Binary r op x y ty) h
  normal_holds (Cast r kind x from to) h = still (Cast r kind x from to) h
  normal_holds (Alloc r ty) h = still (Alloc r ty) h
  normal_holds (Dealloc m ty) h = still (Dealloc m ty) h
  normal_holds Return h = still Return h
