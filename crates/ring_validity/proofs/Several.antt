-- A ring for one placement leaves the templates of the others as they stand; so the body with a ring for each is well-formed.
use Rattle.std.proofs.Common.{◌≡◌, ◌⊎◌, inl, inr, ℕ, zero, suc, ◌≤◌, ℤ, pos, ◌<ℤ◌, List, [], ◌∷◌, ◌++◌, refl, sym, ap, ◌∙◌, subst, Bool, true, false, take, drop}
use Rattle.std.specs.Prelude.{◌&&◌, ◌||◌, Option, Some, None, if◌then◌else◌}
use Rattle.std.specs.List.{list_all}
use Rattle.std.proofs.lemmas.Bool.{and_parts, or_parts}
use Rattle.affine_ast.specs.declared.name.Name.{Name}
use Rattle.affine_ast.specs.declared.types.Access.{Access}
use Rattle.affine_ast.specs.declared.types.Bound.{Bound}
use Rattle.affine_ast.specs.declared.types.MemrefType.{MemrefType}
use Rattle.affine_ast.specs.Names.{same_name, put}
use Rattle.affine_ast.proofs.Names.{same_name-eq, same_name-is, same_name-refl}
use Rattle.affine_ast.specs.Nest.{Plain, Nest, Nothing, Loop, Branch, Does, Value, Load, Store, RawLoad, RawStore, Constant, Binary, Cast, Alloc, Dealloc, Start, Wait, Return}
use Rattle.affine_ast.specs.Parts.{stride_names}
use Rattle.affine_ast.specs.Rules.{is_in, are_in, is_new}
use Rattle.affine_ast.specs.Scope.{Scope}
use Rattle.loop_forms.specs.Split.{as_map}
use Rattle.placement_texts.specs.Template.{Placement, fast_name, tag_name, count_name, slow_type}
use Rattle.ring_plans.specs.Rings.{at_place, ring_tags, ring_type, late_wait, alloc_in_ring, in_ring, all_in_ring, bodies}
use Rattle.ring_validity.specs.Wells.{a_number, WellFormed}
use Rattle.ring_validity.specs.Bodies.{is_memref, is_constant, is_special, NoMemrefs, NotSpecial, IsOther, IsMine, HoldsTemplate, IsRing, Beside}
use Rattle.ring_validity.specs.Openings.{template_scope, NoneTaken, NoneTakenBy, CanHaveRing, CanHaveRings, HoldsTemplates, BoundWell, ring_scope, rings_scope}
use Rattle.ring_validity.specs.BodyLaw.{BodiesStayWell}
use Rattle.ring_validity.proofs.Ringed.{no_both, body_well}
use Rattle.ring_validity.proofs.Openings.{special_of, memref_special, fast_special, tag_special, count_special, in_other, map_uses, bound_stays, is_ring, begins_beside, rings_stay, turn_new}

-- a ring for p, and the template of q
module _ (buffers : ℕ) (v : Name) (lower upper : Bound) (step : ℤ) (p q : Placement) (known : Scope) (none : NoneTaken p q) (turn : is_special q v ≡ false) (low : NoMemrefs q (as_map lower).operands) where
  abbrev ring : Nest → Nest
  ring n = all_in_ring buffers v lower upper step p n

  abbrev here : Access → Access
  here at = at_place buffers v lower upper step (pos 0) at

  -- a name of p is none of q
  apart : (n : Name) → is_special p n ≡ true → is_special q n ≡ false
  apart n h = by (is_special q n) refl
    where
      by : (c : Bool) → is_special q n ≡ c → is_special q n ≡ false
      by false e = e
      by true e = let z : true ≡ false = sym h ∙ special_of q (λ n. is_special p n ≡ false) none n e in absurd (cc)

  no_memref : (n : Name) → is_special q n ≡ false → is_memref q n ≡ false
  no_memref n h = (or_parts (is_memref q n) (is_constant q n) h).0

  no_fast : is_memref q (fast_name p.name) ≡ false
  no_fast = no_memref (fast_name p.name) (apart (fast_name p.name) (fast_special p))

  no_tag : is_memref q (tag_name p.name) ≡ false
  no_tag = no_memref (tag_name p.name) (apart (tag_name p.name) (tag_special p))

  no_count : is_memref q (count_name p.name) ≡ false
  no_count = no_memref (count_name p.name) (apart (count_name p.name) (count_special p))

  -- so no statement of q's template speaks of p's memrefs
  not_mine : (A : Type 0) (n m : Name) → is_special p n ≡ true → is_special q m ≡ true → same_name n m ≡ true → A
  not_mine A n m h k e = let z : true ≡ false = sym k ∙ ap (is_special q) (sym (same_name-eq n m e)) ∙ apart n h in absurd (cc)

  no_put : (k : ℕ) (ns : List Name) → NoMemrefs q ns → NoMemrefs q (take k ns ++ v ∷ drop k ns)
  no_put zero ns h = (no_memref v turn, h)
  no_put (suc k) [] h = (no_memref v turn, tt)
  no_put (suc k) (n ∷ ns) h = (h.0, no_put k ns h.1)

  no_here : (at : Access) → NoMemrefs q at.operands → NoMemrefs q (here at).operands
  no_here at h = no_put at.map.dims at.operands h

  no_append : (ns ms : List Name) → NoMemrefs q ns → NoMemrefs q ms → NoMemrefs q (ns ++ ms)
  no_append [] ms h k = k
  no_append (n ∷ ns) ms h k = (h.0, no_append ns ms h.1 k)

  abbrev H : Nest → Type 0
  H n = HoldsTemplate q known n

  if_holds : (c : Bool) (a b : Nest) → (c ≡ true → H a) → H b → H (if c then a else b)
  if_holds true a b h k = h refl
  if_holds false a b h k = k

  abbrev Fits : Plain → Type 0
  Fits x = IsOther q x ⊎ IsMine q known x

  late_holds : (rest : Nest) → H rest → H (late_wait buffers v lower upper step p rest)
  late_holds rest h = ((no_memref v turn, low), (inl (record { uses = (no_tag, (no_memref v turn, (no_count, tt))); result = tt }), tt), tt, h)

  alloc_holds : (line : ℕ) (r : Name) (ty : MemrefType) (rest : Nest) → Fits (Alloc r ty) → H rest → H (alloc_in_ring buffers v lower upper step p line r ty rest)
  alloc_holds line r ty rest o h =
      if_holds (same_name (tag_name p.name) r) _ _
      (λ e. if_holds p.reads rest (late_wait buffers v lower upper step p rest) (λ c. h) (late_holds rest h))
      (if_holds (same_name (fast_name p.name) r) rest (Does line (Alloc r ty) rest) (λ e. h) (o, h))

  load_holds : (r : Name) (m : Name) (at : Access) (ty ty' : MemrefType) → same_name (fast_name p.name) m ≡ true → Fits (Load r m at ty) → Fits (Load r m (here at) ty')
  load_holds r m at ty ty' e (inl o) = inl (record { uses = (o.uses.0, no_here at o.uses.1); result = o.result })
  load_holds r m at ty ty' e (inr o) = not_mine _ (fast_name p.name) (fast_name q.name) (fast_special p) (fast_special q) (ap (same_name (fast_name p.name)) (sym o.0) ∙ e)

  store_holds : (x : Name) (m : Name) (at : Access) (ty ty' : MemrefType) → same_name (fast_name p.name) m ≡ true → Fits (Store x m at ty) → Fits (Store x m (here at) ty')
  store_holds x m at ty ty' e (inl o) = inl (record { uses = (o.uses.0, (o.uses.1.0, no_here at o.uses.1.1)); result = o.result })
  store_holds x m at ty ty' e (inr o) = not_mine _ (fast_name p.name) (fast_name q.name) (fast_special p) (fast_special q) (ap (same_name (fast_name p.name)) (sym o.0) ∙ e)

  wait_holds : (t : Name) (at : Access) (n : Name) (ty ty' : MemrefType) → same_name (tag_name p.name) t ≡ true → Fits (Wait t at n ty) → Fits (Wait t (here at) n ty')
  wait_holds t at n ty ty' e (inl o) = let u = no_both q at.operands (n ∷ []) o.uses.1 in inl (record { uses = (o.uses.0, no_append (here at).operands (n ∷ []) (no_here at u.0) u.1); result = o.result })
  wait_holds t at n ty ty' e (inr o) = not_mine _ (tag_name p.name) (tag_name q.name) (tag_special p) (tag_special q) (ap (same_name (tag_name p.name)) (sym o.0) ∙ e)

  start_holds : (x : Name) (x_at : Access) (y : Name) (y_at : Access) (t : Name) (t_at : Access) (n : Name) (stride : Option (Name × Name)) (types types' : List MemrefType) → same_name (tag_name p.name) t ≡ true
      → Fits (Start x x_at y y_at t t_at n stride types) → Fits (Start x (here x_at) y y_at t (here t_at) n stride types')
  start_holds x x_at y y_at t t_at n stride types types' e (inl o) =
      let a = no_both q x_at.operands (y ∷ y_at.operands ++ (t ∷ t_at.operands ++ (n ∷ stride_names stride))) o.uses.1 in
      let b = no_both q y_at.operands (t ∷ t_at.operands ++ (n ∷ stride_names stride)) a.1.1 in
      let c = no_both q t_at.operands (n ∷ stride_names stride) b.1.1 in
      inl (record {
        uses = (
          o.uses.0,
          no_append (here x_at).operands (y ∷ y_at.operands ++ (t ∷ (here t_at).operands ++ (n ∷ stride_names stride))) (no_here x_at a.0) (
            a.1.0,
            no_append y_at.operands (t ∷ (here t_at).operands ++ (n ∷ stride_names stride)) b.0
                (b.1.0, no_append (here t_at).operands (n ∷ stride_names stride) (no_here t_at c.0) c.1),
          ),
        );
        result = o.result;
      })
  start_holds x x_at y y_at t t_at n stride types types' e (inr o) = not_mine _ (tag_name p.name) (tag_name q.name) (tag_special p) (tag_special q) (ap (same_name (tag_name p.name)) (sym o.0) ∙ e)

  statement_holds : (line : ℕ) (x : Plain) (rest : Nest) → Fits x → H rest → H (in_ring buffers v lower upper step p line x rest)
  statement_holds line (Constant r z ty) rest o h = if_holds (is_constant p r) rest _ (λ e. h) (o, h)
  statement_holds line (Alloc r ty) rest o h = alloc_holds line r ty rest o h
  statement_holds line (Dealloc m ty) rest o h = if_holds (is_memref p m) rest _ (λ e. h) (o, h)
  statement_holds line (Start x x_at y y_at t t_at n stride types) rest o h =
      if_holds (same_name (tag_name p.name) t) _ _
      (λ e. if_holds (same_name (fast_name p.name) y) rest _ (λ c. h) (start_holds x x_at y y_at t t_at n stride types _ e o, h))
      (o, h)
  statement_holds line (Wait t at n ty) rest o h = if_holds (same_name (tag_name p.name) t) _ _ (λ e. if_holds p.reads _ rest (λ c. (wait_holds t at n ty _ e o, h)) h) (o, h)
  statement_holds line (Load r m at ty) rest o h = if_holds (same_name (fast_name p.name) m) _ _ (λ e. (load_holds r m at ty _ e o, h)) (o, h)
  statement_holds line (Store x m at ty) rest o h = if_holds (same_name (fast_name p.name) m) _ _ (λ e. (store_holds x m at ty _ e o, h)) (o, h)
  statement_holds line (Value r pick at) rest o h = (o, h)
  statement_holds line (RawLoad r m at ty) rest o h = (o, h)
  statement_holds line (RawStore x m at ty) rest o h = (o, h)
  statement_holds line (Binary r op x y ty) rest o h = (o, h)
  statement_holds line (Cast r kind x from to) rest o h = (o, h)
  statement_holds line Return rest o h = (o, h)

  pub template_stays : (n : Nest) → H n → H (ring n)
  template_stays Nothing h = tt
  template_stays (Loop line w l u s body rest) h = (h.0, h.1, h.2, template_stays body h.3, template_stays rest h.4)
  template_stays (Branch line set names first has other rest) h = (h.0, template_stays first h.1, template_stays other h.2, template_stays rest h.3)
  template_stays (Does line x rest) h = statement_holds line x (ring rest) h.0 (template_stays rest h.1)

-- ---- several
module _ (buffers : ℕ) (v : Name) (lower upper : Bound) (step : ℤ) where
  no_uses : (q : Placement) (s : Scope) → ((i : ℕ) → is_new s (q.name i) ≡ true) → (ns : List Name) → are_in s ns ≡ true → NoMemrefs q ns
  unfolding are_in
  no_uses q s new [] h = tt
  no_uses q s new (n ∷ ns) h =
      let k = and_parts (is_in s n) (list_all (is_in s) ns) h in
      ((or_parts (is_memref q n) (is_constant q n) (in_other buffers v lower upper step q s new n k.0)).0, no_uses q s new ns k.1)

  templates_stay : (p : Placement) (qs : List Placement) (s : Scope) (d : Name → Bool) (n : Nest) → BoundWell s lower → NoneTakenBy p qs → CanHaveRings s d v qs → HoldsTemplates qs n → HoldsTemplates qs (all_in_ring buffers v lower upper step p n)
  templates_stay p [] s d n w none can h = tt
  templates_stay p (q ∷ qs) s d n w none can h = (
    template_stays buffers v lower upper step p q (template_scope q) none.0 can.0.turn (no_uses q s can.0.new_names (as_map lower).operands (map_uses s lower w)) n h.0,
    templates_stay p qs s d n w none.1 can.2 h.1,
  )

pub bodies_well : BodiesStayWell
bodies_well buffers v lower upper step [] n s d some positive w new can holds h = h
bodies_well buffers v lower upper step (p ∷ ps) n s d some positive w new can holds h =
    let is = is_ring buffers v lower upper step p s d some positive can.0 in
    let beside = begins_beside buffers v lower upper step p s d w new can.0 in
    let t = ring_scope buffers v lower upper step p s in
    let one = body_well buffers v lower upper step p (template_scope p) is n (put s v a_number) (put t v a_number) d d holds.0 h beside in
    bodies_well buffers v lower upper step ps (all_in_ring buffers v lower upper step p n) t d some positive (bound_stays buffers v lower upper step p s d can.0.new_names lower w) (turn_new buffers v lower upper step p s can.0.turn new)
    (rings_stay buffers v lower upper step p ps s d can.1 can.2) (templates_stay buffers v lower upper step p ps s d n w can.1 can.2 holds.1) one
