-- The places of a transfer lie between its memref's first one and its end, so they are none of a memref's beside it.
use Rattle.std.proofs.Common.{◌≡◌, inl, inr, ℕ, zero, suc, ◌+◌, ◌<◌, ◌≤◌, List, [], ◌∷◌, map, Bool, true, false, Option, Some, None, refl, sym, ap, ◌∙◌, subst, arith}
use Rattle.std.specs.Prelude.{◌&&◌, nat_le, nat_lt, if◌then◌else◌}
use Rattle.std.specs.List.{list_all, range_with_len}
use Rattle.std.proofs.lemmas.Bool.{and_parts, ltb-true}
use Rattle.affine_ast.specs.declared.name.Name.{Name}
use Rattle.affine_ast.specs.declared.types.Access.{Access}
use Rattle.affine_ast.specs.declared.types.MemrefType.{MemrefType}
use Rattle.affine_ast.specs.Sizes.{product}
use Rattle.bus_model.specs.declared.step.FaultKind.TheVariants.{Bounds, Shape}
use Rattle.bus_model.specs.declared.transfer.Transfer.{Transfer}
use Rattle.bus_model.specs.Places.{slow_place}
use Rattle.direct_meaning.specs.Action.{Home, SlowMemref, FastMemref, TagMemref, Place, Slow, Fast, Outside, Action, Starts, Faults}
use Rattle.direct_meaning.specs.Actions.{half_cells, Layout, has_shape, started, transfer_of, start_between, start_of}
use Rattle.direct_meaning.specs.Static.{Env, cell_in, results_of, slow_at, place_at, place_of, tag_of}
use Rattle.direct_meaning.specs.Transfers.{ends_by}
use Rattle.placement_texts.specs.Boxes.{is_of}
use Rattle.placement_texts.proofs.ApartValid.{Beside}
use Rattle.staging_laws.specs.Spared.{TransferAside}

all_pass : (p : ℕ → Bool) (f : ℕ → ℕ) (a n : ℕ) → list_all p (map f (range_with_len a n)) ≡ true → (e : ℕ) → e < n → p (f (a + e)) ≡ true
all_pass p f a zero h e lt = absurd (omega (arith, lt))
all_pass p f a (suc n) h zero lt = ap (λ k. p (f k)) (plus a) ∙ (and_parts (p (f a)) (list_all p (map f (range_with_len (a + 1) n))) h).0
  where
    plus : (a : ℕ) → a + 0 ≡ a
    plus a = omega arith
all_pass p f a (suc n) h (suc e) lt = ap (λ k. p (f k)) (plus a e) ∙ all_pass p f (a + 1) n (and_parts (p (f a)) (list_all p (map f (range_with_len (a + 1) n))) h).1 e (omega (arith, lt))
  where
    plus : (a e : ℕ) → a + suc e ≡ a + 1 + e
    plus a e = omega arith

after_base : (t : Transfer) (e : ℕ) → t.base ≤ slow_place t e
unfolding slow_place
after_base t e = omega arith

below_end : (t : Transfer) (end : ℕ) → ends_by t end ≡ true → (e : ℕ) → e < t.count → slow_place t e < end
below_end t end p e below =
    let z : 0 + e ≡ e = omega arith in
    let q = ltb-true (slow_place t (0 + e)) end (all_pass (λ place. nat_lt place end) (slow_place t) 0 t.count p e below) in
    let m : slow_place t (0 + e) ≡ slow_place t e = ap (slow_place t) z in
    omega (arith, q, m)

slow_base : (f base : ℕ) (o : Option ℕ) → slow_at f o ≡ Slow base → f ≤ base
slow_base f base (Some c) e = let k : f + c ≡ base = cc in omega (arith, k)
slow_base f base None e = absurd (let z : ⊥ = cc in z)

-- the memref whose places a transfer is to miss
module _ (first : ℕ) (sizes : List ℕ) where
  pub misses : (f p : ℕ) (others : List ℕ) → Beside f others first sizes → f ≤ p → p < f + product others → is_of first sizes p ≡ false
  misses f p others (inl k) low high = let t : nat_le first p ≡ false = grind (arith, high, k) in ap (λ x. x && nat_lt p (first + product sizes)) t
  misses f p others (inr k) low high = let t : nat_lt p (first + product sizes) ≡ false = grind (arith, low, k) in ap (λ x. nat_le first p && x) t ∙ and_false (nat_le first p)
    where
      and_false : (x : Bool) → (x && false) ≡ false
      and_false true = refl
      and_false false = refl

  -- an end of a transfer: where it is a slow memref's, that lies beside, and the place is not before its first one
  abbrev pub EndAside : Option Home → Place → List ℕ → Type 0
  EndAside home place others = (k f : ℕ) → home ≡ Some (SlowMemref k f) → Beside f others first sizes × ((base : ℕ) → place ≡ Slow base → f ≤ base)

  abbrev Missing : Action → Type 0
  Missing a = (x : Transfer) → a ≡ Starts x → TransferAside first sizes x

  abbrev transfer_in : Transfer → Action → Transfer
  transfer_in t (Starts x) = x
  transfer_in t a = t

  started_misses : (t : Transfer) (f cells : ℕ) (others : List ℕ) → Beside f others first sizes → f ≤ t.base → Missing (started t (f + product others) cells)
  started_misses t f cells others b low x e = by (ends_by t (f + product others)) (has_shape t cells) refl e
    where
      by : (y z : Bool) → ends_by t (f + product others) ≡ y → (if y then (if z then Starts t else Faults Shape) else Faults Bounds) ≡ Starts x → TransferAside first sizes x
      by true true p e =
          let same : t ≡ x = ap (transfer_in t) e in
          subst (TransferAside first sizes) same (λ j less. misses f (slow_place t j) others b (let k = after_base t j in omega (arith, low, k)) (below_end t (f + product others) p j less))
      by true false p e = absurd (let z : ⊥ = cc in z)
      by false z p e = absurd (let z : ⊥ = cc in z)

  transfer_misses : (incoming : Bool) (k f : ℕ) (slow fast : MemrefType) (layout : Layout) (a b : Place) (tag : Option ℕ) → Beside f slow.sizes first sizes → ((base : ℕ) → a ≡ Slow base → f ≤ base) → Missing (transfer_of incoming k f slow fast layout a b tag)
  transfer_misses incoming k f slow fast layout (Slow base) (Fast number half cell) (Some tag) beside low = started_misses _ f (half_cells fast.sizes) slow.sizes beside (low base refl)
  transfer_misses incoming k f slow fast layout (Slow base) (Fast number half cell) None beside low = λ x e. absurd (let z : ⊥ = cc in z)
  transfer_misses incoming k f slow fast layout (Slow base) (Slow p) tag beside low = λ x e. absurd (let z : ⊥ = cc in z)
  transfer_misses incoming k f slow fast layout (Slow base) Outside tag beside low = λ x e. absurd (let z : ⊥ = cc in z)
  transfer_misses incoming k f slow fast layout (Fast n h c) b tag beside low = λ x e. absurd (let z : ⊥ = cc in z)
  transfer_misses incoming k f slow fast layout Outside b tag beside low = λ x e. absurd (let z : ⊥ = cc in z)

  between_misses : (from to : Option Home) (a b : Place) (from_ty to_ty : MemrefType) (layout : Layout) (tag : Option ℕ) → EndAside from a from_ty.sizes → EndAside to b to_ty.sizes → Missing (start_between from to a b from_ty to_ty layout tag)
  between_misses (Some (SlowMemref k f)) to a b from_ty to_ty layout tag x y = let h = x k f refl in transfer_misses true k f from_ty to_ty layout a b tag h.0 h.1
  between_misses (Some (FastMemref n)) (Some (SlowMemref k f)) a b from_ty to_ty layout tag x y = let h = y k f refl in transfer_misses false k f to_ty from_ty layout b a tag h.0 h.1
  between_misses (Some (TagMemref n)) (Some (SlowMemref k f)) a b from_ty to_ty layout tag x y = let h = y k f refl in transfer_misses false k f to_ty from_ty layout b a tag h.0 h.1
  between_misses None (Some (SlowMemref k f)) a b from_ty to_ty layout tag x y = let h = y k f refl in transfer_misses false k f to_ty from_ty layout b a tag h.0 h.1
  between_misses (Some (FastMemref n)) (Some (FastMemref k)) a b from_ty to_ty layout tag x y = λ t e. absurd (let z : ⊥ = cc in z)
  between_misses (Some (FastMemref n)) (Some (TagMemref k)) a b from_ty to_ty layout tag x y = λ t e. absurd (let z : ⊥ = cc in z)
  between_misses (Some (FastMemref n)) None a b from_ty to_ty layout tag x y = λ t e. absurd (let z : ⊥ = cc in z)
  between_misses (Some (TagMemref n)) (Some (FastMemref k)) a b from_ty to_ty layout tag x y = λ t e. absurd (let z : ⊥ = cc in z)
  between_misses (Some (TagMemref n)) (Some (TagMemref k)) a b from_ty to_ty layout tag x y = λ t e. absurd (let z : ⊥ = cc in z)
  between_misses (Some (TagMemref n)) None a b from_ty to_ty layout tag x y = λ t e. absurd (let z : ⊥ = cc in z)
  between_misses None (Some (FastMemref k)) a b from_ty to_ty layout tag x y = λ t e. absurd (let z : ⊥ = cc in z)
  between_misses None (Some (TagMemref k)) a b from_ty to_ty layout tag x y = λ t e. absurd (let z : ⊥ = cc in z)
  between_misses None None a b from_ty to_ty layout tag x y = λ t e. absurd (let z : ⊥ = cc in z)

  -- each end of a valid start
  end_aside : (e : Env) (n : Name) (at : Access) (ty : MemrefType) → ((k f : ℕ) → e.home n ≡ Some (SlowMemref k f) → Beside f ty.sizes first sizes) → EndAside (e.home n) (place_of e n at ty) ty.sizes
  unfolding place_of
  end_aside e n at ty h k f is = (h k f is, λ base p. slow_base f base (cell_in ty.sizes (results_of e at)) (ap (λ x. place_at x ty.sizes (results_of e at)) (sym is) ∙ p))

  -- a start whose two ends are beside the memref
  abbrev pub EndsBeside : Env → Name → Name → List MemrefType → Type 0
  EndsBeside e a b (a_ty ∷ b_ty ∷ t_ty ∷ []) = ((k f : ℕ) → e.home a ≡ Some (SlowMemref k f) → Beside f a_ty.sizes first sizes) × ((k f : ℕ) → e.home b ≡ Some (SlowMemref k f) → Beside f b_ty.sizes first sizes)
  EndsBeside e a b types = Unit {0}

  pub start_misses : (e : Env) (a : Name) (a_at : Access) (b : Name) (b_at : Access) (t : Name) (t_at : Access) (layout : Layout) (types : List MemrefType) → EndsBeside e a b types → Missing (start_of e a a_at b b_at t t_at layout types)
  start_misses e a a_at b b_at t t_at layout (a_ty ∷ b_ty ∷ t_ty ∷ []) h =
      between_misses (e.home a) (e.home b) (place_of e a a_at a_ty) (place_of e b b_at b_ty) a_ty b_ty layout (tag_of e t t_at t_ty) (end_aside e a a_at a_ty h.0) (end_aside e b b_at b_ty h.1)
  start_misses e a a_at b b_at t t_at layout [] h = λ x e. absurd (let z : ⊥ = cc in z)
  start_misses e a a_at b b_at t t_at layout (a_ty ∷ []) h = λ x e. absurd (let z : ⊥ = cc in z)
  start_misses e a a_at b b_at t t_at layout (a_ty ∷ b_ty ∷ []) h = λ x e. absurd (let z : ⊥ = cc in z)
  start_misses e a a_at b b_at t t_at layout (a_ty ∷ b_ty ∷ t_ty ∷ u_ty ∷ types) h = λ x e. absurd (let z : ⊥ = cc in z)
