-- A list of parts: the new run does what the old one does, where it does so for each run of the placement's loop.
use Rattle.std.proofs.Common.{◌≡◌, ◌≢◌, ℕ, suc, ◌<◌, ℤ, List, [], ◌∷◌, ◌++◌, refl, sym, ap, ◌∙◌, subst, Bool, true, false, map}
use Rattle.std.specs.Prelude.{◌||◌, Some, None, nat_eq, if◌then◌else◌}
use Rattle.std.specs.List.{list_any}
use Rattle.affine_ast.specs.declared.name.Name.{Name}
use Rattle.bus_model.specs.declared.transfer.Transfer.{Transfer}
use Rattle.direct_meaning.specs.Action.{Place, Slow, Fast, Outside, Action, Known, Stores}
use Rattle.direct_meaning.specs.Direct.{Outcome, End, Fault, then_do, folded, direct_step}
use Rattle.direct_meaning.proofs.Laws.{folded-append}
use Rattle.prompt_semantics.specs.Device.{Device}
use Rattle.prompt_semantics.specs.Prompt.{acts}
use Rattle.box_run_laws.specs.Roomy.{roomy, roomy_step}
use Rattle.boxes.specs.Every.{Every}
use Rattle.box_run_laws.specs.Layouts.{Numbering, Renumbers, Cell, nowhere, moved, unset_but, still_unset, unset_behind}
use Rattle.box_run_laws.specs.Owned.{Sound, Related, Ends}
use Rattle.box_run_laws.specs.Boxes.{Half, in_box, boxed, Allows}
use Rattle.box_run_laws.specs.Parts.{Part, Stays, Made, Runs, original, staged, Box, box_old, Brackets, box_new, left_by, left_behind, stores_to, IsBox, MeetsBox, Meets}
use Rattle.box_run_laws.proofs.Moved.{ends_then, set_more, one_step, moved_run}
use Rattle.box_run_laws.proofs.Boxes.{beside_none, sound_boxed}
use Rattle.box_run_laws.proofs.Left.{Leaves, left_step, left_run}

-- what is known of the first run's end besides
ends_with : (R : Device → Device → Type 0) (ts : List Transfer) (a b : Outcome Device) → Ends R a b → Leaves ts a → Ends (λ d y. R d y × (d.outstanding ≡ ts)) a b
ends_with R ts (End d) (End y) s h = (s, h)
ends_with R ts (Fault i d) (Fault j y) s h = s
ends_with R ts (End d) (Fault j y) s h = absurd s
ends_with R ts (Fault i d) (End y) s h = absurd s

-- the new run has a last part of its own
pub ends_last : (R Q : Device → Device → Type 0) (a b : Outcome Device) (h : Device → Outcome Device) → Ends R a b → ((d y : Device) → R d y → Ends Q (End d) (h y)) → Ends Q a (then_do b h)
ends_last R Q (End d) (End y) h s k = k d y s
ends_last R Q (Fault i d) (Fault j y) h s k = s
ends_last R Q (End d) (Fault j y) h s k = absurd s
ends_last R Q (Fault i d) (End y) h s k = absurd s

-- ---- which places are set behind a list of actions
was_set : (place : Place) (u : ℕ → Bool) (p : ℕ) → u p ≡ false → unset_but place u p ≡ false
was_set (Slow q) u p h = by (nat_eq q p)
  where
    by : (t : Bool) → (if t then false else u p) ≡ false
    by true = refl
    by false = h
was_set (Fast n k c) u p h = h
was_set Outside u p h = h

pub stays_set : (a : Action) (u : ℕ → Bool) (p : ℕ) → u p ≡ false → still_unset a u p ≡ false
stays_set (Stores x q) u p h = was_set q u p h
stays_set a u p h = h

pub set_behind : (xs : List Action) (u : ℕ → Bool) (p : ℕ) → u p ≡ false → unset_behind xs u p ≡ false
set_behind [] u p h = h
set_behind (a ∷ xs) u p h = set_behind xs (still_unset a u) p (stays_set a u p h)

set_by : (a : Action) (u : ℕ → Bool) (p : ℕ) → stores_to p a ≡ true → still_unset a u p ≡ false
set_by (Stores x (Slow q)) u p h = ap (λ t. if t then false else u p) h
set_by (Stores x (Fast n k c)) u p h = let f : false ≡ true = h in absurd (cc)
set_by (Stores x Outside) u p h = let f : false ≡ true = h in absurd (cc)
set_by a u p h = let f : false ≡ true = h in absurd (cc)

-- a place that is stored to is set
pub set_stored : (xs : List Action) (u : ℕ → Bool) (p : ℕ) → list_any (stores_to p) xs ≡ true → unset_behind xs u p ≡ false
set_stored [] u p h = let f : false ≡ true = h in absurd (cc)
set_stored (a ∷ xs) u p h = by (stores_to p a) refl h (λ k. set_stored xs (still_unset a u) p k)
  where
    by : (t : Bool) → stores_to p a ≡ t → (t || list_any (stores_to p) xs) ≡ true → (list_any (stores_to p) xs ≡ true → unset_behind xs (still_unset a u) p ≡ false) → unset_behind xs (still_unset a u) p ≡ false
    by true e k more = set_behind xs (still_unset a u) p (set_by a u p e)
    by false e k more = more k

sound_nowhere : (nu : Numbering) (total : ℕ) → Sound nu nowhere total
sound_nowhere nu total = record {
  inside = λ p c e. absurd (never c e);
  alone = λ p q c e f. absurd (never c e);
  new = λ p n c e f. never c e;
  fresh = λ p e. refl;
  new_extra = tt;
  here = λ p c e. refl;
  new_ahead = tt;
  elsewhere = λ p c e. tt;
}
  where
    never : (c : Cell) → None ≡ Some c → ⊥
    never c e = cc

module _ (own : Name → Bool) (nu : Numbering) (is : Renumbers nu) (total : ℕ) (filler : ℤ) where
  abbrev P : Action → Device → Outcome Device
  P = roomy_step filler

  abbrev none : ℕ → Bool
  none p = false

  -- outside the placement
  abbrev pub Apart : Device → Device → Type 0
  Apart d y = Related own nu nowhere (λ p. false) total d y

  -- a place or a constant of the template
  known : (y : Device) (go : Device → Outcome Device) → then_do (P Known y) go ≡ go (record y { actions = suc y.actions })
  unfolding roomy_step roomy acts direct_step
  known y go = refl

  -- each run of the loop does what it did
  module _ (X : Type 0) (old new : X → List Action) (MeetsRun : X → List Transfer → Type 0)
      (runs : (x : X) (ts : List Transfer) (d y : Device) → MeetsRun x ts → d.outstanding ≡ ts → Apart d y → Ends Apart (folded P (old x) d) (folded P (new x) y)) where
    pub parts_run : (ps : List (Part X)) (ts : List Transfer) (d y : Device) → Meets own nu old MeetsRun ps ts → d.outstanding ≡ ts → Apart d y → Ends Apart (folded P (original old ps) d) (folded P (staged nu new ps) y)
    unfolding folded
    parts_run [] ts d y m e s = s
    parts_run (Stays a ∷ ps) ts d y m e s =
        ends_then (λ d y. Related own nu nowhere (still_unset a none) total d y × (d.outstanding ≡ left_by a ts)) Apart (P a d) (P (moved nu nowhere a) y) (folded P (original old ps)) (folded P (staged nu new ps))
        (ends_with (Related own nu nowhere (still_unset a none) total) (left_by a ts) (P a d) (P (moved nu nowhere a) y)
        (one_step own nu is nowhere total (sound_nowhere nu total) filler none a d y (λ q h. h) m.0 s)
        (subst (λ l. Leaves (left_by a l) (P a d)) e (left_step filler a d)))
        (λ d' y' h. parts_run ps (left_by a ts) d' y' m.1 h.1 (set_more own nu is nowhere total (sound_nowhere nu total) filler (still_unset a none) none d' y' (λ q f. stays_set a none q f) h.0))
    parts_run (Made ∷ ps) ts d y m e s = subst (Ends Apart (folded P (original old ps) d)) (sym (known y (folded P (staged nu new ps)))) (parts_run ps ts d (record y { actions = suc y.actions }) m e s)
    parts_run (Runs x ∷ ps) ts d y m e s =
        subst (λ o. Ends Apart o (folded P (new x ++ staged nu new ps) y)) (sym (folded-append P (old x) (original old ps) d))
        (subst (Ends Apart (then_do (folded P (old x) d) (folded P (original old ps)))) (sym (folded-append P (new x) (staged nu new ps) y))
        (ends_then (λ d y. Apart d y × (d.outstanding ≡ left_behind (old x) ts)) Apart (folded P (old x) d) (folded P (new x) y) (folded P (original old ps)) (folded P (staged nu new ps))
        (ends_with Apart (left_behind (old x) ts) (folded P (old x) d) (folded P (new x) y) (runs x ts d y m.0 e s)
        (subst (λ l. Leaves (left_behind (old x) l) (folded P (old x) d)) e (left_run filler (old x) d)))
        (λ d' y' h. parts_run ps (left_behind (old x) ts) d' y' m.1 h.1 h.0)))

  -- ---- a single placement
  module _ (b : Half) (new : (n : ℕ) → nu.fasts n ≢ b.number) (k : Brackets) (Fits : (ℕ → ℕ) → Type 0) where
    -- what stands before the loop ends with the box in fast memory, and what stands behind it with the box in slow memory
    abbrev pub Opens : Type 0
    Opens = (place : ℕ → ℕ) → IsBox b.count total place → Fits place → (d y : Device) → Every (Allows b place) d.outstanding → Apart d y
        → (z : Device) × (folded P (k.before place) y ≡ End z) × Related own nu (boxed b place) (boxed b place).unset total d z

    abbrev pub Closes : Type 0
    Closes = (place : ℕ → ℕ) → IsBox b.count total place → Fits place → (u : ℕ → Bool) (d y : Device) → (b.writes ≡ true → (i : ℕ) → i < b.count → u (place i) ≡ false) → Related own nu (boxed b place) u total d y
        → (z : Device) × (folded P (k.behind place) y ≡ End z) × Apart d z

    -- every cell is set behind the loop
    all_set : (x : Box) (ts : List Transfer) → MeetsBox own nu b total Fits x ts → b.writes ≡ true → (i : ℕ) → i < b.count → unset_behind x.inner (boxed b x.place).unset (x.place i) ≡ false
    all_set x ts m w i l = by b.reads refl
      where
        by : (t : Bool) → b.reads ≡ t → unset_behind x.inner (boxed b x.place).unset (x.place i) ≡ false
        by true e = set_behind x.inner (boxed b x.place).unset (x.place i) (ap (λ t. if t then false else in_box x.place b.count (x.place i)) e)
        by false e = set_stored x.inner (boxed b x.place).unset (x.place i) (m.covered e w i l)

    pub box_run : Opens → Closes → (x : Box) (ts : List Transfer) (d y : Device) → MeetsBox own nu b total Fits x ts → d.outstanding ≡ ts → Apart d y → Ends Apart (folded P (box_old x) d) (folded P (box_new nu b k x) y)
    box_run opens closes x ts d y m e s =
        let place = x.place in
        let rho = boxed b place in
        let mid = map (moved nu rho) x.inner in
        let o = opens place m.box m.fits d y (subst (Every (Allows b place)) (sym e) m.misses) s in
        let z = o.0 in
        subst (Ends Apart (folded P x.inner d)) (sym
        (folded-append P (k.before place) (mid ++ k.behind place) y
        ∙ ap (λ o. then_do o (folded P (mid ++ k.behind place))) o.1
        ∙ folded-append P mid (k.behind place) z))
        (ends_last (Related own nu rho (unset_behind x.inner rho.unset) total) Apart (folded P x.inner d) (folded P mid z) (folded P (k.behind place))
        (moved_run own nu is rho total (sound_boxed b place [] [] nu total m.box.distinct m.box.inside new (beside_none nu b)) filler x.inner rho.unset d z (λ q h. h) m.owned o.2)
        (λ d' y' h.
        let c = closes place m.box m.fits (unset_behind x.inner rho.unset) d' y' (all_set x ts m) h in
        subst (Ends Apart (End d')) (sym c.1) c.2))
