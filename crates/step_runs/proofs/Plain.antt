-- A list of such actions is allowed where each is at the stage before them all.
use Rattle.std.proofs.Common.{◌≡◌, ◌⊎◌, inl, inr, ℕ, List, [], ◌∷◌, refl, sym, ap, ◌∙◌, subst, Bool, true}
use Rattle.std.specs.Prelude.{◌||◌, ◌&&◌, Option, Some, None, is_none, if◌then◌else◌}
use Rattle.bus_model.specs.declared.transfer.Transfer.{Transfer}
use Rattle.direct_meaning.specs.Static.{place_at}
use Rattle.direct_meaning.specs.Action.{Home, SlowMemref, FastMemref, TagMemref, Place, Slow, Action, Known, Sets, Loads, Stores, RawLoads, RawStores, Operates, Converts, Allocates, Releases, AllocatesTags, ReleasesTags, Starts, Waits, Faults, Returns}
use Rattle.step_runs.specs.Stage.{Stage, same_place}
use Rattle.step_runs.specs.Steps.{Each, moved, home_in, behind, after_both, Sound, MayLoad, MayStore, AllowedBoth, Goes}
use Rattle.step_runs.specs.Plain.{boths, AllowedPlain}
use Rattle.step_runs.proofs.Frame.{or_cases}
use Rattle.std.proofs.lemmas.Bool.{and_parts}

module _ (large : ℕ) (ring : ℕ → ℕ → Transfer) where
  -- the stage with more places that agree, and others that are fresh
  abbrev pub agreed : (Place → Bool) → (ℕ → Bool) → Stage → Stage
  agreed agrees fresh s = record s { agrees = agrees; fresh = fresh }

  module _ (s : Stage) where
    homes : (agrees : Place → Bool) (fresh : ℕ → Bool) (h : Option Home) → home_in (agreed agrees fresh s) h ≡ home_in s h
    homes agrees fresh (Some (FastMemref n)) = refl
    homes agrees fresh (Some (SlowMemref m f)) = refl
    homes agrees fresh (Some (TagMemref f)) = refl
    homes agrees fresh None = refl

    moved_same : (a : Action) (agrees : Place → Bool) (fresh : ℕ → Bool) → moved (agreed agrees fresh s) a ≡ moved s a
    moved_same Known agrees fresh = refl
    moved_same (Sets r z) agrees fresh = refl
    moved_same (Loads r q) agrees fresh = refl
    moved_same (Stores x q) agrees fresh = refl
    moved_same (RawLoads r home sizes subscripts) agrees fresh = ap (λ h. RawLoads r h sizes subscripts) (homes agrees fresh home)
    moved_same (RawStores x home sizes subscripts) agrees fresh = ap (λ h. RawStores x h sizes subscripts) (homes agrees fresh home)
    moved_same (Operates r op bits a b) agrees fresh = refl
    moved_same (Converts r kind from to x) agrees fresh = refl
    moved_same (Allocates n element sizes) agrees fresh = refl
    moved_same (Releases n element sizes) agrees fresh = refl
    moved_same (AllocatesTags first count) agrees fresh = refl
    moved_same (ReleasesTags first count) agrees fresh = refl
    moved_same (Starts t) agrees fresh = refl
    moved_same (Waits tag count) agrees fresh = refl
    moved_same (Faults k) agrees fresh = refl
    moved_same Returns agrees fresh = refl

    -- what lies between the stage and one with more that agrees, of places that are there
    record Grows (agrees : Place → Bool) : Type 0 where
      kept : (q : Place) → s.agrees q ≡ true → agrees q ≡ true
      there : (q : Place) → agrees q ≡ true → s.there q ≡ true

    load_at : (agrees : Place → Bool) (fresh : ℕ → Bool) (q : Place) → Grows agrees → MayLoad large ring s q → MayLoad large ring (agreed agrees fresh s) q
    load_at agrees fresh q g (inl e) = inl e
    load_at agrees fresh q g (inr c) = inr (record { same = g.kept q c.same; clear = record { own = c.clear.own; moved = c.clear.moved } })

    store_at : (agrees : Place → Bool) (fresh : ℕ → Bool) (q : Place) → MayStore large ring s q → MayStore large ring (agreed agrees fresh s) q
    store_at agrees fresh q (inl e) = inl e
    store_at agrees fresh q (inr c) = inr (record { there = c.there; clear = record { own = c.clear.own; moved = c.clear.moved } })

    allowed_at : (a : Action) (agrees : Place → Bool) (fresh : ℕ → Bool) → Grows agrees → AllowedPlain large ring s a → AllowedBoth large ring a (agreed agrees fresh s)
    allowed_at Known agrees fresh g c = tt
    allowed_at (Sets r z) agrees fresh g c = tt
    allowed_at (Loads r q) agrees fresh g c = load_at agrees fresh q g c
    allowed_at (Stores x q) agrees fresh g c = store_at agrees fresh q c
    allowed_at (RawLoads r home sizes subscripts) agrees fresh g c = λ zs. (ap (λ h. place_at h sizes zs) (homes agrees fresh home) ∙ (c zs).0, load_at agrees fresh (place_at home sizes zs) g (c zs).1)
    allowed_at (RawStores x home sizes subscripts) agrees fresh g c = λ zs. (ap (λ h. place_at h sizes zs) (homes agrees fresh home) ∙ (c zs).0, store_at agrees fresh (place_at home sizes zs) (c zs).1, (c zs).2)
    allowed_at (Operates r op bits a b) agrees fresh g c = tt
    allowed_at (Converts r kind from to x) agrees fresh g c = tt
    allowed_at (Allocates n element sizes) agrees fresh g c = absurd c
    allowed_at (Releases n element sizes) agrees fresh g c = absurd c
    allowed_at (AllocatesTags first count) agrees fresh g c = absurd c
    allowed_at (ReleasesTags first count) agrees fresh g c = absurd c
    allowed_at (Starts t) agrees fresh g c = absurd c
    allowed_at (Waits tag count) agrees fresh g c = absurd c
    allowed_at (Faults k) agrees fresh g c = tt
    allowed_at Returns agrees fresh g c = tt

    -- which places agree behind one more
    abbrev pub agrees_after : Action → (Place → Bool) → Place → Bool
    agrees_after (Stores x q) agrees p = agrees p || (same_place q p && s.there p)
    agrees_after a agrees p = agrees p

    abbrev pub fresh_after : Action → (ℕ → Bool) → ℕ → Bool
    fresh_after (Stores x q) fresh p = fresh p && (if same_place q (Slow p) then is_none (s.lives p) else true)
    fresh_after a fresh p = fresh p

    after_is : (a : Action) (agrees : Place → Bool) (fresh : ℕ → Bool) → AllowedPlain large ring s a → after_both a (agreed agrees fresh s) ≡ agreed (agrees_after a agrees) (fresh_after a fresh) s
    after_is Known agrees fresh c = refl
    after_is (Sets r z) agrees fresh c = refl
    after_is (Loads r q) agrees fresh c = refl
    after_is (Stores x q) agrees fresh c = refl
    after_is (RawLoads r home sizes subscripts) agrees fresh c = refl
    after_is (RawStores x home sizes subscripts) agrees fresh c = refl
    after_is (Operates r op bits a b) agrees fresh c = refl
    after_is (Converts r kind from to x) agrees fresh c = refl
    after_is (Allocates n element sizes) agrees fresh c = absurd c
    after_is (Releases n element sizes) agrees fresh c = absurd c
    after_is (AllocatesTags first count) agrees fresh c = absurd c
    after_is (ReleasesTags first count) agrees fresh c = absurd c
    after_is (Starts t) agrees fresh c = absurd c
    after_is (Waits tag count) agrees fresh c = absurd c
    after_is (Faults k) agrees fresh c = refl
    after_is Returns agrees fresh c = refl

    grows_after : (a : Action) (agrees : Place → Bool) → Sound large ring s → AllowedPlain large ring s a → Grows agrees → Grows (agrees_after a agrees)
    grows_after Known agrees ok c g = g
    grows_after (Sets r z) agrees ok c g = g
    grows_after (Loads r q) agrees ok c g = g
    grows_after (Stores x q) agrees ok c g = record {
      kept = λ p a. ap (λ b. b || (same_place q p && s.there p)) (g.kept p a);
      there = λ p a. there p (or_cases (agrees p) (same_place q p && s.there p) a);
    }
      where
        there : (p : Place) → (agrees p ≡ true) ⊎ ((same_place q p && s.there p) ≡ true) → s.there p ≡ true
        there p (inl a) = g.there p a
        there p (inr e) = (and_parts (same_place q p) (s.there p) e).1
    grows_after (RawLoads r home sizes subscripts) agrees ok c g = g
    grows_after (RawStores x home sizes subscripts) agrees ok c g = g
    grows_after (Operates r op bits a b) agrees ok c g = g
    grows_after (Converts r kind from to x) agrees ok c g = g
    grows_after (Allocates n element sizes) agrees ok c g = absurd c
    grows_after (Releases n element sizes) agrees ok c g = absurd c
    grows_after (AllocatesTags first count) agrees ok c g = absurd c
    grows_after (ReleasesTags first count) agrees ok c g = absurd c
    grows_after (Starts t) agrees ok c g = absurd c
    grows_after (Waits tag count) agrees ok c g = absurd c
    grows_after (Faults k) agrees ok c g = g
    grows_after Returns agrees ok c g = g

    -- which places agree behind them all
    abbrev pub agreed_behind : List Action → (Place → Bool) → Place → Bool
    agreed_behind [] agrees = agrees
    agreed_behind (a ∷ xs) agrees = agreed_behind xs (agrees_after a agrees)

    abbrev pub fresh_behind : List Action → (ℕ → Bool) → ℕ → Bool
    fresh_behind [] fresh = fresh
    fresh_behind (a ∷ xs) fresh = fresh_behind xs (fresh_after a fresh)

    plain_at : (xs : List Action) (agrees : Place → Bool) (fresh : ℕ → Bool) → Sound large ring s → Grows agrees → Each (AllowedPlain large ring s) xs
        → Goes large ring (boths s xs) (agreed agrees fresh s) × (behind (boths s xs) (agreed agrees fresh s) ≡ agreed (agreed_behind xs agrees) (fresh_behind xs fresh) s)
    plain_at [] agrees fresh ok g c = (tt, refl)
    plain_at (a ∷ xs) agrees fresh ok g c =
        let e = after_is a agrees fresh c.0 in
        let more = plain_at xs (agrees_after a agrees) (fresh_after a fresh) ok (grows_after a agrees ok c.0 g) c.1 in (
          (record { within = g.there; alone = ok.alone }, (sym (moved_same a agrees fresh), allowed_at a agrees fresh g c.0), subst (Goes large ring (boths s xs)) (sym e) more.0),
          ap (behind (boths s xs)) e ∙ more.1,
        )

    grows_all : (xs : List Action) (agrees : Place → Bool) → Sound large ring s → Grows agrees → Each (AllowedPlain large ring s) xs → Grows (agreed_behind xs agrees)
    grows_all [] agrees ok g c = g
    grows_all (a ∷ xs) agrees ok g c = grows_all xs (agrees_after a agrees) ok (grows_after a agrees ok c.0 g) c.1

    -- the stage behind them, where all that agreed still does
    pub plain_sound : (xs : List Action) → Sound large ring s → Each (AllowedPlain large ring s) xs → Sound large ring (agreed (agreed_behind xs s.agrees) (fresh_behind xs s.fresh) s)
    plain_sound xs ok c =
        let g = grows_all xs s.agrees ok (record { kept = λ q a. a; there = ok.within }) c in
        record { within = g.there; alone = ok.alone }

    pub plain_kept : (xs : List Action) → Sound large ring s → Each (AllowedPlain large ring s) xs → (q : Place) → s.agrees q ≡ true → agreed_behind xs s.agrees q ≡ true
    plain_kept xs ok c q a = (grows_all xs s.agrees ok (record { kept = λ q a. a; there = ok.within }) c).kept q a

    pub plain_go : (xs : List Action) → Sound large ring s → Each (AllowedPlain large ring s) xs
        → Goes large ring (boths s xs) s × (behind (boths s xs) s ≡ agreed (agreed_behind xs s.agrees) (fresh_behind xs s.fresh) s)
    plain_go xs ok c = plain_at xs s.agrees s.fresh ok (record { kept = λ q a. a; there = ok.within }) c
