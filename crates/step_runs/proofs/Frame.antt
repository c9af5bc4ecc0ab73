-- What is allowed stays allowed where more transfers are under way that it avoids.
use Rattle.std.proofs.Common.{◌≡◌, ◌≢◌, ◌⊎◌, inl, inr, ℕ, ◌+◌, List, [], ◌∷◌, ◌++◌, refl, sym, ap, ◌∙◌, subst, Bool, true, false}
use mathlib.Core.Path.{fun_ext}
use Rattle.std.specs.Prelude.{◌&&◌, ◌||◌, nat_eq, nat_lt, nat_le, if◌then◌else◌}
use Rattle.std.proofs.lemmas.Bool.{eqb-true, eq-eqb, and_parts}
use Rattle.bus_model.specs.declared.transfer.Transfer.{Transfer}
use Rattle.direct_meaning.specs.Static.{place_at}
use Rattle.direct_meaning.specs.Action.{Place, Action, Known, Sets, Loads, Stores, RawLoads, RawStores, Operates, Converts, Allocates, Releases, AllocatesTags, ReleasesTags, Starts, Waits, Faults, Returns}
use Rattle.step_runs.specs.Stage.{Stage, place_in, image}
use Rattle.step_runs.specs.Steps.{Step, Both, Alone, Made, Ahead, Joins, Leaves, Late, Brings, Takes, Becomes, with_out, less_out, next, behind, load_meets, store_meets, tag_meets, half_meets, race_meets, Clear, Sound, MayLoad, MayStore, CanStart, AllowedBoth, AllowedMade, Allowed, AvoidsStart, AvoidsBoth, AvoidsMade, Avoids, AvoidsAll, Goes}
use Rattle.step_runs.specs.Frame.{either_out, with_more}

pub or_cases : (a b : Bool) → (a || b) ≡ true → (a ≡ true) ⊎ (b ≡ true)
or_cases true b h = inl refl
or_cases false b h = inr h

module _ (large : ℕ) (ring : ℕ → ℕ → Transfer) (more : ℕ → ℕ → Bool) where
  module _ (s : Stage) where
    clear_more : (test : Transfer → Bool) → ((i j : ℕ) → more i j ≡ true → test (ring i j) ≡ false) → Clear large ring s test → Clear large ring (with_more more s) test
    clear_more test avoids c = record { own = λ i j o. own i j (or_cases (s.out i j) (more i j) o); moved = c.moved }
      where
        own : (i j : ℕ) → (s.out i j ≡ true) ⊎ (more i j ≡ true) → test (ring i j) ≡ false
        own i j (inl o) = c.own i j o
        own i j (inr m) = avoids i j m

    load_more : (q : Place) → ((i j : ℕ) → more i j ≡ true → load_meets (place_in s q) (ring i j) ≡ false) → MayLoad large ring s q → MayLoad large ring (with_more more s) q
    load_more q avoids (inl e) = inl e
    load_more q avoids (inr c) = inr (record { same = c.same; clear = clear_more (load_meets (place_in s q)) avoids c.clear })

    store_more : (q : Place) → ((i j : ℕ) → more i j ≡ true → store_meets (place_in s q) (ring i j) ≡ false) → MayStore large ring s q → MayStore large ring (with_more more s) q
    store_more q avoids (inl e) = inl e
    store_more q avoids (inr c) = inr (record { there = c.there; clear = clear_more (store_meets (place_in s q)) avoids c.clear })

    start_more : (u : Transfer) → ((i j : ℕ) → more i j ≡ true → AvoidsStart large ring u (ring i j)) → CanStart large ring s u → CanStart large ring (with_more more s) u
    start_more u avoids c = record {
      tag = clear_more (tag_meets u) (λ i j m. (avoids i j m).tag) c.tag;
      half = clear_more (half_meets u) (λ i j m. (avoids i j m).half) c.half;
      race = clear_more (race_meets u) (λ i j m. (avoids i j m).race) c.race;
    }

    either : {P : Type 0} (i j : ℕ) → (s.out i j || more i j) ≡ true → (s.out i j ≡ true → P) → (more i j ≡ true → P) → P
    either {P = P} i j o f g = by (or_cases (s.out i j) (more i j) o)
      where
        by : (s.out i j ≡ true) ⊎ (more i j ≡ true) → P
        by (inl x) = f x
        by (inr x) = g x

    both_more : (a : Action) → ((i j : ℕ) → more i j ≡ true → AvoidsBoth large ring a s (ring i j)) → AllowedBoth large ring a s → AllowedBoth large ring a (with_more more s)
    both_more Known v c = tt
    both_more (Sets r z) v c = tt
    both_more (Loads r q) v c = load_more q v c
    both_more (Stores x q) v c = store_more q v c
    both_more (RawLoads r home sizes subscripts) v c = λ zs. ((c zs).0, load_more (place_at home sizes zs) (λ i j m. v i j m zs) (c zs).1)
    both_more (RawStores x home sizes subscripts) v c = λ zs. ((c zs).0, store_more (place_at home sizes zs) (λ i j m. v i j m zs) (c zs).1, (c zs).2)
    both_more (Operates r op bits a b) v c = tt
    both_more (Converts r kind from to x) v c = tt
    both_more (Allocates n element sizes) v c = (c.0, c.1, c.2, c.3, λ i j o inc. either i j o (λ x. c.4 i j x inc) (v i j))
    both_more (Releases n element sizes) v c = clear_more (λ o. nat_eq o.fast (s.fast n)) v c
    both_more (AllocatesTags first count) v c = tt
    both_more (ReleasesTags first count) v c = clear_more (λ o. nat_le (s.tag first) o.tag && nat_lt o.tag (s.tag first + count)) v c
    both_more (Starts t) v c = (
      record {
        some = c.0.some;
        wide = c.0.wide;
        some' = c.0.some';
        wide' = c.0.wide';
        way = c.0.way;
        count = c.0.count;
        same = c.0.same;
        there = c.0.there;
        sources = c.0.sources;
        targets = c.0.targets;
      },
      start_more (image s t) v c.1,
    )
    both_more (Waits tag count) v c = record { own = λ i j o. either i j o (c.own i j) (v i j); others = c.others }
    both_more (Faults k) v c = tt
    both_more Returns v c = tt

    made_more : (a : Action) → ((i j : ℕ) → more i j ≡ true → AvoidsMade large ring a (ring i j)) → AllowedMade large ring a s → AllowedMade large ring a (with_more more s)
    made_more Known v c = tt
    made_more (Sets r z) v c = c
    made_more (Loads r q) v c = c
    made_more (Stores x q) v c = c
    made_more (RawLoads r home sizes subscripts) v c = c
    made_more (RawStores x home sizes subscripts) v c = c
    made_more (Operates r op bits a b) v c = c
    made_more (Converts r kind from to x) v c = c
    made_more (Allocates n element sizes) v c = (c.0, c.1, c.2, λ i j o inc. either i j o (λ x. c.3 i j x inc) (v i j))
    made_more (Releases n element sizes) v c = clear_more (λ o. nat_eq o.fast n) v c
    made_more (AllocatesTags first count) v c = tt
    made_more (ReleasesTags first count) v c = clear_more (λ o. nat_le first o.tag && nat_lt o.tag (first + count)) v c
    made_more (Starts t) v c = c
    made_more (Waits tag count) v c = c
    made_more (Faults k) v c = c
    made_more Returns v c = c

    -- a transfer that is avoided by its own start isn't under way
    not_itself : (u : Transfer) → tag_meets u u ≡ false → ⊥
    not_itself u h = let k : false ≡ true = sym h ∙ eq-eqb u.tag u.tag refl in cc

    not_more : (i j : ℕ) → (more i j ≡ true → ⊥) → more i j ≡ false
    not_more i j h = by (more i j) refl
      where
        by : (b : Bool) → more i j ≡ b → more i j ≡ false
        by true e = absurd (h e)
        by false e = e

    free_more : (i j : ℕ) → s.out i j ≡ false → more i j ≡ false → (s.out i j || more i j) ≡ false
    free_more i j a b = ap (λ x. x || more i j) a ∙ b

    tags_more : (i j : ℕ) → ((a b : ℕ) → s.out a b ≡ true → (ring a b).tag ≡ (ring i j).tag → (a ≡ i) × (b ≡ j))
        → ((a b : ℕ) → more a b ≡ true → (ring a b).tag ≢ (ring i j).tag)
        → (a b : ℕ) → (s.out a b || more a b) ≡ true → (ring a b).tag ≡ (ring i j).tag → (a ≡ i) × (b ≡ j)
    tags_more i j c v a b o e = either a b o (λ x. c a b x e) (λ x. absurd (v a b x e))

    step_more : (x : Step) → ((i j : ℕ) → more i j ≡ true → Avoids large ring x s (ring i j)) → Allowed large ring x s → Allowed large ring x (with_more more s)
    step_more (Both a b) v c = (c.0, both_more a v c.1)
    step_more (Alone a) v c = alone a c
      where
        alone : (a : Action) → Allowed large ring (Alone a) s → Allowed large ring (Alone a) (with_more more s)
        alone Known c = tt
        alone (Sets r z) c = c
        alone (Loads r q) c = c
        alone (Stores x q) c = c
        alone (RawLoads r home sizes subscripts) c = c
        alone (RawStores x home sizes subscripts) c = c
        alone (Operates r op bits a b) c = c
        alone (Converts r kind from to x) c = c
        alone (Allocates n element sizes) c = c
        alone (Releases n element sizes) c = tt
        alone (AllocatesTags first count) c = tt
        alone (ReleasesTags first count) c = tt
        alone (Starts t) c = c
        alone (Waits tag count) c = c
        alone (Faults k) c = c
        alone Returns c = c
    step_more (Made a) v c = made_more a v c
    step_more (Ahead i j) v c = record {
      out = free_more i j c.out (not_more i j (λ m. not_itself (ring i j) (v i j m).tag));
      incoming = c.incoming;
      start = start_more (ring i j) v c.start;
      made = c.made;
      apart = c.apart;
    }
    step_more (Joins i j t) v c = record {
      out = ap (λ x. x || more i j) c.out;
      incoming = c.incoming;
      incoming' = c.incoming';
      count = c.count;
      slow = c.slow;
      lives = c.lives;
      same = c.same;
      there = c.there;
      targets = c.targets;
      tags = tags_more i j c.tags v;
      others = c.others;
    }
    step_more (Leaves i j t) v c = record {
      out = free_more i j c.out (not_more i j (λ m. not_itself (ring i j) (v i j m).tag));
      outgoing = c.outgoing;
      outgoing' = c.outgoing';
      copy = record {
        some = c.copy.some;
        wide = c.copy.wide;
        some' = c.copy.some';
        wide' = c.copy.wide';
        way = c.copy.way;
        count = c.copy.count;
        same = c.copy.same;
        there = c.copy.there;
        sources = c.copy.sources;
        targets = c.copy.targets;
      };
      start = start_more (ring i j) v c.start;
    }
    step_more (Late i j) v c = record { out = ap (λ x. x || more i j) c.out; outgoing = c.outgoing; tags = tags_more i j c.tags v; others = c.others }
    step_more (Brings t lives) v c = record {
      incoming = c.incoming;
      start = start_more t v c.start;
      made = c.made;
      apart = c.apart;
      before = c.before;
      behind = c.behind;
      others = c.others;
    }
    step_more (Takes t) v c = record {
      outgoing = c.outgoing;
      some = c.some;
      wide = c.wide;
      start = start_more t v c.start;
      made = c.made;
      lives = c.lives;
      agrees = c.agrees;
    }
    step_more (Becomes s') v c = record { same = c.same; there = c.there; fresh = c.fresh; made = c.made; images = c.images }

    -- and it leads to what it led to, with these
    out_more : (i j : ℕ) → with_out i j (either_out more s.out) ≡ either_out more (with_out i j s.out)
    out_more i j = fun_ext (λ a. fun_ext (λ b. by (nat_eq i a && nat_eq j b) (s.out a b) (more a b)))
      where
        by : (t o m : Bool) → (if t then true else (o || m)) ≡ ((if t then true else o) || m)
        by true o m = refl
        by false o m = refl

    less_more : (i j : ℕ) → (more i j ≡ true → ⊥) → less_out i j (either_out more s.out) ≡ either_out more (less_out i j s.out)
    less_more i j none = fun_ext (λ a. fun_ext (λ b. by a b (nat_eq i a && nat_eq j b) refl))
      where
        by : (a b : ℕ) (t : Bool) → (nat_eq i a && nat_eq j b) ≡ t → less_out i j (either_out more s.out) a b ≡ either_out more (less_out i j s.out) a b
        by a b true t =
            let two = and_parts (nat_eq i a) (nat_eq j b) t in
            let m : more a b ≡ false = ap (λ k. more k b) (sym (eqb-true i a two.0)) ∙ ap (more i) (sym (eqb-true j b two.1)) ∙ not_more i j none in
            ap (λ t. if t then false else (s.out a b || more a b)) t ∙ sym m ∙ ap (λ t. (if t then false else s.out a b) || more a b) (sym t)
        by a b false t =
            ap (λ t. if t then false else (s.out a b || more a b)) t ∙ ap (λ t. (if t then false else s.out a b) || more a b) (sym t)

    both_next : (a b : Action) → next (Both a b) (with_more more s) ≡ with_more more (next (Both a b) s)
    both_next Known b = refl
    both_next (Sets r z) b = refl
    both_next (Loads r q) b = refl
    both_next (Stores x q) b = refl
    both_next (RawLoads r home sizes subscripts) b = refl
    both_next (RawStores x home sizes subscripts) b = refl
    both_next (Operates r op bits a c) b = refl
    both_next (Converts r kind from to x) b = refl
    both_next (Allocates n element sizes) b = refl
    both_next (Releases n element sizes) b = refl
    both_next (AllocatesTags first count) b = refl
    both_next (ReleasesTags first count) b = refl
    both_next (Starts t) b = refl
    both_next (Waits tag count) b = refl
    both_next (Faults k) b = refl
    both_next Returns b = refl

    alone_next : (a : Action) → next (Alone a) (with_more more s) ≡ with_more more (next (Alone a) s)
    alone_next Known = refl
    alone_next (Sets r z) = refl
    alone_next (Loads r q) = refl
    alone_next (Stores x q) = refl
    alone_next (RawLoads r home sizes subscripts) = refl
    alone_next (RawStores x home sizes subscripts) = refl
    alone_next (Operates r op bits a c) = refl
    alone_next (Converts r kind from to x) = refl
    alone_next (Allocates n element sizes) = refl
    alone_next (Releases n element sizes) = refl
    alone_next (AllocatesTags first count) = refl
    alone_next (ReleasesTags first count) = refl
    alone_next (Starts t) = refl
    alone_next (Waits tag count) = refl
    alone_next (Faults k) = refl
    alone_next Returns = refl

    made_next : (a : Action) → next (Made a) (with_more more s) ≡ with_more more (next (Made a) s)
    made_next Known = refl
    made_next (Sets r z) = refl
    made_next (Loads r q) = refl
    made_next (Stores x q) = refl
    made_next (RawLoads r home sizes subscripts) = refl
    made_next (RawStores x home sizes subscripts) = refl
    made_next (Operates r op bits a c) = refl
    made_next (Converts r kind from to x) = refl
    made_next (Allocates n element sizes) = refl
    made_next (Releases n element sizes) = refl
    made_next (AllocatesTags first count) = refl
    made_next (ReleasesTags first count) = refl
    made_next (Starts t) = refl
    made_next (Waits tag count) = refl
    made_next (Faults k) = refl
    made_next Returns = refl

    next_more : (x : Step) → ((i j : ℕ) → more i j ≡ true → Avoids large ring x s (ring i j)) → next x (with_more more s) ≡ with_more more (next x s)
    next_more (Both a b) v = both_next a b
    next_more (Alone a) v = alone_next a
    next_more (Made a) v = made_next a
    next_more (Ahead i j) v = ap (λ (o : ℕ → ℕ → Bool). record s { out = o }) (out_more i j)
    next_more (Joins i j t) v = ap (λ (o : ℕ → ℕ → Bool). record (next (Joins i j t) s) { out = o }) (less_more i j (λ m. v i j m refl))
    next_more (Leaves i j t) v = ap (λ (o : ℕ → ℕ → Bool). record s { out = o }) (out_more i j)
    next_more (Late i j) v = ap (λ (o : ℕ → ℕ → Bool). record s { out = o }) (less_more i j (λ m. v i j m refl))
    next_more (Brings t lives) v = refl
    next_more (Takes t) v = refl
    next_more (Becomes s') v = refl

    sound_more : Sound large ring s → Sound large ring (with_more more s)
    sound_more c = record { within = c.within; alone = c.alone }

  -- a list of steps
  pub framed : (xs : List Step) (s : Stage) → ((i j : ℕ) → more i j ≡ true → AvoidsAll large ring xs s (ring i j)) → Goes large ring xs s
      → Goes large ring xs (with_more more s) × (behind xs (with_more more s) ≡ with_more more (behind xs s))
  framed [] s v c = (tt, refl)
  framed (x ∷ xs) s v c =
      let e = next_more s x (λ i j m. (v i j m).0) in
      let rest = framed xs (next x s) (λ i j m. (v i j m).1) c.2 in
      ((sound_more s c.0, step_more s x (λ i j m. (v i j m).0) c.1, subst (Goes large ring xs) (sym e) rest.0), ap (behind xs) e ∙ rest.1)

-- one list of steps behind another
pub goes-append : (large : ℕ) (ring : ℕ → ℕ → Transfer) (xs ys : List Step) (s : Stage) → Goes large ring xs s → Goes large ring ys (behind xs s) → Goes large ring (xs ++ ys) s
goes-append large ring [] ys s a b = b
goes-append large ring (x ∷ xs) ys s a b = (a.0, a.1, goes-append large ring xs ys (next x s) a.2 b)

pub behind-append : (xs ys : List Step) (s : Stage) → behind (xs ++ ys) s ≡ behind ys (behind xs s)
behind-append [] ys s = refl
behind-append (x ∷ xs) ys s = behind-append xs ys (next x s)

-- from one stage to another
abbrev pub Leads : ℕ → (ℕ → ℕ → Transfer) → List Step → Stage → Stage → Type 0
Leads large ring xs s t = Goes large ring xs s × (behind xs s ≡ t)

pub leads-append : (large : ℕ) (ring : ℕ → ℕ → Transfer) (xs ys : List Step) (s t u : Stage) → Leads large ring xs s t → Leads large ring ys t u → Leads large ring (xs ++ ys) s u
leads-append large ring xs ys s t u a b =
    (goes-append large ring xs ys s a.0 (subst (Goes large ring ys) (sym a.1) b.0), behind-append xs ys s ∙ ap (behind ys) a.1 ∙ b.1)
