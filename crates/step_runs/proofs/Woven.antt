-- The second run's outstanding transfers: those of the first run, and its own.
use Rattle.std.proofs.Common.{◌≡◌, ◌≢◌, inl, inr, ℕ, List, [], ◌∷◌, ◌++◌, refl, sym, ap, ◌∙◌, subst, Bool, true, false}
use Rattle.std.specs.Prelude.{◌&&◌, ◌||◌, Some, None, nat_eq, if◌then◌else◌}
use Rattle.std.specs.List.{list_any}
use Rattle.std.proofs.lemmas.Bool.{eqb-true, eqb-false, eq-eqb, ne_eqb, and_parts}
use Rattle.bus_model.specs.declared.transfer.Transfer.{Transfer}
use Rattle.prompt_semantics.specs.Device.{is_started, record_of, without}
use Rattle.step_runs.specs.Steps.{Each, with_out, less_out}
use Rattle.step_runs.specs.Woven as woven

module _ (ring : ℕ → ℕ → Transfer) (image : Transfer → Transfer) where
  abbrev Woven : List Transfer → (ℕ → ℕ → Bool) → List Transfer → Type 0
  Woven = woven.Woven ring image

  pub less_was : (i j a b : ℕ) (out : ℕ → ℕ → Bool) → less_out i j out a b ≡ true → out a b ≡ true
  less_was i j a b out h = by (nat_eq i a && nat_eq j b) refl
    where
      by : (t : Bool) → (nat_eq i a && nat_eq j b) ≡ t → out a b ≡ true
      by true t = let k : false ≡ true = sym (ap (λ t. if t then false else out a b) t) ∙ h in cc
      by false t = sym (ap (λ t. if t then false else out a b) t) ∙ h

  -- what none of them meets
  pub none_meets : (test : Transfer → Bool) (first : List Transfer) (out : ℕ → ℕ → Bool) (ts : List Transfer) → Woven first out ts
      → Each (λ f. test (image f) ≡ false) first → ((i j : ℕ) → out i j ≡ true → test (ring i j) ≡ false) → list_any test ts ≡ false
  none_meets test first out [] w e o = refl
  none_meets test first out (t ∷ ts) (inl (f, rest, is, at, w)) e o =
      let two = subst (Each (λ f. test (image f) ≡ false)) is e in
      let a : test t ≡ false = ap test at ∙ two.0 in
      ap (λ b. b || list_any test ts) a ∙ none_meets test rest out ts w two.1 o
  none_meets test first out (t ∷ ts) (inr (i, j, is, at, w)) e o =
      let a : test t ≡ false = ap test at ∙ o i j is in
      ap (λ b. b || list_any test ts) a ∙ none_meets test first (less_out i j out) ts w e (λ a b h. o a b (less_was i j a b out h))

  -- only the values of `out` count
  pub woven_same : (first : List Transfer) (out new : ℕ → ℕ → Bool) (ts : List Transfer) → ((i j : ℕ) → out i j ≡ new i j) → Woven first out ts → Woven first new ts
  woven_same first out new [] e (none, all) = (none, λ i j. sym (e i j) ∙ all i j)
  woven_same first out new (t ∷ ts) e (inl (f, rest, is, at, w)) = inl (f, rest, is, at, woven_same rest out new ts e w)
  woven_same first out new (t ∷ ts) e (inr (i, j, is, at, w)) =
      inr (i, j, sym (e i j) ∙ is, at, woven_same first (less_out i j out) (less_out i j new) ts (λ a b. ap (λ x. if nat_eq i a && nat_eq j b then false else x) (e a b)) w)

  -- one more of the first run
  pub woven_first : (f : Transfer) (first : List Transfer) (out : ℕ → ℕ → Bool) (ts : List Transfer) → Woven first out ts → Woven (first ++ f ∷ []) out (ts ++ image f ∷ [])
  woven_first f first out [] (none, all) = inl (f, [], ap (λ l. l ++ f ∷ []) none, refl, (refl, all))
  woven_first f first out (t ∷ ts) (inl (g, rest, is, at, w)) = inl (g, rest ++ f ∷ [], ap (λ l. l ++ f ∷ []) is, at, woven_first f rest out ts w)
  woven_first f first out (t ∷ ts) (inr (i, j, is, at, w)) = inr (i, j, is, at, woven_first f first (less_out i j out) ts w)

  itself : (i j : ℕ) → (nat_eq i i && nat_eq j j) ≡ true
  itself i j =
      let a : nat_eq i i ≡ true = eq-eqb i i refl in
      let b : nat_eq j j ≡ true = eq-eqb j j refl in
      λ k. a k && b k

  -- one more of its own
  pub woven_own : (i j : ℕ) (first : List Transfer) (out : ℕ → ℕ → Bool) (ts : List Transfer) → out i j ≡ false → Woven first out ts → Woven first (with_out i j out) (ts ++ ring i j ∷ [])
  woven_own i j first out [] free (none, all) =
      inr (i, j, ap (λ t. if t then true else out i j) (itself i j), refl, (none, λ a b. back a b (nat_eq i a && nat_eq j b) refl))
    where
      back : (a b : ℕ) (t : Bool) → (nat_eq i a && nat_eq j b) ≡ t → less_out i j (with_out i j out) a b ≡ false
      back a b true t = ap (λ t. if t then false else with_out i j out a b) t
      back a b false t = ap (λ t. if t then false else with_out i j out a b) t ∙ ap (λ t. if t then true else out a b) t ∙ all a b
  woven_own i j first out (t ∷ ts) free (inl (f, rest, is, at, w)) = inl (f, rest, is, at, woven_own i j rest out ts free w)
  woven_own i j first out (t ∷ ts) free (inr (a, b, is, at, w)) =
      inr (
        a,
        b,
        still (nat_eq i a && nat_eq j b) refl,
        at,
        woven_same first (with_out i j (less_out a b out)) (less_out a b (with_out i j out)) (ts ++ ring i j ∷ []) (λ c d. swapped c d (nat_eq i c && nat_eq j d) (nat_eq a c && nat_eq b d) refl refl)
            (woven_own i j first (less_out a b out) ts (free' (nat_eq a i && nat_eq b j) refl) w),
      )
    where
      still : (t : Bool) → (nat_eq i a && nat_eq j b) ≡ t → with_out i j out a b ≡ true
      still true t = ap (λ t. if t then true else out a b) t
      still false t = ap (λ t. if t then true else out a b) t ∙ is

      free' : (t : Bool) → (nat_eq a i && nat_eq b j) ≡ t → less_out a b out i j ≡ false
      free' true t = ap (λ t. if t then false else out i j) t
      free' false t = ap (λ t. if t then false else out i j) t ∙ free

      swapped : (c d : ℕ) (s t : Bool) → (nat_eq i c && nat_eq j d) ≡ s → (nat_eq a c && nat_eq b d) ≡ t → with_out i j (less_out a b out) c d ≡ less_out a b (with_out i j out) c d
      swapped c d true true s t =
          let p = and_parts (nat_eq i c) (nat_eq j d) s in
          let q = and_parts (nat_eq a c) (nat_eq b d) t in
          let e : i ≡ a = eqb-true i c p.0 ∙ sym (eqb-true a c q.0) in
          let f : j ≡ b = eqb-true j d p.1 ∙ sym (eqb-true b d q.1) in
          let x : false ≡ true = sym free ∙ (λ k. out (e k) (f k)) ∙ is in cc
      swapped c d true false s t = rw (s, t) refl
      swapped c d false true s t = rw (s, t) refl
      swapped c d false false s t = rw (s, t) refl

  -- the second run waits for the image of one of the first run's
  pub woven_wait : (tag tag' : ℕ) (f : Transfer) (first : List Transfer) (out : ℕ → ℕ → Bool) (ts : List Transfer) → Woven first out ts
      → record_of tag first ≡ Some f
      → Each (λ (g : Transfer). nat_eq g.tag tag ≡ nat_eq (image g).tag tag') first
      → ((i j : ℕ) → out i j ≡ true → (ring i j).tag ≢ tag')
      → (record_of tag' ts ≡ Some (image f)) × Woven (without tag first) out (without tag' ts)
  woven_wait tag tag' f first out [] (none, all) found tags own = let k : None ≡ Some f = sym (ap (record_of tag) none) ∙ found in cc
  woven_wait tag tag' f first out (t ∷ ts) (inl (g, rest, is, at, w)) found tags own =
      let two = subst (Each (λ (g : Transfer). nat_eq g.tag tag ≡ nat_eq (image g).tag tag')) is tags in
      let there : nat_eq t.tag tag' ≡ nat_eq g.tag tag = ap (λ (t : Transfer). nat_eq t.tag tag') at ∙ sym two.0 in
      let found' : record_of tag (g ∷ rest) ≡ Some f = sym (ap (record_of tag) is) ∙ found in
      by (nat_eq g.tag tag) refl there found' (λ found. woven_wait tag tag' f rest out ts w found two.1 own)
    where
      by : (b : Bool) → nat_eq g.tag tag ≡ b → nat_eq t.tag tag' ≡ nat_eq g.tag tag → record_of tag (g ∷ rest) ≡ Some f
          → (record_of tag rest ≡ Some f → (record_of tag' ts ≡ Some (image f)) × Woven (without tag rest) out (without tag' ts))
          → (record_of tag' (t ∷ ts) ≡ Some (image f)) × Woven (without tag first) out (without tag' (t ∷ ts))
      by true b there found again =
          let k : Some g ≡ Some f = sym (ap (λ x. if x then Some g else record_of tag rest) b) ∙ found in
          let e : g ≡ f = cc in (
            ap (λ x. if x then Some t else record_of tag' ts) (there ∙ b) ∙ ap Some (at ∙ ap image e),
            subst (λ l. Woven l out (without tag' (t ∷ ts))) (sym (ap (without tag) is ∙ ap (λ x. if x then rest else g ∷ without tag rest) b))
                (subst (Woven rest out) (sym (ap (λ x. if x then ts else t ∷ without tag' ts) (there ∙ b))) w),
          )
      by false b there found again =
          let more = again (sym (ap (λ x. if x then Some g else record_of tag rest) b) ∙ found) in (
            ap (λ x. if x then Some t else record_of tag' ts) (there ∙ b) ∙ more.0,
            subst (λ l. Woven l out (without tag' (t ∷ ts))) (sym (ap (without tag) is ∙ ap (λ x. if x then rest else g ∷ without tag rest) b))
                (subst (Woven (g ∷ without tag rest) out) (sym (ap (λ x. if x then ts else t ∷ without tag' ts) (there ∙ b))) (inl (g, without tag rest, refl, at, more.1))),
          )
  woven_wait tag tag' f first out (t ∷ ts) (inr (i, j, is, at, w)) found tags own =
      let b : nat_eq t.tag tag' ≡ false = ap (λ (t : Transfer). nat_eq t.tag tag') at ∙ ne_eqb (ring i j).tag tag' (own i j is) in
      let more = woven_wait tag tag' f first (less_out i j out) ts w found tags (λ a c h. own a c (less_was i j a c out h)) in (
        ap (λ x. if x then Some t else record_of tag' ts) b ∙ more.0,
        subst (Woven (without tag first) out) (sym (ap (λ x. if x then ts else t ∷ without tag' ts) b)) (inr (i, j, is, at, more.1)),
      )

  -- the second run waits for one of its own
  pub woven_late : (i j : ℕ) (first : List Transfer) (out : ℕ → ℕ → Bool) (ts : List Transfer) → Woven first out ts → out i j ≡ true
      → Each (λ (g : Transfer). (image g).tag ≢ (ring i j).tag) first
      → ((a b : ℕ) → out a b ≡ true → (ring a b).tag ≡ (ring i j).tag → (a ≡ i) × (b ≡ j))
      → (record_of (ring i j).tag ts ≡ Some (ring i j)) × Woven first (less_out i j out) (without (ring i j).tag ts)
  woven_late i j first out [] (none, all) is others tags = let k : false ≡ true = sym (all i j) ∙ is in cc
  woven_late i j first out (t ∷ ts) (inl (g, rest, has, at, w)) is others tags =
      let two = subst (Each (λ (g : Transfer). (image g).tag ≢ (ring i j).tag)) has others in
      let b : nat_eq t.tag (ring i j).tag ≡ false = ap (λ (t : Transfer). nat_eq t.tag (ring i j).tag) at ∙ ne_eqb (image g).tag (ring i j).tag two.0 in
      let more = woven_late i j rest out ts w is two.1 tags in (
        ap (λ x. if x then Some t else record_of (ring i j).tag ts) b ∙ more.0,
        subst (Woven first (less_out i j out)) (sym (ap (λ x. if x then ts else t ∷ without (ring i j).tag ts) b)) (inl (g, rest, has, at, more.1)),
      )
  woven_late i j first out (t ∷ ts) (inr (a, b, has, at, w)) is others tags =
      by (nat_eq t.tag (ring i j).tag) refl (λ still. woven_late i j first (less_out a b out) ts w still others (λ c d h. tags c d (less_was a b c d out h)))
    where
      by : (c : Bool) → nat_eq t.tag (ring i j).tag ≡ c
          → (less_out a b out i j ≡ true → (record_of (ring i j).tag ts ≡ Some (ring i j)) × Woven first (less_out i j (less_out a b out)) (without (ring i j).tag ts))
          → (record_of (ring i j).tag (t ∷ ts) ≡ Some (ring i j)) × Woven first (less_out i j out) (without (ring i j).tag (t ∷ ts))
      by true c again =
          let e : (ring a b).tag ≡ (ring i j).tag = sym (ap (λ (t : Transfer). t.tag) at) ∙ eqb-true t.tag (ring i j).tag c in
          let same = tags a b has e in (
            ap (λ x. if x then Some t else record_of (ring i j).tag ts) c ∙ ap Some at ∙ (λ k. Some (ring (same.0 k) (same.1 k))),
            subst (Woven first (less_out i j out)) (sym (ap (λ x. if x then ts else t ∷ without (ring i j).tag ts) c))
                (subst (λ (o : ℕ → ℕ → Bool). Woven first o ts) (λ k. less_out (same.0 k) (same.1 k) out) w),
          )
      by false c again =
          let ne : (ring a b).tag ≢ (ring i j).tag = λ e. eqb-false t.tag (ring i j).tag c (ap (λ (t : Transfer). t.tag) at ∙ e) in
          let apart : (nat_eq a i && nat_eq b j) ≡ false = differ ne (nat_eq a i && nat_eq b j) refl in
          let apart' : (nat_eq i a && nat_eq j b) ≡ false = differ' ne (nat_eq i a && nat_eq j b) refl in
          let still : less_out a b out i j ≡ true = ap (λ x. if x then false else out i j) apart ∙ is in
          let has' : less_out i j out a b ≡ true = ap (λ x. if x then false else out a b) apart' ∙ has in
          let more = again still in (
            ap (λ x. if x then Some t else record_of (ring i j).tag ts) c ∙ more.0,
            subst (Woven first (less_out i j out)) (sym (ap (λ x. if x then ts else t ∷ without (ring i j).tag ts) c))
                (inr (a, b, has', at, woven_same first (less_out i j (less_out a b out)) (less_out a b (less_out i j out)) (without (ring i j).tag ts) (λ c d. swapped c d (nat_eq i c && nat_eq j d) (nat_eq a c && nat_eq b d) refl refl) more.1)),
          )
        where
          differ : (ring a b).tag ≢ (ring i j).tag → (u : Bool) → (nat_eq a i && nat_eq b j) ≡ u → (nat_eq a i && nat_eq b j) ≡ false
          differ ne true u =
              let p = and_parts (nat_eq a i) (nat_eq b j) u in
              absurd (ne (λ k. (ring (eqb-true a i p.0 k) (eqb-true b j p.1 k)).tag))
          differ ne false u = u

          differ' : (ring a b).tag ≢ (ring i j).tag → (u : Bool) → (nat_eq i a && nat_eq j b) ≡ u → (nat_eq i a && nat_eq j b) ≡ false
          differ' ne true u =
              let p = and_parts (nat_eq i a) (nat_eq j b) u in
              absurd (ne (sym (λ k. (ring (eqb-true i a p.0 k) (eqb-true j b p.1 k)).tag)))
          differ' ne false u = u

          swapped : (c d : ℕ) (s t : Bool) → (nat_eq i c && nat_eq j d) ≡ s → (nat_eq a c && nat_eq b d) ≡ t → less_out i j (less_out a b out) c d ≡ less_out a b (less_out i j out) c d
          swapped c d true true s t = rw (s, t) refl
          swapped c d true false s t = rw (s, t) refl
          swapped c d false true s t = rw (s, t) refl
          swapped c d false false s t = rw (s, t) refl

-- the same under other images
pub woven_seen : (ring : ℕ → ℕ → Transfer) (image new : Transfer → Transfer) (first : List Transfer) (out : ℕ → ℕ → Bool) (ts : List Transfer)
    → Each (λ f. new f ≡ image f) first → woven.Woven ring image first out ts → woven.Woven ring new first out ts
woven_seen ring image new first out [] e w = w
woven_seen ring image new first out (t ∷ ts) e (inl (f, rest, is, at, w)) =
    let two = subst (Each (λ f. new f ≡ image f)) is e in
    inl (f, rest, is, at ∙ sym two.0, woven_seen ring image new rest out ts two.1 w)
woven_seen ring image new first out (t ∷ ts) e (inr (i, j, is, at, w)) = inr (i, j, is, at, woven_seen ring image new first (less_out i j out) ts e w)

-- a transfer that was started last, waited for at once
pub last_record : (t : Transfer) (ts : List Transfer) → is_started ts t.tag ≡ false → (record_of t.tag (ts ++ t ∷ []) ≡ Some t) × (without t.tag (ts ++ t ∷ []) ≡ ts)
last_record t [] h =
    let a : nat_eq t.tag t.tag ≡ true = eq-eqb t.tag t.tag refl in
    (ap (λ x. if x then Some t else None) a, ap (λ x. if x then [] else t ∷ []) a)
last_record t (o ∷ ts) h = by (nat_eq o.tag t.tag) refl (λ h. last_record t ts h)
  where
    by : (b : Bool) → nat_eq o.tag t.tag ≡ b → (is_started ts t.tag ≡ false → (record_of t.tag (ts ++ t ∷ []) ≡ Some t) × (without t.tag (ts ++ t ∷ []) ≡ ts)) → (record_of t.tag (o ∷ ts ++ t ∷ []) ≡ Some t) × (without t.tag (o ∷ ts ++ t ∷ []) ≡ o ∷ ts)
    by true b again = let k : true ≡ false = sym (ap (λ x. x || list_any (λ (u : Transfer). nat_eq u.tag t.tag) ts) b) ∙ h in cc
    by false b again =
        let more = again (sym (ap (λ x. x || list_any (λ (u : Transfer). nat_eq u.tag t.tag) ts) b) ∙ h) in
        (ap (λ x. if x then Some o else record_of t.tag (ts ++ t ∷ [])) b ∙ more.0, ap (λ x. if x then ts ++ t ∷ [] else o ∷ without t.tag (ts ++ t ∷ [])) b ∙ ap (λ l. o ∷ l) more.1)
