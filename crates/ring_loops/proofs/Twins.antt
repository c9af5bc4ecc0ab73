-- The epilogue's body: twins for what the main loop's body defines.
use Rattle.std.proofs.Common.{◌≡◌, List, [], ◌∷◌, ◌++◌, refl, sym, ap, ◌∙◌, subst, Bool, true, false}
use Rattle.std.specs.Prelude.{not, ◌&&◌, ◌||◌, Option, Some, None, is_some, if◌then◌else◌}
use Rattle.std.specs.List.{list_any}
use Rattle.std.proofs.lemmas.Bool.{or_parts}
use Rattle.std.proofs.lemmas.List.{append_cancel_right}
use Rattle.affine_ast.specs.declared.name.Name.{Name}
use Rattle.affine_ast.specs.Names.{same_name}
use Rattle.affine_ast.proofs.Names.{same_name-eq, same_name-is, same_name-refl, same_name-sym}
use Rattle.affine_ast.specs.Nest.{Nest}
use Rattle.affine_ast.specs.Rules.{is_in, is_new, deallocs}
use Rattle.affine_ast.specs.Scope.{Binding, Scope}
use Rattle.numbered_names.specs.Numbers.{defined, made_of}
use Rattle.placement_texts.specs.Own.{OwnNames}
use Rattle.placement_texts.specs.Renamed.{KeepsApart}
use Rattle.ring_plans.specs.Rings.{twin, twin_of_some, twin_text}
use Rattle.ring_validity.specs.Wells.{WellFormed}
use Rattle.ring_loops.specs.Law.{TwinsAreNew, ReleasedAreKnown, EpilogueStaysWell}
use Rattle.ring_loops.proofs.Owned.{AllNew, defines_new_names, listed_new, well_owns}
use Rattle.ring_loops.proofs.Renamed.{renamed_well, all_deallocs}

pub twin_eq : (a b : Name) → twin a ≡ twin b → a ≡ b
twin_eq a b h =
    let text = append_cancel_right a.text b.text (50 ∷ []) (ap (λ (n : Name). n.text) h) in
    let made = ap (λ (n : Name). n.made) h in
    λ i. record { text = text i; made = made i }

-- names that are equal where these two are
pub same_as : (a b x y : Name) → (a ≡ b → x ≡ y) → (x ≡ y → a ≡ b) → same_name x y ≡ same_name a b
same_as a b x y f g = by (same_name a b) (same_name x y) refl refl
  where
    by : (c k : Bool) → same_name a b ≡ c → same_name x y ≡ k → same_name x y ≡ same_name a b
    by true k h j = same_name-is x y (f (same_name-eq a b h)) ∙ sym h
    by false false h j = j ∙ sym h
    by false true h j = let z : false ≡ true = sym h ∙ same_name-is a b (g (same_name-eq x y j)) in absurd (cc)

pub new_is_out : (s : Scope) (n : Name) → is_new s n ≡ true → is_in s n ≡ false
new_is_out s n h = by (is_in s n) h
  where
    by : (c : Bool) → not c ≡ true → c ≡ false
    by false k = refl
    by true k = absurd (cc)

pub out_is_none : (s : Scope) (n : Name) → is_in s n ≡ false → s n ≡ None
unfolding is_in
out_is_none s n h = by (s n) h
  where
    by : (o : Option Binding) → is_some o ≡ false → o ≡ None
    by None k = refl
    by (Some b) k = absurd (cc)

-- a made name of a list is in it
made_listed : (m : Name) (ns : List Name) → list_any (same_name m) (made_of ns) ≡ true → list_any (same_name m) ns ≡ true
made_listed m [] h = h
made_listed m (n ∷ ns) h = by n.made (made_listed m ns) h
  where
    or_second : (x y : Bool) → y ≡ true → (x || y) ≡ true
    or_second true y k = refl
    or_second false y k = k

    two : (c x y : Bool) → (c || x) ≡ true → (x ≡ true → y ≡ true) → (c || y) ≡ true
    two true x y k f = refl
    two false x y k f = f k

    by : (c : Bool) → (list_any (same_name m) (made_of ns) ≡ true → list_any (same_name m) ns ≡ true) → list_any (same_name m) (if c then n ∷ made_of ns else made_of ns) ≡ true → (same_name m n || list_any (same_name m) ns) ≡ true
    by true f k = two (same_name m n) (list_any (same_name m) (made_of ns)) (list_any (same_name m) ns) k f
    by false f k = or_second (same_name m n) (list_any (same_name m) ns) (f k)

module _ (n : Nest) (s : Scope) (d : Name → Bool) (new : TwinsAreNew n s) (released : ReleasedAreKnown s d) (w : WellFormed n s d) where
  abbrev names : List Name
  names = made_of (defined n)

  abbrev has : Name → Bool
  has m = list_any (same_name m) names

  -- the names in scope, and those that are defined
  abbrev own : Name → Bool
  own m = is_in s m || list_any (same_name m) (defined n)

  abbrev f : Name → Name
  f m = twin_of_some names m

  own_scope : (m : Name) → is_in s m ≡ true → own m ≡ true
  own_scope m h = ap (λ c. c || list_any (same_name m) (defined n)) h

  or_second : (x y : Bool) → y ≡ true → (x || y) ≡ true
  or_second true y h = refl
  or_second false y h = h

  listed_own : (before ns : List Name) → ((m : Name) → list_any (same_name m) ns ≡ true → list_any (same_name m) (defined n) ≡ true) → OwnNames own ns
  listed_own before [] h = tt
  listed_own before (m ∷ ms) h = (
    or_second (is_in s m) (list_any (same_name m) (defined n)) (h m (ap (λ c. c || list_any (same_name m) ms) (same_name-refl m))),
    listed_own before ms (λ x k. h x (or_second (same_name x m) (list_any (same_name x) ms) k)),
  )

  own_names : OwnNames own (defined n)
  own_names = listed_own [] (defined n) (λ m h. h)

  -- a twin is none of them
  no_twin : (m : Name) → has m ≡ true → own (twin m) ≡ false
  no_twin m h = λ i. new_is_out s (twin m) (new.scope m h) i || new.text m h i

  to_twin : (m : Name) → has m ≡ true → f m ≡ twin m
  to_twin m h = ap (λ c. if c then twin m else m) h

  to_itself : (m : Name) → has m ≡ false → f m ≡ m
  to_itself m h = ap (λ c. if c then twin m else m) h

  -- names with twins and without are two
  differ : (A : Type 0) (a b : Name) → has a ≡ true → has b ≡ false → a ≡ b → A
  differ A a b h k e = let z : true ≡ false = sym h ∙ ap has e ∙ k in absurd (cc)

  no_own : (A : Type 0) (a b : Name) → has a ≡ true → own b ≡ true → twin a ≡ b → A
  no_own A a b h o e = let z : true ≡ false = sym o ∙ ap own (sym e) ∙ no_twin a h in absurd (cc)

  apart : KeepsApart f own
  apart a b o p = by (has a) (has b) refl refl
    where
      by : (c k : Bool) → has a ≡ c → has b ≡ k → same_name (f a) (f b) ≡ same_name a b
      by true true h j = (λ i. same_name (to_twin a h i) (to_twin b j i)) ∙ same_as a b (twin a) (twin b) (λ e. ap twin e) (twin_eq a b)
      by true false h j = (λ i. same_name (to_twin a h i) (to_itself b j i)) ∙ same_as a b (twin a) b (λ e. differ (twin a ≡ b) a b h j e) (λ e. no_own (a ≡ b) a b h p e)
      by false true h j = (λ i. same_name (to_itself a h i) (to_twin b j i)) ∙ same_as a b a (twin b) (λ e. differ (a ≡ twin b) b a j h (sym e)) (λ e. no_own (a ≡ b) b a j o (sym e))
      by false false h j = λ i. same_name (to_itself a h i) (to_itself b j i)

  -- what is defined is new, and so is its twin
  old_is_new : (m : Name) → has m ≡ true → is_new s m ≡ true
  old_is_new m h = listed_new s (defined n) m (defines_new_names n s d w) (made_listed m (defined n) h)

  same : (m : Name) → own m ≡ true → s (f m) ≡ s m
  same m o = by (has m) refl
    where
      by : (c : Bool) → has m ≡ c → s (f m) ≡ s m
      by false h = ap s (to_itself m h)
      by true h = ap s (to_twin m h) ∙ out_is_none s (twin m) (new_is_out s (twin m) (new.scope m h)) ∙ sym (out_is_none s m (new_is_out s m (old_is_new m h)))

  freed : (m : Name) → own m ≡ true → d (f m) ≡ d m
  freed m o = by (has m) refl
    where
      by : (c : Bool) → has m ≡ c → d (f m) ≡ d m
      by false h = ap d (to_itself m h)
      by true h = ap d (to_twin m h) ∙ released (twin m) (new_is_out s (twin m) (new.scope m h)) ∙ sym (released m (new_is_out s m (old_is_new m h)))

  -- what is in scope is released there as often
  pub twin_deallocs : (r : Name) → is_in s r ≡ true → deallocs r (twin_text n) ≡ deallocs r n
  twin_deallocs r h = by (has r) refl
    where
      by : (c : Bool) → has r ≡ c → deallocs r (twin_text n) ≡ deallocs r n
      by false e = ap (λ m. deallocs m (twin_text n)) (sym (to_itself r e)) ∙ all_deallocs f own apart r n (own_scope r h) (well_owns own n s d own_scope own_names w)
      by true e = let z : true ≡ false = sym h ∙ new_is_out s r (old_is_new r e) in absurd (cc)

pub epilogue_well : EpilogueStaysWell
epilogue_well n s d new released w =
    renamed_well (twin_of_some (made_of (defined n))) (own n s d new released w) n s s d d (apart n s d new released w) (own_scope n s d new released w) (own_names n s d new released w) (same n s d new released w) (freed n s d new released w) w
