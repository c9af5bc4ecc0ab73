-- Names of which none stands twice.
use Rattle.std.proofs.Common.{◌≡◌, ℕ, zero, suc, Bool, true, false, List, [], ◌∷◌, map, Some, slice_get, refl, sym, ap, ◌∙◌}
use Rattle.std.specs.Prelude.{◌||◌}
use Rattle.affine_ast.specs.declared.name.Name.{Name}
use Rattle.affine_ast.specs.Names.{same_name}
use Rattle.affine_ast.proofs.Names.{same_name-is}
use Rattle.numbered_names.proofs.Apart.{is_one_of}
use Rattle.placement_texts.specs.Own.{OwnNames}
use Rattle.placement_texts.specs.Renamed.{KeepsApart}
use Rattle.printed_texts.specs.Writable.{AllWritten}
use Rattle.stage_texts.specs.Distinct.{DistinctAreApart, NamedAreDistinct}

named_one : (f : Name → Name) (own : Name → Bool) → KeepsApart f own → (ns : List Name) (n : Name) → OwnNames own ns → own n ≡ true → is_one_of (map f ns) (f n) ≡ is_one_of ns n
named_one f own apart [] n h k = refl
named_one f own apart (x ∷ ns) n h k = λ i. apart x n h.0 k i || named_one f own apart ns n h.1 k i

pub named_distinct : NamedAreDistinct
named_distinct f own apart [] o h = tt
named_distinct f own apart (n ∷ ns) o h = (named_one f own apart ns n o.1 o.0 ∙ h.0, named_distinct f own apart ns o.1 h.1)

-- a name of the list is one of it
is_there : (ns : List Name) (j : ℕ) (b n : Name) → slice_get ns j ≡ Some b → same_name b n ≡ true → is_one_of ns n ≡ true
is_there [] j b n e s = absurd (let z : ⊥ = cc in z)
is_there (x ∷ ns) zero b n e s = ap (λ t. t || is_one_of ns n) (ap (λ x. same_name x n) (let k : x ≡ b = cc in k) ∙ s)
is_there (x ∷ ns) (suc j) b n e s = ap (λ t. same_name x n || t) (is_there ns j b n e s) ∙ right (same_name x n)
  where
    right : (t : Bool) → (t || true) ≡ true
    right true = refl
    right false = refl

-- written names of the same text are one
same_text : (a b : Name) → a.made ≡ false → b.made ≡ false → a.text ≡ b.text → a ≡ b
same_text a b p q e = λ i. record { text = e i; made = (p ∙ sym q) i }

made_at : (ns : List Name) (j : ℕ) (b : Name) → AllWritten ns → slice_get ns j ≡ Some b → b.made ≡ false
made_at [] j b w e = absurd (let z : ⊥ = cc in z)
made_at (x ∷ ns) zero b w e = ap (λ (n : Name). n.made) (let k : b ≡ x = cc in k) ∙ w.0.made
made_at (x ∷ ns) (suc j) b w e = made_at ns j b w.1 e

no : true ≡ false → ⊥
no e = cc

pub distinct_apart : DistinctAreApart
distinct_apart [] w h i j a b p q t = absurd (let z : ⊥ = cc in z)
distinct_apart (n ∷ ns) w h zero zero a b p q t = refl
distinct_apart (n ∷ ns) w h zero (suc j) a b p q t =
    let k : n ≡ a = cc in
    let same = same_text b n (made_at ns j b w.1 q) w.0.made (sym t ∙ ap (λ (n : Name). n.text) (sym k)) in
    absurd (no (sym (is_there ns j b n q (same_name-is b n same)) ∙ h.0))
distinct_apart (n ∷ ns) w h (suc i) zero a b p q t =
    let k : n ≡ b = cc in
    let same = same_text a n (made_at ns i a w.1 p) w.0.made (t ∙ ap (λ (n : Name). n.text) (sym k)) in
    absurd (no (sym (is_there ns i a n p (same_name-is a n same)) ∙ h.0))
distinct_apart (n ∷ ns) w h (suc i) (suc j) a b p q t = ap suc (distinct_apart ns w.1 h.1 i j a b p q t)
