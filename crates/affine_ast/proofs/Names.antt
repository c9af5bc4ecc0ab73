-- The test on two names, and tables over names.
use Rattle.std.proofs.Common.{◌≡◌, Bool, true, false, refl, sym, ap, ◌∙◌}
use Rattle.std.specs.Prelude.{◌&&◌}
use Rattle.std.specs.Str.{bytes_eq}
use Rattle.std.proofs.lemmas.Slice.Eq.{bytes_eq-Decides}
use Rattle.affine_ast.specs.declared.name.Name.{Name}
use Rattle.affine_ast.specs.Names.{same_bool, same_name, put}

same_bool-eq : (a b : Bool) → same_bool a b ≡ true → a ≡ b
same_bool-eq true b h = sym h
same_bool-eq false true h = h
same_bool-eq false false h = refl

same_bool-refl : (a : Bool) → same_bool a a ≡ true
same_bool-refl true = refl
same_bool-refl false = refl

and_left : (a b : Bool) → (a && b) ≡ true → a ≡ true
and_left true b h = refl
and_left false b h = h

and_right : (a b : Bool) → (a && b) ≡ true → b ≡ true
and_right true b h = h
and_right false b h = cc

pub same_name-eq : (a b : Name) → same_name a b ≡ true → a ≡ b
unfolding same_name
same_name-eq a b h =
    let t = (bytes_eq-Decides a.text b.text).0 (and_left (bytes_eq a.text b.text) (same_bool a.made b.made) h) in
    let k = same_bool-eq a.made b.made (and_right (bytes_eq a.text b.text) (same_bool a.made b.made) h) in
    λ i. record { text = t i; made = k i }

pub same_name-refl : (a : Name) → same_name a a ≡ true
unfolding same_name
same_name-refl a = rw ((bytes_eq-Decides a.text a.text).1 refl) (same_bool-refl a.made)

pub same_name-is : (a b : Name) → a ≡ b → same_name a b ≡ true
same_name-is a b e = ap (λ n. same_name a n) (sym e) ∙ same_name-refl a

by_cases : (a b : Name) (x y : Bool) → same_name a b ≡ x → same_name b a ≡ y → x ≡ y
by_cases a b true true p q = refl
by_cases a b false false p q = refl
by_cases a b true false p q = let e = same_name-is b a (sym (same_name-eq a b p)) in sym e ∙ q
by_cases a b false true p q = let e = same_name-is a b (sym (same_name-eq b a q)) in sym p ∙ e

pub same_name-sym : (a b : Name) → same_name a b ≡ same_name b a
same_name-sym a b = by_cases a b (same_name a b) (same_name b a) refl refl

different_bool : (x a b : Bool) → a ≡ true → b ≡ false → (x && same_bool a b) ≡ false
different_bool x a b p q = rw (p, q) (elim x as (λ x. (x && false) ≡ false) [ true ↦ refl | false ↦ refl ])

-- a made name is none of a text's
pub same_name-made : (a b : Name) → a.made ≡ true → b.made ≡ false → same_name a b ≡ false
unfolding same_name
same_name-made a b p q = different_bool (bytes_eq a.text b.text) a.made b.made p q

pub put-same : {A : Type 0} (f : Name → A) (n : Name) (a : A) (m : Name) → same_name n m ≡ true → put f n a m ≡ a
unfolding put
put-same f n a m h = rw h

pub put-other : {A : Type 0} (f : Name → A) (n : Name) (a : A) (m : Name) → same_name n m ≡ false → put f n a m ≡ f m
unfolding put
put-other f n a m h = rw h

-- one change on both sides
pub put-both : {A : Type 0} (f g : Name → A) (n : Name) (a b : A) (m : Name) → a ≡ b → f m ≡ g m → put f n a m ≡ put g n b m
unfolding put
put-both f g n a b m p q = rw (p, q)
