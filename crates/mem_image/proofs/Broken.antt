-- The first broken rule, and what the reading comes to.
use Rattle.std.proofs.Common.{◌≡◌, ℕ, zero, suc, ◌<◌, ◌⊎◌, inl, inr, List, [], ◌∷◌, length, Option, Some, None, ℤ, refl, sym, ◌∙◌, ap, subst, arith}
use Rattle.std.specs.Prelude.{slice_get}
use Rattle.affine_ast.specs.declared.image.Cells.{Cells}
use Rattle.affine_ast.specs.declared.module.Arg.{Arg}
use Rattle.mem_image.specs.Forms.{values_in, rule_of_line}
use Rattle.mem_image.specs.Growing.{memrefs_with, symbols_with}
use Rattle.mem_image.specs.Images.{NoneBreaks, BreaksFirst, Lacks}
use Rattle.mem_image.specs.Lines.{Written}
use Rattle.mem_image.proofs.Rules.{left_over}
use Rattle.mem_image.proofs.Told.{Broken, Read, judged, told, told_lacks, told_broken, told_line, told_left}

read_broken : (m : List Cells) (s : List ℤ) (line number : ℕ) → Read m s ≡ Broken line number → ⊥
read_broken m s line number h = let x : ⊥ = cc in x

none_some : {X : Type 0} (x : X) → None ≡ Some x → ⊥
none_some x h = let e : ⊥ = cc in e

same_some : {X : Type 0} (x y : X) → Some x ≡ Some y → x ≡ y
same_some x y h = cc

-- ---- From the reading to the rule

at_front : (args : List Arg) (entry : Written) (more : List Written) (line number n : ℕ) → rule_of_line (slice_get args 0) entry.words ≡ Some n → Broken entry.number n ≡ Broken line number → BreaksFirst args (entry ∷ more) line number
at_front args entry more line number n r h = record {
  place = 0;
  broken = record { entry = entry; stands = refl; numbered = cc; lowest = (let e : n ≡ number = cc in r ∙ ap Some e) };
  before = λ place e less. absurd (omega arith);
}

none_before : (arg : Arg) (args : List Arg) (line : Written) (lines : List Written) (count : ℕ) → rule_of_line (Some arg) line.words ≡ None → NoneBreaks args lines count → NoneBreaks (arg ∷ args) (line ∷ lines) (suc count)
none_before arg args line lines count r before zero entry less stands = subst (λ w. rule_of_line (Some arg) w.words ≡ None) (same_some line entry stands) r
none_before arg args line lines count r before (suc place) entry less stands = before place entry (omega arith) stands

behind : (arg : Arg) (args : List Arg) (entry : Written) (more : List Written) (end count line number : ℕ) → rule_of_line (Some arg) entry.words ≡ None → BreaksFirst args more line number ⊎ Lacks args more count line number → BreaksFirst (arg ∷ args) (entry ∷ more) line number ⊎ Lacks (arg ∷ args) (entry ∷ more) count line number
behind arg args entry more end count line number r (inl b) = inl (record {
  place = suc b.place;
  broken = record { entry = b.broken.entry; stands = b.broken.stands; numbered = b.broken.numbered; lowest = b.broken.lowest };
  before = none_before arg args entry more b.place r b.before;
})
behind arg args entry more end count line number r (inr l) = inr (record {
  before = none_before arg args entry more (length more) r l.before;
  fewer = (let f = l.fewer in omega arith);
  past = l.past;
  second = l.second;
})

pub broken_is : (args : List Arg) (lines : List Written) (end count : ℕ) (ms : List Cells) (ss : List ℤ) (line number : ℕ) → end ≡ suc count → told args lines end ms ss ≡ Broken line number → BreaksFirst args lines line number ⊎ Lacks args lines count line number
unfolding told
broken_is [] [] end count ms ss line number e h = absurd (read_broken ms ss line number h)
broken_is [] (entry ∷ more) end count ms ss line number e h = left (rule_of_line None entry.words) refl h
  where
    left : (o : Option ℕ) → rule_of_line None entry.words ≡ o → judged entry.number o (Read ms ss) ≡ Broken line number → BreaksFirst [] (entry ∷ more) line number ⊎ Lacks [] (entry ∷ more) count line number
    left None r h = absurd (left_over entry.words r)
    left (Some n) r h = inl (at_front [] entry more line number n r h)
broken_is (arg ∷ args) [] end count ms ss line number e h = inr (record {
  before = λ place entry less stands. absurd (none_some entry stands);
  fewer = omega arith;
  past = (let p : end ≡ line = cc in sym p ∙ e);
  second = cc;
})
broken_is (arg ∷ args) (entry ∷ more) end count ms ss line number e h =
    cases (rule_of_line (Some arg) entry.words) refl h (broken_is args more end count (memrefs_with arg.kind (values_in entry.words) ms) (symbols_with arg.kind (values_in entry.words) ss) line number e)
  where
    cases : (o : Option ℕ) → rule_of_line (Some arg) entry.words ≡ o → judged entry.number o (told args more end (memrefs_with arg.kind (values_in entry.words) ms) (symbols_with arg.kind (values_in entry.words) ss)) ≡ Broken line number
        → (told args more end (memrefs_with arg.kind (values_in entry.words) ms) (symbols_with arg.kind (values_in entry.words) ss) ≡ Broken line number → BreaksFirst args more line number ⊎ Lacks args more count line number)
        → BreaksFirst (arg ∷ args) (entry ∷ more) line number ⊎ Lacks (arg ∷ args) (entry ∷ more) count line number
    cases (Some n) r h rest = inl (at_front (arg ∷ args) entry more line number n r h)
    cases None r h rest = behind arg args entry more end count line number r (rest h)

-- ---- From the rule to the reading

shifted : (arg : Arg) (args : List Arg) (entry : Written) (more : List Written) (count : ℕ) → NoneBreaks (arg ∷ args) (entry ∷ more) (suc count) → NoneBreaks args more count
shifted arg args entry more count before place w less stands = before (suc place) w (omega arith) stands

line_told : (arg : Arg) (args : List Arg) (entry : Written) (more : List Written) (count end : ℕ) (ms : List Cells) (ss : List ℤ) → NoneBreaks (arg ∷ args) (entry ∷ more) (suc count)
    → told (arg ∷ args) (entry ∷ more) end ms ss ≡ told args more end (memrefs_with arg.kind (values_in entry.words) ms) (symbols_with arg.kind (values_in entry.words) ss)
line_told arg args entry more count end ms ss before = told_line (arg ∷ args) args arg (entry ∷ more) more entry end ms ss refl refl (before 0 entry (omega arith) refl)

breaks_at : (args : List Arg) (lines : List Written) (end : ℕ) (ms : List Cells) (ss : List ℤ) (line number place : ℕ) (entry : Written) → slice_get lines place ≡ Some entry → entry.number ≡ line → rule_of_line (slice_get args place) entry.words ≡ Some number → NoneBreaks args lines place → told args lines end ms ss ≡ Broken line number
breaks_at args [] end ms ss line number place entry stands numbered lowest before = absurd (none_some entry stands)
breaks_at [] (e ∷ more) end ms ss line number zero entry stands numbered lowest before =
    let s : e ≡ entry = same_some e entry stands in
    told_left [] (e ∷ more) more e end number ms ss refl refl (ap (λ w. rule_of_line None w.words) s ∙ lowest) ∙ ap (λ n. Broken n number) (ap (λ w. w.number) s ∙ numbered)
breaks_at [] (e ∷ more) end ms ss line number (suc place) entry stands numbered lowest before = absurd (left_over e.words (before 0 e (omega arith) refl))
breaks_at (arg ∷ args) (e ∷ more) end ms ss line number zero entry stands numbered lowest before =
    let s : e ≡ entry = same_some e entry stands in
    told_broken (arg ∷ args) args arg (e ∷ more) more e end number ms ss refl refl (ap (λ w. rule_of_line (Some arg) w.words) s ∙ lowest) ∙ ap (λ n. Broken n number) (ap (λ w. w.number) s ∙ numbered)
breaks_at (arg ∷ args) (e ∷ more) end ms ss line number (suc place) entry stands numbered lowest before =
    line_told arg args e more place end ms ss before ∙ breaks_at args more end _ _ line number place entry stands numbered lowest (shifted arg args e more place before)

lacks_at : (args : List Arg) (lines : List Written) (end : ℕ) (ms : List Cells) (ss : List ℤ) → NoneBreaks args lines (length lines) → length lines < length args → told args lines end ms ss ≡ Broken end 2
lacks_at [] lines end ms ss before fewer = absurd (omega arith)
lacks_at (arg ∷ args) [] end ms ss before fewer = told_lacks (arg ∷ args) args arg [] end ms ss refl refl
lacks_at (arg ∷ args) (e ∷ more) end ms ss before fewer = line_told arg args e more (length more) end ms ss before ∙ lacks_at args more end _ _ (shifted arg args e more (length more) before) (omega arith)

pub rule_told : (args : List Arg) (lines : List Written) (count : ℕ) (ms : List Cells) (ss : List ℤ) (line number : ℕ) → BreaksFirst args lines line number ⊎ Lacks args lines count line number → told args lines (suc count) ms ss ≡ Broken line number
rule_told args lines count ms ss line number (inl b) = breaks_at args lines (suc count) ms ss line number b.place b.broken.entry b.broken.stands b.broken.numbered b.broken.lowest b.before
rule_told args lines count ms ss line number (inr l) = lacks_at args lines (suc count) ms ss l.before l.fewer ∙ ap (λ n. Broken n 2) (sym l.past) ∙ ap (Broken line) (sym l.second)
