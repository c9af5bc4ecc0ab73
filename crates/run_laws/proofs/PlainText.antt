-- The text of a module that is run directly has no allocation, dealloc, start or wait.
use Rattle.std.proofs.Common.{◌≡◌, ℕ, suc, Bool, true, false, refl}
use Rattle.std.specs.Prelude.{◌&&◌, nat_le, None, if◌then◌else◌}
use Rattle.std.proofs.lemmas.Bool.{and_parts}
use Rattle.affine_ast.specs.declared.module.Module.{Module}
use Rattle.affine_ast.specs.Nest.{Nest, Nothing, Loop, Branch, Does, nest}
use Rattle.affine_ast.specs.PlainLimits.{bound_short, set_short, plain_stands, PlainTold, FaultAt, Counted, then_plain, plain_judged, plain_told, line_of_fault, plain_fault}

-- each plain statement of a text is none of these
abbrev pub PlainText : Nest → Type 0
PlainText Nothing = Unit {0}
PlainText (Loop line v l u s body rest) = PlainText body × PlainText rest
PlainText (Branch line set names first has other rest) = PlainText first × PlainText other × PlainText rest
PlainText (Does line p rest) = (plain_stands p ≡ true) × PlainText rest

fault_counted : (line k : ℕ) → FaultAt line ≡ Counted k → ⊥
fault_counted line k h = cc

judged_counted : (line loops count : ℕ) (holds : Bool) (more : PlainTold) (k : ℕ) → plain_judged line loops count holds more ≡ Counted k → (holds ≡ true) × (more ≡ Counted k)
judged_counted line loops count holds more k h = by (holds && (nat_le count 4096 && nat_le loops 8)) refl h
  where
    by : (t : Bool) → (holds && (nat_le count 4096 && nat_le loops 8)) ≡ t → (if t then more else FaultAt line) ≡ Counted k → (holds ≡ true) × (more ≡ Counted k)
    by true t h = ((and_parts holds (nat_le count 4096 && nat_le loops 8) t).0, h)
    by false t h = absurd (fault_counted line k h)

then_counted : (first : PlainTold) (more : ℕ → PlainTold) (k : ℕ) → then_plain first more ≡ Counted k → (j : ℕ) × (first ≡ Counted j) × (more j ≡ Counted k)
then_counted (FaultAt line) more k h = absurd (fault_counted line k h)
then_counted (Counted j) more k h = (j, refl, h)

plain_of_told : (n : Nest) (loops count k : ℕ) → plain_told n loops count ≡ Counted k → PlainText n
unfolding plain_told
plain_of_told Nothing loops count k h = tt
plain_of_told (Loop line v l u s body rest) loops count k h =
    let j = judged_counted line loops (suc count) (bound_short l && bound_short u) _ k h in
    let p = then_counted (plain_told body (suc loops) (suc count)) (plain_told rest loops) k j.1 in
    (plain_of_told body (suc loops) (suc count) p.0 p.1, plain_of_told rest loops p.0 k p.2)
plain_of_told (Branch line set names first has other rest) loops count k h =
    let j = judged_counted line loops (suc count) (set_short set) _ k h in
    let p = then_counted (plain_told first loops (suc count)) (λ n. then_plain (plain_told other loops n) (plain_told rest loops)) k j.1 in
    let q = then_counted (plain_told other loops p.0) (plain_told rest loops) k p.2 in
    (plain_of_told first loops (suc count) p.0 p.1, plain_of_told other loops p.0 q.0 q.1, plain_of_told rest loops q.0 k q.2)
plain_of_told (Does line p rest) loops count k h =
    let j = judged_counted line loops (suc count) (plain_stands p) _ k h in
    (j.0, plain_of_told rest loops (suc count) k j.1)

counted_of : (t : PlainTold) → line_of_fault t ≡ None → (k : ℕ) × (t ≡ Counted k)
counted_of (FaultAt line) h = absurd (let z : ⊥ = cc in z)
counted_of (Counted k) h = (k, refl)

pub plain_text : (m : Module) → plain_fault m ≡ None → PlainText (nest m.body)
unfolding plain_fault
plain_text m h = let c = counted_of (plain_told (nest m.body) 0 0) h in plain_of_told (nest m.body) 0 0 c.0 c.1
