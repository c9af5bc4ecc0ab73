-- The offset from terms, by whether there are some.
use Rattle.std.proofs.Common.{◌≡◌, ℕ, suc, ℤ, pos, ◌-ℤ◌, Bool, true, false, List, [], ◌∷◌, length, refl, sym, ◌∙◌, arith}
use Rattle.std.specs.Prelude.{nat_eq, if◌then◌else◌}
use Rattle.std.specs.Int.{int_min, int_max}
use Rattle.affine_ast.specs.declared.name.Name.{Name}
use Rattle.nest_domain.specs.Boxes as region
use Rattle.placement_regions.specs.Sites.{offset_over}

pub offset_none : (ts : List (Name × ℤ)) (d : region.Dimension) (size : ℕ) (b : Bool) → b ≡ nat_eq (length ts) 0 → b ≡ true
    → offset_over ts d size ≡ (if d.clamped then int_max (int_min d.offset (pos size -ℤ d.extent)) (pos 0) else d.offset)
offset_none [] d size b e t = refl
offset_none (x ∷ ts) d size b e t = absurd (let f : nat_eq (suc (length ts)) 0 ≡ true = sym e ∙ t in let g : suc (length ts) ≡ 0 = grind (arith, f) in let z : ⊥ = omega (arith, g) in z)

pub offset_some : (ts : List (Name × ℤ)) (d : region.Dimension) (size : ℕ) (b : Bool) → b ≡ nat_eq (length ts) 0 → b ≡ false → offset_over ts d size ≡ d.offset
offset_some [] d size b e t = absurd (let f : true ≡ false = sym e ∙ t in let z : ⊥ = cc in z)
offset_some (x ∷ ts) d size b e t = refl
