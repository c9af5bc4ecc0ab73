-- What holds of each turn of a loop, from its bounds; and places that are clamped lie in the memref.
use Rattle.std.proofs.Common.{◌≤◌, ℤ, pos, ◌+ℤ◌, ◌-ℤ◌, ◌≤ℤ◌, ◌<ℤ◌, List, [], ◌∷◌, arith}
use Rattle.std.specs.Int.{int_min, int_max}
use Rattle.std.proofs.lemmas.Int.{ints}
use Rattle.direct_meaning.specs.Turns.{turns}
use Rattle.direct_meaning.proofs.WorkLaws.{Between, all_between}
use Rattle.direct_meaning.proofs.WorkLaws as work
use Rattle.boxes.specs.Every.{Every}
use Rattle.placement_texts.specs.Template.{Dimension, clamp}

between : (P : ℤ → Type 0) (a b : ℤ) → ((t : ℤ) → a ≤ℤ t → t <ℤ b → P t) → (ts : List ℤ) → work.Every (Between a b) ts → Every P ts
between P a b h [] k = tt
between P a b h (t ∷ ts) k = (h t k.0.0 k.0.1, between P a b h ts k.1)

pub every_turn : (P : ℤ → Type 0) (a b s : ℤ) → ((t : ℤ) → a ≤ℤ t → t <ℤ b → P t) → Every P (turns a b s)
every_turn P a b s h = between P a b h (turns a b s) (all_between a b s)

-- a place that is clamped
pub clamp_low : (d : Dimension) (z : ℤ) → pos 0 ≤ℤ clamp d z
clamp_low d z = grind (arith, ints)

clamp_by : (z last : ℤ) → pos 0 ≤ℤ last → int_max (int_min z last) (pos 0) ≤ℤ last
clamp_by z last h = grind (arith, ints, h)

pub clamp_high : (d : Dimension) (z : ℤ) → d.extent ≤ d.size → (clamp d z +ℤ pos d.extent) ≤ℤ pos d.size
clamp_high d z h =
    let low : pos 0 ≤ℤ (pos d.size -ℤ pos d.extent) = omega (arith, ints, h) in
    let k = clamp_by z (pos d.size -ℤ pos d.extent) low in
    omega (arith, ints, k)
