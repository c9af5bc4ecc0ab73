-- Bytes that are given from the front of what is left.
use Rattle.std.proofs.Common.{◌≡◌, ℕ, ◌+◌, ◌-◌, ◌≤◌, List, ◌++◌, length, take, drop, refl, ap, ◌∙◌, arith}
use Rattle.std.proofs.lemmas.List.{take-append-drop, take_rest, take_at, length-take-le, drop-drop}

-- the front that was copied and what then is left are all that was left before
pub front_given : (items copied behind : List ℕ) (at n : ℕ) → n ≤ length (take (length items - at) (drop at items))
    → copied ≡ take n (take (length items - at) (drop at items)) → drop at items ≡ take n (copied ++ behind) ++ drop (at + n) items
front_given items copied behind at n fits same =
    let rest : take (length items - at) (drop at items) ≡ drop at items = take_rest items at in
    let within : n ≤ length (drop at items) = omega (arith, ap length rest) in
    let front : copied ≡ take n (drop at items) = same ∙ ap (take n) rest in
    let long : length copied ≡ n = ap length front ∙ length-take-le n (drop at items) within in
    let kept : take n (copied ++ behind) ≡ copied = take_at copied behind n long in
    rw (kept, front, ← drop-drop n at items, take-append-drop) refl
