-- The last element of a transfer lies behind all others.
use Rattle.std.proofs.Common.{◌≡◌, ℕ, zero, suc, ◌+◌, ◌*◌, ◌/◌, ◌%◌, ◌-◌, ◌<◌, ◌≤◌, ◌^◌, List, [], ◌∷◌, length, drop, map, refl, ap, ◌∙◌, arith, Bool, true, false, mul-le-mul_right, mul-le-mul_left, suc-mul, mod-lt, div-add-mod'}
use Rattle.std.specs.Prelude.{nat_lt, ◌&&◌}
use Rattle.std.specs.List.{list_all, range_with_len}
use Rattle.std.proofs.lemmas.Bool.{ltb-true, lt-ltb, le-ltb}
use native.Mathlib.Decide.{dec_le}
use Rattle.bus_model.specs.declared.transfer.Transfer.{Transfer}
use Rattle.affine_ast.specs.Sizes.{product}
use Rattle.direct_meaning.specs.Actions.{half_cells}
use Rattle.walk_actions.proofs.Elements.{half_few}
use Rattle.direct_meaning.specs.Transfers.{slow_place, ends_by}
use Rattle.walk_actions.specs.declared.transfers.Chunks.{Chunks}
use Rattle.walk_actions.specs.Transfers.{transfer_at, AreChunks}

further : (x y n : ℕ) → x < y → x * n + n ≤ y * n
further x y n h = let a : suc x * n ≤ y * n = mul-le-mul_right n h in omega (arith, suc-mul x n)

-- a later element lies no lower
ordered : (e f chunk stride : ℕ) → 1 ≤ chunk → chunk ≤ stride → e ≤ f → e / chunk * stride + e % chunk ≤ f / chunk * stride + f % chunk
ordered e f chunk stride some wide h =
    let be = mod-lt e some in
    let bf = mod-lt f some in
    let de = div-add-mod' e chunk in
    let df = div-add-mod' f chunk in
    let p = e / chunk * stride in
    let q = f / chunk * stride in
    let pc = e / chunk * chunk in
    let qc = f / chunk * chunk in
    elim (dec_le (f / chunk) (e / chunk)) [
      | yes back ↦ elim (dec_le (e / chunk) (f / chunk)) [
        | yes on ↦ (let same : e / chunk ≡ f / chunk = omega (arith, back, on) in
            let sp = ap (λ z. z * stride) same in
            let sc = ap (λ z. z * chunk) same in
            omega (arith, be, bf, de, df, sp, sc, h))
        | no off ↦ absurd (let m = further (f / chunk) (e / chunk) chunk (omega (arith, off)) in omega (arith, be, bf, de, df, m, h))
      ]
      | no off ↦ (let m = further (e / chunk) (f / chunk) stride (omega (arith, off)) in omega (arith, be, bf, m, wide))
    ]

and_true : (t : Bool) → (t && true) ≡ t
and_true true = refl
and_true false = refl

and_false : (t : Bool) → (t && false) ≡ false
and_false true = refl
and_false false = refl

both_tests : (x y end : ℕ) (t : Bool) → x ≤ y → nat_lt y end ≡ t → (nat_lt x end && nat_lt y end) ≡ nat_lt y end
both_tests x y end true h e = let k : nat_lt x end ≡ true = lt-ltb x end (omega (arith, h, ltb-true y end e)) in rw (k, e) refl
both_tests x y end false h e = rw e (and_false (nat_lt x end))

below_last : (f : ℕ → ℕ) (end : ℕ) → ((a b : ℕ) → a ≤ b → f a ≤ f b) → (k n : ℕ) → list_all (λ place. nat_lt place end) (map f (range_with_len k (suc n))) ≡ nat_lt (f (k + n)) end
below_last f end up k zero = and_true (nat_lt (f k) end) ∙ (let e : k ≡ k + 0 = omega arith in ap (λ i. nat_lt (f i) end) e)
below_last f end up k (suc n) =
    let e : (k + 1) + n ≡ k + suc n = omega arith in
    ap (λ t. nat_lt (f k) end && t) (below_last f end up (k + 1) n ∙ ap (λ i. nat_lt (f i) end) e)
    ∙ both_tests (f k) (f (k + suc n)) end (nat_lt (f (k + suc n)) end) (up k (k + suc n) (omega arith)) refl

-- all elements lie below a place where the last one does
pub ends_by_last : (t : Transfer) (end : ℕ) → 1 ≤ t.count → 1 ≤ t.chunk → t.chunk ≤ t.stride → ends_by t end ≡ nat_lt (slow_place t (t.count - 1)) end
unfolding slow_place
ends_by_last t end some least apart =
    let n : t.count ≡ suc (t.count - 1) = omega (arith, some) in
    ap (λ k. list_all (λ place. nat_lt place end) (map (slow_place t) (range_with_len 0 k))) n
    ∙ below_last (slow_place t) end (λ a b h. omega (arith, ordered a b t.chunk t.stride least apart h)) 0 (t.count - 1)
    ∙ ap (λ k. nat_lt (slow_place t k) end) (omega arith)

-- no element lies lower than its number
pub place_above : (e chunk stride : ℕ) → 1 ≤ chunk → chunk ≤ stride → e ≤ e / chunk * stride + e % chunk
place_above e chunk stride some wide =
    let m : e / chunk * chunk ≤ e / chunk * stride = mul-le-mul_left (e / chunk) wide in
    omega (arith, m, div-add-mod' e chunk)

pub last_fits : (n chunk stride : ℕ) → n < 2 ^ 63 → stride < 2 ^ 63 → 1 ≤ chunk → n / chunk * stride < 2 ^ 126
last_fits n chunk stride p q r =
    let most : ℕ = 9223372036854775807 in
    let d : n / chunk * 1 ≤ n / chunk * chunk = mul-le-mul_left (n / chunk) r in
    let below : n / chunk ≤ most = omega (arith, d, div-add-mod' n chunk, p) in
    let a : n / chunk * stride ≤ most * stride = mul-le-mul_right stride below in
    let b : stride ≤ most = omega (arith, q) in
    let c : most * stride ≤ most * most = mul-le-mul_left most b in
    omega (arith, a, c)

pub ruleset lasts = (last_fits)

pub ruleset chunkings = (place_above)

-- where the last element lies below a place, all numbers of the transfer do or are within the limits
pub count_fits : (c : Chunks) (base end : ℕ) → AreChunks c → base + (c.count - 1) / c.chunk * c.stride + (c.count - 1) % c.chunk < end → c.count ≤ end
count_fits c base end h l = omega (arith, place_above (c.count - 1) c.chunk c.stride h.least h.apart, l, h.some)

pub starts_well : (c : Chunks) (incoming : Bool) (tag memref base fast half offset end : ℕ) → AreChunks c → base + (c.count - 1) / c.chunk * c.stride + (c.count - 1) % c.chunk < end
    → ends_by (transfer_at incoming tag memref base c fast half offset) end ≡ true
unfolding slow_place
starts_well c incoming tag memref base fast half offset end h l =
    ends_by_last (transfer_at incoming tag memref base c fast half offset) end h.some h.least h.apart ∙ lt-ltb _ end l

pub starts_outside : (c : Chunks) (incoming : Bool) (tag memref base fast half offset end : ℕ) → AreChunks c → end ≤ base + (c.count - 1) / c.chunk * c.stride + (c.count - 1) % c.chunk
    → ends_by (transfer_at incoming tag memref base c fast half offset) end ≡ false
unfolding slow_place
starts_outside c incoming tag memref base fast half offset end h l =
    ends_by_last (transfer_at incoming tag memref base c fast half offset) end h.some h.least h.apart ∙ le-ltb _ end l

pub ruleset starts = (count_fits, starts_well, starts_outside)

pub cells_are : (ns : List ℕ) → 1 ≤ length ns → half_cells ns ≡ product (drop 1 ns)
cells_are [] h = absurd (omega (arith, h))
cells_are (n ∷ ns) h = refl

pub ruleset halves = (cells_are, half_few)
