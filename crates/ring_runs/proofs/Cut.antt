-- The turns of prologue, main loop and epilogue as numbers with the step between them.
use Rattle.std.proofs.Common.{◌≡◌, ℕ, zero, suc, ◌+◌, ◌*◌, ◌-◌, ◌<◌, ◌≤◌, ℤ, pos, ◌+ℤ◌, List, take, drop, refl, sym, ap, ◌∙◌, arith, Bool, true, false}
use Rattle.std.specs.Prelude.{nat_le, if◌then◌else◌}
use Rattle.std.proofs.lemmas.Int.{ints}
use Rattle.std.proofs.lemmas.Bool.{leb-true}
use Rattle.direct_meaning.specs.Turns.{turns}
use Rattle.loop_forms.specs.Split.{prologue_end, main_end, epilogue_begin}
use Rattle.loop_forms.specs.Stepped.{stepped, turn_total}
use Rattle.loop_forms.proofs.Cut.{first_ones, all_but_last, last_ones, take_stepped, take_every, drop_stepped}

-- a ring of `suc lead` buffers: the transfers run `lead` turns ahead
ahead_is : (lead : ℕ) → suc lead - 1 ≡ lead
ahead_is lead = omega arith

two : (lead : ℕ) → 1 ≤ lead → 2 ≤ suc lead
two lead h = omega (arith, h)

-- the first `lead` turns, or all where there are fewer
pub prologue_turns : (a b : ℤ) (s lead : ℕ) → 1 ≤ s → 1 ≤ lead
    → turns a (prologue_end a b (pos s) (suc lead)) (pos s) ≡ stepped a (pos s) (if nat_le lead (turn_total a b s) then lead else turn_total a b s)
prologue_turns a b s lead h some =
    first_ones a b s (suc lead) h (two lead some) ∙ ap (λ n. take n (stepped a (pos s) (turn_total a b s))) (ahead_is lead) ∙ by (nat_le lead (turn_total a b s)) refl
  where
    by : (t : Bool) → nat_le lead (turn_total a b s) ≡ t
        → take lead (stepped a (pos s) (turn_total a b s)) ≡ stepped a (pos s) (if t then lead else turn_total a b s)
    by true t = take_stepped lead (turn_total a b s) a (pos s) (leb-true lead (turn_total a b s) t)
    by false t = take_every lead (turn_total a b s) a (pos s) (let less : turn_total a b s < lead = grind (arith, t) in omega (arith, less))

-- all but the last `lead` turns
pub main_turns : (a b : ℤ) (s lead : ℕ) → 1 ≤ s → 1 ≤ lead
    → turns a (main_end b (pos s) (suc lead)) (pos s) ≡ stepped a (pos s) (turn_total a b s - lead)
main_turns a b s lead h some =
    all_but_last a b s (suc lead) h (two lead some)
    ∙ ap (λ n. take (turn_total a b s - n) (stepped a (pos s) (turn_total a b s))) (ahead_is lead)
    ∙ take_stepped (turn_total a b s - lead) (turn_total a b s) a (pos s) (omega arith)

-- the last `lead` turns, or all where there are fewer
pub epilogue_turns : (a b : ℤ) (s lead : ℕ) → 1 ≤ s → 1 ≤ lead
    → turns (epilogue_begin a b (pos s) (suc lead)) b (pos s)
    ≡ (if nat_le lead (turn_total a b s) then stepped (a +ℤ pos ((turn_total a b s - lead) * s)) (pos s) lead else stepped a (pos s) (turn_total a b s))
epilogue_turns a b s lead h some =
    last_ones a b s (suc lead) h (two lead some)
    ∙ ap (λ n. drop (turn_total a b s - n) (stepped a (pos s) (turn_total a b s))) (ahead_is lead)
    ∙ by (nat_le lead (turn_total a b s)) refl
  where
    by : (t : Bool) → nat_le lead (turn_total a b s) ≡ t
        → drop (turn_total a b s - lead) (stepped a (pos s) (turn_total a b s))
        ≡ (if t then stepped (a +ℤ pos ((turn_total a b s - lead) * s)) (pos s) lead else stepped a (pos s) (turn_total a b s))
    by true t =
        let le = leb-true lead (turn_total a b s) t in
        drop_stepped (turn_total a b s - lead) lead (turn_total a b s) a s (omega (arith, le))
    by false t =
        let less : turn_total a b s < lead = grind (arith, t) in
        ap (λ n. drop n (stepped a (pos s) (turn_total a b s))) (let e : turn_total a b s - lead ≡ 0 = omega (arith, less) in e)
