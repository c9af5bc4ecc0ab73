-- Worked numbers, as statements.
use Rattle.std.specs.Prelude.{◌≡◌, ◌++◌, ℤ, pos, negsuc, List, [], ◌∷◌}
use Rattle.affine_expr.specs.declared.expr.Expr.{Dim, Const, FloorDiv, CeilDiv, Mod}
use Rattle.affine_expr.specs.Value.{value}
use Rattle.affine_ast.specs.declared.types.Bound.TheVariants as bound
use Rattle.affine_ast.specs.declared.types.Element.TheVariants.{I8, I32}
use Rattle.int_ops.specs.declared.operation.Op.TheVariants as op
use Rattle.bus_model.specs.declared.step.FaultKind.TheVariants as fault
use Rattle.bus_model.specs.declared.step.Verdict.TheVariants as verdict
use Rattle.direct_meaning.specs.Turns.{turns}
use Rattle.direct_meaning.specs.Direct.{plain, state_of, verdict_of}
use Rattle.direct_meaning.specs.Work.{work}
use Rattle.prompt_semantics.specs.Prompt.{prompt, prompt_verdict, prompt_slow, prompt_numbers}
use Rattle.meaning_numbers.specs.Modules.{staged_raise, staged_part, raise_part, raise, evens, operates, bounds, at_numbers, transfer, load_half, wait_for, start_again, store_slow, other_count, strided, deep, image, n, k}

-- at -7: `d0 floordiv 2` is -4, `d0 ceildiv 2` is -3, `d0 mod 2` is 1
abbrev pub Quotients : Type 0
Quotients = (value (negsuc 6 ∷ []) [] (FloorDiv (Dim 0) (Const (pos 2))) ≡ negsuc 3)
    × (value (negsuc 6 ∷ []) [] (CeilDiv (Dim 0) (Const (pos 2))) ≡ negsuc 2)
    × (value (negsuc 6 ∷ []) [] (Mod (Dim 0) (Const (pos 2))) ≡ pos 1)

-- `0 to 8 step 3` has the turns 0, 3 and 6; `5 to 5` has none; `-7 to 2 step 3` has -7, -4 and -1
abbrev pub LoopTurns : Type 0
LoopTurns = (turns (pos 0) (pos 8) (pos 3) ≡ pos 0 ∷ pos 3 ∷ pos 6 ∷ [])
    × (turns (pos 5) (pos 5) (pos 1) ≡ [])
    × (turns (negsuc 6) (pos 2) (pos 3) ≡ negsuc 6 ∷ negsuc 3 ∷ negsuc 0 ∷ [])

abbrev pub ones : List ℤ
ones = pos 1 ∷ pos 2 ∷ pos 3 ∷ pos 4 ∷ pos 5 ∷ pos 6 ∷ pos 7 ∷ pos 8 ∷ []

abbrev pub zeros : List ℤ
zeros = pos 0 ∷ pos 0 ∷ pos 0 ∷ pos 0 ∷ pos 0 ∷ pos 0 ∷ pos 0 ∷ pos 0 ∷ []

abbrev pub raised : List ℤ
raised = pos 1 ∷ pos 2 ∷ pos 3 ∷ pos 4 ∷ pos 5 ∷ pos 6 ∷ pos 7 ∷ pos 8 ∷ pos 2 ∷ pos 3 ∷ pos 4 ∷ pos 5 ∷ pos 6 ∷ pos 7 ∷ pos 8 ∷ pos 9 ∷ []

-- each number of A, raised by one, is in B
abbrev pub Raised : Type 0
Raised = (verdict_of (plain (raise (pos 8)) (image (ones ∷ zeros ∷ []))) ≡ verdict.End) × ((state_of (plain (raise (pos 8)) (image (ones ∷ zeros ∷ [])))).slow ≡ raised)

-- with a ninth turn the run stops at its load, and the slow memory is as it is then
abbrev pub NinthTurn : Type 0
NinthTurn = (verdict_of (plain (raise (pos 9)) (image (ones ∷ zeros ∷ []))) ≡ verdict.Fault fault.Bounds) × ((state_of (plain (raise (pos 9)) (image (ones ∷ zeros ∷ [])))).slow ≡ raised)

-- a condition lets the even turns store
abbrev pub EvenTurns : Type 0
EvenTurns = (state_of (plain evens (image (ones ∷ [])))).slow ≡ pos 7 ∷ pos 2 ∷ pos 7 ∷ pos 4 ∷ pos 7 ∷ pos 6 ∷ pos 7 ∷ pos 8 ∷ []

-- 100 + 100 at i8 is -56
abbrev pub WrappedSum : Type 0
WrappedSum = (state_of (plain (operates op.Add I8) (image ((pos 100 ∷ []) ∷ (pos 100 ∷ []) ∷ [])))).slow ≡ negsuc 55 ∷ pos 100 ∷ []

-- the least number divided by -1 is the fault `divide`, its remainder is 0
abbrev pub LeastByMinusOne : Type 0
LeastByMinusOne = (verdict_of (plain (operates op.DivS I32) (image ((negsuc 2147483647 ∷ []) ∷ (negsuc 0 ∷ []) ∷ []))) ≡ verdict.Fault fault.Divide)
    × ((state_of (plain (operates op.RemS I32) (image ((negsuc 2147483647 ∷ []) ∷ (negsuc 0 ∷ []) ∷ [])))).slow ≡ pos 0 ∷ negsuc 0 ∷ [])

-- a lower bound is the greatest of its results, an upper one the least: from 2 up to 6 by threes
abbrev pub SeveralResults : Type 0
SeveralResults = (state_of (plain (bounds (bound.Map (at_numbers (Const (pos 1) ∷ Const (pos 2) ∷ []))) (bound.Map (at_numbers (Const (pos 8) ∷ Const (pos 6) ∷ [])))) (image (zeros ∷ [])))).slow
    ≡ pos 0 ∷ pos 0 ∷ pos 1 ∷ pos 0 ∷ pos 0 ∷ pos 1 ∷ pos 0 ∷ pos 0 ∷ []

abbrev pub four : List ℤ
four = pos 1 ∷ pos 2 ∷ pos 3 ∷ pos 4 ∷ []

-- a transfer that is waited for ends, with eight actions, four elements and two engine steps more, and 16 bytes
abbrev pub Waited : Type 0
Waited = (prompt_verdict (prompt (transfer (pos 4) (wait_for n ∷ [])) (image (four ∷ [])) (pos 0) 16) ≡ verdict.End)
    × (prompt_slow (prompt (transfer (pos 4) (wait_for n ∷ [])) (image (four ∷ [])) (pos 0) 16) ≡ four)
    × (prompt_numbers (prompt (transfer (pos 4) (wait_for n ∷ [])) (image (four ∷ [])) (pos 0) 16) ≡ record { actions = 8; engine_steps = 6; peak = 16 })

-- each fault: a load of the half while it is away, a second start of the tag, a store to a slow place of the transfer that
-- comes in from it, a capacity of 15 bytes, a dealloc with no wait before it, a count of 5, a wait for another count
abbrev pub Faulted : Type 0
Faulted =
    (prompt_verdict (prompt (transfer (pos 4) (load_half ∷ wait_for n ∷ [])) (image (four ∷ [])) (pos 0) 1048576) ≡ verdict.Fault fault.Touched)
    × (prompt_verdict (prompt (transfer (pos 4) (start_again ∷ wait_for n ∷ [])) (image (four ∷ [])) (pos 0) 1048576) ≡ verdict.Fault fault.Tag)
    × (prompt_verdict (prompt (transfer (pos 4) (store_slow ++ (wait_for n ∷ []))) (image (four ∷ [])) (pos 0) 1048576) ≡ verdict.Fault fault.Race)
    × (prompt_verdict (prompt (transfer (pos 4) (wait_for n ∷ [])) (image (four ∷ [])) (pos 0) 15) ≡ verdict.Fault fault.Capacity)
    × (prompt_verdict (prompt (transfer (pos 4) []) (image (four ∷ [])) (pos 0) 1048576) ≡ verdict.Fault fault.Touched)
    × (prompt_verdict (prompt (transfer (pos 5) (wait_for n ∷ [])) (image (four ∷ [])) (pos 0) 1048576) ≡ verdict.Fault fault.Bounds)
    × (prompt_verdict (prompt (transfer (pos 4) (other_count ∷ wait_for k ∷ [])) (image (four ∷ [])) (pos 0) 1048576) ≡ verdict.Fault fault.Shape)

-- chunks of two begun four apart, out of a half of the filler 300, which at i8 is 44
abbrev pub Strided : Type 0
Strided = prompt_slow (prompt strided (image (zeros ∷ [])) (pos 300) 1048576) ≡ pos 0 ∷ pos 44 ∷ pos 44 ∷ pos 0 ∷ pos 0 ∷ pos 44 ∷ pos 44 ∷ pos 0 ∷ []

-- the work of four loops of 65,536 turns inside one another round one statement, and of a loop of 2 ^ 48 turns round four
abbrev pub Works : Type 0
Works = (work deep ≡ 18446744073709551617) × (work (raise (pos 281474976710656)) ≡ 1125899906842625)

-- with copies of both memrefs the memory at the end is the same, with 64 bytes of fast memory, whatever the filler
abbrev pub StagedRaise : Type 0
StagedRaise =
    (prompt_slow (prompt (record (raise (pos 8)) { body = staged_raise }) (image (ones ∷ zeros ∷ [])) (pos 99) 1048576) ≡ raised)
    × (prompt_numbers (prompt (record (raise (pos 8)) { body = staged_raise }) (image (ones ∷ zeros ∷ [])) (pos 99) 1048576) ≡ record { actions = 85; engine_steps = 0; peak = 64 })

-- with copies of a part of each memref the part is raised, with 24 bytes of fast memory
abbrev pub StagedPart : Type 0
StagedPart =
    (prompt_slow (prompt (record raise_part { body = staged_part }) (image (ones ∷ zeros ∷ [])) (pos 99) 1048576)
    ≡ ones ++ (pos 0 ∷ pos 0 ∷ pos 4 ∷ pos 5 ∷ pos 6 ∷ pos 0 ∷ pos 0 ∷ pos 0 ∷ []))
    × (prompt_numbers (prompt (record raise_part { body = staged_part }) (image (ones ∷ zeros ∷ [])) (pos 99) 1048576) ≡ record { actions = 35; engine_steps = 0; peak = 24 })
