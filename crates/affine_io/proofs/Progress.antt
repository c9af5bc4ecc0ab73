-- What a loop of reads or of writes has moved so far.
use Rattle.std.proofs.Common.{◌≡◌, ℕ, ◌+◌, ◌-◌, ◌<◌, ◌≤◌, List, ◌++◌, length, take, drop, refl, sym, subst, arith, length-append}
use Rattle.std.specs.Prelude.{Option}
use Rattle.std.specs.Io.KnownBytes.{Appends, Consumes}
use Rattle.std.proofs.KnownBytes.{Appends-trans}
use Rattle.std.proofs.lemmas.List.{take-append-drop, take-take, drop-take, length-take}
use Rattle.affine_io.specs.Stops.{StopsAfter}
use Rattle.affine_io.specs.declared.source.TheConstants.{READ_PIECE}
use Rattle.affine_io.specs.declared.source.ReadStop.{ReadStop}
use Rattle.affine_io.specs.declared.source.ReadStop.TheVariants.{TooLong, Memory}

-- a loop of writes: these many first bytes went out, and the count of faults has not fallen
pub record HasWritten (old new : Option (List ℕ)) (before now : ℕ) (bytes : List ℕ) (written : ℕ) : Type 0 where
  pub appended : Appends old new (take written bytes)
  pub later : before ≤ now
  pub within : written ≤ length bytes

-- a loop of reads: these bytes came, no more than the limit, and the count of faults has not fallen
pub record HasRead (old new : Option (List ℕ)) (before now : ℕ) (bytes : List ℕ) (limit : ℕ) : Type 0 where
  pub consumed : Consumes old new bytes
  pub later : before ≤ now
  pub within : length bytes ≤ limit

-- the first i + n bytes are the first i and then n of the rest
take-add : (i n : ℕ) (bytes : List ℕ) → take (i + n) bytes ≡ take i bytes ++ take n (drop i bytes)
take-add i n bytes =
    let front : take i (take (i + n) bytes) ≡ take i bytes = take-take i (i + n) bytes (omega arith) in
    let back : drop i (take (i + n) bytes) ≡ take n (drop i bytes) = drop-take i n bytes in
    rw (← take-append-drop i (take (i + n) bytes), front, back) refl

-- what a write takes of the rest of a list is within the rest
pub le_of_rest : (i n : ℕ) (bytes : List ℕ) → n ≤ length (take (length bytes - i) (drop i bytes)) → n ≤ length bytes - i
le_of_rest i n bytes fits = omega (arith, length-take (length bytes - i) (drop i bytes))

-- a write that took the first n bytes of the rest continues the front that went out
pub Appends-rest : (a b c : Option (List ℕ)) (bytes : List ℕ) (i n : ℕ) → n ≤ length (take (length bytes - i) (drop i bytes)) → Appends a b (take i bytes)
    → Appends b c (take n (take (length bytes - i) (drop i bytes))) → Appends a c (take (i + n) bytes)
Appends-rest a b c bytes i n fits first next =
    let within : n ≤ length bytes - i = le_of_rest i n bytes fits in
    let same : take n (take (length bytes - i) (drop i bytes)) ≡ take n (drop i bytes) = take-take n (length bytes - i) (drop i bytes) within in
    let step : Appends b c (take n (drop i bytes)) = subst (Appends b c) same next in
    subst (Appends a c) (sym (take-add i n bytes)) (Appends-trans a b c (take i bytes) (take n (drop i bytes)) first step)

-- how many bytes there are with the first n of a piece
pub length-more : (bytes piece : List ℕ) (n : ℕ) → n ≤ length piece → length (bytes ++ take n piece) ≡ length bytes + n
length-more bytes piece n within = simp (length-append, length-take) (omega arith)

-- a reading that stops because more bytes came than the limit, and no more than one piece more
pub stops_too_long : (a b : Option (List ℕ)) (bytes : List ℕ) (limit : ℕ) → Consumes a b bytes → limit < length bytes
    → length bytes ≤ limit + READ_PIECE → StopsAfter TooLong limit a b
stops_too_long a b bytes limit came more near = record { bytes = bytes; lost = came; over = (λ _. more, λ _. refl); near = near }

-- a reading that stops for another cause, within the limit
pub stops_within : (stop : ReadStop) → (stop ≡ TooLong → ⊥) → (a b : Option (List ℕ)) (bytes : List ℕ) (limit : ℕ) → Consumes a b bytes → length bytes ≤ limit
    → StopsAfter stop limit a b
stops_within stop apart a b bytes limit came within =
    record { bytes = bytes; lost = came; over = (λ same. absurd (apart same), λ more. absurd (omega arith)); near = omega arith }

-- want of memory is another cause
pub memory_is_other : Memory ≡ TooLong → ⊥
memory_is_other same = cc
