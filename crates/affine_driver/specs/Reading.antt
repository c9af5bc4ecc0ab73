-- What a call of the program reads and writes, and why it ends as it does.
use Rattle.std.specs.Prelude.{◌≡◌, ◌↔◌, ℕ, ◌<◌, ◌≤◌, List, length, take, Option}
use Rattle.std.specs.Io.KnownBytes.{Appends, Consumes, IsAtEnd}
use Rattle.affine_driver.specs.declared.command.Command.{Command}
use Rattle.affine_driver.specs.declared.ending.Ending.{Ending}
use Rattle.affine_driver.specs.declared.ending.Ending.TheVariants as end
use Rattle.affine_driver.specs.declared.refusal.Refusal.{Refusal}
use Rattle.affine_driver.specs.declared.refusal.Refusal.TheVariants as refusal
use Rattle.affine_driver.specs.Behaviour.{Refuses, IsOutput}

-- when an ending comes
pub data Moment : Type 0 where
  -- before the source is read: the words ask for nothing, the source failed, or it is too long
  Unread : Moment
  -- at any time before writing: memory ran out
  Wanting : Moment
  -- once the source is read: the bytes are refused so
  Refusing : Refusal → Moment
  -- once the whole output went out
  Written : Moment
  -- while the output goes out: the sink failed
  Cut : Moment

abbrev pub moment_of : Ending → Moment
moment_of end.Done = Written
moment_of end.Words = Unread
moment_of end.ReadFault = Unread
moment_of end.TooLong = Unread
moment_of (end.Text line column) = Refusing (refusal.Text line column)
moment_of (end.Invalid line rule) = Refusing (refusal.Invalid line rule)
moment_of (end.Image line rule) = Refusing (refusal.Image line rule)
moment_of (end.Fault kind) = Refusing (refusal.Fault kind)
moment_of end.WriteFault = Cut
moment_of end.Memory = Wanting
moment_of (end.Turns count) = Refusing (refusal.Turns count)

-- the source was read to its end
abbrev pub IsAfterReading : Moment → Type 0
IsAfterReading Unread = ⊥
IsAfterReading Wanting = ⊥
IsAfterReading (Refusing refusal) = Unit {0}
IsAfterReading Written = Unit {0}
IsAfterReading Cut = Unit {0}

-- nothing was written
abbrev pub IsBeforeWriting : Moment → Type 0
IsBeforeWriting Unread = Unit {0}
IsBeforeWriting Wanting = Unit {0}
IsBeforeWriting (Refusing refusal) = Unit {0}
IsBeforeWriting Written = ⊥
IsBeforeWriting Cut = ⊥

-- an ending that says that the source was read to its end
abbrev pub ComesAfterReading : Ending → Type 0
ComesAfterReading ending = IsAfterReading (moment_of ending)

-- an ending before any writing
abbrev pub ComesBeforeWriting : Ending → Type 0
ComesBeforeWriting ending = IsBeforeWriting (moment_of ending)

-- the whole output of the source under the command went out
pub record WritesWhole (command : Command) (source : List ℕ) (before now : Option (List ℕ)) : Type 0 where
  pub output : List ℕ
  pub is : IsOutput command source output
  pub went : Appends before now output

-- a prefix of the output went out, and not all of it
pub record WritesPart (command : Command) (source : List ℕ) (before now : Option (List ℕ)) : Type 0 where
  pub output : List ℕ
  pub is : IsOutput command source output
  pub count : ℕ
  pub short : count < length output
  pub went : Appends before now (take count output)

-- why a call ends at this moment, where these are the bytes of the source
abbrev pub Explains : Command → List ℕ → Moment → Option (List ℕ) → Option (List ℕ) → Type 0
Explains command source Unread before now = Unit {0}
Explains command source Wanting before now = Unit {0}
Explains command source (Refusing refusal) before now = Refuses command source refusal
Explains command source Written before now = WritesWhole command source before now
Explains command source Cut before now = WritesPart command source before now

-- why the call ends so, where these are the bytes of the source
abbrev pub Because : Command → List ℕ → Ending → Option (List ℕ) → Option (List ℕ) → Type 0
Because command source ending before now = Explains command source (moment_of ending) before now

-- the source gave these bytes, which are all that it had and no more than the limit
pub record Reads (limit : ℕ) (given left : Option (List ℕ)) (bytes : List ℕ) : Type 0 where
  pub lost : Consumes given left bytes
  pub whole : IsAtEnd left
  pub within : length bytes ≤ limit

-- A call under this command: the source gave these bytes, a byte past the limit exactly where the ending is that it is too
-- long, and all that it had where the ending comes after reading; and for this reason the ending is this one.
pub record Answers (limit : ℕ) (command : Command) (ending : Ending) (given left before now : Option (List ℕ)) : Type 0 where
  pub bytes : List ℕ
  pub lost : Consumes given left bytes
  pub over : (ending ≡ end.TooLong) ↔ (limit < length bytes)
  pub whole : ComesAfterReading ending → IsAtEnd left
  pub because : Because command bytes ending before now
