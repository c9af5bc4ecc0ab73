-- That a source decides the ending of a call.
use Rattle.std.specs.Prelude.{◌≡◌, ◌⊎◌, List, ℕ, Option}
use Rattle.affine_driver.specs.declared.command.Command.{Command}
use Rattle.affine_driver.specs.declared.ending.Ending.{Ending}
use Rattle.affine_driver.specs.declared.ending.Ending.TheVariants.{Done, WriteFault}
use Rattle.affine_driver.specs.declared.refusal.Refusal.{Refusal}
use Rattle.affine_driver.specs.Behaviour.{Refuses, Completes, IsOutput}
use Rattle.affine_driver.specs.Reading.{Moment, Unread, Wanting, Refusing, Written, Cut, moment_of, Because}
use Rattle.affine_driver.specs.Refusals.{ending_of}

-- an ending that the bytes of the source don't decide: it has come before them, or memory ran out
abbrev pub IsUndecided : Moment → Type 0
IsUndecided Unread = Unit {0}
IsUndecided Wanting = Unit {0}
IsUndecided (Refusing refusal) = ⊥
IsUndecided Written = ⊥
IsUndecided Cut = ⊥

abbrev pub IsOpen : Ending → Type 0
IsOpen ending = IsUndecided (moment_of ending)

-- an ending at which the output was built: all of it went out, or the sink failed
abbrev pub IsBuilt : Ending → Type 0
IsBuilt answer = (answer ≡ Done) ⊎ (answer ≡ WriteFault)

-- The bytes of the source decide the ending, want of memory aside: a refusal that has its reason is the ending, and where the source
-- has what the command asks for, the output was built.
pub record IsExact (command : Command) (source : List ℕ) (ending : Ending) : Type 0 where
  pub refused : (refusal : Refusal) → Refuses command source refusal → IsOpen ending ⊎ (ending ≡ ending_of refusal)
  pub complete : Completes command source → IsOpen ending ⊎ IsBuilt ending

-- every ending that has its reason is exact
abbrev pub EndingsAreExact : Type 0
EndingsAreExact =
    (command : Command) (source : List ℕ) (ending : Ending) (before now : Option (List ℕ)) → Because command source ending before now → IsExact command source ending

-- a source has one output under each command
abbrev pub HasOneOutput : Type 0
HasOneOutput = (command : Command) (source output other : List ℕ) → IsOutput command source output → IsOutput command source other → output ≡ other
