-- What a call comes to, from what it read and what it made of it.
use Rattle.std.proofs.Common.{◌≡◌, ℕ, List, Bool, Option, sym, subst, ◌∙◌, arith, inl, inr}
use Rattle.std.specs.Prelude.{◌⊎◌, ◌↔◌}
use Rattle.affine_driver.specs.declared.command.Command.{Command}
use Rattle.affine_driver.specs.declared.ending.Ending.{Ending}
use Rattle.affine_driver.specs.declared.ending.Ending.TheVariants.{Words, TooLong, Memory}
use Rattle.affine_driver.specs.Command.{AsksFor, runs_threads}
use Rattle.affine_driver.specs.Headline.{AskForNone, Decides}
use Rattle.affine_driver.specs.Laws.{EndingsAreExact}
use Rattle.affine_driver.specs.Reading.{Reads, Answers, Because, ComesAfterReading}

-- what comes behind reading, or is want of memory, isn't a word that asks for nothing
not_words : (e : Ending) → ComesAfterReading e ⊎ (e ≡ Memory) → e ≡ Words → ⊥
not_words e (inl h) k = subst ComesAfterReading k h
not_words e (inr h) k = let z : Memory ≡ Words = sym h ∙ k in absurd (let y : ⊥ = cc in y)

not_too_long : (e : Ending) → ComesAfterReading e ⊎ (e ≡ Memory) → e ≡ TooLong → ⊥
not_too_long e (inl h) k = subst ComesAfterReading k h
not_too_long e (inr h) k = let z : Memory ≡ TooLong = sym h ∙ k in absurd (let y : ⊥ = cc in y)

-- a call that ended before the whole source was read
pub decided_early : (limit : ℕ) (command : Command) (e : Ending) (given left before : Option (List ℕ)) → EndingsAreExact → Answers limit command e given left before before → Decides limit command e given left before before
decided_early limit command e given left before exact a = record { answers = a; exact = exact command a.bytes e before before a.because }

-- a call that read the whole source
pub decided : (limit : ℕ) (command : Command) (e : Ending) (given left before now : Option (List ℕ)) (bytes : List ℕ) → EndingsAreExact → Reads limit given left bytes → ComesAfterReading e ⊎ (e ≡ Memory) → Because command bytes e before now
    → Decides limit command e given left before now
decided limit command e given left before now bytes exact read late because =
    let within = read.within in
    record {
      answers = record { bytes = bytes; lost = read.lost; over = (λ h. absurd (not_too_long e late h), λ h. absurd (omega (arith, within, h))); whole = λ h. read.whole; because = because };
      exact = exact command bytes e before now because;
    }

-- a command was asked for, so there is one
pub asked : (words : List (List ℕ)) (command : Command) (threads : Bool) (e : Ending) → AsksFor words command → runs_threads command ≡ threads → ComesAfterReading e ⊎ (e ≡ Memory) → (e ≡ Words) ↔ AskForNone threads words
asked words command threads e asks own late = (λ h. absurd (not_words e late h), λ none. absurd (none command asks own))
