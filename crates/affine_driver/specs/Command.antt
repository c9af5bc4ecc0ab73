-- Which command the words ask for.
use Rattle.std.specs.Prelude.{◌≡◌, ℕ, if◌then◌else◌, Bool, true, false, List, [], ◌∷◌, Option, Some, None, pos, codes}
use Rattle.std.specs.Str.{bytes_eq}
use Rattle.command_words.specs.declared.options.Value.{Value}
use Rattle.command_words.specs.declared.options.Value.TheVariants.{Flag, Number}
use Rattle.command_words.specs.Options.{is_there, Gives}
use Rattle.command_words.specs.Values.{flag_at, integer_at, natural_at, byte_at, AllFit}
use Rattle.affine_driver.specs.declared.command.Command.{Command}
use Rattle.affine_driver.specs.declared.command.Command.TheVariants as command
use Rattle.affine_driver.specs.declared.command.FirstWord.{FirstWord}
use Rattle.affine_driver.specs.declared.command.FirstWord.TheVariants as first
use Rattle.affine_driver.specs.declared.command.RunOptions.{RunOptions}
use Rattle.affine_driver.specs.declared.command.StageOptions.{StageOptions}
use Rattle.affine_driver.specs.Table.{word_of, name_of, standing_of, options_of}

abbrev pub stage_values : StageOptions → List Value → List Value
stage_values options more = Number (pos options.depth) ∷ Flag options.dma ∷ Flag options.double ∷ Number (pos options.buffers) ∷ Number (pos options.capacity) ∷ more

abbrev pub run_values : RunOptions → List Value → List Value
run_values options more = Number (pos options.capacity) ∷ Number options.filler ∷ Number (pos options.engines) ∷ more

-- the values of a command's options, in the order of its entry
abbrev pub values_of : Command → List Value
values_of command.Check = []
values_of (command.Regions options) = Number (pos options.depth) ∷ []
values_of (command.Stage options) = stage_values options []
values_of command.Plain = []
values_of (command.Run options) = run_values options []
values_of (command.Order options) = run_values options.run (Number (pos options.pick) ∷ [])
values_of (command.Both options) = stage_values options.stage (Number options.filler ∷ Number (pos options.engines) ∷ [])
values_of (command.Sample options) = Number (pos options.number) ∷ []

-- The words ask for this command: the program has it, the first word is its name, and the others give its options their values.
pub record AsksFor (words : List (List ℕ)) (command : Command) : Type 0 where
  pub built : is_there (standing_of (word_of command)) ≡ true
  pub behind : List (List ℕ)
  pub begins : words ≡ name_of (word_of command) ∷ behind
  pub given : Gives (options_of (word_of command)) behind (values_of command)

-- whether the command with this name is one that runs a module by threads
abbrev pub takes_threads : FirstWord → Bool
takes_threads first.Run = true
takes_threads first.Both = true
takes_threads other = false

-- whether the command runs a module by threads
abbrev pub runs_threads : Command → Bool
runs_threads command = takes_threads (word_of command)

-- whether the command asks for doubled loops
abbrev pub asks_doubled : Command → Bool
asks_doubled (command.Stage options) = options.double
asks_doubled (command.Both options) = options.stage.double
asks_doubled other = false

-- the program has this command, its options lie in their ranges, and no loops are doubled, which isn't built
pub record IsAllowed (command : Command) : Type 0 where
  pub built : is_there (standing_of (word_of command)) ≡ true
  pub fit : AllFit (options_of (word_of command)) (values_of command)
  pub single : asks_doubled command ≡ false

-- ---- How the words are read. Nobody has to believe what follows: no clause of the top call speaks of it.

-- the words behind a first word ask for this command
pub record AsksBehind (first : FirstWord) (words : List (List ℕ)) (command : Command) : Type 0 where
  pub is : word_of command ≡ first
  pub built : is_there (standing_of first) ≡ true
  pub given : Gives (options_of first) words (values_of command)

-- the command with this name
abbrev pub first_word : List ℕ → Option FirstWord
first_word w =
    if bytes_eq w (codes "check") then Some first.Check
    else (if bytes_eq w (codes "regions") then Some first.Regions
    else (if bytes_eq w (codes "stage") then Some first.Stage
    else (if bytes_eq w (codes "plain") then Some first.Plain
    else (if bytes_eq w (codes "run") then Some first.Run
    else (if bytes_eq w (codes "order") then Some first.Order
    else (if bytes_eq w (codes "both") then Some first.Both
    else (if bytes_eq w (codes "sample") then Some first.Sample
    else None)))))))

abbrev pub stage_options : List Value → StageOptions
stage_options values = record { depth = byte_at values 0; dma = flag_at values 1; double = flag_at values 2; buffers = byte_at values 3; capacity = natural_at values 4 }

abbrev pub run_options : List Value → RunOptions
run_options values = record { capacity = natural_at values 0; filler = integer_at values 1; engines = byte_at values 2 }

-- the command with these values of its options
abbrev pub command_by : FirstWord → List Value → Command
command_by first.Check values = command.Check
command_by first.Regions values = command.Regions (record { depth = byte_at values 0 })
command_by first.Stage values = command.Stage (stage_options values)
command_by first.Plain values = command.Plain
command_by first.Run values = command.Run (run_options values)
command_by first.Order values = command.Order (record { run = run_options values; pick = natural_at values 3 })
command_by first.Both values = command.Both (record { stage = stage_options values; filler = integer_at values 5; engines = byte_at values 6 })
command_by first.Sample values = command.Sample (record { number = natural_at values 0 })
