-- The commands of the program: names, options, and whether the program has them.
use Rattle.std.specs.Prelude.{◌≡◌, ℕ, pos, neg_ℤ, List, [], ◌∷◌, Some, None, codes}
use Rattle.command_words.specs.declared.options.Standing.{Standing}
use Rattle.command_words.specs.declared.options.Takes.{Takes}
use Rattle.command_words.specs.declared.options.Takes.TheVariants.{Flag, Number}
use Rattle.command_words.specs.declared.options.Standing.TheVariants.{Built, Unbuilt}
use Rattle.command_words.specs.Options.{OptionRule}
use Rattle.affine_driver.specs.declared.command.Command.{Command}
use Rattle.affine_driver.specs.declared.command.Command.TheVariants as command
use Rattle.affine_driver.specs.declared.command.FirstWord.{FirstWord}
use Rattle.affine_driver.specs.declared.command.FirstWord.TheVariants as first
use Rattle.affine_driver.specs.declared.table.TheConstants.{CHECK, REGIONS, REGIONS_DEPTH, STAGE, STAGE_DEPTH, STAGE_DMA, STAGE_DOUBLE, STAGE_BUFFERS, STAGE_CAPACITY, PLAIN, RUN, RUN_CAPACITY, RUN_FILLER, RUN_ENGINES, ORDER, ORDER_CAPACITY, ORDER_FILLER, ORDER_ENGINES, ORDER_PICK, BOTH, BOTH_DEPTH, BOTH_DMA, BOTH_DOUBLE, BOTH_BUFFERS, BOTH_CAPACITY, BOTH_FILLER, BOTH_ENGINES, SAMPLE, SAMPLE_NUMBER}
use Rattle.affine_driver.specs.declared.table.TheConstants.{DEPTH, BUFFERS, CAPACITY, FILLER, ENGINES, PICK, NUMBER}
use Rattle.affine_driver.specs.declared.limits.TheConstants.{SOURCE_LIMIT}

-- an option that needs no flag
abbrev pub alone : List ℕ → Takes → Standing → OptionRule
alone name takes standing = record { name = name; takes = takes; needs = None; standing = standing }

-- an option that needs a flag
abbrev pub behind : List ℕ → List ℕ → Takes → Standing → OptionRule
behind flag name takes standing = record { name = name; takes = takes; needs = Some flag; standing = standing }

-- the command without its options
abbrev pub word_of : Command → FirstWord
word_of command.Check = first.Check
word_of (command.Regions options) = first.Regions
word_of (command.Stage options) = first.Stage
word_of command.Plain = first.Plain
word_of (command.Run options) = first.Run
word_of (command.Order options) = first.Order
word_of (command.Both options) = first.Both
word_of (command.Sample options) = first.Sample

abbrev pub name_of : FirstWord → List ℕ
name_of first.Check = codes "check"
name_of first.Regions = codes "regions"
name_of first.Stage = codes "stage"
name_of first.Plain = codes "plain"
name_of first.Run = codes "run"
name_of first.Order = codes "order"
name_of first.Both = codes "both"
name_of first.Sample = codes "sample"

-- whether the program has the command
abbrev pub standing_of : FirstWord → Standing
standing_of first.Check = CHECK
standing_of first.Regions = REGIONS
standing_of first.Stage = STAGE
standing_of first.Plain = PLAIN
standing_of first.Run = RUN
standing_of first.Order = ORDER
standing_of first.Both = BOTH
standing_of first.Sample = SAMPLE

abbrev pub options_of : FirstWord → List OptionRule
options_of first.Check = []
options_of first.Regions = alone (codes "depth") DEPTH REGIONS_DEPTH ∷ []
options_of first.Stage =
    alone (codes "depth") DEPTH STAGE_DEPTH ∷ alone (codes "dma") Flag STAGE_DMA ∷ behind (codes "dma") (codes "double") Flag STAGE_DOUBLE
    ∷ behind (codes "double") (codes "buffers") BUFFERS STAGE_BUFFERS ∷ alone (codes "capacity") CAPACITY STAGE_CAPACITY ∷ []
options_of first.Plain = []
options_of first.Run = alone (codes "capacity") CAPACITY RUN_CAPACITY ∷ alone (codes "filler") FILLER RUN_FILLER ∷ alone (codes "engines") ENGINES RUN_ENGINES ∷ []
options_of first.Order =
    alone (codes "capacity") CAPACITY ORDER_CAPACITY ∷ alone (codes "filler") FILLER ORDER_FILLER ∷ alone (codes "engines") ENGINES ORDER_ENGINES
    ∷ alone (codes "pick") PICK ORDER_PICK ∷ []
options_of first.Both =
    alone (codes "depth") DEPTH BOTH_DEPTH ∷ alone (codes "dma") Flag BOTH_DMA ∷ behind (codes "dma") (codes "double") Flag BOTH_DOUBLE
    ∷ behind (codes "double") (codes "buffers") BUFFERS BOTH_BUFFERS ∷ alone (codes "capacity") CAPACITY BOTH_CAPACITY
    ∷ alone (codes "filler") FILLER BOTH_FILLER ∷ alone (codes "engines") ENGINES BOTH_ENGINES ∷ []
options_of first.Sample = alone (codes "number") NUMBER SAMPLE_NUMBER ∷ []

-- the ranges of numbers, both ends counted, and their defaults; the commands and options that the program has, and the options of
-- `stage` and `both` that it hasn't; and the most bytes of a source
pub record IsAsWritten : Type 0 where
  pub depth : DEPTH ≡ Number (pos 0) (pos 7) (pos 0)
  pub buffers : BUFFERS ≡ Number (pos 2) (pos 8) (pos 2)
  pub capacity : CAPACITY ≡ Number (pos 1) (pos 67108864) (pos 1048576)
  pub filler : FILLER ≡ Number (neg_ℤ (pos 9223372036854775808)) (pos 9223372036854775807) (pos 0)
  pub engines : ENGINES ≡ Number (pos 1) (pos 16) (pos 2)
  pub pick : PICK ≡ Number (pos 0) (pos 9223372036854775807) (pos 0)
  pub number : NUMBER ≡ Number (pos 0) (pos 999999) (pos 0)
  pub check : standing_of first.Check ≡ Built
  pub regions : standing_of first.Regions ≡ Built
  pub stage : standing_of first.Stage ≡ Built
  pub plain : standing_of first.Plain ≡ Built
  pub run : standing_of first.Run ≡ Built
  pub both : standing_of first.Both ≡ Built
  pub order : standing_of first.Order ≡ Built
  pub regions_depth : REGIONS_DEPTH ≡ Built
  pub run_capacity : RUN_CAPACITY ≡ Built
  pub run_filler : RUN_FILLER ≡ Built
  pub run_engines : RUN_ENGINES ≡ Built
  pub order_capacity : ORDER_CAPACITY ≡ Built
  pub order_filler : ORDER_FILLER ≡ Built
  pub order_engines : ORDER_ENGINES ≡ Built
  pub order_pick : ORDER_PICK ≡ Built
  pub both_filler : BOTH_FILLER ≡ Built
  pub both_engines : BOTH_ENGINES ≡ Built
  pub stage_depth : STAGE_DEPTH ≡ Built
  pub stage_dma : STAGE_DMA ≡ Built
  pub stage_capacity : STAGE_CAPACITY ≡ Built
  pub both_depth : BOTH_DEPTH ≡ Built
  pub both_dma : BOTH_DMA ≡ Built
  pub both_capacity : BOTH_CAPACITY ≡ Built
  pub stage_double : STAGE_DOUBLE ≡ Unbuilt
  pub stage_buffers : STAGE_BUFFERS ≡ Unbuilt
  pub both_double : BOTH_DOUBLE ≡ Unbuilt
  pub both_buffers : BOTH_BUFFERS ≡ Unbuilt
  pub source : SOURCE_LIMIT ≡ 4194304
