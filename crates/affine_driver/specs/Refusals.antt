-- Why a source is refused.
use Rattle.std.specs.Prelude.{◌≡◌, ◌⊎◌, ℕ, ◌<◌, ◌^◌, List, Some}
use Rattle.affine_ast.specs.declared.module.Module.{Module}
use Rattle.affine_ast.specs.Validity.{first_broken}
use Rattle.affine_ast.specs.PlainLimits.{plain_fault}
use Rattle.affine_grammar.specs.Spelling as grammar
use Rattle.affine_text.specs.declared.fault.ParseFault.{ParseFault}
use Rattle.affine_text.specs.declared.fault.ParseFault.TheVariants as parser
use Rattle.affine_verify.specs.declared.fault.VerifyFault.{VerifyFault}
use Rattle.affine_verify.specs.declared.fault.VerifyFault.TheVariants as rules
use Rattle.bus_model.specs.declared.step.Verdict.{Verdict}
use Rattle.bus_model.specs.declared.step.FaultKind.{FaultKind}
use Rattle.bus_model.specs.declared.step.Verdict.TheVariants as verdict
use Rattle.direct_meaning.specs.Work.{work}
use Rattle.mem_image.specs.declared.parse.ImageFault.{ImageFault}
use Rattle.mem_image.specs.declared.parse.ImageFault.TheVariants as image_fault
use Rattle.mem_image.specs.Images as image
use Rattle.module_regions.specs.declared.fault.LinesFault.{LinesFault}
use Rattle.module_regions.specs.declared.fault.LinesFault.TheVariants as lines
use Rattle.affine_driver.specs.declared.ending.Ending.{Ending}
use Rattle.affine_driver.specs.declared.ending.Ending.TheVariants as ending
use Rattle.affine_driver.specs.declared.refusal.Refusal.{Refusal}
use Rattle.affine_driver.specs.declared.refusal.Refusal.TheVariants.{Text, Invalid, Image, Turns, Fault, Memory}

-- the ending at which a call refuses the source so
abbrev pub ending_of : Refusal → Ending
ending_of (Text line column) = ending.Text line column
ending_of (Invalid line rule) = ending.Invalid line rule
ending_of (Image line rule) = ending.Image line rule
ending_of (Turns count) = ending.Turns count
ending_of (Fault kind) = ending.Fault kind
ending_of Memory = ending.Memory

-- ---- Each refusal and its reason

-- the text spells no module, and this is the first token that can't stand where it stands
abbrev pub SpellsNone : List ℕ → Refusal → Type 0
SpellsNone text refusal = (line : ℕ) × ((column : ℕ) × (grammar.IsRefused text line column × (refusal ≡ Text line column)))

-- the module breaks one of V1 to V12, and this is the first line that breaks one, with the lowest that it breaks
abbrev pub BreaksRule : Module → Refusal → Type 0
BreaksRule input refusal = (line : ℕ) × ((rule : ℕ) × ((first_broken input ≡ Some (line, rule)) × (refusal ≡ Invalid line rule)))

-- the text spells no module, or one that breaks a rule of V1 to V12
abbrev pub IsNotRead : List ℕ → Refusal → Type 0
IsNotRead text refusal = SpellsNone text refusal ⊎ ((input : Module) × (grammar.Spells text input × BreaksRule input refusal))

-- the module breaks V13, first at this line
abbrev pub BreaksLimits : Module → Refusal → Type 0
BreaksLimits input refusal = (line : ℕ) × ((plain_fault input ≡ Some line) × (refusal ≡ Invalid line 13))

-- the text spells no image of the module, and this is the first line that breaks a rule, with the lowest that it breaks
abbrev pub SpellsNoImage : List ℕ → Module → Refusal → Type 0
SpellsNoImage text input refusal = (line : ℕ) × ((rule : ℕ) × (image.IsFirstBroken text input line rule × (refusal ≡ Image line rule)))

-- the most work of a module that is run
abbrev pub work_limit : ℕ
work_limit = 2 ^ 48

-- the work of the module passes the limit
abbrev pub IsTooMuch : Module → Refusal → Type 0
IsTooMuch input refusal = (work_limit < work input) × (refusal ≡ Turns (work input))

-- the run stops at this fault
abbrev pub StopsAt : Verdict → Refusal → Type 0
StopsAt run refusal = (kind : FaultKind) × ((run ≡ verdict.Fault kind) × (refusal ≡ Fault kind))

-- the refusal has its reason, or memory ran out, of which nothing is said
abbrev pub OrMemory : (Refusal → Type 0) → Refusal → Type 0
OrMemory Reason refusal = (refusal ≡ Memory) ⊎ Reason refusal

-- ---- The errors of other crates as refusals

abbrev pub of_parser : ParseFault → Refusal
of_parser (parser.Text line column) = Text line column
of_parser parser.Memory = Memory

abbrev pub of_rules : VerifyFault → Refusal
of_rules (rules.Invalid line rule) = Invalid line rule
of_rules rules.Memory = Memory

abbrev pub of_image : ImageFault → Refusal
of_image (image_fault.Image line rule) = Image line rule
of_image image_fault.Memory = Memory

abbrev pub of_lines : LinesFault → Refusal
of_lines (lines.Plain line) = Invalid line 13
of_lines lines.Memory = Memory
