-- The exit status and the message of each ending.
use Rattle.std.specs.Prelude.{ℕ, List, [], ◌++◌, codes}
use Rattle.std.specs.Fmt.{decimal}
use Rattle.bus_model.specs.declared.step.FaultKind.{FaultKind}
use Rattle.bus_model.specs.declared.step.FaultKind.TheVariants.{Bounds, Divide, Touched, Race, Tag, Capacity, Shape}
use Rattle.affine_driver.specs.declared.ending.Ending.{Ending}
use Rattle.affine_driver.specs.declared.ending.Ending.TheVariants.{Done, Words, ReadFault, TooLong, Text, Invalid, Image, Fault, WriteFault, Memory, Turns}

abbrev pub status_of : Ending → ℕ
status_of Done = 0
status_of Words = 1
status_of ReadFault = 2
status_of TooLong = 3
status_of (Text line column) = 4
status_of (Invalid line rule) = 5
status_of (Image line rule) = 6
status_of (Fault kind) = 7
status_of WriteFault = 8
status_of Memory = 9
status_of (Turns work) = 10

-- a fault's name
abbrev pub fault_name : FaultKind → List ℕ
fault_name Bounds = codes "bounds"
fault_name Divide = codes "divide"
fault_name Touched = codes "touched"
fault_name Race = codes "race"
fault_name Tag = codes "tag"
fault_name Capacity = codes "capacity"
fault_name Shape = codes "shape"

-- the bytes of the message on standard error, without a line feed
abbrev pub message_of : Ending → List ℕ
message_of Done = []
message_of Words = codes "affine: words"
message_of ReadFault = codes "affine: read fault"
message_of TooLong = codes "affine: source too long"
message_of (Text line column) = codes "affine: text " ++ (decimal line ++ (codes ":" ++ decimal column))
message_of (Invalid line rule) = codes "affine: invalid line " ++ (decimal line ++ (codes " rule V" ++ decimal rule))
message_of (Image line rule) = codes "affine: image line " ++ (decimal line ++ (codes " rule I" ++ decimal rule))
message_of (Fault kind) = codes "affine: fault " ++ fault_name kind
message_of (Turns work) = codes "affine: turns " ++ decimal work
message_of WriteFault = codes "affine: write fault"
message_of Memory = codes "affine: out of memory"
