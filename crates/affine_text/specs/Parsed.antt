-- What the parser's answer says of the bytes of a text.
use Rattle.std.specs.Prelude.{◌≡◌, ℕ, List, Result, Ok, Err}
use Rattle.affine_ast.specs.declared.module.Module.{Module}
use Rattle.affine_lex.specs.declared.token.Token.{Token}
use Rattle.affine_grammar.specs.Token.{Tok}
use Rattle.affine_grammar.specs.Spelling.{Spells, IsRefused, Stands}
use Rattle.affine_text.specs.declared.fault.ParseFault.{ParseFault}
use Rattle.affine_text.specs.declared.fault.ParseFault.TheVariants as fault

-- They spell the module that it gives, or they spell none and are refused at
-- this place. Where memory ran out it says nothing.
abbrev pub Parses : Result Module ParseFault → List ℕ → Type 0
Parses (Ok m) source = Spells source m
Parses (Err (fault.Text line column)) source = IsRefused source line column
Parses (Err fault.Memory) source = Unit {0}

-- the parser's answer where the bytes spell this module: the module, or that memory ran out
abbrev pub Allows : Result Module ParseFault → Module → Type 0
Allows (Ok m) meant = m ≡ meant
Allows (Err (fault.Text line column)) meant = ⊥
Allows (Err fault.Memory) meant = Unit {0}

-- the fault at the first of the tokens that are left, or at the end where there is none
abbrev pub RefusesAt : ParseFault → List Tok → Token → Type 0
RefusesAt (fault.Text line column) left end = Stands left end line column
RefusesAt fault.Memory left end = ⊥
