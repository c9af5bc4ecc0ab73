-- Short texts, worked: what the reader of the grammar gives on their tokens.
use Rattle.std.proofs.Common.{◌≡◌, ℕ, pos, true, List, [], ◌∷◌, ◌++◌, Some, refl}
use Rattle.std.specs.Prelude.{codes, neg_ℤ}
use Rattle.readers.specs.Readers.{Step, Got, Stop, take_by, many}
use Rattle.readers.specs.Limits.{counted}
use Rattle.affine_lex.specs.declared.token.Kind.TheVariants as k
use Rattle.affine_expr.specs.declared.expr.Expr.{Expr}
use Rattle.affine_expr.specs.declared.expr.Expr.TheVariants as e
use Rattle.affine_ast.specs.declared.types.Access.{Access}
use Rattle.affine_ast.specs.declared.types.Element.TheVariants as el
use Rattle.affine_ast.specs.declared.types.Scalar.TheVariants as sc
use Rattle.affine_ast.specs.declared.types.Bound.{Bound}
use Rattle.affine_ast.specs.declared.types.Bound.TheVariants as bound
use Rattle.affine_ast.specs.declared.stmt.What.TheVariants as what
use Rattle.affine_ast.specs.declared.module.ArgKind.TheVariants as kind
use Rattle.affine_ast.specs.declared.module.Module.{Module}
use Rattle.affine_expr.specs.declared.map.Rel.TheVariants as rel
use Rattle.affine_grammar.specs.declared.words.State.{State}
use Rattle.affine_grammar.specs.declared.words.Leaves.TheVariants as leaves
use Rattle.affine_grammar.specs.Token.{Tok, named, number, comma_within, element_of, scalar_of, product_word, action_of, definition_of}
use Rattle.affine_grammar.specs.Reading.{leaf, other, expression, subscripts, space_type, space_part, shape, memref, signed, parameter_list, symbol_list, params, results, map0, row, rows, set0, values, symbol_values, operands, some_map, some_set, use_of}
use Rattle.affine_grammar.specs.ReadingFile.{bound_of, step_part, turns_of, defined, acted, region, range_end, range_part, arg_kind, arguments, function_body, function, module_of, file}

abbrev word : List ℕ → Tok
word w = counted (record { kind = k.Word; text = w; line = 1; column = 1 })

abbrev value : List ℕ → Tok
value w = counted (record { kind = k.Value; text = w; line = 1; column = 1 })

abbrev sign : ℕ → Tok
sign b = counted (record { kind = k.Punct b; text = b ∷ []; line = 1; column = 1 })

abbrev int : ℕ → Tok
int n = counted (record { kind = k.Int n; text = []; line = 1; column = 1 })

abbrev over : State
over = record { operands = 0; total = 0; dims = named (codes "d0") ∷ []; syms = named (codes "s0") ∷ [] }

abbrev spent : ℕ → State
spent n = record { operands = n; total = n; dims = named (codes "d0") ∷ []; syms = named (codes "s0") ∷ [] }

abbrev Answer : Type 0
Answer = Step Tok (Expr × State)

-- d0 - s0 - 1 is a difference of a difference
left : ◌≡◌ {A = Answer} (expression leaves.Parameters over (word (codes "d0") ∷ sign 45 ∷ word (codes "s0") ∷ sign 45 ∷ int 1 ∷ []))
    (Got (e.Sub (e.Sub (e.Dim 0) (e.Sym 0)) (e.Const (pos 1)), spent 3) [])
unfolding expression other leaf many product_word
left = refl

-- d0 - -9223372036854775808
least : ◌≡◌ {A = Answer} (expression leaves.Parameters over (word (codes "d0") ∷ sign 45 ∷ sign 45 ∷ int 9223372036854775808 ∷ []))
    (Got (e.Sub (e.Dim 0) (e.Const (neg_ℤ (pos 9223372036854775808))), spent 2) [])
unfolding expression other leaf many product_word
least = refl

-- d0 - 9223372036854775808 is refused at the number
past : ◌≡◌ {A = Answer} (expression leaves.Parameters over (word (codes "d0") ∷ sign 45 ∷ int 9223372036854775808 ∷ []))
    (Stop (int 9223372036854775808 ∷ []))
unfolding expression other leaf many product_word
past = refl

-- --d0 is a negation of a negation
twice : ◌≡◌ {A = Answer} (expression leaves.Parameters over (sign 45 ∷ sign 45 ∷ word (codes "d0") ∷ []))
    (Got (e.Neg (e.Neg (e.Dim 0)), spent 1) [])
unfolding expression other leaf many product_word
twice = refl

-- d0 * 2 + s0 mod 2
strong : ◌≡◌ {A = Answer} (expression leaves.Parameters over (word (codes "d0") ∷ sign 42 ∷ int 2 ∷ sign 43 ∷ word (codes "s0") ∷ word (codes "mod") ∷ int 2 ∷ []))
    (Got (e.Add (e.Mul (e.Dim 0) (e.Const (pos 2))) (e.Mod (e.Sym 0) (e.Const (pos 2))), spent 4) [])
unfolding expression other leaf many product_word
strong = refl

-- [%i + symbol(%n), %j - %i] numbers its dimensions %i, %j and its symbol %n by first appearance
numbered : ◌≡◌ {A = Step Tok (Access × ℕ)}
    (subscripts 5 (sign 91 ∷ value (codes "%i") ∷ sign 43 ∷ word (codes "symbol") ∷ sign 40 ∷ value (codes "%n") ∷ sign 41 ∷ sign 44 ∷ value (codes "%j") ∷ sign 45 ∷ value (codes "%i") ∷ sign 93 ∷ []))
    (Got (record { map = record { dims = 2; syms = 1; results = e.Add (e.Dim 0) (e.Sym 0) ∷ e.Sub (e.Dim 1) (e.Dim 0) ∷ [] }; operands = named (codes "i") ∷ named (codes "j") ∷ named (codes "n") ∷ [] }, 9) [])
unfolding expression other leaf many product_word subscripts
numbered = refl

-- func.func @f(%A: memref<4x8xi32>, %n: index {copy.range = [-1, 2:i64]}) {
--   %c = arith.constant -5 : i8
--   affine.for %i = max affine_map<()[s0] -> (0, s0)>()[%n] to 8 step 2 {
--     affine.if affine_set<(d0) : (d0 >= 1)>(%i) { } else { }
--   }
--   return
-- }
abbrev op : ℕ → Tok
op b = sign b

abbrev sizes : List ℕ → Tok
sizes w = counted (record { kind = k.Sizes; text = w; line = 1; column = 1 })

abbrev name : List ℕ → Tok
name w = counted (record { kind = k.Symbol; text = w; line = 1; column = 1 })

abbrev arrow : Tok
arrow = counted (record { kind = k.Arrow; text = codes "->"; line = 1; column = 1 })

abbrev at_least : Tok
at_least = counted (record { kind = k.GreaterEqual; text = codes ">="; line = 1; column = 1 })

abbrev head_tokens : List Tok
head_tokens = word (codes "func.func") ∷ name (codes "@f") ∷ op 40 ∷ value (codes "%A") ∷ op 58 ∷ word (codes "memref") ∷ op 60 ∷ sizes (codes "4x") ∷ sizes (codes "8x") ∷ word (codes "i32") ∷ op 62
    ∷ op 44 ∷ value (codes "%n") ∷ op 58 ∷ word (codes "index") ∷ op 123 ∷ word (codes "copy.range") ∷ op 61 ∷ op 91 ∷ op 45 ∷ int 1 ∷ op 44 ∷ int 2 ∷ op 58 ∷ word (codes "i64") ∷ op 93 ∷ op 125 ∷ op 41 ∷ op 123 ∷ []

abbrev body_tokens : List Tok
body_tokens = value (codes "%c") ∷ op 61 ∷ word (codes "arith.constant") ∷ op 45 ∷ int 5 ∷ op 58 ∷ word (codes "i8")
    ∷ word (codes "affine.for") ∷ value (codes "%i") ∷ op 61 ∷ word (codes "max") ∷ word (codes "affine_map") ∷ op 60 ∷ op 40 ∷ op 41 ∷ op 91 ∷ word (codes "s0") ∷ op 93 ∷ arrow ∷ op 40 ∷ int 0 ∷ op 44 ∷ word (codes "s0") ∷ op 41 ∷ op 62 ∷ op 40 ∷ op 41 ∷ op 91 ∷ value (codes "%n") ∷ op 93
    ∷ word (codes "to") ∷ int 8 ∷ word (codes "step") ∷ int 2 ∷ op 123
    ∷ word (codes "affine.if") ∷ word (codes "affine_set") ∷ op 60 ∷ op 40 ∷ word (codes "d0") ∷ op 41 ∷ op 58 ∷ op 40 ∷ word (codes "d0") ∷ at_least ∷ int 1 ∷ op 41 ∷ op 62 ∷ op 40 ∷ value (codes "%i") ∷ op 41 ∷ op 123 ∷ op 125 ∷ word (codes "else") ∷ op 123 ∷ op 125
    ∷ op 125 ∷ word (codes "return") ∷ op 125 ∷ []

abbrev whole : Module
whole = record {
  name = codes "f";
  args = record { name = named (codes "A"); kind = kind.Memref (record { sizes = 4 ∷ 8 ∷ []; element = el.I32; space = 0 }); line = 1 }
      ∷ record { name = named (codes "n"); kind = kind.Index (Some (record { least = neg_ℤ (pos 1); greatest = pos 2 })); line = 1 } ∷ [];
  body = record { line = 1; what = what.Constant (named (codes "c")) (neg_ℤ (pos 5)) (sc.Int el.I8) }
      ∷ record {
        line = 1;
        what = what.For (named (codes "i")) (bound.Map (record { map = record { dims = 0; syms = 1; results = e.Const (pos 0) ∷ e.Sym 0 ∷ [] }; operands = named (codes "n") ∷ [] })) (bound.Int (pos 8)) (pos 2)
            (record { line = 1; what = what.If (record { dims = 1; syms = 0; rows = record { left = e.Dim 0; rel = rel.Ge; right = e.Const (pos 1) } ∷ [] }) (named (codes "i") ∷ []) [] (Some []) } ∷ []);
      }
      ∷ record { line = 1; what = what.Return } ∷ [];
}

module_read : ◌≡◌ {A = Step Tok Module} (file (head_tokens ++ body_tokens)) (Got whole [])
unfolding file module_of function function_body arguments arg_kind range_part range_end signed memref shape space_part space_type element_of scalar_of many region acted defined turns_of bound_of step_part use_of some_map some_set map0 set0 params parameter_list symbol_list results rows row operands values symbol_values expression other leaf product_word action_of definition_of
module_read = refl

-- a second result without `max` is refused at its comma
several : ◌≡◌ {A = Step Tok (Bound × ℕ)} (bound_of (codes "max") [] 0 (word (codes "affine_map") ∷ op 60 ∷ op 40 ∷ op 41 ∷ arrow ∷ op 40 ∷ int 0 ∷ op 44 ∷ int 1 ∷ op 41 ∷ op 62 ∷ op 40 ∷ op 41 ∷ []))
    (Stop (op 44 ∷ int 1 ∷ op 41 ∷ op 62 ∷ op 40 ∷ op 41 ∷ []))
unfolding bound_of use_of some_map map0 params parameter_list results expression other leaf many product_word signed
several = refl

-- ---- limits

abbrev full : ℕ → ℕ → State
full operands total = record { operands = operands; total = total; dims = []; syms = [] }

-- the 256th operand of an expression stands, and the 257th is refused
last_operand : ◌≡◌ {A = Answer} (take_by (number (full 255 255)) (int 7 ∷ [])) (Got (e.Const (pos 7), full 256 256) [])
last_operand = refl

past_operand : ◌≡◌ {A = Answer} (take_by (number (full 256 256)) (int 7 ∷ [])) (Stop (int 7 ∷ []))
past_operand = refl

-- so is what would be operand number 1,048,577 of a module
past_total : ◌≡◌ {A = Answer} (take_by (number (full 0 1048576)) (int 7 ∷ [])) (Stop (int 7 ∷ []))
past_total = refl

-- the comma before an eighth result stands, and the one before a ninth is refused
last_comma : ◌≡◌ {A = Step Tok (Unit {0})} (take_by (comma_within 8 true 7) (sign 44 ∷ [])) (Got tt [])
last_comma = refl

past_comma : ◌≡◌ {A = Step Tok (Unit {0})} (take_by (comma_within 8 true 8) (sign 44 ∷ [])) (Stop (sign 44 ∷ []))
past_comma = refl
