-- The one kind of expression that is printed with more levels than it has in a text, worked.
use Rattle.std.proofs.Common.{◌≡◌, ℕ, zero, suc, pos, List, [], ◌∷◌, refl}
use Rattle.readers.specs.Readers.{Step, Got, Stop, many}
use Rattle.readers.specs.Limits.{counted}
use Rattle.affine_lex.specs.declared.token.Kind.TheVariants as k
use Rattle.affine_expr.specs.declared.expr.Expr.{Expr}
use Rattle.affine_expr.specs.declared.expr.Expr.TheVariants as e
use Rattle.affine_grammar.specs.declared.words.State.{State}
use Rattle.affine_grammar.specs.declared.words.Leaves.TheVariants as leaves
use Rattle.affine_grammar.specs.Token.{Tok, product_word}
use Rattle.affine_grammar.specs.Reading.{leaf, other, expression}

abbrev sign : ℕ → Tok
sign b = counted (record { kind = k.Punct b; text = b ∷ []; line = 1; column = 1 })

abbrev nought : Tok
nought = counted (record { kind = k.Int 0; text = 48 ∷ []; line = 1; column = 1 })

abbrev spent : ℕ → State
spent n = record { operands = n; total = n; dims = []; syms = [] }

abbrev minuses : ℕ → List Tok → List Tok
minuses zero ts = ts
minuses (suc n) ts = sign 45 ∷ minuses n ts

abbrev negations : ℕ → Expr
negations zero = e.Const (pos 0)
negations (suc n) = e.Neg (negations n)

abbrev Answer : Type 0
Answer = Step Tok (Expr × State)

-- 129 signs and a 0 are a text: 128 negations of -0, which is 0
deepest : ◌≡◌ {A = Answer} (expression leaves.Parameters (spent 0) (minuses 129 (nought ∷ []))) (Got (negations 128, spent 1) [])
unfolding expression other leaf many product_word
deepest = refl

-- and what is printed for it, 128 signs and (0), is refused at its parenthesis
too_deep : ◌≡◌ {A = Answer} (expression leaves.Parameters (spent 0) (minuses 128 (sign 40 ∷ nought ∷ sign 41 ∷ []))) (Stop (sign 40 ∷ nought ∷ sign 41 ∷ []))
unfolding expression other leaf many product_word
too_deep = refl

-- one negation fewer is a text
within : ◌≡◌ {A = Answer} (expression leaves.Parameters (spent 0) (minuses 127 (sign 40 ∷ nought ∷ sign 41 ∷ []))) (Got (negations 127, spent 1) [])
unfolding expression other leaf many product_word
within = refl
