-- Modules that differ in lines alone have one printed spelling.
use Rattle.std.proofs.Common.{◌≡◌, ℕ, List, [], ◌∷◌, ◌++◌, map, flat_map, codes, refl, sym, ap, ◌∙◌}
use Rattle.affine_ast.specs.declared.module.Arg.{Arg}
use Rattle.affine_ast.specs.declared.module.Module.{Module}
use Rattle.affine_ast.specs.Nest.{Nest, Nothing, Loop, Branch, Does, nest}
use Rattle.affine_ast.specs.Spelling.{lines, line_text, block_text, for_text, if_text, else_text, deeper, plain_text, listed, arg_text, args_text, head_text, spelling}
use Rattle.printed_texts.specs.Lines.{unlined, unlined_argument, AreSameButLines}

lines_unlined : (margin : List ℕ) (n : Nest) → lines margin (unlined n) ≡ lines margin n
unfolding lines
lines_unlined margin Nothing = refl
lines_unlined margin (Loop line v lower upper s body rest) =
    ap (λ l. line_text margin (block_text margin (for_text v lower upper s) l) ++ lines margin (unlined rest)) (lines_unlined (deeper margin) body)
    ∙ ap (λ l. line_text margin (block_text margin (for_text v lower upper s) (lines (deeper margin) body)) ++ l) (lines_unlined margin rest)
lines_unlined margin (Branch line set names first has other rest) =
    ap (λ l. line_text margin (block_text margin (if_text set names) (l ++ else_text margin has (lines (deeper margin) (unlined other)))) ++ lines margin (unlined rest)) (lines_unlined (deeper margin) first)
    ∙ ap (λ l. line_text margin (block_text margin (if_text set names) (lines (deeper margin) first ++ else_text margin has l)) ++ lines margin (unlined rest)) (lines_unlined (deeper margin) other)
    ∙ ap (λ l. line_text margin (block_text margin (if_text set names) (lines (deeper margin) first ++ else_text margin has (lines (deeper margin) other))) ++ l) (lines_unlined margin rest)
lines_unlined margin (Does line p rest) = ap (λ l. line_text margin (plain_text p) ++ l) (lines_unlined margin rest)

more_unlined : (args : List Arg) → flat_map (λ a. codes ", " ++ arg_text a) (map unlined_argument args) ≡ flat_map (λ a. codes ", " ++ arg_text a) args
unfolding arg_text
more_unlined [] = refl
more_unlined (a ∷ args) = ap (λ l. (codes ", " ++ arg_text a) ++ l) (more_unlined args)

listed_unlined : (args : List Arg) → listed arg_text (map unlined_argument args) ≡ listed arg_text args
unfolding listed arg_text
listed_unlined [] = refl
listed_unlined (a ∷ args) = ap (λ l. arg_text a ++ l) (more_unlined args)

pub same_spelling : (m n : Module) → AreSameButLines m n → spelling m ≡ spelling n
unfolding spelling head_text args_text
same_spelling m n h =
    let body : lines (codes "    ") (nest m.body) ≡ lines (codes "    ") (nest n.body) = sym (lines_unlined (codes "    ") (nest m.body)) ∙ ap (lines (codes "    ")) h.body ∙ lines_unlined (codes "    ") (nest n.body) in
    let args : listed arg_text m.args ≡ listed arg_text n.args = sym (listed_unlined m.args) ∙ ap (λ l. listed arg_text l) h.args ∙ listed_unlined n.args in
    ap (λ x. codes "module {\n" ++ ((codes "  func.func @" ++ (x ++ (codes "(" ++ (listed arg_text m.args ++ codes ") {\n")))) ++ (lines (codes "    ") (nest m.body) ++ codes "  }\n}\n"))) h.name
    ∙ ap (λ x. codes "module {\n" ++ ((codes "  func.func @" ++ (n.name ++ (codes "(" ++ (x ++ codes ") {\n")))) ++ (lines (codes "    ") (nest m.body) ++ codes "  }\n}\n"))) args
    ∙ ap (λ x. codes "module {\n" ++ ((codes "  func.func @" ++ (n.name ++ (codes "(" ++ (listed arg_text n.args ++ codes ") {\n")))) ++ (x ++ codes "  }\n}\n"))) body
