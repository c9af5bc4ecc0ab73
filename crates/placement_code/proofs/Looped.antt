-- One loop more round the copy of an element.
use Rattle.std.proofs.Common.{◌≡◌, ℕ, pos, ◌+◌, ◌<◌, ◌≤◌, List, [], ◌∷◌, drop, length, get_or, sym, ap, ◌∙◌, arith}
use Rattle.std.proofs.lemmas.List.{drop_more, drop_all}
use Rattle.std.proofs.Math.Numerals.{add-one}
use Rattle.affine_ast.specs.declared.name.Name.{Name}
use Rattle.affine_ast.specs.declared.stmt.Stmt.{Stmt}
use Rattle.affine_ast.specs.declared.stmt.What as what
use Rattle.affine_ast.specs.declared.types.Bound.TheVariants as bound
use Rattle.placement_texts.specs.Template.{Dimension}
use Rattle.placement_lists.specs.Statements.{made, loops}

pub loops_turn : (turn : ℕ → Name) (ds : List Dimension) (j left : ℕ) (d : Dimension) (stmts new inner : List Stmt) → j < length ds → d ≡ get_or ds j d → j + 1 ≡ left
    → stmts ≡ loops turn left (drop left ds) inner → new ≡ made (what.For (turn j) (bound.Int (pos 0)) (bound.Int (pos d.extent)) (pos 1) stmts) ∷ [] → new ≡ loops turn j (drop j ds) inner
loops_turn turn ds j left d stmts new inner h is next so made_of =
    made_of
    ∙ ap (λ body. made (what.For (turn j) (bound.Int (pos 0)) (bound.Int (pos d.extent)) (pos 1) body) ∷ []) (so ∙ ap (λ k. loops turn k (drop k ds) inner) (sym next) ∙ ap (λ k. loops turn k (drop (j + 1) ds) inner) (add-one j))
    ∙ ap (λ ds. loops turn j ds inner) (ap (λ d. d ∷ drop (j + 1) ds) is ∙ sym (drop_more ds j d h))

pub loops_end : (turn : ℕ → Name) (ds : List Dimension) (inner : List Stmt) (j : ℕ) → length ds ≡ j → inner ≡ loops turn j (drop j ds) inner
loops_end turn ds inner j e = sym (ap (λ ds. loops turn j ds inner) (drop_all j ds (at_most e)))
  where
    at_most : length ds ≡ j → length ds ≤ j
    at_most e = omega (arith, e)
