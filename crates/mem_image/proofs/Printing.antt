-- The printed text, line by line.
use Rattle.std.proofs.Common.{◌≡◌, ℕ, suc, ◌+◌, ◌<◌, ◌≤◌, List, [], ◌∷◌, ◌++◌, length, drop, get_or, flat_map, ℤ, refl, sym, ◌∙◌, ap}
use Rattle.std.proofs.Math.Numerals.{add-one}
use Rattle.std.proofs.Math.Seq.{drop-cons}
use Rattle.std.proofs.lemmas.List.{append_assoc, append-nil, drop_all}
use Rattle.affine_ast.specs.declared.image.Cells.{Cells}
use Rattle.affine_ast.specs.declared.module.Arg.{Arg}
use Rattle.mem_image.specs.Images.{row, own_numbers, memrefs_behind, symbols_behind, rows, printed_row}

-- an element in its list
pub drop_at : {X : Type 0} (items : List X) (i : ℕ) (item : X) → i < length items → item ≡ get_or items i item → drop i items ≡ item ∷ drop (i + 1) items
drop_at items i item h e = drop-cons items i item h ∙ ap (λ x. x ∷ drop (suc i) items) (sym e) ∙ ap (λ n. item ∷ drop n items) (sym (add-one i))

rows_cons : (arg : Arg) (args : List Arg) (ms : List Cells) (ss : List ℤ) → rows (arg ∷ args) ms ss ≡ row arg.name.text (own_numbers arg.kind ms ss) ∷ rows args (memrefs_behind arg.kind ms) (symbols_behind arg.kind ss)
unfolding rows
rows_cons arg args ms ss = refl

rows_nil : (ms : List Cells) (ss : List ℤ) → rows [] ms ss ≡ []
unfolding rows
rows_nil ms ss = refl

rows_at : (items : List Arg) (i : ℕ) (arg : Arg) (ms : List Cells) (ss : List ℤ) → i < length items → arg ≡ get_or items i arg → rows (drop i items) ms ss ≡ row arg.name.text (own_numbers arg.kind ms ss) ∷ rows (drop (i + 1) items) (memrefs_behind arg.kind ms) (symbols_behind arg.kind ss)
rows_at items i arg ms ss h e = ap (λ args. rows args ms ss) (drop_at items i arg h e) ∙ rows_cons arg (drop (i + 1) items) ms ss

pub print_step : (items : List Arg) (i : ℕ) (arg : Arg) (ms ms2 : List Cells) (ss ss2 numbers : List ℤ) (name before after total : List ℕ) → i < length items → arg ≡ get_or items i arg → name ≡ arg.name.text → numbers ≡ own_numbers arg.kind ms ss
    → ms2 ≡ memrefs_behind arg.kind ms → ss2 ≡ symbols_behind arg.kind ss → after ≡ before ++ printed_row (row name numbers) → total ≡ before ++ flat_map printed_row (rows (drop i items) ms ss)
    → total ≡ after ++ flat_map printed_row (rows (drop (i + 1) items) ms2 ss2)
print_step items i arg ms ms2 ss ss2 numbers name before after total h e n k m s a t =
    rw (a, m, s, n, k) (t ∙ ap (λ all. before ++ flat_map printed_row all) (rows_at items i arg ms ss h e) ∙ sym (append_assoc before (printed_row (row arg.name.text (own_numbers arg.kind ms ss))) (flat_map printed_row (rows (drop (i + 1) items) (memrefs_behind arg.kind ms) (symbols_behind arg.kind ss)))))

pub print_end : (items : List Arg) (i : ℕ) (ms : List Cells) (ss : List ℤ) (before total : List ℕ) → length items ≤ i → total ≡ before ++ flat_map printed_row (rows (drop i items) ms ss) → before ≡ total
print_end items i ms ss before total h t =
    sym (t ∙ ap (λ args. before ++ flat_map printed_row (rows args ms ss)) (drop_all i items h) ∙ ap (λ all. before ++ flat_map printed_row all) (rows_nil ms ss) ∙ append-nil before)
