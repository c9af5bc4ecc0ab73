-- One step of the loops over outer variables and over dimensions.
use Rattle.std.proofs.Common.{◌≡◌, ℕ, ◌+◌, ◌<◌, ◌≤◌, ℤ, pos, true, false, List, [], ◌∷◌, ◌++◌, drop, length, get_or, sym, ap, ◌∙◌, subst}
use Rattle.std.specs.Prelude.{All, if◌then◌else◌}
use Rattle.std.specs.Ordering.{int_eq}
use Rattle.std.proofs.lemmas.List.{drop_more, drop_all, append_assoc, append-nil}
use Rattle.std.proofs.lemmas.List.Elements.{All-get_or}
use Rattle.affine_ast.specs.declared.name.Name.{Name}
use Rattle.nest_domain.specs.Boxes as region
use Rattle.placement_texts.specs.Template.{Dimension}
use Rattle.valid_laws.specs.Safe.{IsSmall}
use Rattle.placement_regions.specs.Sites.{terms_over, dim_over, dims_over}
use Rattle.planned_placements.specs.Writable.{IsWritable, AreWritable}

both : (ns : List Name) (cs : List ℤ) (i : ℕ) (n : Name) (a : ℤ) → i < length ns → i < length cs → n ≡ get_or ns i n → a ≡ get_or cs i a
    → terms_over (drop i ns) (drop i cs) ≡ (if int_eq a (pos 0) then terms_over (drop (i + 1) ns) (drop (i + 1) cs) else (n, a) ∷ terms_over (drop (i + 1) ns) (drop (i + 1) cs))
both ns cs i n a h k is value =
    ap (λ xs. terms_over xs (drop i cs)) (drop_more ns i n h ∙ ap (λ n. n ∷ drop (i + 1) ns) (sym is))
    ∙ ap (terms_over (n ∷ drop (i + 1) ns)) (drop_more cs i a k ∙ ap (λ a. a ∷ drop (i + 1) cs) (sym value))

pub terms_more : (ns : List Name) (cs : List ℤ) (i : ℕ) (n : Name) (a : ℤ) (term : Name × ℤ) (out new total : List (Name × ℤ)) → i < length ns → i < length cs → n ≡ get_or ns i n → a ≡ get_or cs i a
    → int_eq a (pos 0) ≡ false → term ≡ (n, a) → new ≡ out ++ term ∷ [] → total ≡ out ++ terms_over (drop i ns) (drop i cs) → total ≡ new ++ terms_over (drop (i + 1) ns) (drop (i + 1) cs)
terms_more ns cs i n a term out new total h k is value there made pushed so =
    so ∙ ap (λ ts. out ++ ts) (both ns cs i n a h k is value)
    ∙ ap (λ b. out ++ (if b then terms_over (drop (i + 1) ns) (drop (i + 1) cs) else (n, a) ∷ terms_over (drop (i + 1) ns) (drop (i + 1) cs))) there
    ∙ ap (λ t. out ++ (t ∷ terms_over (drop (i + 1) ns) (drop (i + 1) cs))) (sym made)
    ∙ sym (append_assoc out (term ∷ []) (terms_over (drop (i + 1) ns) (drop (i + 1) cs)))
    ∙ ap (λ out. out ++ terms_over (drop (i + 1) ns) (drop (i + 1) cs)) (sym pushed)

pub terms_less : (ns : List Name) (cs : List ℤ) (i : ℕ) (n : Name) (a : ℤ) (out total : List (Name × ℤ)) → i < length ns → i < length cs → n ≡ get_or ns i n → a ≡ get_or cs i a
    → int_eq a (pos 0) ≡ true → total ≡ out ++ terms_over (drop i ns) (drop i cs) → total ≡ out ++ terms_over (drop (i + 1) ns) (drop (i + 1) cs)
terms_less ns cs i n a out total h k is value there so =
    so ∙ ap (λ ts. out ++ ts) (both ns cs i n a h k is value)
    ∙ ap (λ b. out ++ (if b then terms_over (drop (i + 1) ns) (drop (i + 1) cs) else (n, a) ∷ terms_over (drop (i + 1) ns) (drop (i + 1) cs))) there

pub terms_end : (ns : List Name) (cs : List ℤ) (i : ℕ) (out total : List (Name × ℤ)) → length ns ≤ i → total ≡ out ++ terms_over (drop i ns) (drop i cs) → out ≡ total
terms_end ns cs i out total h so = sym (so ∙ ap (λ xs. out ++ terms_over xs (drop i cs)) (drop_all i ns h) ∙ append-nil out)

pub small_at : (cs : List ℤ) (i : ℕ) (a : ℤ) → i < length cs → All IsSmall cs → IsSmall (get_or cs i a)
small_at cs i a h small = All-get_or IsSmall cs i a h small

pub dims_more : (ns : List Name) (ds : List region.Dimension) (sizes : List ℕ) (i : ℕ) (d : region.Dimension) (size : ℕ) (made : Dimension) (out new total : List Dimension) → i < length ds → i < length sizes
    → d ≡ get_or ds i d → size ≡ get_or sizes i size → made ≡ dim_over ns d size → new ≡ out ++ made ∷ []
    → total ≡ out ++ dims_over ns (drop i ds) (drop i sizes) → total ≡ new ++ dims_over ns (drop (i + 1) ds) (drop (i + 1) sizes)
dims_more ns ds sizes i d size made out new total h k is value made_is pushed so =
    so
    ∙ ap (λ xs. out ++ dims_over ns xs (drop i sizes)) (drop_more ds i d h ∙ ap (λ d. d ∷ drop (i + 1) ds) (sym is))
    ∙ ap (λ xs. out ++ dims_over ns (d ∷ drop (i + 1) ds) xs) (drop_more sizes i size k ∙ ap (λ s. s ∷ drop (i + 1) sizes) (sym value))
    ∙ ap (λ x. out ++ (x ∷ dims_over ns (drop (i + 1) ds) (drop (i + 1) sizes))) (sym made_is)
    ∙ sym (append_assoc out (made ∷ []) (dims_over ns (drop (i + 1) ds) (drop (i + 1) sizes)))
    ∙ ap (λ out. out ++ dims_over ns (drop (i + 1) ds) (drop (i + 1) sizes)) (sym pushed)

pub dims_end : (ns : List Name) (ds : List region.Dimension) (sizes : List ℕ) (i : ℕ) (out total : List Dimension) → length ds ≤ i → total ≡ out ++ dims_over ns (drop i ds) (drop i sizes) → out ≡ total
dims_end ns ds sizes i out total h so = sym (so ∙ ap (λ xs. out ++ dims_over ns xs (drop i sizes)) (drop_all i ds h) ∙ append-nil out)

pub writable_at : (outer : ℕ) (ds : List region.Dimension) (i : ℕ) (d : region.Dimension) → i < length ds → d ≡ get_or ds i d → AreWritable outer ds → IsWritable outer d
writable_at outer ds i d h is written = subst (IsWritable outer) (sym is) (All-get_or (IsWritable outer) ds i d h written)
