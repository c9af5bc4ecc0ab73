-- The laws of image texts.
use Rattle.std.proofs.Common.{◌≡◌, ℕ, suc, ◌⊎◌, inl, inr, List, [], length, ℤ, refl, sym, ◌∙◌}
use Rattle.std.specs.Str.Lines.{lines}
use Rattle.affine_ast.specs.declared.image.Cells.{Cells}
use Rattle.affine_ast.specs.declared.image.Image.{Image}
use Rattle.affine_ast.specs.declared.module.Module.{Module}
use Rattle.mem_image.specs.Images.{Spells, IsFirstBroken}
use Rattle.mem_image.specs.Laws.{SpellsOne, BreaksOne, NotBoth, OneOfBoth}
use Rattle.mem_image.specs.Lines.{written}
use Rattle.mem_image.proofs.Broken.{broken_is, rule_told}
use Rattle.mem_image.proofs.Spelled.{read_spells, spells_read}
use Rattle.mem_image.proofs.Told.{Told, Broken, Read, told}

same_cells : (m m2 : List Cells) (s s2 : List ℤ) → Read m s ≡ Read m2 s2 → m ≡ m2
same_cells m m2 s s2 h = cc

same_symbols : (m m2 : List Cells) (s s2 : List ℤ) → Read m s ≡ Read m2 s2 → s ≡ s2
same_symbols m m2 s s2 h = cc

same_line : (line number l n : ℕ) → Broken line number ≡ Broken l n → line ≡ l
same_line line number l n h = cc

same_number : (line number l n : ℕ) → Broken line number ≡ Broken l n → number ≡ n
same_number line number l n h = cc

apart : (m : List Cells) (s : List ℤ) (line number : ℕ) → Read m s ≡ Broken line number → ⊥
apart m s line number h = let x : ⊥ = cc in x

pub spells_one : SpellsOne
spells_one text m a b p q =
    let h = sym (spells_read text m 0 a p) ∙ spells_read text m 0 b q in
    let e = same_cells a.memrefs b.memrefs a.symbols b.symbols h in
    let f = same_symbols a.memrefs b.memrefs a.symbols b.symbols h in
    λ i. record { memrefs = e i; symbols = f i }

pub breaks_one : BreaksOne
breaks_one text m line number l n p q =
    let h = sym (rule_told m.args (written text) (length (lines text)) [] [] line number p) ∙ rule_told m.args (written text) (length (lines text)) [] [] l n q in
    (same_line line number l n h, same_number line number l n h)

pub not_both : NotBoth
not_both text m image line number p q = apart image.memrefs image.symbols line number (sym (spells_read text m (suc (length (lines text))) image p) ∙ rule_told m.args (written text) (length (lines text)) [] [] line number q)

decided : (text : List ℕ) (m : Module) (t : Told) → told m.args (written text) (suc (length (lines text))) [] [] ≡ t → ((image : Image) × Spells text m image) ⊎ ((line : ℕ) × (number : ℕ) × IsFirstBroken text m line number)
decided text m (Read memrefs symbols) h = inl (record { memrefs = memrefs; symbols = symbols }, read_spells text m (suc (length (lines text))) (record { memrefs = memrefs; symbols = symbols }) h)
decided text m (Broken line number) h = inr (line, number, broken_is m.args (written text) (suc (length (lines text))) (length (lines text)) [] [] line number refl h)

pub one_of_both : OneOfBoth
one_of_both text m = decided text m (told m.args (written text) (suc (length (lines text))) [] []) refl
