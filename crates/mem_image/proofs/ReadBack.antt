-- The printed text of an image that fits spells that image.
use Rattle.std.proofs.Common.{◌≡◌, ℕ, List, [], ◌∷◌, true, ℤ, FitsSigned, sym, subst, arith}
use Rattle.std.specs.Int.{w128}
use Rattle.std.specs.List.{list_all}
use Rattle.std.proofs.lemmas.List.Elements.{All-weaker}
use Rattle.affine_ast.specs.declared.image.Cells.{Cells}
use Rattle.affine_ast.specs.declared.image.Image.{Image}
use Rattle.affine_ast.specs.declared.module.Arg.{Arg}
use Rattle.affine_ast.specs.declared.module.Module.{Module}
use Rattle.affine_ast.specs.Validity.{IsValid}
use Rattle.direct_meaning.specs.Memory.{Fits, FitsArgs}
use Rattle.mem_image.specs.Forms.{range_of_kind, is_between, is_name}
use Rattle.mem_image.specs.Images.{own_numbers, memrefs_behind, symbols_behind, rows, Spells, HasNames, printed}
use Rattle.mem_image.specs.Laws.{ReadBack}
use Rattle.mem_image.specs.Lines.{written}
use Rattle.mem_image.proofs.Numbers.{and_left, and_right}
use Rattle.mem_image.proofs.Readable.{AllWell, rows_given}
use Rattle.mem_image.proofs.Spelled.{taken}
use Rattle.mem_image.proofs.Valid.{ArgsValid, valid_args, kind_well}

rows_well : (args : List Arg) (memrefs : List Cells) (symbols : List ℤ) → ArgsValid args → list_all (λ arg. is_name arg.name.text) args ≡ true → FitsArgs args memrefs symbols → AllWell (rows args memrefs symbols)
unfolding rows
rows_well [] memrefs symbols v n f = tt
rows_well (arg ∷ args) memrefs symbols v n f =
    let t = taken arg.kind (FitsArgs args) memrefs symbols f in
    let k = kind_well arg.kind v.0 in
    let some = k.some in
    let counts = t.counts in (
      record {
        named = and_left (is_name arg.name.text) (list_all (λ other. is_name other.name.text) args) n;
        some = omega arith;
        wide = All-weaker (λ z. is_between (range_of_kind arg.kind) z ≡ true) (λ z. FitsSigned w128 z) k.wide (own_numbers arg.kind memrefs symbols) t.between;
      },
      rows_well args (memrefs_behind arg.kind memrefs) (symbols_behind arg.kind symbols) v.1 (and_right (is_name arg.name.text) (list_all (λ other. is_name other.name.text) args) n) t.rest,
    )

pub read_back : ReadBack
unfolding printed written
read_back m image v n f = record {
  fits = f;
  given = rows_given (rows m.args image.memrefs image.symbols) 0 (rows_well m.args image.memrefs image.symbols (valid_args m v) n f.fits);
}

pub text_read_back : (text : List ℕ) (m : Module) (image : Image) → text ≡ printed m image → IsValid m → HasNames m → Fits m image → Spells text m image
text_read_back text m image e v n f = subst (λ t. Spells t m image) (sym e) (read_back m image v n f)
