-- The sizes of an argument, found one after the other.
use Rattle.std.proofs.Common.{◌≡◌, ℕ, ◌+◌, ◌<◌, ◌≤◌, true, false, cond, List, [], length, drop, get_or, sym, ap, ◌∙◌}
use Rattle.affine_ast.specs.declared.module.Arg.{Arg}
use Rattle.affine_ast.specs.declared.name.Name.{Name}
use Rattle.affine_ast.specs.Names.{same_name}
use Rattle.access_region.specs.Finding.{kind_sizes}
use Rattle.module_regions.specs.Lines.{sizes_of}
use Rattle.module_regions.proofs.Pieces.{drop_next, drop_over}

pub sizes_found : (args : List Arg) (i : ℕ) (a : Arg) (m : Name) (out : List ℕ) → i < length args → a ≡ get_or args i a → same_name a.name m ≡ true → out ≡ kind_sizes a.kind → sizes_of args m ≡ sizes_of (drop i args) m
    → out ≡ sizes_of args m
unfolding sizes_of
sizes_found args i a m out h is t e inv =
    e ∙ ap (λ b. cond b (kind_sizes a.kind) (sizes_of (drop (i + 1) args) m)) (sym t) ∙ sym (ap (λ l. sizes_of l m) (drop_next args i a h is)) ∙ sym inv

pub sizes_go_on : (args : List Arg) (i : ℕ) (a : Arg) (m : Name) → i < length args → a ≡ get_or args i a → same_name a.name m ≡ false → sizes_of args m ≡ sizes_of (drop i args) m → sizes_of args m ≡ sizes_of (drop (i + 1) args) m
unfolding sizes_of
sizes_go_on args i a m h is f inv =
    inv ∙ ap (λ l. sizes_of l m) (drop_next args i a h is) ∙ ap (λ b. cond b (kind_sizes a.kind) (sizes_of (drop (i + 1) args) m)) f

pub sizes_end : (args : List Arg) (i : ℕ) (m : Name) → length args ≤ i → sizes_of args m ≡ sizes_of (drop i args) m → sizes_of args m ≡ []
unfolding sizes_of
sizes_end args i m h inv = inv ∙ ap (λ l. sizes_of l m) (drop_over args i h)
