-- The table of forms, set and empty.
use Rattle.std.proofs.Common.{◌≡◌, ℕ, Bool, List, [], Option, Some, sym, ap, ◌∙◌}
use Rattle.std.specs.Prelude.{◌&&◌, if◌then◌else◌}
use Rattle.std.specs.Str.{bytes_eq}
use Rattle.std.specs.Map.{lookup}
use Rattle.indexmap.specs.IndexMap.{insert_entry}
use mathlib.Core.Path.{fun_ext}
use mathlib.Core.Bool.{beq}
use Rattle.affine_expr.specs.Forms.{Form}
use Rattle.affine_ast.specs.declared.name.Name.{Name}
use Rattle.affine_ast.specs.Names.{same_name, put}
use Rattle.affine_ast.proofs.Names.{put-same, put-other}
use Rattle.affine_rules.specs.declared.scope.Key.{Key}
use Rattle.affine_rules.specs.Scoped.{is_key}
use Rattle.module_work.proofs.Tables.{cases, inserted}
use Rattle.nest_domain.specs.Table.{form_or_none, forms_of}
use Rattle.box_covers.specs.Traced.{nothing_traced}

pub forms_set : (eq : Key → Key → Bool) (key : Key) (n : Name) → key.text.now ≡ n.text → key.made ≡ n.made → ((j : Key) → eq key j ≡ (bytes_eq key.text.now j.text.now && beq key.made j.made)) → (v : Option Form) (es fs : List (Key × Option Form))
    → fs ≡ insert_entry eq es key v → forms_of fs ≡ put (forms_of es) n v
unfolding forms_of
forms_set eq key n t d is v es fs h =
    fun_ext (λ m. ap (λ xs. form_or_none (lookup (is_key m) xs)) h ∙ ap form_or_none (inserted (Option Form) eq key n t d (λ j. is j ∙ (λ i. bytes_eq (t i) j.text.now && beq (d i) j.made)) v m es)
    ∙ cases (same_name n m)
    (λ s. ap (λ b. form_or_none (if b then Some v else lookup (is_key m) es)) s ∙ sym (put-same (forms_of es) n v m s))
    (λ s. ap (λ b. form_or_none (if b then Some v else lookup (is_key m) es)) s ∙ sym (put-other (forms_of es) n v m s)))

pub nothing_yet : (es : List (Key × Option Form)) (n : ℕ) → es ≡ [] → record { forms = forms_of es; outer = 0; next = n } ≡ nothing_traced n
unfolding forms_of
nothing_yet es n h = ap (λ xs. record { forms = λ m. form_or_none (lookup (is_key m) xs); outer = 0; next = n }) h
