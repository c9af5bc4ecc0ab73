-- The table of forms.
use Rattle.std.proofs.Common.{◌≡◌, Bool, List, Option, sym, ap, ◌∙◌}
use Rattle.std.specs.Prelude.{◌&&◌, Some, if◌then◌else◌}
use Rattle.std.specs.Str.{bytes_eq}
use Rattle.std.specs.Map.{lookup}
use Rattle.indexmap.specs.IndexMap.{insert_entry}
use mathlib.Core.Path.{fun_ext}
use mathlib.Core.Bool.{beq}
use Rattle.affine_expr.specs.Forms.{Form}
use Rattle.affine_ast.specs.declared.name.Name.{Name}
use Rattle.affine_ast.specs.Names.{same_name, put}
use Rattle.affine_ast.proofs.Names.{put-same, put-other}
use Rattle.affine_rules.specs.declared.scope.Key.{Key}
use Rattle.affine_rules.specs.Scoped.{is_key}
use Rattle.module_work.proofs.Tables.{cases, inserted}
use Rattle.nest_domain.specs.Table.{form_or_none, forms_of}

-- a table with one form set
pub forms_set : (eq : Key → Key → Bool) (key : Key) (n : Name) → key.text.now ≡ n.text → key.made ≡ n.made → ((j : Key) → eq key j ≡ (bytes_eq key.text.now j.text.now && beq key.made j.made)) → (v : Option Form) (es fs : List (Key × Option Form))
    → fs ≡ insert_entry eq es key v → forms_of fs ≡ put (forms_of es) n v
unfolding forms_of
forms_set eq key n t d is v es fs h =
    fun_ext (λ m. ap (λ xs. form_or_none (lookup (is_key m) xs)) h ∙ ap form_or_none (inserted (Option Form) eq key n t d (λ j. is j ∙ (λ i. bytes_eq (t i) j.text.now && beq (d i) j.made)) v m es)
    ∙ cases (same_name n m)
    (λ s. ap (λ b. form_or_none (if b then Some v else lookup (is_key m) es)) s ∙ sym (put-same (forms_of es) n v m s))
    (λ s. ap (λ b. form_or_none (if b then Some v else lookup (is_key m) es)) s ∙ sym (put-other (forms_of es) n v m s)))

-- what a key finds
pub form_found : (key : Key) (n : Name) (o : Option (Option Form)) (es : List (Key × Option Form)) → key.text.now ≡ n.text → key.made ≡ n.made → o ≡ lookup (λ k. bytes_eq key.text.now k.text.now && beq key.made k.made) es → form_or_none o ≡ forms_of es n
unfolding forms_of
form_found key n o es t d h = ap form_or_none (h ∙ (λ i. lookup (λ (k : Key). bytes_eq (t i) k.text.now && beq (d i) k.made) es))
