-- A module has one stage.
use Rattle.std.proofs.Common.{◌≡◌, ℕ, Bool, true, false, List, refl, sym, ◌∙◌, ap, subst, arith}
use Rattle.std.specs.Prelude.{map, nat_lt}
use Rattle.std.proofs.lemmas.Bool.Decides.{nat_tests}
use Rattle.affine_ast.specs.declared.module.Module.{Module}
use Rattle.affine_ast.specs.declared.name.Name.{Name}
use Rattle.affine_ast.specs.declared.stmt.Stmt.{Stmt}
use Rattle.affine_ast.specs.Nest.{nest}
use Rattle.normal_texts.specs.Texts.{normal_text}
use Rattle.numbered_names.specs.Numbers.{IsPrefix, IsNumbered, value_names, numbered_name, numbered_arg}
use Rattle.placement_texts.specs.Renamed.{named}
use Rattle.printed_texts.proofs.Unnested.{stmts_of, unnested}
use Rattle.stage_reports.specs.Law.{HasOneStage}

no_bool : true ≡ false → ⊥
no_bool e = grind arith

-- statements are those of their nest
same_body : (xs ys : List Stmt) → nest xs ≡ nest ys → xs ≡ ys
same_body xs ys e = sym (unnested (nest xs) xs refl) ∙ ap stmts_of e ∙ unnested (nest ys) ys refl

same_module : (a b : Module) → a.name ≡ b.name → a.args ≡ b.args → nest a.body ≡ nest b.body → a ≡ b
same_module a b n g e = let body = same_body a.body b.body e in (λ i. record { name = n i; args = g i; body = body i })

-- the prefix is the shortest that is free
one_prefix : (names : List Name) (k j : ℕ) → IsPrefix k names → IsPrefix j names → k ≡ j
one_prefix names k j h g = by (nat_lt k j) (nat_lt j k) refl refl
  where
    by : (a b : Bool) → nat_lt k j ≡ a → nat_lt j k ≡ b → k ≡ j
    by true b p q = absurd (no_bool (sym (g.least k (grind (arith, nat_tests, p))) ∙ h.free))
    by false true p q = absurd (no_bool (sym (h.least j (grind (arith, nat_tests, q))) ∙ g.free))
    by false false p q = grind (arith, nat_tests, p, q)

-- numbers are given in one way
one_numbering : (m q r : Module) → IsNumbered m q → IsNumbered m r → q ≡ r
one_numbering m q r h g =
    let k = one_prefix (value_names m) h.underscore_count g.underscore_count h.prefix_is g.prefix_is in
    same_module q r (h.name ∙ sym g.name)
    (h.args ∙ ap (λ n. map (numbered_arg (numbered_name n (value_names m))) m.args) k ∙ sym g.args)
    (h.body ∙ ap (λ n. named (numbered_name n (value_names m)) (nest m.body)) k ∙ sym g.body)

pub one_stage : HasOneStage
one_stage o m q r h g =
    let placed = h.is_placed.body ∙ sym g.is_placed.body in
    let args = h.is_ordered.arguments ∙ h.is_placed.arguments ∙ sym (g.is_ordered.arguments ∙ g.is_placed.arguments) in
    let ordered : ◌≡◌ {A = Module} (record h.ordered { name = m.name }) (record g.ordered { name = m.name }) =
    same_module (record h.ordered { name = m.name }) (record g.ordered { name = m.name }) refl args (h.is_ordered.body ∙ ap normal_text placed ∙ sym g.is_ordered.body) in
    one_numbering (record h.ordered { name = m.name }) q r h.is_numbered (subst (λ x. IsNumbered x r) (sym ordered) g.is_numbered)
