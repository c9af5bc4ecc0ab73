-- Where each memref of tags has one element, its tags move up together: so it is in every text that has only single placements.
use Rattle.std.proofs.Common.{◌≡◌, ◌+◌, List, [], ◌∷◌, ap, ◌∙◌, arith}
use Rattle.affine_ast.specs.declared.name.Name.{Name}
use Rattle.affine_ast.specs.declared.types.Access.{Access}
use Rattle.affine_ast.specs.declared.types.MemrefType.{MemrefType}
use Rattle.affine_ast.specs.Nest.{Plain, Nest, Nothing, Loop, Branch, Does, Value, Load, Store, RawLoad, RawStore, Constant, Binary, Cast, Alloc, Dealloc, Start, Wait, Return}
use Rattle.affine_ast.specs.Sizes.{product}
use Rattle.direct_meaning.specs.Turns.{turns}
use Rattle.direct_meaning.specs.Static.{Env, knows, results_of, lower_of, upper_of}
use Rattle.direct_meaning.specs.Actions.{after_plain, behind}
use Rattle.placement_texts.specs.Labels.{Numbers, tag_up}
use Rattle.boxes.specs.Every.{Every}
use Rattle.placement_texts.specs.Each.{Each}
use Rattle.placement_texts.specs.Mapped.{TagsTogether, ThirdTogether, Together}
use Rattle.placement_texts.specs.OneTag.{InText, ThirdIsOne, TagIsOne}
use Rattle.placement_texts.proofs.Cells.{cell_less}

every_of_all : {A : Type 0} (Q : A → Type 0) → ((x : A) → Q x) → (xs : List A) → Every Q xs
every_of_all Q h [] = tt
every_of_all Q h (x ∷ xs) = (h x, every_of_all Q h xs)

pub each_in_text : (P : Plain → Type 0) (Q : Plain → Env → Type 0) → ((q : Plain) (e : Env) → P q → Q q e) → (n : Nest) (e : Env) → InText P n → Each Q n e
each_in_text P Q one Nothing e h = tt
each_in_text P Q one (Loop line v l u step body rest) e h =
    (every_of_all (λ t. Each Q body (knows e v t)) (λ t. each_in_text P Q one body (knows e v t) h.0) (turns (lower_of e l) (upper_of e u) step), each_in_text P Q one rest (behind body e) h.1)
each_in_text P Q one (Branch line set ns first has other rest) e h =
    ((λ t. each_in_text P Q one first e h.0), (λ t. each_in_text P Q one other (behind first e) h.1), each_in_text P Q one rest (behind other (behind first e)) h.2)
each_in_text P Q one (Does line q rest) e h = (one q e h.0, each_in_text P Q one rest (after_plain q e) h.1)

together : (new : Numbers) (e : Env) (t : Name) (at : Access) (ty : MemrefType) → product ty.sizes ≡ 1 → TagsTogether new e t at ty
together new e t at ty one first cell home is =
    let less = cell_less ty.sizes (results_of e at) cell is in
    let zero_ : cell ≡ 0 = omega (arith, less, one) in
    let a : first + cell ≡ first = omega (arith, zero_) in
    let b : tag_up new first ≡ tag_up new first + cell = omega (arith, zero_) in
    ap (tag_up new) a ∙ b

third : (new : Numbers) (e : Env) (t : Name) (at : Access) (types : List MemrefType) → ThirdIsOne types → ThirdTogether new e t at types
third new e t at (a_ty ∷ b_ty ∷ t_ty ∷ []) h = together new e t at t_ty h
third new e t at [] h = tt
third new e t at (a_ty ∷ []) h = tt
third new e t at (a_ty ∷ b_ty ∷ []) h = tt
third new e t at (a_ty ∷ b_ty ∷ t_ty ∷ u_ty ∷ types) h = tt

statement_together : (new : Numbers) (q : Plain) (e : Env) → TagIsOne q → Together new q e
statement_together new (Start a a_at b b_at t t_at n stride types) e h = third new e t t_at types h
statement_together new (Wait t at n ty) e h = together new e t at ty h
statement_together new (Value r pick at) e h = tt
statement_together new (Load r m at ty) e h = tt
statement_together new (Store x m at ty) e h = tt
statement_together new (RawLoad r m at ty) e h = tt
statement_together new (RawStore x m at ty) e h = tt
statement_together new (Constant r z ty) e h = tt
statement_together new (Binary r op x y ty) e h = tt
statement_together new (Cast r kind x from to) e h = tt
statement_together new (Alloc r ty) e h = tt
statement_together new (Dealloc m ty) e h = tt
statement_together new Return e h = tt

pub tags_together : (new : Numbers) (n : Nest) (e : Env) → InText TagIsOne n → Each (Together new) n e
tags_together new n e h = each_in_text TagIsOne (Together new) (statement_together new) n e h
