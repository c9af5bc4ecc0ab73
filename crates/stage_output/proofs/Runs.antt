-- Runs in every order, from the prompt run; and the memories that fit arguments of the same kinds.
use Rattle.std.proofs.Common.{◌≡◌, ℕ, ℤ, List, [], ◌∷◌, map, refl, sym, ap, ◌∙◌, subst}
use Rattle.std.specs.Prelude.{Some}
use Rattle.affine_ast.specs.declared.image.Cells.{Cells}
use Rattle.affine_ast.specs.declared.image.Image.{Image}
use Rattle.affine_ast.specs.declared.module.Arg.{Arg}
use Rattle.affine_ast.specs.declared.module.ArgKind.{ArgKind}
use Rattle.affine_ast.specs.declared.module.ArgKind.TheVariants.{Memref, Index}
use Rattle.affine_ast.specs.declared.module.Module.{Module}
use Rattle.affine_ast.specs.Validity.{IsValid}
use Rattle.bus_model.specs.declared.step.Step.{Step}
use Rattle.bus_model.specs.declared.step.Verdict.TheVariants as verdict
use Rattle.direct_meaning.specs.Direct.{Outcome, State, End, Fault, plain, state_of, verdict_of}
use Rattle.direct_meaning.specs.Memory.{FitsArg, FitsArgs, Fits, module_actions}
use Rattle.order_laws.proofs.Valid.{valid_orders}
use Rattle.order_meaning.specs.Law.{promptly, OrdersAgree}
use Rattle.order_meaning.specs.Run.{IsMaximal}
use Rattle.prompt_semantics.specs.Device.{Device}
use Rattle.prompt_semantics.specs.Prompt.{prompt, prompt_slow, prompt_verdict}
use Rattle.box_run_laws.specs.Law.{Agrees}
use Rattle.stage_output.specs.Law.{machine, EndsAsDirect, EveryOrderEnds, RunsAsDirect}

-- ---- verdict and memory
same_verdict : (x : Outcome State) (y : Outcome Device) → Agrees x y → prompt_verdict y ≡ verdict_of x
same_verdict (End s) (End y) h = refl
same_verdict (End s) (Fault k y) h = absurd h
same_verdict (Fault k s) (End y) h = absurd h
same_verdict (Fault k s) (Fault j y) h = ap (λ k. verdict.Fault k) (sym h)

same_memory : (x : Outcome State) (y : Outcome Device) → Agrees x y → verdict_of x ≡ verdict.End → prompt_slow y ≡ (state_of x).slow
same_memory (End s) (End y) h e = sym h
same_memory (End s) (Fault k y) h e = absurd h
same_memory (Fault k s) (End y) h e = absurd h
same_memory (Fault k s) (Fault j y) h e = absurd (let z : ⊥ = cc in z)

-- they say all
pub agrees_by : (x : Outcome State) (y : Outcome Device) → prompt_verdict y ≡ verdict_of x → (verdict_of x ≡ verdict.End → prompt_slow y ≡ (state_of x).slow) → Agrees x y
agrees_by (End s) (End y) v m = sym (m refl)
agrees_by (End s) (Fault k y) v m = absurd (let z : ⊥ = cc in z)
agrees_by (Fault k s) (End y) v m = absurd (let z : ⊥ = cc in z)
agrees_by (Fault k s) (Fault j y) v m = cc

-- ---- every order
module _ (capacity : ℕ) (source staged : Module) (memory : Image) (filler : ℤ) (agrees : Agrees (plain source memory) (prompt staged memory filler capacity)) where
  module _ (engines : ℕ) (orders : OrdersAgree filler capacity (module_actions staged memory.symbols) memory engines) where
    ends_as : (steps : List Step) → IsMaximal filler capacity (machine capacity source staged memory filler engines) steps → EndsAsDirect capacity source staged memory filler engines steps
    unfolding prompt
    ends_as steps last = by (plain source memory) (prompt staged memory filler capacity) refl refl agrees
      where
        by : (x : Outcome State) (y : Outcome Device) → plain source memory ≡ x → promptly filler capacity (module_actions staged memory.symbols) memory ≡ y → Agrees x y → EndsAsDirect capacity source staged memory filler engines steps
        by (End s) (End y) p q h =
            let e = orders.ended steps last y q in
            record { verdict_is = e.verdict ∙ ap (λ (o : Outcome State). Some (verdict_of o)) (sym p); memory_is = λ ends. e.slow ∙ sym h ∙ ap (λ (o : Outcome State). (state_of o).slow) (sym p) }
        by (End s) (Fault k y) p q h = absurd h
        by (Fault k s) (End y) p q h = absurd h
        by (Fault k s) (Fault j y) p q h =
            let f = orders.faulted steps last j y q in
            record { verdict_is = f.verdict ∙ ap (λ k. Some (verdict.Fault k)) (sym h) ∙ ap (λ (o : Outcome State). Some (verdict_of o)) (sym p); memory_is = λ ends. absurd (let e = sym (ap (λ (o : Outcome State). verdict_of o) p) ∙ ends in let z : ⊥ = cc in z) }

    every_order : EveryOrderEnds capacity source staged memory filler engines
    unfolding prompt
    every_order = record { goes_on = orders.onward; stops = orders.bounded; ends = ends_as }

  pub runs_direct : IsValid staged → Fits staged memory → RunsAsDirect capacity source staged memory filler
  runs_direct valid fits = record {
    verdict_is = same_verdict (plain source memory) (prompt staged memory filler capacity) agrees;
    memory_is = same_memory (plain source memory) (prompt staged memory filler capacity) agrees;
    orders = λ engines some. every_order engines (valid_orders staged valid memory fits filler capacity engines some);
  }

-- ---- memories
module _ (f : Arg → Arg) (kept : (a : Arg) → (f a).kind ≡ a.kind) where
  onto : (args others : List Arg) (k : ArgKind) (memrefs : List Cells) (symbols : List ℤ) → ((memrefs : List Cells) (symbols : List ℤ) → FitsArgs args memrefs symbols → FitsArgs others memrefs symbols)
      → FitsArg k (FitsArgs args) memrefs symbols → FitsArg k (FitsArgs others) memrefs symbols
  onto args others (Memref ty) [] symbols more h = absurd h
  onto args others (Memref ty) (cells ∷ memrefs) symbols more h = (h.0, h.1, more memrefs symbols h.2)
  onto args others (Index range) memrefs [] more h = absurd h
  onto args others (Index range) memrefs (z ∷ symbols) more h = (h.0, more memrefs symbols h.1)

  pub fits_under : (args : List Arg) (memrefs : List Cells) (symbols : List ℤ) → FitsArgs args memrefs symbols → FitsArgs (map f args) memrefs symbols
  fits_under [] memrefs symbols h = h
  fits_under (a ∷ args) memrefs symbols h = subst (λ k. FitsArg k (FitsArgs (map f args)) memrefs symbols) (sym (kept a)) (onto args (map f args) a.kind memrefs symbols (fits_under args) h)

  pub fits_back : (args : List Arg) (memrefs : List Cells) (symbols : List ℤ) → FitsArgs (map f args) memrefs symbols → FitsArgs args memrefs symbols
  fits_back [] memrefs symbols h = h
  fits_back (a ∷ args) memrefs symbols h = onto (map f args) args a.kind memrefs symbols (fits_back args) (subst (λ k. FitsArg k (FitsArgs (map f args)) memrefs symbols) (kept a) h)
