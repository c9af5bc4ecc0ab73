-- A valid module, run from a memory that fits it.
use Rattle.std.proofs.Common.{◌≡◌, ℕ, zero, suc, ◌*◌, ◌<◌, ◌≤◌, ◌^◌, ℤ, List, [], ◌∷◌, length, take, drop, sym, ap, ◌∙◌, subst, arith}
use Rattle.std.specs.Prelude.{vec_capacity}
use Rattle.affine_ast.specs.declared.image.Cells.{Cells}
use Rattle.affine_ast.specs.declared.image.Image.{Image}
use Rattle.affine_ast.specs.declared.module.Arg.{Arg}
use Rattle.affine_ast.specs.declared.module.Module.{Module}
use Rattle.affine_ast.specs.Nest.{Nest, nest}
use Rattle.affine_ast.specs.Validity.{IsValid}
use Rattle.bus_model.specs.declared.step.Verdict.{Verdict}
use Rattle.direct_meaning.specs.Action.{Action}
use Rattle.direct_meaning.specs.Actions.{actions}
use Rattle.direct_meaning.specs.Direct.{Outcome, folded, verdict_of, state_of}
use Rattle.direct_meaning.specs.Memory.{Fits, start_env, module_actions}
use Rattle.direct_meaning.specs.Work.{work}
use Rattle.prompt_semantics.specs.Device as model
use Rattle.prompt_semantics.specs.Prompt.{prompt_step, first_device, prompt}
use Rattle.valid_laws.specs.Safe.{SafeNest}
use Rattle.valid_laws.proofs.SafeStart.{valid_safe}
use Rattle.run_laws.specs.StaysFitting.{refilled}
use Rattle.prompt_laws.specs.Along.{Along}
use Rattle.prompt_laws.specs.Costs.{costs}
use Rattle.prompt_laws.specs.Law.{RunsPromptly}
use Rattle.prompt_laws.specs.Reaches.{CanAct}
use Rattle.prompt_laws.specs.Rooms.{Room, room_at, rooms_in}
use Rattle.prompt_laws.proofs.Conclusions.{runs_promptly}
use Rattle.prompt_meaning.specs.declared.device.Device.{Device}
use Rattle.prompt_meaning.specs.declared.fast.FastMemref.{FastMemref}
use Rattle.prompt_meaning.specs.Held.{device_at}
use Rattle.prompt_meaning.specs.Memrefs.{halves_at, AreRooms}
use Rattle.prompt_meaning.specs.Runs.{StandsAt}
use Rattle.prompt_meaning.specs.Takes.{EndsWithin, RunsPrompt}

-- a half without cells is empty
empty_half : (rooms : List Room) (fs : List FastMemref) (k h : ℕ) → AreRooms rooms fs → k < length rooms → 0 ≡ (room_at rooms k).cells → [] ≡ halves_at fs k h
empty_half [] [] k h are there e = absurd (omega (arith, there))
empty_half [] (f ∷ fs) k h are there e = absurd are
empty_half (r ∷ rooms) [] k h are there e = absurd are
empty_half (r ∷ rooms) (f ∷ fs) zero h are there e =
    let z : 0 ≡ f.half = e ∙ sym are.0.half_is in
    ap (λ n. take n (drop (h * f.half) f.cells.items)) z
empty_half (r ∷ rooms) (f ∷ fs) (suc k) h are there e = empty_half rooms fs k h are.1 (omega (arith, there)) e

module _ (m found : Module) (memory : Image) (is : found ≡ m) (valid : IsValid found) (fits : Fits m memory) where
  found_fits : Fits found memory
  found_fits = subst (λ x. Fits x memory) (sym is) fits

  module _ (n : Nest) (args : List Arg) (symbols : List ℤ) (body : n ≡ nest found.body) (arguments : args ≡ found.args) (numbers : symbols ≡ memory.symbols) where
    pub safe : SafeNest n (start_env args symbols)
    safe =
        subst (λ n. SafeNest n (start_env args symbols)) (sym body) (subst (λ as'. SafeNest (nest found.body) (start_env as' symbols)) (sym arguments) (subst (λ zs. SafeNest (nest found.body) (start_env found.args zs)) (sym numbers)
        (valid_safe found valid memory found_fits)))

    module _ (filler : ℤ) (capacity : ℕ) where
      law : RunsPromptly m memory filler capacity
      law = runs_promptly m (subst IsValid is valid) memory fits filler capacity

      module _ (left : List Action) (all : left ≡ actions n (start_env args symbols)) where
        left_is : left ≡ module_actions m memory.symbols
        unfolding module_actions
        left_is = all ∙ (λ i. actions (body i) (start_env (arguments i) (numbers i))) ∙ ap (λ (x : Module). actions (nest x.body) (start_env x.args memory.symbols)) is

        pub stands : (d : Device) → work m ≤ 2 ^ 48 → d.filler ≡ filler → d.capacity ≡ capacity → 65536 ≤ vec_capacity d.outstanding → AreRooms (rooms_in n) d.fasts.items → record (device_at d) { halves = λ number h. [] } ≡ first_device memory
            → StandsAt (rooms_in n) (first_device memory) left d
        stands d small f c records are start = record {
          agrees = record { rest = λ i. record (start i) { halves = halves_at d.fasts.items }; halves = λ number h there half long. empty_half (rooms_in n) d.fasts.items number h are there long };
          along = subst (λ z. z) (λ i. Along (prompt_step (sym f i) (sym c i)) (CanAct (rooms_in ((ap (λ (x : Module). nest x.body) (sym is) ∙ sym body) i)) (sym c i)) (sym left_is i) (first_device memory)) law.runs;
          are = are;
          steps =
              let k = law.costs_fit (omega (arith, small)) in
              let e = ap costs left_is in
              omega (arith, k, e, small);
          records = records;
        }

        run_is : folded (prompt_step filler capacity) left (first_device memory) ≡ prompt m memory filler capacity
        unfolding prompt
        run_is = ap (λ xs. folded (prompt_step filler capacity) xs (first_device memory)) left_is

        module _ (verdict : Verdict) (z : model.Device) (ends : EndsWithin (rooms_in n) verdict (folded (prompt_step filler capacity) left (first_device memory)) z) (cells : List Cells) (after : cells ≡ refilled memory.memrefs z.state.slow) where
          pub runs : RunsPrompt m memory filler capacity (record { verdict = verdict; actions = z.actions; engine_steps = z.engine_steps; peak = z.peak }) (record { memrefs = cells; symbols = memory.symbols })
          runs = record {
            verdict_is = ends.verdict_is ∙ ap verdict_of run_is;
            actions_are = ap (λ (d : model.Device). d.actions) ends.state_is.rest ∙ ap (λ (o : Outcome model.Device). (state_of {S = model.Device} o).actions) run_is;
            engine_steps_are = ap (λ (d : model.Device). d.engine_steps) ends.state_is.rest ∙ ap (λ (o : Outcome model.Device). (state_of {S = model.Device} o).engine_steps) run_is;
            peak_is = ap (λ (d : model.Device). d.peak) ends.state_is.rest ∙ ap (λ (o : Outcome model.Device). (state_of {S = model.Device} o).peak) run_is;
            memory_is = λ i. record { memrefs = (after ∙ ap (λ (d : model.Device). refilled memory.memrefs d.state.slow) ends.state_is.rest ∙ ap (λ (o : Outcome model.Device). refilled memory.memrefs (state_of {S = model.Device} o).state.slow) run_is) i; symbols = memory.symbols };
          }

          pub fits_after : Fits m (record { memrefs = cells; symbols = memory.symbols })
          fits_after = subst (Fits m) (sym runs.memory_is) law.fits.fits
