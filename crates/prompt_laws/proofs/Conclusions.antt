-- The runs of a valid module by its prompt meaning.
use Rattle.std.proofs.Common.{◌≡◌, ℕ, ◌+◌, ◌≤◌, ℤ, false, List, [], ◌∷◌, length, refl, ap, ◌∙◌, arith}
use Rattle.std.specs.Prelude.{fold, Option, Some, None}
use Rattle.affine_ast.specs.declared.image.Image.{Image}
use Rattle.affine_ast.specs.declared.module.Arg.{Arg}
use Rattle.affine_ast.specs.declared.module.ArgKind.{ArgKind}
use Rattle.affine_ast.specs.declared.module.ArgKind.TheVariants.{Memref, Index}
use Rattle.affine_ast.specs.declared.module.Module.{Module}
use Rattle.affine_ast.specs.declared.name.Name.{Name}
use Rattle.affine_ast.specs.Nest.{nest}
use Rattle.affine_ast.specs.Scope.{Binding, Variable, Symbol, IndexConstant, Data, MemrefArgument, Allocation}
use Rattle.affine_ast.specs.Validity.{outside, IsValid}
use Rattle.direct_meaning.specs.Action.{Home}
use Rattle.direct_meaning.specs.Direct.{Outcome, End, Fault, state_of, folded}
use Rattle.direct_meaning.specs.Memory.{Fits, Placed, place_kind, place_arg, empty_env, start_env, module_actions}
use Rattle.prompt_semantics.specs.Device.{Device}
use Rattle.prompt_semantics.specs.Prompt.{prompt_step, first_device, prompt}
use Rattle.valid_laws.proofs.SafeStart.{start_around, start_stands, valid_safe}
use Rattle.run_laws.specs.FitsTypes.{slow_widths}
use Rattle.run_laws.proofs.Cells.{CellsFit}
use Rattle.run_laws.proofs.Memories.{memory_cells, arguments_lie, arguments_refill}
use Rattle.run_laws.proofs.Typed as typed
use Rattle.run_laws.proofs.Typed.{zero_fits}
use Rattle.prompt_laws.specs.Law.{RunsPromptly, ValidRunsPromptly}
use Rattle.prompt_laws.specs.Rooms.{Room, room_at, module_rooms}
use Rattle.prompt_laws.proofs.Costs.{within_work}
use Rattle.prompt_laws.proofs.Held.{Lies, MemrefsLie, HalvesFit, Holds, SlowFits}
use Rattle.prompt_laws.proofs.Runs.{Ends}
use Rattle.prompt_laws.proofs.Statements.{Laid, Kept, T, runs_of_told}

-- ---- the start

-- arguments alone are in scope, and they lie in the slow memory
lies_as_argument : (widths : List ℕ) (rooms : List Room) (b : Option Binding) (home : Option Home) → typed.Lies widths b home → Lies widths rooms b home
lies_as_argument widths rooms None home h = tt
lies_as_argument widths rooms (Some (Variable r)) home h = tt
lies_as_argument widths rooms (Some (Symbol r)) home h = tt
lies_as_argument widths rooms (Some (IndexConstant c)) home h = tt
lies_as_argument widths rooms (Some (Data ty)) home h = tt
lies_as_argument widths rooms (Some (MemrefArgument ty)) home h = h
lies_as_argument widths rooms (Some (Allocation ty)) home h = absurd h

no_halves_yet : (widths : List ℕ) (rooms : List Room) (b : Option Binding) (home : Option Home) (halves : ℕ → ℕ → List ℤ) → typed.Lies widths b home → HalvesFit rooms b home halves
no_halves_yet widths rooms None home halves h = tt
no_halves_yet widths rooms (Some (Variable r)) home halves h = tt
no_halves_yet widths rooms (Some (Symbol r)) home halves h = tt
no_halves_yet widths rooms (Some (IndexConstant c)) home halves h = tt
no_halves_yet widths rooms (Some (Data ty)) home halves h = tt
no_halves_yet widths rooms (Some (MemrefArgument ty)) home halves h = tt
no_halves_yet widths rooms (Some (Allocation ty)) home halves h = absurd h

argument_lies : (m : Module) (memory : Image) → typed.MemrefsLie (slow_widths m.args) (start_around m).scope (start_env m.args memory.symbols).home
unfolding start_env
argument_lies m memory = arguments_lie m.args outside (record { env = empty_env; memrefs = 0; elements = 0; symbols = memory.symbols }) [] refl (λ n. tt)

-- no argument is an allocation
kind_fasts : (kind : ArgKind) (name : Name) (p : Placed) → (place_kind kind name p).env.fasts ≡ p.env.fasts
kind_fasts (Memref ty) name p = refl
kind_fasts (Index range) name p = refl

fasts_kept : (args : List Arg) (p : Placed) → (fold place_arg p args).env.fasts ≡ p.env.fasts
fasts_kept [] p = refl
fasts_kept (arg ∷ args) p = fasts_kept args (place_arg p arg) ∙ kind_fasts arg.kind arg.name p

no_fasts : (args : List Arg) (symbols : List ℤ) → (start_env args symbols).fasts ≡ 0
unfolding start_env
no_fasts args symbols = fasts_kept args (record { env = empty_env; memrefs = 0; elements = 0; symbols = symbols })

all_laid : (rooms : List Room) (at : ℕ) → at ≡ 0 → Laid rooms at rooms
all_laid rooms at none = record { inside = omega (arith, none); same = λ k below. (let e : at + k ≡ k = omega (arith, none) in ap (room_at rooms) e) }

module _ (m : Module) (valid : IsValid m) (memory : Image) (fits : Fits m memory) (filler : ℤ) (capacity : ℕ) where
  holds_at_start : T (slow_widths m.args) (module_rooms m) filler capacity (start_around m).scope (start_env m.args memory.symbols).home (first_device memory)
  holds_at_start = record {
    typed = record { names = λ n. zero_fits ((start_around m).scope n); cells = memory_cells m.args memory.memrefs memory.symbols fits.fits };
    halves = λ n. no_halves_yet (slow_widths m.args) (module_rooms m) ((start_around m).scope n) ((start_env m.args memory.symbols).home n) (first_device memory).halves (argument_lies m memory n);
    live = omega arith;
    flights = tt;
  }

  kept : Kept (slow_widths m.args) (module_rooms m) filler capacity (T (slow_widths m.args) (module_rooms m) filler capacity (start_around m).scope (start_env m.args memory.symbols).home) (T (slow_widths m.args) (module_rooms m) filler capacity (start_around m).scope (start_env m.args memory.symbols).home) (module_actions m memory.symbols)
  unfolding module_actions
  kept =
      let s = start_stands m valid memory fits in
      runs_of_told (slow_widths m.args) (module_rooms m) filler capacity (nest m.body) (start_around m) s.totals (start_env m.args memory.symbols) s.stands
      (λ n. lies_as_argument (slow_widths m.args) (module_rooms m) ((start_around m).scope n) ((start_env m.args memory.symbols).home n) (argument_lies m memory n))
      (valid_safe m valid memory fits) (all_laid (module_rooms m) (start_env m.args memory.symbols).fasts (no_fasts m.args memory.symbols)) s.passed

  cells_behind : (o : Outcome Device) → Ends (SlowFits (slow_widths m.args)) (T (slow_widths m.args) (module_rooms m) filler capacity (start_around m).scope (start_env m.args memory.symbols).home) o → CellsFit (slow_widths m.args) (state_of o).state.slow
  cells_behind (End y) h = h.typed.cells
  cells_behind (Fault k y) h = h

  pub runs_promptly : RunsPromptly m memory filler capacity
  unfolding prompt
  runs_promptly =
      let run = folded (prompt_step filler capacity) (module_actions m memory.symbols) (first_device memory) in
      let cells = cells_behind run (kept.ends (first_device memory) holds_at_start) in
      let r = arguments_refill m.args memory.memrefs memory.symbols (state_of run).state.slow fits.fits cells in
      record {
        runs = kept.along (first_device memory) holds_at_start;
        fits = record { fits = record { fits = r.0 }; is = r.1 };
        costs_fit = within_work m valid memory fits;
      }

pub valid_runs_promptly : ValidRunsPromptly
valid_runs_promptly m valid memory fits filler capacity = runs_promptly m valid memory fits filler capacity
