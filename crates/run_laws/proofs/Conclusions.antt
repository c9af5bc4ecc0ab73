-- The runs of a valid module without allocations, deallocs, starts and waits.
use Rattle.std.proofs.Common.{◌≡◌, Bool, false, List, [], ◌∷◌, refl}
use Rattle.std.specs.Prelude.{None}
use Rattle.affine_ast.specs.declared.image.Image.{Image}
use Rattle.affine_ast.specs.declared.module.Arg.{Arg}
use Rattle.affine_ast.specs.declared.module.ArgKind.{ArgKind}
use Rattle.affine_ast.specs.declared.module.ArgKind.TheVariants.{Memref, Index}
use Rattle.affine_ast.specs.declared.module.Module.{Module}
use Rattle.affine_ast.specs.declared.name.Name.{Name}
use Rattle.affine_ast.specs.Nest.{Plain, Nest, Nothing, Loop, Branch, Does, Constant, nest}
use Rattle.affine_ast.specs.PlainLimits.{plain_fault}
use Rattle.affine_ast.specs.Scope.{Totals, Around, counted, in_loop, in_condition, with_totals, behind_plain}
use Rattle.affine_ast.specs.Validity.{Passed, then_told, told, rule_of_plain, rule_of_loop, rule_of_condition, behind_argument, outside, IsValid}
use Rattle.direct_meaning.specs.Direct.{Outcome, End, Fault, State, state_of, folded, direct_step, first_state, plain}
use Rattle.direct_meaning.specs.Memory.{Fits, empty_env, start_env, module_actions}
use Rattle.valid_laws.proofs.Passing.{Holds, judged_passed, then_passed, plain_holds}
use Rattle.valid_laws.proofs.SafeStart.{behind_arguments, start_around, start_stands, valid_safe}
use Rattle.valid_laws.proofs.Small.{range_of_test}
use Rattle.run_laws.specs.CanRun.{CanTake, ValidCanRun}
use Rattle.run_laws.specs.FitsTypes.{ConstantFits, ConstantsFit, slow_widths, ValuesFit, ValidFitsTypes}
use Rattle.run_laws.specs.StaysFitting.{ValidStaysFitting}
use Rattle.run_laws.proofs.Cells.{CellsFit}
use Rattle.run_laws.proofs.Held.{Covers, covers_static, reads_of_told}
use Rattle.run_laws.proofs.Memories.{memory_cells, arguments_lie, arguments_refill}
use Rattle.run_laws.proofs.PlainText.{plain_text}
use Rattle.run_laws.proofs.RunHolds.{Runs, runs_of_told}
use Rattle.run_laws.proofs.Runs.{Ends, Keeps, along_map}
use Rattle.run_laws.proofs.Typed.{Typed, zero_fits, MemrefsLie}

-- ---- the start

lies_at_start : (m : Module) (memory : Image) → MemrefsLie (slow_widths m.args) (start_around m).scope (start_env m.args memory.symbols).home
unfolding start_env
lies_at_start m memory = arguments_lie m.args outside (record { env = empty_env; memrefs = 0; elements = 0; symbols = memory.symbols }) [] refl (λ n. tt)

typed_at_start : (m : Module) (memory : Image) → Fits m memory → Typed (slow_widths m.args) (start_around m).scope (first_state memory)
typed_at_start m memory fits = record { names = λ n. zero_fits ((start_around m).scope n); cells = memory_cells m.args memory.memrefs memory.symbols fits.fits }

-- no argument is data
argument_covers : (kind : ArgKind) (name : Name) (a : Around) (held : Name → Bool) → Covers a.scope held → Covers (behind_argument name kind a).scope held
argument_covers (Memref ty) name a held h = covers_static a.scope name _ held (λ t. tt) h
argument_covers (Index range) name a held h = covers_static a.scope name _ held (λ t. tt) h

arguments_cover : (args : List Arg) (a : Around) (held : Name → Bool) → Covers a.scope held → Covers (behind_arguments args a).scope held
arguments_cover [] a held h = h
arguments_cover (arg ∷ args) a held h = arguments_cover args (behind_argument arg.name arg.kind a) held (argument_covers arg.kind arg.name a held h)

-- ---- the run

abbrev Kept : Module → Image → Type 0
Kept m memory = Keeps (Runs (slow_widths m.args)) (CellsFit (slow_widths m.args)) (Typed (slow_widths m.args) (start_around m).scope) (Typed (slow_widths m.args) (start_around m).scope) (module_actions m memory.symbols)

kept : (m : Module) → IsValid m → plain_fault m ≡ None → (memory : Image) → Fits m memory → Kept m memory
unfolding module_actions
kept m valid plain memory fits =
    let s = start_stands m valid memory fits in
    runs_of_told (slow_widths m.args) (nest m.body) (start_around m) s.totals (start_env m.args memory.symbols) s.stands (lies_at_start m memory) (valid_safe m valid memory fits) (plain_text m plain) s.passed

pub can_run : ValidCanRun
unfolding module_actions
can_run m valid plain memory fits =
    let s = start_stands m valid memory fits in
    record {
      runs = along_map (Runs (slow_widths m.args)) CanTake (λ a s h. h.0) (module_actions m memory.symbols) (first_state memory) ((kept m valid plain memory fits).along (first_state memory) (typed_at_start m memory fits));
      held = reads_of_told (nest m.body) (start_around m) s.totals (start_env m.args memory.symbols) s.stands (valid_safe m valid memory fits) (plain_text m plain) s.passed (λ n. false) (arguments_cover m.args outside (λ n. false) (λ n. tt));
    }

-- ---- types

constant_fits : (a : Around) (p : Plain) (rest : Nest) → Holds a p rest → ConstantFits p
constant_fits a (Constant r z ty) rest k = range_of_test _ z k.constants
constant_fits a p rest k = tt

constants_of_told : (n : Nest) (a : Around) (t : Totals) → told n a ≡ Passed t → ConstantsFit n
unfolding told
constants_of_told Nothing a t h = tt
constants_of_told (Loop line v l u s body rest) a t h =
    let j = judged_passed line (rule_of_loop (counted a) v l u s) _ t h in
    let p = then_passed (told body (in_loop v l u (counted a))) (λ t. told rest (with_totals t a)) t j.1 in
    (constants_of_told body (in_loop v l u (counted a)) p.0 p.1, constants_of_told rest (with_totals p.0 a) t p.2)
constants_of_told (Branch line set names first has other rest) a t h =
    let j = judged_passed line (rule_of_condition (counted a) set names) _ t h in
    let p = then_passed (told first (in_condition (counted a))) (λ t. then_told (told other (in_condition (with_totals t a))) (λ u. told rest (with_totals u a))) t j.1 in
    let q = then_passed (told other (in_condition (with_totals p.0 a))) (λ u. told rest (with_totals u a)) t p.2 in
    (constants_of_told first (in_condition (counted a)) p.0 p.1, constants_of_told other (in_condition (with_totals p.0 a)) q.0 q.1, constants_of_told rest (with_totals q.0 a) t q.2)
constants_of_told (Does line p rest) a t h =
    let j = judged_passed line (rule_of_plain (counted a) p rest) _ t h in
    (constant_fits (counted a) p rest (plain_holds (counted a) p rest j.0), constants_of_told rest (behind_plain p (counted a)) t j.1)

pub fits_types : ValidFitsTypes
fits_types m valid plain memory fits =
    let s = start_stands m valid memory fits in
    record {
      constants = constants_of_told (nest m.body) (start_around m) s.totals s.passed;
      values = along_map (Runs (slow_widths m.args)) (ValuesFit (slow_widths m.args)) (λ a s h. h.1) (module_actions m memory.symbols) (first_state memory) ((kept m valid plain memory fits).along (first_state memory) (typed_at_start m memory fits));
    }

-- ---- the memory behind it

cells_behind : (m : Module) (o : Outcome State) → Ends (CellsFit (slow_widths m.args)) (Typed (slow_widths m.args) (start_around m).scope) o → CellsFit (slow_widths m.args) (state_of o).slow
cells_behind m (End s) h = h.cells
cells_behind m (Fault k s) h = h

pub stays_fitting : ValidStaysFitting
unfolding plain
stays_fitting m valid no_fault memory fits =
    let run = folded direct_step (module_actions m memory.symbols) (first_state memory) in
    let cells = cells_behind m run ((kept m valid no_fault memory fits).ends (first_state memory) (typed_at_start m memory fits)) in
    let r = arguments_refill m.args memory.memrefs memory.symbols (state_of run).slow fits.fits cells in
    record { fits = record { fits = r.0 }; is = r.1 }
