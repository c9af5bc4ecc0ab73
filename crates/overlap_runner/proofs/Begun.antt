-- A run at its first action.
use Rattle.std.proofs.Common.{◌≡◌, ℕ, zero, suc, ◌+◌, ◌<◌, ◌≤◌, ◌^◌, ℤ, pos, List, [], ◌∷◌, length, replicate, refl, sym, ap, ◌∙◌, subst, arith}
use Rattle.std.specs.Prelude.{Option, Some, None, slice_get, slice_index_or, map}
use Rattle.std.specs.List.{All, remove, range_with_len}
use Rattle.std.proofs.lemmas.List.Elements.{All-cons}
use Rattle.std.proofs.lemmas.List.Edits.{length-remove}
use Rattle.std.proofs.lemmas.List.FromFn.{length-map-range_with_len}
use Rattle.affine_ast.specs.declared.image.Cells.{Cells}
use Rattle.affine_ast.specs.declared.image.Image.{Image}
use Rattle.affine_ast.specs.declared.module.Module.{Module}
use Rattle.affine_ast.specs.Nest.{nest}
use Rattle.affine_ast.specs.Validity.{IsValid}
use Rattle.bus_model.specs.declared.step.Verdict.{Verdict}
use Rattle.direct_meaning.specs.Action.{Action}
use Rattle.direct_meaning.specs.Actions.{tags_in, actions}
use Rattle.direct_meaning.specs.Direct.{Outcome, folded, verdict_of, state_of}
use Rattle.direct_meaning.specs.Memory.{Fits, module_actions, slow_list, start_env}
use Rattle.fast_halves.specs.Shape.{HalfShape, HalvesShape, here, away}
use Rattle.prompt_semantics.specs.Device as model
use Rattle.prompt_semantics.specs.Prompt.{prompt_step, first_device, prompt, prompt_slow}
use Rattle.valid_laws.specs.Safe.{SafeNest}
use Rattle.valid_laws.proofs.SafeStart.{valid_safe}
use Rattle.run_laws.specs.StaysFitting.{refilled, with_slow}
use Rattle.run_parts.specs.Registered.{values_of}
use Rattle.walk_program.specs.declared.program.Program.{Program}
use Rattle.walk_program.specs.Reading.{nest_of, arguments_of}
use Rattle.walk_program.specs.Tree.{tree}
use Rattle.nest_walk.specs.Walked.{Walked, Begins}
use Rattle.prompt_laws.specs.Along.{Along}
use Rattle.prompt_laws.specs.Law.{RunsPromptly as Law}
use Rattle.prompt_laws.specs.Reaches.{CanAct}
use Rattle.prompt_laws.specs.Rooms.{Room, room_at, rooms_in, module_rooms}
use Rattle.prompt_laws.proofs.Conclusions.{runs_promptly}
use Rattle.order_meaning.specs.Orderly.{IsOrderly}
use Rattle.order_laws.proofs.Valid.{valid_orderly}
use Rattle.transfer_laws.specs.Law.{AllWithin}
use Rattle.transfer_laws.proofs.Valid.{valid_transfers}
use Rattle.tag_table.specs.Shapes.{BusShape, EngineShape, IsIdle, fresh_engine}
use Rattle.overlap_memory.specs.Tied.{Tied, FastShape, memref_at, half_at, tag_of}
use Rattle.overlap_memory.specs.First.{IsFirst, shape_at_first}
use Rattle.overlap_memory.proofs.Begins.{first_is_first}
use Rattle.overlap_runner.specs.declared.device.Device.{Device}
use Rattle.overlap_runner.specs.Preparation.{IsProgramOf, Run, RunsPromptly, Begun, IsPrepared}
use Rattle.fast_rooms.specs.Rooms.{HasRoom, HaveRooms}
use Rattle.overlap_runner.specs.Rooms.{AreRooms}
use Rattle.overlap_runner.specs.Runs.{StandsAt, Stands, Ends, EndsFrom}

-- ---- the halves

in_equals : (n : ℕ) (v : HalfShape) (k : ℕ) (w : HalfShape) → slice_get (replicate n v) k ≡ Some w → w ≡ v
in_equals zero v k w e = absurd (cc)
in_equals (suc n) v zero w e = cc
in_equals (suc n) v (suc k) w e = in_equals n v k w e

as_many : {A : Type 0} (n : ℕ) (v : A) → length (replicate n v) ≡ n
as_many zero v = refl
as_many (suc n) v = ap suc (as_many n v)

tag_of_here : (o : Option HalfShape) (c : List ℤ) → ((w : HalfShape) → o ≡ Some w → w ≡ here c) → tag_of o ≡ None
tag_of_here None c h = refl
tag_of_here (Some (here d)) c h = refl
tag_of_here (Some (away tag)) c h = let p : away tag ≡ here c = h (away tag) refl in absurd (cc)

same_here : (c d : List ℤ) → here c ≡ here d → c ≡ d
same_here c d e = cc

half_is : (room : Room) (m : HalvesShape) → HasRoom room m → (half : ℕ) (w : HalfShape) → slice_get m.halves half ≡ Some w → w ≡ here (replicate room.cells (pos 0))
half_is room m h half w e = in_equals room.halves (here (replicate room.cells (pos 0))) half w (ap (λ hs. slice_get hs half) (sym h.halves_are) ∙ e)

none_there : (half : ℕ) (w : HalfShape) → slice_get [] half ≡ Some w → ⊥
none_there half w e = cc

pub none_away : (rooms : List Room) (ms : List HalvesShape) → HaveRooms rooms ms → (number half : ℕ) → tag_of (half_at ms number half) ≡ None
none_away [] [] h number half = refl
none_away [] (m ∷ ms) h number half = absurd h
none_away (r ∷ rooms) [] h number half = absurd h
none_away (r ∷ rooms) (m ∷ ms) h zero half = tag_of_here (slice_get m.halves half) (replicate r.cells (pos 0)) (λ w e. half_is r m h.0 half w e)
none_away (r ∷ rooms) (m ∷ ms) h (suc number) half = none_away rooms ms h.1 number half

pub all_whole : (rooms : List Room) (ms : List HalvesShape) → HaveRooms rooms ms → (number half : ℕ) (cells : List ℤ) → half_at ms number half ≡ Some (here cells) → length cells ≡ (memref_at ms number).cells
all_whole [] [] h number half cells e = absurd (none_there half (here cells) e)
all_whole [] (m ∷ ms) h number half cells e = absurd h
all_whole (r ∷ rooms) [] h number half cells e = absurd h
all_whole (r ∷ rooms) (m ∷ ms) h zero half cells e =
    ap (λ l. length l) (same_here cells (replicate r.cells (pos 0)) (half_is r m h.0 half (here cells) e)) ∙ as_many r.cells (pos 0) ∙ sym h.0.cells_are
all_whole (r ∷ rooms) (m ∷ ms) h (suc number) half cells e = all_whole rooms ms h.1 number half cells e

as_many_rooms : (rooms : List Room) (ms : List HalvesShape) → HaveRooms rooms ms → length ms ≡ length rooms
as_many_rooms [] [] h = refl
as_many_rooms [] (m ∷ ms) h = absurd h
as_many_rooms (r ∷ rooms) [] h = absurd h
as_many_rooms (r ∷ rooms) (m ∷ ms) h = ap suc (as_many_rooms rooms ms h.1)

same_cells : (rooms : List Room) (ms : List HalvesShape) → HaveRooms rooms ms → (n : ℕ) → (memref_at ms n).cells ≡ (room_at rooms n).cells
same_cells [] [] h n = refl
same_cells [] (m ∷ ms) h n = absurd h
same_cells (r ∷ rooms) [] h n = absurd h
same_cells (r ∷ rooms) (m ∷ ms) h zero = h.0.cells_are
same_cells (r ∷ rooms) (m ∷ ms) h (suc n) = same_cells rooms ms h.1 n

same_halves : (rooms : List Room) (ms : List HalvesShape) → HaveRooms rooms ms → (n : ℕ) → length (memref_at ms n).halves ≡ (room_at rooms n).halves
same_halves [] [] h n = refl
same_halves [] (m ∷ ms) h n = absurd h
same_halves (r ∷ rooms) [] h n = absurd h
same_halves (r ∷ rooms) (m ∷ ms) h zero = ap (λ hs. length hs) h.0.halves_are ∙ as_many r.halves (here (replicate r.cells (pos 0)))
same_halves (r ∷ rooms) (m ∷ ms) h (suc n) = same_halves rooms ms h.1 n

none_known : (c k : ℕ) → None ≡ Some c → c ≡ k
none_known c k e = absurd (cc)

rooms_at_first : (rooms : List Room) (ms : List HalvesShape) → HaveRooms rooms ms → AreRooms rooms (shape_at_first ms)
rooms_at_first rooms ms h = record { count = as_many_rooms rooms ms h; cells = same_cells rooms ms h; halves = same_halves rooms ms h; known = λ n c e. none_known c _ e }

-- ---- the seats

pub idle_each : (bus : BusShape) (n from : ℕ) → All (IsIdle bus.id) (map (fresh_engine bus.id) (range_with_len from n))
idle_each bus zero from = λ k d lt. absurd (omega (arith, lt))
idle_each bus (suc n) from = All-cons (IsIdle bus.id) (fresh_engine bus.id from) (map (fresh_engine bus.id) (range_with_len (from + 1) n)) (refl, refl) (idle_each bus n (from + 1))

-- the first one, and the others
pub idle_first : (bus : BusShape) (seats : List EngineShape) (first : EngineShape) → All (IsIdle bus.id) seats → 0 < length seats → first ≡ slice_index_or seats 0 first → IsIdle bus.id first
idle_first bus seats first h lt is = subst (IsIdle bus.id) (sym is) (h 0 first lt)

pub idle_rest : (bus : BusShape) (seats : List EngineShape) → All (IsIdle bus.id) seats → All (IsIdle bus.id) (remove seats 0)
idle_rest bus [] h = λ k d lt. absurd (omega (arith, lt))
idle_rest bus (s ∷ seats) h = λ k d lt. h (suc k) d (omega (arith, lt))

-- the seats of a new bus but the first
pub seats_left : (bus : BusShape) (n : ℕ) (seats rest : List EngineShape) → 1 ≤ n → seats ≡ map (fresh_engine bus.id) (range_with_len 0 n) → rest ≡ remove seats 0 → All (IsIdle bus.id) rest × (length rest + 1 ≡ n)
seats_left bus n seats rest some all left =
    let idle = subst (All (IsIdle bus.id)) (sym all) (idle_each bus n 0) in
    let long = ap (λ l. length l) all ∙ length-map-range_with_len (fresh_engine bus.id) 0 n in
    let fewer = length-remove seats 0 (omega (arith, long, some)) in
    let same = ap (λ l. length l) left in
    (subst (All (IsIdle bus.id)) (sym left) (idle_rest bus seats idle), omega (arith, long, fewer, same))

-- ---- the run

module _ (m : Module) (valid : IsValid m) (memory : Image) (fits : Fits m memory) (filler : ℤ) (capacity : ℕ) where
  law : Law m memory filler capacity
  law = runs_promptly m valid memory fits filler capacity

  pub stands_at_first : (bus : BusShape) (ms : List HalvesShape) (d : Device) (left : List Action) → d.filler ≡ filler → d.capacity ≡ capacity → Tied bus (shape_at_first ms) d.memory (first_device memory) → values_of d.registers ≡ (λ n. pos 0)
      → HaveRooms (module_rooms m) ms → bus.words ≡ length (slow_list memory.memrefs) → bus.tags ≡ tags_in (nest m.body) → left ≡ module_actions m memory.symbols
      → StandsAt bus (module_rooms m) (shape_at_first ms) (first_device memory) left d
  stands_at_first bus ms d left f c tied registers have words tags all = record {
    at = record { tied = tied; registers = registers };
    are = rooms_at_first (module_rooms m) ms have;
    along = subst (λ z. z) (λ i. Along (prompt_step (sym f i) (sym c i)) (CanAct (module_rooms m) (sym c i)) (sym all i) (first_device memory)) law.runs;
    orderly = subst (λ z. z) (λ i. IsOrderly (sym words i) (λ n. None) (sym all i)) (valid_orderly m valid memory fits);
    within = subst (λ z. z) (λ i. AllWithin (sym tags i) (sym all i)) (valid_transfers m valid memory fits);
  }

  run_is : folded (prompt_step filler capacity) (module_actions m memory.symbols) (first_device memory) ≡ prompt m memory filler capacity
  unfolding prompt
  run_is = refl

  module _ (engines : ℕ) (f : ℤ) (c : ℕ) (same_filler : f ≡ filler) (same_capacity : c ≡ capacity) (left : List Action) (all : left ≡ module_actions m memory.symbols) where
    abbrev pub whole : Outcome model.Device
    whole = folded (prompt_step f c) left (first_device memory)

    pub whole_is : whole ≡ prompt m memory filler capacity
    whole_is = (λ i. folded (prompt_step (same_filler i) (same_capacity i)) (all i) (first_device memory)) ∙ run_is

    pub runs : (verdict : Verdict) (cells : List Cells) (words : List ℤ) (old : List Cells) → verdict ≡ verdict_of whole → words ≡ (state_of whole).state.slow → old ≡ memory.memrefs → cells ≡ refilled old words
        → RunsPromptly (record { module_ = m; image = memory; filler = filler; capacity = capacity; engines = engines }) verdict (record { memrefs = cells; symbols = memory.symbols })
    runs verdict cells words old verdict_is slow same after =
        let image : record { memrefs = cells; symbols = memory.symbols } ≡ with_slow memory (prompt_slow (prompt m memory filler capacity)) =
        λ i. record { memrefs = (after ∙ (λ i. refilled (same i) ((slow ∙ ap (λ (o : Outcome model.Device). (state_of {S = model.Device} o).state.slow) whole_is) i))) i; symbols = memory.symbols } in
        record {
          verdict_is = verdict_is ∙ ap (λ (o : Outcome model.Device). verdict_of {S = model.Device} o) whole_is;
          memory_is = image;
          fits = subst (Fits m) (sym image) law.fits.fits;
        }

-- ---- a run that is prepared

module _ (m : Module) (valid : IsValid m) (image : Image) (fits : Fits m image) (program : Program) (of : IsProgramOf program m) where
  left_is : (left : List Action) → left ≡ actions (nest_of program.names (tree program.body)) (start_env (arguments_of program.names program.arguments) image.symbols) → left ≡ module_actions m image.symbols
  unfolding module_actions
  left_is left all = all ∙ (λ i. actions (of.body i) (start_env (of.arguments i) image.symbols))

  pub safe : (symbols : List ℤ) → symbols ≡ image.symbols → SafeNest (nest_of program.names (tree program.body)) (start_env (arguments_of program.names program.arguments) symbols)
  safe symbols same = subst (λ z. z) (λ i. SafeNest (sym of.body i) (start_env (sym of.arguments i) (sym same i))) (valid_safe m valid image fits)

  pub prepared : (filler : ℤ) (capacity engines : ℕ) (bus : BusShape) (walk : Walked) (device : Device) (seats : List EngineShape) (memrefs : List Cells) (words : List ℤ) → device.filler ≡ filler → device.capacity ≡ capacity → device.registers.names ≡ program.names
      → values_of device.registers ≡ (λ n. pos 0) → Begins program image.symbols walk → words ≡ slow_list image.memrefs → memrefs ≡ image.memrefs → bus.words ≡ length words → bus.tags ≡ program.inside.tags → Begun bus (rooms_in (nest_of program.names (tree program.body))) words device.memory
      → All (IsIdle bus.id) seats → length seats + 1 ≡ engines → engines < 2 ^ 32
      → IsPrepared (record { module_ = m; image = image; filler = filler; capacity = capacity; engines = engines }) bus walk device seats memrefs words
  prepared filler capacity engines bus walk device seats memrefs words f c names values begins words_are memrefs_are long tags begun idle many few = record {
    valid = valid;
    fits = fits;
    filler = f;
    capacity = c;
    names = names ∙ sym begins.names;
    left = left_is walk.left begins.left;
    shape = shape_at_first begun.halves;
    stands = stands_at_first m valid image fits filler capacity bus begun.halves device walk.left f c (begun.tied (first_device image) (subst (λ ws. IsFirst ws (first_device image)) (sym words_are) (first_is_first image))) values
        (subst (λ n. HaveRooms (rooms_in n) begun.halves) of.body begun.have) (long ∙ ap (λ ws. length ws) words_are) (tags ∙ of.made.inside.tags ∙ ap tags_in of.body) (left_is walk.left begins.left);
    engines_idle = idle;
    engines_are = many;
    few = few;
    memrefs_are = memrefs_are;
    words_are = sym long;
  }

-- ---- the run of one

module _ (run : Run) (bus : BusShape) (walk : Walked) (device : Device) (seats : List EngineShape) (memrefs : List Cells) (words : List ℤ) (p : IsPrepared run bus walk device seats memrefs words) where
  pub stands : Stands bus walk.left device
  stands = record { rooms = module_rooms run.module_; shape = p.shape; state = first_device run.image; at = p.stands }

  -- the memory has as many words as the image
  pub words_enough : (new : List ℤ) → length new ≡ length words → length (slow_list memrefs) ≤ length new
  words_enough new same =
      let a = p.words_are in
      let b = p.stands.at.tied.sized in
      let c = ap (λ l. length l) p.stands.at.tied.slow in
      let d = ap (λ ms. length (slow_list ms)) p.memrefs_are in
      omega (arith, same, a, b, c, d)

  pub outcome : (verdict : Verdict) (after : Device) → EndsFrom bus walk.left device verdict after → Ends bus verdict (folded (prompt_step device.filler device.capacity) walk.left (first_device run.image)) after
  outcome verdict after ends = ends.from (module_rooms run.module_) p.shape (first_device run.image) p.stands

  pub run_done : (verdict : Verdict) (after : Device) (cells : List Cells) (new : List ℤ) → EndsFrom bus walk.left device verdict after
      → ((shape : FastShape) (y : model.Device) → Tied bus shape after.memory y → new ≡ y.state.slow) → cells ≡ refilled memrefs new → RunsPromptly run verdict (record { memrefs = cells; symbols = run.image.symbols })
  run_done verdict after cells new ends closed filled =
      let o = outcome verdict after ends in
      runs run.module_ p.valid run.image p.fits run.filler run.capacity run.engines device.filler device.capacity p.filler p.capacity walk.left p.left verdict cells new memrefs o.verdict_is (closed o.shape _ o.tied) p.memrefs_are filled
