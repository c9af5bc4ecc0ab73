-- The actions of a valid module are orderly.
use Rattle.std.proofs.Common.{◌≡◌, ℕ, ℤ, Bool, List, [], ◌∷◌, length, refl, sym, subst, arith}
use Rattle.std.specs.Prelude.{Option, Some, None}
use Rattle.std.proofs.lemmas.List.{append-nil}
use Rattle.affine_ast.specs.declared.image.Image.{Image}
use Rattle.affine_ast.specs.declared.module.Module.{Module}
use Rattle.affine_ast.specs.declared.name.Name.{Name}
use Rattle.affine_ast.specs.Nest.{nest}
use Rattle.affine_ast.specs.Scope.{Binding, Variable, Symbol, IndexConstant, Data, MemrefArgument, Allocation}
use Rattle.affine_ast.specs.Validity.{outside}
use Rattle.direct_meaning.specs.Action.{Home, SlowMemref, FastMemref, TagMemref, Action, Known, Sets, Loads, Stores, RawLoads, RawStores, Operates, Converts, Allocates, Releases, AllocatesTags, ReleasesTags, Starts, Waits, Faults, Returns}
use Rattle.direct_meaning.specs.Memory.{slow_list, empty_env, start_env, module_actions}
use Rattle.valid_laws.proofs.SafeStart.{start_around, start_stands, valid_safe}
use Rattle.valid_laws.proofs.Scoped.{Stands}
use Rattle.run_laws.specs.FitsTypes.{slow_widths}
use Rattle.run_laws.proofs.Memories.{memory_cells, arguments_lie}
use Rattle.run_laws.proofs.Typed.{Lies, MemrefsLie}
use Rattle.order_meaning.specs.Orderly.{Rooms, rooms_after, IsOrdered, IsOrderly}
use Rattle.order_meaning.proofs.AllOrders.{all_orders}
use Rattle.order_laws.specs.Law.{ValidIsOrderly, ValidOrdersAgree}
use Rattle.order_laws.proofs.Memrefs.{HomeOk, Homes}
use Rattle.order_laws.proofs.Deallocs.{IsAllocated}
use Rattle.order_laws.proofs.Rooms.{IsRoomed, AllRoomed, roomed}
use Rattle.order_laws.proofs.Tags.{IsReleasedLater, AllReleased, released}

-- ---- the two parts of an orderly list

ordered_of : (slow : ℕ) (rooms : Rooms) (a : Action) (more : List Action) → IsRoomed slow rooms a → IsReleasedLater a more → IsOrdered slow rooms a more
ordered_of slow rooms Known more h k = tt
ordered_of slow rooms (Sets r z) more h k = tt
ordered_of slow rooms (Loads r p) more h k = tt
ordered_of slow rooms (Stores x p) more h k = tt
ordered_of slow rooms (RawLoads r home sizes subscripts) more h k = tt
ordered_of slow rooms (RawStores x home sizes subscripts) more h k = tt
ordered_of slow rooms (Operates r op bits a b) more h k = tt
ordered_of slow rooms (Converts r kind from to x) more h k = tt
ordered_of slow rooms (Allocates number element sizes) more h k = h
ordered_of slow rooms (Releases number element sizes) more h k = tt
ordered_of slow rooms (AllocatesTags first count) more h k = tt
ordered_of slow rooms (ReleasesTags first count) more h k = tt
ordered_of slow rooms (Starts t) more h k = (h, k)
ordered_of slow rooms (Waits tag count) more h k = tt
ordered_of slow rooms (Faults f) more h k = tt
ordered_of slow rooms Returns more h k = tt

orderly_of : (slow : ℕ) (rooms : Rooms) (xs : List Action) → AllRoomed slow rooms xs → AllReleased xs [] → IsOrderly slow rooms xs
orderly_of slow rooms [] h k = tt
orderly_of slow rooms (a ∷ xs) h k = (ordered_of slow rooms a xs h.0 (subst (IsReleasedLater a) (append-nil xs) k.0), orderly_of slow (rooms_after rooms a) xs h.1 k.1)

-- ---- the start

home_at_start : (widths : List ℕ) (slow : ℕ) (rooms : Rooms) (fasts : ℕ) (b : Option Binding) (released : Bool) (known : Option ℤ) (home : Option Home) → length widths ≡ slow → Stands b known home → Lies widths b home → HomeOk slow rooms fasts b released home
home_at_start widths slow rooms fasts None released known home e s l = subst (HomeOk slow rooms fasts None released) (sym s.1) tt
home_at_start widths slow rooms fasts (Some (Variable r)) released known home e s l = subst (HomeOk slow rooms fasts (Some (Variable r)) released) (sym s.1) tt
home_at_start widths slow rooms fasts (Some (Symbol r)) released known home e s l = subst (HomeOk slow rooms fasts (Some (Symbol r)) released) (sym s.1) tt
home_at_start widths slow rooms fasts (Some (IndexConstant z)) released known home e s l = subst (HomeOk slow rooms fasts (Some (IndexConstant z)) released) (sym s.2) tt
home_at_start widths slow rooms fasts (Some (Data ty)) released known home e s l = subst (HomeOk slow rooms fasts (Some (Data ty)) released) (sym s.1) tt
home_at_start widths slow rooms fasts (Some (MemrefArgument ty)) released known None e s l = tt
home_at_start widths slow rooms fasts (Some (MemrefArgument ty)) released known (Some (SlowMemref number first)) e s l = let p = l.places in omega (arith, p, e)
home_at_start widths slow rooms fasts (Some (MemrefArgument ty)) released known (Some (FastMemref k)) e s l = absurd l
home_at_start widths slow rooms fasts (Some (MemrefArgument ty)) released known (Some (TagMemref first)) e s l = absurd l
home_at_start widths slow rooms fasts (Some (Allocation ty)) released known home e s l = absurd l

-- nothing is allocated
none_allocated : (widths : List ℕ) (slow : ℕ) (rooms : Rooms) (fasts : ℕ) (b : Option Binding) (released : Bool) (home : Option Home) → HomeOk slow rooms fasts b released home → Lies widths b home → IsAllocated home → ⊥
none_allocated widths slow rooms fasts b released None h l i = i
none_allocated widths slow rooms fasts b released (Some (SlowMemref number first)) h l i = i
none_allocated widths slow rooms fasts None released (Some (FastMemref k)) h l i = h
none_allocated widths slow rooms fasts (Some (Variable r)) released (Some (FastMemref k)) h l i = h
none_allocated widths slow rooms fasts (Some (Symbol r)) released (Some (FastMemref k)) h l i = h
none_allocated widths slow rooms fasts (Some (IndexConstant z)) released (Some (FastMemref k)) h l i = h
none_allocated widths slow rooms fasts (Some (Data ty)) released (Some (FastMemref k)) h l i = h
none_allocated widths slow rooms fasts (Some (MemrefArgument ty)) released (Some (FastMemref k)) h l i = h
none_allocated widths slow rooms fasts (Some (Allocation ty)) released (Some (FastMemref k)) h l i = l
none_allocated widths slow rooms fasts None released (Some (TagMemref k)) h l i = h
none_allocated widths slow rooms fasts (Some (Variable r)) released (Some (TagMemref k)) h l i = h
none_allocated widths slow rooms fasts (Some (Symbol r)) released (Some (TagMemref k)) h l i = h
none_allocated widths slow rooms fasts (Some (IndexConstant z)) released (Some (TagMemref k)) h l i = h
none_allocated widths slow rooms fasts (Some (Data ty)) released (Some (TagMemref k)) h l i = h
none_allocated widths slow rooms fasts (Some (MemrefArgument ty)) released (Some (TagMemref k)) h l i = h
none_allocated widths slow rooms fasts (Some (Allocation ty)) released (Some (TagMemref k)) h l i = l

lies_at_start : (m : Module) (memory : Image) → MemrefsLie (slow_widths m.args) (start_around m).scope (start_env m.args memory.symbols).home
unfolding start_env
lies_at_start m memory = arguments_lie m.args outside (record { env = empty_env; memrefs = 0; elements = 0; symbols = memory.symbols }) [] refl (λ n. tt)

pub valid_orderly : ValidIsOrderly
unfolding module_actions
valid_orderly m valid memory fits =
    let s = start_stands m valid memory fits in
    let lies = lies_at_start m memory in
    let slow : ℕ = length (slow_list memory.memrefs) in
    let e = start_env m.args memory.symbols in
    let a = start_around m in
    let long : length (slow_widths m.args) ≡ slow = sym (memory_cells m.args memory.memrefs memory.symbols fits.fits).long in
    let none : Rooms = λ n. None in
    let each : (n : Name) → HomeOk slow none e.fasts (a.scope n) (a.released n) (e.home n) = λ n. home_at_start (slow_widths m.args) slow none e.fasts (a.scope n) (a.released n) (e.known n) (e.home n) long (s.stands n) (lies n) in
    let nothing : (n : Name) → IsAllocated (e.home n) → ⊥ = λ n i. none_allocated (slow_widths m.args) slow none e.fasts (a.scope n) (a.released n) (e.home n) (each n) (lies n) i in
    let homes : Homes slow none a.scope a.released e = record { each = each; fresh = λ k l. refl; single = λ x y k p q. absurd (nothing x (subst IsAllocated (sym p) tt)) } in
    let safe = valid_safe m valid memory fits in
    orderly_of slow none (module_actions m memory.symbols)
    (roomed slow (nest m.body) a s.totals e none s.stands safe homes (λ n i. absurd (nothing n i)) s.passed).all
    (released slow (nest m.body) a s.totals e none [] s.stands safe homes s.passed (λ n ty first bound home live. absurd (nothing n (subst IsAllocated (sym home) tt))))

pub valid_orders : ValidOrdersAgree
valid_orders m valid memory fits filler capacity engines some = all_orders filler capacity (module_actions m memory.symbols) memory engines some (valid_orderly m valid memory fits)
