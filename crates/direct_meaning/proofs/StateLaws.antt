-- What an action leaves as it was.
use Rattle.std.proofs.Common.{◌≡◌, ℕ, ℤ, pos, length, length-set, get_or, refl, sym, ap, Bool, false}
use Rattle.std.specs.Prelude.{Option, Some, None}
use Rattle.std.proofs.lemmas.List.{get_or-set_other}
use Rattle.affine_ast.specs.declared.name.Name.{Name}
use Rattle.affine_ast.specs.Names.{same_name}
use Rattle.affine_ast.proofs.Names.{put-other}
use Rattle.int_ops.specs.Operation.{operation}
use Rattle.direct_meaning.specs.Action.{Place, Slow, Fast, Outside, Action, Known, Sets, Loads, Stores, RawLoads, RawStores, Operates, Converts, Allocates, Releases, AllocatesTags, ReleasesTags, Starts, Waits, Faults, Returns}
use Rattle.direct_meaning.specs.Direct.{State, state_of, read, raw_place, direct_load, direct_store, keep_result, direct_step}

-- whether an action gives a name a new value
abbrev pub sets : Action → Name → Bool
sets (Sets r z) n = same_name r n
sets (Loads r place) n = same_name r n
sets (RawLoads r home sizes subscripts) n = same_name r n
sets (Operates r op bits a b) n = same_name r n
sets (Converts r kind from to x) n = same_name r n
sets a n = false

-- where an action stores, in this state
abbrev pub stores_at : Action → State → Place
stores_at (Stores x place) s = place
stores_at (RawStores x home sizes subscripts) s = raw_place s.registers home sizes subscripts
stores_at a s = Outside

load_registers : (r n : Name) (p : Place) (s : State) → same_name r n ≡ false → (state_of (direct_load r p s)).registers n ≡ s.registers n
load_registers r n (Slow p) s h = put-other s.registers r _ n h
load_registers r n (Fast number half cell) s h = refl
load_registers r n Outside s h = refl

load_slow : (r : Name) (p : Place) (s : State) → (state_of (direct_load r p s)).slow ≡ s.slow
load_slow r (Slow p) s = refl
load_slow r (Fast number half cell) s = refl
load_slow r Outside s = refl

store_registers : (z : ℤ) (p : Place) (s : State) → (state_of (direct_store z p s)).registers ≡ s.registers
store_registers z (Slow p) s = refl
store_registers z (Fast number half cell) s = refl
store_registers z Outside s = refl

store_long : (z : ℤ) (p : Place) (s : State) → length (state_of (direct_store z p s)).slow ≡ length s.slow
store_long z (Slow p) s = length-set s.slow p z
store_long z (Fast number half cell) s = refl
store_long z Outside s = refl

store_slow : (z : ℤ) (p : Place) (q : ℕ) (s : State) → (p ≡ Slow q → ⊥) → get_or (state_of (direct_store z p s)).slow q (pos 0) ≡ get_or s.slow q (pos 0)
store_slow z (Slow p) q s h = get_or-set_other s.slow p q z (pos 0) (λ e. h (ap Slow (sym e)))
store_slow z (Fast number half cell) q s h = refl
store_slow z Outside q s h = refl

result_registers : (r n : Name) (o : Option ℤ) (s : State) → same_name r n ≡ false → (state_of (keep_result r o s)).registers n ≡ s.registers n
result_registers r n (Some z) s h = put-other s.registers r z n h
result_registers r n None s h = refl

result_slow : (r : Name) (o : Option ℤ) (s : State) → (state_of (keep_result r o s)).slow ≡ s.slow
result_slow r (Some z) s = refl
result_slow r None s = refl

-- an action changes no name but its result
pub direct_registers : (a : Action) (s : State) (n : Name) → sets a n ≡ false → (state_of (direct_step a s)).registers n ≡ s.registers n
unfolding direct_step
direct_registers Known s n h = refl
direct_registers (Sets r z) s n h = put-other s.registers r z n h
direct_registers (Loads r p) s n h = load_registers r n p s h
direct_registers (Stores x p) s n h = ap (λ f. f n) (store_registers _ p s)
direct_registers (RawLoads r home sizes subscripts) s n h = load_registers r n (raw_place s.registers home sizes subscripts) s h
direct_registers (RawStores x home sizes subscripts) s n h = ap (λ f. f n) (store_registers _ (raw_place s.registers home sizes subscripts) s)
direct_registers (Operates r op bits a b) s n h = result_registers r n (operation op bits (read s.registers a) (read s.registers b)) s h
direct_registers (Converts r kind from to x) s n h = put-other s.registers r _ n h
direct_registers (Allocates number element sizes) s n h = refl
direct_registers (Releases number element sizes) s n h = refl
direct_registers (AllocatesTags first count) s n h = refl
direct_registers (ReleasesTags first count) s n h = refl
direct_registers (Starts t) s n h = refl
direct_registers (Waits tag count) s n h = refl
direct_registers (Faults k) s n h = refl
direct_registers Returns s n h = refl

-- an action changes no slow place but the one that it stores at
pub direct_slow : (a : Action) (s : State) (q : ℕ) → (stores_at a s ≡ Slow q → ⊥) → get_or (state_of (direct_step a s)).slow q (pos 0) ≡ get_or s.slow q (pos 0)
unfolding direct_step
direct_slow Known s q h = refl
direct_slow (Sets r z) s q h = refl
direct_slow (Loads r p) s q h = ap (λ l. get_or l q (pos 0)) (load_slow r p s)
direct_slow (Stores x p) s q h = store_slow _ p q s h
direct_slow (RawLoads r home sizes subscripts) s q h = ap (λ l. get_or l q (pos 0)) (load_slow r (raw_place s.registers home sizes subscripts) s)
direct_slow (RawStores x home sizes subscripts) s q h = store_slow _ (raw_place s.registers home sizes subscripts) q s h
direct_slow (Operates r op bits a b) s q h = ap (λ l. get_or l q (pos 0)) (result_slow r (operation op bits (read s.registers a) (read s.registers b)) s)
direct_slow (Converts r kind from to x) s q h = refl
direct_slow (Allocates number element sizes) s q h = refl
direct_slow (Releases number element sizes) s q h = refl
direct_slow (AllocatesTags first count) s q h = refl
direct_slow (ReleasesTags first count) s q h = refl
direct_slow (Starts t) s q h = refl
direct_slow (Waits tag count) s q h = refl
direct_slow (Faults k) s q h = refl
direct_slow Returns s q h = refl

-- and not the length of the slow list
pub direct_long : (a : Action) (s : State) → length (state_of (direct_step a s)).slow ≡ length s.slow
unfolding direct_step
direct_long Known s = refl
direct_long (Sets r z) s = refl
direct_long (Loads r p) s = ap length (load_slow r p s)
direct_long (Stores x p) s = store_long _ p s
direct_long (RawLoads r home sizes subscripts) s = ap length (load_slow r (raw_place s.registers home sizes subscripts) s)
direct_long (RawStores x home sizes subscripts) s = store_long _ (raw_place s.registers home sizes subscripts) s
direct_long (Operates r op bits a b) s = ap length (result_slow r (operation op bits (read s.registers a) (read s.registers b)) s)
direct_long (Converts r kind from to x) s = refl
direct_long (Allocates number element sizes) s = refl
direct_long (Releases number element sizes) s = refl
direct_long (AllocatesTags first count) s = refl
direct_long (ReleasesTags first count) s = refl
direct_long (Starts t) s = refl
direct_long (Waits tag count) s = refl
direct_long (Faults k) s = refl
direct_long Returns s = refl
