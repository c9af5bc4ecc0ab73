-- The registers that the actions of a text name are names of the text.
use Rattle.std.proofs.Common.{◌≡◌, ℤ, List, [], ◌∷◌, ◌++◌, map, Bool, true, false}
use Rattle.std.specs.Prelude.{flat_map, Option, Some, None, if◌then◌else◌}
use Rattle.affine_ast.specs.declared.name.Name.{Name}
use Rattle.affine_ast.specs.declared.types.Scalar.{Scalar}
use Rattle.affine_ast.specs.declared.types.Scalar.TheVariants as scalar
use Rattle.affine_ast.specs.Nest.{Plain, Nest, Nothing, Loop, Branch, Does, Value, Load, Store, RawLoad, RawStore, Constant, Binary, Cast, Alloc, Dealloc, Start, Wait, Return}
use Rattle.direct_meaning.specs.Turns.{turns}
use Rattle.direct_meaning.specs.Action.{Operand, Number, Register, Action, Known, Sets, Loads, Stores, RawLoads, RawStores, Operates, Converts, Allocates, Releases, AllocatesTags, ReleasesTags, Starts, Waits, Faults, Returns}
use Rattle.direct_meaning.specs.Static.{Env, knows, operand_of, operand, lower_of, upper_of, holds_at, tag_of}
use Rattle.direct_meaning.specs.Actions.{constant_of, layout_of, action_of, after_plain, behind, actions}
use Rattle.placement_texts.specs.Own.{OwnNames, OwnPlain, OwnNest}
use Rattle.rename_laws.proofs.Mute.{IsMute, mute_alloc, mute_dealloc, mute_start, mute_wait}

module _ (own : Name → Bool) where
  abbrev pub OwnOp : Operand → Type 0
  OwnOp (Number z) = Unit {0}
  OwnOp (Register n) = own n ≡ true

  abbrev pub OwnOps : List Operand → Type 0
  OwnOps [] = Unit {0}
  OwnOps (x ∷ xs) = OwnOp x × OwnOps xs

  abbrev pub OwnAct : Action → Type 0
  OwnAct (Sets r z) = own r ≡ true
  OwnAct (Loads r p) = own r ≡ true
  OwnAct (Stores x p) = OwnOp x
  OwnAct (RawLoads r home sizes at) = (own r ≡ true) × OwnOps at
  OwnAct (RawStores x home sizes at) = OwnOp x × OwnOps at
  OwnAct (Operates r op bits a b) = (own r ≡ true) × OwnOp a × OwnOp b
  OwnAct (Converts r kind from to x) = (own r ≡ true) × OwnOp x
  OwnAct a = Unit {0}

  abbrev pub OwnActs : List Action → Type 0
  OwnActs [] = Unit {0}
  OwnActs (a ∷ xs) = OwnAct a × OwnActs xs

  mute_own : (a : Action) → IsMute a → OwnAct a
  mute_own (Sets r z) h = absurd h
  mute_own (Loads r p) h = absurd h
  mute_own (Stores x p) h = absurd h
  mute_own (RawLoads r home sizes at) h = absurd h
  mute_own (RawStores x home sizes at) h = absurd h
  mute_own (Operates r op bits a b) h = absurd h
  mute_own (Converts r kind from to x) h = absurd h
  mute_own Known h = tt
  mute_own (Allocates number element sizes) h = tt
  mute_own (Releases number element sizes) h = tt
  mute_own (AllocatesTags first count) h = tt
  mute_own (ReleasesTags first count) h = tt
  mute_own (Starts t) h = tt
  mute_own (Waits tag count) h = tt
  mute_own (Faults k) h = tt
  mute_own Returns h = tt

  own_operand : (e : Env) (n : Name) → own n ≡ true → OwnOp (operand e n)
  own_operand e n o = by (e.known n)
    where
      by : (x : Option ℤ) → OwnOp (operand_of n x)
      by (Some z) = tt
      by None = o

  own_operands : (e : Env) (ns : List Name) → OwnNames own ns → OwnOps (map (operand e) ns)
  own_operands e [] o = tt
  own_operands e (n ∷ ns) o = (own_operand e n o.0, own_operands e ns o.1)

  own_constant : (r : Name) (z : ℤ) (ty : Scalar) → own r ≡ true → OwnAct (constant_of r z ty)
  own_constant r z (scalar.Int element) o = o
  own_constant r z scalar.Index o = tt

  own_action : (p : Plain) (e : Env) → OwnPlain own p → OwnAct (action_of p e)
  unfolding action_of
  own_action (Value x pick at) e o = tt
  own_action (Load x m at ty) e o = o.0
  own_action (Store x m at ty) e o = own_operand e x o.0
  own_action (RawLoad x m at ty) e o = (o.0, own_operands e at o.2)
  own_action (RawStore x m at ty) e o = (own_operand e x o.0, own_operands e at o.2)
  own_action (Constant x z ty) e o = own_constant x z ty o
  own_action (Binary x op a b ty) e o = (o.0, own_operand e a o.1, own_operand e b o.2)
  own_action (Cast x kind y from to) e o = (o.0, own_operand e y o.1)
  own_action (Alloc x ty) e o = mute_own _ (mute_alloc e ty)
  own_action (Dealloc m ty) e o = mute_own _ (mute_dealloc (e.home m) ty)
  own_action (Start a a_at b b_at t t_at n stride types) e o = mute_own _ (mute_start e a a_at b b_at t t_at (layout_of e n stride) types)
  own_action (Wait t at n ty) e o = mute_own _ (mute_wait (tag_of e t at ty) _)
  own_action Return e o = tt

  own_append : (xs ys : List Action) → OwnActs xs → OwnActs ys → OwnActs (xs ++ ys)
  own_append [] ys h k = k
  own_append (a ∷ xs) ys h k = (h.0, own_append xs ys h.1 k)

  own_turns : (h : ℤ → List Action) → ((z : ℤ) → OwnActs (h z)) → (ts : List ℤ) → OwnActs (flat_map h ts)
  own_turns h k [] = tt
  own_turns h k (t ∷ ts) = own_append (h t) (flat_map h ts) (k t) (own_turns h k ts)

  own_either : (t : Bool) (xs ys : List Action) → OwnActs xs → OwnActs ys → OwnActs (if t then xs else ys)
  own_either true xs ys h k = h
  own_either false xs ys h k = k

  pub own_actions : (n : Nest) (e : Env) → OwnNest own n → OwnActs (actions n e)
  unfolding actions
  own_actions Nothing e o = tt
  own_actions (Loop line v l u s body rest) e o =
      own_append _ _ (own_turns (λ t. actions body (knows e v t)) (λ t. own_actions body (knows e v t) o.3) (turns (lower_of e l) (upper_of e u) s)) (own_actions rest (behind body e) o.4)
  own_actions (Branch line set names first has other rest) e o =
      own_append _ _ (own_either (holds_at e set names) _ _ (own_actions first e o.1) (own_actions other (behind first e) o.2)) (own_actions rest (behind other (behind first e)) o.3)
  own_actions (Does line p rest) e o = (own_action p e o.0, own_actions rest (after_plain p e) o.1)
