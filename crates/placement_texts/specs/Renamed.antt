-- A text with its names changed, one for one.
use Rattle.std.specs.Prelude.{◌≡◌, Bool, true, map, Option, Some, None}
use Rattle.affine_ast.specs.declared.name.Name.{Name}
use Rattle.affine_ast.specs.declared.types.Access.{Access}
use Rattle.affine_ast.specs.declared.types.Bound.{Bound}
use Rattle.affine_ast.specs.declared.types.Bound.TheVariants as bound
use Rattle.affine_ast.specs.Names.{same_name}
use Rattle.affine_ast.specs.Nest.{Plain, Nest, Nothing, Loop, Branch, Does, Value, Load, Store, RawLoad, RawStore, Constant, Binary, Cast, Alloc, Dealloc, Start, Wait, Return}
use Rattle.affine_ast.specs.Scope.{Around}
use Rattle.affine_ast.specs.Validity.{told}
use Rattle.direct_meaning.specs.Action.{Operand, Number, Register, Action, Sets, Loads, Stores, RawLoads, RawStores, Operates, Converts}
use Rattle.direct_meaning.specs.Actions.{actions}
use Rattle.direct_meaning.specs.Static.{Env}
use Rattle.placement_texts.specs.Own.{OwnNest}

module _ (f : Name → Name) where
  abbrev pub access_named : Access → Access
  access_named at = record { map = at.map; operands = map f at.operands }

  abbrev pub bound_named : Bound → Bound
  bound_named (bound.Int z) = bound.Int z
  bound_named (bound.Value n) = bound.Value (f n)
  bound_named (bound.Map at) = bound.Map (access_named at)

  abbrev pub pair_named : Option (Name × Name) → Option (Name × Name)
  pair_named None = None
  pair_named (Some two) = Some (f two.0, f two.1)

  abbrev pub plain_named : Plain → Plain
  plain_named (Value r pick at) = Value (f r) pick (access_named at)
  plain_named (Load r m at ty) = Load (f r) (f m) (access_named at) ty
  plain_named (Store x m at ty) = Store (f x) (f m) (access_named at) ty
  plain_named (RawLoad r m at ty) = RawLoad (f r) (f m) (map f at) ty
  plain_named (RawStore x m at ty) = RawStore (f x) (f m) (map f at) ty
  plain_named (Constant r z ty) = Constant (f r) z ty
  plain_named (Binary r op a b ty) = Binary (f r) op (f a) (f b) ty
  plain_named (Cast r kind x from to) = Cast (f r) kind (f x) from to
  plain_named (Alloc r ty) = Alloc (f r) ty
  plain_named (Dealloc m ty) = Dealloc (f m) ty
  plain_named (Start a a_at b b_at t t_at n stride types) = Start (f a) (access_named a_at) (f b) (access_named b_at)
      (f t) (access_named t_at) (f n) (pair_named stride) types
  plain_named (Wait t at n ty) = Wait (f t) (access_named at) (f n) ty
  plain_named Return = Return

  abbrev pub named : Nest → Nest
  named Nothing = Nothing
  named (Loop line v l u s body rest) = Loop line (f v) (bound_named l) (bound_named u) s (named body) (named rest)
  named (Branch line set names first has other rest) = Branch line set (map f names) (named first) has (named other)
      (named rest)
  named (Does line p rest) = Does line (plain_named p) (named rest)

  -- the same action, on the registers of these names
  abbrev pub operand_named : Operand → Operand
  operand_named (Number z) = Number z
  operand_named (Register n) = Register (f n)

  abbrev pub action_named : Action → Action
  action_named (Sets r z) = Sets (f r) z
  action_named (Loads r p) = Loads (f r) p
  action_named (Stores x p) = Stores (operand_named x) p
  action_named (RawLoads r home sizes at) = RawLoads (f r) home sizes (map operand_named at)
  action_named (RawStores x home sizes at) = RawStores (operand_named x) home sizes (map operand_named at)
  action_named (Operates r op bits a b) = Operates (f r) op bits (operand_named a) (operand_named b)
  action_named (Converts r kind from to x) = Converts (f r) kind from to (operand_named x)
  action_named a = a

  -- names of a text stay apart
  abbrev pub KeepsApart : (Name → Bool) → Type 0
  KeepsApart own = (a b : Name) → own a ≡ true → own b ≡ true → same_name (f a) (f b) ≡ same_name a b

  -- the new names stand for what the old ones do
  pub record RenamesEnv (own : Name → Bool) (e g : Env) : Type 0 where
    pub known : (n : Name) → own n ≡ true → g.known (f n) ≡ e.known n
    pub home : (n : Name) → own n ≡ true → g.home (f n) ≡ e.home n
    pub fasts : g.fasts ≡ e.fasts
    pub tags : g.tags ≡ e.tags

  pub record RenamesScope (own : Name → Bool) (a b : Around) : Type 0 where
    pub scope : (n : Name) → own n ≡ true → b.scope (f n) ≡ a.scope n
    pub released : (n : Name) → own n ≡ true → b.released (f n) ≡ a.released n
    pub loops : b.loops ≡ a.loops
    pub ifs : b.ifs ≡ a.ifs
    pub totals : b.totals ≡ a.totals

-- to be shown: the list of actions is the same up to names
abbrev pub ActionsNamed : Type 0
ActionsNamed = (f : Name → Name) (own : Name → Bool) (n : Nest) (e g : Env) → KeepsApart f own → OwnNest own n
    → RenamesEnv f own e g → actions (named f n) g ≡ map (action_named f) (actions n e)

-- to be shown: what is told of it is the same, with lines, rules and totals
abbrev pub ToldNamed : Type 0
ToldNamed = (f : Name → Name) (own : Name → Bool) (n : Nest) (a b : Around) → KeepsApart f own → OwnNest own n
    → RenamesScope f own a b → told (named f n) b ≡ told n a
