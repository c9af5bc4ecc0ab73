-- Starts between two memrefs.
use Rattle.std.proofs.Common.{◌≡◌, ℕ, ◌+◌, ◌<◌, ◌≤◌, ◌^◌, length, sym, ap, subst, arith, false}
use Rattle.std.specs.Prelude.{Option, Some, None}
use Rattle.affine_ast.specs.declared.types.MemrefType.{MemrefType}
use Rattle.affine_ast.specs.Sizes.{product}
use Rattle.direct_meaning.specs.Action.{Home, SlowMemref, FastMemref, TagMemref, Place}
use Rattle.direct_meaning.specs.Actions.{Layout, transfer_of, start_between}
use Rattle.valid_laws.specs.Safe.{StandsFor, IsMemref}

-- a memref in space 1 has its halves
pub fast_rank : (home : Option Home) (ty : MemrefType) → IsMemref home ty → ty.space ≡ 1 → 1 ≤ length ty.sizes
fast_rank home ty h one = by_home home h.stands
  where
    by_home : (home : Option Home) → StandsFor home ty → 1 ≤ length ty.sizes
    by_home None h = absurd h
    by_home (Some (SlowMemref number first)) h = absurd (omega (arith, h.space, one))
    by_home (Some (FastMemref number)) h = h.has_halves
    by_home (Some (TagMemref first)) h = absurd (omega (arith, h.space, one))

pub slow_space : (home : Option Home) (ty : MemrefType) (number first : ℕ) → Some (SlowMemref number first) ≡ home → IsMemref home ty → (ty.space ≡ 0) × (first + product ty.sizes < 2 ^ 32)
slow_space home ty number first is h = let s = subst (λ home. StandsFor home ty) (sym is) h.stands in (s.space, omega (arith, s.places_fit))

-- outgoing, where the first end isn't slow
pub outgoing : (from to : Option Home) (a b : Place) (from_ty to_ty : MemrefType) (layout : Layout) (tag : Option ℕ) (number first : ℕ) → Some (SlowMemref number first) ≡ to → from_ty.space ≡ 1 → StandsFor from from_ty
    → transfer_of false number first to_ty from_ty layout b a tag ≡ start_between from to a b from_ty to_ty layout tag
outgoing None to a b from_ty to_ty layout tag number first is one stands = absurd stands
outgoing (Some (SlowMemref n f)) to a b from_ty to_ty layout tag number first is one stands = absurd (omega (arith, stands.space, one))
outgoing (Some (FastMemref n)) to a b from_ty to_ty layout tag number first is one stands = ap (λ t. start_between (Some (FastMemref n)) t a b from_ty to_ty layout tag) is
outgoing (Some (TagMemref f)) to a b from_ty to_ty layout tag number first is one stands = absurd (omega (arith, stands.space, one))

pub ruleset ends = (fast_rank, slow_space)
