-- What the rewriting for a ring makes of the statements of a loop's body: of the placement's own template, before its loop and behind it,
-- and of all other statements.
use Rattle.std.specs.Prelude.{◌≡◌, ℕ, ℤ, pos, Bool, true, false, List, [], ◌∷◌, Option, if◌then◌else◌}
use Rattle.affine_ast.specs.declared.name.Name.{Name}
use Rattle.affine_ast.specs.declared.types.Bound.{Bound}
use Rattle.affine_ast.specs.Names.{same_name}
use Rattle.affine_ast.specs.Nest.{Plain, Nest, Nothing, Loop, Branch, Does, Load, Store, Constant, Alloc, Dealloc, Start, Wait}
use Rattle.placement_texts.specs.Mapped.{mapped}
use Rattle.placement_texts.specs.Own.{MadeNames}
use Rattle.placement_texts.specs.Template.{Placement, Transfers, before, begins, behind_loop, count_name, fast_at_zeros, fast_name, places_from, slow_at_places, slow_type, stride_of, tag_at_zero, tag_name}
use Rattle.ring_plans.specs.Rings.{all_in_ring, at_place, is_constant, is_memref, late_wait, ring_tags, ring_type, wait_for}

module _ (buffers : ℕ) (v : Name) (lower upper : Bound) (s : ℤ) (p : Placement) where
  -- a statement that allocates, releases, starts, waits for and fixes nothing of the placement's template
  abbrev pub Works : Plain → Type 0
  Works (Constant r z ty) = is_constant buffers v lower upper s p r ≡ false
  Works (Alloc r ty) = (same_name (tag_name p.name) r ≡ false) × (same_name (fast_name p.name) r ≡ false)
  Works (Dealloc m ty) = is_memref buffers v lower upper s p m ≡ false
  Works (Start a a_at b b_at t t_at n stride types) = same_name (tag_name p.name) t ≡ false
  Works (Wait t at n ty) = same_name (tag_name p.name) t ≡ false
  Works q = Unit {0}

  abbrev pub AllWork : Nest → Type 0
  AllWork Nothing = Unit {0}
  AllWork (Loop line w l u step body rest) = AllWork body × AllWork rest
  AllWork (Branch line set names first has other rest) = AllWork first × AllWork other × AllWork rest
  AllWork (Does line q rest) = Works q × AllWork rest

  -- a load or a store of the fast memref at the turn's place in the ring
  abbrev pub ring_access : Plain → Plain
  ring_access (Load r m at ty) =
      if same_name (fast_name p.name) m then Load r m (at_place buffers v lower upper s (pos 0) at) (ring_type buffers v lower upper s p) else Load r m at ty
  ring_access (Store x m at ty) =
      if same_name (fast_name p.name) m then Store x m (at_place buffers v lower upper s (pos 0) at) (ring_type buffers v lower upper s p) else Store x m at ty
  ring_access q = q

  -- the start out of the turn's place
  abbrev pub ring_start_out : Option (ℕ × ℕ) → Nest → Nest
  ring_start_out chunks rest = Does 0
      (Start (fast_name p.name) (at_place buffers v lower upper s (pos 0) (fast_at_zeros (begins p))) p.memref (slow_at_places (begins p)) (tag_name p.name) (at_place buffers v lower upper s (pos 0) tag_at_zero)
      (count_name p.name) (stride_of p chunks) (ring_type buffers v lower upper s p ∷ slow_type p ∷ ring_tags buffers v lower upper s ∷ [])) rest

-- what isn't of the template stays, and its loads and stores of the fast memref go to the turn's place
abbrev pub WorkInRing : Type 0
WorkInRing = (buffers : ℕ) (v : Name) (lower upper : Bound) (s : ℤ) (p : Placement) (n : Nest) → AllWork buffers v lower upper s p n
    → all_in_ring buffers v lower upper s p n ≡ mapped (ring_access buffers v lower upper s p) n

-- of the statements before the placement's loop those that say places stay; an inward placement waits for the transfer of the turn, which
-- was started ahead, an outward one for the one that left as many turns before as there are buffers
abbrev pub OpensInRing : Type 0
OpensInRing = (own : Name → Bool) (buffers : ℕ) (v : Name) (lower upper : Bound) (s : ℤ) (p : Placement) (chunks : Option (ℕ × ℕ)) (rest : Nest) → MadeNames own p.name → p.how ≡ Transfers chunks
    → all_in_ring buffers v lower upper s p (before p rest)
    ≡ places_from p.name 0 p.dims (if p.reads then wait_for buffers v lower upper s p (all_in_ring buffers v lower upper s p rest) else late_wait buffers v lower upper s p (all_in_ring buffers v lower upper s p rest))

-- of those behind it the start out stays, where there is one, and the wait for it stays where the placement is inward
abbrev pub ClosesInRing : Type 0
ClosesInRing = (own : Name → Bool) (buffers : ℕ) (v : Name) (lower upper : Bound) (s : ℤ) (p : Placement) (chunks : Option (ℕ × ℕ)) (rest : Nest) → MadeNames own p.name → own p.memref ≡ true → p.how ≡ Transfers chunks
    → all_in_ring buffers v lower upper s p (behind_loop p rest)
    ≡ (if p.writes
    then ring_start_out buffers v lower upper s p chunks (if p.reads then wait_for buffers v lower upper s p (all_in_ring buffers v lower upper s p rest) else all_in_ring buffers v lower upper s p rest)
    else all_in_ring buffers v lower upper s p rest)
