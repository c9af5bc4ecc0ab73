-- The body of a loop with several doubled placements, piece by piece.
use Rattle.std.specs.Prelude.{◌≡◌, ◌⊎◌, ℕ, ℤ, Bool, true, false, List, [], ◌∷◌, Option, None, if◌then◌else◌}
use Rattle.affine_ast.specs.declared.name.Name.{Name}
use Rattle.affine_ast.specs.declared.types.Bound.{Bound}
use Rattle.affine_ast.specs.Names.{same_name}
use Rattle.affine_ast.specs.Nest.{Plain, Nest, Nothing, followed_by}
use Rattle.placement_texts.specs.Mapped.{mapped}
use Rattle.placement_texts.specs.Own.{MadeNames}
use Rattle.placement_texts.specs.Template.{How, Copies, Transfers, Placement, before, behind_loop, places_from}
use Rattle.step_runs.specs.Steps.{Each}
use Rattle.ring_plans.specs.Rings.{bodies, late_wait, wait_for}
use Rattle.ring_scripts.specs.Texts.{AllWork, ring_access, ring_start_out}

-- a piece of the body: what a placement has before its loop, what it has behind it, or other statements
pub data Piece : Type 0 where
  Opens : Placement → Piece
  Closes : Placement → Piece
  Others : Nest → Piece

-- where the placement stands singly
abbrev pub single_piece : Piece → Nest
single_piece (Opens p) = before p Nothing
single_piece (Closes p) = behind_loop p Nothing
single_piece (Others n) = n

-- the texts of pieces, one behind another
abbrev pub in_row : (Piece → Nest) → List Piece → Nest
in_row text [] = Nothing
in_row text (x ∷ xs) = followed_by (text x) (in_row text xs)

abbrev pub chunks_of : How → Option (ℕ × ℕ)
chunks_of Copies = None
chunks_of (Transfers chunks) = chunks

module _ (buffers : ℕ) (v : Name) (lower upper : Bound) (s : ℤ) where
  -- with its ring an inward placement waits for the turn's transfer, which was started ahead; an outward one for the one that left from this
  -- place of the ring
  abbrev pub ring_opening : Placement → Nest
  ring_opening p = places_from p.name 0 p.dims (if p.reads then wait_for buffers v lower upper s p Nothing else late_wait buffers v lower upper s p Nothing)

  -- what is written leaves the turn's place; where the placement is inward it is waited for at once
  abbrev pub ring_closing : Placement → Nest
  ring_closing p =
      if p.writes then ring_start_out buffers v lower upper s p (chunks_of p.how) (if p.reads then wait_for buffers v lower upper s p Nothing else Nothing) else Nothing

  -- loads and stores of all fast memrefs go to the turn's place
  abbrev pub ring_accesses : List Placement → Plain → Plain
  ring_accesses [] q = q
  ring_accesses (p ∷ ps) q = ring_accesses ps (ring_access buffers v lower upper s p q)

  abbrev pub ring_piece : List Placement → Piece → Nest
  ring_piece ps (Opens p) = ring_opening p
  ring_piece ps (Closes p) = ring_closing p
  ring_piece ps (Others n) = mapped (ring_accesses ps) n

  -- a piece of one of these placements, or statements that are of no template of them
  abbrev pub Among : Placement → List Placement → Type 0
  Among p [] = ⊥
  Among p (q ∷ qs) = (p ≡ q) ⊎ Among p qs

  abbrev pub IsPiece : List Placement → Piece → Type 0
  IsPiece ps (Opens p) = Among p ps
  IsPiece ps (Closes p) = Among p ps
  IsPiece ps (Others n) = Each (λ p. AllWork buffers v lower upper s p n) ps

-- names of two templates are apart
abbrev pub NamesApart : Placement → Placement → Type 0
NamesApart p q = (i j : ℕ) → same_name (p.name i) (q.name j) ≡ false

-- placements by transfers, with names of their own
pub record IsDoubled (own : Name → Bool) (p : Placement) : Type 0 where
  pub chunks : Option (ℕ × ℕ)
  pub how : p.how ≡ Transfers chunks
  pub names : MadeNames own p.name
  pub memref : own p.memref ≡ true

abbrev pub AreDoubled : (Name → Bool) → List Placement → Type 0
AreDoubled own [] = Unit {0}
AreDoubled own (p ∷ ps) = IsDoubled own p × Each (NamesApart p) ps × AreDoubled own ps

-- the rewriting for all rings takes each piece to its piece
abbrev pub BodiesByPieces : Type 0
BodiesByPieces = (own : Name → Bool) (buffers : ℕ) (v : Name) (lower upper : Bound) (s : ℤ) (ps : List Placement) (xs : List Piece) → AreDoubled own ps → Each (IsPiece buffers v lower upper s ps) xs
    → bodies buffers v lower upper s ps (in_row single_piece xs) ≡ in_row (ring_piece buffers v lower upper s ps) xs
