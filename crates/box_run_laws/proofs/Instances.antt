-- The laws at work: premises that small runs meet.
use Rattle.std.proofs.Common.{◌≡◌, ℕ, ◌+◌, ℤ, List, [], ◌∷◌, length, refl, sym, subst, arith, Bool, true, false}
use Rattle.affine_ast.specs.declared.name.Name.{Name}
use Rattle.affine_ast.specs.declared.image.Image.{Image}
use Rattle.affine_ast.specs.declared.types.Element.TheVariants.{I32}
use Rattle.direct_meaning.specs.Action.{Slow, Register, Action, Loads, Stores}
use Rattle.direct_meaning.specs.Direct.{folded, first_state}
use Rattle.prompt_semantics.specs.Prompt.{first_device}
use Rattle.boxes.specs.Boxes.{Side}
use Rattle.box_run_laws.specs.Roomy.{roomy_step}
use Rattle.box_run_laws.specs.Layouts.{Numbering, Renumbers}
use Rattle.box_run_laws.specs.Boxes.{Half}
use Rattle.box_run_laws.specs.Parts.{Part, Runs, Made, Box, staged, MeetsBox, Meets, IsBox}
use Rattle.box_run_laws.specs.Runs.{Fast, IsFast, Run, Copying, Carrying, run_old, run_new, Anything, MeetsRun}
use Rattle.box_run_laws.specs.Templates.{Carrier, Carries}
use Rattle.box_run_laws.specs.Law.{SameEnd}
use Rattle.box_run_laws.proofs.RowMajor.{row_major, is_box, carries}
use Rattle.box_run_laws.proofs.Theorem.{placements_agree}

-- the new allocation stands first in the text
abbrev nu : Numbering
nu = record { fasts = λ n. n + 1; tags = λ n. n + 2 }

renumbers : Renumbers nu
renumbers = record { fasts = λ a b e. omega (arith, e); tags = λ a b e. omega (arith, e) }

module _ (own : Name → Bool) (v w r : Name) (v_made : own v ≡ false) (w_made : own w ≡ false) (r_own : own r ≡ true) (memory : Image) where
  -- ---- row 1, columns 1 and 2 of a memref of 2 x 3: a load of [1, 1] and a store to [1, 2]
  abbrev sides : List Side
  sides = record { size = 2; place = 1; extent = 1 } ∷ record { size = 3; place = 1; extent = 2 } ∷ []

  abbrev b : Half
  b = record { number = 0; half = 0; count = 2; reads = true; writes = true }

  abbrev inner : List Action
  inner = Loads r (Slow 4) ∷ Stores (Register r) (Slow 5) ∷ []

  abbrev box : Box
  box = record { place = row_major 0 sides; inner = inner }

  abbrev fast : Fast
  fast = record { half = b; element = I32; sizes = 1 ∷ 1 ∷ 2 ∷ [] }

  is_fast : IsFast nu fast
  is_fast = record { new = λ n e. omega (arith, e); long = refl }

  the_box : IsBox 2 6 (row_major 0 sides)
  the_box = is_box b 6 0 sides (omega arith, omega arith, (omega arith, omega arith, tt)) refl (omega arith)

  meets : (Fits : (ℕ → ℕ) → Type 0) → Fits (row_major 0 sides) → MeetsBox own nu b 6 Fits box []
  meets Fits fits = record {
    box = the_box;
    fits = fits;
    misses = tt;
    owned = ((r_own, (λ c e. refl, λ e. refl)), ((r_own, (λ c e. refl, λ e. refl, tt)), tt));
    covered = λ e f k l. let g : true ≡ false = e in absurd (cc);
  }

  abbrev copied : List (Part Run)
  copied = Made ∷ Runs (Copying fast v w box) ∷ Made ∷ []

  copied_run : length (first_state memory).slow ≡ 6 → (filler : ℤ) → SameEnd (folded (roomy_step filler) inner (first_device memory)) (folded (roomy_step filler) (staged nu (run_new nu) copied) (first_device memory))
  copied_run long filler =
      placements_agree own nu renumbers memory copied
      (subst (λ n. Meets own nu run_old (MeetsRun own nu n) copied []) (sym long) ((is_fast, v_made, w_made, meets Anything tt), tt)) filler

  -- the same by transfers: one run of two elements
  abbrev c : Carrier
  c = record { memref = 0; stride = 2; chunk = 2; tag = 0 }

  abbrev carried : List (Part Run)
  carried = Made ∷ Runs (Carrying fast c box) ∷ Made ∷ []

  carried_run : length (first_state memory).slow ≡ 6 → (filler : ℤ) → SameEnd (folded (roomy_step filler) inner (first_device memory)) (folded (roomy_step filler) (staged nu (run_new nu) carried) (first_device memory))
  carried_run long filler =
      placements_agree own nu renumbers memory carried
      (subst (λ n. Meets own nu run_old (MeetsRun own nu n) carried []) (sym long)
      ((is_fast, (λ n e. omega (arith, e)), meets (Carries b c) (carries b c 0 sides (omega arith, omega arith, (omega arith, omega arith, tt)) (λ h. h) refl refl refl)), tt)) filler
