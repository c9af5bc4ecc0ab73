-- The steps of a region from its accesses.
use Rattle.std.proofs.Common.{◌≡◌, ℕ, suc, Bool, List, [], ◌∷◌, length, Result, Ok, Err, refl, sym, ap, ◌∙◌}
use Rattle.nest_domain.specs.Boxes.{Dimension}
use Rattle.access_region.specs.declared.fault.RegionFault.{RegionFault}
use Rattle.access_region.specs.declared.fault.RegionFault.TheVariants as fault
use Rattle.access_region.specs.Faults.{NoRegion, ◌>>=◌, IsRefused}
use Rattle.access_region.specs.Candidates.{Reaching}
use Rattle.access_region.specs.Regions.{Outside, dimension, dimensions}
use Rattle.access_region.specs.Widening.{for_transfers}
use Rattle.access_region.specs.Places.{region_fits, kept_where, region_from}

-- a refusal stays
pub stops : {A B : Type 0} (w : Result A NoRegion) (f : A → Result B NoRegion) (e : RegionFault) → IsRefused w e → IsRefused (w >>= f) e
stops w f fault.Region h = ap (λ r. r >>= f) h
stops w f fault.Coefficient h = ap (λ r. r >>= f) h
stops w f fault.Rows h = ap (λ r. r >>= f) h
stops w f fault.Memory h = tt

pub dimensions_long : (outside : Outside) (loops : ℕ) (xs : List Reaching) (d : ℕ) (sizes : List ℕ) (ds : List Dimension) → dimensions outside loops xs d sizes ≡ Ok ds → length ds ≡ length sizes
dimensions_long outside loops xs d [] ds h = ap length (let e : ds ≡ [] = cc in e)
dimensions_long outside loops xs d (n ∷ sizes) ds h = by (dimension outside loops xs d n) (dimensions outside loops xs (suc d) sizes) (λ es e. dimensions_long outside loops xs (suc d) sizes es e) h
  where
    by : (w : Result Dimension NoRegion) (v : Result (List Dimension) NoRegion) → ((es : List Dimension) → v ≡ Ok es → length es ≡ length sizes) → (w >>= (λ first. v >>= (λ others. Ok (first ∷ others)))) ≡ Ok ds → length ds ≡ suc (length sizes)
    by (Err e) v m h = absurd (let z : ⊥ = cc in z)
    by (Ok x) (Err e) m h = absurd (let z : ⊥ = cc in z)
    by (Ok x) (Ok es) m h = ap length (let e : ds ≡ x ∷ es = cc in e) ∙ ap suc (m es refl)

module _ (outside : Outside) (loops : ℕ) (xs : List Reaching) (sizes : List ℕ) (dma : Bool) where
  pub no_dimensions : (e : RegionFault) → IsRefused (dimensions outside loops xs 0 sizes) e → IsRefused (region_from outside loops xs sizes dma) e
  no_dimensions e h = stops (dimensions outside loops xs 0 sizes) _ e h

  pub from_dimensions : (ds ws : List Dimension) → dimensions outside loops xs 0 sizes ≡ Ok ds → ws ≡ for_transfers dma sizes ds → region_from outside loops xs sizes dma ≡ kept_where (region_fits outside.ranges xs sizes dma ws) ws
  from_dimensions ds ws h w = ap (λ r. r >>= (λ ds. kept_where (region_fits outside.ranges xs sizes dma (for_transfers dma sizes ds)) (for_transfers dma sizes ds))) h ∙ ap (λ es. kept_where (region_fits outside.ranges xs sizes dma es) es) (sym w)
