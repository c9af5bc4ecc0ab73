-- The redirected accesses, one use after the other.
use Rattle.std.proofs.Common.{◌≡◌, ℕ, ◌+◌, ◌<◌, ◌≤◌, List, [], ◌∷◌, map, drop, length, get_or, Bool, true, false, refl, sym, ◌∙◌, arith}
use Rattle.std.specs.Prelude.{◌&&◌, sum_by}
use Rattle.std.specs.List.{list_all}
use Rattle.std.proofs.lemmas.List.{drop_more, drop_all}
use Rattle.affine_ast.specs.declared.types.Access.{Access}
use Rattle.placement_texts.specs.Template.{Placement}
use Rattle.text_places.specs.declared.plain.FoundUse.{FoundUse}
use Rattle.text_places.specs.declared.plain.FoundUse.TheVariants as found
use Rattle.text_places.specs.Finding.{seen}
use Rattle.text_limits.specs.declared.measures.Measure.{Measure}
use Rattle.text_limits.specs.declared.sums.Sums.{Sums}
use Rattle.text_limits.specs.Capped.{capped, measured, with_measure, capped_sums}
use Rattle.text_limits.specs.Adding.{with_sums, subscripts, operands_more, fits_in_fast, redirected}
use Rattle.text_limits.proofs.Grown.{sum_cons}
use Rattle.text_limits.proofs.Tallied.{none_more, measures_join}

module _ (p : Placement) where
  abbrev pub Of : List Access → Measure
  Of ats = measured (sum_by (operands_more p) ats) (list_all (fits_in_fast p) ats)

  pub of_one : (at : Access) → measured (operands_more p at) (fits_in_fast p at) ≡ Of (at ∷ [])
  of_one at = λ i. measured ((let e = sum_cons (operands_more p) at [] in let k : operands_more p at ≡ sum_by (operands_more p) (at ∷ []) = omega (arith, e) in k) i) (by (fits_in_fast p at) i)
    where
      by : (x : Bool) → x ≡ (x && true)
      by true = refl
      by false = refl

  cons_joins : (m : Measure) (at : Access) (ats : List Access) → with_measure m (Of (at ∷ ats)) ≡ with_measure (with_measure m (Of (at ∷ []))) (Of ats)
  cons_joins m at ats =
      (λ i. with_measure m (measured (sum_cons (operands_more p) at ats i) (list_all (fits_in_fast p) (at ∷ ats))))
      ∙ measures_join m (operands_more p at) (sum_by (operands_more p) ats) (fits_in_fast p at) (list_all (fits_in_fast p) ats)
      ∙ (λ i. with_measure (with_measure m (of_one at i)) (Of ats))

  none_joins : (m : Measure) (ats : List Access) → with_measure m (Of ats) ≡ with_measure (with_measure m (Of [])) (Of ats)
  none_joins m ats =
      let e : sum_by (operands_more p) ats ≡ 0 + sum_by (operands_more p) ats = omega arith in
      (λ i. with_measure m (measured (e i) (list_all (fits_in_fast p) ats))) ∙ measures_join m 0 (sum_by (operands_more p) ats) true (list_all (fits_in_fast p) ats)

  use_joins : (m : Measure) (u : FoundUse) (us : List FoundUse) → with_measure m (Of (subscripts (map seen (u ∷ us)))) ≡ with_measure (with_measure m (Of (subscripts (seen u ∷ [])))) (Of (subscripts (map seen us)))
  use_joins m (found.Affine way stores at) us = cons_joins m at.now (subscripts (map seen us))
  use_joins m found.Other us = none_joins m (subscripts (map seen us))

  pub use_step : (us : List FoundUse) (i : ℕ) (u : FoundUse) (m one new total : Measure) → i < length us → u ≡ get_or us i u → one ≡ Of (subscripts (seen u ∷ [])) → new ≡ with_measure m one
      → total ≡ with_measure m (Of (subscripts (map seen (drop i us)))) → total ≡ with_measure new (Of (subscripts (map seen (drop (i + 1) us))))
  use_step us i u m one new total h is one_is new_is so =
      let left = drop (i + 1) us in
      so
      ∙ (λ j. with_measure m (Of (subscripts (map seen (drop_more us i u h j)))))
      ∙ (λ j. with_measure m (Of (subscripts (map seen (sym is j ∷ left)))))
      ∙ use_joins m u left
      ∙ (λ j. with_measure (with_measure m (sym one_is j)) (Of (subscripts (map seen left))))
      ∙ (λ j. with_measure (sym new_is j) (Of (subscripts (map seen left))))

  pub uses_end : (us : List FoundUse) (i : ℕ) (m total : Measure) → length us ≤ i → m.operands ≤ 18446744073709551615 → total ≡ with_measure m (Of (subscripts (map seen (drop i us)))) → m ≡ total
  uses_end us i m total h within so = sym (so ∙ (λ j. with_measure m (Of (subscripts (map seen (drop_all i us h j))))) ∙ none_more m within)

  no_more : (a : ℕ) → capped (a + 0) ≡ capped a
  no_more a = omega arith

  joined : (a b : ℕ) → capped (a + capped b) ≡ capped (a + b)
  joined a b = omega arith

  pub sums_redirected : (s result : Sums) (m : Measure) (ats : List Access) → m ≡ Of ats
      → result ≡ capped_sums (with_sums s (record { statements = 0; operands = m.operands; elements = 0; tags = 0; fits = m.fits })) → result ≡ capped_sums (redirected p ats s)
  sums_redirected s result m ats m_is is =
      is ∙ (λ j. capped_sums (with_sums s (record { statements = 0; operands = (m_is j).operands; elements = 0; tags = 0; fits = (m_is j).fits })))
      ∙ (λ j. record {
        statements = no_more s.statements j;
        operands = joined s.operands (sum_by (operands_more p) ats) j;
        elements = no_more s.elements j;
        tags = no_more s.tags j;
        fits = s.fits && list_all (fits_in_fast p) ats;
      })
