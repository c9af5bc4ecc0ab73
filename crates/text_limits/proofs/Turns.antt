-- The subscripts of a redirected access, one after the other.
use Rattle.std.proofs.Common.{◌≡◌, ℕ, suc, ◌+◌, ◌<◌, ◌≤◌, drop, get_or, List, [], ◌∷◌, length, sym, ◌∙◌, arith}
use Rattle.std.specs.Prelude.{◌&&◌, nat_le}
use Rattle.std.proofs.lemmas.List.{drop_more, drop_all}
use Rattle.affine_expr.specs.declared.expr.Expr.{Expr}
use Rattle.affine_ast.specs.declared.types.Access.{Access}
use Rattle.placement_texts.specs.Template.{Dimension, Placement}
use Rattle.plan_laws.specs.Limits.{expression_fits}
use Rattle.text_limits.specs.Adding.{operands_more, fits_in_fast}
use Rattle.text_limits.specs.Lessening.{more_one, more_over, fits_one, fits_over}
use Rattle.text_limits.specs.declared.measures.Measure.{Measure}
use Rattle.text_limits.specs.Capped.{capped, measured, with_measure}
use Rattle.text_limits.proofs.Lessened.{redirects_are_counted}
use Rattle.text_limits.proofs.Tallied.{none_more, measures_join}

-- ---- one step over the subscripts
pub turn_taken : (es : List Expr) (i : ℕ) (e : Expr) (d : Dimension) (ds rest : List Dimension) (m one new total : Measure) → i < length es → e ≡ get_or es i e → rest ≡ d ∷ ds
    → one ≡ measured (more_one e d) (fits_one e d) → new ≡ with_measure m one → total ≡ with_measure m (measured (more_over (drop i es) rest) (fits_over (drop i es) rest))
    → total ≡ with_measure new (measured (more_over (drop (i + 1) es) ds) (fits_over (drop (i + 1) es) ds))
turn_taken es i e d ds rest m one new total h is first one_is new_is so =
    let left = drop (i + 1) es in
    so
    ∙ (λ j. with_measure m (measured (more_over (drop_more es i e h j) (first j)) (fits_over (drop_more es i e h j) (first j))))
    ∙ (λ j. with_measure m (measured (more_over (sym is j ∷ left) (d ∷ ds)) (fits_over (sym is j ∷ left) (d ∷ ds))))
    ∙ measures_join m (more_one e d) (more_over left ds) (fits_one e d) (fits_over left ds)
    ∙ (λ j. with_measure (with_measure m (sym one_is j)) (measured (more_over left ds) (fits_over left ds)))
    ∙ (λ j. with_measure (sym new_is j) (measured (more_over left ds) (fits_over left ds)))

pub turn_over : (es : List Expr) (i : ℕ) (e : Expr) (rest : List Dimension) (m one new total : Measure) → i < length es → e ≡ get_or es i e → length rest ≡ 0
    → one ≡ measured 0 (expression_fits e) → new ≡ with_measure m one → total ≡ with_measure m (measured (more_over (drop i es) rest) (fits_over (drop i es) rest))
    → total ≡ with_measure new (measured (more_over (drop (i + 1) es) rest) (fits_over (drop (i + 1) es) rest))
turn_over es i e (d ∷ ds) m one new total h is none one_is new_is so = absurd (let z : ⊥ = omega (arith, none) in z)
turn_over es i e [] m one new total h is none one_is new_is so =
    let left = drop (i + 1) es in
    so
    ∙ (λ j. with_measure m (measured (more_over (drop_more es i e h j) []) (fits_over (drop_more es i e h j) [])))
    ∙ (λ j. with_measure m (measured (more_over (sym is j ∷ left) []) (fits_over (sym is j ∷ left) [])))
    ∙ measures_join m 0 (more_over left []) (expression_fits e) (fits_over left [])
    ∙ (λ j. with_measure (with_measure m (sym one_is j)) (measured (more_over left []) (fits_over left [])))
    ∙ (λ j. with_measure (sym new_is j) (measured (more_over left []) (fits_over left [])))

pub turns_end : (es : List Expr) (i : ℕ) (rest : List Dimension) (m total : Measure) → length es ≤ i → m.operands ≤ 18446744073709551615
    → total ≡ with_measure m (measured (more_over (drop i es) rest) (fits_over (drop i es) rest)) → m ≡ total
turns_end es i rest m total h within so =
    sym (so ∙ (λ j. with_measure m (measured (more_over (drop_all i es h j) rest) (fits_over (drop_all i es h j) rest))) ∙ none_more m within)

pub redirected_is : (p : Placement) (at : Access) (rest half result : Measure) → rest ≡ measured (more_over at.map.results p.dims) (fits_over at.map.results p.dims)
    → half ≡ record { operands = 1; fits = nat_le (suc (length at.map.results)) 8 } → result ≡ with_measure half rest → result ≡ measured (operands_more p at) (fits_in_fast p at)
redirected_is p at rest half result rest_is half_is is =
    let r = redirects_are_counted p at in
    let n = more_over at.map.results p.dims in
    let few = nat_le (suc (length at.map.results)) 8 in
    let k : capped (1 + capped n) ≡ capped (suc n) = omega arith in
    is
    ∙ (λ j. with_measure (half_is j) (rest_is j))
    ∙ (λ j. record { operands = k j; fits = few && fits_over at.map.results p.dims })
    ∙ (λ j. measured (sym r.more j) (sym r.fits j))
