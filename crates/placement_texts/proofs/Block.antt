-- A loop with the template round it, and what follows, breaks no rule but tested ones.
use Rattle.std.proofs.Common.{◌≡◌, ℕ, ◌+◌, ◌*◌, ◌<◌, ℤ, [], ◌∷◌, refl, ap, ◌∙◌, arith, Bool, true, false}
use Rattle.std.specs.Prelude.{Some}
use Rattle.affine_ast.specs.declared.name.Name.{Name}
use Rattle.affine_ast.specs.declared.types.Bound.{Bound}
use Rattle.affine_ast.proofs.Names.{put-other}
use Rattle.affine_ast.specs.Nest.{Nest, Loop, Does, Dealloc, followed_by}
use Rattle.affine_ast.specs.Scope.{Allocation, Totals, Around, with_totals, counted, in_loop, behind_plain}
use Rattle.affine_ast.specs.Rules.{deallocs as deallocs_in, own_deallocs, is_released_once}
use Rattle.affine_ast.specs.Validity.{Passed, then_told, rule_of_loop, told}
use Rattle.valid_laws.proofs.Passing.{judged_passed, then_passed, loop_holds}
use Rattle.placement_texts.specs.Own.{OwnNest, MadeNames}
use Rattle.placement_texts.specs.Mapped.{mapped}
use Rattle.placement_texts.specs.Regions.{OwnDims}
use Rattle.placement_texts.specs.Spots.{Spot, IsLoop, staged_at}
use Rattle.placement_texts.specs.Template.{How, Copies, Transfers, Placement, fast_name, tag_name, fast_type, tag_type, begins, read_in, write_out, constants, allocs, deallocs, where_so, behind_loop, redirect, staged_loop}
use Rattle.placement_texts.specs.Tests.{BreaksOnlyTested, Sees, Fresh, Argued, DimsStand, NumbersWell, scope_at}
use Rattle.placement_texts.proofs.BoxRun.{begins_made}
use Rattle.placement_texts.proofs.ScopedTexts.{judged_only, then_only, loop_seen, loop_stays, text_stays, text_staged}
use Rattle.placement_texts.proofs.ScopedAccess.{Within}
use Rattle.placement_texts.proofs.ScopedLoop.{loop_within, text_redirected}
use Rattle.placement_texts.proofs.BlockStatements.{dealloc_only}
use Rattle.placement_texts.proofs.BlockDeallocs.{from_loop, once, fast_all, fast_here, OnceTag, tag_once}
use Rattle.placement_texts.proofs.BlockFront.{does_only, slots_apart, made_apart, Laying, lay_fewer, Before, Left, places_only, constants_only, TagKnown, OnceWhere, allocs_only, numbers_kept}
use Rattle.placement_texts.proofs.BlockFront.{variables_kept}
use Rattle.placement_texts.proofs.BlockCopies.{Built, built_fewer, read_only, write_only}

module _ (own : Name → Bool) (p : Placement) (names : MadeNames own p.name) (own_memref : own p.memref ≡ true) (dims_own : OwnDims own p.dims) (well : NumbersWell p) where
  so_only : (c : Bool) (part rest : Nest) (b : Around) → BreaksOnlyTested (told (followed_by part rest) b) → BreaksOnlyTested (told rest b) → BreaksOnlyTested (told (where_so p c part rest) b)
  so_only true part rest b h k = h
  so_only false part rest b h k = k

  -- the names left free by the allocations, and behind the reads
  abbrev F0 : ℕ → Type 0
  F0 = Left own p names (1 ∷ 0 ∷ 4 ∷ 3 ∷ 2 ∷ [])

  abbrev F1 : ℕ → Type 0
  F1 i = F0 i × (5 ≡ i → ⊥)

  abbrev F2 : ℕ → Type 0
  F2 i = F1 i × (6 ≡ i → ⊥)

  free_low : (i : ℕ) → 4 < i → i < 7 → F0 i
  free_low i less more = (
    (λ d. (λ e. omega (arith, e, more), λ e. omega (arith, e, more))),
    (λ e. omega (arith, e, less), (λ e. omega (arith, e, less), (λ e. omega (arith, e, less), (λ e. omega (arith, e, less), (λ e. omega (arith, e, less), tt))))),
  )

  free_in : (k : ℕ) → F0 (9 + 4 * k)
  free_in k = ((λ d. (λ e. omega (arith, e), λ e. omega (arith, e))), (λ e. omega (arith, e), (λ e. omega (arith, e), (λ e. omega (arith, e), (λ e. omega (arith, e), (λ e. omega (arith, e), tt))))))

  free_out : (k : ℕ) → F0 (10 + 4 * k)
  free_out k = ((λ d. (λ e. omega (arith, e), λ e. omega (arith, e))), (λ e. omega (arith, e), (λ e. omega (arith, e), (λ e. omega (arith, e), (λ e. omega (arith, e), (λ e. omega (arith, e), tt))))))

  sees_of : (F : ℕ → Type 0) (a b : Around) → Laying own p names F a b.scope b.released → Sees own a b
  sees_of F a b l = record { scope = l.same; released = l.same_released }

  -- ---- behind the loop
  deallocs_only : (how : How) (rest : Nest) (F : ℕ → Type 0) (a b : Around) (t : Totals) → told rest a ≡ Passed t → OwnNest own rest → Laying own p names F a b.scope b.released → b.scope (fast_name p.name) ≡ Some (Allocation (fast_type p)) → TagKnown own p names how b.scope
      → BreaksOnlyTested (told (deallocs p how rest) b)
  deallocs_only Copies rest F a b t h o l fast tag =
      let q = Dealloc (fast_name p.name) (fast_type p) in
      does_only q rest b (dealloc_only (counted b) (fast_name p.name) (fast_type p) rest fast (l.live 0))
      (text_stays own rest a (behind_plain q (counted b)) t h o (record { scope = l.same; released = λ n k. put-other b.released (fast_name p.name) true n (made_apart own p names 0 n k) ∙ l.same_released n k }))
  deallocs_only (Transfers chunks) rest F a b t h o l fast tag =
      let q1 = Dealloc (fast_name p.name) (fast_type p) in
      let q2 = Dealloc (tag_name p.name) tag_type in
      let b1 = behind_plain q1 (counted b) in
      let live : b1.released (tag_name p.name) ≡ false = put-other b.released (fast_name p.name) true (tag_name p.name) (slots_apart own p names 0 1 (λ e. omega (arith, e))) ∙ l.live 1 in
      does_only q1 (Does 0 q2 rest) b (dealloc_only (counted b) (fast_name p.name) (fast_type p) (Does 0 q2 rest) fast (l.live 0))
      (does_only q2 rest b1 (dealloc_only (counted b1) (tag_name p.name) tag_type rest tag live)
      (text_stays own rest a (behind_plain q2 (counted b1)) t h o (record {
        scope = l.same;
        released = λ n k. put-other b1.released (tag_name p.name) true n (made_apart own p names 1 n k) ∙ put-other b.released (fast_name p.name) true n (made_apart own p names 0 n k) ∙ l.same_released n k;
      })))

  behind_only : (rest : Nest) (a b : Around) (t : Totals) → told rest a ≡ Passed t → OwnNest own rest → Argued p a → Built own p names F1 a b.scope b.released → BreaksOnlyTested (told (behind_loop p rest) b)
  behind_only rest a b t h o ar bu =
      let last : (b' : Around) → Built own p names F2 a b'.scope b'.released → BreaksOnlyTested (told (deallocs p p.how rest) b') = λ b' bu'. deallocs_only p.how rest F2 a b' t h o bu'.laying bu'.fast bu'.tag in
      so_only p.writes (write_out p p.how) (deallocs p p.how rest) b
      (write_only own p names own_memref F1 a ar well p.how well.chunks (free_low 6 (omega arith) (omega arith), λ e. omega (arith, e)) (λ k. (free_out k, λ e. omega (arith, e))) (deallocs p p.how rest) b bu bu.numbers bu.tag last)
      (last b (built_fewer own p names F1 F2 a b.scope b.released (λ i g. g.0) bu))

  -- ---- the loop
  loop_only : (line : ℕ) (v : Name) (l u : Bound) (step : ℤ) (body rest : Nest) (a b : Around) (t : Totals) → told (Loop line v l u step body rest) a ≡ Passed t → OwnNest own (Loop line v l u step body rest) → Argued p a
      → Built own p names F1 a b.scope b.released → BreaksOnlyTested (told (Loop line v l u step (mapped (redirect p) body) (behind_loop p rest)) b)
  unfolding told
  loop_only line v l u step body rest a b t h o ar bu =
      let j = judged_passed line (rule_of_loop (counted a) v l u step) _ t h in
      let k = then_passed (told body (in_loop v l u (counted a))) (λ t. told rest (with_totals t a)) t j.1 in
      let s1 : Sees own (counted a) (counted b) = record { scope = bu.laying.same; released = bu.laying.same_released } in
      let w1 : Within own p (counted a) (counted b) s1 = record { memref = ar.scope; fast = bu.fast; live = bu.laying.live 0; places = bu.places } in
      let holds = loop_holds (counted a) v l u step j.0 in
      let s2 = loop_seen own v l u (counted a) (counted b) o.1 o.2 s1 in
      let begun = begins_made own p names 0 0 (record { fast = 0; tag = 0; tags = 0 }) 0 p.dims in
      judged_only line (rule_of_loop (counted b) v l u step) (then_told (told (mapped (redirect p) body) (in_loop v l u (counted b))) (λ t. told (behind_loop p rest) (with_totals t b)))
      (loop_stays own (counted a) (counted b) v l u step o.0 o.1 o.2 s1 holds)
      (then_only (told (mapped (redirect p) body) (in_loop v l u (counted b))) (λ t. told (behind_loop p rest) (with_totals t b))
      (text_redirected own p (names.made 0) (names.made 1) begun body (in_loop v l u (counted a)) (in_loop v l u (counted b)) k.0 k.1 o.3 s2 (loop_within own p (names.made 0) (names.made 1) begun v l u step (counted a) (counted b) s1 s2 o.0 holds w1))
      (λ x. behind_only rest (with_totals k.0 a) (with_totals x b) t k.2 o.4 (record { scope = ar.scope; live = ar.live })
      (record { laying = record { same = bu.laying.same; same_released = bu.laying.same_released; free = bu.laying.free; live = bu.laying.live }; fast = bu.fast; places = bu.places; numbers = bu.numbers; tag = bu.tag })))

  once_where : (how : How) (rest from : Nest) → (OnceTag own (tag_name p.name) (names.made 1) p how rest → OnceWhere own p names how from) → OwnNest own rest → OnceWhere own p names how from
  once_where how rest from f o = f (tag_once own (tag_name p.name) (names.made 1) p how rest refl (slots_apart own p names 0 1 (λ e. omega (arith, e))) o)

  tag_where : (how : How) (line : ℕ) (v : Name) (l u : Bound) (step : ℤ) (body rest : Nest) → OwnNest own body → p.how ≡ how → OnceTag own (tag_name p.name) (names.made 1) p how rest → OnceWhere own p names how (from_loop own (tag_name p.name) (names.made 1) p line v l u step body rest)
  tag_where Copies line v l u step body rest o is h = tt
  tag_where (Transfers chunks) line v l u step body rest o is h =
      once own (tag_name p.name) (names.made 1) p line v l u step body rest o
      (ap (λ how. deallocs_in (tag_name p.name) (deallocs p how rest)) is ∙ h.0) (ap (λ how. own_deallocs (tag_name p.name) (deallocs p how rest)) is ∙ h.1)

  -- ---- the whole template
  pub block : (line : ℕ) (v : Name) (l u : Bound) (step : ℤ) (body rest : Nest) (a b : Around) (t : Totals) → told (Loop line v l u step body rest) a ≡ Passed t → OwnNest own (Loop line v l u step body rest)
      → Sees own a b → Fresh own b → Argued p a → DimsStand a.scope p.dims → BreaksOnlyTested (told (staged_loop p (Loop line v l u step body rest) rest) b)
  block line v l u step body rest a b t h o s f ar ds =
      let inner = Loop line v l u step (mapped (redirect p) body) (behind_loop p rest) in
      let reading = where_so p p.reads (read_in p p.how) inner in
      let start : Laying own p names (Before own p names 0) a b.scope b.released = record { same = s.scope; same_released = s.released; free = λ i g. (f (p.name i) (names.made i)).0; live = λ i. (f (p.name i) (names.made i)).1 } in
      let fast_once : is_released_once (fast_name p.name) reading ≡ true =
      once own (fast_name p.name) (names.made 0) p line v l u step body rest o.3
      (fast_all own (fast_name p.name) (names.made 0) p p.how rest refl (slots_apart own p names 1 0 (λ e. omega (arith, e))) o.4)
      (fast_here own (fast_name p.name) (names.made 0) p p.how rest refl (slots_apart own p names 1 0 (λ e. omega (arith, e))) o.4) in
      let tags_once = once_where p.how rest reading (tag_where p.how line v l u step body rest o.3 refl) o.4 in
      places_only own p names 0 p.dims (constants p p.how (allocs p p.how reading)) a b start dims_own ds
      (λ n b1 l1 v1 kept1. constants_only own p names p.how (allocs p p.how reading) a b1 (lay_fewer own p names (Before own p names n) (Left own p names []) a b1.scope b1.released (λ i g d less. g.0 d) l1) well.most well.chunks
      (λ b2 l2 n2 kept2. allocs_only own p names p.how reading a b2 l2 fast_once tags_once
      (λ b3 l3 fast3 tag3 kept3.
      let built : Built own p names F0 a b3.scope b3.released = record {
        laying = l3;
        fast = fast3;
        places = variables_kept b2.scope b3.scope (begins p) kept3 (variables_kept b1.scope b2.scope (begins p) kept2 v1);
        numbers = numbers_kept own p names p.how b2.scope b3.scope kept3 n2;
        tag = tag3;
      } in
      let next : (b' : Around) → Built own p names F1 a b'.scope b'.released → BreaksOnlyTested (told inner b') = λ b' bu. loop_only line v l u step body rest a b' t h o ar bu in
      so_only p.reads (read_in p p.how) inner b3
      (read_only own p names own_memref F0 a ar well p.how well.chunks (free_low 5 (omega arith) (omega arith)) free_in inner b3 built built.numbers tag3 next)
      (next b3 (built_fewer own p names F0 F1 a b3.scope b3.released (λ i g. g.0) built)))))

  -- a text in which the memref is staged
  pub text_valid : (s : Spot) (n : Nest) (a b : Around) (t : Totals) → IsLoop s n → told n a ≡ Passed t → OwnNest own n → Sees own a b → Fresh own b → Argued p a → DimsStand (scope_at s n a.scope) p.dims → BreaksOnlyTested (told (staged_at p s n) b)
  text_valid s n a b t is h o sees f ar ds = text_staged own p (names.made 0) (names.made 1) block s n a b t is h o sees f ar ds
