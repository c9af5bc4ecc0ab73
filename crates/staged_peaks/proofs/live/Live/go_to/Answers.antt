use Rattle.std.proofs.Common.{◌≡◌, ◌++◌, ◌∷◌, [], length, refl, ap, ◌∙◌}
use Rattle.affine_ast.specs.declared.image.Path.{Path}
use Rattle.staged_peaks.specs.Living.{shared, next_way}
use Rattle.staged_peaks.proofs.Living.{went}
use Rattle.staged_peaks.proofs.live.Live.go_to.Goals as goal

pub returns-clause-went : goal.returns-clause-went
returns-clause-went c =
    let lengths : c.as_slice-5.result.now ≡ c.args.next.now.round.items ++ length c.args.next.now.at.steps ∷ [] =
    c.as_slice-5.ensures ∙ (c.in_ok-push.ensures.ok ∙ (λ i. (c.in_ok-lengths.ensures ∙ c.as_slice-3.ensures.value) i ++ c.len.ensures i ∷ [])) in
    let common : c.common_steps-common.result ≡ shared c.args.self.now.at.steps c.args.next.now.at.steps =
    c.common_steps-common.ensures ∙ (λ i. shared (c.as_slice.ensures i) (c.as_slice-2.ensures i)) in
    let way : c.in_ok-way.way ≡ next_way (shared c.args.self.now.at.steps c.args.next.now.at.steps) c.args.self.now.way (c.args.next.now.round.items ++ length c.args.next.now.at.steps ∷ []) =
    c.in_ok-way.ensures ∙ (λ i. next_way (common i) (c.as_slice-4.ensures i) (lengths i)) in
    went c.args.self.now c.args.next.now _ way (ap (λ (p : Path). p.steps) c.in_ok-self.ensures) refl
