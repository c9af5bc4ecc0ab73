use Rattle.std.proofs.Common.{◌∙◌, sym, ap, length, arith}
use Rattle.direct_meaning.specs.Memory.{slow_list}
use Rattle.run_laws.specs.StaysFitting.{refilled}
use Rattle.affine_ast.specs.declared.image.Image.{Image}
use Rattle.order_machine.proofs.Derived.{long_is}
use Rattle.order_machine.proofs.machine.Machine.into_image.Goals as goal

pub refill-requires : goal.refill-requires
refill-requires c =
    let s = c.requires.0 in
    let at = c.requires.2.stood in
    let long = long_is s c.requires.1 at.sound at.run in
    let here = ap length at.tied.slow in
    let kept = ap (λ ms. length (slow_list ms)) at.memrefs in
    let now = ap length c.as_slice.ensures.value in
    omega (arith, long, here, kept, now)

pub returns : goal.returns
returns c = λ s steps at.
    (λ i. record {
      memrefs = (c.from_vec.ensures ∙ c.refill.ensures ∙ (λ k. refilled (at.stood.memrefs k) ((c.as_slice.ensures.value ∙ sym at.stood.tied.slow) k))) i;
      symbols = ap (λ (m : Image). m.symbols) at.stood.image i;
    })
