use Rattle.std.proofs.Common.{◌≡◌, ◌∙◌, arith}
use Rattle.mem_image.specs.Images.{printed}
use Rattle.mem_image.proofs.Printing.{print_step, print_end}
use Rattle.mem_image.proofs.ReadBack.{text_read_back}
use Rattle.mem_image.proofs.print.print_image.Goals as goal

pub loop-arg-preserved : goal.loop-arg-preserved
loop-arg-preserved c = print_step _ _ c.arg-item.result c.loop-arg.memrefs.now _ c.loop-arg.symbols.now _ _ _ c.loop-arg.out.items _ _ c.loop-arg-test.true c.arg-item.is (c.as_bytes-name.ensures.value ∙ c.as_str.ensures) c.own_numbers-numbers.ensures c.memrefs_behind-memrefs.ensures c.symbols_behind-symbols.ensures c.in_ok-print_row.ensures c.loop-arg.invariant

pub returns : goal.returns
unfolding printed
returns c =
    let text : c.loop-arg.out.items ≡ printed c.args.module.now.inner c.args.image.now = print_end c.as_slice-arg-items.result.now c.loop-arg.arg-index _ _ _ _ (omega arith) c.loop-arg.invariant in
    record { text = text; read_back = λ named. text_read_back c.loop-arg.out.items c.args.module.now.inner c.args.image.now text c.args.module.now.valid named c.requires }
