-- The worked run, by computing.
use Rattle.std.proofs.Common.{◌≡◌, ℕ, ◌+◌, ◌<◌, ◌/◌, ◌%◌, ◌*◌, div-add-mod', refl, arith}
use Rattle.affine_expr.specs.Value.{floor_div, ceil_div, floor_mod}
use Rattle.int_ops.specs.Wrapped.{wrapped, unsigned}
use Rattle.bus_model.specs.Places.{slow_place}
use Rattle.direct_meaning.specs.Direct.{folded, direct_step}
use Rattle.prompt_semantics.specs.Device.{put_half, put_halves, started}
use Rattle.prompt_semantics.specs.Prompt.{acts, prompt_step}
use Rattle.order_meaning.specs.Machine.{act_on, after_step}
use Rattle.order_meaning.specs.Orderly.{Orderly}
use Rattle.order_meaning.specs.Worked.{memory, two_out, worked_actions, WorkedRun}
use Rattle.order_meaning.proofs.AllOrders.{all_orders}

places : (e : ℕ) → e < 2 → slow_place two_out e < 4
unfolding slow_place
places e lt = let k : e / 2 * 2 + e % 2 ≡ e = div-add-mod' e 2 in omega (arith, k, lt)

is_orderly : Orderly 4 worked_actions
is_orderly = (refl, (tt, ((record { cells = 2; allocated = refl; inside = omega arith; some_element = omega arith; some_chunk = omega arith; strided = omega arith; within = places }, refl), (tt, (tt, (tt, (tt, tt)))))))

pub worked_run : WorkedRun
unfolding folded prompt_step acts started put_half put_halves act_on after_step slow_place direct_step wrapped unsigned floor_div ceil_div floor_mod
worked_run = record {
  orderly = is_orderly;
  agree = all_orders _ 8 worked_actions memory 2 (omega arith) is_orderly;
  run = (record { going = refl; permitted = refl }, (record { going = refl; permitted = refl }, (record { going = refl; permitted = refl }, (record { going = refl; permitted = (omega arith, refl, (refl, refl)) }, (record { going = refl; permitted = (omega arith, omega arith) }, (record { going = refl; permitted = (omega arith, omega arith) }, (record { going = refl; permitted = (omega arith, refl) }, (record { going = refl; permitted = refl }, (record { going = refl; permitted = refl }, (record { going = refl; permitted = refl }, (record { going = refl; permitted = refl }, tt)))))))))));
  verdict = refl;
  slow = refl;
  numbers = refl;
}
