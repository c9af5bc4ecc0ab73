-- Both runs of the examples, computed: they end, with the same slow memory, and the ring has its bytes.
use Rattle.std.proofs.Common.{refl, true, false, ◌≡◌}
use Rattle.affine_ast.specs.Names.{same_name, put}
use Rattle.affine_ast.specs.declared.name.Name.{Name}
use Rattle.int_ops.specs.Wrapped.{wrapped, unsigned}
use Rattle.bus_model.specs.Places.{slow_place}
use Rattle.direct_meaning.specs.Direct.{folded, read, direct_step}
use Rattle.prompt_semantics.specs.Device.{put_half, put_halves, started}
use Rattle.prompt_semantics.specs.Prompt.{acts, prompt_step}
use Rattle.step_runs.specs.Steps.{first_list, second_list}
use Rattle.ring_samples.specs.Example.{example, brought_ahead}
use Rattle.ring_samples.specs.Mixed.{ring_moves}
use Rattle.ring_samples.specs.Outward.{leaving}
use Rattle.ring_samples.specs.Worked.{four, sevens, twelve, copied, outward, mixed}
use Rattle.ring_samples.specs.Law.{EndsIn, RingNumbers}

copied_single : (x : Name) → EndsIn 4 (first_list (brought_ahead 2 4 x) (example 2 4 x)) four sevens 4
unfolding folded prompt_step acts started direct_step read slow_place put_half put_halves wrapped unsigned
copied_single x = (refl, refl, refl)

copied_ring : (x : Name) → EndsIn 12 (second_list (brought_ahead 2 4 x) (example 2 4 x)) four sevens 12
unfolding folded prompt_step acts started direct_step read slow_place put_half put_halves wrapped unsigned
copied_ring x = (refl, refl, refl)

outward_single : (x : Name) → EndsIn 4 (first_list (leaving 1 4 x) (outward x)) four sevens 4
unfolding folded prompt_step acts started direct_step read slow_place put_half put_halves wrapped unsigned
outward_single x = (refl, refl, refl)

outward_ring : (x : Name) → EndsIn 8 (second_list (leaving 1 4 x) (outward x)) four sevens 8
unfolding folded prompt_step acts started direct_step read slow_place put_half put_halves wrapped unsigned
outward_ring x = (refl, refl, refl)

mixed_single : (x y : Name) → same_name x x ≡ true → same_name y x ≡ false → EndsIn 12 (first_list (ring_moves 2 4 x y) (mixed x y)) twelve copied 12
unfolding folded prompt_step acts started direct_step read slow_place put_half put_halves wrapped unsigned put
mixed_single x y e f = (refl, rw (e, f) refl, refl)

mixed_ring : (x y : Name) → same_name x x ≡ true → same_name y x ≡ false → EndsIn 36 (second_list (ring_moves 2 4 x y) (mixed x y)) twelve copied 36
unfolding folded prompt_step acts started direct_step read slow_place put_half put_halves wrapped unsigned put
mixed_ring x y e f = (refl, rw (e, f) refl, refl)

pub worked : (x y : Name) → same_name x x ≡ true → same_name y x ≡ false → RingNumbers x y
worked x y e f = record {
  copied_single = copied_single x;
  copied_ring = copied_ring x;
  outward_single = outward_single x;
  outward_ring = outward_ring x;
  mixed_single = mixed_single x y e f;
  mixed_ring = mixed_ring x y e f;
}
