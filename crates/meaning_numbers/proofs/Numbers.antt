-- Proofs of the worked numbers, by computing.
use Rattle.std.proofs.Common.{refl}
use Rattle.affine_expr.specs.Value.{floor_div, ceil_div, floor_mod}
use Rattle.affine_expr.specs.Truth.{holds}
use Rattle.affine_expr.proofs.Values.{values}
use Rattle.affine_ast.specs.Names.{same_name, put}
use Rattle.affine_ast.proofs.Nests.{nests}
use Rattle.int_ops.specs.Wrapped.{wrapped, unsigned}
use Rattle.int_ops.specs.Operation.{operation}
use Rattle.bus_model.specs.Places.{slow_place}
use Rattle.direct_meaning.specs.Turns.{turns}
use Rattle.direct_meaning.specs.Static.{results_of, lower_of, upper_of, holds_at, place_of, tag_of}
use Rattle.direct_meaning.specs.Actions.{action_of, after_plain, actions}
use Rattle.direct_meaning.specs.Memory.{start_env, module_actions}
use Rattle.direct_meaning.specs.Direct.{folded, read, direct_step, plain}
use Rattle.direct_meaning.specs.Work.{first_turn, last_end, full_work, work}
use Rattle.prompt_semantics.specs.Device.{put_half, put_halves, started}
use Rattle.prompt_semantics.specs.Prompt.{acts, prompt_step, prompt}
use Rattle.meaning_numbers.specs.Worked.{Quotients, LoopTurns, Raised, NinthTurn, EvenTurns, WrappedSum, LeastByMinusOne, SeveralResults, Waited, Faulted, Strided, Works, StagedRaise, StagedPart}

pub quotients : Quotients
unfolding floor_div ceil_div floor_mod
quotients = (simp values refl, simp values refl, simp values refl)

pub loop_turns : LoopTurns
unfolding turns
loop_turns = (refl, refl, refl)

pub raised : Raised
unfolding plain module_actions start_env actions action_of after_plain turns lower_of upper_of holds_at place_of tag_of results_of holds floor_div ceil_div floor_mod folded direct_step read operation wrapped unsigned put same_name
raised = (simp (nests, values) refl, simp (nests, values) refl)

pub ninth_turn : NinthTurn
unfolding plain module_actions start_env actions action_of after_plain turns lower_of upper_of holds_at place_of tag_of results_of holds floor_div ceil_div floor_mod folded direct_step read operation wrapped unsigned put same_name
ninth_turn = (simp (nests, values) refl, simp (nests, values) refl)

pub even_turns : EvenTurns
unfolding plain module_actions start_env actions action_of after_plain turns lower_of upper_of holds_at place_of tag_of results_of holds floor_div ceil_div floor_mod folded direct_step read operation wrapped unsigned put same_name
even_turns = simp (nests, values) refl

pub wrapped_sum : WrappedSum
unfolding plain module_actions start_env actions action_of after_plain turns lower_of upper_of holds_at place_of tag_of results_of holds floor_div ceil_div floor_mod folded direct_step read operation wrapped unsigned put same_name
wrapped_sum = simp (nests, values) refl

pub least_by_minus_one : LeastByMinusOne
unfolding plain module_actions start_env actions action_of after_plain turns lower_of upper_of holds_at place_of tag_of results_of holds floor_div ceil_div floor_mod folded direct_step read operation wrapped unsigned put same_name
least_by_minus_one = (simp (nests, values) refl, simp (nests, values) refl)

pub several_results : SeveralResults
unfolding plain module_actions start_env actions action_of after_plain turns lower_of upper_of holds_at place_of tag_of results_of holds floor_div ceil_div floor_mod folded direct_step read operation wrapped unsigned put same_name
several_results = simp (nests, values) refl

pub waited : Waited
unfolding prompt prompt_step acts put_half put_halves started slow_place module_actions start_env actions action_of after_plain turns lower_of upper_of holds_at place_of tag_of results_of holds floor_div ceil_div floor_mod folded direct_step read operation wrapped unsigned put same_name
waited = (simp (nests, values) refl, simp (nests, values) refl, simp (nests, values) refl)

pub faulted : Faulted
unfolding prompt prompt_step acts put_half put_halves started slow_place module_actions start_env actions action_of after_plain turns lower_of upper_of holds_at place_of tag_of results_of holds floor_div ceil_div floor_mod folded direct_step read operation wrapped unsigned put same_name
faulted = (
  simp (nests, values) refl,
  simp (nests, values) refl,
  simp (nests, values) refl,
  simp nests refl,
  simp (nests, values) refl,
  simp (nests, values) refl,
  simp (nests, values) refl,
)

pub strided : Strided
unfolding prompt prompt_step acts put_half put_halves started slow_place module_actions start_env actions action_of after_plain turns lower_of upper_of holds_at place_of tag_of results_of holds floor_div ceil_div floor_mod folded direct_step read operation wrapped unsigned put same_name
strided = simp (nests, values) refl

pub works : Works
unfolding work full_work first_turn last_end ceil_div floor_div
works = (simp nests refl, simp nests refl)

pub staged_raise : StagedRaise
unfolding prompt prompt_step acts put_half put_halves started module_actions start_env actions action_of after_plain turns lower_of upper_of holds_at place_of tag_of results_of holds floor_div ceil_div floor_mod folded direct_step read operation wrapped unsigned put same_name
staged_raise = (simp (nests, values) refl, simp (nests, values) refl)

pub staged_part : StagedPart
unfolding prompt prompt_step acts put_half put_halves started module_actions start_env actions action_of after_plain turns lower_of upper_of holds_at place_of tag_of results_of holds floor_div ceil_div floor_mod folded direct_step read operation wrapped unsigned put same_name
staged_part = (simp (nests, values) refl, simp (nests, values) refl)
