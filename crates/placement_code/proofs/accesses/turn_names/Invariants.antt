use Rattle.std.proofs.Common.{◌≡◌, ◌+◌, ◌*◌, ◌++◌, drop}
use Rattle.made_names.specs.Made.{made_name}
use Rattle.placement_texts.specs.Template.{begins_from, turn_names}
use Rattle.placement_code.proofs.accesses.turn_names.Given as goal

abbrev pub invariant-loop-dim : goal.invariant-loop-dim
invariant-loop-dim l = record {
  same : turn_names (λ d. made_name l.number (l.slot + 4 * d)) 0 (begins_from (made_name l.number) 0 l.dims)
      ≡ l.names ++ turn_names (λ d. made_name l.number (l.slot + 4 * d)) l.turn (begins_from (made_name l.number) l.turn (drop l.dim-index l.dims));
  counted : l.turn ≡ l.dim-index;
}
