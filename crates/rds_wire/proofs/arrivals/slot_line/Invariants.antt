use Rattle.std.proofs.Common.{◌≡◌, ◌+◌, [], filter, length, slice_get}
use Rattle.std.specs.Option.{option_map_or}
use Rattle.rds_wire.specs.Headline.{is_slot, lines}
use Rattle.rds_wire.proofs.arrivals.slot_line.Given as goal

abbrev pub invariant-loop-rest : goal.invariant-loop-rest
invariant-loop-rest l = record {
  line : slice_get (filter is_slot (lines l.log)) l.slot
      ≡ slice_get (filter is_slot (option_map_or (λ rest. lines rest.now) l.rest [])) l.left;
}

abbrev pub decreases-loop-rest : goal.decreases-loop-rest
decreases-loop-rest l = option_map_or (λ rest. length rest.now + 1) l.rest 0
