use Prim.Native.Nat.{◌≤◌}
use Rattle.congruence_rules.specs.Euclid.{OnTheWay}
use Rattle.congruence.proofs.euclid.Given as goal

abbrev pub invariant-loop-next : goal.invariant-loop-next
invariant-loop-next l =
    OnTheWay l.modulus l.increment l.divisor l.factor l.next l.next_factor × (l.divisor ≤ 65536) × (l.factor ≤ 65536) × (l.next ≤ 65536) × (l.next_factor ≤ 65536)

abbrev pub decreases-loop-next : goal.decreases-loop-next
decreases-loop-next l = l.next
