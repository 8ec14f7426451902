use Rattle.std.proofs.Common.{◌≤◌, ◌*◌}
use Rattle.integer_cases.proofs.right_by_all.Given as goal

-- each factor adds at most 83, and so does its negative
abbrev pub invariant-loop-i : goal.invariant-loop-i
invariant-loop-i l = l.right ≤ 166 * l.i
