use native.Mathlib.Omega.{arith}
use Rattle.sheet_regions.specs.Tight.{tight_countable, two_sizes, three_sizes, volume_parts}
use Rattle.sheet_regions.proofs.landing.volume_of.Goals as goal

pub count-requires : goal.count-requires
count-requires c = tight_countable c.requires.first_tight

pub count-requires-2 : goal.count-requires-2
count-requires-2 c = tight_countable c.requires.second_tight

pub overflow_mul-result : goal.overflow_mul-result
overflow_mul-result c = omega (arith, two_sizes c.count.result c.count-2.result c.requires c.count.ensures c.count-2.ensures)

pub count-requires-3 : goal.count-requires-3
count-requires-3 c = tight_countable c.requires.third_tight

pub overflow_mul-result-2 : goal.overflow_mul-result-2
overflow_mul-result-2 c = omega (arith, three_sizes c.count.result c.count-2.result c.count-3.result c.requires c.count.ensures c.count-2.ensures c.count-3.ensures)

pub returns : goal.returns
returns c = volume_parts c.args.b c.count.result c.count-2.result c.count-3.result c.count.ensures c.count-2.ensures c.count-3.ensures
