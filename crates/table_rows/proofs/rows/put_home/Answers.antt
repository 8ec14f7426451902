use native.Mathlib.Omega.{arith}
use mathlib.Core.Path.{refl}
use Rattle.table_rules.specs.Arrays.{put_home}
use Rattle.table_rows.proofs.rows.put_home.Goals as goal

pub bounds-homes-k-2 : goal.bounds-homes-k-2
bounds-homes-k-2 c = omega arith

pub returns : goal.returns
unfolding put_home
returns c = refl
