use native.Mathlib.Omega.{arith}
use Prim.Native.Nat.{◌+◌}
use lib.ListN.{get_or, set, length-set}
use Rattle.sheet_bytes.specs.Fields.{region_within, sheet_short, actions_limit}
use Rattle.sheet_rules.specs.Layout.{actions_of}
use Rattle.table_rules.specs.Arrays.{region_in}
use Rattle.writing.specs.Stored.{stored_two}
use Rattle.writing.specs.ChartBytes.{record_stored}
use Rattle.writing.proofs.chart.put_record.Goals as goal

pub bounds-bytes-place : goal.bounds-bytes-place
bounds-bytes-place c = rw c.bytes-bytes.ensures
    (
    let r = region_in c.args.homes.now c.args.i in
    let A = c.shape-shape.ensures.read.actions_are in
    let within = region_within c.shape-shape.ensures.read r c.region_place-place.result c.requires.i_bound.1 c.region_place-place.ensures.value in
    omega arith)

pub overflow_add-out : goal.overflow_add-out
overflow_add-out c =
    let r = region_in c.args.homes.now c.args.i in
    let A = c.shape-shape.ensures.read.actions_are in
    let within = region_within c.shape-shape.ensures.read r c.region_place-place.result c.requires.i_bound.1 c.region_place-place.ensures.value in
    omega (arith, sheet_short c.shape-shape.ensures.read)

pub bounds-bytes-place-2 : goal.bounds-bytes-place-2
bounds-bytes-place-2 c = rw c.bytes-bytes.ensures
    (
    let r = region_in c.args.homes.now c.args.i in
    let A = c.shape-shape.ensures.read.actions_are in
    let within = region_within c.shape-shape.ensures.read r c.region_place-place.result c.requires.i_bound.1 c.region_place-place.ensures.value in
    omega arith)

pub bounds-out-at-2 : goal.bounds-out-at-2
bounds-out-at-2 c =
    let r = region_in c.args.homes.now c.args.i in
    let A = c.shape-shape.ensures.read.actions_are in
    let within = region_within c.shape-shape.ensures.read r c.region_place-place.result c.requires.i_bound.1 c.region_place-place.ensures.value in
    let s = c.bytes-bytes.result.now in
    let d = c.args.out.now in
    let x = get_or s c.region_place-place.result 0 in
    let y = get_or s (c.region_place-place.result + 1) 0 in
    let l = length-set d c.args.at x in
    omega arith

pub put_targets-requires : goal.put_targets-requires
put_targets-requires c =
    let r = region_in c.args.homes.now c.args.i in
    let A = c.shape-shape.ensures.read.actions_are in
    let within = region_within c.shape-shape.ensures.read r c.region_place-place.result c.requires.i_bound.1 c.region_place-place.ensures.value in
    let s = c.bytes-bytes.result.now in
    let d = c.args.out.now in
    let x = get_or s c.region_place-place.result 0 in
    let y = get_or s (c.region_place-place.result + 1) 0 in
    let l = length-set d c.args.at x in
    record {
      actions_bound = (actions_limit c.shape-shape.ensures.read, c.requires.i_bound.0);
      actions_in_bounds = omega (arith, length-set (set d c.args.at x) (c.args.at + 1) y);
    }

pub shape_of-out : goal.shape_of-out
shape_of-out c =
    let r = region_in c.args.homes.now c.args.i in
    let A = c.shape-shape.ensures.read.actions_are in
    let within = region_within c.shape-shape.ensures.read r c.region_place-place.result c.requires.i_bound.1 c.region_place-place.ensures.value in
    let s = c.bytes-bytes.result.now in
    let d = c.args.out.now in
    let x = get_or s c.region_place-place.result 0 in
    let y = get_or s (c.region_place-place.result + 1) 0 in
    let l = length-set d c.args.at x in
    omega (arith, length-set (set d c.args.at x) (c.args.at + 1) y)

pub returns : goal.returns
returns c =
    let r = region_in c.args.homes.now c.args.i in
    let A = c.shape-shape.ensures.read.actions_are in
    let within = region_within c.shape-shape.ensures.read r c.region_place-place.result c.requires.i_bound.1 c.region_place-place.ensures.value in
    let s = c.args.s.now in
    let d = c.args.out.now in
    let x = get_or s c.region_place-place.result 0 in
    let y = get_or s (c.region_place-place.result + 1) 0 in
    let l = length-set d c.args.at x in
    record_stored s c.args.homes.now c.args.targets.now c.args.number.now d (set (set d c.args.at x) (c.args.at + 1) y) c.put_targets.new.out
    (actions_of c.args.s.now) c.args.i c.args.at c.region_place-place.result
    c.shape-shape.ensures.bytes c.region_place-place.ensures.value
    (stored_two d c.args.at x y) (rw (A, c.bytes-bytes.ensures) at c.put_targets.ensures)
