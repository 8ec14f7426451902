use native.Mathlib.Omega.{arith}
use mathlib.Core.Path.{◌≡◌, refl}
use mathlib.Core.Logic.{inl, inr}
use Prim.Native.Nat.{◌<◌}
use Rattle.table_rules.specs.Arrays.{target_in}
use Rattle.writing.specs.Numbers.{entry_in, rows_few, actions_few, walked_row, walked_old, walked_room, walked_new}
use Rattle.writing.proofs.numbering.number_target.Goals as goal

pub overflow_cast-i : goal.overflow_cast-i
overflow_cast-i c =
    let D = c.requires.walkable in
    let m = c.args.m in
    let a = c.args.a in
    let row = walked_row D m a c.requires.walked c.requires.m_lt_n.0 in
    let few = rows_few D in
    let some = actions_few D in
    omega arith

pub overflow_mul-j : goal.overflow_mul-j
overflow_mul-j c =
    let D = c.requires.walkable in
    let m = c.args.m in
    let a = c.args.a in
    let row = walked_row D m a c.requires.walked c.requires.m_lt_n.0 in
    let few = rows_few D in
    let some = actions_few D in
    omega arith

pub overflow_add-j : goal.overflow_add-j
overflow_add-j c =
    let D = c.requires.walkable in
    let m = c.args.m in
    let a = c.args.a in
    let row = walked_row D m a c.requires.walked c.requires.m_lt_n.0 in
    let few = rows_few D in
    let some = actions_few D in
    omega arith

pub bounds-targets-a : goal.bounds-targets-a
bounds-targets-a c =
    let D = c.requires.walkable in
    let m = c.args.m in
    let a = c.args.a in
    let row = walked_row D m a c.requires.walked c.requires.m_lt_n.0 in
    let few = rows_few D in
    let some = actions_few D in
    omega arith

pub returns-then-j : goal.returns-then-j
returns-then-j c =
    let D = c.requires.walkable in
    let m = c.args.m in
    let a = c.args.a in
    let row = walked_row D m a c.requires.walked c.requires.m_lt_n.0 in
    let few = rows_few D in
    let some = actions_few D in
    walked_old D m a c.requires.walked c.requires.m_lt_n.0 (target_in c.args.targets.now (entry_in c.args.order.now m) a) c.requires.m_lt_n.1 refl (inl c.if-j.true)

pub overflow_cast-j : goal.overflow_cast-j
overflow_cast-j c =
    let D = c.requires.walkable in
    let m = c.args.m in
    let a = c.args.a in
    let row = walked_row D m a c.requires.walked c.requires.m_lt_n.0 in
    let few = rows_few D in
    let some = actions_few D in
    omega arith

pub bounds-number-j : goal.bounds-number-j
bounds-number-j c =
    let D = c.requires.walkable in
    let m = c.args.m in
    let a = c.args.a in
    let row = walked_row D m a c.requires.walked c.requires.m_lt_n.0 in
    let few = rows_few D in
    let some = actions_few D in
    omega arith

pub returns-then-number-j-lt255 : goal.returns-then-number-j-lt255
returns-then-number-j-lt255 c =
    let D = c.requires.walkable in
    let m = c.args.m in
    let a = c.args.a in
    let row = walked_row D m a c.requires.walked c.requires.m_lt_n.0 in
    let few = rows_few D in
    let some = actions_few D in
    walked_old D m a c.requires.walked c.requires.m_lt_n.0 (target_in c.args.targets.now (entry_in c.args.order.now m) a) c.requires.m_lt_n.1 refl (inr c.if-number-j-lt255.true)

pub bounds-order-c : goal.bounds-order-c
bounds-order-c c =
    let D = c.requires.walkable in
    let m = c.args.m in
    let a = c.args.a in
    let row = walked_row D m a c.requires.walked c.requires.m_lt_n.0 in
    let few = rows_few D in
    let some = actions_few D in
    let j = (target_in c.args.targets.now (entry_in c.args.order.now m) a) in
    let l : j < 255 = let n = c.if-j.false in omega arith in
    let e : entry_in c.args.number.now j ≡ 255 = omega arith in
    let room = walked_room D m a c.requires.walked c.requires.m_lt_n.0 j c.requires.m_lt_n.1 refl l e in
    omega arith

pub overflow_cast-number : goal.overflow_cast-number
overflow_cast-number c =
    let D = c.requires.walkable in
    let m = c.args.m in
    let a = c.args.a in
    let row = walked_row D m a c.requires.walked c.requires.m_lt_n.0 in
    let few = rows_few D in
    let some = actions_few D in
    let j = (target_in c.args.targets.now (entry_in c.args.order.now m) a) in
    let l : j < 255 = let n = c.if-j.false in omega arith in
    let e : entry_in c.args.number.now j ≡ 255 = omega arith in
    let room = walked_room D m a c.requires.walked c.requires.m_lt_n.0 j c.requires.m_lt_n.1 refl l e in
    omega arith

pub overflow_cast-number-2 : goal.overflow_cast-number-2
overflow_cast-number-2 c =
    let D = c.requires.walkable in
    let m = c.args.m in
    let a = c.args.a in
    let row = walked_row D m a c.requires.walked c.requires.m_lt_n.0 in
    let few = rows_few D in
    let some = actions_few D in
    let j = (target_in c.args.targets.now (entry_in c.args.order.now m) a) in
    let l : j < 255 = let n = c.if-j.false in omega arith in
    let e : entry_in c.args.number.now j ≡ 255 = omega arith in
    let room = walked_room D m a c.requires.walked c.requires.m_lt_n.0 j c.requires.m_lt_n.1 refl l e in
    omega arith

pub bounds-number-j-2 : goal.bounds-number-j-2
bounds-number-j-2 c =
    let D = c.requires.walkable in
    let m = c.args.m in
    let a = c.args.a in
    let row = walked_row D m a c.requires.walked c.requires.m_lt_n.0 in
    let few = rows_few D in
    let some = actions_few D in
    let j = (target_in c.args.targets.now (entry_in c.args.order.now m) a) in
    let l : j < 255 = let n = c.if-j.false in omega arith in
    let e : entry_in c.args.number.now j ≡ 255 = omega arith in
    let room = walked_room D m a c.requires.walked c.requires.m_lt_n.0 j c.requires.m_lt_n.1 refl l e in
    omega arith

pub overflow_add-result : goal.overflow_add-result
overflow_add-result c =
    let D = c.requires.walkable in
    let m = c.args.m in
    let a = c.args.a in
    let row = walked_row D m a c.requires.walked c.requires.m_lt_n.0 in
    let few = rows_few D in
    let some = actions_few D in
    let j = (target_in c.args.targets.now (entry_in c.args.order.now m) a) in
    let l : j < 255 = let n = c.if-j.false in omega arith in
    let e : entry_in c.args.number.now j ≡ 255 = omega arith in
    let room = walked_room D m a c.requires.walked c.requires.m_lt_n.0 j c.requires.m_lt_n.1 refl l e in
    omega arith

pub returns : goal.returns
returns c =
    let D = c.requires.walkable in
    let m = c.args.m in
    let a = c.args.a in
    let row = walked_row D m a c.requires.walked c.requires.m_lt_n.0 in
    let few = rows_few D in
    let some = actions_few D in
    let j = (target_in c.args.targets.now (entry_in c.args.order.now m) a) in
    let l : j < 255 = let n = c.if-j.false in omega arith in
    let e : entry_in c.args.number.now j ≡ 255 = omega arith in
    let room = walked_room D m a c.requires.walked c.requires.m_lt_n.0 j c.requires.m_lt_n.1 refl l e in
    walked_new D m a c.requires.walked c.requires.m_lt_n.0 j c.requires.m_lt_n.1 refl l e (omega arith) (omega arith)
