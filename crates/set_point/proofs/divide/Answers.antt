use Rattle.set_point.specs.Machine.{dividend_fits, product_fits, left_fits, divided}
use Rattle.set_point.proofs.divide.Goals as goal

pub overflow_sub-remainder : goal.overflow_sub-remainder
overflow_sub-remainder c =
    let (n, wf) = c.requires.fact in
    let wb = c.requires.within in
    let wy = c.requires.within_2 in
    dividend_fits wf wb wy c.old_value-old.ensures

pub overflow_mul-remainder : goal.overflow_mul-remainder
overflow_mul-remainder c =
    let (n, wf) = c.requires.fact in
    let wb = c.requires.within in
    let wy = c.requires.within_2 in
    product_fits wf wb wy c.old_value-old.ensures

pub overflow_sub-remainder-2 : goal.overflow_sub-remainder-2
overflow_sub-remainder-2 c =
    let (n, wf) = c.requires.fact in
    let wb = c.requires.within in
    let wy = c.requires.within_2 in
    left_fits wf wb wy c.old_value-old.ensures

pub returns : goal.returns
returns c =
    let (n, wf) = c.requires.fact in
    let wb = c.requires.within in
    let wy = c.requires.within_2 in
    divided wf wb wy c.old_value-old.ensures
