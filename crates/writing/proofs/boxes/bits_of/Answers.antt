use mathlib.Core.Path.{◌≡◌, sym, subst}
use mathlib.Core.Bool.{true, false}
use lib.ListN.{get_or}
use lib.IntN.{ℤ, pos, ◌+ℤ◌}
use lib.Signed.{lt_z}
use mir.Syntax.{w64}
use mir.Val.{SFits}
use mir.ValLaws.{to_z-of_z}
use mir.Facts.{Fits-nat_abs}
use Rattle.writing.specs.BoxBytes.{Bits, bits_fits, bits_negative, bits_natural}
use Rattle.std.proofs.Common.{rules}
use Rattle.writing.proofs.boxes.bits_of.Goals as goal

pub overflow_add-result : goal.overflow_add-result
overflow_add-result c =
    let z = get_or c.args.cells.now c.args.from (pos 0) in
    let t = c.requires.two_or_four in
    let h = c.requires.holds in
    let f = bits_fits c.args.width z t h in
    let fw : SFits w64 c.whole.result = search rules in
    let d = bits_negative c.args.width z t h (subst (λ (x : ℤ). lt_z x (pos 0) ≡ true) (to_z-of_z w64 z f) c.if-z-lt0.true) in
    let b = subst (λ (x : ℤ). Bits c.args.width z (z +ℤ x)) (sym c.whole.ensures) d in
    let g = b.fits in
    simp (to_z-of_z w64) g

pub overflow_cast-result : goal.overflow_cast-result
overflow_cast-result c =
    let z = get_or c.args.cells.now c.args.from (pos 0) in
    let t = c.requires.two_or_four in
    let h = c.requires.holds in
    let f = bits_fits c.args.width z t h in
    let fw : SFits w64 c.whole.result = search rules in
    let d = bits_negative c.args.width z t h (subst (λ (x : ℤ). lt_z x (pos 0) ≡ true) (to_z-of_z w64 z f) c.if-z-lt0.true) in
    let b = subst (λ (x : ℤ). Bits c.args.width z (z +ℤ x)) (sym c.whole.ensures) d in
    let g = b.fits in
    simp (to_z-of_z w64) (b.natural, Fits-nat_abs tt g)

pub overflow_cast-result-else-z-lt0 : goal.overflow_cast-result-else-z-lt0
overflow_cast-result-else-z-lt0 c =
    let z = get_or c.args.cells.now c.args.from (pos 0) in
    let t = c.requires.two_or_four in
    let h = c.requires.holds in
    let f = bits_fits c.args.width z t h in
    let b = bits_natural c.args.width z t h (subst (λ (x : ℤ). lt_z x (pos 0) ≡ false) (to_z-of_z w64 z f) c.if-z-lt0.false) in
    simp (to_z-of_z w64) (b.natural, Fits-nat_abs tt f)

pub returns-then-z-lt0 : goal.returns-then-z-lt0
returns-then-z-lt0 c =
    let z = get_or c.args.cells.now c.args.from (pos 0) in
    let t = c.requires.two_or_four in
    let h = c.requires.holds in
    let f = bits_fits c.args.width z t h in
    let fw : SFits w64 c.whole.result = search rules in
    let d = bits_negative c.args.width z t h (subst (λ (x : ℤ). lt_z x (pos 0) ≡ true) (to_z-of_z w64 z f) c.if-z-lt0.true) in
    let b = subst (λ (x : ℤ). Bits c.args.width z (z +ℤ x)) (sym c.whole.ensures) d in
    let g = b.fits in
    simp (to_z-of_z w64) (b.is, b.small)

pub returns-else-z-lt0 : goal.returns-else-z-lt0
returns-else-z-lt0 c =
    let z = get_or c.args.cells.now c.args.from (pos 0) in
    let t = c.requires.two_or_four in
    let h = c.requires.holds in
    let f = bits_fits c.args.width z t h in
    let b = bits_natural c.args.width z t h (subst (λ (x : ℤ). lt_z x (pos 0) ≡ false) (to_z-of_z w64 z f) c.if-z-lt0.false) in
    simp (to_z-of_z w64) (b.is, b.small)
