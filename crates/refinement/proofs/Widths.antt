-- The widths of ranges and rows: a cut that changes a row makes it narrower, and no row is wider than the limits of a sheet allow.
use Rattle.std.specs.Prelude.{ℕ, ◌*◌, ◌≤◌, ◌<◌, ◌≡◌, refl, List, length}
use Rattle.std.proofs.Common.{arith, eq-or-lt_of_le, ⊎_elim}
use Rattle.integers.proofs.Order.{ints}
use Rattle.integers.specs.declared.Range.{Range}
use Rattle.integers.proofs.RangeLaws.{size_some, within_size}
use Rattle.model.specs.Sheet.{Sheet, RangeFits, Each, each_none, each_more, WellFormed}
use Rattle.model.specs.Boxes.{Inside, inside_none, inside_more, Ordered}
use Rattle.model.proofs.Boxes.{in_box_parts, within_ordered, box_inside}
use Rattle.refinement.specs.Table.{SoundRow, Cut}
use Rattle.refinement.specs.SheetTable.{Row, sheet_frame}
use Rattle.refinement.proofs.SheetTable.{row_fits}
use Rattle.refinement.specs.Widths.{widths, row_width, widest}

-- ranges inside others are no wider,
pub inside_widths : {qs rs : List Range} → Inside qs rs → Each Ordered qs → widths qs ≤ widths rs
unfolding widths
inside_widths inside_none o = omega arith
inside_widths (inside_more {q = q} {r = r} l u h) (each_more o os) =
    let a = size_some q o in
    let b = size_some r (omega ints) in
    let c = inside_widths h os in
    omega ints

-- and as wide only where they are the same.
pub inside_same : {qs rs : List Range} → Inside qs rs → Each Ordered qs → widths qs ≡ widths rs → qs ≡ rs
unfolding widths
inside_same inside_none o e = refl
inside_same (inside_more {q = q} {r = r} {qs = qs} {rs = rs} l u h) (each_more o os) e =
    let a = size_some q o in
    let b = size_some r (omega ints) in
    let c = inside_widths h os in
    let low : q.low ≡ r.low = omega ints in
    let high : q.high ≡ r.high = omega ints in
    let head : q ≡ r = λ i. record { low = low i; high = high i } in
    let tail : qs ≡ rs = inside_same h os (omega ints) in
    cc

-- ranges within the limits
pub widths_bound : {rs : List Range} → Each RangeFits rs → widths rs ≤ length rs * 2000001
unfolding widths
widths_bound each_none = omega arith
widths_bound (each_more {a = r} f fs) =
    let a = size_some r f.ordered in
    let b = within_size f.low_fits in
    let c = within_size f.high_fits in
    let d = widths_bound fs in
    omega arith

module _ (s : Sheet) (W : WellFormed s) where
  -- No row is wider than three counters allow.
  pub row_width_lem : (r : Row) → SoundRow (sheet_frame s) r → row_width r < widest
  row_width_lem r R =
      let F = row_fits s W r R in
      let a = widths_bound F.ranges_fit in
      let n = F.ranges_count in
      let v = W.counters_few in
      omega arith

  -- A row cut down to another is no wider,
  pub cut_width : {a : ℕ} {r w r' : Row} → SoundRow (sheet_frame s) r' → Cut (sheet_frame s) a r w r' → row_width r' ≤ row_width r
  cut_width {a} {r} {w} {r'} R D =
      let (e, i) = box_inside r'.box r.box r'.representative R.holds (λ y t. ((D.exact y).0 t).0) in
      inside_widths i (within_ordered r'.box.ranges r'.representative.values ((in_box_parts r'.box r'.representative).0 R.holds).1)

  -- as wide only where it is the same,
  pub cut_same : {a : ℕ} {r w r' : Row} → SoundRow (sheet_frame s) r' → Cut (sheet_frame s) a r w r' → row_width r' ≡ row_width r → r' ≡ r
  cut_same {a} {r} {w} {r'} R D q =
      let (e, i) = box_inside r'.box r.box r'.representative R.holds (λ y t. ((D.exact y).0 t).0) in
      let g = inside_same i (within_ordered r'.box.ranges r'.representative.values ((in_box_parts r'.box r'.representative).0 R.holds).1) q in
      let p = D.represents in
      λ k. record { representative = p k; box = record { state = e k; ranges = g k } }

  -- and narrower where it is not.
  pub cut_narrower : {a : ℕ} {r w r' : Row} → SoundRow (sheet_frame s) r' → Cut (sheet_frame s) a r w r' → (r' ≡ r → ⊥) → row_width r' < row_width r
  cut_narrower {a} {r} {w} {r'} R D f =
      ⊎_elim (λ e. absurd (f (cut_same {a = a} {r = r} {w = w} {r' = r'} R D e))) (λ l. l) (eq-or-lt_of_le (cut_width {a = a} {r = r} {w = w} {r' = r'} R D))
