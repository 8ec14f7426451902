-- The shares of a sheet's regions as the code counts them, in three counters, and the laws by which its loops meet their definitions.
use Rattle.std.specs.Prelude.{◌≡◌, refl, Bool, List, ℕ, zero, suc, ◌+◌, ◌≤◌, ◌<◌, eqb, get_or, Option, None, Some}
use Rattle.std.proofs.Math.Path.{sym, ap, subst}
use Rattle.std.proofs.Common.{◌∙◌, ⊎_elim, arith, eq-or-lt_of_le, add-one, eq-eqb, ne_eqb}
use Rattle.std.proofs.Math.Bool.{true, false, cond}
use Rattle.integers.specs.LittleEndian.{Bytes}
use Rattle.systems.specs.Search.{run}
use Rattle.systems.proofs.Laws.{run_ext}
use Rattle.systems.proofs.Lists.{length_each}
use Rattle.model.specs.declared.Rule.{Rule}
use Rattle.model.specs.Sheet.{RuleFits, Each, MoveFits, open_fits, Open as opened}
use Rattle.model.specs.Blocks.{volume, preimage, cuts, emptied}
use Rattle.model.proofs.Boxes.{emptied_none}
use Rattle.model.proofs.Finite.{volume_none}
use Rattle.sheet_bytes.specs.declared.Ranges.{Ranges}
use Rattle.sheet_bytes.specs.declared.RegionBox.{RegionBox}
use Rattle.sheet_bytes.specs.declared.RegionMove.{RegionMove}
use Rattle.sheet_rules.specs.Layout.{counters_of, actions_of, regions_of, state_at, move_part}
use Rattle.sheet_rules.specs.Decode.{listed, range_at, box_at, rule_at, move_at}
use Rattle.sheet_rules.specs.Shape.{Shaped}
use Rattle.sheet_bytes.specs.Fields.{rest}
use Rattle.sheet_bytes.specs.Three.{ranges_three, rules_three, box_three, open_three, move_three, open_read, move_meant, move_meant_lem, rules_meant, firsts_padded, zero_rule}
use Rattle.sheet_bytes.specs.Cuts.{all_three, cuts_three}
use Rattle.sheet_bytes.specs.Bounds.{RangesWithin, RulesFit, rules_fit}
use Rattle.sheet_rules.proofs.Fits.{moves_fit}
use Rattle.sheet_form.specs.BoxFits.{box_fits}
use Rattle.sheet_regions.specs.Counting.{sum}
use Rattle.sheet_regions.specs.Volumes.{share_three, cuts_volume, ranges_volume}
use Rattle.sheet_regions.specs.Landing.{share, shares, shares_le, Passed, lands_all, barred_lands, open_lands}

-- the shares of the regions below n
abbrev pub shares_three : List ℕ → Ranges → RegionMove → ℕ → ℕ
shares_three s b m n = sum (λ j. share_three b m (box_three s j)) n

-- the code's share, by the target's state
pub share_in : (b : Ranges) (m : RegionMove) (w : RegionBox) (x : ℕ) → m.target ≡ w.state → x ≡ volume (all_three (cuts_three m.rules w.ranges b)) → x ≡ share_three b m w
unfolding share_three
share_in b m w x e f = rw (eq-eqb m.target w.state e) f

pub share_out : (b : Ranges) (m : RegionMove) (w : RegionBox) → (m.target ≡ w.state → ⊥) → 0 ≡ share_three b m w
unfolding share_three
share_out b m w e = rw (ne_eqb m.target w.state e) refl

-- sums grow
sum_more : (f : ℕ → ℕ) (j n : ℕ) → j ≤ n → sum f j ≤ sum f n
unfolding run
sum_more f j zero h = let e : j ≡ 0 = omega arith in rw e (omega arith)
sum_more f j (suc n) h =
    ⊎_elim (λ e. rw e (omega arith)) (λ l. omega (arith, sum_more f j n (omega arith))) (eq-or-lt_of_le h)

-- nothing is taken yet, and all is taken
pub none_taken : (f : ℕ → ℕ) (left total : ℕ) → left ≡ total → left + sum f 0 ≡ total
unfolding run
none_taken f left total e = omega arith

pub all_taken : (f : ℕ → ℕ) (j n left total : ℕ) → j ≡ n → left + sum f j ≡ total → left + sum f n ≡ total
all_taken f j n left total e d = subst (λ (k : ℕ). left + sum f k ≡ total) e d

-- one more share is taken from what is left
pub taken : (f : ℕ → ℕ) (j n left x total : ℕ) → j < n → x ≡ f j → left + sum f j ≡ total → sum f n ≤ total → x ≤ left
unfolding run
taken f j n left x total h e d k = omega (arith, sum_more f (suc j) n h)

pub taken_more : (f : ℕ → ℕ) (j left x total rest : ℕ) → x ≡ f j → left + sum f j ≡ total → rest + x ≡ left → rest + sum f (j + 1) ≡ total
unfolding run
taken_more f j left x total rest e d g = rw add-one (omega arith)

module _ (s : List ℕ) (S : Shaped s) where
  -- the code's volume of a region is the model's
  pub volume_meant : (i : ℕ) → volume (all_three (box_three s i).ranges) ≡ volume (box_at s i).ranges
  unfolding box_three box_at
  volume_meant i = ranges_volume (counters_of s) (range_at s i) S.counters_some S.counters_few

  -- and so are its shares
  share_meant : (i j : ℕ) (p : List ℕ) → Each (RuleFits (counters_of s)) (listed (rule_at p) (counters_of s))
      → share (box_at s i) (get_or p 1 0) (listed (rule_at p) (counters_of s)) (box_at s j) ≡ share_three (box_three s i).ranges (open_three (counters_of s) p) (box_three s j)
  unfolding share share_three preimage box_at box_three
  share_meant i j p f = go (eqb (get_or p 1 0) (state_at s j))
    where
      go : (t : Bool)
          → volume (elim t [
            | true ↦ cuts (listed (rule_at p) (counters_of s)) (listed (range_at s j) (counters_of s)) (listed (range_at s i) (counters_of s))
            | false ↦ emptied (listed (range_at s i) (counters_of s))
          ])
          ≡ cond t (volume (all_three (cuts_three (rules_three (rule_at p) (counters_of s)) (ranges_three (range_at s j) (counters_of s)) (ranges_three (range_at s i) (counters_of s))))) 0
      go true = sym (cuts_volume (counters_of s) (rule_at p) (range_at s j) (range_at s i) f S.counters_some S.counters_few)
      go false =
          volume_none (emptied (listed (range_at s i) (counters_of s)))
          (λ ys t. emptied_none (listed (range_at s i) (counters_of s)) ys (omega (arith, length_each (range_at s i) (counters_of s), S.counters_some)) t)

  pub shares_meant : (i n : ℕ) (p : List ℕ) → Each (RuleFits (counters_of s)) (listed (rule_at p) (counters_of s))
      → shares s i (get_or p 1 0) (listed (rule_at p) (counters_of s)) n ≡ shares_three s (box_three s i).ranges (open_three (counters_of s) p) n
  shares_meant i n p f =
      run_ext 0 ◌+◌ (λ j. share (box_at s i) (get_or p 1 0) (listed (rule_at p) (counters_of s)) (box_at s j))
      (λ j. share_three (box_three s i).ranges (open_three (counters_of s) p) (box_three s j)) n (λ j h. share_meant i j p f)

-- nothing is left exactly when the parts make the whole
left_none : (left x total : ℕ) → left + x ≡ total → eqb left 0 ≡ eqb x total
left_none zero x total e = sym (eq-eqb x total (omega arith))
left_none (suc left) x total e = ne_eqb (suc left) 0 (λ d. omega arith) ∙ sym (ne_eqb x total (λ d. omega arith))

-- what the counting of a move's shares is given
pub record Countable (s : List ℕ) (b : Ranges) (m : RegionMove) : Type 0 where
  pub ranges : RangesWithin 1000000 b
  pub rules : RulesFit m.rules
  pub boxes : (j : ℕ) → j < regions_of s → RangesWithin 1000000 (box_three s j).ranges
  pub enough : shares_three s b m (regions_of s) ≤ volume (all_three b)

module _ (s : List ℕ) (S : Shaped s) (b : Bytes s) (P : Passed s) (i a : ℕ) (h : i < regions_of s) (k : a < actions_of s) (o : Option RegionMove)
    (e : o ≡ move_three (counters_of s) (move_part s i a)) where
  -- a move that the code reads as barred is barred
  pub read_barred : o ≡ None → true ≡ lands_all s i a
  unfolding move_at move_meant
  read_barred d =
      sym (barred_lands s i a (sym (move_meant_lem (counters_of s) (move_part s i a) S.counters_few) ∙ ap (move_meant (counters_of s)) (sym e ∙ d)))

  -- and one that it reads as open is open
  module _ {m : RegionMove} (d : o ≡ Some m) where
    move_is : m ≡ open_three (counters_of s) (move_part s i a)
    move_is = open_read (counters_of s) (move_part s i a) (sym e ∙ d)

    pub is_open : move_at s i a ≡ opened (get_or (move_part s i a) 1 0) (listed (rule_at (move_part s i a)) (counters_of s))
    unfolding move_at move_meant
    is_open =
        sym (move_meant_lem (counters_of s) (move_part s i a) S.counters_few)
        ∙ ap (move_meant (counters_of s)) (sym e ∙ d)
        ∙ ap (λ (q : RegionMove). opened q.target (rules_meant (counters_of s) q.rules)) move_is
        ∙ ap (opened (get_or (move_part s i a) 1 0)) (firsts_padded zero_rule (rule_at (move_part s i a)) (counters_of s) S.counters_few)

    pub rules_limits : Each (RuleFits (counters_of s)) (listed (rule_at (move_part s i a)) (counters_of s))
    rules_limits = go (subst (MoveFits (counters_of s)) is_open (moves_fit s b P.fields i a h k))
      where
        go : {target : ℕ} {rules : List Rule} → MoveFits (counters_of s) (opened target rules) → Each (RuleFits (counters_of s)) rules
        go (open_fits t l f) = f

    pub countable : Countable s (box_three s i).ranges m
    countable =
        let f = rules_limits in
        let w = shares_meant s S i (regions_of s) (move_part s i a) f in
        let v = volume_meant s S i in
        let l = shares_le s S P i (get_or (move_part s i a) 1 0) (listed (rule_at (move_part s i a)) (counters_of s)) f (length_each (rule_at (move_part s i a)) (counters_of s)) in
        subst (Countable s (box_three s i).ranges) (sym move_is) (record {
          ranges = box_fits s b P.fields i h;
          boxes = box_fits s b P.fields;
          rules = rules_fit (rule_at (move_part s i a)) (counters_of s) S.counters_few f;
          enough = omega arith;
        })

    -- nothing is left uncovered exactly when every configuration lands
    pub left_lands : (r : ℕ) → r + shares_three s (box_three s i).ranges m (regions_of s) ≡ volume (all_three (box_three s i).ranges) → eqb r 0 ≡ lands_all s i a
    left_lands r g =
        let w = shares_meant s S i (regions_of s) (move_part s i a) rules_limits in
        let v = volume_meant s S i in
        let x : shares_three s (box_three s i).ranges m (regions_of s) ≡ shares_three s (box_three s i).ranges (open_three (counters_of s) (move_part s i a)) (regions_of s) =
        ap (λ (m : RegionMove). shares_three s (box_three s i).ranges m (regions_of s)) move_is in
        left_none r (shares s i (get_or (move_part s i a) 1 0) (listed (rule_at (move_part s i a)) (counters_of s)) (regions_of s)) (volume (box_at s i).ranges) (omega arith)
        ∙ sym (open_lands s S b P i a (get_or (move_part s i a) 1 0) (listed (rule_at (move_part s i a)) (counters_of s)) h k is_open)
