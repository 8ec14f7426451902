-- What is promised of every call, on the bytes of a sheet: when a way is given, what is then written, where it leads, and what is refused.
use Rattle.std.specs.Prelude.{◌≡◌, refl, not, List, ℕ, suc, ◌+◌, ◌-◌, ◌≤◌, ◌<◌, T, leb, ltb, length, get_or, take, drop, None, Option, Result, Ok, Err}
use Rattle.std.proofs.Common.{sym, ap, subst, ◌∙◌, arith, take_at, drop_at, ltb-false, lt-ltb, le-ltb, le-leb}
use Rattle.std.proofs.lemmas.Bool.{lt-leb}
use Rattle.integers.specs.LittleEndian.{Bytes}
use Rattle.systems.proofs.Laws.{is_false, true_is, not_tells}
use Rattle.systems.specs.System.{Below, reading}
use Rattle.systems.proofs.Alike.{reading_length}
use Rattle.systems.proofs.Dictionary.{sequence_listed}
use Rattle.answer_rules.specs.declared.Reason.TheVariants.{Length, Blocks, Room, Action, Block}
use Rattle.answer_rules.specs.declared.Refusal.{Refusal}
use Rattle.answer_rules.specs.declared.Run.{Run}
use Rattle.answer_rules.specs.Refusal.{Checked, at}
use Rattle.answer_rules.specs.Stages.{demand}
use Rattle.answer_rules.proofs.Stages.{passed, then_fine, demand_fine, demand_passed, demand_failed, each_all}
use Rattle.answer_rules.specs.Run.{run_checks, ran_by, overwrite}
use Rattle.model.specs.Sheet.{Box, in_box, sheet_system, sheet_reading}
use Rattle.model.specs.Blocks.{too_many}
use Rattle.sheet_rules.specs.Layout.{actions_of}
use Rattle.sheet_rules.specs.Decode.{decode}
use Rattle.sheet_rules.specs.Check.{sheet_check}
use Rattle.sheet_rules.proofs.Accepted.{accepted}
use Rattle.sheet_rules.specs.RunSheet.{sheet_run_check, sheet_ran}
use Rattle.making_rules.specs.Making.{written_by}
use Rattle.making_rules.specs.Claims.{list_left, block_count, InListed}
use Rattle.making_rules.proofs.Proofs.{demand_2, box_written}
use Rattle.access_rules.specs.Access.{end_of, way_to, request_checks, way_checks, answered_by, IsWay}
use Rattle.access_rules.proofs.Theorems.{unknown_first, way_is}
use Rattle.access_rules.proofs.Machine.{request_passed}
use Rattle.access_rules.specs.Answered.{answered, left, Answers}

done_fine : (c : Checked) (w : List ℕ) (l : ℕ) → answered_by c w ≡ Ok l → (c ≡ Ok tt) × (length w ≡ l)
unfolding answered_by
done_fine (Ok _) w l e = (refl, (cc))
done_fine (Err why) w l e = absurd cc

-- what all checks together say
record Passed (s : List ℕ) (k room : ℕ) : Type 0 where
  pub accepts : sheet_check s ≡ Ok tt
  pub few : block_count s ≤ 255
  pub known : k < block_count s
  pub fits : block_count s ≤ room + 1

checks_passed : (s : List ℕ) (k room : ℕ) → way_checks s k room ≡ Ok tt → Passed s k room
unfolding way_checks too_many
checks_passed s k room e =
    let (a, r) = then_fine (sheet_check s) _ e in
    let (b, q) = then_fine (demand (not (too_many (decode s))) (at Blocks 0)) _ r in
    let (h, l) = request_passed (block_count s) k room refl q in
    let few = is_false (too_many (decode s)) ((not_tells (too_many (decode s))).0 (true_is (not (too_many (decode s))) (demand_fine _ (at Blocks 0) b))) in
    record { accepts = a; few = ltb-false 255 (block_count s) few; known = h; fits = l }

-- the checks of an accepted sheet of at most 255 blocks are those of the request
request_alone : (s : List ℕ) (k room : ℕ) → sheet_check s ≡ Ok tt → block_count s ≤ 255 → request_checks (block_count s) k room ≡ way_checks s k room
unfolding way_checks too_many
request_alone s k room a few = passed a (passed (sym (demand_passed (not (too_many (decode s))) (at Blocks 0) (ap not (le-ltb 255 (block_count s) few)))) refl)

-- a sequence of the sheet's actions that bars nothing runs to its end
run_through : (s w : List ℕ) (room : ℕ) → sheet_check s ≡ Ok tt → Below (actions_of s) w → length w ≤ 4096 → length w < room → (sheet_reading (decode s) w).barred ≡ None
    → sheet_ran s w room ≡ Ok (record { entries = suc (length w); barred = None })
unfolding sheet_ran sheet_run_check run_checks ran_by sheet_reading reading
run_through s w room a b m l f =
    let c : sheet_run_check s w room ≡ (Ok tt) =
    sym
    (passed a
    (passed (sym (demand_passed (leb (length w) 4096) (at Length (length w)) (le-leb (length w) 4096 m)))
    (passed (each_all (λ i. demand (ltb (get_or w i 0) (actions_of s)) (at Action i)) (length w) (λ i h.
    sym (demand_passed (ltb (get_or w i 0) (actions_of s)) (at Action i) (lt-ltb (get_or w i 0) (actions_of s) ((sequence_listed b).below i h)))))
    (demand_passed (leb (length w + 1) room) (at Room (length w + 1)) (le-leb (length w + 1) room (omega arith)))))) in
    ap (λ (x : Checked). ran_by x (sheet_reading (decode s) w)) c
    ∙ ap (λ (n : ℕ). ran n (sheet_reading (decode s) w).barred) (reading_length (sheet_system (decode s)) w (decode s).start)
    ∙ ap (ran (suc (length w))) f
  where
    ran : ℕ → Option ℕ → Result Run Refusal
    ran n o = Ok (record { entries = n; barred = o })

-- Where a way is given, it is what is promised.
pub done_answers : (s : List ℕ) (k l : ℕ) (old : List ℕ) → Bytes s → answered s k old ≡ Ok l → Answers s k l old (left s k old)
unfolding written_by overwrite decode
done_answers s k l old B e =
    let w = way_to (decode s) k in
    let (c, n) = done_fine (way_checks s k (length old)) (way_to (decode s) k) l e in
    let P = checks_passed s k (length old) c in
    let I = way_is (decode s) (accepted s B P.accepts) P.few k P.known in
    let t : left s k old ≡ overwrite (way_to (decode s) k) old = ap (λ (x : Checked). written_by x (way_to (decode s) k) old) c in
    let q : way_to (decode s) k ≡ take l (left s k old) = sym (ap (take l) t ∙ take_at w (drop (length w) old) l n) in
    let short = I.short in
    record {
      accepts = P.accepts;
      few = P.few;
      known = P.known;
      room = omega (arith, P.fits);
      long = ap length (sym q) ∙ n;
      way = subst (IsWay (decode s) k) q I;
      behind = ap (drop l) t ∙ drop_at w (drop (length w) old) l n ∙ ap (λ (m : ℕ). drop m old) n;
      runs = λ room h.
          subst (λ (v : List ℕ). sheet_ran s v room ≡ Ok (record { entries = suc l; barred = None })) q
          (run_through s w room P.accepts I.of_actions (omega (arith, P.few)) (omega arith) I.unbarred ∙ ap ran n);
      ends_in_box = λ chart list m d.
          let g = ((demand_2 s chart list B).made_only m d).0 in
          subst (λ (v : List ℕ). InListed s (list_left s chart list) k (end_of (decode s) v)) q
          (subst (λ (b : Box). T (in_box b (end_of (decode s) w))) (sym (box_written s chart list m B d k (omega (arith, P.known)))) I.arrives.1);
    }
  where
    ran : ℕ → Result Run Refusal
    ran m = Ok (record { entries = suc m; barred = None })

-- Of an accepted sheet of at most 255 blocks: a way is given for each of its blocks in a buffer with a byte for each other block;
pub known_given : (s : List ℕ) (k : ℕ) (old : List ℕ) → sheet_check s ≡ Ok tt → block_count s ≤ 255 → k < block_count s → block_count s - 1 ≤ length old
    → answered s k old ≡ Ok (length (way_to (decode s) k))
unfolding answered_by request_checks
known_given s k old a few h l =
    let n = block_count s in
    ap (λ (x : Checked). answered_by x (way_to (decode s) k))
    (sym (request_alone s k (length old) a few)
    ∙ sym (passed (sym (demand_passed (ltb k n) (at Block n) (lt-ltb k n h))) (demand_passed (leb (n - 1) (length old)) (at Room (n - 1)) (le-leb (n - 1) (length old) l))))

-- a number that no block has is refused 15, which tells how many there are, whatever the buffer is;
pub unknown_refused : (s : List ℕ) (k : ℕ) (old : List ℕ) → sheet_check s ≡ Ok tt → block_count s ≤ 255 → block_count s ≤ k
    → answered s k old ≡ Err (at Block (block_count s))
unfolding answered_by
unknown_refused s k old a few h =
    ap (λ (x : Checked). answered_by x (way_to (decode s) k)) (sym (request_alone s k (length old) a few) ∙ unknown_first (block_count s) k (length old) h)

-- and a shorter buffer is refused 10, which tells how many bytes it needs, however short the way is.
pub short_refused : (s : List ℕ) (k : ℕ) (old : List ℕ) → sheet_check s ≡ Ok tt → block_count s ≤ 255 → k < block_count s → length old < block_count s - 1
    → answered s k old ≡ Err (at Room (block_count s - 1))
unfolding answered_by request_checks
short_refused s k old a few h l =
    let n = block_count s in
    ap (λ (x : Checked). answered_by x (way_to (decode s) k))
    (sym (request_alone s k (length old) a few)
    ∙ sym (passed (sym (demand_passed (ltb k n) (at Block n) (lt-ltb k n h))) (demand_failed (leb (n - 1) (length old)) (at Room (n - 1)) (lt-leb (n - 1) (length old) l))))

-- Any refusal leaves the buffer as it was.
pub refused_leaves : (s : List ℕ) (k : ℕ) (why : Refusal) (old : List ℕ) → answered s k old ≡ Err why → left s k old ≡ old
unfolding answered_by written_by
refused_leaves s k why old e = go (way_checks s k (length old)) e
  where
    go : (c : Checked) → answered_by c (way_to (decode s) k) ≡ Err why → written_by c (way_to (decode s) k) old ≡ old
    go (Ok _) q = absurd cc
    go (Err why') q = refl
