-- The walk of an action sequence on any system: the entries written so far, and what the actions that are left write from where the walk is.
use Rattle.std.specs.Prelude.{Result, ◌≡◌, refl, Bool, true, false, get_or, set, Ok, Err, Option, Some, None}
use Rattle.std.proofs.Math.Path.{sym, ap}
use Rattle.std.proofs.Common.{◌∙◌, take-append-drop, take-suc, drop-cons, drop-drop, get_or-set_same}
use mathlib.Core.List.{List, [], ◌∷◌, ◌++◌, append_assoc, append-nil}
use Prim.Native.Nat.{ℕ, suc, ◌+◌, ◌<◌}
use native.Mathlib.Omega.{arith}
use Rattle.std.proofs.Math.Numerals.{add-one}
use Rattle.std.proofs.Math.ListN.{length, take, drop, length-set}
use Rattle.std.proofs.Math.Seq.{drop-length, length-take-le, drop-set-lt}
use Rattle.std.proofs.lemmas.List.{take-set-le}
use Rattle.std.specs.Option.{option_and, option_or}
use Rattle.std.specs.Bool.{then_some}
use Rattle.systems.specs.System.{System, Reading, after, entry, written, earliest, first_barred, reading}
use Rattle.answer_rules.specs.declared.Refusal.{Refusal}
use Rattle.answer_rules.specs.Refusal.{Checked}
use Rattle.answer_rules.specs.declared.Run.{Run}
use Rattle.answer_rules.specs.Run.{noted_at, ran_by, overwrite, left_by}
use Rattle.answer_rules.specs.Walk.{is_barred, Took, resumed, Walk}

-- what was barred first stays so; else an action is the first if it is barred
pub noted_or : (first : Option ℕ) (i : ℕ) (b : Bool) → option_or first (then_some b i) ≡ noted_at first i b
unfolding noted_at
noted_or (Some k) i b = refl
noted_or None i true = refl
noted_or None i false = refl

-- an answer twice over: with it an edit's proof file follows a wrong body
pub and_itself : {T : Type 0} (o : Option T) → option_and o o ≡ o
and_itself None = refl
and_itself (Some x) = refl

pub took_barred : {X : Type 0} (sys : System X) (x : X) {o : Option X} → o ≡ None → Took sys x o x 65535 true
unfolding after entry is_barred
took_barred sys x e = record { leads = sym (ap (after x) e); writes = sym (ap (entry sys) e); bars = sym (ap is_barred e) }

pub took_open : {X : Type 0} (sys : System X) (x y : X) (v : ℕ) {o : Option X} → o ≡ Some y → v ≡ sys.label y → Took sys x o y v false
unfolding after entry is_barred
took_open sys x y v e d = record { leads = sym (ap (after x) e); writes = d ∙ sym (ap (entry sys) e); bars = sym (ap is_barred e) }

resumed_none : (o : Option ℕ) → o ≡ resumed None 0 o
unfolding resumed
resumed_none None = refl
resumed_none (Some n) = ap Some (omega arith)

-- one action more
resumed_next : {X : Type 0} (first : Option ℕ) (i : ℕ) (o : Option X) (later : Option ℕ)
    → resumed first i (earliest o later) ≡ resumed (noted_at first i (is_barred o)) (suc i) later
unfolding resumed earliest noted_at is_barred
resumed_next (Some k) i o later = refl
resumed_next None i None later = ap Some (omega arith)
resumed_next None i (Some y) None = refl
resumed_next None i (Some y) (Some n) = ap Some (omega arith)

resumed_end : (first : Option ℕ) (i : ℕ) → resumed first i None ≡ first
unfolding resumed
resumed_end None i = refl
resumed_end (Some k) i = refl

-- the entries up to the last one written
one_more : (ls : List ℕ) (i e : ℕ) → i < length ls → get_or ls i 0 ≡ e → take i ls ++ (e ∷ []) ≡ take (suc i) ls
one_more ls i e h p = ap (λ (x : ℕ). take i ls ++ (x ∷ [])) (sym p) ∙ sym (take-suc ls i 0 h)

module _ {X : Type 0} (sys : System X) (start : X) (w : List ℕ) where
  -- the walk begins with the label of the start written
  pub walk_start : (old : List ℕ) (v : ℕ) → 0 < length old → v ≡ sys.label start → Walk sys start w (set old 0 v) 0 start None (set old 0 v)
  unfolding reading
  walk_start old v h e =
      record {
        same_length = refl;
        rest = refl;
        read = ap (λ (l : List ℕ). l ++ written sys w start) (one_more (set old 0 v) 0 (sys.label start) (omega (arith, length-set old 0 v)) (get_or-set_same old 0 v 0 h ∙ e));
        barred = resumed_none (first_barred sys w start);
      }

  -- what stood at the front before does not matter
  pub walk_old : (old : List ℕ) (v i : ℕ) (x : X) (first : Option ℕ) (ls : List ℕ) → Walk sys start w (set old 0 v) i x first ls → Walk sys start w old i x first ls
  walk_old old v i x first ls k =
      record {
        same_length = k.same_length ∙ length-set old 0 v;
        rest = k.rest ∙ drop-set-lt (suc i) old 0 v (omega arith);
        read = k.read;
        barred = k.barred;
      }

  -- one action, open or barred
  pub walk_step : (old ls : List ℕ) (i v : ℕ) (b : Bool) (x y : X) (first : Option ℕ) → Walk sys start w old i x first ls → i < length w → i + 1 < length ls
      → Took sys x (sys.step (get_or w i 0) x) y v b
      → Walk sys start w old (i + 1) y (noted_at first i b) (set ls (i + 1) v)
  unfolding written first_barred
  walk_step old ls i v b x y first k hw hl t =
      rw add-one
      (record {
        same_length = length-set ls (suc i) v ∙ k.same_length;
        rest = drop-set-lt (suc (suc i)) ls (suc i) v (omega arith) ∙ behind;
        read = k.read ∙ ap (λ (z : List ℕ). take (suc i) ls ++ z) writes ∙ moved;
        barred = k.barred ∙ ap (resumed first i) bars ∙ resumed_next first i o (first_barred sys (drop (suc i) w) y) ∙ ap (λ (z : Bool). resumed (noted_at first i z) (suc i) (first_barred sys (drop (suc i) w) y)) (sym t.bars);
      })
    where
      o : Option X
      o = sys.step (get_or w i 0) x

      behind : drop (suc (suc i)) ls ≡ drop (suc (suc i)) old
      behind =
          let q = ap (drop 1) k.rest in
          let p : suc i + 1 ≡ suc (suc i) = omega arith in
          ap (λ (m : ℕ). drop m ls) (sym p) ∙ sym (drop-drop 1 (suc i) ls) ∙ q ∙ drop-drop 1 (suc i) old ∙ ap (λ (m : ℕ). drop m old) p

      writes : written sys (drop i w) x ≡ v ∷ written sys (drop (suc i) w) y
      writes =
          ap (λ (z : List ℕ). written sys z x) (drop-cons w i 0 hw)
          ∙ ap (λ (e : ℕ). e ∷ written sys (drop (suc i) w) (after x o)) (sym t.writes)
          ∙ ap (λ (z : X). v ∷ written sys (drop (suc i) w) z) (sym t.leads)

      bars : first_barred sys (drop i w) x ≡ earliest o (first_barred sys (drop (suc i) w) y)
      bars =
          ap (λ (z : List ℕ). first_barred sys z x) (drop-cons w i 0 hw)
          ∙ ap (λ (z : X). earliest o (first_barred sys (drop (suc i) w) z)) (sym t.leads)

      -- the entry stands behind those that were written
      moved : take (suc i) ls ++ (v ∷ written sys (drop (suc i) w) y) ≡ take (suc (suc i)) (set ls (suc i) v) ++ written sys (drop (suc i) w) y
      moved =
          sym (append_assoc (take (suc i) ls) (v ∷ []) (written sys (drop (suc i) w) y))
          ∙ ap
          (λ (z : List ℕ). z ++ written sys (drop (suc i) w) y)
          (ap (λ (z : List ℕ). z ++ (v ∷ [])) (sym (take-set-le (suc i) ls (suc i) v (omega arith)))
          ∙ one_more (set ls (suc i) v) (suc i) v (omega (arith, length-set ls (suc i) v)) (get_or-set_same ls (suc i) v 0 (omega arith)))

  -- The walk ends after the last action.
  pub walk_done : (old ls : List ℕ) (i : ℕ) (x : X) (first : Option ℕ) → Walk sys start w old i x first ls → i ≡ length w → i < length ls
      → (Ok (record { entries = length w + 1; barred = first }) ≡ ran_by (Ok tt) (reading sys w start)) × (ls ≡ left_by (Ok tt) (reading sys w start) old)
  unfolding ran_by left_by overwrite written first_barred
  walk_done old ls i x first k e h =
      let n : length (reading sys w start).entries ≡ suc i = ap length entries ∙ length-take-le (suc i) ls h in
      let m : length w + 1 ≡ length (reading sys w start).entries = omega arith in (
        ap (λ (z : ℕ). answer z first) m ∙ ap (answer (length (reading sys w start).entries)) (sym barred),
        sym (take-append-drop (suc i) ls) ∙ ap (λ (z : List ℕ). take (suc i) ls ++ z) k.rest
            ∙ ap (λ (z : List ℕ). z ++ drop (suc i) old) (sym entries)
            ∙ ap (λ (z : ℕ). (reading sys w start).entries ++ drop z old) (sym n),
      )
    where
      answer : ℕ → Option ℕ → Result Run Refusal
      answer n o = Ok (record { entries = n; barred = o })

      left : drop i w ≡ []
      left = ap (λ (n : ℕ). drop n w) e ∙ drop-length w

      entries : (reading sys w start).entries ≡ take (suc i) ls
      entries = k.read ∙ ap (λ (z : List ℕ). take (suc i) ls ++ written sys z x) left ∙ append-nil (take (suc i) ls)

      barred : (reading sys w start).barred ≡ first
      barred = k.barred ∙ ap (λ (z : List ℕ). resumed first i (first_barred sys z x)) left ∙ resumed_end first i

-- a run's answer and buffer by what its checks say
pub run_done : {check : Checked} (q : Reading) (old : List ℕ) {r : Result Run Refusal} {l : List ℕ} → check ≡ Ok tt → r ≡ ran_by (Ok tt) q → l ≡ left_by (Ok tt) q old
    → (r ≡ ran_by check q) × (l ≡ left_by check q old)
run_done q old e p h = (p ∙ ap (λ (x : Checked). ran_by x q) (sym e), h ∙ ap (λ (x : Checked). left_by x q old) (sym e))

pub run_refused : {check : Checked} (q : Reading) (old : List ℕ) {why : Refusal} → check ≡ Err why
    → (Err why ≡ ran_by check q) × (old ≡ left_by check q old)
unfolding ran_by left_by
run_refused q old e = (ap (λ (x : Checked). ran_by x q) (sym e), ap (λ (x : Checked). left_by x q old) (sym e))
