-- What is promised of two logs laid beside each other.
use Rattle.std.specs.Prelude.{◌≡◌, refl, ◌↔◌, ◌⊎◌, Bool, true, false, not, List, [], ◌∷◌, ◌++◌, ℕ, suc, ◌≤◌, ◌<◌, T, eqb, ltb, length, get_or, take, drop}
use Rattle.std.proofs.Common.{sym, ap, subst, ◌∙◌, inl, inr, append-nil, length-append, length-take, take-append-drop, length-take-le, get_or-take, ext_get_or, lt-ltb, le-ltb, ltb-true, ltb-false}
use native.Mathlib.Omega.{arith, by_contra}
use Rattle.std.proofs.Math.ListN.{get_or-append}
use Rattle.std.proofs.Math.Seq.{take-length, drop-length, drop-append_seam}
use Rattle.std.specs.Borrow.{Bor}
use Rattle.systems.specs.Search.{least}
use Rattle.systems.proofs.Laws.{not_tells, eqb_tells, told, true_is, least_is, least_least}
use Rattle.log_rules.specs.Compare.{shorter, differ, differences, first_difference, Tail, of_first, of_second, left, rest_of, held, Inside, part_of, IsFirst, Beginning, SameAnswers}
use Rattle.log_rules.specs.Listed.{Begun}
use Rattle.log_rules.proofs.Listed.{listed_begun, listed_least}

-- the test of an index as a proposition
differ_tells : (a b : List ℕ) (i : ℕ) → T (differ a b i) ↔ (get_or a i 0 ≡ get_or b i 0 → ⊥)
differ_tells a b i =
    let n = not_tells (eqb (get_or a i 0) (get_or b i 0)) in
    let e = eqb_tells (get_or a i 0) (get_or b i 0) in
    (λ t q. n.0 t (e.1 q), λ h. n.1 (λ u. h (e.0 u)))

-- where it does not differ the entries are one
agrees : (a b : List ℕ) (i : ℕ) → (T (differ a b i) → ⊥) → get_or a i 0 ≡ get_or b i 0
agrees a b i h = go (told (eqb (get_or a i 0) (get_or b i 0)))
  where
    go : (eqb (get_or a i 0) (get_or b i 0) ≡ true) ⊎ (eqb (get_or a i 0) (get_or b i 0) ≡ false) → get_or a i 0 ≡ get_or b i 0
    go (inl e) = (eqb_tells (get_or a i 0) (get_or b i 0)).0 (true_is _ e)
    go (inr e) = absurd (h (subst (λ (t : Bool). T (not t)) (sym e) tt))

-- Comparing both in full and taking the first gives what a comparison gives that stops there.
pub stops_there : (a b : List ℕ) → first_difference a b ≡ least (differ a b) (shorter a b)
unfolding first_difference
stops_there a b = listed_least (differ a b) (shorter a b)

-- The answer is a first difference, and no other number is.
pub first_told : (a b : List ℕ) → IsFirst a b (first_difference a b)
first_told a b =
    let h = least_least (differ a b) (shorter a b) in
    subst
    (IsFirst a b)
    (sym (stops_there a b))
    (record {
      within = h.le;
      agree = λ k l. agrees a b k (h.first k l);
      apart = λ l. (differ_tells a b (least (differ a b) (shorter a b))).0 (h.passes l);
    })

pub first_only : (a b : List ℕ) (i : ℕ) → IsFirst a b i → first_difference a b ≡ i
first_only a b i h =
    stops_there a b
    ∙ least_is (differ a b) (shorter a b) i h.within (λ l. (differ_tells a b i).1 (h.apart l)) (λ k l t. (differ_tells a b k).0 t (h.agree k l))

-- It is at or before every index where they differ, so where there is one it is below the length of the shorter.
pub first_before : (a b : List ℕ) (i : ℕ) → i < shorter a b → (get_or a i 0 ≡ get_or b i 0 → ⊥) → (first_difference a b ≤ i) × (first_difference a b < shorter a b)
first_before a b i l n = let h = by_contra (first_difference a b) i (λ k. n ((first_told a b).agree i k)) in (h, omega arith)

-- It is the same whichever log is called the first.
pub first_swapped : (a b : List ℕ) → first_difference a b ≡ first_difference b a
first_swapped a b =
    let h = first_told b a in
    let w = h.within in
    first_only a b (first_difference b a) (record { within = omega arith; agree = λ k l. sym (h.agree k l); apart = λ l e. h.apart (omega arith) (sym e) })

-- The logs are one up to it.
pub same_beginning : (a b : List ℕ) → take (first_difference a b) a ≡ take (first_difference a b) b
same_beginning a b =
    let i = first_difference a b in
    let h = first_told a b in
    let w = h.within in
    let la : length (take i a) ≡ i = length-take-le i a (omega arith) in
    let lb : length (take i b) ≡ i = length-take-le i b (omega arith) in
    ext_get_or 0 (take i a) (take i b) (la ∙ sym lb)
    (λ k l. let m : k < i = omega arith in get_or-take i a k 0 m ∙ h.agree k m ∙ sym (get_or-take i b k 0 m))

-- a log laid beside a beginning of its own: no index differs
pub beginning_first : (a c : List ℕ) → first_difference a (a ++ c) ≡ length a
beginning_first a c =
    let l = length-append a c in
    first_only a (a ++ c) (length a)
    (record { within = omega arith; agree = λ k h. sym (get_or-append a c 0 k h); apart = λ h. absurd (omega arith) })

-- Where no index differs, the log that is no longer than the other is its beginning; and where one is the beginning of the other, none differs.
pub none_beginning : (a b : List ℕ) → first_difference a b ≡ shorter a b → length a ≤ length b → Beginning a b
none_beginning a b e l =
    let n : first_difference a b ≡ length a = omega arith in
    let s : take (length a) a ≡ take (length a) b = subst (λ (k : ℕ). take k a ≡ take k b) n (same_beginning a b) in
    (drop (length a) b, sym (take-append-drop (length a) b) ∙ ap (λ (f : List ℕ). f ++ drop (length a) b) (sym s ∙ take-length a))

pub beginning_none : (a b : List ℕ) → Beginning a b → first_difference a b ≡ length a
beginning_none a b (c, e) = subst (λ (z : List ℕ). first_difference a z ≡ length a) (sym e) (beginning_first a c)

-- the rest as the index and the lengths tell it, where an index differs
pub rest_apart : (a b : List ℕ) → first_difference a b < shorter a b → rest_of a b ≡ of_first (length a)
unfolding first_difference rest_of
rest_apart a b = go (differences a b)
  where
    go : (l : List ℕ) → get_or l 0 (shorter a b) < shorter a b → elim l [ [] ↦ left a b | i ∷ more ↦ of_first (length a) ] ≡ of_first (length a)
    go [] h = absurd (omega arith)
    go (x ∷ l) h = refl

-- and where none does
rest_left : (a b : List ℕ) → first_difference a b ≡ shorter a b → rest_of a b ≡ left a b
unfolding first_difference rest_of Begun
rest_left a b = go (differences a b) (listed_begun (differ a b) (shorter a b))
  where
    go : (l : List ℕ) → Begun (differ a b) (shorter a b) l → get_or l 0 (shorter a b) ≡ shorter a b
        → elim l [ [] ↦ left a b | i ∷ more ↦ of_first (length a) ] ≡ left a b
    go [] h e = refl
    go (x ∷ l) h e = let b = h.0 in absurd (omega arith)

-- then the index, i in the code, is where the rest of the longer starts: of the second, or of the first where that is as long or longer
pub rest_second : (a b : List ℕ) (i : ℕ) → i ≡ first_difference a b → shorter a b ≤ i → length a < length b → rest_of a b ≡ of_second i
unfolding left
rest_second a b i e h l =
    let w = (first_told a b).within in
    let n : length a ≡ i = omega arith in
    rest_left a b (omega arith) ∙ rw (lt-ltb (length a) (length b) l, left) (ap of_second n)

pub rest_first : (a b : List ℕ) (i : ℕ) → i ≡ first_difference a b → shorter a b ≤ i → length b ≤ length a → rest_of a b ≡ of_first i
unfolding left
rest_first a b i e h l =
    let w = (first_told a b).within in
    let n : length b ≡ i = omega arith in
    rest_left a b (omega arith) ∙ rw (le-ltb (length a) (length b) l, left) (ap of_first n)

-- In the request's words. The first log is the beginning of the second, which is longer: what the second has more.
pub rest_of_second : (a c : List ℕ) → 0 < length c → (rest_of a (a ++ c) ≡ of_second (length a)) × (held (rest_of a (a ++ c)) a (a ++ c) ≡ c)
unfolding held
rest_of_second a c h =
    let e = beginning_first a c in
    let l = length-append a c in
    let r = rest_second a (a ++ c) (length a) (sym e) (omega arith) (omega arith) in
    (r, rw (r, held) (drop-append_seam a c))

-- The second is the beginning of the first, which is longer or equal to it: what the first has more.
pub rest_of_first : (b c : List ℕ) → (rest_of (b ++ c) b ≡ of_first (length b)) × (held (rest_of (b ++ c) b) (b ++ c) b ≡ c)
unfolding held
rest_of_first b c =
    let e = first_swapped (b ++ c) b ∙ beginning_first b c in
    let l = length-append b c in
    let r = rest_first (b ++ c) b (length b) (sym e) (omega arith) (omega arith) in
    (r, rw (r, held) (drop-append_seam b c))

-- Equal logs: the empty rest of the first.
pub rest_of_equal : (a : List ℕ) → (rest_of a a ≡ of_first (length a)) × (held (rest_of a a) a a ≡ [])
rest_of_equal a =
    let (r, h) = rest_of_first a [] in
    let n = append-nil a in
    (subst (λ (z : List ℕ). rest_of z a ≡ of_first (length a)) n r, subst (λ (z : List ℕ). held (rest_of z a) z a ≡ []) n h)

-- Logs that differ: the empty rest of the first too.
pub rest_of_differing : (a b : List ℕ) → first_difference a b < shorter a b → (rest_of a b ≡ of_first (length a)) × (held (rest_of a b) a b ≡ [])
unfolding held
rest_of_differing a b h = let r = rest_apart a b h in (r, rw (r, held) (drop-length a))

-- The rest lies in its log: it starts at an entry of it, or just behind the last.
pub rest_inside : (a b : List ℕ) → Inside (rest_of a b) a b
unfolding rest_of left Inside
rest_inside a b = go (differences a b) (told (ltb (length a) (length b)))
  where
    go : (l : List ℕ) → (ltb (length a) (length b) ≡ true) ⊎ (ltb (length a) (length b) ≡ false)
        → Inside (elim l [ [] ↦ left a b | i ∷ more ↦ of_first (length a) ]) a b
    go (x ∷ l) t = omega arith
    go [] (inl e) = let h = ltb-true (length a) (length b) e in rw (e, left) (omega arith)
    go [] (inr e) = let h = ltb-false (length a) (length b) e in rw (e, left) (omega arith)

-- What a lent part has as its entries is what the part holds.
pub part_holds : (t : Tail) (r s : Bor (List ℕ)) → (part_of t r s).entries ≡ held t r.now s.now
unfolding part_of held
part_holds (of_first i) r s = refl
part_holds (of_second i) r s = refl

-- logs that are one up to an index have one entry there, and are both longer
same_entry : (a c : List ℕ) (i k : ℕ) → take (suc i) a ≡ take (suc i) c → k ≤ i → get_or c k 0 ≡ get_or a k 0
same_entry a c i k e l =
    sym (get_or-take (suc i) c k 0 (omega arith)) ∙ ap (λ (z : List ℕ). get_or z k 0) (sym e) ∙ get_or-take (suc i) a k 0 (omega arith)

same_room : (a c : List ℕ) (i : ℕ) → take (suc i) a ≡ take (suc i) c → i < length a → i < length c
same_room a c i e l = let m = length-take (suc i) a in let n = length-take (suc i) c in let s = ap length e in omega arith

-- the first difference of logs is that of what agrees with them up to and with it
same_first : (a b c d : List ℕ) (i : ℕ) → take (suc i) a ≡ take (suc i) c → take (suc i) b ≡ take (suc i) d → i < shorter a b → IsFirst a b i → IsFirst c d i
same_first a b c d i p q h t =
    let rc = same_room a c i p (omega arith) in
    let rd = same_room b d i q (omega arith) in
    record {
      within = omega arith;
      agree = λ k l. same_entry a c i k p (omega arith) ∙ t.agree k l ∙ sym (same_entry b d i k q (omega arith));
      apart = λ l e. t.apart h (sym (same_entry a c i i p (omega arith)) ∙ e ∙ same_entry b d i i q (omega arith));
    }

-- Nothing behind the first difference has any influence: logs c and d that agree with a and b up to and with it give the same answers, whatever
-- follows and however much.
pub nothing_behind : (a b c d : List ℕ) → first_difference a b < shorter a b
    → take (suc (first_difference a b)) a ≡ take (suc (first_difference a b)) c
    → take (suc (first_difference a b)) b ≡ take (suc (first_difference a b)) d → SameAnswers a b c d
nothing_behind a b c d h p q =
    let i = first_difference a b in
    let e = first_only c d i (same_first a b c d i p q h (first_told a b)) in
    let rc = same_room a c i p (omega arith) in
    let rd = same_room b d i q (omega arith) in
    let g : first_difference c d < shorter c d = omega arith in
    record {
      index = e;
      rest = λ l. rest_apart c d g ∙ ap of_first l ∙ sym (rest_apart a b h);
      holds = (rest_of_differing c d g).1 ∙ sym (rest_of_differing a b h).1;
    }
