-- A buffer into which the word that is noted for an entry is written, from its end on.
use Rattle.std.specs.Prelude.{◌≡◌, refl, List, [], ◌∷◌, ◌++◌, ℕ, suc, ◌-◌, ◌≤◌, ◌<◌, length, get_or, set, take, drop}
use Rattle.std.proofs.Common.{sym, ap, ◌∙◌, append_assoc, append-nil, arith, length-append, length-set, take-append-drop, length-take-le, take-suc, drop-cons, drop_at}
use Rattle.std.proofs.Math.Seq.{drop-length}
use Rattle.std.proofs.lemmas.List.{set_at, get_or_at}
use Rattle.answer_rules.specs.Run.{overwrite}
use Rattle.noted_words.specs.Words.{Falling, noted_word}
use Rattle.noted_words.proofs.Words.{word_none, word_more, word_length}
use Rattle.noted_words.specs.Writing.{filled, Writing}

-- nothing stands in it yet
filled_none : (old w : List ℕ) (i : ℕ) → i ≡ length w → old ≡ filled old w i
unfolding filled
filled_none old w i e =
    sym (take-append-drop i old)
    ∙ ap (λ (k : ℕ). take i old ++ drop k old) e
    ∙ ap (λ (l : List ℕ). take i old ++ (l ++ drop (length w) old)) (sym (ap (λ (k : ℕ). drop k w) e ∙ drop-length w))

-- one element more
filled_more : (old w : List ℕ) (i x : ℕ) → i < length w → length w ≤ length old → get_or w i 0 ≡ x → set (filled old w (suc i)) i x ≡ filled old w i
unfolding filled
filled_more old w i x h l e =
    let behind = drop (suc i) w ++ drop (length w) old in
    ap (λ (f : List ℕ). set (f ++ (drop (suc i) w ++ drop (length w) old)) i x) (take-suc old i 0 (omega arith))
    ∙ ap (λ (f : List ℕ). set f i x) (append_assoc (take i old) (get_or old i 0 ∷ []) behind)
    ∙ set_at (take i old) (get_or old i 0) behind x i (length-take-le i old (omega arith))
    ∙ ap (λ (y : ℕ). take i old ++ (y ∷ (drop (suc i) w ++ drop (length w) old))) (sym e)
    ∙ ap (λ (f : List ℕ). take i old ++ (f ++ drop (length w) old)) (sym (drop-cons w i 0 h))

-- all of it
filled_all : (old w : List ℕ) → filled old w 0 ≡ overwrite w old
unfolding filled overwrite
filled_all old w = refl

pub writing_begun : (ps bs : List ℕ) (k count : ℕ) (old : List ℕ) → count ≡ length (noted_word ps bs k) → Writing ps bs k old k count old
writing_begun ps bs k count old e =
    let w = noted_word ps bs k in
    record {
      within = omega arith;
      before = e;
      behind = sym (ap (λ (l : List ℕ). w ++ l) (ap (λ (n : ℕ). drop n w) e ∙ drop-length w) ∙ append-nil w);
      holds = filled_none old w count e;
      same_length = refl;
    }

-- one action more
module _ (ps bs : List ℕ) (k : ℕ) (old : List ℕ) (F : Falling ps k) (room : length (noted_word ps bs k) ≤ length old) where
  pub left_some : (at left : ℕ) (out : List ℕ) → Writing ps bs k old at left out → 0 < at → (0 < left) × (left ≤ length out)
  left_some at left out W p =
      let l = W.within in
      let n = word_length ps bs k at F p l in
      let m = ap length W.behind ∙ length-append (noted_word ps bs at) (drop left (noted_word ps bs k)) in
      (omega (arith, W.before), omega (arith, W.before, W.same_length))

  pub writing_more : (at left : ℕ) (out : List ℕ) → Writing ps bs k old at left out → 0 < at
      → Writing ps bs k old (get_or ps at 0) (left - 1) (set out (left - 1) (get_or bs at 0))
  writing_more at left out W p =
      let l = W.within in
      let w = noted_word ps bs k in
      let v = noted_word ps bs (get_or ps at 0) in
      let b = get_or bs at 0 in
      let n = word_length ps bs k at F p l in
      let e : left - 1 ≡ length v = omega (arith, W.before) in
      let s : suc (left - 1) ≡ left = omega (arith, W.before) in
      let f = F at p l in
      -- the word, cut before and behind this action
      let c : noted_word ps bs k ≡ v ++ (b ∷ drop left w) =
      W.behind ∙ ap (λ (u : List ℕ). u ++ drop left w) (word_more ps bs k at F p l) ∙ append_assoc v (b ∷ []) (drop left w) in
      let d : drop (left - 1) w ≡ b ∷ drop left w = ap (drop (left - 1)) c ∙ drop_at v (b ∷ drop left w) (left - 1) (sym e) in
      let g : get_or w (left - 1) 0 ≡ b = ap (λ (u : List ℕ). get_or u (left - 1) 0) c ∙ get_or_at v b (drop left w) 0 (left - 1) (sym e) in
      let m = ap length c ∙ length-append v (b ∷ drop left w) in
      record {
        within = omega arith;
        before = e;
        behind = c ∙ ap (λ (u : List ℕ). v ++ u) (sym d);
        holds =
            ap (λ (u : List ℕ). set u (left - 1) b) (W.holds ∙ ap (filled old w) (sym s))
            ∙ filled_more old w (left - 1) b (omega arith) room g;
        same_length = length-set out (left - 1) b ∙ W.same_length;
      }

  pub writing_done : (at left : ℕ) (out : List ℕ) → Writing ps bs k old at left out → at ≡ 0 → out ≡ overwrite (noted_word ps bs k) old
  writing_done at left out W e =
      let z : left ≡ 0 = W.before ∙ ap (λ (j : ℕ). length (noted_word ps bs j)) e ∙ ap length (word_none ps bs) in
      W.holds ∙ ap (filled old (noted_word ps bs k)) z ∙ filled_all old (noted_word ps bs k)
