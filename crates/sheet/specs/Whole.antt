-- The whole check, as the code goes through its stages.
use Rattle.std.specs.Prelude.{◌≡◌, ◌&&◌, List, ℕ, ◌≤◌, leb, length, take, Ok}
use Rattle.std.proofs.Common.{leb-true}
use Rattle.systems.proofs.Laws.{is_true, both}
use Rattle.answer_rules.specs.declared.Reason.TheVariants.{Header, Count}
use Rattle.answer_rules.specs.Refusal.{Checked, at}
use Rattle.answer_rules.specs.Stages.{and_then, demand, each}
use Rattle.answer_rules.proofs.Stages.{then_fine}
use Rattle.sheet_rules.specs.Layout.{sheet_mark, version_of, counters_of, actions_of, regions_of}
use Rattle.sheet_rules.specs.Form.{same_bytes, from_to, check_header, check_counts, check_limits}
use Rattle.sheet_rules.specs.Check.{check_label, check_overlap, check_start, check_landing}
use Rattle.sheet_rules.proofs.Accepted.{between, demanded}

-- 4 to 8
unfoldable pub contents_check : List ℕ → Checked
contents_check s =
    and_then (check_limits s)
    (and_then (each (check_label s) (regions_of s))
    (and_then (each (check_overlap s) (regions_of s)) (and_then (check_start s) (each (λ i. each (check_landing s i) (actions_of s)) (regions_of s)))))

-- what 1 and 2 leave
pub header_long : (s : List ℕ) → check_header s ≡ Ok tt → 9 ≤ length s
unfolding check_header
header_long s e =
    let t = ((both (leb 9 (length s)) (same_bytes (take 3 s) sheet_mark && from_to 1 2 (version_of s))).0 (demanded _ (at Header 0) e)).0 in
    leb-true 9 (length s) (is_true (leb 9 (length s)) t)

pub counts_few : (s : List ℕ) → check_counts s ≡ Ok tt → (counters_of s ≤ 3) × (actions_of s ≤ 8) × (regions_of s ≤ 32)
unfolding check_counts
counts_few s e =
    let (a, r) = then_fine (demand (from_to 1 3 (counters_of s)) (at Count 5)) _ e in
    let (b, c) = then_fine (demand (from_to 1 8 (actions_of s)) (at Count 6)) (demand (from_to 1 32 (regions_of s)) (at Count 7)) r in
    ((between 1 3 (counters_of s) (demanded _ (at Count 5) a)).1, (between 1 8 (actions_of s) (demanded _ (at Count 6) b)).1, (between 1 32 (regions_of s) (demanded _ (at Count 7) c)).1)
