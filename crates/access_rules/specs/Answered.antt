-- What is promised of every call, on the bytes of a sheet: when a way is given, what is then written, where it leads, and what is refused.
use Rattle.std.specs.Prelude.{◌≡◌, List, ℕ, suc, ◌-◌, ◌≤◌, ◌<◌, length, take, drop, None, Result, Ok}
use Rattle.answer_rules.specs.declared.Refusal.{Refusal}
use Rattle.sheet_rules.specs.Decode.{decode}
use Rattle.sheet_rules.specs.Check.{sheet_check}
use Rattle.sheet_rules.specs.RunSheet.{sheet_ran}
use Rattle.making_rules.specs.Making.{written_by}
use Rattle.making_rules.specs.Claims.{made, list_left, block_count, InListed}
use Rattle.access_rules.specs.Access.{end_of, way_to, way_checks, answered_by, IsWay}

-- what a call answers for block k of the sheet s, and what the buffer then holds that held old before
abbrev pub answered : List ℕ → ℕ → List ℕ → Result ℕ Refusal
answered s k old = answered_by (way_checks s k (length old)) (way_to (decode s) k)

abbrev pub left : List ℕ → ℕ → List ℕ → List ℕ
left s k old = written_by (way_checks s k (length old)) (way_to (decode s) k) old

-- What is promised where a way of l actions is given and the buffer holds new after it.
pub record Answers (s : List ℕ) (k l : ℕ) (old new : List ℕ) : Type 0 where
  -- the sheet is accepted and has at most 255 blocks, k among them, and the buffer has a byte for each of the others
  pub accepts : sheet_check s ≡ Ok tt
  pub few : block_count s ≤ 255
  pub known : k < block_count s
  pub room : block_count s - 1 ≤ length old
  -- the first l bytes are the way to the block, and no other byte is written
  pub long : length (take l new) ≡ l
  pub way : IsWay (decode s) k (take l new)
  pub behind : drop l new ≡ drop l old
  -- a run of it on the sheet bars nothing,
  pub runs : (room : ℕ) → l < room → sheet_ran s (take l new) room ≡ Ok (record { entries = suc l; barred = None })
  -- and it ends inside the box that record k of the box list holds, as read from the bytes that any making of the sheet writes
  pub ends_in_box : (chart list : List ℕ) (n : ℕ) → made s chart list ≡ Ok n → InListed s (list_left s chart list) k (end_of (decode s) (take l new))
