-- Answers as C sees them: document 01's number of a refusal, 0 where it was done, and what is returned.
use Rattle.std.specs.Prelude.{◌≡◌, refl, ℕ, ℤ}
use Rattle.std.proofs.Common.{eq-eqb, ne_eqb}
use Rattle.model.specs.declared.Rule.TheVariants.{Set, Carry}
use Rattle.c_answers.specs.Exports.{rule_from}

pub from_carry : (kind : ℕ) (factor offset : ℤ) → kind ≡ 1 → Carry 0 factor offset ≡ rule_from kind factor offset
unfolding rule_from
from_carry kind factor offset e = rw (eq-eqb kind 1 e, rule_from) refl

pub from_other : (kind : ℕ) (factor offset : ℤ) → (kind ≡ 1 → ⊥) → Set offset ≡ rule_from kind factor offset
unfolding rule_from
from_other kind factor offset e = rw (ne_eqb kind 1 e, rule_from) refl
