-- Bytes of which only the front and the length are at hand.
use Rattle.std.specs.Prelude.{◌≡◌, ℕ, List, length, take, None, Some}
use Rattle.fmp_headers.specs.CapsuleHeader.{image_size}
use Rattle.capsule_grammar.specs.declared.refusal.Why.{Why}
use Rattle.capsule_grammar.specs.declared.value.Capsule.{Capsule}
use Rattle.capsule_grammar.specs.Fits.{BeginsWith}
use Rattle.capsule_grammar.specs.Reading.{capsule_of}
use Rattle.capsule_grammar.specs.Refusals.{refusal}

-- bytes of this length, of which these are the front
pub record Begins (front : List ℕ) (size : ℕ) (bytes : List ℕ) : Type 0 where
  pub same : take (length front) bytes ≡ front
  pub long : length bytes ≡ size

-- the bytes are not refused, and begin with the capsule that is read from them and with no other
pub record IsAccepted (bytes : List ℕ) : Type 0 where
  pub accepted : refusal bytes ≡ None
  pub begins : BeginsWith (capsule_of bytes) (image_size bytes) bytes
  pub only : (c : Capsule) (n : ℕ) → BeginsWith c n bytes →
      (c ≡ capsule_of bytes) × (n ≡ image_size bytes)

-- the bytes are refused at this place for this cause, and begin with no capsule
pub record IsRefusedOnce (bytes : List ℕ) : Type 0 where
  pub at : ℕ
  pub why : Why
  pub refused : refusal bytes ≡ Some (at, why)
  pub none : (c : Capsule) (n : ℕ) → BeginsWith c n bytes → ⊥
