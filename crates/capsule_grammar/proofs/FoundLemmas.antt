-- Where a capsule is spelled no refusal comes.
use Rattle.std.proofs.Common.{◌≡◌, ℕ, ◌++◌, List, length, drop, Option, Some, None, Result}
use Rattle.std.proofs.Common.{Ok, Err, IfOk, refl, sym, ap, ◌∙◌, ◌⊎◌, inl, inr}
use Rattle.std.proofs.lemmas.List.{take-append-drop}
use Rattle.cu_base.specs.Bytes.{IsBytes}
use Rattle.cu_base.specs.Refusals.{AnswersBy}
use Rattle.fmp_headers.specs.CapsuleHeader.{image_size}
use Rattle.capsule_grammar.specs.declared.faults.DecodeFault.{DecodeFault}
use Rattle.capsule_grammar.specs.declared.faults.DecodeFault.TheVariants.{Refused, Memory}
use Rattle.capsule_grammar.specs.declared.refusal.Why.{Why}
use Rattle.capsule_grammar.specs.declared.value.Capsule.{Capsule}
use Rattle.capsule_grammar.specs.Faults.{IsFound, told_by}
use Rattle.capsule_grammar.specs.Fits.{BeginsWith}
use Rattle.capsule_grammar.specs.Fronts.{IsAccepted, IsRefusedOnce}
use Rattle.capsule_grammar.specs.Reading.{capsule_of}
use Rattle.capsule_grammar.specs.Refusals.{refusal}
use Rattle.capsule_grammar.specs.Spelling.{spelling}
use Rattle.capsule_grammar.proofs.Read.{read_is_capsule, read_is_spelled, read_length}
use Rattle.capsule_grammar.proofs.Spelled.{spelled_is_read, spelled_reads_back}

-- the bytes are the spelling and what stands behind it
parts : (c : Capsule) (size : ℕ) (bytes : List ℕ) → BeginsWith c size bytes → spelling c
    ++ drop size bytes ≡ bytes
parts c size bytes h = ap (λ (l : List ℕ). l ++ drop size bytes) (sym h.spelled)
    ∙ take-append-drop size bytes

pub not_refused : (c : Capsule) (size : ℕ) (bytes : List ℕ) → BeginsWith c size bytes
    → refusal bytes ≡ None
not_refused c size bytes h = ap refusal (sym (parts c size bytes h))
    ∙ spelled_is_read c (drop size bytes) h.capsule

pub is_read : (c : Capsule) (size : ℕ) (bytes : List ℕ) → BeginsWith c size bytes
    → capsule_of bytes ≡ c
is_read c size bytes h = ap capsule_of (sym (parts c size bytes h))
    ∙ spelled_reads_back c (drop size bytes) h.capsule

-- one front has one capsule and one length
pub one_front : (a b : Capsule) (m n : ℕ) (bytes : List ℕ) → BeginsWith a m bytes
    → BeginsWith b n bytes → (a ≡ b) × (m ≡ n)
one_front a b m n bytes ha hb =
    let same = sym (is_read a m bytes ha) ∙ is_read b n bytes hb in
    (same, ha.size ∙ ap (λ (c : Capsule). length (spelling c)) same ∙ sym hb.size)

pub both : (refused : Option (ℕ × Why)) (r : ℕ × Why) → refused ≡ Some r → refused ≡ None → ⊥
both None r some none = absurd cc
both (Some s) r some none = absurd cc

pub found_only : (bytes : List ℕ) (result : Result (Capsule × ℕ) DecodeFault)
    → IfOk result (λ x. BeginsWith x.0 x.1 bytes) → AnswersBy told_by result (refusal bytes)
    → (c : Capsule) (size : ℕ) → BeginsWith c size bytes → IsFound c size result
found_only bytes (Ok x) is answers c size h = one_front x.0 c x.1 size bytes is h
found_only bytes (Err (Refused r)) is answers c size h =
    both (refusal bytes) (r.at, r.why) answers (not_refused c size bytes h)
found_only bytes (Err Memory) is answers c size h = tt

-- ---- each list of bytes

decided_by : (bytes : List ℕ) (r : Option (ℕ × Why)) → IsBytes bytes → refusal bytes ≡ r
    → IsAccepted bytes ⊎ IsRefusedOnce bytes
decided_by bytes None is e =
    let begins : BeginsWith (capsule_of bytes) (image_size bytes) bytes = record {
      capsule = read_is_capsule bytes is e;
      size = sym (read_length bytes is e);
      spelled = sym (read_is_spelled bytes is e);
    } in
    inl (record {
      accepted = e;
      begins = begins;
      only = λ c n h. one_front c (capsule_of bytes) n (image_size bytes) bytes h begins;
    })
decided_by bytes (Some r) is e =
    inr (record {
      at = r.0;
      why = r.1;
      refused = e;
      none = λ c n h. both (refusal bytes) r e (not_refused c n bytes h);
    })

pub accepted_or_refused : (bytes : List ℕ) → IsBytes bytes → IsAccepted bytes ⊎ IsRefusedOnce bytes
accepted_or_refused bytes is = decided_by bytes (refusal bytes) is refl
