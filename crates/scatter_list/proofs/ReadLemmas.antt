-- What a read of memory tells of the bytes from an address on.
use Rattle.std.proofs.Common.{◌≡◌, ℕ, zero, suc, ◌+◌, ◌<◌, ◌≤◌, ◌&&◌, Bool, true, false, List, []}
use Rattle.std.proofs.Common.{◌∷◌, ◌++◌, length, take, None, is_some, refl, sym}
use Rattle.std.proofs.Common.{ap, ◌∙◌, add-one, arith, inl, inr, append_assoc, append-nil, true≢false, ◌-◌, ◌^◌, subst}
use Rattle.std.proofs.lemmas.Bool.{cases_lt}
use Rattle.std.proofs.lemmas.List.{take_more, take_all}
use Rattle.cu_base.specs.Fields.{number_at}
use Rattle.bench_model.specs.declared.segment.Segment.{Segment}
use Rattle.bench_model.specs.Memory.{byte_at, IsThere, IsLacking}
use Rattle.scatter_list.specs.Coalesced.{IsPiece}
use Rattle.scatter_list.specs.Descriptors.{IsDescriptor}
use Rattle.scatter_list.specs.Reads.{is_whole, bytes_from, byte_or_zero}
use Rattle.scatter_list.specs.declared.descriptor.Descriptor.{Descriptor}

whole_by : (memory : List Segment) (at n : ℕ)
    → ((k : ℕ) → k < n → is_some (byte_at memory (at + k)) ≡ true) → is_whole memory at n ≡ true
unfolding is_whole
whole_by memory at zero each = refl
whole_by memory at (suc n) each =
    rw (whole_by memory at n (λ k less. each k (omega arith))) (each n (omega arith))

-- the bytes that a read gave are all there
pub there_whole : (memory : List Segment) (at : ℕ) (bytes : List ℕ) → IsThere memory at bytes
    → is_whole memory at (length bytes) ≡ true
there_whole memory at bytes there =
    whole_by memory at (length bytes) (λ k less. ap is_some (there.each k less))

bytes_by : (memory : List Segment) (at : ℕ) (bytes : List ℕ) (n : ℕ) → n ≤ length bytes
    → IsThere memory at bytes → bytes_from memory at n ≡ take n bytes
unfolding bytes_from
bytes_by memory at bytes zero within there = refl
bytes_by memory at bytes (suc n) within there =
    ap (λ xs. xs ++ byte_or_zero (byte_at memory (at + n)) ∷ [])
    (bytes_by memory at bytes n (omega arith) there)
    ∙ ap (λ b. take n bytes ++ byte_or_zero b ∷ []) (there.each n (omega arith))
    ∙ sym (take_more bytes n 0 (omega arith)) ∙ ap (λ k. take k bytes) (add-one n)

-- the bytes that a read gave are those from the address on
pub there_bytes : (memory : List Segment) (at : ℕ) (bytes : List ℕ) → IsThere memory at bytes
    → bytes_from memory at (length bytes) ≡ bytes
there_bytes memory at bytes there =
    bytes_by memory at bytes (length bytes) (omega arith) there
    ∙ take_all (length bytes) bytes (omega arith)

and_false : (b : Bool) → (b && false) ≡ false
and_false true = refl
and_false false = refl

and_true : (a b : Bool) → (a && b) ≡ true → (a ≡ true) × (b ≡ true)
and_true true true e = (refl, refl)
and_true true false e = absurd (true≢false (sym e))
and_true false b e = absurd (true≢false (sym e))

lacking_by : (memory : List Segment) (at n k : ℕ) → k < n → byte_at memory (at + k) ≡ None
    → is_whole memory at n ≡ false
unfolding is_whole
lacking_by memory at zero k less gone = let no : ⊥ = omega arith in absurd no
lacking_by memory at (suc n) k less gone = elim (cases_lt k n) [
  | inl before ↦ rw (lacking_by memory at n k before gone) refl
  | inr at_least ↦
      let last : k ≡ n = omega arith in
      ap (λ b. is_whole memory at n && b)
      (ap (λ i. is_some (byte_at memory (at + i))) (sym last) ∙ ap is_some gone)
      ∙ and_false (is_whole memory at n)
]

-- where a read gave nothing the bytes are not all there
pub not_whole : (memory : List Segment) (at n size : ℕ) → size ≡ n → IsLacking memory at size
    → is_whole memory at n ≡ false
not_whole memory at n size long lacks =
    lacking_by memory at n lacks.place (omega (arith, lacks.within, long)) lacks.gone

-- bytes that are missing behind the first so many
pub not_whole_behind : (memory : List Segment) (at n done size : ℕ) → done + size ≤ n
    → IsLacking memory (at + done) size → is_whole memory at n ≡ false
not_whole_behind memory at n done size within lacks =
    let place : at + done + lacks.place ≡ at + (done + lacks.place) = omega arith in
    lacking_by memory at n (done + lacks.place) (omega (arith, lacks.within))
    (ap (byte_at memory) (sym place) ∙ lacks.gone)

-- ---- bytes behind others

pub none_read : (memory : List Segment) (at : ℕ) → bytes_from memory at 0 ≡ []
unfolding bytes_from
none_read memory at = refl

pub none_whole : (memory : List Segment) (at : ℕ) → is_whole memory at 0 ≡ true
unfolding is_whole
none_whole memory at = refl

bytes_behind : (memory : List Segment) (at n m : ℕ)
    → bytes_from memory at (n + m) ≡ bytes_from memory at n ++ bytes_from memory (at + n) m
unfolding bytes_from
bytes_behind memory at n zero =
    let same : n + 0 ≡ n = omega arith in
    ap (bytes_from memory at) same ∙ sym (append-nil (bytes_from memory at n))
bytes_behind memory at n (suc m) =
    let more : n + suc m ≡ suc (n + m) = omega arith in
    let place : at + (n + m) ≡ at + n + m = omega arith in
    ap (bytes_from memory at) more
    ∙ ap (λ xs. xs ++ byte_or_zero (byte_at memory (at + (n + m))) ∷ []) (bytes_behind memory at n m)
    ∙ ap (λ i. (bytes_from memory at n ++ bytes_from memory (at + n) m)
    ++ byte_or_zero (byte_at memory i) ∷ []) place
    ∙ append_assoc (bytes_from memory at n) (bytes_from memory (at + n) m)
    (byte_or_zero (byte_at memory (at + n + m)) ∷ [])

pub whole_behind : (memory : List Segment) (at n m : ℕ) → is_whole memory at n ≡ true
    → is_whole memory (at + n) m ≡ true → is_whole memory at (n + m) ≡ true
unfolding is_whole
whole_behind memory at n zero first second =
    let same : n + 0 ≡ n = omega arith in
    ap (is_whole memory at) same ∙ first
whole_behind memory at n (suc m) first second =
    let more : n + suc m ≡ suc (n + m) = omega arith in
    let place : at + (n + m) ≡ at + n + m = omega arith in
    let parts = and_true (is_whole memory (at + n) m) (is_some (byte_at memory (at + n + m)))
    second in
    ap (is_whole memory at) more
    ∙ ap (λ b. b && is_some (byte_at memory (at + (n + m))))
    (whole_behind memory at n m first parts.0)
    ∙ ap (λ i. is_some (byte_at memory i)) place ∙ parts.1

-- a read that gave the piece
pub piece_read : (memory : List Segment) (at size : ℕ) (old new piece : List ℕ)
    → length piece ≡ size → IsThere memory at piece → new ≡ old ++ piece
    → IsPiece memory at size old new true
piece_read memory at size old new piece long there is = (
  is ∙ ap (λ xs. old ++ xs) (sym (there_bytes memory at piece there))
      ∙ ap (λ n. old ++ bytes_from memory at n) long,
  ap (is_whole memory at) (sym long) ∙ there_whole memory at piece there,
  omega (arith, there.end, long),
)

pub piece_gone : (memory : List Segment) (at size : ℕ) (old new : List ℕ) (b : Bool)
    → IsPiece memory at size old new b → b ≡ false → IsLacking memory at size
piece_gone memory at size old new true is gone = absurd (true≢false gone)
piece_gone memory at size old new false is gone = is

pub piece_there : (memory : List Segment) (at size : ℕ) (old new : List ℕ) (b : Bool)
    → IsPiece memory at size old new b → b ≡ true → IsPiece memory at size old new true
piece_there memory at size old new true is there = is
piece_there memory at size old new false is there = absurd (true≢false (sym there))

pub piece_bytes : (memory : List Segment) (at done size : ℕ) (whole out new : List ℕ)
    → out ≡ whole ++ bytes_from memory at done
    → new ≡ out ++ bytes_from memory (at + done) size
    → new ≡ whole ++ bytes_from memory at (done + size)
piece_bytes memory at done size whole out new so_far is =
    is ∙ ap (λ xs. xs ++ bytes_from memory (at + done) size) so_far
    ∙ append_assoc whole (bytes_from memory at done) (bytes_from memory (at + done) size)
    ∙ ap (λ xs. whole ++ xs) (sym (bytes_behind memory at done size))

-- what is known of the bytes so far after one piece more
pub record IsSoFar (memory : List Segment) (at done size : ℕ) (whole new : List ℕ) : Type 0 where
  pub bytes : new ≡ whole ++ bytes_from memory at (done + size)
  pub there : is_whole memory at (done + size) ≡ true
  pub end : at + done + size ≤ 2 ^ 64 - 1

pub piece_more : (memory : List Segment) (at done size count : ℕ) (whole out new : List ℕ)
    (b : Bool) → size ≡ count → out ≡ whole ++ bytes_from memory at done
    → is_whole memory at done ≡ true → IsPiece memory (at + done) size out new b → b ≡ true
    → IsSoFar memory at done count whole new
piece_more memory at done size count whole out new b long so_far there is holds =
    let piece = piece_there memory (at + done) size out new b is holds in
    subst (λ n. IsSoFar memory at done n whole new) long (record {
      bytes = piece_bytes memory at done size whole out new so_far piece.0;
      there = whole_behind memory at done size there (piece.1);
      end = piece.2;
    })

pub piece_less : (memory : List Segment) (at n done size count : ℕ) (out new : List ℕ) (b : Bool)
    → size ≡ count → done + count ≤ n → IsPiece memory (at + done) size out new b → b ≡ false
    → false ≡ is_whole memory at n
piece_less memory at n done size count out new b long within is gone =
    sym (not_whole_behind memory at n done size (omega (arith, long, within))
    (piece_gone memory (at + done) size out new b is gone))

-- the descriptor in the 16 bytes that a read gave
pub descriptor_there : (memory : List Segment) (at : ℕ) (bytes : List ℕ) (descriptor : Descriptor)
    → length bytes ≡ 16 → IsThere memory at bytes
    → descriptor.length ≡ number_at bytes 0 8 → descriptor.pointer ≡ number_at bytes 8 8
    → IsDescriptor memory at descriptor
descriptor_there memory at bytes descriptor long there size pointer =
    let same : bytes_from memory at 16 ≡ bytes =
    ap (bytes_from memory at) (sym long) ∙ there_bytes memory at bytes there in
    record {
      whole = ap (is_whole memory at) (sym long) ∙ there_whole memory at bytes there;
      size = size ∙ ap (λ b. number_at b 0 8) (sym same);
      pointer = pointer ∙ ap (λ b. number_at b 8 8) (sym same);
      end = omega (arith, there.end, long);
    }
