-- The bytes of one operation.
use Rattle.std.proofs.Common.{◌≡◌, ℕ, suc, ◌+◌, ◌-◌, ◌<◌, ◌≤◌, Bool, true, false, cond, ◌==◌}
use Rattle.std.proofs.Common.{IsTrue, List, [], ◌∷◌, ◌++◌, length, take, drop, refl, ap, ◌∙◌, ◌||◌}
use Rattle.std.proofs.Common.{add_comm, add-one, arith}
use Rattle.std.proofs.lemmas.List.{length-take}
use Rattle.std.specs.List.{list_all}
use Rattle.std.proofs.lemmas.Bool.Decides.{nat_tests}
use Rattle.cu_base.specs.Bytes.{IsBytes}
use Rattle.cu_base.specs.Fields.{number, number_at, bytes_of}
use Rattle.cu_base.proofs.Fields.{IsBytes-rest, IsBytes-take, bytes_of-number}
use Rattle.dep_code.specs.Operations.{is_nonzero}
use Rattle.dep_code.specs.Refusals.{first_byte, op_size, text_size}

four : (bytes : List ℕ) → IsBytes bytes → 4 ≤ length bytes
    → bytes_of 4 (number (take 4 bytes)) ≡ take 4 bytes
four bytes is long =
    let size : 4 ≡ length (take 4 bytes) = omega (arith, length-take 4 bytes) in
    ap (λ (n : ℕ). bytes_of n (number (take 4 bytes))) size
    ∙ bytes_of-number (take 4 bytes) (IsBytes-take 4 bytes is)

-- an operation whose operand is a number
number_op : (rest : List ℕ) (code n size : ℕ) → IsBytes rest → size ≤ length rest
    → first_byte rest ≡ code → n ≡ number_at rest 1 4 → size ≡ 5 → code
    ∷ bytes_of 4 n ≡ take size rest
number_op [] code n size is long first e five = absurd (omega arith)
number_op (b ∷ bytes) code n size is long first e five =
    rw (five, e, ← first, four bytes (IsBytes-rest b bytes is) (omega arith)) refl

size_of : (rest : List ℕ) (code : ℕ) → first_byte rest ≡ code
    → op_size rest ≡ cond (code == 0) 17
    (cond (code == 2) (text_size (drop 1 rest) + 2) (cond ((code == 1) || (code == 14)) 5 1))
size_of rest code e = rw e refl

pub version_op : (rest : List ℕ) (n size : ℕ) → IsBytes rest → first_byte rest ≡ 1
    → size ≡ op_size rest → size ≤ length rest → n ≡ number_at rest 1 4 → 1
    ∷ bytes_of 4 n ≡ take size rest
version_op rest n size is first e there number =
    number_op rest 1 n size is there first number (e ∙ size_of rest 1 first)

pub declare_op : (rest : List ℕ) (n size : ℕ) → IsBytes rest → first_byte rest ≡ 14
    → size ≡ op_size rest → size ≤ length rest → n ≡ number_at rest 1 4 → 14
    ∷ bytes_of 4 n ≡ take size rest
declare_op rest n size is first e there number =
    number_op rest 14 n size is there first number (e ∙ size_of rest 14 first)

-- a text up to its zero byte
nonzero_more : (b : ℕ) (bytes : List ℕ) (nonzero : Bool) → is_nonzero b ≡ nonzero
    → IsTrue (list_all is_nonzero (take (text_size bytes) bytes))
    → IsTrue (list_all is_nonzero (take (cond nonzero (1 + text_size bytes) 0) (b ∷ bytes)))
nonzero_more b bytes true e h = rw (add_comm 1 (text_size bytes), add-one, e) h
nonzero_more b bytes false e h = refl

pub text_nonzero : (bytes : List ℕ) → IsTrue (list_all is_nonzero (take (text_size bytes) bytes))
text_nonzero [] = refl
text_nonzero (b ∷ bytes) = nonzero_more b bytes (is_nonzero b) refl (text_nonzero bytes)

zero_more : (b : ℕ) (bytes : List ℕ) (nonzero : Bool) → is_nonzero b ≡ nonzero
    → cond nonzero (1 + text_size bytes) 0 < 1 + length bytes
    → (text_size bytes < length bytes → take (text_size bytes) bytes ++ 0
    ∷ [] ≡ take (text_size bytes + 1) bytes)
    → take (cond nonzero (1 + text_size bytes) 0) (b ∷ bytes) ++ 0
    ∷ [] ≡ take (cond nonzero (1 + text_size bytes) 0 + 1) (b ∷ bytes)
zero_more b bytes true e long h =
    let below : text_size bytes < length bytes = omega arith in
    let more : 1 + text_size bytes + 1 ≡ suc (text_size bytes + 1) = omega arith in
    let one : 1 + text_size bytes ≡ suc (text_size bytes) = omega arith in
    rw (more, one) (ap (λ (l : List ℕ). b ∷ l) (h below))
zero_more b bytes false e long h =
    let zero : b ≡ 0 = grind (arith, nat_tests) in
    rw zero refl

pub text_zero : (bytes : List ℕ) → text_size bytes < length bytes → take (text_size bytes) bytes
    ++ 0 ∷ [] ≡ take (text_size bytes + 1) bytes
text_zero [] long = absurd (omega arith)
text_zero (b ∷ bytes) long = zero_more b bytes (is_nonzero b) refl (omega arith) (text_zero bytes)

text_more : (b : ℕ) (bytes text : List ℕ) (size : ℕ) → b ≡ 2 → size ≡ text_size bytes + 2
    → size ≤ 1 + length bytes → text ≡ take (size - 1 - 1) bytes → 2
    ∷ (text ++ 0 ∷ []) ≡ take size (b ∷ bytes)
text_more b bytes text size first e there is =
    let low : size - 1 - 1 ≡ text_size bytes = omega arith in
    let high : size ≡ suc (text_size bytes + 1) = omega arith in
    rw (is, low, high, first) (ap (λ (l : List ℕ). 2 ∷ l) (text_zero bytes (omega arith)))

pub text_op : (rest text : List ℕ) (size : ℕ) → first_byte rest ≡ 2 → size ≡ op_size rest
    → size ≤ length rest → text ≡ take (size - 1 - 1) (drop 1 rest) → 2
    ∷ (text ++ 0 ∷ []) ≡ take size rest
text_op [] text size first e there is = absurd (omega arith)
text_op (b ∷ bytes) text size first e there is =
    text_more b bytes text size first (e ∙ size_of (b ∷ bytes) 2 first) (omega arith) is

pub text_form : (rest text : List ℕ) (size : ℕ) → first_byte rest ≡ 2 → size ≡ op_size rest
    → text ≡ take (size - 1 - 1) (drop 1 rest) → IsTrue (list_all is_nonzero text)
text_form rest text size first e is =
    let whole : size ≡ text_size (drop 1 rest) + 2 = e ∙ size_of rest 2 first in
    let low : size - 1 - 1 ≡ text_size (drop 1 rest) = omega arith in
    rw (is, low) (text_nonzero (drop 1 rest))
