-- Numbers that pass the test of a byte are bytes, and the other way.
use Rattle.std.proofs.Common.{◌≡◌, ℕ, ◌<◌, true, nat_lt, List, [], ◌∷◌, refl}
use Rattle.std.specs.List.{AllByRecursion, list_all}
use Rattle.std.proofs.lemmas.Bool.{and_from, and_parts, lt-ltb, ltb-true}
use Rattle.cu_base.specs.Bytes.{IsBytes}
use Rattle.cu_base.proofs.Fields.{IsBytes-from, IsBytes-rest}

each_below : (bytes : List ℕ) → list_all (λ b. nat_lt b 256) bytes ≡ true
    → AllByRecursion (λ b. b < 256) bytes
each_below [] is = tt
each_below (b ∷ bytes) is =
    let both = and_parts (nat_lt b 256) (list_all (λ b. nat_lt b 256) bytes) is in
    (ltb-true b 256 both.0, each_below bytes both.1)

pub bytes_from : (bytes : List ℕ) → list_all (λ b. nat_lt b 256) bytes ≡ true → IsBytes bytes
bytes_from bytes is = IsBytes-from bytes (each_below bytes is)

pub bytes_pass : (bytes : List ℕ) → IsBytes bytes → list_all (λ b. nat_lt b 256) bytes ≡ true
bytes_pass [] is = refl
bytes_pass (b ∷ bytes) is =
    and_from (nat_lt b 256) (list_all (λ b. nat_lt b 256) bytes) (lt-ltb b 256 (is 0))
    (bytes_pass bytes (IsBytes-rest b bytes is))
