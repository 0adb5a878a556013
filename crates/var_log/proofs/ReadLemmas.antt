-- The changes of a body, read one behind another.
use Rattle.std.proofs.Common.{◌≡◌, ℕ, zero, suc, ◌<◌, ◌≤◌, List, [], ◌∷◌, ◌++◌, length, drop}
use Rattle.std.proofs.Common.{get_or, refl}
use Rattle.std.proofs.Common.{sym, ap, ◌∙◌, arith, true, false, Option, Some, None, option_map}
use Rattle.std.proofs.Common.{nat_lt, nat_eq}
use Rattle.std.proofs.Common.{append_assoc, cond, ◌&&◌, ◌+◌, nat_le, Bool}
use Rattle.std.proofs.lemmas.Bool.{leb-true, lt-ltb}
use Rattle.std.proofs.lemmas.Bool.Decides.{nat_tests}
use Rattle.std.proofs.lemmas.List.{append-nil}
use Rattle.std.specs.List.{list_all, All}
use Rattle.std.specs.Str.{IsUtf8}
use Rattle.std.proofs.lemmas.Str.{IsUtf8-from_ascii}
use Rattle.std.proofs.lemmas.Str.Ascii.{IsAscii-from_all}
use Rattle.cu_base.specs.Fields.{field, number_at}
use Rattle.var_log.specs.declared.change.Change.{Change}
use Rattle.var_log.specs.declared.change.Change.TheVariants.{Set, Delete}
use Rattle.var_log.specs.declared.limits.TheConstants.{MAX_DATA, MAX_NAME}
use Rattle.var_log.specs.Changes.{is_name, is_name_byte}
use Rattle.var_log.specs.Records.{first_change, changes_from, changes_in}
use Rattle.var_log.proofs.Spelled.{and_first, and_second}

below : (b : ℕ) → is_name_byte b ≡ true → b < 128
below b h = omega (arith, leb-true _ _ (and_second (nat_le 0x21 b) _ h))

each_below : (b : ℕ) (bytes : List ℕ) → b < 128 → All (λ x. x < 128) bytes → All (λ x. x < 128) (b ∷ bytes)
each_below b bytes low rest zero d within = low
each_below b bytes low rest (suc k) d within = rest k d (omega arith)

ascii_names : (bytes : List ℕ) → list_all is_name_byte bytes ≡ true → All (λ b. b < 128) bytes
ascii_names [] h = λ k d within. absurd (omega arith)
ascii_names (b ∷ bytes) h =
    each_below b bytes (below b (and_first (is_name_byte b) _ h))
    (ascii_names bytes (and_second (is_name_byte b) _ h))

-- a name is text
pub name_is_text : (name : List ℕ) → is_name name ≡ true → IsUtf8 name
name_is_text name is =
    IsUtf8-from_ascii name (IsAscii-from_all name (ascii_names name
    (and_second (nat_le 1 (length name) && nat_le (length name) MAX_NAME) (list_all is_name_byte name) is)))

-- ---- the changes of a body

pub short_body : (body : List ℕ) → length body < 2 → changes_in body ≡ None
unfolding changes_in
short_body body short = rw (lt-ltb _ _ short) refl

pub body_begins : (body : List ℕ) → 2 ≤ length body
    → changes_in body ≡ changes_from (number_at body 0 2) (drop 2 body)
unfolding changes_in
body_begins body long =
    let test : nat_lt (length body) 2 ≡ false = grind (arith, nat_tests) in rw test refl

pub nothing_more : (n : ℕ) (bytes : List ℕ) → first_change bytes ≡ None → changes_from (suc n) bytes ≡ None
unfolding changes_from
nothing_more n bytes none = rw none refl

pub one_change : (n : ℕ) (bytes rest : List ℕ) (c : Change) → first_change bytes ≡ Some (c, rest)
    → changes_from (suc n) bytes ≡ option_map (λ (cs : List Change). c ∷ cs) (changes_from n rest)
unfolding changes_from
one_change n bytes rest c first = rw first refl

joined : (o : Option (List Change)) (xs : List Change) (c : Change)
    → option_map (λ (cs : List Change). xs ++ cs) (option_map (λ (cs : List Change). c ∷ cs) o)
    ≡ option_map (λ (cs : List Change). (xs ++ c ∷ []) ++ cs) o
joined None xs c = refl
joined (Some cs) xs c = ap Some (sym (append_assoc xs (c ∷ []) cs))

pub change_more : (n : ℕ) (bytes rest : List ℕ) (c : Change) (xs : List Change)
    → first_change bytes ≡ Some (c, rest)
    → option_map (λ (cs : List Change). xs ++ cs) (changes_from (suc n) bytes)
    ≡ option_map (λ (cs : List Change). (xs ++ c ∷ []) ++ cs) (changes_from n rest)
change_more n bytes rest c xs first =
    ap (option_map (λ (cs : List Change). xs ++ cs)) (one_change n bytes rest c first)
    ∙ joined (changes_from n rest) xs c

pub body_ends : (bytes : List ℕ) → bytes ≡ [] → changes_from 0 bytes ≡ Some []
unfolding changes_from
body_ends bytes is = rw is refl

pub body_goes_on : (bytes : List ℕ) → 0 < length bytes → changes_from 0 bytes ≡ None
unfolding changes_from
body_goes_on [] some = absurd (omega arith)
body_goes_on (b ∷ bytes) some = refl

-- ---- one change

-- what stands at the front of bytes as a set
pub set_case : (bytes : List ℕ) (n : ℕ) (a b c d : Bool) → get_or bytes 0 0 ≡ 1 → get_or bytes 1 0 ≡ n
    → nat_le (26 + n) (length bytes) ≡ a → is_name (field bytes 2 n) ≡ b
    → nat_le (number_at bytes (22 + n) 4) MAX_DATA ≡ c
    → nat_le (26 + n + number_at bytes (22 + n) 4) (length bytes) ≡ d
    → first_change bytes ≡ cond (a && b && c && d) (Some (
      Set (field bytes 2 n) (record { bytes = field bytes (2 + n) 16 }) (number_at bytes (18 + n) 4)
          (field bytes (26 + n) (number_at bytes (22 + n) 4)),
      drop (26 + n + number_at bytes (22 + n) 4) bytes,
    )) None
unfolding first_change
set_case bytes n a b c d kind long p q r s = rw (kind, long, p, q, r, s) refl

pub delete_case : (bytes : List ℕ) (n : ℕ) (a b : Bool) → get_or bytes 0 0 ≡ 2 → get_or bytes 1 0 ≡ n
    → nat_le (18 + n) (length bytes) ≡ a → is_name (field bytes 2 n) ≡ b
    → first_change bytes ≡ cond (a && b) (Some (
      Delete (field bytes 2 n) (record { bytes = field bytes (2 + n) 16 }),
      drop (18 + n) bytes,
    )) None
unfolding first_change
delete_case bytes n a b kind long p q = rw (kind, long, p, q) refl

pub no_kind : (bytes : List ℕ) → nat_eq (get_or bytes 0 0) 1 ≡ false → nat_eq (get_or bytes 0 0) 2 ≡ false
    → first_change bytes ≡ None
unfolding first_change
no_kind bytes one two = rw (one, two) refl

pub leb-no : (a b : ℕ) → b < a → nat_le a b ≡ false
leb-no a b h = grind (arith, nat_tests)

pub is_no : (b : Bool) → (b ≡ true → ⊥) → b ≡ false
is_no true h = absurd (h refl)
is_no false h = refl

-- the parts of a set, and what is behind it
pub as_set : (name g v rest : List ℕ) (a : ℕ) (n1 g1 v1 r1 : List ℕ) (a1 : ℕ)
    → n1 ≡ name → g1 ≡ g → v1 ≡ v → r1 ≡ rest → a1 ≡ a
    → (let p : Change × List ℕ = (Set n1 (record { bytes = g1 }) a1 v1, r1) in p)
    ≡ (Set name (record { bytes = g }) a v, rest)
as_set name g v rest a n1 g1 v1 r1 a1 p q r s t = rw (p, q, r, s, t) refl

pub as_delete : (name g rest n1 g1 r1 : List ℕ) → n1 ≡ name → g1 ≡ g → r1 ≡ rest
    → (let p : Change × List ℕ = (Delete n1 (record { bytes = g1 }), r1) in p)
    ≡ (Delete name (record { bytes = g }), rest)
as_delete name g rest n1 g1 r1 p q r = rw (p, q, r) refl

tiny_case : (bytes : List ℕ) (a b : Bool) → nat_eq (get_or bytes 0 0) 1 ≡ a → nat_eq (get_or bytes 0 0) 2 ≡ b
    → nat_le (26 + get_or bytes 1 0) (length bytes) ≡ false
    → nat_le (18 + get_or bytes 1 0) (length bytes) ≡ false → first_change bytes ≡ None
unfolding first_change
tiny_case bytes true true p q r s = rw (p, r, q, s) refl
tiny_case bytes true false p q r s = rw (p, r, q) refl
tiny_case bytes false true p q r s = rw (p, q, s) refl
tiny_case bytes false false p q r s = rw (p, q) refl

-- fewer than two bytes are no change
pub tiny : (bytes : List ℕ) → length bytes < 2 → first_change bytes ≡ None
tiny bytes short =
    let one : nat_le (26 + get_or bytes 1 0) (length bytes) ≡ false = leb-no _ _ (omega (arith, short)) in
    let two : nat_le (18 + get_or bytes 1 0) (length bytes) ≡ false = leb-no _ _ (omega (arith, short)) in
    tiny_case bytes (nat_eq (get_or bytes 0 0) 1) (nat_eq (get_or bytes 0 0) 2) refl refl one two

pub all_read : (xs : List Change) (bytes : List ℕ) (b : Bool) → b ≡ nat_eq (length bytes) 0
    → option_map (λ (cs : List Change). xs ++ cs) (changes_from 0 bytes) ≡ cond b (Some xs) None
all_read xs [] b is =
    ap (option_map (λ (cs : List Change). xs ++ cs)) (body_ends [] refl)
    ∙ ap Some (append-nil xs) ∙ ap (λ (t : Bool). cond t (Some xs) None) (sym is)
all_read xs (x ∷ bytes) b is =
    let no : nat_eq (length (x ∷ bytes)) 0 ≡ false = grind (arith, nat_tests) in
    ap (option_map (λ (cs : List Change). xs ++ cs)) (body_goes_on (x ∷ bytes) (omega arith))
    ∙ ap (λ (t : Bool). cond t (Some xs) None) (sym (is ∙ no))
