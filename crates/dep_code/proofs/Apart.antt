-- The bytes of an operation are read back, whatever follows them.
use Rattle.std.proofs.Common.{◌≡◌, ℕ, zero, suc, ◌+◌, ◌^◌, ◌<◌, ◌≤◌, Bool, true, false, not, ◌&&◌}
use Rattle.std.proofs.Common.{cond, ◌==◌, nat_lt, IsTrue, List, [], ◌∷◌, ◌++◌, length, take, drop}
use Rattle.std.proofs.Common.{Option, Some, None, refl, sym, ap, ◌∙◌, arith, append_assoc}
use Rattle.std.specs.List.{list_all}
use Rattle.std.proofs.lemmas.List.{take_at, drop_at, length-append}
use Rattle.std.proofs.lemmas.Bool.Decides.{nat_tests}
use Rattle.cu_base.specs.Fields.{number, bytes_of}
use Rattle.cu_base.specs.Refusals.{first_refusal}
use Rattle.cu_base.proofs.Fields.{number-bytes_of}
use Rattle.dep_code.specs.declared.limits.TheConstants.{MAX_SECTION_BYTES}
use Rattle.dep_code.specs.declared.op.Op.{Op}
use Rattle.dep_code.specs.declared.op.Op.TheVariants.{PushGuid, PushVersion, VersionStr, And, Or}
use Rattle.dep_code.specs.declared.op.Op.TheVariants.{Not, True, False, Eq, Gt, Gte, Lt, Lte, End}
use Rattle.dep_code.specs.declared.op.Op.TheVariants.{DeclareLength}
use Rattle.dep_code.specs.Operations.{opcode, op_bytes, HasForm, is_nonzero, is_declare}
use Rattle.dep_code.specs.Refusals.{first_byte, op_size, text_size, place_rows}
use Rattle.dep_code.specs.Sections.{may_follow}

-- the operation at the front
abbrev pub read_behind : ℕ → List ℕ → Op
read_behind code rest =
    cond (code == 0) (PushGuid (record { bytes = take 16 rest }))
    (cond (code == 1) (PushVersion (number (take 4 rest)))
    (cond (code == 2) (VersionStr (take (text_size rest) rest))
    (cond (code == 3) And
    (cond (code == 4) Or
    (cond (code == 5) Not
    (cond (code == 6) True
    (cond (code == 7) False
    (cond (code == 8) Eq
    (cond (code == 9) Gt
    (cond (code == 10) Gte
    (cond (code == 11) Lt
    (cond (code == 12) Lte
    (cond (code == 13) End
    (DeclareLength (number (take 4 rest))))))))))))))))

abbrev pub read_front : List ℕ → Op
read_front bytes = read_behind (first_byte bytes) (drop 1 bytes)

length_bytes : (size n : ℕ) → length (bytes_of size n) ≡ size
length_bytes zero n = refl
length_bytes (suc size) n = ap suc (length_bytes size _)

pub and_parts : (a b : Bool) → (a && b) ≡ true → (a ≡ true) × (b ≡ true)
and_parts true b e = (refl, e)
and_parts false b e = absurd cc

text_length : (text rest : List ℕ) → list_all is_nonzero text ≡ true
    → text_size (text ++ 0 ∷ rest) ≡ length text
text_length [] rest e = refl
text_length (b ∷ text) rest e =
    let parts = and_parts (is_nonzero b) (list_all is_nonzero text) e in
    rw (parts.0, text_length text rest parts.1) (omega arith)

pub text_front : (text rest : List ℕ) → IsTrue (list_all is_nonzero text)
    → text_size ((text ++ 0 ∷ []) ++ rest) ≡ length text
text_front text rest e = ap text_size (append_assoc text (0 ∷ []) rest) ∙ text_length text rest e

four_front : (n : ℕ) (rest : List ℕ) → n < 2 ^ 32 → number (take 4 (bytes_of 4 n ++ rest)) ≡ n
four_front n rest small = ap number (take_at (bytes_of 4 n) rest 4 (length_bytes 4 n))
    ∙ number-bytes_of 4 n small

pub read_back : (op : Op) (rest : List ℕ) → HasForm op → read_front (op_bytes op ++ rest) ≡ op
read_back (PushGuid guid) rest h =
    ap (λ (l : List ℕ). PushGuid (record { bytes = l })) (take_at guid.bytes rest 16 h)
read_back (PushVersion version) rest h = ap PushVersion (four_front version rest h)
read_back (VersionStr text) rest h =
    ap VersionStr
    (ap (λ (n : ℕ). take n ((text ++ 0 ∷ []) ++ rest)) (text_front text rest h)
    ∙ ap (take (length text)) (append_assoc text (0 ∷ []) rest)
    ∙ take_at text (0 ∷ rest) (length text) refl)
read_back And rest h = refl
read_back Or rest h = refl
read_back Not rest h = refl
read_back True rest h = refl
read_back False rest h = refl
read_back Eq rest h = refl
read_back Gt rest h = refl
read_back Gte rest h = refl
read_back Lt rest h = refl
read_back Lte rest h = refl
read_back End rest h = refl
read_back (DeclareLength size) rest h = ap DeclareLength (four_front size rest h)

pub size_back : (op : Op) (rest : List ℕ) → HasForm op
    → op_size (op_bytes op ++ rest) ≡ length (op_bytes op)
size_back (PushGuid guid) rest h = sym (ap suc h)
size_back (PushVersion version) rest h = sym (ap suc (length_bytes 4 version))
size_back (VersionStr text) rest h =
    omega (arith, text_front text rest h, length-append text (0 ∷ []))
size_back And rest h = refl
size_back Or rest h = refl
size_back Not rest h = refl
size_back True rest h = refl
size_back False rest h = refl
size_back Eq rest h = refl
size_back Gt rest h = refl
size_back Gte rest h = refl
size_back Lt rest h = refl
size_back Lte rest h = refl
size_back End rest h = refl
size_back (DeclareLength size) rest h = sym (ap suc (length_bytes 4 size))

-- one operation stands at the front
pub same_op : (x y : Op) (r s : List ℕ) → HasForm x → HasForm y → op_bytes x ++ r ≡ op_bytes y ++ s
    → (x ≡ y) × (r ≡ s)
same_op x y r s hx hy e =
    let same : x ≡ y = sym (read_back x r hx) ∙ ap read_front e ∙ read_back y s hy in
    let long : length (op_bytes x) ≡ length (op_bytes y) =
    ap (λ (o : Op). length (op_bytes o)) same in (
      same,
      sym (drop_at (op_bytes x) r (length (op_bytes x)) refl)
          ∙ ap (drop (length (op_bytes x))) e
          ∙ drop_at (op_bytes y) s (length (op_bytes x)) (sym long),
    )

-- no row holds at an operation that keeps the rules
known_code : (op : Op) → nat_lt 14 (opcode op) ≡ false
known_code (PushGuid guid) = refl
known_code (PushVersion version) = refl
known_code (VersionStr text) = refl
known_code And = refl
known_code Or = refl
known_code Not = refl
known_code True = refl
known_code False = refl
known_code Eq = refl
known_code Gt = refl
known_code Gte = refl
known_code Lt = refl
known_code Lte = refl
known_code End = refl
known_code (DeclareLength size) = refl

late : (d : Bool) (at : ℕ) → (0 < at → not d ≡ true) → (d && nat_lt 0 at) ≡ false
late false at h = refl
late true zero h = refl
late true (suc at) h = absurd (let no : not true ≡ true = h (omega arith) in cc)

passed_row : {A : Type 0} (b : Bool) (r : A) (rows : Option A) → b ≡ false → rows ≡ None
    → cond b (Some r) rows ≡ None
passed_row true r rows e h = absurd cc
passed_row false r rows e h = h

not_above : (a b : ℕ) → b ≤ a → nat_lt a b ≡ false
not_above a b h = grind (arith, nat_tests)

not_same : (a b : ℕ) → a < b → (a == b) ≡ false
not_same a b h = grind (arith, nat_tests)

not_zero : (n : ℕ) → 0 < n → (n == 0) ≡ false
not_zero n h = grind (arith, nat_tests)

pub keeps_rows : (op : Op) (rest : List ℕ) (at : ℕ) → HasForm op
    → at + length (op_bytes op) ≤ MAX_SECTION_BYTES → (0 < at → may_follow op ≡ true)
    → first_refusal (place_rows (op_bytes op ++ rest) at) ≡ None
keeps_rows op rest at form within follow =
    let size = size_back op rest form in
    let long = length-append (op_bytes op) rest in
    passed_row _ _ _ (not_same at MAX_SECTION_BYTES (omega arith))
    (passed_row _ _ _ (not_zero (length (op_bytes op ++ rest)) (omega arith))
    (passed_row _ _ _ (known_code op)
    (passed_row _ _ _
    (not_above (length (op_bytes op ++ rest)) (op_size (op_bytes op ++ rest)) (omega arith))
    (passed_row _ _ _
    (not_above MAX_SECTION_BYTES (at + op_size (op_bytes op ++ rest)) (omega arith))
    (passed_row _ _ _ (late (is_declare op) at follow) refl)))))
