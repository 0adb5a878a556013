-- A batch of few variables of the platform is a record, and is refused for its data alone.
use Rattle.std.proofs.Common.{◌≡◌, ℕ, ◌+◌, ◌-◌, ◌*◌, ◌/◌, ◌%◌, ◌<◌, ◌≤◌, true, false, inl, inr}
use Rattle.std.proofs.Common.{Bool}
use Rattle.std.proofs.Common.{not, ◌&&◌, nat_le, nat_lt, List, [], ◌∷◌, ◌++◌, length, flat_map}
use Rattle.std.proofs.Common.{refl, sym, ap}
use Rattle.std.proofs.Common.{◌∙◌, subst, arith, cond, Some, None}
use Rattle.std.specs.Fmt.{digit_glyph}
use Rattle.std.proofs.lemmas.Bool.{and_from, and_parts, cases_lt, le-leb, le-ltb, lt-ltb, ltb-true}
use Rattle.std.proofs.lemmas.Bool.Decides.{nat_tests}
use Rattle.std.proofs.lemmas.List.{length-append}
use Rattle.bench_model.specs.declared.limits.TheConstants.{MAX_DEVICES}
use Rattle.cu_base.proofs.Fields.{length-bytes_of}
use Rattle.cu_base.specs.Fields.{bytes_of}
use Rattle.dev_claims.specs.Places.{AreBefore, IsBefore}
use Rattle.dev_claims.specs.Committing.{are_small, is_small}
use Rattle.stored_vars.specs.Variables.{guid_of, is_variable, name_of}
use Rattle.stored_vars.specs.declared.variable.StoredVar.{StoredVar}
use Rattle.stored_vars.specs.declared.variable.StoredVar.TheVariants.{Device, Progress, Serial}
use Rattle.stored_vars.specs.declared.variable.StoredVar.TheVariants.{Stage, OsIndications}
use Rattle.stored_vars.specs.declared.variable.StoredVar.TheVariants.{CapsuleMax, CapsuleLast}
use Rattle.stored_vars.specs.declared.variable.StoredVar.TheVariants.{Outcome}
use Rattle.var_log.specs.Changes as changes
use Rattle.var_log.specs.Changes.{is_name, is_name_byte}
use Rattle.var_log.specs.Records.{body_of, change_bytes, padding, record_size}
use Rattle.var_log.specs.declared.change.Change.{Change}
use Rattle.var_log.specs.declared.change.Change.TheVariants.{Set, Delete}
use Rattle.var_log.specs.declared.limits.TheConstants.{MAX_DATA, MAX_RECORD}
use Rattle.var_store.specs.Answers.{is_too_big, refusal_of}
use Rattle.var_store.specs.declared.fault.StoreFault.TheVariants.{TooBig}

-- ---- names

glyph_named : (d : ℕ) → d < 16 → is_name_byte (digit_glyph true d) ≡ true
glyph_named d fits = elim (cases_lt d 10) [
  | inl low ↦
      let e : digit_glyph true d ≡ 48 + d = ap (λ z. cond z (48 + d) (55 + d)) (lt-ltb d 10 low) in
      ap is_name_byte e ∙ and_from (nat_le 33 (48 + d)) (nat_le (48 + d) 126)
      (le-leb 33 (48 + d) (omega arith)) (le-leb (48 + d) 126 (omega (arith, low)))
  | inr high ↦
      let e : digit_glyph true d ≡ 55 + d = ap (λ z. cond z (48 + d) (55 + d)) (le-ltb d 10 high) in
      ap is_name_byte e ∙ and_from (nat_le 33 (55 + d)) (nat_le (55 + d) 126)
      (le-leb 33 (55 + d) (omega arith)) (le-leb (55 + d) 126 (omega (arith, fits)))
]

two_true : (a b : Bool) → a ≡ true → b ≡ true → (a && b) ≡ true
two_true a b ea eb = and_from a b ea eb

-- the name of each variable of the platform is a name
pub named : (v : StoredVar) → is_variable v ≡ true → is_name (name_of v) ≡ true
named (Device d) is =
    let low : d < 16 = ltb-true d MAX_DEVICES is in rw (glyph_named d low) refl
named Progress is = refl
named Serial is = refl
named (Stage k) is =
    let low : k < 8 = ltb-true _ _ is in rw (glyph_named k (omega (arith, low))) refl
named OsIndications is = refl
named CapsuleMax is = refl
named CapsuleLast is = refl
named (Outcome n) is =
    let low : n < 65536 = ltb-true _ _ is in
    rw (
      glyph_named (n / 256 / 16) (omega (arith, low)),
      glyph_named (n / 256 % 16) (omega arith),
      glyph_named (n % 256 / 16) (omega arith),
      glyph_named (n % 256 % 16) (omega arith),
    ) refl

-- ---- sizes

name_short : (v : StoredVar) → length (name_of v) ≤ 13
name_short (Device d) = omega arith
name_short Progress = omega arith
name_short Serial = omega arith
name_short (Stage k) = omega arith
name_short OsIndications = omega arith
name_short CapsuleMax = omega arith
name_short CapsuleLast = omega arith
name_short (Outcome n) = omega arith

guid_size : (v : StoredVar) → length (guid_of v).bytes ≡ 16
guid_size (Device d) = refl
guid_size Progress = refl
guid_size Serial = refl
guid_size (Stage k) = refl
guid_size OsIndications = refl
guid_size CapsuleMax = refl
guid_size CapsuleLast = refl
guid_size (Outcome n) = refl

low_data : (value : List ℕ) → not (nat_lt MAX_DATA (length value)) ≡ true → length value ≤ 16384
low_data value h = grind (arith, nat_tests)

change_small : (place : ℕ) (c : Change) → IsBefore place c → is_small c ≡ true
    → length (change_bytes c) ≤ 17000
change_small place (Set name guid attributes value) b h =
    let low : length name ≤ 13 =
    subst (λ l. length l ≤ 13) (sym b.name_is) (name_short b.variable) in
    let sixteen : length guid.bytes ≡ 16 =
    ap (λ g. length g.bytes) b.guid_is ∙ guid_size b.variable in
    let low_value : length value ≤ 16384 = low_data value h in
    let one : length (name ++ guid.bytes) ≡ length name + length guid.bytes =
    length-append name guid.bytes in
    let two : length ((name ++ guid.bytes) ++ bytes_of 4 attributes)
    ≡ length (name ++ guid.bytes) + length (bytes_of 4 attributes) =
    length-append (name ++ guid.bytes) (bytes_of 4 attributes) in
    let three : length (((name ++ guid.bytes) ++ bytes_of 4 attributes)
    ++ bytes_of 4 (length value))
    ≡ length ((name ++ guid.bytes) ++ bytes_of 4 attributes)
    + length (bytes_of 4 (length value)) =
    length-append ((name ++ guid.bytes) ++ bytes_of 4 attributes) (bytes_of 4 (length value)) in
    let all : length ((((name ++ guid.bytes) ++ bytes_of 4 attributes)
    ++ bytes_of 4 (length value)) ++ value)
    ≡ length (((name ++ guid.bytes) ++ bytes_of 4 attributes) ++ bytes_of 4 (length value))
    + length value =
    length-append (((name ++ guid.bytes) ++ bytes_of 4 attributes) ++ bytes_of 4 (length value))
    value in
    let a : length (bytes_of 4 attributes) ≡ 4 = length-bytes_of 4 attributes in
    let l : length (bytes_of 4 (length value)) ≡ 4 = length-bytes_of 4 (length value) in
    omega arith
change_small place (Delete name guid) b h =
    let low : length name ≤ 13 =
    subst (λ l. length l ≤ 13) (sym b.name_is) (name_short b.variable) in
    let sixteen : length guid.bytes ≡ 16 =
    ap (λ g. length g.bytes) b.guid_is ∙ guid_size b.variable in
    let one : length (name ++ guid.bytes) ≡ length name + length guid.bytes =
    length-append name guid.bytes in
    omega arith

changes_small : (place : ℕ) (cs : List Change) → AreBefore place cs → are_small cs ≡ true
    → length (flat_map change_bytes cs) ≤ 17000 * length cs
changes_small place [] all h = omega arith
changes_small place (c ∷ cs) (b, all) h =
    let parts = and_parts (is_small c) (are_small cs) h in
    let here : length (change_bytes c) ≤ 17000 = change_small place c b parts.0 in
    let later : length (flat_map change_bytes cs) ≤ 17000 * length cs =
    changes_small place cs all parts.1 in
    let both : length (change_bytes c ++ flat_map change_bytes cs)
    ≡ length (change_bytes c) + length (flat_map change_bytes cs) =
    length-append (change_bytes c) (flat_map change_bytes cs) in
    omega arith

-- a batch of at most 8 variables is a record
pub record_fits : (place : ℕ) (cs : List Change) → AreBefore place cs → are_small cs ≡ true
    → length cs ≤ 8 → record_size 2 (length (body_of cs)) ≤ MAX_RECORD
record_fits place cs all h few =
    let sum : length (flat_map change_bytes cs) ≤ 17000 * length cs =
    changes_small place cs all h in
    let count : length (bytes_of 2 (length cs)) ≡ 2 = length-bytes_of 2 (length cs) in
    let body : length (body_of cs)
    ≡ length (bytes_of 2 (length cs)) + length (flat_map change_bytes cs) =
    length-append (bytes_of 2 (length cs)) (flat_map change_bytes cs) in
    let pad : padding 2 (length (body_of cs)) ≡ (8 - length (body_of cs) % 8) % 8 = refl in
    omega arith

-- ---- refusals

not_big : (b : Bool) → not b ≡ true → b ≡ false
not_big true h = cc
not_big false h = refl

is_named : (place : ℕ) (c : Change) → IsBefore place c → is_name (changes.name_of c) ≡ true
is_named place c b = ap is_name b.name_is ∙ named b.variable b.within

-- where none is too big there is no refusal
pub none_refused : (place : ℕ) (cs : List Change) → AreBefore place cs → are_small cs ≡ true
    → refusal_of cs ≡ None
none_refused place [] all h = refl
none_refused place (c ∷ cs) (b, all) h =
    let parts = and_parts (is_small c) (are_small cs) h in
    rw (is_named place c b, not_big (is_too_big c) parts.0)
    (none_refused place cs all parts.1)

-- else it is for a variable that is too big
pub big_refused : (place : ℕ) (cs : List Change) → AreBefore place cs → are_small cs ≡ false
    → refusal_of cs ≡ Some TooBig
big_refused place [] all h = absurd cc
big_refused place (c ∷ cs) (b, all) h =
    by_test (is_too_big c) refl (λ small. big_refused place cs all small)
  where
    by_test : (t : Bool) → is_too_big c ≡ t
        → (are_small cs ≡ false → refusal_of cs ≡ Some TooBig)
        → refusal_of (c ∷ cs) ≡ Some TooBig
    by_test true big later = rw (is_named place c b, big) refl
    by_test false small later =
        rw (is_named place c b, small)
        (later (sym (ap (λ t. not t && are_small cs) small) ∙ h))
