-- What is written is read: a change, a body and a record.
use Rattle.std.proofs.Common.{◌≡◌, ℕ, zero, suc, ◌+◌, ◌<◌, ◌≤◌, ◌^◌, List, [], ◌∷◌, ◌++◌}
use Rattle.std.proofs.Common.{length, get_or, take, drop, replicate, refl, sym, ap, ◌∙◌, subst}
use Rattle.std.proofs.Common.{arith}
use Rattle.std.proofs.Common.{Option, Some, None, Bool, true, false, ◌&&◌, append_assoc}
use Rattle.std.proofs.Common.{length-append}
use Rattle.std.proofs.Common.{All, IsTrue, nat_eq, nat_le, nat_lt}
use Rattle.std.proofs.lemmas.Bool.{le-leb, leb-true, lt-ltb}
use Rattle.std.proofs.lemmas.Bool.Decides.{nat_tests}
use Rattle.std.proofs.lemmas.List.{drop_at, drop_more, length-replicate, drop_all, take_all}
use Rattle.std.proofs.lemmas.List.{append-nil}
use Rattle.std.proofs.lemmas.List.{length-take, length-drop}
use Rattle.std.specs.List.{flat_map, list_all}
use Rattle.cu_base.specs.Fields.{bytes_of, field, number, number_at}
use Rattle.cu_base.specs.Refusals.{first_refusal}
use Rattle.cu_base.proofs.Fields.{field_in, number_at_in, length-bytes_of}
use Rattle.var_log.specs.declared.change.Change.{Change}
use Rattle.var_log.specs.declared.change.Change.TheVariants.{Set, Delete}
use Rattle.var_log.specs.declared.limits.TheConstants.{MAX_DATA, OPEN_GATE, CLOSED_GATE}
use Rattle.var_log.specs.declared.limits.TheConstants.{MAX_CHANGES, MAX_RECORD}
use Rattle.var_log.specs.Changes.{is_name, keeps_limits, has_sizes, is_change}
use Rattle.var_log.specs.Records.{change_bytes, body_of, padding, record_size, first_change}
use Rattle.var_log.specs.Records.{changes_from, changes_in, record_bytes, tail_of, entry_of}
use Rattle.var_log.specs.Records.{end_rows, is_next, Entry, IsRecord, record_in, record_with}
use Rattle.var_log.specs.Records.{RecordValue, IsWritable, behind_gate}

pub and_first : (a b : Bool) → (a && b) ≡ true → a ≡ true
and_first true b h = refl
and_first false b h = h

pub and_second : (a b : Bool) → (a && b) ≡ true → b ≡ true
and_second true b h = h
and_second false b h = absurd cc

-- ---- a change

set_found : (bytes : List ℕ) (n size a : ℕ) (name g v rest : List ℕ)
    → get_or bytes 0 0 ≡ 1 → get_or bytes 1 0 ≡ n → field bytes 2 n ≡ name
    → field bytes (2 + n) 16 ≡ g → number_at bytes (18 + n) 4 ≡ a
    → number_at bytes (22 + n) 4 ≡ size → field bytes (26 + n) size ≡ v
    → drop (26 + n + size) bytes ≡ rest → nat_le (26 + n) (length bytes) ≡ true
    → nat_le (26 + n + size) (length bytes) ≡ true → is_name name ≡ true
    → nat_le size MAX_DATA ≡ true
    → first_change bytes ≡ Some (Set name (record { bytes = g }) a v, rest)
unfolding first_change
set_found bytes n size a name g v rest kind long named guided attributes sized valued left low high is small =
    rw (kind, long, sized, named, is, low, high, small, guided, attributes, valued, left) refl

delete_found : (bytes : List ℕ) (n : ℕ) (name g rest : List ℕ)
    → get_or bytes 0 0 ≡ 2 → get_or bytes 1 0 ≡ n → field bytes 2 n ≡ name
    → field bytes (2 + n) 16 ≡ g → drop (18 + n) bytes ≡ rest
    → nat_le (18 + n) (length bytes) ≡ true → is_name name ≡ true
    → first_change bytes ≡ Some (Delete name (record { bytes = g }), rest)
unfolding first_change
delete_found bytes n name g rest kind long named guided left low is =
    rw (kind, long, named, is, low, guided, left) refl

pub read_set : (name g v rest : List ℕ) (a : ℕ) → length g ≡ 16 → a < 2 ^ 32
    → is_name name ≡ true → nat_le (length v) MAX_DATA ≡ true
    → let c : Change = Set name (record { bytes = g }) a v in
    first_change (change_bytes c ++ rest) ≡ Some (c, rest)
read_set name g v rest a sixteen low is small =
    let n = length name in
    let size = length v in
    let lead : List ℕ = 1 ∷ n ∷ [] in
    let a4 = bytes_of 4 a in
    let s4 = bytes_of 4 size in
    let w : List ℕ = lead ++ (name ++ (g ++ (a4 ++ (s4 ++ (v ++ rest))))) in
    let at_most : size ≤ MAX_DATA = leb-true _ _ small in
    let below : size < 256 ^ 4 = omega arith in
    let e1 : w ≡ (lead ++ name) ++ (g ++ (a4 ++ (s4 ++ (v ++ rest)))) = simp append_assoc in
    let e2 : w ≡ ((lead ++ name) ++ g) ++ (a4 ++ (s4 ++ (v ++ rest))) = simp append_assoc in
    let e3 : w ≡ (((lead ++ name) ++ g) ++ a4) ++ (s4 ++ (v ++ rest)) = simp append_assoc in
    let e4 : w ≡ ((((lead ++ name) ++ g) ++ a4) ++ s4) ++ (v ++ rest) = simp append_assoc in
    let e5 : w ≡ (((((lead ++ name) ++ g) ++ a4) ++ s4) ++ v) ++ rest = simp append_assoc in
    let l1 : length (lead ++ name) ≡ 2 + n = omega (arith, length-append lead name) in
    let l2 : length ((lead ++ name) ++ g) ≡ 18 + n = omega (arith, l1, length-append (lead ++ name) g) in
    let l3 : length (((lead ++ name) ++ g) ++ a4) ≡ 22 + n =
    omega (arith, l2, length-append ((lead ++ name) ++ g) a4, length-bytes_of 4 a) in
    let l4 : length ((((lead ++ name) ++ g) ++ a4) ++ s4) ≡ 26 + n =
    omega (arith, l3, length-append (((lead ++ name) ++ g) ++ a4) s4, length-bytes_of 4 size) in
    let l5 : length (((((lead ++ name) ++ g) ++ a4) ++ s4) ++ v) ≡ 26 + n + size =
    omega (arith, l4, length-append ((((lead ++ name) ++ g) ++ a4) ++ s4) v) in
    let whole : length w ≡ 26 + n + size + length rest =
    omega (arith, l5, ap length e5, length-append (((((lead ++ name) ++ g) ++ a4) ++ s4) ++ v) rest) in
    let same : change_bytes (Set name (record { bytes = g }) a v) ++ rest ≡ w = simp append_assoc in
    ap first_change same
    ∙ set_found w n size a name g v rest refl refl
    (field_in w lead name _ 2 n refl refl refl)
    (field_in w (lead ++ name) g _ (2 + n) 16 e1 l1 sixteen)
    (number_at_in w ((lead ++ name) ++ g) a4 a _ (18 + n) 4 e2 refl l2 low)
    (number_at_in w (((lead ++ name) ++ g) ++ a4) s4 size _ (22 + n) 4 e3 refl l3 below)
    (field_in w ((((lead ++ name) ++ g) ++ a4) ++ s4) v rest (26 + n) size e4 l4 refl)
    (ap (drop (26 + n + size)) e5 ∙ drop_at (((((lead ++ name) ++ g) ++ a4) ++ s4) ++ v) rest _ l5)
    (le-leb _ _ (omega (arith, whole))) (le-leb _ _ (omega (arith, whole))) is small

pub read_delete : (name g rest : List ℕ) → length g ≡ 16 → is_name name ≡ true
    → let c : Change = Delete name (record { bytes = g }) in
    first_change (change_bytes c ++ rest) ≡ Some (c, rest)
read_delete name g rest sixteen is =
    let n = length name in
    let lead : List ℕ = 2 ∷ n ∷ [] in
    let w : List ℕ = lead ++ (name ++ (g ++ rest)) in
    let e1 : w ≡ (lead ++ name) ++ (g ++ rest) = simp append_assoc in
    let e2 : w ≡ ((lead ++ name) ++ g) ++ rest = simp append_assoc in
    let l1 : length (lead ++ name) ≡ 2 + n = omega (arith, length-append lead name) in
    let l2 : length ((lead ++ name) ++ g) ≡ 18 + n = omega (arith, l1, length-append (lead ++ name) g) in
    let whole : length w ≡ 18 + n + length rest =
    omega (arith, l2, ap length e2, length-append ((lead ++ name) ++ g) rest) in
    let same : change_bytes (Delete name (record { bytes = g })) ++ rest ≡ w = simp append_assoc in
    ap first_change same
    ∙ delete_found w n name g rest refl refl
    (field_in w lead name _ 2 n refl refl refl)
    (field_in w (lead ++ name) g _ (2 + n) 16 e1 l1 sixteen)
    (ap (drop (18 + n)) e2 ∙ drop_at ((lead ++ name) ++ g) rest _ l2)
    (le-leb _ _ (omega (arith, whole))) is

pub eqb-true : (a b : ℕ) → nat_eq a b ≡ true → a ≡ b
eqb-true a b h = grind (arith, nat_tests)

pub ltb-true : (a b : ℕ) → nat_lt a b ≡ true → a < b
ltb-true a b h = grind (arith, nat_tests)

-- a change that is within the limits is read as it was written
pub read_change : (c : Change) (rest : List ℕ) → is_change c ≡ true
    → first_change (change_bytes c ++ rest) ≡ Some (c, rest)
read_change (Set name guid a v) rest h =
    let limits = and_first (keeps_limits (Set name guid a v)) _ h in
    let sizes = and_second (keeps_limits (Set name guid a v)) _ h in
    read_set name guid.bytes v rest a
    (eqb-true _ _ (and_first (nat_eq (length guid.bytes) 16) _ sizes))
    (ltb-true _ _ (and_second (nat_eq (length guid.bytes) 16) _ sizes))
    (and_first (is_name name) _ limits) (and_second (is_name name) _ limits)
read_change (Delete name guid) rest h =
    read_delete name guid.bytes rest
    (eqb-true _ _ (and_second (is_name name) _ h)) (and_first (is_name name) _ h)

-- ---- a body

step_found : (n : ℕ) (bytes rest : List ℕ) (c : Change) (cs : List Change)
    → first_change bytes ≡ Some (c, rest) → changes_from n rest ≡ Some cs
    → changes_from (suc n) bytes ≡ Some (c ∷ cs)
unfolding changes_from
step_found n bytes rest c cs first more = rw (first, more) refl

none_left : changes_from 0 [] ≡ Some []
unfolding changes_from
none_left = refl

pub read_changes : (cs : List Change) → All (λ c. IsTrue (is_change c)) cs
    → changes_from (length cs) (flat_map change_bytes cs) ≡ Some cs
read_changes [] each = none_left
read_changes (c ∷ cs) each =
    step_found (length cs) _ (flat_map change_bytes cs) c cs
    (read_change c (flat_map change_bytes cs) (each 0 c (omega arith)))
    (read_changes cs (λ k d within. each (suc k) d (omega arith)))

body_found : (body : List ℕ) (n : ℕ) (rest : List ℕ) (cs : List Change) → nat_lt (length body) 2 ≡ false
    → number_at body 0 2 ≡ n → drop 2 body ≡ rest → changes_from n rest ≡ Some cs
    → changes_in body ≡ Some cs
unfolding changes_in
body_found body n rest cs long count left found = rw (long, count, left) found

pub read_body : (cs : List Change) → All (λ c. IsTrue (is_change c)) cs → length cs < 2 ^ 16
    → changes_in (body_of cs) ≡ Some cs
read_body cs each few =
    let n = length cs in
    let tail = flat_map change_bytes cs in
    let long : nat_lt (length (body_of cs)) 2 ≡ false = grind (arith, nat_tests) in
    body_found (body_of cs) n tail cs long
    (number_at_in (body_of cs) [] (bytes_of 2 n) n tail 0 2 refl refl refl few)
    (drop_at (bytes_of 2 n) tail 2 (length-bytes_of 2 n))
    (read_changes cs each)

-- ---- sizes

pub length_of_set : (name g v : List ℕ) (a : ℕ)
    → length (change_bytes (Set name (record { bytes = g }) a v))
    ≡ 10 + length name + length g + length v
length_of_set name g v a = simp length-append (omega arith)

pub length_of_delete : (name g : List ℕ)
    → length (change_bytes (Delete name (record { bytes = g }))) ≡ 2 + length name + length g
length_of_delete name g = simp length-append (omega arith)

-- one change more of those that are left
pub one_less : (cs : List Change) (i : ℕ) (c : Change) → i < length cs → get_or cs i c ≡ c
    → length (flat_map change_bytes (drop i cs))
    ≡ length (change_bytes c) + length (flat_map change_bytes (drop (i + 1) cs))
one_less cs i c within here =
    ap (λ (l : List Change). length (flat_map change_bytes l)) (drop_more cs i c within)
    ∙ ap (λ (d : Change). length (change_bytes d ++ flat_map change_bytes (drop (i + 1) cs))) here
    ∙ length-append (change_bytes c) (flat_map change_bytes (drop (i + 1) cs))

-- the parts of a record one behind another
pub assembled : (old o1 o2 o3 o4 o5 o6 o7 flat zeros : List ℕ) (n number count : ℕ)
    → o1 ≡ old ++ OPEN_GATE ∷ 0 ∷ 0 ∷ 0 ∷ [] → o2 ≡ o1 ++ bytes_of 4 n
    → o3 ≡ o2 ++ bytes_of 8 number → o4 ≡ o3 ++ bytes_of 2 count → o5 ≡ o4 ++ flat
    → o6 ≡ o5 ++ zeros → o7 ≡ o6 ++ CLOSED_GATE ∷ []
    → o7 ≡ old ++ ((OPEN_GATE ∷ (0 ∷ 0 ∷ 0 ∷ bytes_of 4 n ++ bytes_of 8 number
    ++ (bytes_of 2 count ++ flat ++ zeros))) ++ CLOSED_GATE ∷ [])
assembled old o1 o2 o3 o4 o5 o6 o7 flat zeros n number count e1 e2 e3 e4 e5 e6 e7 =
    rw (e7, e6, e5, e4, e3, e2, e1) (simp append_assoc)

all_zeros : (k : ℕ) → list_all (λ b. nat_eq b 0) (replicate k 0) ≡ true
all_zeros zero = refl
all_zeros (suc k) = all_zeros k

-- ---- a record

module _ (format number : ℕ) (cs : List Change) (rest : List ℕ) where
  -- the bytes that begin with the record
  abbrev pub front : List ℕ
  front = record_bytes format number cs ++ rest

  abbrev pub body_size : ℕ
  body_size = length (body_of cs)

  pub length_of_front : length front ≡ record_size format body_size + length rest
  length_of_front =
      let body = body_of cs in
      let zeros : List ℕ = replicate (padding format (length body)) 0 in
      omega (
        arith,
        length-append (record_bytes format number cs) rest,
        length-append body zeros,
        length-replicate {A = ℕ} (padding format (length body)) 0,
      )

  pub size_is : body_size < 2 ^ 32 → number_at front 4 4 ≡ body_size
  size_is small =
      number_at_in front (OPEN_GATE ∷ 0 ∷ 0 ∷ 0 ∷ []) (bytes_of 4 body_size) body_size
      (bytes_of 8 number ++ (tail_of format cs ++ rest)) 4 4 refl refl refl small

  pub number_is : number < 2 ^ 64 → number_at front 8 8 ≡ number
  number_is small =
      number_at_in front (OPEN_GATE ∷ 0 ∷ 0 ∷ 0 ∷ bytes_of 4 body_size) (bytes_of 8 number) number
      (tail_of format cs ++ rest) 8 8 refl refl refl small

  pub body_is : field front 16 body_size ≡ body_of cs
  body_is =
      let head : List ℕ = OPEN_GATE ∷ 0 ∷ 0 ∷ 0 ∷ bytes_of 4 body_size ++ bytes_of 8 number in
      let zeros : List ℕ = replicate (padding format body_size) 0 in
      let e : front ≡ head ++ (body_of cs ++ (zeros ++ rest)) = simp append_assoc in
      field_in front head (body_of cs) (zeros ++ rest) 16 body_size e refl refl

  pub zeros_are : field front (16 + body_size) (padding format body_size)
      ≡ replicate (padding format body_size) 0
  zeros_are =
      let head : List ℕ = OPEN_GATE ∷ 0 ∷ 0 ∷ 0 ∷ bytes_of 4 body_size ++ bytes_of 8 number in
      let zeros : List ℕ = replicate (padding format body_size) 0 in
      let e : front ≡ (head ++ body_of cs) ++ (zeros ++ rest) = simp append_assoc in
      field_in front (head ++ body_of cs) zeros rest (16 + body_size) (padding format body_size) e
      (length-append head (body_of cs)) (length-replicate (padding format body_size) 0)

  pub rest_is : drop (record_size format body_size) front ≡ rest
  rest_is =
      drop_at (record_bytes format number cs) rest (record_size format body_size)
      (omega (arith, length_of_front, length-append (record_bytes format number cs) rest))

  pub entry_is : body_size < 2 ^ 32 → number < 2 ^ 64 → length cs < 2 ^ 16
      → All (λ c. IsTrue (is_change c)) cs
      → entry_of format front ≡ record {
        size = record_size format body_size;
        number = number;
        changes = cs;
      }
  entry_is small low few each =
      let read : changes_in (field front 16 body_size) ≡ Some cs =
      ap changes_in body_is ∙ read_body cs each few in
      rw (size_is small, number_is low, read) refl

  pub goes_on : (before : Option ℕ) → body_size < 2 ^ 32 → number < 2 ^ 64 → length cs < 2 ^ 16
      → All (λ c. IsTrue (is_change c)) cs → is_next before number ≡ true → 0 < length rest
      → first_refusal (end_rows format before front) ≡ None
  goes_on before small low few each next some =
      let read : changes_in (field front 16 body_size) ≡ Some cs =
      ap changes_in body_is ∙ read_body cs each few in
      let within : nat_lt (record_size format body_size) (length front) ≡ true =
      lt-ltb _ _ (omega (arith, length_of_front)) in
      let zeros : list_all (λ b. nat_eq b 0)
      (field front (16 + body_size) (padding format body_size)) ≡ true =
      ap (list_all (λ b. nat_eq b 0)) zeros_are ∙ all_zeros (padding format body_size) in
      rw (size_is small, number_is low, within, read, zeros, next) refl

pub and_true : (a b : Bool) → a ≡ true → b ≡ true → (a && b) ≡ true
and_true true b p q = q
and_true false b p q = absurd cc

pub are_changes : (cs : List Change) → All (λ c. IsTrue (keeps_limits c)) cs
    → All (λ c. IsTrue (has_sizes c)) cs → All (λ c. IsTrue (is_change c)) cs
are_changes cs limits sizes =
    λ k d within. and_true _ _ (limits k d within) (sizes k d within)

-- bytes that were made as a record
pub made : (bytes : List ℕ) (number : ℕ) (cs : List Change)
    → bytes ≡ record_bytes 2 number cs ++ CLOSED_GATE ∷ []
    → All (λ c. IsTrue (is_change c)) cs → length cs ≤ MAX_CHANGES → number < 2 ^ 64
    → record_size 2 (length (body_of cs)) ≤ MAX_RECORD
    → IsRecord bytes × (record_in bytes ≡ record_with number cs)
made bytes number cs is each few low small =
    let some : length (body_of cs) < 2 ^ 32 = omega arith in
    let short : length cs < 2 ^ 16 = omega arith in
    let e = ap (entry_of 2) is ∙ entry_is 2 number cs (CLOSED_GATE ∷ []) some low short each in (
      record {
        written = is ∙ ap (λ (x : Entry). record_bytes 2 x.number x.changes ++ CLOSED_GATE ∷ []) (sym e);
        each = subst (λ (x : Entry). All (λ c. IsTrue (is_change c)) x.changes) (sym e) each;
        count = subst (λ (x : Entry). length x.changes ≤ MAX_CHANGES) (sym e) few;
        number = subst (λ (x : Entry). x.number < 2 ^ 64) (sym e) low;
        size = omega (arith, ap length is, length_of_front 2 number cs (CLOSED_GATE ∷ []));
      },
      ap (λ (x : Entry). let r : RecordValue = record { changes = x.changes; number = x.number; size = x.size } in r) e,
    )

-- what the rule of a record says of its bytes
pub writable : (bytes : List ℕ) → IsRecord bytes → IsWritable (record_in bytes)
writable bytes is =
    let cs = (entry_of 2 bytes).changes in
    let n = (entry_of 2 bytes).number in
    let long : record_size 2 (length (body_of cs)) ≤ MAX_RECORD =
    omega (arith, ap length is.written, length_of_front 2 n cs (CLOSED_GATE ∷ []), is.size) in
    let again = made bytes n cs is.written is.each is.count is.number long in
    record {
      is = again.1;
      each = is.each;
      few = is.count;
      low = is.number;
      small = omega (arith, ap (λ (r : RecordValue). r.size) again.1, long);
    }

-- the same record under another number
pub renumbered : (old new : List ℕ) (m : ℕ) → IsRecord old → m < 2 ^ 64
    → new ≡ take 8 old ++ (bytes_of 8 m ++ drop 16 old)
    → IsRecord new × (record_in new ≡ (let r : RecordValue = record (record_in old) { number = m } in r))
renumbered old new m is low e =
    let cs = (entry_of 2 old).changes in
    let n = (entry_of 2 old).number in
    let long : record_size 2 (length (body_of cs)) ≤ MAX_RECORD =
    omega (arith, ap length is.written, length_of_front 2 n cs (CLOSED_GATE ∷ []), is.size) in
    let whole : new ≡ record_bytes 2 m cs ++ CLOSED_GATE ∷ [] =
    e ∙ ap (λ (l : List ℕ). take 8 l ++ (bytes_of 8 m ++ drop 16 l)) is.written in
    let here = made new m cs whole is.each is.count low long in
    let size = ap (λ (r : RecordValue). r.size) (writable old is).is in (
      here.0,
      here.1 ∙ ap (λ (n : ℕ). let r : RecordValue = record {
        changes = cs;
        number = m;
        size = n;
      } in r) (sym size),
    )

-- a slice that is written back whole
pub written_back : (n : ℕ) (s items : List ℕ) → length items ≡ n → length s ≡ n
    → take n (s ++ drop (length s) items) ≡ s
written_back n s items long same =
    ap (λ (l : List ℕ). take n (s ++ l)) (drop_all (length s) items (omega (arith, long, same)))
    ∙ ap (take n) (append-nil s) ∙ take_all n s (omega (arith, same))

-- what stands behind the gate of a record
pub behind_is : (bytes : List ℕ) → IsRecord bytes
    → drop 1 bytes ≡ behind_gate 2 (record_in bytes).number (record_in bytes).changes ++ CLOSED_GATE ∷ []
behind_is bytes is = ap (drop 1) is.written

pub size_of_record : (bytes : List ℕ) → IsRecord bytes → length bytes ≡ 1 + (record_in bytes).size
size_of_record bytes is =
    let cs = (entry_of 2 bytes).changes in
    let n = (entry_of 2 bytes).number in
    let w = writable bytes is in
    omega (
      arith,
      ap length is.written,
      length_of_front 2 n cs (CLOSED_GATE ∷ []),
      ap (λ (r : RecordValue). r.size) w.is,
    )

-- a number that was put into its place
pub put_back : (n m : ℕ) (r items s : List ℕ) → r ≡ items → length r ≡ n → 16 ≤ length items
    → s ≡ take 8 r ++ (bytes_of 8 m ++ drop 16 r)
    → take n (s ++ drop (length s) items) ≡ take 8 items ++ (bytes_of 8 m ++ drop 16 items)
put_back n m r items s same long enough is =
    let e : s ≡ take 8 items ++ (bytes_of 8 m ++ drop 16 items) =
    is ∙ ap (λ (l : List ℕ). take 8 l ++ (bytes_of 8 m ++ drop 16 l)) same in
    let total : length s ≡ n = omega (
      arith,
      ap length e,
      ap length same,
      long,
      enough,
      length-append (take 8 items) (bytes_of 8 m ++ drop 16 items),
      length-append (bytes_of 8 m) (drop 16 items),
      length-bytes_of 8 m,
      length-take 8 items,
      length-drop 16 items,
    ) in
    written_back n s items (omega (arith, ap length same, long)) total ∙ e
