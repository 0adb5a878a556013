-- The records of a bank depend on the bytes in front of their end alone, and then on what stands
-- there.
use Rattle.std.proofs.Common.{◌≡◌, ℕ, zero, suc, ◌+◌, ◌<◌, ◌≤◌, ◌^◌, List, [], ◌∷◌, ◌++◌}
use Rattle.std.proofs.Common.{length, get_or, take, drop, refl, sym, ap, ◌∙◌, subst, arith, Option}
use Rattle.std.proofs.Common.{Some}
use Rattle.std.proofs.Common.{None, is_none, Bool, true, false, not, All, IsTrue}
use Rattle.std.proofs.Common.{nat_lt, nat_eq}
use Rattle.std.proofs.Common.{append_assoc, length-append}
use Rattle.std.proofs.lemmas.Bool.{lt-ltb}
use Rattle.std.proofs.lemmas.List.{take-take, drop-take, get_or-take, drop-drop, length-drop}
use Rattle.cu_base.specs.Fields.{field, number_at, number}
use Rattle.cu_base.specs.Refusals.{first_refusal}
use Rattle.cu_base.proofs.Rows.{passed, none_refused}
use Rattle.var_log.specs.declared.change.Change.{Change}
use Rattle.var_log.specs.declared.limits.TheConstants.{OPEN_GATE, CLOSED_GATE}
use Rattle.var_log.specs.Changes.{is_change}
use Rattle.var_log.specs.Records.{Entry, entry_of, end_rows, entries_in, record_bytes, record_size}
use Rattle.var_log.specs.Records.{body_of, is_next, padding}
use Rattle.var_log.specs.Records.{spelled, numbered, AreBatches}
use Rattle.var_log.specs.Banks.{last_of, taken}
use Rattle.var_log.proofs.Spelled.{goes_on, entry_is, rest_is}

-- ---- the same front

pub same_field : (s k n : ℕ) (old new : List ℕ) → take s new ≡ take s old → k + n ≤ s
    → field new k n ≡ field old k n
same_field s k n old new same le =
    sym (drop-take k n new)
    ∙ ap (drop k) (sym (take-take (k + n) s new le) ∙ ap (take (k + n)) same ∙ take-take (k + n) s old le)
    ∙ drop-take k n old

pub same_byte : (s k : ℕ) (old new : List ℕ) → take s new ≡ take s old → k < s
    → get_or new k 0 ≡ get_or old k 0
same_byte s k old new same lt =
    sym (get_or-take s new k 0 lt) ∙ ap (λ (l : List ℕ). get_or l k 0) same ∙ get_or-take s old k 0 lt

pub same_drop : (s k n : ℕ) (old new : List ℕ) → take s new ≡ take s old → s ≡ k + n
    → take n (drop k new) ≡ take n (drop k old)
same_drop s k n old new same is = same_field s k n old new same (omega (arith, is))

record SameEntry (format : ℕ) (before : Option ℕ) (old new : List ℕ) : Type 0 where
  stands : first_refusal (end_rows format before new) ≡ None
  entry : entry_of format new ≡ entry_of format old

same_entry : (format : ℕ) (before : Option ℕ) (old new : List ℕ)
    → first_refusal (end_rows format before old) ≡ None
    → take (entry_of format old).size new ≡ take (entry_of format old).size old
    → (entry_of format old).size < length new
    → SameEntry format before old new
same_entry format before old new stands same within =
    let n = number_at old 4 4 in
    let s = record_size format n in
    let tests = passed (end_rows format before old) stands in
    let gate = same_byte s 0 old new same (omega arith) in
    let size : number_at new 4 4 ≡ n = ap number (same_field s 4 4 old new same (omega arith)) in
    let numbered : number_at new 8 8 ≡ number_at old 8 8 =
    ap number (same_field s 8 8 old new same (omega arith)) in
    let body : field new 16 n ≡ field old 16 n = same_field s 16 n old new same (omega arith) in
    let pad : field new (16 + n) (padding format n) ≡ field old (16 + n) (padding format n) =
    same_field s (16 + n) (padding format n) old new same (omega arith) in
    let fits : not (nat_lt s (length new)) ≡ false = rw (lt-ltb _ _ within) refl in
    record {
      stands = none_refused (end_rows format before new) (
        rw gate tests.0,
        (
          rw size fits,
          (
            rw (size, body) tests.1.1.0,
            (
              rw (size, pad) tests.1.1.1.0,
              (rw numbered tests.1.1.1.1.0, tt),
            ),
          ),
        ),
      );
      entry = rw (size, numbered, body) refl;
    }

-- ---- the entries of bytes with the same front

pub no_entries : (most : ℕ) (format : ℕ) (before : Option ℕ) (bytes : List ℕ)
    → is_none (first_refusal (end_rows format before bytes)) ≡ false
    → entries_in (suc most) format before bytes ≡ []
unfolding entries_in
no_entries most format before bytes ends = rw ends refl

pub some_entry : (most : ℕ) (format : ℕ) (before : Option ℕ) (bytes : List ℕ)
    → is_none (first_refusal (end_rows format before bytes)) ≡ true
    → let e = entry_of format bytes in
    entries_in (suc most) format before bytes
    ≡ e ∷ entries_in most format (Some e.number) (drop e.size bytes)
unfolding entries_in
some_entry most format before bytes stands = rw stands refl

pub nothing : (format : ℕ) (before : Option ℕ) (bytes : List ℕ) → entries_in 0 format before bytes ≡ []
unfolding entries_in
nothing format before bytes = refl

none_is : {A : Type 0} (o : Option A) → is_none o ≡ true → o ≡ None
none_is None h = refl
none_is (Some x) h = absurd cc

-- what follows the same front, as a relation of the entries in front of it
pub record Splits (format : ℕ) (before : Option ℕ) (es : List Entry) (old new : List ℕ) : Type 0 where
  pub into : (more : ℕ) → let p = taken es in
      take p new ≡ take p old → p < length new
      → entries_in (length es + more) format before new
      ≡ es ++ entries_in more format (last_of before es) (drop p new)

splits_none : (format : ℕ) (before : Option ℕ) (old new : List ℕ) → Splits format before [] old new
splits_none format before old new = record {
  into = λ more same within. ap (λ (k : ℕ). entries_in k format before new) (omega arith);
}

sizes_first : (p s q : ℕ) (l : List ℕ) (within : p < length l) → p ≡ s + q → q < length (drop s l)
sizes_first p s q l within is = omega (arith, length-drop s l)

splits_some : (format : ℕ) (before : Option ℕ) (es : List Entry) (old new : List ℕ)
    → first_refusal (end_rows format before old) ≡ None
    → let e = entry_of format old in
    Splits format (Some e.number) es (drop e.size old) (drop e.size new)
    → Splits format before (e ∷ es) old new
splits_some format before es old new stands rest = record {
  into = λ more same within.
      let e = entry_of format old in
      let s = e.size in
      let q = taken es in
      let front : take s new ≡ take s old = same_field (s + q) 0 s old new same (omega arith) in
      let here = same_entry format before old new stands front (omega arith) in
      let shift : suc (length es) + more ≡ suc (length es + more) = omega arith in
      let back : take q (drop s new) ≡ take q (drop s old) = same_drop (s + q) s q old new same refl in
      let later = rest.into more back (sizes_first (s + q) s q new within refl) in
      let step = some_entry (length es + more) format before new (ap is_none here.stands) in
      let added : drop q (drop s new) ≡ drop (s + q) new = drop-drop q s new in
      ap (λ (k : ℕ). entries_in k format before new) shift ∙ step
      ∙ ap (λ (x : Entry). x ∷ entries_in (length es + more) format (Some x.number) (drop x.size new)) here.entry
      ∙ ap (λ (l : List Entry). e ∷ l) later
      ∙ ap (λ (l : List ℕ). e ∷ (es ++ entries_in more format (last_of (Some e.number) es) l)) added;
}

splits_case : (most format : ℕ) (before : Option ℕ) (old new : List ℕ) (b : Bool)
    → is_none (first_refusal (end_rows format before old)) ≡ b
    → Splits format (Some (entry_of format old).number)
    (entries_in most format (Some (entry_of format old).number) (drop (entry_of format old).size old))
    (drop (entry_of format old).size old) (drop (entry_of format old).size new)
    → Splits format before (entries_in (suc most) format before old) old new
splits_case most format before old new false is rest =
    subst (λ (es : List Entry). Splits format before es old new) (sym (no_entries most format before old is))
    (splits_none format before old new)
splits_case most format before old new true is rest =
    subst (λ (es : List Entry). Splits format before es old new) (sym (some_entry most format before old is))
    (splits_some format before _ old new (none_is _ is) rest)

pub splits : (most format : ℕ) (before : Option ℕ) (old new : List ℕ)
    → Splits format before (entries_in most format before old) old new
splits zero format before old new =
    subst (λ (es : List Entry). Splits format before es old new) (sym (nothing format before old))
    (splits_none format before old new)
splits (suc most) format before old new =
    let e = entry_of format old in
    splits_case most format before old new (is_none (first_refusal (end_rows format before old))) refl
    (splits most format (Some e.number) (drop e.size old) (drop e.size new))

-- ---- each entry takes 16 bytes at least

pub record IsSized (es : List Entry) : Type 0 where
  pub sum : length es ≤ taken es

sized_case : (most format : ℕ) (before : Option ℕ) (bytes : List ℕ) (b : Bool)
    → is_none (first_refusal (end_rows format before bytes)) ≡ b
    → IsSized (entries_in most format (Some (entry_of format bytes).number) (drop (entry_of format bytes).size bytes))
    → IsSized (entries_in (suc most) format before bytes)
sized_case most format before bytes false is rest =
    subst IsSized (sym (no_entries most format before bytes is)) (record { sum = omega arith })
sized_case most format before bytes true is rest =
    subst IsSized (sym (some_entry most format before bytes is)) (record { sum = omega (arith, rest.sum) })

pub sized : (most format : ℕ) (before : Option ℕ) (bytes : List ℕ)
    → IsSized (entries_in most format before bytes)
sized zero format before bytes =
    subst IsSized (sym (nothing format before bytes)) (record { sum = omega arith })
sized (suc most) format before bytes =
    let e = entry_of format bytes in
    sized_case most format before bytes (is_none (first_refusal (end_rows format before bytes))) refl
    (sized most format (Some e.number) (drop e.size bytes))

-- ---- what may stand at the end

shut_rows : (format : ℕ) (before : Option ℕ) (bytes : List ℕ) → nat_eq (get_or bytes 0 0) OPEN_GATE ≡ false
    → is_none (first_refusal (end_rows format before bytes)) ≡ false
shut_rows format before bytes shut = rw shut refl

pub closed_end : (most format : ℕ) (before : Option ℕ) (bytes : List ℕ)
    → nat_eq (get_or bytes 0 0) OPEN_GATE ≡ false → entries_in most format before bytes ≡ []
closed_end zero format before bytes shut = nothing format before bytes
closed_end (suc most) format before bytes shut =
    no_entries most format before bytes (shut_rows format before bytes shut)

-- a record that is the next, and a closed gate behind it
pub one_more : (most format : ℕ) (before : Option ℕ) (number : ℕ) (cs : List Change) (rest : List ℕ)
    → length (body_of cs) < 2 ^ 32 → number < 2 ^ 64 → length cs < 2 ^ 16
    → All (λ c. IsTrue (is_change c)) cs → is_next before number ≡ true
    → entries_in (suc most) format before (record_bytes format number cs ++ CLOSED_GATE ∷ rest)
    ≡ (let e : Entry = record {
      size = record_size format (length (body_of cs));
      number = number;
      changes = cs;
    } in e ∷ [])
one_more most format before number cs rest small low few each next =
    let tail : List ℕ = CLOSED_GATE ∷ rest in
    let whole = record_bytes format number cs ++ tail in
    let none = goes_on format number cs tail before small low few each next (omega arith) in
    let is = entry_is format number cs tail small low few each in
    let behind : drop (record_size format (length (body_of cs))) whole ≡ tail = rest_is format number cs tail in
    some_entry most format before whole (ap is_none none)
    ∙ ap (λ (x : Entry). x ∷ entries_in most format (Some x.number) (drop x.size whole)) is
    ∙ ap (λ (l : List ℕ). let e : Entry = record {
      size = record_size format (length (body_of cs));
      number = number;
      changes = cs;
    } in e ∷ entries_in most format (Some number) l) behind
    ∙ ap (λ (l : List Entry). let e : Entry = record {
      size = record_size format (length (body_of cs));
      number = number;
      changes = cs;
    } in e ∷ l) (closed_end most format (Some number) tail refl)

-- batches that are spelled one behind another, and a closed gate behind them
pub spelled_log : (batches : List (List Change)) (number more : ℕ) (before : Option ℕ) (rest : List ℕ)
    → AreBatches before number batches
    → entries_in (length batches + more) 2 before (spelled number batches ++ CLOSED_GATE ∷ rest)
    ≡ numbered number batches
spelled_log [] number more before rest are =
    closed_end (length {A = List Change} [] + more) 2 before (CLOSED_GATE ∷ rest) refl
spelled_log (cs ∷ batches) number more before rest are =
    let tail : List ℕ = spelled (number + 1) batches ++ CLOSED_GATE ∷ rest in
    let whole : List ℕ = record_bytes 2 number cs ++ tail in
    let regroup : spelled number (cs ∷ batches) ++ CLOSED_GATE ∷ rest ≡ whole =
    append_assoc (record_bytes 2 number cs) (spelled (number + 1) batches) (CLOSED_GATE ∷ rest) in
    let some : 0 < length tail =
    omega (arith, length-append (spelled (number + 1) batches) (CLOSED_GATE ∷ rest)) in
    let none = goes_on 2 number cs tail before are.2 are.3 are.1 are.0 are.4 some in
    let is = entry_is 2 number cs tail are.2 are.3 are.1 are.0 in
    let shift : length (cs ∷ batches) + more ≡ suc (length batches + more) = omega arith in
    ap (λ (k : ℕ). entries_in k 2 before (spelled number (cs ∷ batches) ++ CLOSED_GATE ∷ rest)) shift
    ∙ ap (entries_in (suc (length batches + more)) 2 before) regroup
    ∙ some_entry (length batches + more) 2 before whole (ap is_none none)
    ∙ ap (λ (x : Entry). x ∷ entries_in (length batches + more) 2 (Some x.number) (drop x.size whole)) is
    ∙ ap (λ (l : List ℕ). let e : Entry = record {
      size = record_size 2 (length (body_of cs));
      number = number;
      changes = cs;
    } in e ∷ entries_in (length batches + more) 2 (Some number) l) (rest_is 2 number cs tail)
    ∙ ap (λ (l : List Entry). let e : Entry = record {
      size = record_size 2 (length (body_of cs));
      number = number;
      changes = cs;
    } in e ∷ l) (spelled_log batches (number + 1) more (Some number) rest are.5)
