-- The records of a bank, read one behind another.
use Rattle.std.proofs.Common.{◌≡◌, ℕ, zero, suc, ◌+◌, ◌<◌, ◌≤◌, List, [], ◌∷◌, ◌++◌, length, drop}
use Rattle.std.proofs.Common.{refl}
use Rattle.std.proofs.Common.{sym, ap, ◌∙◌, arith, subst, true, false, Option, Some, None}
use Rattle.std.proofs.Common.{append_assoc, map}
use Rattle.std.proofs.lemmas.List.{drop-drop, length-drop, append-nil}
use Rattle.std.specs.List.{flat_map}
use Rattle.var_log.specs.declared.change.Change.{Change}
use Rattle.var_log.specs.Banks.{last_of, taken}
use Rattle.var_log.specs.Records.{Entry, entries_in, entry_of}
use Rattle.var_log.specs.Scans.{is_record, HasRead, IsRecordRead}
use Rattle.var_log.specs.declared.scanning.Front.{Front}
use Rattle.var_log.specs.declared.seen.Seen.{Seen}
use Rattle.var_log.specs.Seen.{as_change}
use Rattle.var_log.proofs.Splits.{no_entries, some_entry, nothing}

-- the changes of records
abbrev pub changes_of : List Entry → List Change
changes_of = flat_map (λ (e : Entry). e.changes)

-- these changes were read of the first bytes, and these records are left
pub record Left (format : ℕ) (bytes : List ℕ) (most : ℕ) (cs : List Change) (n : ℕ)
    (last : Option ℕ) (more : ℕ) (rest : List Entry) : Type 0 where
  pub is : rest ≡ entries_in more format last (drop n bytes)
  pub enough : length (drop n bytes) ≤ more
  pub changes : changes_of (entries_in most format None bytes) ≡ cs ++ changes_of rest
  pub takes : taken (entries_in most format None bytes) ≡ n + taken rest
  pub lasts : last_of None (entries_in most format None bytes) ≡ last_of last rest

-- what the loop keeps
pub record Reading (format : ℕ) (bytes : List ℕ) (cs : List Change) (n : ℕ) (last : Option ℕ) : Type 0 where
  pub within : n < length bytes
  pub left : (most : ℕ) → length bytes ≤ most
      → (more : ℕ) × (rest : List Entry) × Left format bytes most cs n last more rest

pub begins : (format : ℕ) (bytes : List ℕ) → 0 < length bytes → Reading format bytes [] 0 None
begins format bytes some = record {
  within = some;
  left = λ most enough. (
    most,
    entries_in most format None bytes,
    record { is = refl; enough = enough; changes = refl; takes = omega arith; lasts = refl },
  );
}

step : (format : ℕ) (bytes : List ℕ) (most : ℕ) (cs : List Change) (n : ℕ) (last : Option ℕ)
    (more : ℕ) (rest : List Entry) (e : Entry) → Left format bytes most cs n last more rest
    → e ≡ entry_of format (drop n bytes) → is_record format last (drop n bytes) ≡ true
    → 0 < e.size → e.size < length (drop n bytes)
    → (more : ℕ) × (rest : List Entry)
    × Left format bytes most (cs ++ e.changes) (n + e.size) (Some e.number) more rest
step format bytes most cs n last zero rest e l here stands some within =
    absurd (omega (arith, l.enough))
step format bytes most cs n last (suc m) rest e l here stands some within =
    let left = entries_in m format (Some e.number) (drop (n + e.size) bytes) in
    let split : rest ≡ e ∷ left =
    l.is ∙ some_entry m format last (drop n bytes) stands
    ∙ ap (λ (x : Entry). x ∷ entries_in m format (Some x.number) (drop x.size (drop n bytes))) (sym here)
    ∙ ap (λ (b : List ℕ). e ∷ entries_in m format (Some e.number) b) (drop-drop e.size n bytes) in (
      m,
      left,
      record {
        is = refl;
        enough = omega (
          arith,
          l.enough,
          length-drop n bytes,
          length-drop (n + e.size) bytes,
          some,
        );
        changes = l.changes ∙ ap (λ (es : List Entry). cs ++ changes_of es) split
            ∙ sym (append_assoc cs e.changes (changes_of left));
        takes = omega (arith, l.takes, ap taken split);
        lasts = l.lasts ∙ ap (last_of last) split;
      },
    )

pub goes_on_reading : (format : ℕ) (bytes : List ℕ) (cs : List Change) (n : ℕ) (last : Option ℕ) (e : Entry)
    → Reading format bytes cs n last
    → e ≡ entry_of format (drop n bytes) → is_record format last (drop n bytes) ≡ true
    → 0 < e.size → e.size < length (drop n bytes)
    → Reading format bytes (cs ++ e.changes) (n + e.size) (Some e.number)
goes_on_reading format bytes cs n last e r here stands some within = record {
  within = omega (arith, r.within, length-drop n bytes, within);
  left = λ most enough.
      let l = r.left most enough in
      step format bytes most cs n last l.0 l.1 e l.2 here stands some within;
}

none_left : (more format : ℕ) (last : Option ℕ) (bytes : List ℕ) → is_record format last bytes ≡ false
    → entries_in more format last bytes ≡ []
none_left zero format last bytes ends = nothing format last bytes
none_left (suc m) format last bytes ends = no_entries m format last bytes ends

pub record_read : (format : ℕ) (bytes : List ℕ) (old new : List Seen) (n : ℕ) (last : Option ℕ) (f : Front)
    → Reading format bytes (map as_change old) n last
    → IsRecordRead format last (drop n bytes) old new f
    → Reading format bytes (map as_change new) (n + f.size) (Some f.number)
record_read format bytes old new n last f r is =
    let e = entry_of format (drop n bytes) in
    let cs = map as_change old ++ e.changes in
    subst (λ (l : List Change). Reading format bytes l (n + f.size) (Some f.number)) (sym is.changes)
    (subst (λ (k : ℕ). Reading format bytes cs (n + k) (Some f.number)) (sym is.size)
    (subst (λ (m : ℕ). Reading format bytes cs (n + e.size) (Some m)) (sym is.number)
    (goes_on_reading format bytes (map as_change old) n last e r refl is.stands
    (omega (arith, is.size, is.some)) (omega (arith, is.size, is.within)))))

pub ends_reading : (format : ℕ) (bytes : List ℕ) (cs : List Change) (n : ℕ) (last : Option ℕ)
    → Reading format bytes cs n last → is_record format last (drop n bytes) ≡ false
    → HasRead format bytes cs n last
ends_reading format bytes cs n last r ends = record {
  within = r.within;
  are = λ most enough.
      let l = r.left most enough in
      let none : l.1 ≡ [] = l.2.is ∙ none_left l.0 format last (drop n bytes) ends in
      record {
        changes_are = l.2.changes ∙ ap (λ (es : List Entry). cs ++ changes_of es) none ∙ append-nil cs;
        taken_is = omega (arith, l.2.takes, ap taken none);
        last_is = l.2.lasts ∙ ap (last_of last) none;
      };
}
