-- A batch of one set within its limits is a record.
use Rattle.std.proofs.Common.{◌≡◌, ℕ, zero, suc, ◌+◌, ◌≤◌, List, [], ◌∷◌, ◌++◌, length, arith, ap}
use Rattle.std.proofs.Common.{sym, subst, true, All, IsTrue, nat_le, length-append}
use Rattle.std.proofs.lemmas.Bool.{le-leb}
use Rattle.std.proofs.lemmas.List.{append-nil}
use Rattle.var_log.specs.declared.change.Change.{Change}
use Rattle.var_log.specs.declared.change.Change.TheVariants.{Set}
use Rattle.var_log.specs.declared.limits.TheConstants.{MAX_DATA, MAX_CHANGES, MAX_RECORD}
use Rattle.var_log.specs.Changes.{is_name, keeps_limits}
use Rattle.var_log.specs.Records.{body_of, change_bytes, record_size}
use Rattle.var_log.proofs.Sizes.{name_small}
use Rattle.var_log.proofs.Spelled.{and_true, length_of_set}

-- what a record asks of a batch
pub record IsRecordable (batch : List Change) : Type 0 where
  pub limits : All (λ c. IsTrue (keeps_limits c)) batch
  pub count : length batch ≤ MAX_CHANGES
  pub size : record_size 2 (length (body_of batch)) ≤ MAX_RECORD

small_record : (n : ℕ) → n ≤ 65536 → record_size 2 n ≤ MAX_RECORD
small_record n small = omega (arith, small)

one_keeps : (c : Change) → keeps_limits c ≡ true → All (λ d. IsTrue (keeps_limits d)) (c ∷ [])
one_keeps c keeps zero d within = keeps
one_keeps c keeps (suc k) d within = absurd (omega arith)

pub one_set : (name g v : List ℕ) (a : ℕ) → is_name name ≡ true → length v ≤ MAX_DATA → length g ≡ 16
    → IsRecordable (Set name (record { bytes = g }) a v ∷ [])
one_set name g v a named small long =
    let c : Change = Set name (record { bytes = g }) a v in
    record {
      limits = one_keeps c (and_true (is_name name) (nat_le (length v) MAX_DATA) named (le-leb _ _ small));
      count = omega arith;
      size = small_record (length (body_of (c ∷ []))) (omega (
        arith,
        ap (λ (l : List ℕ). 2 + length l) (append-nil (change_bytes c)),
        name_small name named,
        small,
        long,
        length_of_set name g v a,
      ));
    }
