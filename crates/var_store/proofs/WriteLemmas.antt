-- A batch that is written in one call, over every image of the banks.
use Rattle.std.proofs.Common.{◌≡◌, ◌⊎◌, inl, inr, ℕ, ◌+◌, List, refl, sym, ap, ◌∙◌, subst}
use Rattle.std.proofs.Common.{true, false, Some, None, arith, if◌then◌else◌, nat_le}
use Rattle.std.specs.Prelude.{Bool, Option, OnErr, Result, Ok, Err, option_map}
use Rattle.std.proofs.lemmas.Bool.{false≢true}
use Rattle.bench_model.specs.Bench.{AreImages, BenchValue}
use Rattle.var_log.specs.declared.change.Change.{Change}
use Rattle.var_log.specs.Banks.{StoreValue, reclaimed_store, store_of}
use Rattle.var_log.specs.Changes.{after, no_variables}
use Rattle.var_log.specs.Logs.{ChangesBanks, HasBatch, HasBatchOrNot, KeepsVariables, LogValue}
use Rattle.var_log.specs.Logs.{free_of, log_after, log_reclaimed, store_as_read, store_with}
use Rattle.var_log.specs.declared.fault.LogFault.TheVariants.{Flash, NoBank, Full, Stale}
use Rattle.var_log.specs.declared.fault.LogFault.TheVariants as log
use Rattle.var_store.specs.declared.fault.StoreFault.{StoreFault}
use Rattle.var_store.specs.declared.fault.StoreFault.TheVariants.{Log, BadName, TooBig, Memory}
use Rattle.var_store.specs.Answers.{CommitLeaves, IsCommitted, is_stale, with_room_for}
use Rattle.var_store.specs.Stores.{HeldStore, PreparedValue, variables_of}
use Rattle.var_store.specs.Writes.{HasIn, HasWritten, IsOrReclaims, IsWritten, MayHaveWritten}
use Rattle.var_store.proofs.StoreLemmas.{read_image}

pub banks_then : (a b c : BenchValue) → ChangesBanks a b → ChangesBanks b c → ChangesBanks a c
banks_then a b c first second = record {
  told = second.told ∙ first.told;
  regions = second.regions ∙ first.regions;
  long = λ k low. second.long k low ∙ first.long k low;
  bytes = λ k high. second.bytes k high ∙ first.bytes k high;
  dirty = λ k high. second.dirty k high ∙ first.dirty k high;
  rest = second.rest ∙ first.rest;
  spare = second.spare ∙ first.spare;
  orders = second.orders ∙ first.orders;
}

module _ (old mid new : BenchValue) (told : new.contents.told ≡ mid.contents.told)
    (keeps : KeepsVariables old mid) (changes : List Change) where
  -- the store as read once there was room
  between : (image : ℕ → List ℕ) → AreImages new.contents image
      → IsOrReclaims (store_as_read old) (store_as_read mid)
  between image is = keeps mid.contents.bytes (read_image mid (sym told ∙ (is 0).told))

  with_it : (store : Option StoreValue) → IsOrReclaims (store_as_read old) (store_as_read mid)
      → store ≡ store_with changes (store_as_read mid) → HasIn changes (store_as_read old) store
  with_it store (inl same) is = inl (is ∙ ap (store_with changes) same)
  with_it store (inr reclaimed) is = inr (is ∙ ap (store_with changes) reclaimed)

  pub has_written : HasBatch changes mid new → HasWritten changes old new
  has_written batch image is = with_it (store_of image) (between image is) (batch image is)

  pub may_have_written : HasBatchOrNot changes mid new → (number : ℕ)
      → MayHaveWritten changes (Some number) old new
  may_have_written batch number image is = elim (batch image is) [
    | inl kept ↦ elim (between image is) [
      | inl same ↦ inl (inl (kept ∙ same))
      | inr reclaimed ↦ inl (inr (kept ∙ reclaimed))
    ]
    | inr has ↦ inr (with_it (store_of image) (between image is) has)
  ]

-- room leaves the number, the batch in doubt and the variables
pub room_keeps : (bytes : ℕ) (s : HeldStore) → (enough : Bool) → nat_le bytes (free_of s.log) ≡ enough
    → ((with_room_for bytes s).log.seq ≡ s.log.seq)
    × ((with_room_for bytes s).log.pending ≡ s.log.pending)
    × ((with_room_for bytes s).log.stale ≡ s.log.stale)
    × ((with_room_for bytes s).places ≡ s.places)
room_keeps bytes s true is = rw is (refl, refl, refl, refl)
room_keeps bytes s false is = rw is (refl, refl, refl, refl)

pub written_is : (bytes : ℕ) (changes : List Change) (old mid new : HeldStore)
    → mid ≡ with_room_for bytes old → old.log.stale ≡ false → IsCommitted bytes changes mid new
    → IsWritten changes old new
written_is bytes changes old mid new room fresh done =
    let kept = room_keeps bytes old (nat_le bytes (free_of old.log)) refl in
    record {
      seq = ap (λ (l : LogValue). l.seq) done.log
          ∙ ap (λ (s : HeldStore). s.log.seq + 1) room ∙ ap (λ (n : ℕ). n + 1) kept.0;
      pending = ap (λ (l : LogValue). l.pending) done.log
          ∙ ap (λ (s : HeldStore). s.log.pending) room ∙ kept.1;
      stale = ap (λ (l : LogValue). l.stale) done.log
          ∙ ap (λ (s : HeldStore). s.log.stale) room ∙ kept.2 ∙ fresh;
      variables = done.variables
          ∙ ap (λ (s : HeldStore). after (variables_of s) changes) room
          ∙ ap (λ (ps : List Change). after (after no_variables ps) changes) kept.3;
    }

-- where the flash failed the commit, the batch is in doubt
pub stopped_is : (p : PreparedValue) (old mid new : HeldStore) → mid ≡ with_room_for p.size old
    → old.log.stale ≡ false → (fault : StoreFault) → CommitLeaves {T = Unit {0}} p mid new (Err fault)
    → is_stale {T = Unit {0}} (Err fault) ≡ mid.log.stale
    → (fault ≡ Log Flash) × (new.log.pending ≡ Some (old.log.seq + 1))
stopped_is p old mid new room fresh (Log Flash) left stale =
    let kept = room_keeps p.size old (nat_le p.size (free_of old.log)) refl in (
      refl,
      ap (λ (s : HeldStore). s.log.pending) left
          ∙ ap (λ (s : HeldStore). Some (s.log.seq + 1)) room ∙ ap (λ (n : ℕ). Some (n + 1)) kept.0,
    )
stopped_is p old mid new room fresh (Log NoBank) left stale = absurd left
stopped_is p old mid new room fresh (Log Full) left stale = absurd left
stopped_is p old mid new room fresh (Log Stale) left stale =
    let kept = room_keeps p.size old (nat_le p.size (free_of old.log)) refl in
    absurd (false≢true (sym (stale ∙ ap (λ (s : HeldStore). s.log.stale) room ∙ kept.2 ∙ fresh)))
stopped_is p old mid new room fresh (Log log.Memory) left stale = absurd left
stopped_is p old mid new room fresh BadName left stale = absurd left
stopped_is p old mid new room fresh TooBig left stale = absurd left
stopped_is p old mid new room fresh Memory left stale = absurd left

pub on_err : {T E : Type 0} {P : Type 0} (r : Result T E) → P → OnErr r P
on_err (Ok x) p = tt
on_err (Err e) p = p

pub room_usable : (bytes : ℕ) (s room : HeldStore) → room ≡ with_room_for bytes s
    → s.log.stale ≡ false → room.log.stale ≡ false
room_usable bytes s room is fresh =
    let kept = room_keeps bytes s (nat_le bytes (free_of s.log)) refl in
    ap (λ (x : HeldStore). x.log.stale) is ∙ kept.2 ∙ fresh
