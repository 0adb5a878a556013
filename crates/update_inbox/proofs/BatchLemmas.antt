-- One batch on an open store, over every image of the banks.
use Rattle.std.proofs.Common.{◌≡◌, inl, inr, ℕ, ◌+◌, List, refl, sym, ap, ◌∙◌, subst, false}
use Rattle.std.proofs.Common.{Some, None, true, arith}
use Rattle.std.specs.Prelude.{Bool, IfSome, Option, Err, option_map}
use Rattle.std.proofs.Common.{cond}
use Rattle.std.proofs.lemmas.List.{ext_get_or}
use Rattle.bench_model.specs.Regions.{IsImage, IsStable, Region}
use Rattle.bench_model.specs.Bench.{AreImages, BenchValue, region_at}
use Rattle.std.proofs.lemmas.Bool.{false≢true}
use Rattle.update_inbox.specs.Answers.{BatchAnswers, IsOpening, inbox_fault_of}
use Rattle.update_inbox.specs.Batches.{signal_batch}
use Rattle.update_inbox.specs.Batches.{Content, HasStored, HoldsAsBefore, HoldsBatch}
use Rattle.update_inbox.specs.Batches.{HasStoredRead, MayHaveStored, MayHaveStoredRead}
use Rattle.update_inbox.specs.Batches.{StoresRead, content_of, with_batch_of}
use Rattle.update_inbox.specs.Answers.{opened_at}
use Rattle.var_log.proofs.BankLemmas.{same_bank, same_store}
use Rattle.var_store.specs.declared.note.Note.{Note}
use Rattle.var_log.specs.declared.change.Change.{Change}
use Rattle.var_log.specs.Banks.{StoreValue, reclaimed_store, store_of}
use Rattle.var_log.specs.Changes.{Variables, after}
use Rattle.var_log.specs.Logs.{store_as_read, store_with}
use Rattle.var_log.specs.Opens.{IsStoreBefore, KeepsStores, is_old}
use Rattle.var_log.specs.declared.fault.LogFault.TheVariants.{Flash, NoBank, Full, Stale}
use Rattle.var_log.specs.declared.fault.LogFault.TheVariants as log
use Rattle.var_store.specs.declared.fault.StoreFault.{StoreFault}
use Rattle.var_store.specs.declared.fault.StoreFault.TheVariants.{Log, BadName, TooBig, Memory}
use Rattle.var_store.specs.Answers.{refusal_of}
use Rattle.var_store.specs.Stores.{HeldStore, Stands, prepared_of, store_value, variables_of}
use Rattle.var_store.specs.Writes.{AnswersWrite, HasIn, HasWritten, IsOrReclaims}
use Rattle.var_store.specs.Writes.{MayHaveWritten, RoomIs}
use Rattle.var_store.proofs.StoreLemmas.{read_image}

none_some : {A : Type 0} {x : A} → None ≡ Some x → ⊥
none_some e = grind (arith, e)

-- a reclaim leaves what a store holds
content_reclaimed : (s : Option StoreValue) → content_of (option_map reclaimed_store s) ≡ content_of s
content_reclaimed None = refl
content_reclaimed (Some s) = refl

-- what a store that was opened holds
abbrev held_by : HeldStore → Content
held_by s = record { variables = variables_of s; seq = s.log.seq }

-- the same once changes were made in one batch
abbrev with_changes : List Change → Content → Content
with_changes changes c = record { variables = after c.variables changes; seq = c.seq + 1 }

content_with : (changes : List Change) (s : Option StoreValue)
    → content_of (store_with changes s) ≡ option_map (with_changes changes) (content_of s)
content_with changes None = refl
content_with changes (Some s) = refl

content_kept : (before store : Option StoreValue) → IsOrReclaims before store
    → content_of store ≡ content_of before
content_kept before store (inl same) = ap content_of same
content_kept before store (inr more) = ap content_of more ∙ content_reclaimed before

-- opening keeps what the images held
pub held_before : (old : BenchValue) (store : Option StoreValue) → IsStoreBefore old store
    → HoldsAsBefore old store
held_before old store is = record {
  image = is.image;
  was = is.was;
  is = content_kept (store_of is.image) store is.is;
}

pub opening_keeps : (old mid : BenchValue) (batch : Variables → List Change) → KeepsStores old mid
    → MayHaveStored batch None old mid
opening_keeps old mid batch keeps image is = held_before old (store_of image) (keeps image is)

module _ (old mid new : BenchValue) (keeps : KeepsStores old mid)
    (told : new.contents.told ≡ mid.contents.told) (s : HeldStore) (stands : Stands s mid)
    (batch : Variables → List Change) (changes : List Change)
    (is_batch : changes ≡ batch (variables_of s)) where
  module _ (image : ℕ → List ℕ) (is : AreImages new.contents image) where
    told_between : mid.contents.told ≡ true
    told_between = sym told ∙ (is 0).told

    -- the store as it was opened holds what an image at entry held
    opened : HoldsAsBefore old (store_as_read mid)
    opened = held_before old (store_as_read mid)
        (keeps mid.contents.bytes (read_image mid told_between))

    read : store_as_read mid ≡ Some (store_value s)
    read = stands.store told_between

    pub stays : (store : Option StoreValue) → IsOrReclaims (store_as_read mid) store
        → HoldsAsBefore old store
    stays store kept = record {
      image = opened.image;
      was = opened.was;
      is = content_kept (store_as_read mid) store kept ∙ opened.is;
    }

    both : (store before : Option StoreValue) → content_of before ≡ content_of (store_as_read mid)
        → store ≡ store_with changes before
        → content_of store ≡ with_batch_of batch (content_of (store_as_read mid))
    both store before same has =
        let held : content_of (store_as_read mid) ≡ Some (held_by s) = ap content_of read in
        ap content_of has ∙ content_with changes before
        ∙ ap (option_map (with_changes changes)) (same ∙ held)
        ∙ ap (λ (cs : List Change). Some (with_changes cs (held_by s))) is_batch
        ∙ sym (ap (with_batch_of batch) held)

    pub gains : (store : Option StoreValue) → HasIn changes (store_as_read mid) store
        → HoldsBatch batch old store
    gains store has = record {
      image = opened.image;
      was = opened.was;
      is = elim has [
        | inl plain ↦ both store (store_as_read mid) refl plain
        | inr more ↦ both store (option_map reclaimed_store (store_as_read mid))
            (content_reclaimed (store_as_read mid)) more
      ] ∙ ap (with_batch_of batch) opened.is;
    }

  pub stored : HasWritten changes mid new → HasStored batch old new
  stored has image is = gains image is (store_of image) (has image is)

  pub may_have_stored : (pending : Option ℕ) → MayHaveWritten changes pending mid new
      → MayHaveStored batch pending old new
  may_have_stored None keeps2 = λ image is. stays image is (store_of image) (keeps2 image is)
  may_have_stored (Some number) may = λ image is. elim (may image is) [
    | inl kept ↦ inl (stays image is (store_of image) kept)
    | inr has ↦ inr (gains image is (store_of image) has)
  ]

-- what was read: the store that was opened
opened_content : (old : Bool) (o : Option StoreValue) (v : StoreValue)
    → cond old (option_map reclaimed_store o) o ≡ Some v → content_of (Some v) ≡ content_of o
opened_content true o v is = ap content_of (sym is) ∙ content_reclaimed o
opened_content false o v is = ap content_of (sym is)

module _ (old mid new : BenchValue) (told_as : mid.contents.told ≡ old.contents.told)
    (told : new.contents.told ≡ mid.contents.told) (s : HeldStore) (stands : Stands s mid)
    (opening : IsOpening old s) where
  module _ (is_told : mid.contents.told ≡ true) where
    same_read : content_of (store_as_read mid) ≡ content_of (store_of old.contents.bytes)
    same_read =
        ap content_of (stands.store is_told)
        ∙ opened_content (is_old old.contents.bytes) (store_of old.contents.bytes) (store_value s)
        (opening.is (sym told_as ∙ is_told))

    stays_read : (store : Option StoreValue) → IsOrReclaims (store_as_read mid) store
        → content_of store ≡ content_of (store_of old.contents.bytes)
    stays_read store kept = content_kept (store_as_read mid) store kept ∙ same_read

    module _ (batch : Variables → List Change) (changes : List Change)
        (is_batch : changes ≡ batch (variables_of s)) where
      both_read : (store before : Option StoreValue)
          → content_of before ≡ content_of (store_as_read mid) → store ≡ store_with changes before
          → content_of store
          ≡ with_batch_of batch (content_of (store_of old.contents.bytes))
      both_read store before same has =
          let held : content_of (store_as_read mid) ≡ Some (held_by s) =
          ap content_of (stands.store is_told) in
          ap content_of has ∙ content_with changes before
          ∙ ap (option_map (with_changes changes)) (same ∙ held)
          ∙ ap (λ (cs : List Change). Some (with_changes cs (held_by s))) is_batch
          ∙ sym (ap (with_batch_of batch) held) ∙ ap (with_batch_of batch) same_read

      gains_read : (store : Option StoreValue) → HasIn changes (store_as_read mid) store
          → content_of store
          ≡ with_batch_of batch (content_of (store_of old.contents.bytes))
      gains_read store (inl plain) = both_read store (store_as_read mid) refl plain
      gains_read store (inr more) =
          both_read store (option_map reclaimed_store (store_as_read mid))
          (content_reclaimed (store_as_read mid)) more

  module _ (batch : Variables → List Change) (changes : List Change)
      (is_batch : changes ≡ batch (variables_of s)) where
    pub stored_read : HasWritten changes mid new → HasStoredRead batch old new
    stored_read has image is =
        gains_read (sym told ∙ (is 0).told) batch changes is_batch (store_of image) (has image is)

    pub may_have_stored_read : (pending : Option ℕ) → MayHaveWritten changes pending mid new
        → MayHaveStoredRead batch pending old new
    may_have_stored_read None keeps = λ image is.
        stays_read (sym told ∙ (is 0).told) (store_of image) (keeps image is)
    may_have_stored_read (Some number) may = λ image is. elim (may image is) [
      | inl kept ↦ inl (stays_read (sym told ∙ (is 0).told) (store_of image) kept)
      | inr has ↦ inr (gains_read (sym told ∙ (is 0).told) batch changes is_batch
          (store_of image) has)
    ]

-- the one image of a region of which no place is dirty
stable_image : (r : Region) (image : List ℕ) → IsStable r → IsImage r image → image ≡ r.bytes
stable_image r image s is = ext_get_or 0 _ _ is.long (λ at h. is.same at (s.clean at))

-- each image of a store that was opened is what was read
pub opening_reads : (old mid : BenchValue) (batch : Variables → List Change)
    → mid.contents.told ≡ old.contents.told → (s : HeldStore) → Stands s mid → IsOpening old s
    → MayHaveStoredRead batch None old mid
opening_reads old mid batch told_as s stands opening image is =
    let told = (is 0).told in
    let lies = stands.log.lies.told told in
    let first : image 0 ≡ mid.contents.bytes 0 =
    stable_image (region_at mid.contents 0) (image 0) lies.first (is 0) in
    let second : image 1 ≡ mid.contents.bytes 1 =
    stable_image (region_at mid.contents 1) (image 1) lies.second (is 1) in
    stays_read old mid mid told_as refl s stands opening told (store_of image)
    (inl (same_store mid.contents.bytes image
    (same_bank (mid.contents.bytes 0) (image 0) first)
    (same_bank (mid.contents.bytes 1) (image 1) second)))

-- what is noted of a store
pub noted_read : (batch : Variables → List Change) (note : Note) (old new : BenchValue)
    → MayHaveStoredRead batch note.pending old new → StoresRead batch note old new
noted_read batch note old new may = by_opened note.opened
  where
    by_opened : (opened : Option ℕ)
        → IfSome opened (λ seq. MayHaveStoredRead batch note.pending old new)
    by_opened None = tt
    by_opened (Some seq) = may

-- the same where only the opening is noted
pub opening_noted : (batch : Variables → List Change) (note : Note) (seq : ℕ)
    (old new : BenchValue) → note ≡ opened_at seq → MayHaveStoredRead batch None old new
    → StoresRead batch note old new
opening_noted batch note seq old new is may =
    noted_read batch note old new (subst (λ (pending : Option ℕ).
    MayHaveStoredRead batch pending old new) (sym (ap (λ (n : Note). n.pending) is)) may)

-- the batch of `signal` is within the limits
pub signal_fits : (variables : Variables) → refusal_of (signal_batch variables) ≡ None
signal_fits variables = refl

-- why a batch that is within the limits was not written
pub batch_refused : (batch : Variables → List Change) (old : BenchValue) (s : HeldStore)
    → IsOpening old s → s.log.stale ≡ false → (changes : List Change)
    → changes ≡ batch (variables_of s)
    → refusal_of (batch (variables_of s)) ≡ None → (fault : StoreFault)
    → AnswersWrite {T = Unit {0}} changes s (Err fault)
    → BatchAnswers {T = Unit {0}} batch old (Err (inbox_fault_of fault))
batch_refused batch old s opening fresh changes is fits (Log Flash) answer = tt
batch_refused batch old s opening fresh changes is fits (Log NoBank) answer = absurd answer
batch_refused batch old s opening fresh changes is fits (Log Full) answer =
    inr (record {
      store = s;
      opened = opening;
      none = subst (λ (cs : List Change). RoomIs (prepared_of cs).size s false) is answer.2;
    })
batch_refused batch old s opening fresh changes is fits (Log Stale) answer =
    absurd (false≢true (sym fresh ∙ answer.1))
batch_refused batch old s opening fresh changes is fits (Log log.Memory) answer = absurd answer
batch_refused batch old s opening fresh changes is fits BadName answer =
    absurd (none_some (sym fits ∙ sym (ap refusal_of is) ∙ answer))
batch_refused batch old s opening fresh changes is fits TooBig answer =
    absurd (none_some (sym fits ∙ sym (ap refusal_of is) ∙ answer))
batch_refused batch old s opening fresh changes is fits Memory answer = tt
