-- One batch over every image of the banks: each has the variables and the number of the last batch
-- that an image at entry had, or these with the batch, wholly.
use Rattle.std.specs.Prelude.{◌≡◌, ◌⊎◌, ℕ, ◌+◌, List, [], ◌∷◌, Option, Some, None, option_map}
use Rattle.std.specs.Prelude.{bit_or, IfSome}
use Rattle.bench_model.specs.Bench.{AreImages, BenchValue}
use Rattle.stored_vars.specs.Holds.{indications_of}
use Rattle.stored_vars.specs.Numbers.{number_bytes}
use Rattle.stored_vars.specs.Variables.{attributes_of, guid_of, name_of}
use Rattle.stored_vars.specs.declared.variable.StoredVar.TheVariants.{OsIndications}
use Rattle.var_store.specs.declared.note.Note.{Note}
use Rattle.var_log.specs.declared.change.Change.{Change}
use Rattle.var_log.specs.declared.change.Change.TheVariants.{Set}
use Rattle.var_log.specs.Banks.{StoreValue, store_of}
use Rattle.var_log.specs.Changes.{Variables, after}

-- a store but for its generation
pub record Content : Type 0 where
  pub variables : Variables
  pub seq : ℕ

-- what a store holds, whatever its generation
abbrev pub content_of : Option StoreValue → Option Content
content_of = option_map (λ s. record { variables = s.variables; seq = s.seq })

-- the same with a batch more, which depends on the variables
abbrev pub with_batch_of : (Variables → List Change) → Option Content → Option Content
with_batch_of batch = option_map (λ c. record {
  variables = after c.variables (batch c.variables);
  seq = c.seq + 1;
})

-- a store holds what an image at entry held
pub record HoldsAsBefore (old : BenchValue) (store : Option StoreValue) : Type 0 where
  pub image : ℕ → List ℕ
  pub was : AreImages old.contents image
  pub is : content_of store ≡ content_of (store_of image)

-- a store holds that with the batch
pub record HoldsBatch (batch : Variables → List Change) (old : BenchValue)
    (store : Option StoreValue) : Type 0 where
  pub image : ℕ → List ℕ
  pub was : AreImages old.contents image
  pub is : content_of store ≡ with_batch_of batch (content_of (store_of image))

-- each image has the batch
abbrev pub HasStored : (Variables → List Change) → BenchValue → BenchValue → Type 0
HasStored batch old new =
    (image : ℕ → List ℕ) → AreImages new.contents image → HoldsBatch batch old (store_of image)

-- no image has the batch where none is in doubt; else each has it or not
abbrev pub MayHaveStored : (Variables → List Change) → Option ℕ → BenchValue → BenchValue → Type 0
MayHaveStored batch None old new =
    (image : ℕ → List ℕ) → AreImages new.contents image → HoldsAsBefore old (store_of image)
MayHaveStored batch (Some number) old new =
    (image : ℕ → List ℕ) → AreImages new.contents image
    → HoldsAsBefore old (store_of image) ⊎ HoldsBatch batch old (store_of image)

-- each image has the batch over what was read
abbrev pub HasStoredRead : (Variables → List Change) → BenchValue → BenchValue → Type 0
HasStoredRead batch old new =
    (image : ℕ → List ℕ) → AreImages new.contents image
    → content_of (store_of image) ≡ with_batch_of batch (content_of (store_of old.contents.bytes))

-- each image has what was read, where no batch is in doubt; else each has that with the batch or not
abbrev pub MayHaveStoredRead : (Variables → List Change) → Option ℕ → BenchValue → BenchValue
    → Type 0
MayHaveStoredRead batch None old new =
    (image : ℕ → List ℕ) → AreImages new.contents image
    → content_of (store_of image) ≡ content_of (store_of old.contents.bytes)
MayHaveStoredRead batch (Some number) old new =
    (image : ℕ → List ℕ) → AreImages new.contents image
    → (content_of (store_of image) ≡ content_of (store_of old.contents.bytes))
    ⊎ (content_of (store_of image)
    ≡ with_batch_of batch (content_of (store_of old.contents.bytes)))

-- the same once the store was opened, by what was noted of it
abbrev pub StoresRead : (Variables → List Change) → Note → BenchValue → BenchValue → Type 0
StoresRead batch note old new =
    IfSome note.opened (λ seq. MayHaveStoredRead batch note.pending old new)

-- the batch of `signal`: OsIndications with bit 0x04 (UEFI 2.10, 8.5.4)
abbrev pub signal_batch : Variables → List Change
signal_batch variables =
    Set (name_of OsIndications) (guid_of OsIndications) (attributes_of OsIndications)
    (number_bytes (bit_or (indications_of variables) 4)) ∷ []
