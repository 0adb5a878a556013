-- What is seen of inputs at a moment, and how their calls move it on.
use Rattle.std.specs.Prelude.{◌≡◌, ℕ, ◌+◌, ◌-◌, ◌^◌, ◌≤◌, ◌∷◌, [], ◌++◌, ◌⊎◌, min, List, Option}
use Rattle.std.specs.Prelude.{Result, IsErrOf}
use Rattle.cu_base.specs.Causes.{HasCauseOf}
use Rattle.cu_io.specs.Named.{Named, Opens}
use Rattle.cu_io.specs.Streams.{SourceSeen}
use Rattle.cu_io.specs.declared.inputs.OpenFault.{OpenFault}
use Rattle.cu_io.specs.declared.inputs.OpenFault.TheVariants.{Failed, Memory}

-- the names and the bytes of each, where they are told; the names that were asked for, in order;
-- how often opening failed, and reading at the sources that came back; and how many bytes these
-- sources gave
pub record Seen : Type 0 where
  pub named : Option Named
  pub asked : List (List ℕ)
  pub faults : ℕ
  pub taken : ℕ

-- the names and their bytes stay, and the count of faults never falls
pub record Follows (before after : Seen) : Type 0 where
  pub named : after.named ≡ before.named
  pub counts : before.faults ≤ after.faults

-- the name is asked for, or want of memory came before
abbrev pub MayAsk : List ℕ → Seen → Seen → Type 0
MayAsk name before after =
    (after.asked ≡ before.asked) ⊎ (after.asked ≡ before.asked ++ name ∷ [])

-- the name is asked for at every answer but want of memory, where it may be; no byte is counted
pub record Asks {T : Type 0} (name : List ℕ) (before after : Seen) (result : Result T OpenFault)
    : Type 0 where
  pub asked : IsErrOf result Memory ⊎ (after.asked ≡ before.asked ++ name ∷ [])
  pub may : MayAsk name before after
  pub taken : after.taken ≡ before.taken

-- opening failed only where the count of faults rose
abbrev pub HasOpenCause : {T : Type 0} → Seen → Seen → Result T OpenFault → Type 0
HasOpenCause before after result = HasCauseOf Failed before.faults after.faults result

-- a source that was opened: of the bytes of its name, where names are told, and nothing was read of
-- it
pub record IsOpened (inputs : Seen) (name : List ℕ) (source : SourceSeen) : Type 0 where
  pub left : Opens inputs.named name source.left
  pub taken : source.taken ≡ 0
  pub faults : source.faults ≡ 0

-- a source came back: the bytes that it gave and its faults are added
pub record TakesBack (source : SourceSeen) (before after : Seen) : Type 0 where
  pub asked : after.asked ≡ before.asked
  pub taken : after.taken ≡ min (before.taken + source.taken) (2 ^ 64 - 1)
  pub faults : after.faults ≡ min (before.faults + source.faults) (2 ^ 64 - 1)
