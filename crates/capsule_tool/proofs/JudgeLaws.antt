-- What a stream that was read tells of its input.
use Rattle.std.proofs.Common.{◌≡◌, ℕ, ◌+◌, ◌-◌, ◌^◌, ◌<◌, min, List, ◌++◌, length, append-nil}
use Rattle.std.proofs.Common.{length-append, ap, ◌∙◌, arith}
use Rattle.std.specs.Prelude.{Option, None, Some, IsSome, IsSomeAnd}
use Rattle.std.specs.Io.KnownBytes.{Consumes, IsAtEnd}
use Rattle.cu_base.specs.Causes.{RoseBy}
use Rattle.cu_io.specs.Named.{Named, bytes_named, Opens}
use Rattle.cu_io.specs.Streams.{SourceSeen, Progress, come_to, Goes, Passes}
use Rattle.capsule_tool.specs.Readings.{MayHold, MayPassLimit}

-- a stream that was just made
pub record IsBegun (rest : Option (List ℕ)) (count : ℕ) (p : Progress) : Type 0 where
  pub left : p.left ≡ rest
  pub taken : p.taken ≡ count

pub begun : (source : SourceSeen) (p : Progress) → p ≡ come_to source 0
    → IsBegun source.left source.taken p
begun source p is =
    record { left = ap (λ (p : Progress). p.left) is; taken = ap (λ (p : Progress). p.taken) is }

no_some : IsSome {T = List ℕ} None → ⊥
no_some is = cc

named_bytes : (named : Named) (name bytes : List ℕ) (left left' : Option (List ℕ))
    → Opens (Some named) name left → Consumes left left' bytes → IsAtEnd left'
    → bytes_named named name ≡ Some bytes
named_bytes named name bytes None left' opens consumed end = absurd (no_some opens.1)
named_bytes named name bytes (Some xs) None opens consumed end = absurd consumed
named_bytes named name bytes (Some xs) (Some ys) opens consumed end =
    opens.0 ∙ ap Some (consumed ∙ (ap (λ l. bytes ++ l) end ∙ append-nil bytes))

pub may_hold : (named : Option Named) (name bytes : List ℕ) (left : Option (List ℕ)) (taken : ℕ)
    (a b : Progress) → IsBegun left taken a → Opens named name left → Goes bytes a b
    → IsAtEnd b.left
    → MayHold named name bytes
may_hold None name bytes left taken a b is opens goes end = tt
may_hold (Some named) name bytes left taken a b is opens goes end =
    named_bytes named name bytes left b.left opens (rw is.left at goes.consumed) end

some_past : (found : Option (List ℕ)) (xs : List ℕ) (limit : ℕ) → found ≡ Some xs
    → limit < length xs → IsSomeAnd found (λ bytes. limit < length bytes)
some_past found xs limit is past = rw is past

named_past : (named : Named) (name bytes : List ℕ) (limit : ℕ) (left left' : Option (List ℕ))
    → Opens (Some named) name left → Consumes left left' bytes → length bytes ≡ limit + 1
    → IsSomeAnd (bytes_named named name) (λ bytes. limit < length bytes)
named_past named name bytes limit None left' opens consumed long = absurd (no_some opens.1)
named_past named name bytes limit (Some xs) None opens consumed long = absurd consumed
named_past named name bytes limit (Some xs) (Some ys) opens consumed long =
    some_past (bytes_named named name) xs limit opens.0
    (omega (arith, ap length consumed, length-append bytes ys, long))

pub may_pass : (named : Option Named) (name : List ℕ) (limit : ℕ) (left : Option (List ℕ))
    (taken : ℕ) (a b : Progress) → IsBegun left taken a → Opens named name left
    → Passes (limit + 1) a b
    → MayPassLimit named limit name
may_pass None name limit left taken a b is opens passes = tt
may_pass (Some named) name limit left taken a b is opens (bytes, long, goes) =
    named_past named name bytes limit left b.left opens (rw is.left at goes.consumed) long

-- the source's count is added to that of the inputs
pub counted : (n taken before given after : ℕ) (bytes : List ℕ) (left : Option (List ℕ))
    (a b : Progress) → IsBegun left taken a → taken ≡ 0 → Goes bytes a b → length bytes ≡ n
    → given ≡ b.taken
    → after ≡ min (before + given) (2 ^ 64 - 1) → RoseBy n before after
counted n taken before given after bytes left a b is none goes long same sum =
    omega (arith, is.taken, none, goes.counted, long, same, sum)
