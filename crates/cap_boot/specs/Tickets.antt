-- The tickets of the attempts on a device, and which of them were begun.
use Rattle.std.specs.Prelude.{◌≡◌, ◌≢◌, ℕ, ◌&&◌, List, [], ◌∷◌, ◌++◌, map, filter, AllPairs, IsTrue}
use Rattle.std.specs.Prelude.{Option, None, Some}
use Rattle.cu_base.specs.declared.ticket.Ticket.{Ticket}
use Rattle.bench_model.specs.Boards.{BoardValue}
use Rattle.reference_machine.specs.Events.{IsIn}
use Rattle.reference_machine.specs.Spent.{Element, Image, end_of, image_of, is_attempt, is_on}
use Rattle.reference_machine.specs.declared.unit.End.{End}
use Rattle.reference_machine.specs.declared.unit.End.TheVariants.{Refused, Sealed, Kept, Lost}

-- the first list is the second without some of its tickets, in order
pub data IsSublist : List Ticket → List Ticket → Type 0 where
  none : IsSublist [] []
  skip : {y : Ticket} {xs ys : List Ticket} → IsSublist xs ys → IsSublist xs (y ∷ ys)
  keep : {y : Ticket} {xs ys : List Ticket} → IsSublist xs ys → IsSublist (y ∷ xs) (y ∷ ys)

-- the tickets of the attempts on a device, in order
abbrev pub attempts_on : List Element → ℕ → List Ticket
attempts_on list d = map (λ e. e.key.ticket) (filter (λ e. is_on d e && is_attempt e) list)

-- an attempt that ended so, over what the device held before it, had begun: it sealed its image, or
-- an image that stood there was lost
abbrev pub WasStarted : Option End → Option Image → Type 0
WasStarted None before = ⊥
WasStarted (Some (Refused status)) before = ⊥
WasStarted (Some Sealed) before = Unit {0}
WasStarted (Some Kept) before = ⊥
WasStarted (Some Lost) None = ⊥
WasStarted (Some Lost) (Some image) = Unit {0}

-- these are the tickets that were begun on a device: distinct ones of its attempts, in order, and
-- each of an attempt that had begun by its end
pub record AreBegun (board : BoardValue) (list : List Element) (d : ℕ)
    (begun : List Ticket) : Type 0 where
  pub distinct : AllPairs (λ a b. a ≢ b) begun
  pub within : IsSublist begun (attempts_on list d)
  pub started : (before rest : List Element) (e : Element) → list ≡ before ++ e ∷ rest
      → IsTrue (is_on d e) → WasStarted (end_of e) (image_of board before d)
      → IsIn e.key.ticket begun
