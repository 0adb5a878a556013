-- Which attempts the begun tickets are of.
use Rattle.std.specs.Prelude.{◌≡◌, ℕ, ◌≤◌, List, ◌∷◌, ◌++◌, IsTrue}
use Rattle.cu_base.specs.declared.ticket.Ticket.{Ticket}
use Rattle.reference_machine.specs.Machine.{Machine}
use Rattle.reference_machine.specs.Spent.{Element, floor_of, is_attempt, is_on}

-- a ticket is that of an attempt on a device, of at least the floor in force where it stands
pub record IsOfAttempt (m : Machine) (d : ℕ) (ticket : Ticket) : Type 0 where
  pub before : List Element
  pub rest : List Element
  pub e : Element
  pub is : m.list ≡ before ++ e ∷ rest
  pub on : IsTrue (is_on d e)
  pub attempt : IsTrue (is_attempt e)
  pub is_its : e.key.ticket ≡ ticket
  pub floor : floor_of m.board before d ≤ e.version
