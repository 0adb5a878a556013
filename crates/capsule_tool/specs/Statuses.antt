-- The statuses that the program ends with.
use Rattle.std.specs.Prelude.{ℕ}
use Rattle.capsule_tool.specs.declared.status.Status.{Status}
use Rattle.capsule_tool.specs.declared.status.Status.TheVariants.{Done, Refused, Usage, Faulty}
use Rattle.capsule_tool.specs.declared.status.Status.TheVariants.{Unread, Unwritten, Memory, Long}
use Rattle.capsule_tool.specs.declared.status.Status.TheVariants.{Later}

-- the number of a status
abbrev pub code_of : Status → ℕ
code_of Done = 0
code_of Refused = 1
code_of Usage = 2
code_of Faulty = 3
code_of Unread = 4
code_of Unwritten = 5
code_of Memory = 6
code_of Long = 7
code_of Later = 8
