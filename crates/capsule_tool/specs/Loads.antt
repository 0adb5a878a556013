-- The inputs that a text names are read one after the other, each once and up to its limit, and kept
-- as long as all of them stay within the limit of their sum. The first failure decides.
use Rattle.std.specs.Prelude.{ℕ, ◌+◌, nat_lt, List, [], ◌∷◌, ◌++◌, length, if◌then◌else◌}
use Rattle.cu_base.specs.declared.limits.TheConstants.{MAX_CAPSULE_BYTES}
use Rattle.cu_io.specs.Named.{Named}
use Rattle.capsule_tool.specs.declared.limits.TheConstants.{MAX_NAMED_BYTES}
use Rattle.capsule_tool.specs.Answers.{long}
use Rattle.capsule_tool.specs.Findings.{bare}
use Rattle.capsule_tool.specs.Works.{Work}
use Rattle.capsule_tool.specs.Works.Work.{Finds, Reads}

-- the work on the input of a name, where these are loaded and have this many bytes in sum, and what
-- goes on when it is loaded
abbrev pub Loading : Type 0
Loading = Named → ℕ → List ℕ → (Named → ℕ → Work) → Work

-- the inputs of these names, one after the other, and then this
abbrev pub loads_work : Loading → (Named → Work) → Named → ℕ → List (List ℕ) → Work
loads_work load next loaded sum [] = next loaded
loads_work load next loaded sum (name ∷ names) =
    load loaded sum name (λ loaded' sum'. loads_work load next loaded' sum' names)

-- an input is loaded by its bytes, unless the sum passes its limit
abbrev pub load_next : Named → ℕ → List ℕ → (Named → ℕ → Work) → List ℕ → Work
load_next loaded sum name rest bytes =
    if nat_lt MAX_NAMED_BYTES (sum + length bytes) then Finds (bare (long name))
    else rest (loaded ++ (name, bytes) ∷ []) (sum + length bytes)

-- an input is read and loaded
abbrev pub load_work : Loading
load_work loaded sum name rest = Reads MAX_CAPSULE_BYTES name (load_next loaded sum name rest)
