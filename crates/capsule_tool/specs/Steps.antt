-- Where a part of the work comes to.
use Rattle.std.specs.Prelude.{◌≡◌, ℕ, List, Result, Ok, Err, ⊤}
use Rattle.bench_model.specs.declared.counts.Counts.{Counts}
use Rattle.cu_base.specs.declared.limits.TheConstants.{MAX_CAPSULE_BYTES}
use Rattle.cu_io.specs.Seen.{Seen}
use Rattle.cu_io.specs.declared.read.ReadFault.{ReadFault}
use Rattle.cu_io.specs.declared.read.ReadFault.TheVariants as faults
use Rattle.capsule_tool.specs.Answers.{unread, long}
use Rattle.capsule_tool.specs.Findings.{Finding, bare}
use Rattle.capsule_tool.specs.Verdicts.{verdict_of}
use Rattle.capsule_tool.specs.Works.{Work, ComesTo, MayFind, MayEnd, MayStop}
use Rattle.capsule_tool.specs.Works.Work.{Finds, Reads}
use Rattle.capsule_tool.specs.declared.answer.Answer.{Answer}
use Rattle.capsule_tool.specs.declared.stop.Stop.{Stop}
use Rattle.capsule_tool.specs.declared.stop.Stop.TheVariants.{Answered, Memory}
use Rattle.capsule_tool.specs.declared.verdict.Verdict.{Verdict}

-- an early answer is one that the work may find, and memory runs out where the work may stop
abbrev pub StopsAt : Work → Seen → Seen → Stop → Type 0
StopsAt work before after (Answered answer) = MayFind before.named work before after (bare answer)
StopsAt work before after Memory = MayStop before.named work before after

-- with a value the work comes to what is next, else it stops
abbrev pub StepsTo : {T : Type 0} → Work → (T → Work) → Seen → Seen → Result T Stop → Type 0
StepsTo work next before after (Ok value) = ComesTo before.named work before (next value) after
StepsTo work next before after (Err stop) = StopsAt work before after stop

-- with a finding it is one by which the work may end, where the bench had and has these counts; else
-- the work stops
abbrev pub EndsAs : Work → Seen → Seen → Counts → Counts → Result Finding Stop → Type 0
EndsAs work before after counts counts' (Ok finding) =
    MayEnd before.named work before after counts counts' finding
EndsAs work before after counts counts' (Err stop) = StopsAt work before after stop

-- where no input is read, an early answer is what the work finds
abbrev pub IsStop : Work → Stop → Type 0
IsStop work (Answered answer) = work ≡ Finds (bare answer)
IsStop work Memory = ⊤

-- where no input is read: with a value the work is what is next, else it stops
abbrev pub IsStep : {T : Type 0} → Work → (T → Work) → Result T Stop → Type 0
IsStep work next (Ok value) = work ≡ next value
IsStep work next (Err stop) = IsStop work stop

-- what is answered where the input of this name was not read whole
abbrev pub AnswersFault : List ℕ → ReadFault → Answer → Type 0
AnswersFault name faults.Read answer = answer ≡ unread name
AnswersFault name faults.TooLong answer = answer ≡ long name
AnswersFault name faults.Memory answer = ⊥

-- the input of this name is read, and the verdict on its bytes says what is done next
abbrev pub judge_work : List ℕ → (Verdict → Work) → Work
judge_work name next = Reads MAX_CAPSULE_BYTES name (λ bytes. next (verdict_of bytes))
