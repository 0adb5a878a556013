-- The work on the one file that the words name.
use Rattle.std.specs.Prelude.{ℕ, List, codes}
use Rattle.cu_base.specs.declared.limits.TheConstants.{MAX_CAPSULE_BYTES}
use Rattle.capsule_grammar.specs.Reading.{capsule_of}
use Rattle.capsule_grammar.specs.Rebuilt.{emptied}
use Rattle.capsule_grammar.specs.Spelling.{spelling}
use Rattle.capsule_tool.specs.Answers.{done, refused}
use Rattle.capsule_tool.specs.Shown.{shown_text}
use Rattle.capsule_tool.specs.Verdicts.{verdict_of, name_of}
use Rattle.capsule_tool.specs.Findings.{bare}
use Rattle.capsule_tool.specs.Works.{Work}
use Rattle.capsule_tool.specs.Works.Work.{Finds, Reads}
use Rattle.capsule_tool.specs.declared.answer.Answer.{Answer}
use Rattle.capsule_tool.specs.declared.verdict.Verdict.{Verdict}
use Rattle.capsule_tool.specs.declared.verdict.Verdict.TheVariants.{Whole as WholeCapsule, Refused}
use Rattle.capsule_tool.specs.declared.verdict.Verdict.TheVariants.{Trailing}
use Rattle.capsule_tool.specs.declared.status.Status.TheVariants.{Done}

-- a text that is written by work that was done
abbrev pub written : List ℕ → Answer
written text = record { status = Done; text = text }

-- what is told of a file, by the verdict on it
abbrev pub verdict_answer : Verdict → Answer
verdict_answer (WholeCapsule length) = done length
verdict_answer (Refused refusal) = refused refusal.at (name_of refusal.why)
verdict_answer (Trailing at) = refused at (codes "Trailing")

-- this text, where the file is one whole capsule; else what is told of the file
abbrev pub text_by : Verdict → List ℕ → Answer
text_by (WholeCapsule length) text = written text
text_by (Refused refusal) text = verdict_answer (Refused refusal)
text_by (Trailing at) text = verdict_answer (Trailing at)

-- what rebuilding finds of the bytes of a file: the capsule without its lead and its pads
abbrev pub rebuild_answer : List ℕ → Answer
rebuild_answer bytes = text_by (verdict_of bytes) (spelling (emptied (capsule_of bytes)))

-- what showing finds of the bytes of a file: the text of the capsule
abbrev pub show_answer : List ℕ → Answer
show_answer bytes = text_by (verdict_of bytes) (shown_text bytes)

-- the file is read, and the verdict on its bytes is told
abbrev pub check_work : List ℕ → Work
check_work name = Reads MAX_CAPSULE_BYTES name
    (λ bytes. Finds (bare (verdict_answer (verdict_of bytes))))

-- the file is read, and rebuilt
abbrev pub rebuild_work : List ℕ → Work
rebuild_work name = Reads MAX_CAPSULE_BYTES name (λ bytes. Finds (bare (rebuild_answer bytes)))

-- the file is read, and the text of its capsule is told
abbrev pub show_work : List ℕ → Work
show_work name = Reads MAX_CAPSULE_BYTES name (λ bytes. Finds (bare (show_answer bytes)))
