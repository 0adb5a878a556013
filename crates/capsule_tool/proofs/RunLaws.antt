-- What follows for each status from what a run may find and write.
use Rattle.std.proofs.Common.{◌≡◌, ◌≢◌, ℕ, ◌+◌, ◌<◌, ◌≤◌, ◌⊎◌, inl, inr, Bool, true, false, cond}
use Rattle.std.proofs.Common.{List, [], ◌∷◌, ◌++◌, length, Option, None, Some, refl, sym, ◌∙◌, ap}
use Rattle.std.proofs.Common.{arith, nat_lt, ◌&&◌, not}
use Rattle.std.specs.Prelude.{IsSomeAnd, sum_by, Result, Ok, Err, ⊤, codes}
use Rattle.std.specs.List.{list_all}
use Rattle.std.proofs.lemmas.List.Sums.{sum_by-cons}
use Rattle.bench_model.specs.Boards.{BoardValue}
use Rattle.cu_base.specs.Causes.{Rose, RoseBy}
use Rattle.cu_io.specs.Named.{Named, bytes_named, IsMissing}
use Rattle.recipe_files.specs.Boards.{board_text}
use Rattle.recipe_files.specs.declared.faults.BadKind.{BadKind}
use Rattle.recipe_files.specs.Builds.{contents_of, capsule_of as recipe_capsule}
use Rattle.recipe_files.specs.Mentions.{inputs_of as recipe_names}
use Rattle.recipe_files.specs.Recipes.{RecipeValue}
use Rattle.recipe_files.specs.RecipeTexts.{recipe_text}
use Rattle.reset_play.specs.Plays.{has_one_device, is_of_files, is_thin_on}
use Rattle.reset_play.specs.ScriptInputs.{inputs_of}
use Rattle.reset_play.specs.ScriptText.{ScriptSaid, script_said}
use Rattle.reference_machine.specs.declared.event.Event.{Event}
use Rattle.capsule_tool.specs.Answers.{usage, later, unread, long}
use Rattle.capsule_tool.specs.Verdicts.{verdict_of}
use Rattle.capsule_grammar.specs.Fits.{is_sized}
use Rattle.capsule_grammar.specs.Reading.{capsule_of}
use Rattle.capsule_grammar.specs.Rebuilt.{emptied}
use Rattle.capsule_grammar.specs.Spelling.{spelling}
use Rattle.capsule_tool.specs.Files.{verdict_answer, text_by, written}
use Rattle.capsule_tool.specs.Shown.{shown_text}
use Rattle.capsule_tool.specs.Findings.{Finding, bare}
use Rattle.capsule_tool.specs.Commands.{command_of}
use Rattle.capsule_tool.specs.Makes.{long_capsule, making_work, recipe_next}
use Rattle.capsule_tool.specs.Plays.{board_next, script_work, script_next, inputs_work}
use Rattle.cu_io.specs.Seen.{Seen}
use Rattle.cu_io.specs.Streams.{SinkSeen, AppendsAll}
use Rattle.capsule_tool.specs.Readings.{reading_of}
use Rattle.capsule_tool.specs.Runs.{Writes, AnswersAsTold, IsUsage, IsUnread, IsLongOne, IsLong}
use Rattle.capsule_tool.specs.Runs.{Judges}
use Rattle.capsule_tool.specs.Statuses.{code_of}
use Rattle.capsule_tool.specs.Told.{word, work_by, work_of, told}
use Rattle.capsule_tool.specs.Works.{Work, by_reading, told_by, Comes, ComesTo, EndsAt, MayFind}
use Rattle.capsule_tool.specs.Works.Work.{Finds, Plays, Reads}
use Rattle.capsule_tool.specs.declared.answer.Answer.{Answer}
use Rattle.capsule_tool.specs.declared.verdict.Verdict.{Verdict}
use Rattle.capsule_tool.specs.declared.verdict.Verdict.TheVariants.{Whole as WholeCapsule, Refused}
use Rattle.capsule_tool.specs.declared.verdict.Verdict.TheVariants.{Trailing}
use Rattle.capsule_tool.specs.declared.command.Command.{Command}
use Rattle.capsule_tool.specs.declared.command.Command.TheVariants.{Check, Show, Rebuild, Make}
use Rattle.capsule_tool.specs.declared.command.Command.TheVariants.{Play, Load}
use Rattle.capsule_tool.specs.Readings.Reading.{Whole, Unread, Long}
use Rattle.capsule_tool.specs.declared.limits.TheConstants.{MAX_NAMED_BYTES}
use Rattle.capsule_tool.specs.declared.status.Status.{Status}
use Rattle.capsule_tool.specs.declared.status.Status.TheVariants as statuses
use Rattle.capsule_tool.specs.declared.status.Status.TheVariants.{Done, Usage, Faulty, Unwritten}
use Rattle.capsule_tool.specs.declared.status.Status.TheVariants.{Memory, Later}
use Rattle.capsule_tool.proofs.WorkLaws.{rose_on}

-- a reading where no call failed and names are told
pub within : (limit : ℕ) (bytes : List ℕ) → length bytes ≤ limit
    → reading_of limit (Some bytes) ≡ Whole bytes
within limit bytes short = grind arith

past : (limit : ℕ) (found : Option (List ℕ)) → IsSomeAnd found (λ bytes. limit < length bytes)
    → reading_of limit found ≡ Long
past limit None long = absurd long
past limit (Some bytes) long = grind arith

-- what a work finds is what it finds from where it comes to
pub told_on : (named : Named) (readings : List (List ℕ)) (w w' : Work)
    → Comes (Some named) readings w w' → told_by named w' ≡ told_by named w
told_on named [] w w' comes = ap (told_by named) comes
told_on named (bytes ∷ rest) (Finds finding) w' comes = absurd comes
told_on named (bytes ∷ rest) (Plays board events loaded) w' comes = absurd comes
told_on named (bytes ∷ rest) (Reads limit name next) w' (holds, short, comes) =
    told_on named rest (next bytes) w' comes
    ∙ sym (ap (by_reading name (λ bytes. told_by named (next bytes))) (ap (reading_of limit) holds
    ∙ within limit bytes short))

told_unread : (named : Named) (limit : ℕ) (name : List ℕ) (next : List ℕ
    → Work) (m a : Seen) (finding : Finding)
    → Rose m.faults a.faults ⊎ IsMissing (Some named) name → finding ≡ bare (unread name)
    → ¬ Rose m.faults a.faults → finding ≡ told_by named (Reads limit name next)
told_unread named limit name next m a finding (inl rose) is calm = absurd (calm rose)
told_unread named limit name next m a finding (inr lacks) is calm =
    is ∙ sym (ap (λ found. by_reading name (λ bytes. told_by named (next bytes))
    (reading_of limit found)) lacks)

told_end : (named : Named) (w : Work) (m a : Seen) (finding : Finding)
    → EndsAt (Some named) w m a finding → ¬ Rose m.faults a.faults → finding ≡ told_by named w
told_end named (Finds it) m a finding ends calm = absurd ends
told_end named (Plays board events loaded) m a finding ends calm = absurd ends
told_end named (Reads limit name next) m a finding (Whole bytes, read, decides) calm =
    absurd decides
told_end named (Reads limit name next) m a finding (Unread, read, decides) calm =
    told_unread named limit name next m a finding read.gives decides calm
told_end named (Reads limit name next) m a finding (Long, read, decides) calm =
    decides ∙ sym (ap (by_reading name (λ bytes. told_by named (next bytes)))
    (past limit (bytes_named named name) read.gives.0))

rose_within : (b m a : ℕ) → b ≤ m → Rose m a → Rose b a
rose_within b m a low rose = omega (arith, low, rose)

-- what is found where no call failed and names are told
pub found_told : (named : Named) (w : Work) (b a : Seen) (finding : Finding)
    → MayFind (Some named) w b a finding → ¬ Rose b.faults a.faults → finding ≡ told_by named w
found_told named w b a finding (inl (readings, comes, took)) calm =
    told_on named readings w (Finds finding) comes
found_told named w b a finding (inr (w', m, (readings, comes, took), ends)) calm =
    told_end named w' m a finding ends (λ rose. calm
    (rose_within b.faults m.faults a.faults took.later rose))
    ∙ told_on named readings w w' comes

finds_same : (a b : Finding) → Finds a ≡ Finds b → a ≡ b
finds_same a b is = cc

finds_reads : (finding : Finding) (limit : ℕ) (name : List ℕ) (next : List ℕ → Work)
    → Finds finding ≡ Reads limit name next → ⊥
finds_reads finding limit name next is = cc

finds_plays : (finding : Finding) (board : BoardValue) (events : List Event) (loaded : Named)
    → Finds finding ≡ Plays board events loaded → ⊥
finds_plays finding board events loaded is = cc

-- what every end of a work but a play has
abbrev pub Ends : (Finding → Type 0) → Work → Type 0
Ends P (Finds finding) = P finding
Ends P (Plays board events loaded) = ⊤
Ends P (Reads limit name next) = (bytes : List ℕ) → Ends P (next bytes)

end_of : (P : Finding → Type 0) (named : Option Named) (readings : List (List ℕ)) (w : Work)
    (finding : Finding) → Comes named readings w (Finds finding) → Ends P w → P finding
end_of P named [] (Finds it) finding comes ends = rw (finds_same finding it comes) ends
end_of P named [] (Plays board events loaded) finding comes ends =
    absurd (finds_plays finding board events loaded comes)
end_of P named [] (Reads limit name next) finding comes ends =
    absurd (finds_reads finding limit name next comes)
end_of P named (bytes ∷ rest) (Finds it) finding comes ends = absurd comes
end_of P named (bytes ∷ rest) (Plays board events loaded) finding comes ends = absurd comes
end_of P named (bytes ∷ rest) (Reads limit name next) finding (holds, short, comes) ends =
    end_of P named rest (next bytes) finding comes (ends bytes)

-- an end that is no play tells neither an unread input, nor words of no command, nor what only a write
-- or want of memory tells, and has no trace
record IsEnd (finding : Finding) : Type 0 where
  not2 : code_of finding.answer.status ≢ 2
  not4 : code_of finding.answer.status ≢ 4
  not5 : code_of finding.answer.status ≢ 5
  not6 : code_of finding.answer.status ≢ 6
  traced : finding.trace ≡ []

bare_end : (answer : Answer) → code_of answer.status ≢ 2 → code_of answer.status ≢ 4
    → code_of answer.status ≢ 5 → code_of answer.status ≢ 6 → IsEnd (bare answer)
bare_end answer a b c d = record { not2 = a; not4 = b; not5 = c; not6 = d; traced = refl }

verdict_end : (verdict : Verdict) → IsEnd (bare (verdict_answer verdict))
verdict_end (WholeCapsule n) = bare_end _ (omega arith) (omega arith) (omega arith) (omega arith)
verdict_end (Refused refusal) = bare_end _ (omega arith) (omega arith) (omega arith) (omega arith)
verdict_end (Trailing at) = bare_end _ (omega arith) (omega arith) (omega arith) (omega arith)

text_end : (verdict : Verdict) (text : List ℕ) → IsEnd (bare (text_by verdict text))
text_end (WholeCapsule n) text = bare_end _ (omega arith) (omega arith) (omega arith) (omega arith)
text_end (Refused refusal) text = verdict_end (Refused refusal)
text_end (Trailing at) text = verdict_end (Trailing at)

pub input_ends : (P : Finding → Type 0) (loaded : Named) (sum : ℕ) (name : List ℕ) (rest : Named → ℕ
    → Work) (bytes : List ℕ) (past thin : Bool)
    → P (bare (long name)) → P (bare (later name))
    → Ends P (rest (loaded ++ (name, bytes) ∷ []) (sum + length bytes))
    → Ends P (cond past (Finds (bare (long name)))
    (cond thin (rest (loaded ++ (name, bytes) ∷ []) (sum + length bytes))
    (Finds (bare (later name)))))
input_ends P loaded sum name rest bytes true thin at_long at_later ends = at_long
input_ends P loaded sum name rest bytes false true at_long at_later ends = ends
input_ends P loaded sum name rest bytes false false at_long at_later ends = at_later

long_ends : (name : List ℕ) → IsEnd (bare (long name))
long_ends name = bare_end _ (omega arith) (omega arith) (omega arith) (omega arith)

later_ends : (name : List ℕ) → IsEnd (bare (later name))
later_ends name = bare_end _ (omega arith) (omega arith) (omega arith) (omega arith)

inputs_end : (board : BoardValue) (events : List Event) (loaded : Named) (sum : ℕ)
    (names : List (List ℕ)) → Ends IsEnd (inputs_work board events loaded sum names)
inputs_end board events loaded sum [] = tt
inputs_end board events loaded sum (name ∷ names) = λ bytes.
    input_ends IsEnd loaded sum name (λ loaded' sum'. inputs_work board events loaded' sum' names)
    bytes (nat_lt MAX_NAMED_BYTES (sum + length bytes)) (is_thin_on board bytes) (long_ends name)
    (later_ends name) (inputs_end board events (loaded ++ (name, bytes) ∷ []) (sum + length bytes) names)

events_end : (board : BoardValue) (name : List ℕ) (events : List Event) (files : Bool)
    → Ends IsEnd (cond files (inputs_work board events [] 0 (inputs_of events))
    (Finds (bare (later name))))
events_end board name events true = inputs_end board events [] 0 (inputs_of events)
events_end board name events false = bare_end _ (omega arith) (omega arith) (omega arith)
    (omega arith)

script_end : (board : BoardValue) (name : List ℕ) (said : ScriptSaid)
    → Ends IsEnd (script_next board name said)
script_end board name (Err fault) = bare_end _ (omega arith) (omega arith) (omega arith)
    (omega arith)
script_end board name (Ok events) = events_end board name events (list_all is_of_files events)

one_end : (board : BoardValue) (name script : List ℕ) (one : Bool)
    → Ends IsEnd (cond one (script_work board script) (Finds (bare (later name))))
one_end board name script true = λ bytes. script_end board script (script_said bytes)
one_end board name script false = bare_end _ (omega arith) (omega arith) (omega arith) (omega arith)

board_end : (name script : List ℕ) (said : Result BoardValue (BadKind × List ℕ))
    → Ends IsEnd (board_next name script said)
board_end name script (Err fault) = bare_end _ (omega arith) (omega arith) (omega arith)
    (omega arith)
board_end name script (Ok board) =
    one_end board name script (has_one_device board && not board.two_banks)

pub load_ends : (P : Finding → Type 0) (loaded : Named) (sum : ℕ) (name : List ℕ)
    (rest : Named → ℕ → Work) (bytes : List ℕ) (past : Bool) → P (bare (long name))
    → Ends P (rest (loaded ++ (name, bytes) ∷ []) (sum + length bytes))
    → Ends P (cond past (Finds (bare (long name)))
    (rest (loaded ++ (name, bytes) ∷ []) (sum + length bytes)))
load_ends P loaded sum name rest bytes true at_long ends = at_long
load_ends P loaded sum name rest bytes false at_long ends = ends

pub made_ends : (P : Finding → Type 0) (sized : Bool) (text : List ℕ) → P (bare (written text))
    → P (bare long_capsule) → P (bare (cond sized (written text) long_capsule))
made_ends P true text at_written at_long = at_written
made_ends P false text at_written at_long = at_long

written_ends : (text : List ℕ) → IsEnd (bare (written text))
written_ends text = bare_end _ (omega arith) (omega arith) (omega arith) (omega arith)

making_end : (recipe : RecipeValue) (loaded : Named) (sum : ℕ) (names : List (List ℕ))
    → Ends IsEnd (making_work recipe loaded sum names)
making_end recipe loaded sum [] =
    made_ends IsEnd (is_sized (recipe_capsule (contents_of loaded) recipe))
    (spelling (recipe_capsule (contents_of loaded) recipe)) (written_ends _)
    (long_ends (codes "capsule"))
making_end recipe loaded sum (name ∷ names) = λ bytes.
    load_ends IsEnd loaded sum name (λ loaded' sum'. making_work recipe loaded' sum' names) bytes
    (nat_lt MAX_NAMED_BYTES (sum + length bytes)) (long_ends name)
    (making_end recipe (loaded ++ (name, bytes) ∷ []) (sum + length bytes) names)

recipe_end : (said : Result RecipeValue (BadKind × List ℕ)) → Ends IsEnd (recipe_next said)
recipe_end (Err fault) = bare_end _ (omega arith) (omega arith) (omega arith) (omega arith)
recipe_end (Ok recipe) = making_end recipe [] 0 (recipe_names recipe)

command_ends : (command : Command) (words : List (List ℕ))
    → Ends IsEnd (work_by (Some command) words)
command_ends Check words = λ bytes. verdict_end (verdict_of bytes)
command_ends Show words = λ bytes. text_end (verdict_of bytes) (shown_text bytes)
command_ends Rebuild words = λ bytes. text_end (verdict_of bytes)
    (spelling (emptied (capsule_of bytes)))
command_ends Make words = λ bytes. recipe_end (recipe_text bytes)
command_ends Play words = λ bytes. board_end (word words 1) (word words 2) (board_text bytes)
command_ends Load words = bare_end _ (omega arith) (omega arith) (omega arith) (omega arith)

-- a work ends with 7 after more than the limit of the sum was taken, or since the capsule that it
-- makes would be too long
abbrev IsPast : ℕ → Finding → Type 0
IsPast n finding = (MAX_NAMED_BYTES + 1 ≤ n) ⊎ (finding ≡ bare long_capsule)

-- n bytes were taken before
abbrev Sums : ℕ → Work → Type 0
Sums n (Finds finding) = code_of finding.answer.status ≡ 7 → IsPast n finding
Sums n (Plays board events loaded) = ⊤
Sums n (Reads limit name next) = (bytes : List ℕ) → Sums (n + length bytes) (next bytes)

past_at : (m n : ℕ) (finding finding' : Finding) → m ≡ n → finding ≡ finding' → IsPast n finding'
    → IsPast m finding
past_at m n finding finding' is same (inl high) = inl (omega (arith, is))
past_at m n finding finding' is same (inr long) = inr (same ∙ long)

sum_of : (n : ℕ) (named : Option Named) (readings : List (List ℕ)) (w : Work) (finding : Finding)
    → Comes named readings w (Finds finding) → Sums n w
    → code_of finding.answer.status ≡ 7 → IsPast (n + sum_by length readings) finding
sum_of n named [] (Finds it) finding comes sums is =
    let same : finding ≡ it = finds_same finding it comes in
    past_at _ n finding it (omega arith) same
    (sums (sym (ap (λ (f : Finding). code_of f.answer.status) same) ∙ is))
sum_of n named [] (Plays board events loaded) finding comes sums is =
    absurd (finds_plays finding board events loaded comes)
sum_of n named [] (Reads limit name next) finding comes sums is =
    absurd (finds_reads finding limit name next comes)
sum_of n named (bytes ∷ rest) (Finds it) finding comes sums is = absurd comes
sum_of n named (bytes ∷ rest) (Plays board events loaded) finding comes sums is = absurd comes
sum_of n named (bytes ∷ rest) (Reads limit name next) finding (holds, short, comes) sums is =
    past_at _ (n + length bytes + sum_by length rest) finding finding
    (omega (arith, sum_by-cons length bytes rest)) refl
    (sum_of (n + length bytes) named rest (next bytes) finding comes (sums bytes) is)

verdict_sum : (n : ℕ) (verdict : Verdict) → Sums n (Finds (bare (verdict_answer verdict)))
verdict_sum n (WholeCapsule m) = λ is. absurd (omega (arith, is))
verdict_sum n (Refused refusal) = λ is. absurd (omega (arith, is))
verdict_sum n (Trailing at) = λ is. absurd (omega (arith, is))

text_sum : (n : ℕ) (verdict : Verdict) (text : List ℕ)
    → Sums n (Finds (bare (text_by verdict text)))
text_sum n (WholeCapsule m) text = λ is. absurd (omega (arith, is))
text_sum n (Refused refusal) text = verdict_sum n (Refused refusal)
text_sum n (Trailing at) text = verdict_sum n (Trailing at)

input_sums : (n : ℕ) (board : BoardValue) (loaded : Named) (sum : ℕ) (name : List ℕ) (rest : Named
    → ℕ → Work) (bytes : List ℕ) (past thin : Bool)
    → sum ≤ n → nat_lt MAX_NAMED_BYTES (sum + length bytes) ≡ past
    → Sums (n + length bytes) (rest (loaded ++ (name, bytes) ∷ []) (sum + length bytes))
    → Sums (n + length bytes) (cond past (Finds (bare (long name)))
    (cond thin (rest (loaded ++ (name, bytes) ∷ []) (sum + length bytes))
    (Finds (bare (later name)))))
input_sums n board loaded sum name rest bytes true thin low is sums =
    λ seven. inl (grind (arith, low, is))
input_sums n board loaded sum name rest bytes false true low is sums = sums
input_sums n board loaded sum name rest bytes false false low is sums =
    λ seven. absurd (omega (arith, seven))

inputs_sum : (n : ℕ) (board : BoardValue) (events : List Event) (loaded : Named) (sum : ℕ)
    (names : List (List ℕ)) → sum ≤ n → Sums n (inputs_work board events loaded sum names)
inputs_sum n board events loaded sum [] low = tt
inputs_sum n board events loaded sum (name ∷ names) low = λ bytes.
    input_sums n board loaded sum name (λ loaded' sum'. inputs_work board events loaded' sum' names)
    bytes (nat_lt MAX_NAMED_BYTES (sum + length bytes)) (is_thin_on board bytes)
    low refl (inputs_sum (n + length bytes) board events (loaded ++ (name, bytes) ∷ [])
    (sum + length bytes) names (omega (arith, low)))

events_sum : (n : ℕ) (board : BoardValue) (name : List ℕ) (events : List Event) (files : Bool)
    → Sums n (cond files (inputs_work board events [] 0 (inputs_of events))
    (Finds (bare (later name))))
events_sum n board name events true = inputs_sum n board events [] 0 (inputs_of events)
    (omega arith)
events_sum n board name events false = λ is. absurd (omega (arith, is))

script_sum : (n : ℕ) (board : BoardValue) (name : List ℕ) (said : ScriptSaid)
    → Sums n (script_next board name said)
script_sum n board name (Err fault) = λ is. absurd (omega (arith, is))
script_sum n board name (Ok events) = events_sum n board name events (list_all is_of_files events)

one_sum : (n : ℕ) (board : BoardValue) (name script : List ℕ) (one : Bool)
    → Sums n (cond one (script_work board script) (Finds (bare (later name))))
one_sum n board name script true = λ bytes. script_sum (n + length bytes) board script
    (script_said bytes)
one_sum n board name script false = λ is. absurd (omega (arith, is))

board_sum : (n : ℕ) (name script : List ℕ) (said : Result BoardValue (BadKind × List ℕ))
    → Sums n (board_next name script said)
board_sum n name script (Err fault) = λ is. absurd (omega (arith, is))
board_sum n name script (Ok board) =
    one_sum n board name script (has_one_device board && not board.two_banks)

load_sums : (n : ℕ) (loaded : Named) (sum : ℕ) (name : List ℕ) (rest : Named → ℕ → Work)
    (bytes : List ℕ) (past : Bool)
    → sum ≤ n → nat_lt MAX_NAMED_BYTES (sum + length bytes) ≡ past
    → Sums (n + length bytes) (rest (loaded ++ (name, bytes) ∷ []) (sum + length bytes))
    → Sums (n + length bytes) (cond past (Finds (bare (long name)))
    (rest (loaded ++ (name, bytes) ∷ []) (sum + length bytes)))
load_sums n loaded sum name rest bytes true low is sums =
    λ seven. inl (grind (arith, low, is))
load_sums n loaded sum name rest bytes false low is sums = sums

made_sum : (n : ℕ) (sized : Bool) (text : List ℕ)
    → Sums n (Finds (bare (cond sized (written text) long_capsule)))
made_sum n true text = λ is. absurd (omega (arith, is))
made_sum n false text = λ is. inr refl

making_sum : (n : ℕ) (recipe : RecipeValue) (loaded : Named) (sum : ℕ) (names : List (List ℕ))
    → sum ≤ n → Sums n (making_work recipe loaded sum names)
making_sum n recipe loaded sum [] low =
    made_sum n (is_sized (recipe_capsule (contents_of loaded) recipe))
    (spelling (recipe_capsule (contents_of loaded) recipe))
making_sum n recipe loaded sum (name ∷ names) low = λ bytes.
    load_sums n loaded sum name (λ loaded' sum'. making_work recipe loaded' sum' names) bytes
    (nat_lt MAX_NAMED_BYTES (sum + length bytes)) low refl
    (making_sum (n + length bytes) recipe (loaded ++ (name, bytes) ∷ []) (sum + length bytes) names
    (omega (arith, low)))

recipe_sum : (n : ℕ) (said : Result RecipeValue (BadKind × List ℕ)) → Sums n (recipe_next said)
recipe_sum n (Err fault) = λ is. absurd (omega (arith, is))
recipe_sum n (Ok recipe) = making_sum n recipe [] 0 (recipe_names recipe) (omega arith)

command_sums : (command : Option Command) (words : List (List ℕ)) → Sums 0 (work_by command words)
command_sums None words = λ is. absurd (omega (arith, is))
command_sums (Some Check) words = λ bytes. verdict_sum (0 + length bytes) (verdict_of bytes)
command_sums (Some Show) words = λ bytes. text_sum (0 + length bytes) (verdict_of bytes)
    (shown_text bytes)
command_sums (Some Rebuild) words = λ bytes. text_sum (0 + length bytes) (verdict_of bytes)
    (spelling (emptied (capsule_of bytes)))
command_sums (Some Make) words = λ bytes. recipe_sum (0 + length bytes) (recipe_text bytes)
command_sums (Some Play) words = λ bytes. board_sum (0 + length bytes) (word words 1) (word words 2)
    (board_text bytes)
command_sums (Some Load) words = λ is. absurd (omega (arith, is))

code_small : (status : Status) → code_of status ≤ 8
code_small Done = omega arith
code_small statuses.Refused = omega arith
code_small Usage = omega arith
code_small Faulty = omega arith
code_small statuses.Unread = omega arith
code_small Unwritten = omega arith
code_small Memory = omega arith
code_small statuses.Long = omega arith
code_small Later = omega arith

-- counts
rose_less : (m n a b : ℕ) → m ≤ n → RoseBy n a b → RoseBy m a b
rose_less m n a b low rose = omega (arith, low, rose)

-- what a run finds where its work ends
coming_end : (command : Option Command) (words : List (List ℕ)) (named : Option Named)
    (readings : List (List ℕ)) (finding : Finding)
    → Comes named readings (work_by command words) (Finds finding)
    → ((command ≡ None) × (finding ≡ bare usage)) ⊎ IsEnd finding
coming_end None words named readings finding comes =
    inl (refl, end_of (λ f. f ≡ bare usage) named readings (Finds (bare usage)) finding comes refl)
coming_end (Some command) words named readings finding comes =
    inr (end_of IsEnd named readings (work_by (Some command) words) finding comes
    (command_ends command words))

pub code_at : (a b : Finding) → a ≡ b → code_of a.answer.status ≡ code_of b.answer.status
code_at a b same = ap (λ (x : Finding). code_of x.answer.status) same

-- where an input decides, the status is 4 or 7
decided : (named : Option Named) (w : Work) (m a : Seen) (finding : Finding)
    → EndsAt named w m a finding
    → ((code_of finding.answer.status ≡ 4) ⊎ (code_of finding.answer.status ≡ 7))
    × (finding.trace ≡ [])
decided named (Finds it) m a finding ends = absurd ends
decided named (Plays board events loaded) m a finding ends = absurd ends
decided named (Reads limit name next) m a finding (Whole bytes, read, decides) = absurd decides
decided named (Reads limit name next) m a finding (Unread, read, decides) =
    (inl (code_at _ _ decides), ap (λ (x : Finding). x.trace) decides)
decided named (Reads limit name next) m a finding (Long, read, decides) =
    (inr (code_at _ _ decides), ap (λ (x : Finding). x.trace) decides)

four_or_seven : (code k : ℕ) → (code ≡ 4) ⊎ (code ≡ 7) → code ≡ k → k ≢ 4 → k ≢ 7 → ⊥
four_or_seven code k (inl four) is not4 not7 = not4 (sym is ∙ four)
four_or_seven code k (inr seven) is not4 not7 = not7 (sym is ∙ seven)

not_decided : (named : Option Named) (w : Work) (m a : Seen) (finding : Finding) (k : ℕ)
    → EndsAt named w m a finding → code_of finding.answer.status ≡ k → k ≢ 4 → k ≢ 7 → ⊥
not_decided named w m a finding k ends is not4 not7 =
    four_or_seven (code_of finding.answer.status) k (decided named w m a finding ends).0 is not4
    not7

-- a status that tells neither a failed write nor want of memory is that of what was found, and it
-- was written
pub written_as : (answer : Answer) (status k : ℕ) (w w' : SinkSeen) → Writes answer status w w'
    → status ≡ k → k ≢ 5 → k ≢ 6
    → (code_of answer.status ≡ k) × AppendsAll w w' answer.text
written_as answer status k w w' (inl (same, appends)) is not5 not6 = (sym same ∙ is, appends)
written_as answer status k w w' (inr (inl (same, rose, front))) is not5 not6 =
    absurd (not5 (sym is ∙ same))
written_as answer status k w w' (inr (inr (same, front))) is not5 not6 = absurd (not6 (sym is ∙ same))

pub appends_as : (a b : Finding) (w w' : SinkSeen) → a ≡ b → AppendsAll w w' a.answer.text
    → AppendsAll w w' b.answer.text
appends_as a b w w' same appends = rw (ap (λ (x : Finding). x.answer.text) same) at appends

-- the clauses of a run that found this and wrote it
pub exact : (words : List (List ℕ)) (named : Named) (b a : Seen) (finding : Finding) (status : ℕ)
    (w w' : SinkSeen)
    → finding ≡ told words named → Writes finding.answer status w w' → ¬ Rose w.faults w'.faults
    → AnswersAsTold (Some named) words status finding.trace w w'
exact words named b a finding status w w' is (inl (same, appends)) quiet =
    inr (
      same ∙ code_at finding (told words named) is,
      ap (λ (x : Finding). x.trace) is,
      appends_as
          finding (told words named) w w' is appends,
    )
exact words named b a finding status w w' is (inr (inl (same, rose, front))) quiet =
    absurd (quiet rose)
exact words named b a finding status w w' is (inr (inr (same, front))) quiet = inl same

pub judged_run : (named : Option Named) (w0 : Work) (b a : Seen) (finding : Finding) (status k : ℕ)
    (w w' : SinkSeen)
    → MayFind named w0 b a finding → Writes finding.answer status w w' → status ≡ k → k ≢ 4 → k ≢ 5
    → k ≢ 6 → k ≢ 7
    → Judges w0 named k finding.trace w w'
judged_run named w0 b a finding status k w w' (inl (readings, comes, took)) writes is not4 not5 not6
    not7 =
    let (code, appends) = written_as finding.answer status k w w' writes is not5 not6 in
    (finding, readings, comes, code, refl, appends)
judged_run named w0 b a finding status k w w' (inr (work, m, comes, ends)) writes is not4 not5 not6
    not7 =
    let (code, appends) = written_as finding.answer status k w w' writes is not5 not6 in
    absurd (not_decided named work m a finding k ends code not4 not7)

usage_end : (command : Option Command) (finding : Finding) (w w' : SinkSeen)
    → ((command ≡ None) × (finding ≡ bare usage)) ⊎ IsEnd finding
    → code_of finding.answer.status ≡ 2 → AppendsAll w w' finding.answer.text → IsUsage command w w'
usage_end command finding w w' (inl (none, is)) code appends =
    (none, appends_as finding (bare usage) w w' is appends)
usage_end command finding w w' (inr end) code appends = absurd (end.not2 code)

pub usage_run : (named : Option Named) (words : List (List ℕ)) (b a : Seen) (finding : Finding)
    (status : ℕ) (w w' : SinkSeen)
    → MayFind named (work_of words) b a finding → Writes finding.answer status w w' → status ≡ 2
    → IsUsage (command_of words) w w'
usage_run named words b a finding status w w' (inl (readings, comes, took)) writes is =
    let (code, appends) = written_as finding.answer status 2 w w' writes is (omega arith)
    (omega arith) in
    usage_end (command_of words) finding w w'
    (coming_end (command_of words) words named readings finding comes) code appends
usage_run named words b a finding status w w' (inr (work, m, comes, ends)) writes is =
    let (code, appends) = written_as finding.answer status 2 w w' writes is (omega arith)
    (omega arith) in
    absurd (not_decided named work m a finding 2 ends code (omega arith) (omega arith))

-- an end with a status that only a reading, a write or want of memory gives
no_end : (command : Option Command) (finding : Finding) (k : ℕ)
    → ((command ≡ None) × (finding ≡ bare usage)) ⊎ IsEnd finding
    → code_of finding.answer.status ≡ k → (k ≡ 4) ⊎ (k ≡ 5) → ⊥
no_end command finding k (inl (none, is)) code (inl four) =
    omega (arith, code_at finding (bare usage) is, code, four)
no_end command finding k (inl (none, is)) code (inr five) =
    omega (arith, code_at finding (bare usage) is, code, five)
no_end command finding k (inr end) code (inl four) = end.not4 (code ∙ four)
no_end command finding k (inr end) code (inr five) = end.not5 (code ∙ five)

cause_within : (b m a : Seen) (Missing : Type 0) → b.faults ≤ m.faults → Rose m.faults a.faults
    ⊎ Missing → Rose b.faults a.faults ⊎ Missing
cause_within b m a Missing low (inl rose) = inl (rose_within b.faults m.faults a.faults low rose)
cause_within b m a Missing low (inr missing) = inr missing

unread_end : (named : Option Named) (w0 work : Work) (b m a : Seen) (finding : Finding)
    (w w' : SinkSeen)
    → ComesTo named w0 b work m → EndsAt named work m a finding → code_of finding.answer.status ≡ 4
    → AppendsAll w w' finding.answer.text → IsUnread w0 named b a w w'
unread_end named w0 (Finds it) b m a finding w w' comes ends code appends = absurd ends
unread_end named w0 (Plays board events loaded) b m a finding w w' comes ends code appends =
    absurd ends
unread_end named w0 (Reads limit name next) b m a finding w w' comes (Whole bytes, read, decides)
    code appends = absurd decides
unread_end named w0 (Reads limit name next) b m a finding w w' (readings, comes, took)
    (Unread, read, decides) code appends = (
      limit,
      name,
      next,
      readings,
      comes,
      cause_within b m a (IsMissing named name) took.later
          read.gives,
      appends_as finding (bare (unread name)) w w' decides appends,
    )
unread_end named w0 (Reads limit name next) b m a finding w w' comes (Long, read, decides) code
    appends =
    absurd (omega (arith, code_at finding (bare (long name)) decides, code))

pub unread_run : (named : Option Named) (words : List (List ℕ)) (b a : Seen) (finding : Finding)
    (status : ℕ) (w w' : SinkSeen)
    → MayFind named (work_of words) b a finding → Writes finding.answer status w w' → status ≡ 4
    → IsUnread (work_of words) named b a w w'
unread_run named words b a finding status w w' (inl (readings, comes, took)) writes is =
    let (code, appends) = written_as finding.answer status 4 w w' writes is (omega arith)
    (omega arith) in
    absurd (no_end (command_of words) finding 4
    (coming_end (command_of words) words named readings finding comes) code (inl refl))
unread_run named words b a finding status w w' (inr (work, m, comes, ends)) writes is =
    let (code, appends) = written_as finding.answer status 4 w w' writes is (omega arith)
    (omega arith) in
    unread_end named (work_of words) work b m a finding w w' comes ends code appends

long_end : (named : Option Named) (w0 work : Work) (b m a : Seen) (finding : Finding)
    (w w' : SinkSeen)
    → ComesTo named w0 b work m → EndsAt named work m a finding → code_of finding.answer.status ≡ 7
    → AppendsAll w w' finding.answer.text → IsLongOne w0 named b a w w'
long_end named w0 (Finds it) b m a finding w w' comes ends code appends = absurd ends
long_end named w0 (Plays board events loaded) b m a finding w w' comes ends code appends =
    absurd ends
long_end named w0 (Reads limit name next) b m a finding w w' comes (Whole bytes, read, decides) code
    appends = absurd decides
long_end named w0 (Reads limit name next) b m a finding w w' comes (Unread, read, decides) code
    appends =
    absurd (omega (arith, code_at finding (bare (unread name)) decides, code))
long_end named w0 (Reads limit name next) b m a finding w w' (readings, comes, took)
    (Long, read, decides) code appends = (
      limit,
      name,
      next,
      readings,
      comes,
      read.gives.0,
      rose_less (limit + 1) (sum_by length readings + (limit + 1)) b.taken a.taken (omega arith)
          (rose_on (sum_by length readings) (limit + 1) b.taken m.taken a.taken took.taken
          read.gives.1),
      appends_as finding (bare (long name)) w w' decides appends,
    )

long_sum : (b a : Seen) (readings : List (List ℕ)) (finding : Finding) (w w' : SinkSeen)
    → RoseBy (sum_by length readings) b.taken a.taken → AppendsAll w w' finding.answer.text
    → IsPast (0 + sum_by length readings) finding
    → RoseBy (MAX_NAMED_BYTES + 1) b.taken a.taken ⊎ AppendsAll w w' long_capsule.text
long_sum b a readings finding w w' taken appends (inl high) =
    inl (rose_less (MAX_NAMED_BYTES + 1) (sum_by length readings) b.taken a.taken (omega arith)
    taken)
long_sum b a readings finding w w' taken appends (inr is) =
    inr (appends_as finding (bare long_capsule) w w' is appends)

pub long_run : (named : Option Named) (words : List (List ℕ)) (b a : Seen) (finding : Finding)
    (status : ℕ) (w w' : SinkSeen)
    → MayFind named (work_of words) b a finding → Writes finding.answer status w w' → status ≡ 7
    → IsLong (work_of words) named b a finding.trace w w'
long_run named words b a finding status w w' (inl (readings, comes, took)) writes is =
    let (code, appends) = written_as finding.answer status 7 w w' writes is (omega arith)
    (omega arith) in
    inr (
      (finding, readings, comes, code, refl, appends),
      long_sum b a readings finding w w' took.taken appends
          (sum_of 0 named readings (work_of words) finding comes
          (command_sums (command_of words) words) code),
    )
long_run named words b a finding status w w' (inr (work, m, comes, ends)) writes is =
    let (code, appends) = written_as finding.answer status 7 w w' writes is (omega arith)
    (omega arith) in
    inl (long_end named (work_of words) work b m a finding w w' comes ends code appends)

pub unwritten_run : (named : Option Named) (words : List (List ℕ)) (b a : Seen) (finding : Finding)
    (status : ℕ) (w w' : SinkSeen)
    → MayFind named (work_of words) b a finding → Writes finding.answer status w w' → status ≡ 5
    → Rose w.faults w'.faults
unwritten_run named words b a finding status w w' (inl (readings, comes, took))
    (inl (same, appends)) is =
    absurd (no_end (command_of words) finding 5
    (coming_end (command_of words) words named readings finding comes) (sym same ∙ is)
    (inr refl))
unwritten_run named words b a finding status w w' (inr (work, m, comes, ends)) (inl (same, appends))
    is =
    absurd (not_decided named work m a finding 5 ends (sym same ∙ is) (omega arith) (omega arith))
unwritten_run named words b a finding status w w' found (inr (inl (same, rose, front))) is = rose
unwritten_run named words b a finding status w w' found (inr (inr (same, front))) is =
    absurd (omega (arith, same, is))

pub small_run : (finding : Finding) (status : ℕ) (w w' : SinkSeen)
    → Writes finding.answer status w w' → status ≤ 8
small_run finding status w w' (inl (same, appends)) =
    omega (arith, same, code_small finding.answer.status)
small_run finding status w w' (inr (inl (same, rose, front))) = omega (arith, same)
small_run finding status w w' (inr (inr (same, front))) = omega (arith, same)

-- only a play has a trace
traced_end : (command : Option Command) (finding : Finding)
    → ((command ≡ None) × (finding ≡ bare usage)) ⊎ IsEnd finding → finding.trace ≡ []
traced_end command finding (inl (none, is)) = ap (λ (x : Finding). x.trace) is
traced_end command finding (inr end) = end.traced

pub traced : (named : Option Named) (words : List (List ℕ)) (b a : Seen) (finding : Finding)
    → MayFind named (work_of words) b a finding → finding.trace ≡ []
traced named words b a finding (inl (readings, comes, took)) =
    traced_end (command_of words) finding (coming_end (command_of words) words named readings
    finding comes)
traced named words b a finding (inr (work, m, comes, ends)) =
    (decided named work m a finding ends).1
