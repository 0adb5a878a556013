-- What is told, in plain words.
use Rattle.std.proofs.Common.{◌≡◌, ◌≢◌, ℕ, ◌+◌, ◌≤◌, nat_lt, inl, inr, Bool, true, false, cond, not}
use Rattle.std.proofs.Common.{List, [], ◌∷◌, ◌++◌, length, map, Option, None, Some, refl, sym, ◌∙◌, ap}
use Rattle.std.proofs.Common.{arith, ◌&&◌, ◌||◌}
use Rattle.std.specs.Prelude.{Result, Ok, Err, sum_by, unwrap_or}
use Rattle.std.specs.List.{list_all, filter_map, AllByRecursion}
use Rattle.std.specs.Str.{bytes_eq}
use Rattle.std.proofs.lemmas.List.{append_assoc, append-nil}
use Rattle.std.proofs.lemmas.List.Sums.{sum_by-cons}
use Rattle.bench_model.specs.Boards.{BoardValue}
use Rattle.cu_base.specs.declared.limits.TheConstants.{MAX_CAPSULE_BYTES}
use Rattle.cu_io.specs.Named.{Named, bytes_named}
use Rattle.recipe_files.specs.Boards.{board_text}
use Rattle.recipe_files.specs.Builds.{contents_of, capsule_of as recipe_capsule}
use Rattle.recipe_files.specs.Mentions.{inputs_of as recipe_names}
use Rattle.recipe_files.specs.Recipes.{RecipeValue}
use Rattle.recipe_files.specs.RecipeTexts.{recipe_text}
use Rattle.recipe_files.specs.declared.faults.BadKind.{BadKind}
use Rattle.reset_play.specs.Plays.{has_one_device, is_of_files, is_thin_on, loaded_bytes, thin_trace}
use Rattle.reset_play.specs.ScriptInputs.{mention, has_name, inputs_of}
use Rattle.reset_play.specs.ScriptText.{ScriptSaid, script_said}
use Rattle.reference_machine.specs.Machine.{fresh}
use Rattle.reference_machine.specs.declared.event.Event.{Event}
use Rattle.reset_play.proofs.AlikeInputs.{traces_alike}
use Rattle.capsule_grammar.specs.Fits.{is_sized}
use Rattle.capsule_grammar.specs.Reading.{capsule_of}
use Rattle.capsule_grammar.specs.Rebuilt.{emptied}
use Rattle.capsule_grammar.specs.Spelling.{spelling}
use Rattle.capsule_tool.specs.Answers.{unread, long, later, faulty_board, faulty_script}
use Rattle.capsule_tool.specs.Commands.{command_of}
use Rattle.capsule_tool.specs.Files.{verdict_answer, text_by, written}
use Rattle.capsule_tool.specs.Findings.{Finding, bare}
use Rattle.capsule_tool.specs.Makes.{long_capsule, making_work, recipe_next}
use Rattle.capsule_tool.specs.Plain.{IsThere, IsPlayable, IsPlay, TellsVerdict, TellsRecipe, TellsBoard}
use Rattle.capsule_tool.specs.Plain.{TellsScript, TellsFault}
use Rattle.capsule_tool.specs.Played.{played_as, played}
use Rattle.capsule_tool.specs.Plays.{board_next, script_work, script_next, inputs_work, input_next}
use Rattle.capsule_tool.specs.Plays.{play_work}
use Rattle.capsule_tool.specs.Readings.{Reading, reading_of}
use Rattle.capsule_tool.specs.Readings.Reading.{Whole, Unread, Long}
use Rattle.capsule_tool.specs.Shown.{shown_text}
use Rattle.capsule_tool.specs.Statuses.{code_of}
use Rattle.capsule_tool.specs.Told.{word, work_by, work_of, told}
use Rattle.capsule_tool.specs.Verdicts.{verdict_of}
use Rattle.capsule_tool.specs.Works.{Work, by_reading, told_by}
use Rattle.capsule_tool.specs.Works.Work.{Finds, Plays, Reads}
use Rattle.capsule_tool.specs.declared.answer.Answer.{Answer}
use Rattle.capsule_tool.specs.declared.command.Command.{Command}
use Rattle.capsule_tool.specs.declared.command.Command.TheVariants.{Check, Show as ShowFile, Rebuild}
use Rattle.capsule_tool.specs.declared.command.Command.TheVariants.{Make, Play, Load}
use Rattle.capsule_tool.specs.declared.limits.TheConstants.{MAX_TEXT_BYTES, MAX_NAMED_BYTES}
use Rattle.capsule_tool.specs.declared.verdict.Verdict.{Verdict}
use Rattle.capsule_tool.specs.declared.verdict.Verdict.TheVariants.{Whole as WholeCapsule, Refused}
use Rattle.capsule_tool.specs.declared.verdict.Verdict.TheVariants.{Trailing}
use Rattle.capsule_tool.proofs.NameLaws.{or_false, same_name, once_has}
use Rattle.capsule_tool.proofs.PlayLaws.{input_goes, script_goes}
use Rattle.capsule_tool.proofs.RunLaws.{within, Ends, input_ends, load_ends, made_ends}

cc_false : false ≡ true → ⊥
cc_false is = cc

-- what is told of an input that is there
read_there : (named : Named) (limit : ℕ) (name bytes : List ℕ) (next : List ℕ → Work)
    → IsThere named limit name bytes
    → told_by named (Reads limit name next) ≡ told_by named (next bytes)
read_there named limit name bytes next (holds, short) =
    ap (by_reading name (λ bytes. told_by named (next bytes)))
    (ap (reading_of limit) holds ∙ within limit bytes short)

-- the bytes of inputs by their names
abbrev pairs_of : Named → List (List ℕ) → Named
pairs_of named names = map (λ name. (name, loaded_bytes named name)) names

pair_at : (named loaded : Named) (n name : List ℕ) (same : Bool) → bytes_eq n name ≡ same
    → (same ≡ false → loaded_bytes loaded name ≡ loaded_bytes named name)
    → unwrap_or (cond same (Some (loaded_bytes named n)) (bytes_named loaded name)) []
    ≡ loaded_bytes named name
pair_at named loaded n name true is rest = ap (loaded_bytes named) (same_name n name is)
pair_at named loaded n name false is rest = rest refl

pairs_hold : (named : Named) (names : List (List ℕ)) (name : List ℕ) → has_name name names ≡ true
    → loaded_bytes (pairs_of named names) name ≡ loaded_bytes named name
pairs_hold named [] name has = absurd (cc_false has)
pairs_hold named (n ∷ names) name has =
    pair_at named (pairs_of named names) n name (bytes_eq n name) refl
    (λ differ. pairs_hold named names name (rw differ at has))

-- the play over the inputs by their names is that over the named bytes
trace_alike : (board : BoardValue) (named : Named) (events : List Event)
    → list_all is_of_files events ≡ true
    → thin_trace board (pairs_of named (inputs_of events)) events ≡ thin_trace board named events
trace_alike board named events files =
    traces_alike (loaded_bytes (pairs_of named (inputs_of events))) (loaded_bytes named)
    (fresh board) events files
    (λ name has. pairs_hold named (inputs_of events) name
    (once_has name (filter_map mention events) has))

-- the inputs of a play, one after the other
not_past : (most n : ℕ) → n ≤ most → nat_lt most n ≡ false
not_past most n low = grind arith

small_sum : (sum held len rest : ℕ) → len ≡ held → sum + (held + rest) ≤ MAX_NAMED_BYTES
    → sum + len ≤ MAX_NAMED_BYTES
small_sum sum held len rest is low = omega (arith, is, low)

input_told : (board : BoardValue) (events : List Event) (named loaded : Named) (sum : ℕ)
    (name bytes : List ℕ) (names : List (List ℕ))
    → bytes_named named name ≡ Some bytes → is_thin_on board bytes ≡ true
    → sum + (length (loaded_bytes named name) + sum_by (λ n. length (loaded_bytes named n)) names)
    ≤ MAX_NAMED_BYTES
    → input_next board loaded sum name
    (λ loaded' sum'. inputs_work board events loaded' sum' names) bytes
    ≡ inputs_work board events (loaded ++ (name, loaded_bytes named name) ∷ [])
    (sum + length (loaded_bytes named name)) names
input_told board events named loaded sum name bytes names holds is_thin low =
    let held : loaded_bytes named name ≡ bytes = ap (λ found. unwrap_or found []) holds in
    let small : nat_lt MAX_NAMED_BYTES (sum + length bytes) ≡ false =
    not_past MAX_NAMED_BYTES (sum + length bytes)
    (small_sum sum (length (loaded_bytes named name)) (length bytes)
    (sum_by (λ n. length (loaded_bytes named n)) names) (sym (ap length held)) low) in
    input_goes board loaded (loaded ++ (name, bytes) ∷ []) sum name bytes
    (λ loaded' sum'. inputs_work board events loaded' sum' names) small is_thin refl
    ∙ ap (λ (b : List ℕ). inputs_work board events (loaded ++ (name, b) ∷ []) (sum + length b) names)
    (sym held)

inputs_told : (board : BoardValue) (events : List Event) (named loaded : Named) (sum : ℕ)
    (names : List (List ℕ)) → AllByRecursion (IsPlayable board named) names
    → sum + sum_by (λ n. length (loaded_bytes named n)) names ≤ MAX_NAMED_BYTES
    → told_by named (inputs_work board events loaded sum names)
    ≡ played board events (loaded ++ pairs_of named names)
inputs_told board events named loaded sum [] all low =
    ap (played board events) (sym (append-nil loaded))
inputs_told board events named loaded sum (name ∷ names) ((bytes, there, is_thin), all) low =
    let low' : sum + (length (loaded_bytes named name)
    + sum_by (λ n. length (loaded_bytes named n)) names) ≤ MAX_NAMED_BYTES =
    omega (arith, low, sum_by-cons (λ n. length (loaded_bytes named n)) name names) in
    read_there named MAX_CAPSULE_BYTES name bytes
    (input_next board loaded sum name
    (λ loaded' sum'. inputs_work board events loaded' sum' names)) there
    ∙ (ap (told_by named)
    (input_told board events named loaded sum name bytes names there.0 is_thin low')
    ∙ (inputs_told board events named (loaded ++ (name, loaded_bytes named name) ∷ [])
    (sum + length (loaded_bytes named name)) names all (omega (arith, low'))
    ∙ ap (played board events)
    (append_assoc loaded ((name, loaded_bytes named name) ∷ []) (pairs_of named names))))

-- the script, the board and the words of a play
script_told : (board : BoardValue) (events : List Event) (named : Named) (name bytes : List ℕ)
    → IsThere named MAX_TEXT_BYTES name bytes → script_said bytes ≡ Ok events
    → list_all is_of_files events ≡ true → AllByRecursion (IsPlayable board named) (inputs_of events)
    → sum_by (λ n. length (loaded_bytes named n)) (inputs_of events) ≤ MAX_NAMED_BYTES
    → told_by named (script_work board name) ≡ played board events named
script_told board events named name bytes there said files inputs low =
    read_there named MAX_TEXT_BYTES name bytes (λ b. script_next board name (script_said b)) there
    ∙ (ap (told_by named) (script_goes board name (script_said bytes) events said files)
    ∙ (inputs_told board events named [] 0 (inputs_of events) inputs (omega (arith, low))
    ∙ ap (played_as board events) (trace_alike board named events files)))

board_goes : (board : BoardValue) (name script bytes : List ℕ) → board_text bytes ≡ Ok board
    → (has_one_device board && not board.two_banks) ≡ true
    → board_next name script (board_text bytes) ≡ script_work board script
board_goes board name script bytes said one = rw said (rw one refl)

pub play_told : (words : List (List ℕ)) (named : Named) (board : BoardValue) (events : List Event)
    → IsPlay words named board events → told words named ≡ played board events named
play_told words named board events is =
    let (bytes, there, said) = is.boards in
    let (script, script_there, script_is) = is.scripts in
    ap (λ command. told_by named (work_by command words)) is.command
    ∙ (read_there named MAX_TEXT_BYTES (word words 1) bytes
    (λ b. board_next (word words 1) (word words 2) (board_text b)) there
    ∙ (ap (told_by named) (board_goes board (word words 1) (word words 2) bytes said is.one)
    ∙ script_told board events named (word words 2) script script_there script_is is.files is.inputs
    is.sum))

by_length : (P : Finding → Type 0) (name : List ℕ) (tell : List ℕ → Finding) (limit : ℕ)
    (bytes : List ℕ) (over : Bool) → nat_lt limit (length bytes) ≡ over
    → (length bytes ≤ limit → P (tell bytes)) → P (bare (long name))
    → P (by_reading name tell (cond over Long (Whole bytes)))
by_length P name tell limit bytes true is there past = past
by_length P name tell limit bytes false is there past = there (grind (arith, is))

-- what is told of an input is told of its bytes, or that it is not there or too long
by_found : (P : Finding → Type 0) (name : List ℕ) (tell : List ℕ → Finding) (limit : ℕ)
    (found : Option (List ℕ))
    → ((bytes : List ℕ) → found ≡ Some bytes → length bytes ≤ limit → P (tell bytes))
    → P (bare (unread name)) → P (bare (long name))
    → P (by_reading name tell (reading_of limit found))
by_found P name tell limit None there missing past = missing
by_found P name tell limit (Some bytes) there missing past =
    by_length P name tell limit bytes (nat_lt limit (length bytes)) refl
    (λ short. there bytes refl short) past

by_read : (P : Finding → Type 0) (named : Named) (limit : ℕ) (name : List ℕ) (next : List ℕ → Work)
    → ((bytes : List ℕ) → IsThere named limit name bytes → P (told_by named (next bytes)))
    → P (bare (unread name)) → P (bare (long name))
    → P (told_by named (Reads limit name next))
by_read P named limit name next there missing past =
    by_found P name (λ bytes. told_by named (next bytes)) limit (bytes_named named name)
    (λ bytes holds short. there bytes (holds, short)) missing past

-- what every end of a work has is told
ends_told : (P : Finding → Type 0) (named : Named) (w : Work)
    → ((name : List ℕ) → P (bare (unread name))) → ((name : List ℕ) → P (bare (long name)))
    → ((board : BoardValue) (events : List Event) (loaded : Named) → P (played board events loaded))
    → Ends P w → P (told_by named w)
ends_told P named (Finds finding) missing past plays ends = ends
ends_told P named (Plays board events loaded) missing past plays ends = plays board events loaded
ends_told P named (Reads limit name next) missing past plays ends =
    by_read P named limit name next
    (λ bytes there. ends_told P named (next bytes) missing past plays (ends bytes))
    (missing name) (past name)

-- the findings that have another status
abbrev IsOther : ℕ → Finding → Type 0
IsOther n finding = code_of finding.answer.status ≢ n

-- a status that no end behind the texts has, the inputs being loaded: 1 or 3
record IsOfText (n : ℕ) : Type 0 where
  not0 : 0 ≢ n
  not4 : 4 ≢ n
  not7 : 7 ≢ n
  not8 : 8 ≢ n

inputs_other : (n : ℕ) → IsOfText n → (board : BoardValue) (events : List Event) (loaded : Named)
    (sum : ℕ) (names : List (List ℕ)) → Ends (IsOther n) (inputs_work board events loaded sum names)
inputs_other n is board events loaded sum [] = tt
inputs_other n is board events loaded sum (name ∷ names) = λ bytes.
    input_ends (IsOther n) loaded sum name
    (λ loaded' sum'. inputs_work board events loaded' sum' names) bytes
    (nat_lt MAX_NAMED_BYTES (sum + length bytes)) (is_thin_on board bytes) is.not7 is.not8
    (inputs_other n is board events (loaded ++ (name, bytes) ∷ []) (sum + length bytes) names)

play_other : (n : ℕ) → IsOfText n → (named : Named) (board : BoardValue) (events : List Event)
    → code_of (told_by named (inputs_work board events [] 0 (inputs_of events))).answer.status ≢ n
play_other n is named board events =
    ends_told (IsOther n) named (inputs_work board events [] 0 (inputs_of events))
    (λ name. is.not4) (λ name. is.not7) (λ board events loaded. is.not0)
    (inputs_other n is board events [] 0 (inputs_of events))

making_other : (n : ℕ) → IsOfText n → (recipe : RecipeValue) (loaded : Named) (sum : ℕ)
    (names : List (List ℕ)) → Ends (IsOther n) (making_work recipe loaded sum names)
making_other n is recipe loaded sum [] =
    made_ends (IsOther n) (is_sized (recipe_capsule (contents_of loaded) recipe))
    (spelling (recipe_capsule (contents_of loaded) recipe)) is.not0 is.not7
making_other n is recipe loaded sum (name ∷ names) = λ bytes.
    load_ends (IsOther n) loaded sum name
    (λ loaded' sum'. making_work recipe loaded' sum' names) bytes
    (nat_lt MAX_NAMED_BYTES (sum + length bytes)) is.not7
    (making_other n is recipe (loaded ++ (name, bytes) ∷ []) (sum + length bytes) names)

make_other : (n : ℕ) → IsOfText n → (named : Named) (recipe : RecipeValue)
    → code_of (told_by named (making_work recipe [] 0 (recipe_names recipe))).answer.status ≢ n
make_other n is named recipe =
    ends_told (IsOther n) named (making_work recipe [] 0 (recipe_names recipe))
    (λ name. is.not4) (λ name. is.not7) (λ board events loaded. is.not0)
    (making_other n is recipe [] 0 (recipe_names recipe))

of_one : IsOfText 1
of_one = record { not0 = omega arith; not4 = omega arith; not7 = omega arith; not8 = omega arith }

of_three : IsOfText 3
of_three = record { not0 = omega arith; not4 = omega arith; not7 = omega arith; not8 = omega arith }

-- status 1
abbrev TellsOne : List (List ℕ) → Named → Finding → Type 0
TellsOne words named finding =
    code_of finding.answer.status ≡ 1 → TellsVerdict words named finding.answer

text_refused : (verdict : Verdict) (text : List ℕ) → code_of (text_by verdict text).status ≡ 1
    → text_by verdict text ≡ verdict_answer verdict
text_refused (WholeCapsule n) text code = absurd (omega (arith, code))
text_refused (Refused refusal) text code = refl
text_refused (Trailing at) text code = refl

recipe_not_one : (named : Named) (said : Result RecipeValue (BadKind × List ℕ))
    → code_of (told_by named (recipe_next said)).answer.status ≡ 1 → ⊥
recipe_not_one named (Err fault) code = omega (arith, code)
recipe_not_one named (Ok recipe) code = make_other 1 of_one named recipe code

files_not_one : (named : Named) (board : BoardValue) (name : List ℕ) (events : List Event)
    (files : Bool) → code_of (told_by named (cond files
    (inputs_work board events [] 0 (inputs_of events)) (Finds (bare (later name))))).answer.status
    ≡ 1 → ⊥
files_not_one named board name events true code = play_other 1 of_one named board events code
files_not_one named board name events false code = omega (arith, code)

script_not_one : (named : Named) (board : BoardValue) (name : List ℕ) (said : ScriptSaid)
    → code_of (told_by named (script_next board name said)).answer.status ≡ 1 → ⊥
script_not_one named board name (Err fault) code = omega (arith, code)
script_not_one named board name (Ok events) code =
    files_not_one named board name events (list_all is_of_files events) code

one_not_one : (named : Named) (board : BoardValue) (name script : List ℕ) (one : Bool)
    → code_of (told_by named (cond one (script_work board script)
    (Finds (bare (later name))))).answer.status ≡ 1 → ⊥
one_not_one named board name script true =
    by_read (λ finding. code_of finding.answer.status ≡ 1 → ⊥) named MAX_TEXT_BYTES script
    (λ bytes. script_next board script (script_said bytes))
    (λ bytes there code. script_not_one named board script (script_said bytes) code)
    (λ code. omega (arith, code)) (λ code. omega (arith, code))
one_not_one named board name script false = λ code. omega (arith, code)

board_not_one : (named : Named) (name script : List ℕ)
    (said : Result BoardValue (BadKind × List ℕ))
    → code_of (told_by named (board_next name script said)).answer.status ≡ 1 → ⊥
board_not_one named name script (Err fault) code = omega (arith, code)
board_not_one named name script (Ok board) code =
    one_not_one named board name script (has_one_device board && not board.two_banks) code

one_by : (command : Option Command) (words : List (List ℕ)) (named : Named)
    → command_of words ≡ command → TellsOne words named (told_by named (work_by command words))
one_by None words named is = λ code. absurd (omega (arith, code))
one_by (Some Check) words named is =
    by_read (TellsOne words named) named MAX_CAPSULE_BYTES (word words 1)
    (λ bytes. Finds (bare (verdict_answer (verdict_of bytes))))
    (λ bytes there code. (inl is, (bytes, there, refl)))
    (λ code. absurd (omega (arith, code))) (λ code. absurd (omega (arith, code)))
one_by (Some ShowFile) words named is =
    by_read (TellsOne words named) named MAX_CAPSULE_BYTES (word words 1)
    (λ bytes. Finds (bare (text_by (verdict_of bytes) (shown_text bytes))))
    (λ bytes there code.
    (inr (inl is), (bytes, there, text_refused (verdict_of bytes) (shown_text bytes) code)))
    (λ code. absurd (omega (arith, code))) (λ code. absurd (omega (arith, code)))
one_by (Some Rebuild) words named is =
    by_read (TellsOne words named) named MAX_CAPSULE_BYTES (word words 1)
    (λ bytes. Finds (bare (text_by (verdict_of bytes) (spelling (emptied (capsule_of bytes))))))
    (λ bytes there code. (
      inr (inr is),
      (
        bytes,
        there,
        text_refused (verdict_of bytes) (spelling (emptied (capsule_of bytes))) code,
      ),
    ))
    (λ code. absurd (omega (arith, code))) (λ code. absurd (omega (arith, code)))
one_by (Some Make) words named is =
    by_read (TellsOne words named) named MAX_TEXT_BYTES (word words 1)
    (λ bytes. recipe_next (recipe_text bytes))
    (λ bytes there code. absurd (recipe_not_one named (recipe_text bytes) code))
    (λ code. absurd (omega (arith, code))) (λ code. absurd (omega (arith, code)))
one_by (Some Play) words named is =
    by_read (TellsOne words named) named MAX_TEXT_BYTES (word words 1)
    (λ bytes. board_next (word words 1) (word words 2) (board_text bytes))
    (λ bytes there code.
    absurd (board_not_one named (word words 1) (word words 2) (board_text bytes) code))
    (λ code. absurd (omega (arith, code))) (λ code. absurd (omega (arith, code)))
one_by (Some Load) words named is = λ code. absurd (omega (arith, code))

pub one_told : (words : List (List ℕ)) (named : Named)
    → code_of (told words named).answer.status ≡ 1
    → TellsVerdict words named (told words named).answer
one_told words named = one_by (command_of words) words named refl

-- status 3
abbrev TellsThree : List (List ℕ) → Named → Finding → Type 0
TellsThree words named finding =
    code_of finding.answer.status ≡ 3 → TellsFault words named finding.answer

verdict_not_three : (verdict : Verdict) → code_of (verdict_answer verdict).status ≡ 3 → ⊥
verdict_not_three (WholeCapsule n) code = omega (arith, code)
verdict_not_three (Refused refusal) code = omega (arith, code)
verdict_not_three (Trailing at) code = omega (arith, code)

text_not_three : (verdict : Verdict) (text : List ℕ) → code_of (text_by verdict text).status ≡ 3
    → ⊥
text_not_three (WholeCapsule n) text code = omega (arith, code)
text_not_three (Refused refusal) text code = omega (arith, code)
text_not_three (Trailing at) text code = omega (arith, code)

recipe_three : (words : List (List ℕ)) (named : Named) (bytes : List ℕ)
    (said : Result RecipeValue (BadKind × List ℕ))
    → command_of words ≡ Some Make → IsThere named MAX_TEXT_BYTES (word words 1) bytes
    → recipe_text bytes ≡ said → TellsThree words named (told_by named (recipe_next said))
recipe_three words named bytes (Err fault) command there is =
    λ code. inl (command, (bytes, fault, there, is, refl))
recipe_three words named bytes (Ok recipe) command there is =
    λ code. absurd (make_other 3 of_three named recipe code)

files_three : (words : List (List ℕ)) (named : Named) (board : BoardValue) (name : List ℕ)
    (events : List Event) (files : Bool)
    → TellsThree words named (told_by named (cond files
    (inputs_work board events [] 0 (inputs_of events)) (Finds (bare (later name)))))
files_three words named board name events true =
    λ code. absurd (play_other 3 of_three named board events code)
files_three words named board name events false = λ code. absurd (omega (arith, code))

script_three : (words : List (List ℕ)) (named : Named) (board : BoardValue) (bytes : List ℕ)
    (said : ScriptSaid)
    → command_of words ≡ Some Play → IsThere named MAX_TEXT_BYTES (word words 2) bytes
    → script_said bytes ≡ said
    → TellsThree words named (told_by named (script_next board (word words 2) said))
script_three words named board bytes (Err fault) command there is =
    λ code. inr (inr (command, (bytes, fault, there, is, refl)))
script_three words named board bytes (Ok events) command there is =
    files_three words named board (word words 2) events (list_all is_of_files events)

device_three : (words : List (List ℕ)) (named : Named) (board : BoardValue) (one : Bool)
    → command_of words ≡ Some Play
    → TellsThree words named (told_by named (cond one (script_work board (word words 2))
    (Finds (bare (later (word words 1))))))
device_three words named board true command =
    by_read (TellsThree words named) named MAX_TEXT_BYTES (word words 2)
    (λ bytes. script_next board (word words 2) (script_said bytes))
    (λ bytes there. script_three words named board bytes (script_said bytes) command there refl)
    (λ code. absurd (omega (arith, code))) (λ code. absurd (omega (arith, code)))
device_three words named board false command = λ code. absurd (omega (arith, code))

board_three : (words : List (List ℕ)) (named : Named) (bytes : List ℕ)
    (said : Result BoardValue (BadKind × List ℕ))
    → command_of words ≡ Some Play → IsThere named MAX_TEXT_BYTES (word words 1) bytes
    → board_text bytes ≡ said
    → TellsThree words named (told_by named (board_next (word words 1) (word words 2) said))
board_three words named bytes (Err fault) command there is =
    λ code. inr (inl (command, (bytes, fault, there, is, refl)))
board_three words named bytes (Ok board) command there is =
    device_three words named board (has_one_device board && not board.two_banks) command

three_by : (command : Option Command) (words : List (List ℕ)) (named : Named)
    → command_of words ≡ command → TellsThree words named (told_by named (work_by command words))
three_by None words named is = λ code. absurd (omega (arith, code))
three_by (Some Check) words named is =
    by_read (TellsThree words named) named MAX_CAPSULE_BYTES (word words 1)
    (λ bytes. Finds (bare (verdict_answer (verdict_of bytes))))
    (λ bytes there code. absurd (verdict_not_three (verdict_of bytes) code))
    (λ code. absurd (omega (arith, code))) (λ code. absurd (omega (arith, code)))
three_by (Some ShowFile) words named is =
    by_read (TellsThree words named) named MAX_CAPSULE_BYTES (word words 1)
    (λ bytes. Finds (bare (text_by (verdict_of bytes) (shown_text bytes))))
    (λ bytes there code. absurd (text_not_three (verdict_of bytes) (shown_text bytes) code))
    (λ code. absurd (omega (arith, code))) (λ code. absurd (omega (arith, code)))
three_by (Some Rebuild) words named is =
    by_read (TellsThree words named) named MAX_CAPSULE_BYTES (word words 1)
    (λ bytes. Finds (bare (text_by (verdict_of bytes) (spelling (emptied (capsule_of bytes))))))
    (λ bytes there code.
    absurd (text_not_three (verdict_of bytes) (spelling (emptied (capsule_of bytes))) code))
    (λ code. absurd (omega (arith, code))) (λ code. absurd (omega (arith, code)))
three_by (Some Make) words named is =
    by_read (TellsThree words named) named MAX_TEXT_BYTES (word words 1)
    (λ bytes. recipe_next (recipe_text bytes))
    (λ bytes there. recipe_three words named bytes (recipe_text bytes) is there refl)
    (λ code. absurd (omega (arith, code))) (λ code. absurd (omega (arith, code)))
three_by (Some Play) words named is =
    by_read (TellsThree words named) named MAX_TEXT_BYTES (word words 1)
    (λ bytes. board_next (word words 1) (word words 2) (board_text bytes))
    (λ bytes there. board_three words named bytes (board_text bytes) is there refl)
    (λ code. absurd (omega (arith, code))) (λ code. absurd (omega (arith, code)))
three_by (Some Load) words named is = λ code. absurd (omega (arith, code))

pub three_told : (words : List (List ℕ)) (named : Named)
    → code_of (told words named).answer.status ≡ 3
    → TellsFault words named (told words named).answer
three_told words named = three_by (command_of words) words named refl
