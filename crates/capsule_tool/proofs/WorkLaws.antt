-- How works come to others.
use Rattle.std.proofs.Common.{◌≡◌, ℕ, ◌+◌, ◌≤◌, ◌⊎◌, inl, inr, List, [], ◌∷◌, ◌++◌, length}
use Rattle.std.proofs.Common.{Option, refl, sym, ◌∙◌, ap, arith}
use Rattle.std.specs.Prelude.{sum_by, Result, Ok, Err, IfOk, OnErr}
use Rattle.std.proofs.lemmas.List.{append_assoc, append-nil}
use Rattle.std.proofs.lemmas.List.Sums.{sum_by-append}
use Rattle.bench_model.specs.Boards.{BoardValue}
use Rattle.bench_model.specs.declared.counts.Counts.{Counts}
use Rattle.cu_base.specs.Causes.{RoseBy}
use Rattle.cu_base.specs.declared.limits.TheConstants.{MAX_CAPSULE_BYTES}
use Rattle.cu_io.specs.Named.{Named}
use Rattle.cu_io.specs.Seen.{Seen, MayAsk}
use Rattle.cu_io.specs.declared.read.ReadFault.{ReadFault}
use Rattle.cu_io.specs.declared.read.ReadFault.TheVariants as faults
use Rattle.reference_machine.specs.declared.event.Event.{Event}
use Rattle.reset_play.specs.Plays.{thin_trace}
use Rattle.capsule_tool.specs.Findings.{Finding, bare}
use Rattle.capsule_tool.specs.Readings.{Reading, WasRead, ReadsAs, JudgesAs}
use Rattle.capsule_tool.specs.Readings.Reading.{Whole, Unread, Long}
use Rattle.capsule_tool.specs.Played.{played}
use Rattle.capsule_tool.specs.Steps.{StopsAt, StepsTo, EndsAs, IsStep, AnswersFault, judge_work}
use Rattle.capsule_tool.specs.Verdicts.{verdict_of}
use Rattle.capsule_tool.specs.Works.{Work, Comes, names_by, Took, ComesTo, EndsAt, MayFind}
use Rattle.capsule_tool.specs.Works.{MayEnd, MayStop}
use Rattle.capsule_tool.specs.Works.Work.{Finds, Plays, Reads}
use Rattle.capsule_tool.specs.declared.answer.Answer.{Answer}
use Rattle.capsule_tool.specs.declared.stop.Stop.{Stop}
use Rattle.capsule_tool.specs.declared.stop.Stop.TheVariants.{Answered, Memory}
use Rattle.capsule_tool.specs.declared.verdict.Verdict.{Verdict}

-- counts
pub rose_on : (m n a b c : ℕ) → RoseBy m a b → RoseBy n b c → RoseBy (m + n) a c
rose_on m n a b c first second = omega (arith, first, second)

rose_still : (a : ℕ) → RoseBy 0 a a
rose_still a = omega arith

-- one after the other
comes_on : (named : Option Named) (readings more : List (List ℕ)) (w w' w'' : Work)
    → Comes named readings w w' → Comes named more w' w'' → Comes named (readings ++ more) w w''
comes_on named [] more w w' w'' comes then = rw comes at then
comes_on named (bytes ∷ rest) more (Finds finding) w' w'' comes then = absurd comes
comes_on named (bytes ∷ rest) more (Plays board events loaded) w' w'' comes then = absurd comes
comes_on named (bytes ∷ rest) more (Reads limit name next) w' w'' (holds, short, comes) then =
    (holds, short, comes_on named rest more (next bytes) w' w'' comes then)

names_on : (named : Option Named) (readings more : List (List ℕ)) (w w' : Work)
    → Comes named readings w w' → names_by (readings ++ more) w ≡ names_by readings w
    ++ names_by more w'
names_on named [] more w w' comes = ap (names_by more) (sym comes)
names_on named (bytes ∷ rest) more (Finds finding) w' comes = absurd comes
names_on named (bytes ∷ rest) more (Plays board events loaded) w' comes = absurd comes
names_on named (bytes ∷ rest) more (Reads limit name next) w' (holds, short, comes) =
    ap (λ (names : List (List ℕ)). name ∷ names) (names_on named rest more (next bytes) w' comes)

took_on : (names names' readings more : List (List ℕ)) (b m a : Seen)
    → Took names readings b m → Took names' more m a → Took (names ++ names') (readings ++ more) b a
took_on names names' readings more b m a first second = record {
  asked = second.asked ∙ (ap (λ (asked : List (List ℕ)). asked ++ names') first.asked
      ∙ append_assoc b.asked names names');
  taken = rw (sum_by-append length readings more)
      (rose_on (sum_by length readings) (sum_by length more) b.taken m.taken a.taken first.taken
      second.taken);
  later = omega (arith, first.later, second.later);
}

pub through : (named : Option Named) (w : Work) (b : Seen) (w' : Work) (m : Seen) (w'' : Work)
    (a : Seen)
    → ComesTo named w b w' m → ComesTo named w' m w'' a → ComesTo named w b w'' a
through named w b w' m w'' a (readings, comes, took) (more, then, took') = (
  readings ++ more,
  comes_on named readings more w w' w'' comes then,
  rw (names_on named readings more w w' comes)
      (took_on (names_by readings w) (names_by more w') readings more b m a took took'),
)

pub stays : (named : Option Named) (w : Work) (b : Seen) → ComesTo named w b w b
stays named w b = (
  [],
  refl,
  record {
    asked = sym (append-nil b.asked);
    taken = rose_still b.taken;
    later =
        omega arith;
  },
)

-- by one reading
pub one_read : (named : Option Named) (limit : ℕ) (name : List ℕ) (next : List ℕ
    → Work) (b a : Seen) (bytes : List ℕ)
    → WasRead named limit name b a (Whole bytes)
    → ComesTo named (Reads limit name next) b (next bytes) a
one_read named limit name next b a bytes read = (
  bytes ∷ [],
  (read.gives.0, read.gives.1, refl),
  record {
    asked = read.asked;
    taken =
        omega (arith, read.gives.2);
    later = read.later;
  },
)

-- what may be found and where memory may run out
pub find_through : (named : Option Named) (w : Work) (b : Seen) (w' : Work) (m a : Seen)
    (finding : Finding)
    → ComesTo named w b w' m → MayFind named w' m a finding → MayFind named w b a finding
find_through named w b w' m a finding comes (inl then) =
    inl (through named w b w' m (Finds finding) a comes then)
find_through named w b w' m a finding comes (inr (w'', middle, then, ends)) =
    inr (w'', middle, through named w b w' m w'' middle comes then, ends)

pub stop_through : (named : Option Named) (w : Work) (b : Seen) (w' : Work) (m a : Seen)
    → ComesTo named w b w' m → MayStop named w' m a → MayStop named w b a
stop_through named w b w' m a comes (w'', middle, then, stops) =
    (w'', middle, through named w b w' m w'' middle comes then, stops)

pub ended : (named : Option Named) (w : Work) (b a : Seen) (finding : Finding)
    → EndsAt named w b a finding → MayFind named w b a finding
ended named w b a finding ends = inr (w, b, stays named w b, ends)

pub stop_here : (named : Option Named) (w : Work) (b : Seen) (w' : Work) (a : Seen)
    → ComesTo named w b w' a → MayStop named w b a
stop_here named w b w' a comes = (w', a, comes, inl refl)

-- steps
pub ends_early : {U : Type 0} (w : Work) (next : U → Work) (b a : Seen) (stop : Stop)
    (result : Result U Stop) → result ≡ Err stop → StopsAt w b a stop → StepsTo w next b a result
ends_early w next b a stop result is stops = rw is stops

pub ends_short : {U : Type 0} (w : Work) (next : U → Work) (b : Seen) (w' : Work) (a : Seen)
    (result : Result U Stop) → result ≡ Err Memory → ComesTo b.named w b w' a
    → StepsTo w next b a result
ends_short w next b w' a result is comes = rw is (stop_here b.named w b w' a comes)

pub step_on : {V : Type 0} (w : Work) (b : Seen) (w' : Work) (a : Seen) (next : V → Work)
    (result : Result V Stop) → ComesTo b.named w b w' a → IsStep w' next result
    → StepsTo w next b a result
step_on w b w' a next (Ok value) comes is = rw is at comes
step_on w b w' a next (Err (Answered answer)) comes is = inl (rw is at comes)
step_on w b w' a next (Err Memory) comes is = stop_here b.named w b w' a comes

-- one step after another
comes_as : (named' named : Option Named) (w : Work) (b : Seen) (w' : Work) (a : Seen)
    → named' ≡ named → ComesTo named' w b w' a → ComesTo named w b w' a
comes_as named' named w b w' a same comes = rw same at comes

find_as : (named' named : Option Named) (w : Work) (b a : Seen) (finding : Finding)
    → named' ≡ named → MayFind named' w b a finding → MayFind named w b a finding
find_as named' named w b a finding same found = rw same at found

stop_as : (named' named : Option Named) (w : Work) (b a : Seen) → named' ≡ named
    → MayStop named' w b a → MayStop named w b a
stop_as named' named w b a same stops = rw same at stops

pub then_comes : (w : Work) (b : Seen) (w' : Work) (m : Seen) (w'' : Work) (a : Seen)
    → ComesTo b.named w b w' m → m.named ≡ b.named → ComesTo m.named w' m w'' a
    → ComesTo b.named w b w'' a
then_comes w b w' m w'' a comes same then =
    through b.named w b w' m w'' a comes (comes_as m.named b.named w' m w'' a same then)

pub then_stops : (w : Work) (b : Seen) (w' : Work) (m a : Seen) (stop : Stop)
    → ComesTo b.named w b w' m → m.named ≡ b.named → StopsAt w' m a stop → StopsAt w b a stop
then_stops w b w' m a (Answered answer) comes same stops =
    find_through b.named w b w' m a (bare answer) comes
    (find_as m.named b.named w' m a (bare answer) same stops)
then_stops w b w' m a Memory comes same stops =
    stop_through b.named w b w' m a comes (stop_as m.named b.named w' m a same stops)

-- readings
pub read_answered : (limit : ℕ) (name : List ℕ) (next : List ℕ → Work) (b a : Seen)
    (fault : ReadFault) (answer : Answer) → ReadsAs limit name b a (Err fault)
    → AnswersFault name fault answer → MayFind b.named (Reads limit name next) b a (bare answer)
read_answered limit name next b a faults.Read answer read is =
    ended _ _ _ _ _ (Unread, read, ap bare is)
read_answered limit name next b a faults.TooLong answer read is =
    ended _ _ _ _ _ (Long, read, ap bare is)
read_answered limit name next b a faults.Memory answer read is = absurd is

asked_stops : (limit : ℕ) (name : List ℕ) (next : List ℕ → Work) (b a : Seen) → MayAsk name b a
    → MayStop b.named (Reads limit name next) b a
asked_stops limit name next b a may =
    (Reads limit name next, b, stays b.named (Reads limit name next) b, may)

pub read_stopped : {U : Type 0} (limit : ℕ) (name : List ℕ) (next : List ℕ → Work)
    (next' : U → Work) (b a : Seen) (fault : ReadFault) (result : Result U Stop)
    → result ≡ Err Memory → ReadsAs limit name b a (Err fault)
    → StepsTo (Reads limit name next) next' b a result
read_stopped limit name next next' b a faults.Read result is read =
    rw is (asked_stops limit name next b a (inr read.asked))
read_stopped limit name next next' b a faults.TooLong result is read =
    rw is (asked_stops limit name next b a (inr read.asked))
read_stopped limit name next next' b a faults.Memory result is read =
    rw is (asked_stops limit name next b a read)

pub judged_on : (name : List ℕ) (next : Verdict → Work) (b a : Seen) (verdict : Verdict)
    → JudgesAs name b a (Ok verdict) → ComesTo b.named (judge_work name next) b (next verdict) a
judged_on name next b a verdict (bytes, read, is) =
    rw is (one_read b.named MAX_CAPSULE_BYTES name (λ bytes. next (verdict_of bytes)) b a bytes
    read)

pub finds_as : (named : Option Named) (w : Work) (b a : Seen) (finding finding' : Finding)
    → finding ≡ finding' → ComesTo named w b (Finds finding') a
    → ComesTo named w b (Finds finding) a
finds_as named w b a finding finding' is comes = rw is comes

-- how a work ends
pub plays_end : (named : Option Named) (w : Work) (b a : Seen) (k k' : Counts) (board : BoardValue)
    (events : List Event) (loaded : Named) (finding : Finding)
    → finding ≡ played board events loaded → ComesTo named w b (Plays board events loaded) a
    → MayEnd named w b a k k' finding
plays_end named w b a k k' board events loaded finding is comes =
    inr (board, events, loaded, thin_trace board loaded events, comes, inr refl, is)

pub finds_end : (w : Work) (b a : Seen) (k k' : Counts) (result : Result Finding Stop)
    → StepsTo w (λ finding. Finds finding) b a result → EndsAs w b a k k' result
finds_end w b a k k' (Ok finding) comes = inl (inl comes)
finds_end w b a k k' (Err stop) stops = stops

pub ends_as : (w w' : Work) (b a : Seen) (k k' : Counts) (result : Result Finding Stop) → w ≡ w'
    → EndsAs w' b a k k' result → EndsAs w b a k k' result
ends_as w w' b a k k' result same ends = rw same ends

pub stops_end : (w : Work) (b a : Seen) (k k' : Counts) (stop : Stop) (result : Result Finding Stop)
    → result ≡ Err stop → StopsAt w b a stop → EndsAs w b a k k' result
stops_end w b a k k' stop result is stops = rw is stops

pub short_end : (w : Work) (b : Seen) (w' : Work) (a : Seen) (k k' : Counts)
    (result : Result Finding Stop) → result ≡ Err Memory → ComesTo b.named w b w' a
    → EndsAs w b a k k' result
short_end w b w' a k k' result is comes = rw is (stop_here b.named w b w' a comes)

-- results
pub lift : {X E : Type 0} (result : Result X E) (P Q : X → Type 0) → ((x : X) → P x → Q x)
    → IfOk result P → IfOk result Q
lift (Ok x) P Q implies holds = implies x holds
lift (Err e) P Q implies holds = tt

pub on_err : {X E : Type 0} (result : Result X E) (P : Type 0) → P → OnErr result P
on_err (Ok x) P holds = tt
on_err (Err e) P holds = holds

pub stop_start : (named : Option Named) (w : Work) (b : Seen) → MayStop named w b b
stop_start named w b = stop_here named w b w b (stays named w b)
