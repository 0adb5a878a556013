-- What a scan finds, by what came in each of its reads.
use Rattle.std.proofs.Common.{◌≡◌, ℕ, ◌+◌, ◌≤◌, min, List, [], ◌++◌, length, take, drop}
use Rattle.std.proofs.Common.{length-append, length-take, length-take-le, length-drop, refl, sym}
use Rattle.std.proofs.Common.{ap, ◌∙◌, arith}
use Rattle.std.specs.Prelude.{Option, None, Some, Result, Ok, Err, IsErrOf}
use Rattle.std.proofs.lemmas.List.{drop-take, drop_at}
use Rattle.cu_base.specs.Causes.{Rose}
use Rattle.cu_base.specs.Refusals.{Row, first_refusal}
use Rattle.cu_io.specs.Streams.{Progress, Goes, Passes, Ends, EndsIn}
use Rattle.cu_io.specs.declared.stream.StreamFault.{StreamFault}
use Rattle.cu_io.specs.declared.stream.StreamFault.TheVariants as faults
use Rattle.cu_io.proofs.Taking.{goes_after}
use Rattle.capsule_grammar.specs.Fronts.{Begins}
use Rattle.capsule_grammar.specs.Refusals.{Answers, image_rows, fmp_front_rows, all_offset_rows}
use Rattle.capsule_grammar.specs.Refusals.{all_image_rows, fmp_rows}
use Rattle.capsule_grammar.specs.declared.refusal.Refusal.{Refusal}
use Rattle.capsule_grammar.specs.declared.refusal.Why.{Why}
use Rattle.capsule_grammar.proofs.FrontLemmas.{begins_less}
use Rattle.cu_base.proofs.Rows.{first-none, first-some}
use Rattle.capsule_tool.specs.ScanStops.{stop_of}
use Rattle.capsule_tool.specs.Scans.{Tells, IsCut, Scans, IsStop, TellsImage, ScansImage}
use Rattle.capsule_tool.specs.declared.scan.stop.ScanStop.{ScanStop}
use Rattle.capsule_tool.specs.declared.scan.stop.ScanStop.TheVariants.{Refused, Ended, Failed}
use Rattle.capsule_tool.specs.declared.scan.stop.ScanStop.TheVariants.{Memory}

pub rose_then : (a b c : ℕ) → a ≤ b → Rose b c → Rose a c
rose_then a b c low rose = omega (arith, low, rose)

-- ---- the end of the input

pub ends_in : (out : List ℕ) (n : ℕ) (a b : Progress) → EndsIn out a b → length out ≡ n → Ends n a b
ends_in out n a b (k, below, goes, end) long =
    (take k out, omega (arith, length-take-le k out (omega arith), below, long), goes, end)

pub ends_cut : (n size : ℕ) (before : List ℕ) (a b : Progress) → Ends n a b
    → length before + n ≤ size → IsCut size before a b
ends_cut n size before a b (bytes, short, goes, end) within =
    (bytes, goes, omega (arith, length-append before bytes, short, within), end)

-- a fault of the stream
pub is_stop : {T : Type 0} (n : ℕ) (a b : Progress) (fault : StreamFault)
    → (IsErrOf {T = T} (Err fault) faults.Ended → Ends n a b)
    → (IsErrOf {T = T} (Err fault) faults.Failed → Rose a.faults b.faults)
    → IsStop n a b (stop_of fault)
is_stop n a b faults.Ended ends rose = ends refl
is_stop n a b faults.Failed ends rose = rose refl

-- ---- an image item

-- a head is read into the front of room for the most of it
pub head_few : (most n size : ℕ) (zeros out : List ℕ) → length zeros ≡ most → n ≡ min size most
    → length out ≡ length (take n zeros) → length out ≡ min most size
head_few most n size zeros out all few long = omega (arith, length-take n zeros, all, few, long)

pub image_told : (ahead size at : ℕ) (a b c : Progress) (head : List ℕ) (refused : Option (ℕ × Why))
    → Passes ahead a b → Goes head b c → length head ≡ min 48 size
    → ((image : List ℕ) → Begins head size image → first_refusal (image_rows image at) ≡ refused)
    → TellsImage ahead size at a c refused
image_told ahead size at a b c head refused (passed, long, first) then few tells =
    (passed, head, long, few, goes_after passed head a b c first then, tells)

pub image_cut : (ahead size : ℕ) (out : List ℕ) (a b c : Progress) → Passes ahead a b
    → EndsIn out b c → length out ≡ min 48 size → IsCut (ahead + size) [] a c
image_cut ahead size out a b c (passed, long, first) (n, below, then, end) few = (
  passed ++ take n out,
  goes_after passed (take n out) a b c first then,
  omega (
    arith,
    length-append passed (take n out),
    length-take-le n out (omega arith),
    long,
    below,
    few,
  ),
  end,
)

pub image_stopped : {T : Type 0} (ahead size at : ℕ) (a c : Progress) (fault : StreamFault)
    → (IsErrOf {T = T} (Err fault) faults.Ended → IsCut (ahead + size) [] a c)
    → (IsErrOf {T = T} (Err fault) faults.Failed → Rose a.faults c.faults)
    → ScansImage ahead size at a c (Err (stop_of fault))
image_stopped ahead size at a c faults.Ended cut rose = cut refl
image_stopped ahead size at a c faults.Failed cut rose = rose refl

-- ---- a part behind bytes that came

pub scans_stop : (X : Type 0) (size n : ℕ) (head : List ℕ) (rows : List ℕ
    → List (Row (ℕ × Why))) (a b c : Progress) (stop : ScanStop)
    → Goes head a b → IsStop n b c stop → length head + n ≤ size
    → Scans {X = X} size rows [] a c (Err stop)
scans_stop X size n head rows a b c (Refused refusal) first is within = absurd is
scans_stop X size n head rows a b c Ended first (bytes, short, then, end) within = (
  head ++ bytes,
  goes_after head bytes a b c first then,
  omega
      (arith, length-append head bytes, short, within),
  end,
)
scans_stop X size n head rows a b c Failed first is within = rose_then _ _ _ first.later is
scans_stop X size n head rows a b c Memory first is within = tt

-- ---- the body of an FMP capsule

rows_three : (one two three : List (Row (ℕ × Why))) (refused : Option (ℕ × Why))
    → first_refusal one ≡ None → first_refusal two ≡ None → first_refusal three ≡ refused
    → first_refusal (one ++ (two ++ three)) ≡ refused
rows_three one two three refused first then last = first-none one (two ++ three) first
    ∙ (first-none two three then ∙ last)

-- an offset is refused
pub offsets_told : (X : Type 0) (size at : ℕ) (front : List ℕ) (a b : Progress) (refusal : Refusal)
    → Goes front a b → length front ≤ size
    → ((body : List ℕ) → Begins front size body → first_refusal (fmp_front_rows body at) ≡ None)
    → ((body : List ℕ) → Begins front size body
    → Answers {X = Unit {0}} (Err refusal) (first_refusal (all_offset_rows body at)))
    → Scans {X = X} size (λ body. fmp_rows body at) [] a b (Err (Refused refusal))
offsets_told X size at front a b refusal goes within header offsets = (
  front,
  goes,
  within,
  λ body begins. first-none (fmp_front_rows body at) (all_offset_rows body at
      ++ all_image_rows body at) (header body begins)
      ∙ first-some (all_offset_rows body at) (all_image_rows body at) (refusal.at, refusal.why)
      (offsets body begins),
)

images_tell : (size at : ℕ) (front : List ℕ) (a b c : Progress) (refused : Option (ℕ × Why))
    → Goes front a b
    → ((body : List ℕ) → Begins front size body → first_refusal (fmp_front_rows body at) ≡ None)
    → ((body : List ℕ) → Begins front size body → first_refusal (all_offset_rows body at) ≡ None)
    → Tells size (λ body. all_image_rows body at) front b c refused
    → Tells size (λ body. fmp_rows body at) [] a c refused
images_tell size at front a b c refused goes header offsets (bytes, then, within, tells) = (
  front ++ bytes,
  goes_after front bytes a b c goes then,
  within,
  λ body begins.
      let first : Begins front size body = begins_less front bytes begins in
      rows_three (fmp_front_rows body at) (all_offset_rows body at) (all_image_rows body at)
      refused (header body first) (offsets body first) (tells body begins),
)

-- the images, behind header and offsets of which none is refused
pub images_told : {X : Type 0} (size at : ℕ) (front : List ℕ) (a b c : Progress)
    (result : Result X ScanStop) → Goes front a b
    → ((body : List ℕ) → Begins front size body → first_refusal (fmp_front_rows body at) ≡ None)
    → ((body : List ℕ) → Begins front size body → first_refusal (all_offset_rows body at) ≡ None)
    → Scans size (λ body. all_image_rows body at) front b c result
    → Scans size (λ body. fmp_rows body at) [] a c result
images_told size at front a b c (Ok x) goes header offsets scans =
    images_tell size at front a b c None goes header offsets scans
images_told size at front a b c (Err (Refused refusal)) goes header offsets scans =
    images_tell size at front a b c (Some (refusal.at, refusal.why)) goes header offsets scans
images_told size at front a b c (Err Ended) goes header offsets (bytes, then, short, end) =
    (front ++ bytes, goes_after front bytes a b c goes then, short, end)
images_told size at front a b c (Err Failed) goes header offsets rose = rose_then
    _ _ _ goes.later rose
images_told size at front a b c (Err Memory) goes header offsets stop = tt

-- ---- a part that is behind bytes that are passed by

begins_ahead : (passed bytes whole : List ℕ) (ahead size : ℕ) → length passed ≡ ahead
    → Begins (passed ++ bytes) (ahead + size) whole → Begins bytes size (drop ahead whole)
begins_ahead passed bytes whole ahead size gap begins =
    let long : ahead + length bytes ≡ length (passed ++ bytes) =
    omega (arith, length-append passed bytes, gap) in
    record {
      same = sym (drop-take ahead (length bytes) whole)
          ∙ (ap (λ n. drop ahead (take n whole)) long
          ∙ (ap (drop ahead) begins.same ∙ drop_at passed bytes ahead gap));
      long = omega (arith, length-drop ahead whole, begins.long);
    }

ahead_tells : (ahead size : ℕ) (rows : List ℕ
    → List (Row (ℕ × Why))) (a b c : Progress) (refused : Option (ℕ × Why)) → Passes ahead a b
    → Tells size rows [] b c refused
    → Tells (ahead + size) (λ rest. rows (drop ahead rest)) [] a c refused
ahead_tells ahead size rows a b c refused (passed, gap, first) (bytes, then, within, tells) = (
  passed ++ bytes,
  goes_after passed bytes a b c first then,
  omega (arith, length-append passed bytes, gap, within),
  λ whole begins. tells (drop ahead whole) (begins_ahead passed bytes whole ahead size gap begins),
)

pub scans_ahead : {X : Type 0} (ahead size : ℕ) (rows : List ℕ
    → List (Row (ℕ × Why))) (a b c : Progress) (result : Result X ScanStop) → Passes ahead a b
    → Scans size rows [] b c result
    → Scans (ahead + size) (λ rest. rows (drop ahead rest)) [] a c result
scans_ahead ahead size rows a b c (Ok x) passes scans =
    ahead_tells ahead size rows a b c None passes scans
scans_ahead ahead size rows a b c (Err (Refused refusal)) passes scans =
    ahead_tells ahead size rows a b c (Some (refusal.at, refusal.why)) passes scans
scans_ahead ahead size rows a b c (Err Ended) (passed, gap, first) (bytes, then, short, end) = (
  passed ++ bytes,
  goes_after passed bytes a b c first then,
  omega
      (arith, length-append passed bytes, gap, short),
  end,
)
scans_ahead ahead size rows a b c (Err Failed) (passed, gap, first) rose = rose_then
    _ _ _ first.later rose
scans_ahead ahead size rows a b c (Err Memory) passes stop = tt
