-- What the scan of a file finds, by its capsule header and by what was found of its body.
use Rattle.std.proofs.Common.{◌≡◌, ℕ, ◌+◌, ◌-◌, ◌<◌, ◌≤◌, true, false, List, [], ◌++◌, length, take}
use Rattle.std.proofs.Common.{drop, length-append, length-take, length-take-le, length-drop, refl}
use Rattle.std.proofs.Common.{sym, ap, subst, ◌∙◌, arith}
use Rattle.std.specs.Prelude.{Option, None, Some, Result, Ok, Err, IsErrOf}
use Rattle.std.specs.Io.KnownBytes.{IsAtEnd}
use Rattle.std.proofs.lemmas.Bool.{cond-true, cond-false, ltb-false, lt-ltb, or_parts}
use Rattle.std.proofs.lemmas.List.{take_at, take-take, drop-take, drop_at, drop-drop}
use Rattle.cu_base.specs.Causes.{Rose}
use Rattle.cu_base.specs.Fields.{field}
use Rattle.cu_base.specs.Refusals.{first_refusal}
use Rattle.cu_base.specs.declared.limits.TheConstants.{MAX_CAPSULE_BYTES}
use Rattle.cu_io.specs.Streams.{Progress, Goes, EndsIn}
use Rattle.cu_io.specs.declared.stream.StreamFault.{StreamFault}
use Rattle.cu_io.specs.declared.stream.StreamFault.TheVariants as faults
use Rattle.cu_io.proofs.Taking.{goes_after}
use Rattle.fmp_headers.specs.CapsuleHeader.{header_size, image_size, is_short, capsule_header}
use Rattle.fmp_headers.specs.CapsuleHeader.{capsule_header_fields, capsule_header_rows}
use Rattle.fmp_headers.specs.declared.capsule.CapsuleHeader.{CapsuleHeader}
use Rattle.fmp_headers.specs.declared.faults.HeaderFault.{HeaderFault}
use Rattle.fmp_headers.specs.declared.faults.HeaderFault.TheVariants.{Short}
use Rattle.cu_base.proofs.Rows.{passed}
use Rattle.fmp_headers.proofs.Headers.{header_or_ok, header_given}
use Rattle.capsule_grammar.specs.Fronts.{Begins}
use Rattle.capsule_grammar.specs.Refusals.{capsule_rows, fmp_rows, body_of, is_fmp_guid}
use Rattle.capsule_grammar.specs.declared.refusal.Why.{Why}
use Rattle.capsule_grammar.proofs.FrontLemmas.{field_same, number_least, shorter_least}
use Rattle.capsule_grammar.proofs.Read.{is_front}
use Rattle.capsule_tool.specs.ScanStops.{stop_of}
use Rattle.capsule_tool.specs.Scans.{Tells, Scans, TellsFile, IsCutFile, ScansFile}
use Rattle.capsule_tool.specs.declared.scan.stop.ScanStop.{ScanStop}
use Rattle.capsule_tool.specs.declared.scan.stop.ScanStop.TheVariants.{Refused, Ended, Failed}
use Rattle.capsule_tool.specs.declared.scan.stop.ScanStop.TheVariants.{Memory}
use Rattle.capsule_tool.proofs.ScanLaws.{rose_then}
use Rattle.capsule_tool.proofs.VerdictLaws.{header_behind}

-- a file of which head is the first 28 bytes
head_begins : (head file : List ℕ) → length head ≡ 28 → take 28 file ≡ head
    → Begins head (length file) file
head_begins head file long is = record { same = ap (λ n. take n file) long ∙ is; long = refl }

-- the bytes that came are the front of the file, so head is
head_front : (head bytes file : List ℕ) → length head ≡ 28
    → take (length (head ++ bytes)) file ≡ head ++ bytes → take 28 file ≡ head
head_front head bytes file long is =
    let less : 28 ≤ length (head ++ bytes) = omega (arith, length-append head bytes, long) in
    sym (take-take 28 (length (head ++ bytes)) file less)
    ∙ (ap (take 28) is ∙ take_at head bytes 28 long)

-- ---- the header

pub cut_in_head : (read : Result CapsuleHeader HeaderFault) (head : List ℕ) (a b : Progress)
    → EndsIn head a b → length head ≡ 28 → read ≡ Err Short → IsCutFile read a b
cut_in_head read head a b (n, below, goes, end) long short =
    let l : length (take n head) ≡ n = length-take-le n head (omega (arith, below)) in
    let cut : capsule_header (take n head) ≡ Err Short =
    rw (lt-ltb (length (take n head)) 28 (omega (arith, l, below, long))) refl in (
      take n head,
      goes,
      end,
      omega (arith, l, below, long),
      cut ∙ sym short,
      λ none. absurd (omega (arith, (is_front (take n head) none).long, l, below, long)),
    )

-- where the file's header is not refused, that of head is not
pub header_passes : (head file : List ℕ) → length head ≡ 28 → take 28 file ≡ head
    → first_refusal (capsule_rows file) ≡ None
    → capsule_header head ≡ Ok (capsule_header_fields head)
header_passes head file long is none =
    let b = head_begins head file long is in
    let passes =
    (header_or_ok (first_refusal (capsule_header_rows file)) (capsule_header_fields file)
    (capsule_header_fields file) (is_front file none).header).0 in
    let h : header_size head ≡ header_size file =
    sym (number_least 28 16 4 b (omega (arith, long)) (omega arith)) in
    let i : image_size head ≡ image_size file =
    sym (number_least 28 24 4 b (omega (arith, long)) (omega arith)) in
    let s : is_short head ≡ is_short file = sym
    (shorter_least 28 28 b (omega (arith, long)) (omega arith)) in
    header_given (first_refusal (capsule_header_rows head)) (capsule_header_fields head)
    (capsule_header_fields head) (rw (h, i, s) passes) refl

-- what the rows of a header keep of its sizes
record HasBounds (header : CapsuleHeader) : Type 0 where
  low : 28 ≤ header.header_size
  within : header.header_size ≤ header.image_size
  limit : header.image_size ≤ MAX_CAPSULE_BYTES

header_bounds : (head : List ℕ) (header : CapsuleHeader) → capsule_header head ≡ Ok header
    → HasBounds header
header_bounds head header read =
    let o = header_or_ok (first_refusal (capsule_header_rows head)) (capsule_header_fields head)
    header read in
    let rows = passed (capsule_header_rows head) o.0 in
    let sizes = or_parts _ _ rows.1.0 in
    subst HasBounds o.1 (record {
      low = ltb-false _ _ sizes.0;
      within =
          ltb-false _ _ sizes.1;
      limit = ltb-false _ _ rows.1.1.0;
    })

-- a file that is no FMP capsule, or whose header is refused, has nothing more to tell
pub file_plain : (read : Result CapsuleHeader HeaderFault) (head : List ℕ) (a b : Progress)
    → capsule_header head ≡ read → Goes head a b → length head ≡ 28
    → (capsule_header head ≡ Ok (capsule_header_fields head)
    → is_fmp_guid (field head 0 16) ≡ false) → TellsFile read a b None
file_plain read head a b same goes long plain = (
  head,
  goes,
  omega (arith, long),
  omega (arith, long),
  same,
  λ file is none.
      let front : take 28 file ≡ head = ap (λ n. take n file) (sym long) ∙ is in
      let guid : field file 0 16 ≡ field head 0 16 =
      field_same 0 16 (head_begins head file long front) (omega (arith, long)) in
      ap first_refusal (cond-false _ _ _ (ap is_fmp_guid guid
      ∙ plain (header_passes head file long front none))),
)

-- ---- an FMP capsule

-- the body, in the bytes behind the header
body_behind : (file : List ℕ) (h s : ℕ) → 28 ≤ h → h ≤ s
    → drop (h - 28) (take (s - 28) (drop 28 file)) ≡ field file h (s - h)
body_behind file h s low within =
    let sum : s - 28 ≡ (h - 28) + (s - h) = omega (arith, low, within) in
    let at : 28 + (h - 28) ≡ h = omega (arith, low) in
    ap (λ n. drop (h - 28) (take n (drop 28 file))) sum
    ∙ (drop-take (h - 28) (s - h) (drop 28 file)
    ∙ ap (take (s - h)) (drop-drop (h - 28) 28 file ∙ ap (λ n. drop n file) at))

-- what came behind the header begins that
rest_begins : (head bytes file : List ℕ) (s : ℕ) → length head ≡ 28
    → take (length (head ++ bytes)) file ≡ head ++ bytes → length bytes ≤ s - 28 → s ≤ length file
    → Begins bytes (s - 28) (take (s - 28) (drop 28 file))
rest_begins head bytes file s long is within there =
    let sum : 28 + length bytes ≡ length (head ++ bytes) =
    omega (arith, length-append head bytes, long) in
    record {
      same = take-take (length bytes) (s - 28) (drop 28 file) within
          ∙ (sym (drop-take 28 (length bytes) file)
          ∙ (ap (λ n. drop 28 (take n file)) sum
          ∙ (ap (drop 28) is ∙ drop_at head bytes 28 long)));
      long = omega (arith, length-take (s - 28) (drop 28 file), length-drop 28 file, there);
    }

-- the header of a file that begins with head
record IsHeaderOf (header : CapsuleHeader) (file : List ℕ) : Type 0 where
  guid : field file 0 16 ≡ header.guid.bytes
  low : header_size file ≡ header.header_size
  size : image_size file ≡ header.image_size

header_of : (head file : List ℕ) (header : CapsuleHeader) → length head ≡ 28 → take 28 file ≡ head
    → capsule_header head ≡ Ok header → IsHeaderOf header file
header_of head file header long is read =
    let b = head_begins head file long is in
    let same : capsule_header_fields head ≡ header =
    (header_or_ok (first_refusal (capsule_header_rows head)) (capsule_header_fields head) header
    read).1 in
    record {
      guid = field_same 0 16 b (omega (arith, long))
          ∙ ap (λ (h : CapsuleHeader). h.guid.bytes) same;
      low = number_least 28 16 4 b (omega (arith, long)) (omega arith)
          ∙ ap (λ (h : CapsuleHeader). h.header_size) same;
      size = number_least 28 24 4 b (omega (arith, long)) (omega arith)
          ∙ ap (λ (h : CapsuleHeader). h.image_size) same;
    }

file_tells : (found : Result CapsuleHeader HeaderFault) (head : List ℕ) (header : CapsuleHeader)
    (a b c : Progress) (refused : Option (ℕ × Why)) → capsule_header head ≡ found → Goes head a b
    → length head ≡ 28
    → capsule_header head ≡ Ok header
    → is_fmp_guid header.guid.bytes ≡ true
    → Tells (header.image_size - 28) (λ rest. fmp_rows (drop (header.header_size - 28) rest)
    header.header_size) [] b c refused → TellsFile found a c refused
file_tells found head header a b c refused is_found goes long read fmp (bytes, then, short, tells) =
    let bounds = header_bounds head header read in (
      head ++ bytes,
      goes_after head bytes a b c goes then,
      omega (arith, length-append head bytes, long),
      omega (arith, length-append head bytes, long, short, bounds.low, bounds.within, bounds.limit),
      header_behind head bytes (omega (arith, long)) ∙ is_found,
      λ file is none.
          let front = is_front file none in
          let of = header_of head file header long (head_front head bytes file long is) read in
          let rest = take (header.image_size - 28) (drop 28 file) in
          let told : first_refusal (fmp_rows (drop (header.header_size - 28) rest)
          header.header_size) ≡ refused =
          tells rest (rest_begins head bytes file header.image_size long is short
          (omega (arith, front.there, of.size))) in
          let body : body_of file ≡ drop (header.header_size - 28) rest =
          rw (of.low, of.size)
          (sym (body_behind file header.header_size header.image_size bounds.low
          bounds.within)) in
          let same : fmp_rows (body_of file) (header_size file)
          ≡ fmp_rows (drop (header.header_size - 28) rest) header.header_size =
          ap (λ l. fmp_rows l (header_size file)) body
          ∙ ap (fmp_rows (drop (header.header_size - 28) rest)) of.low in
          ap first_refusal (cond-true _ _ _ (ap is_fmp_guid of.guid ∙ fmp) ∙ same) ∙ told,
    )

-- a file that ends within the capsule that its header tells
file_cut : (found : Result CapsuleHeader HeaderFault) (head : List ℕ) (header : CapsuleHeader)
    (a b c : Progress) → capsule_header head ≡ found → Goes head a b
    → length head ≡ 28 → capsule_header head ≡ Ok header
    → (bytes : List ℕ) → Goes bytes b c → length bytes < header.image_size - 28 → IsAtEnd c.left
    → IsCutFile found a c
file_cut found head header a b c is_found goes long read bytes then short end =
    let bounds = header_bounds head header read in
    let is : take 28 (head ++ bytes) ≡ head = take_at head bytes 28 long in (
      head ++ bytes,
      goes_after head bytes a b c goes then,
      end,
      omega (arith, length-append head bytes, long, short, bounds.low, bounds.within, bounds.limit),
      header_behind head bytes (omega (arith, long)) ∙ is_found,
      λ none. absurd
          (omega (
            arith,
            (is_front (head ++ bytes) none).there,
            (header_of head (head ++ bytes) header long is read).size,
            length-append head bytes,
            long,
            short,
          )),
    )

pub file_scanned : {X : Type 0} (found : Result CapsuleHeader HeaderFault) (head : List ℕ)
    (header : CapsuleHeader) (a b c : Progress) (result : Result X ScanStop)
    → capsule_header head ≡ found → Goes head a b → length head ≡ 28
    → capsule_header head ≡ Ok header
    → is_fmp_guid header.guid.bytes ≡ true
    → Scans (header.image_size - 28) (λ rest. fmp_rows (drop (header.header_size - 28) rest)
    header.header_size) [] b c result → ScansFile found a c result
file_scanned found head header a b c (Ok x) is_found goes long read fmp scans =
    file_tells found head header a b c None is_found goes long read fmp scans
file_scanned found head header a b c (Err (Refused refusal)) is_found goes long read fmp scans =
    file_tells found head header a b c (Some (refusal.at, refusal.why)) is_found goes long read fmp
    scans
file_scanned found head header a b c (Err Ended) is_found goes long read fmp
    (bytes, then, short, end) =
    file_cut found head header a b c is_found goes long read bytes then short end
file_scanned found head header a b c (Err Failed) is_found goes long read fmp rose = rose_then
    _ _ _ goes.later rose
file_scanned found head header a b c (Err Memory) is_found goes long read fmp stop = tt

pub file_stopped : {T : Type 0} (X : Type 0) (read : Result CapsuleHeader HeaderFault)
    (head : List ℕ) (a b : Progress) (fault : StreamFault) → length head ≡ 28 → read ≡ Err Short
    → (IsErrOf {T = T} (Err fault) faults.Ended → EndsIn head a b)
    → (IsErrOf {T = T} (Err fault) faults.Failed → Rose a.faults b.faults)
    → ScansFile {X = X} read a b (Err (stop_of fault))
file_stopped X read head a b faults.Ended long short ends rose =
    cut_in_head read head a b (ends refl) long short
file_stopped X read head a b faults.Failed long short ends rose = rose refl

-- ---- no FMP capsule

pub plain_guid : (head : List ℕ) (header : CapsuleHeader) → capsule_header head ≡ Ok header
    → is_fmp_guid header.guid.bytes ≡ false → is_fmp_guid (field head 0 16) ≡ false
plain_guid head header read plain =
    ap (λ (h : CapsuleHeader). is_fmp_guid h.guid.bytes)
    (header_or_ok (first_refusal (capsule_header_rows head)) (capsule_header_fields head) header
    read).1 ∙ plain

pub no_header : (result : Result CapsuleHeader HeaderFault) (fault : HeaderFault)
    (header : CapsuleHeader) → result ≡ Err fault → result ≡ Ok header → ⊥
no_header result fault header fails passes = cc
